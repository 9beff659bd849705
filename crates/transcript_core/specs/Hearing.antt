-- What a request's report is told of an input, beside the call that is shown.
use Rattle.svc_values.specs.declared.frame.Down.{Down}
use Rattle.svc_values.specs.declared.frame.Down.TheVariants as down
use Rattle.svc_values.specs.meaning.Endings.{ends_committed}
use Rattle.client_model.specs.declared.input.Input.{Input}
use Rattle.client_model.specs.declared.input.Input.TheVariants.{Lent, Took}
use Rattle.transcript_core.specs.declared.heard.Heard.{Heard}
use Rattle.transcript_core.specs.declared.heard.Heard.TheVariants as tells

-- of a frame
abbrev pub heard_in : Down → Heard
heard_in (down.Hello ltxid) = tells.Session ltxid
heard_in (down.Reply answers draws ltxid) = tells.Reply ltxid (ends_committed answers)
heard_in (down.OutcomeIs committed completed) = tells.Outcome committed completed
heard_in _ = tells.Nothing

abbrev pub heard_of : Input → Heard
heard_of (Lent connection ltxid) = tells.Session ltxid
heard_of (Took frame alive) = heard_in frame
heard_of _ = tells.Nothing
