use Rattle.std.proofs.Common.{ap, ◌∙◌, List}
use Rattle.svc_values.specs.declared.entry.SessionId.{SessionId}
use Rattle.run_clauses.specs.meaning.Sessions.{is_foreign}
use Rattle.entry_check.proofs.Keys.{session_holds}
use Rattle.entry_check.proofs.outside.OutsideSessions.has_session_of.Goals as goal

pub returns : goal.returns
returns c =
    let x = c.args.ltxid.now in
    c.has.ensures ∙ session_holds c.self.inside.keys x ∙ ap (λ (sessions : List SessionId). is_foreign sessions x) c.self.view_is
