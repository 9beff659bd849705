use Rattle.std.proofs.Common.{◌||◌, ap, sym, ◌∙◌, List}
use Rattle.svc_values.specs.declared.entry.SessionId.{SessionId}
use Rattle.svc_values.specs.meaning.Identifiers.{is_of_session}
use Rattle.run_clauses.specs.meaning.Sessions.{is_foreign}
use Rattle.entry_check.proofs.Keys.{session_holds}
use Rattle.entry_check.proofs.outside.OutsideSessions.add.Goals as goal

pub returns : goal.returns
returns c = λ x.
    let old = c.self.inside.keys in
    sym (session_holds c.add.new.self x)
    ∙ c.in_ok-add.ensures.ok (x.incarnation, x.session)
    ∙ ap (λ b. b || is_of_session c.args.session x) (session_holds old x)
    ∙ ap (λ (sessions : List SessionId). is_foreign sessions x || is_of_session c.args.session x) c.self.view_is
