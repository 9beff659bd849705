use Rattle.std.proofs.Common.{ap, ◌∙◌}
use Rattle.calls_again.specs.OnWay.{probed}
use Rattle.legal_walk.specs.declared.ongoing.Ongoing.{Ongoing}
use Rattle.legal_walk.proofs.Keyed.{going_found}
use Rattle.legal_walk.proofs.sessions.Sessions.probe.Goals as goal

pub returns-in_ok-probe-in-Some : goal.returns-in_ok-probe-in-Some
returns-in_ok-probe-in-Some c =
    c.in_ok-probe-in-Some.ensures
    ∙ ap (λ (one : Ongoing). probed one.going) (going_found c.self.inside.ongoings.entries c.args.self.now c.self.view_is c.args.session.now c.key_of.result c.key_of.ensures c.in-Some.ongoing.now c.in-Some.ensures.value)
