use Rattle.std.proofs.lemmas.Result.{err_from_is_err_and}
use Rattle.server_session.proofs.Frames.{outcome_told, outcome_fault}
use Rattle.server_session.proofs.session.Session.outcome.Goals as goal

pub returns-in_err-verdict : goal.returns-in_err-verdict
returns-in_err-verdict g c now =
    let state = g.D.Disk.state in
    let p = err_from_is_err_and c.from_residual.result c.from_residual.ensures.1 in
    rw (p.1, p.2) (outcome_fault c.args.x.now now _ c.args.self.now c.args.core.now (state c.args.disk.now) c.tell_outcome.new.core (state c.tell_outcome.new.disk) c.requires.serving c.in_err-verdict.ensures)

pub returns : goal.returns
returns g c now =
    let state = g.D.Disk.state in
    outcome_told c.args.x.now now c.in_ok-verdict.verdict c.down_of.result c.args.self.now c.args.core.now (state c.args.disk.now) c.tell_outcome.new.core (state c.tell_outcome.new.disk) c.requires.serving c.requires.belongs c.down_of.ensures c.in_ok-verdict.ensures
