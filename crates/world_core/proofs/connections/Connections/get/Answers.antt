use Rattle.std.proofs.Common.{subst, sym, Some}
use Rattle.world_core.specs.Linked.{IsFound}
use Rattle.world_core.proofs.Standing.{found_at, connection_there, no_link}
use Rattle.world_core.proofs.connections.Connections.get.Goals as goal

pub returns-clause-exact : goal.returns-clause-exact
returns-clause-exact c = connection_there c.args.self.now.all.items c.args.number c.in_ok-at.at c.index.result.now c.in_ok-at.ensures c.index.ensures

pub returns-clause-found : goal.returns-clause-found
returns-clause-found c = λ links stands.
    let found = found_at c.args.self.now.all.items c.args.number c.in_ok-at.at c.index.result.now c.in_ok-at.ensures c.index.ensures links stands.are in
    subst (IsFound (Some c.index.result.now)) (sym found.1) found.2

pub returns-in_err-at-clause-found : goal.returns-in_err-at-clause-found
returns-in_err-at-clause-found c = λ links stands. rw (c.from_residual.ensures, no_link c.args.self.now.all.items links c.args.number c.in_err-at.ensures stands.are) tt
