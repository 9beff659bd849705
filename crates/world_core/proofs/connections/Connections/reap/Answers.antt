use Rattle.std.proofs.Common.{refl, sym, ◌∙◌}
use Rattle.world_core.proofs.Standing.{orphan_at, stand_reaped, no_link}
use Rattle.world_core.proofs.connections.Connections.reap.Goals as goal

pub returns-in_default : goal.returns-in_default
returns-in_default c = λ links stands. (rw (no_link c.args.self.now.all.items links c.args.number c.in_default.ensures stands.are) refl, stands)

pub returns-then-not-is_orphan : goal.returns-then-not-is_orphan
returns-then-not-is_orphan c = λ links stands. (sym c.if-not-is_orphan.true ∙ orphan_at c.args.self.now.all.items c.args.number c.in-Some.at c.index.result.now c.is_orphan.result c.in-Some.ensures c.index.ensures c.is_orphan.ensures.link links stands.are, stands)

pub returns : goal.returns
returns c = λ links stands. (
  sym c.if-not-is_orphan.false ∙ orphan_at c.args.self.now.all.items c.args.number c.in-Some.at c.index.result.now c.is_orphan.result c.in-Some.ensures c.index.ensures c.is_orphan.ensures.link links stands.are,
  stand_reaped c.args.self.now c.args.number c.in-Some.at c.index_mut.result.now c.reap.new.self c.in-Some.ensures c.index_mut.ensures.value c.remove.new.self c.remove.ensures.updates c.reap.ensures links stands,
)
