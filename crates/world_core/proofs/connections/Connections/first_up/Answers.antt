use Rattle.std.proofs.Common.{refl}
use Rattle.world_core.proofs.Standing.{found_at, front_at_given, no_link, if_ok}
use Rattle.world_core.proofs.connections.Connections.first_up.Goals as goal

pub returns-in_default : goal.returns-in_default
returns-in_default c = λ links stands. rw (no_link c.args.self.now.all.items links c.args.number c.in_default.ensures stands.are) (refl, stands)

pub returns : goal.returns
returns c = if_ok c.first_up.result (λ frame gives. front_at_given c.args.self.now c.args.number c.in-Some.at c.index_mut.result.now c.first_up.new.self c.in-Some.ensures c.index_mut.ensures.value frame gives) c.first_up.ensures

pub first_up-requires : goal.first_up-requires
first_up-requires c =
    let found = found_at c.args.self.now.all.items c.args.number c.in-Some.at c.index_mut.result.now c.in-Some.ensures c.index_mut.ensures.value c.requires.0 c.requires.1.are in
    (found.0, found.2)
