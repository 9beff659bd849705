use Rattle.world_core.proofs.Standing.{found_at, reply_at_given, no_link, if_ok, none_there}
use Rattle.world_core.proofs.connections.Connections.take.Goals as goal

pub returns-in_default : goal.returns-in_default
returns-in_default c = λ links link there stands. none_there links c.args.number link (no_link c.args.self.now.all.items links c.args.number c.in_default.ensures stands.are) there

pub returns : goal.returns
returns c = if_ok c.take.result (λ reply gives. reply_at_given c.args.self.now c.args.number c.in-Some.at c.index_mut.result.now c.take.new.self c.in-Some.ensures c.index_mut.ensures.value reply gives) c.take.ensures

pub take-requires : goal.take-requires
take-requires c =
    let found = found_at c.args.self.now.all.items c.args.number c.in-Some.at c.index_mut.result.now c.in-Some.ensures c.index_mut.ensures.value c.requires.0 c.requires.1.are in
    (found.0, found.2)
