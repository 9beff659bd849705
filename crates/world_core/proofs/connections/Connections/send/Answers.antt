use Rattle.world_model.specs.meaning.Links.{sends}
use Rattle.world_core.proofs.Ages.{ages_sends}
use Rattle.world_core.proofs.Standing.{stand_changed, none_changed, sends_open, sends_none, on_ok}
use Rattle.world_core.proofs.Places.{connection_other}
use Rattle.world_core.proofs.connections.Connections.send.Goals as goal

pub returns-in_default-clause-sent : goal.returns-in_default-clause-sent
returns-in_default-clause-sent c = λ links sent same stands. none_changed c.args.self.now c.args.number (sends c.args.event sent) c.in_default.ensures links stands

pub send-requires-clause-open_for : goal.send-requires-clause-open_for
send-requires-clause-open_for c = sends_open c.args.self.now.all.items c.args.number c.in-Some.at c.index_mut.result.now c.args.frames.now c.in-Some.ensures c.index_mut.ensures.value c.requires.may

pub returns-clause-sent : goal.returns-clause-sent
returns-clause-sent c =
    let may = sends_open c.args.self.now.all.items c.args.number c.in-Some.at c.index_mut.result.now c.args.frames.now c.in-Some.ensures c.index_mut.ensures.value c.requires.may in
    on_ok c.send.result
    (λ sending links sent same stands. stand_changed c.args.self.now c.args.number c.in-Some.at c.index_mut.result.now c.send.new.self c.in-Some.ensures c.index_mut.ensures.value (sends c.args.event sent)
    (λ link is. (ages_sends c.args.event sent link (sends_none c.index_mut.result.now link sent c.args.frames.now same may is), sending link sent same is)) links stands)
    c.send.ensures

pub returns-clause-others : goal.returns-clause-others
returns-clause-others c = λ other apart. connection_other c.args.self.now.all.items c.args.number c.in-Some.at other c.send.new.self c.in-Some.ensures.0 apart
