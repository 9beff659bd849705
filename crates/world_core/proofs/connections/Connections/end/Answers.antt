use Rattle.world_model.specs.meaning.Links.{ends}
use Rattle.world_core.proofs.Ages.{ages_ends}
use Rattle.world_core.proofs.Standing.{stand_changed, none_changed}
use Rattle.world_core.proofs.connections.Connections.end.Goals as goal

pub returns-in-Some : goal.returns-in-Some
returns-in-Some c = stand_changed c.args.self.now c.args.number c.in-Some.at c.index_mut.result.now c.end.new.self c.in-Some.ensures c.index_mut.ensures.value (ends c.args.event) (λ link is. (ages_ends c.args.event link, c.end.ensures.link link is))

pub returns-in_default : goal.returns-in_default
returns-in_default c = none_changed c.args.self.now c.args.number (ends c.args.event) c.in_default.ensures
