use Rattle.std.proofs.Common.{◌∙◌}
use Rattle.world_model.specs.meaning.Links.{is_orphan}
use Rattle.world_core.specs.Linked.{lives_on}
use Rattle.world_core.proofs.Firsts.{finds_first, orphans_agree, orphans_live}
use Rattle.world_core.proofs.connections.Connections.first_orphan.Goals as goal

pub returns : goal.returns
returns c = λ links stands. c.find_orphan.ensures.found ∙ finds_first lives_on is_orphan orphans_agree orphans_live c.args.self.now c.find_orphan.ensures.rising links stands
