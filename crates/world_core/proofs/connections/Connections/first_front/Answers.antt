use Rattle.std.proofs.Common.{◌∙◌}
use Rattle.std.specs.Prelude.{is_some}
use Rattle.world_model.specs.meaning.Serving.{front_of}
use Rattle.world_core.specs.Linked.{may_be_served}
use Rattle.world_core.proofs.Firsts.{finds_first, fronts_live}
use Rattle.world_core.proofs.Linking.{front_stands}
use Rattle.world_core.proofs.connections.Connections.first_front.Goals as goal

pub returns : goal.returns
returns c = λ links stands.
    c.find_front.ensures.found
    ∙ finds_first may_be_served (λ link. is_some (front_of link)) (λ one link is. front_stands one c.any_cut.ensures.one_answer link is) fronts_live c.args.self.now c.find_front.ensures.rising links stands
