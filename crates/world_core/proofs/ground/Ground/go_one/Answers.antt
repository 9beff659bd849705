use Rattle.world_core.proofs.steps.EachClient.{beside_number, makes_number}
use Rattle.world_core.proofs.Standing.{if_ok}
use Rattle.world_core.proofs.ground.Ground.go_one.Goals as goal

pub go-requires-clause-there : goal.go-requires-clause-there
go-requires-clause-there g c = beside_number _ (λ rule. g.R.BoundRule.rules rule) (g.S.Service.sees c.args.self.now.service) c.args.scripts.now c.args.self.now.traffic c.args.clients.now.items c.args.number c.index_mut.result.now c.index-scripts-at.result c.as_slice.result.now c.requires.numbered.0 c.requires.numbered.1 c.index_mut.ensures.value c.index-scripts-at.is c.as_slice.ensures c.requires.there

pub returns-clause-made : goal.returns-clause-made
returns-clause-made g c = if_ok c.go.result (λ note makes. makes_number _ (λ rule. g.R.BoundRule.rules rule) (g.S.Service.sees c.args.self.now.service) c.args.scripts.now c.args.self.now.traffic c.args.clients.now.items c.args.number c.index_mut.result.now c.index-scripts-at.result c.as_slice.result.now c.requires.numbered.0 c.requires.numbered.1 c.index_mut.ensures.value c.index-scripts-at.is c.as_slice.ensures (g.S.Service.sees c.go.new.self.service) c.go.new.self.traffic c.go.new.client note makes) c.go.ensures.made
