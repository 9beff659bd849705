use Rattle.world_core.proofs.steps.EachClient.{stay_each}
use Rattle.world_core.proofs.clients.clients_stay.Goals as goal

pub returns : goal.returns
returns g c = stay_each _ (λ rule. g.R.BoundRule.rules rule) c.stays_past.ensures
