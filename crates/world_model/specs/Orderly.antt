-- What of a run stands on itself.
use Rattle.world_model.specs.Traced.{Traced}
use Rattle.world_model.specs.records.Ready.{IsOfCalls}
use Rattle.world_model.specs.records.Basic.{Basic}
use Rattle.world_model.specs.records.Wire.{Wire}
use Rattle.world_model.specs.records.Hold.{Hold}
use Rattle.world_model.specs.records.Script.{Script}
use Rattle.world_model.specs.records.Number.{Number}

-- What stands on itself: it is kept with nothing of the rest, and is all that serving and sending
-- need.
pub record Orderly (t : Traced) : Type 0 where
  pub setting : IsOfCalls t.setting
  pub basic : Basic t
  pub wire : Wire t
  pub hold : Hold t
  pub script : Script t
  pub number : Number t
