-- What a request that lost a connection is to ask for.
use Rattle.std.specs.Prelude.{ℕ, Option, Some, None, option_map}
use Rattle.svc_values.specs.declared.entry.Ltxid.{Ltxid}
use Rattle.client_model.specs.meaning.States.{Losing}
use Rattle.client_model.specs.meaning.Terms.{Phase, Seeking, Greeting, Asked}

-- the identifier, and the event of its loss
pub record Wanted : Type 0 where
  pub ltxid : Ltxid
  pub event : ℕ

abbrev pub wanted_by : Losing → Wanted
wanted_by lost = record { ltxid = lost.ltxid; event = lost.event }

abbrev pub wanted_in : Phase → Option Wanted
wanted_in (Seeking lost) = option_map wanted_by lost
wanted_in (Greeting lost) = option_map wanted_by lost
wanted_in (Asked asking) = Some (record { ltxid = asking.ltxid; event = asking.event })
wanted_in _ = None
