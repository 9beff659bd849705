-- Served items that are read one after the other.
use Rattle.std.specs.Prelude.{ℕ, ◌&&◌, Bool, true, nat_lt, List, [], ◌∷◌}
use Rattle.outage_schedule.specs.declared.item.Served.{Served}

-- each event is behind the one before
abbrev pub events_rise : ℕ → List Served → Bool
events_rise last [] = true
events_rise last (one ∷ items) = nat_lt last one.event && events_rise one.event items
