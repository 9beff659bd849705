-- An event beside its note.
-- Here is what contracts and proofs say of it besides.
use Rattle.std.specs.Prelude.{Bool, true, false}
use Rattle.outage_schedule.specs.declared.event.Event.{Event}
use Rattle.outage_schedule.specs.declared.event.Event.TheVariants as event

-- a step of a client
abbrev pub is_go : Event → Bool
is_go (event.Go client) = true
is_go _ = false
