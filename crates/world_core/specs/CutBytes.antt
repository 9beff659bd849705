-- What a cut leaves of the bytes on their way.
use Rattle.std.specs.Prelude.{◌≡◌, ℕ, List, take, Some, None}
use Rattle.outage_schedule.specs.declared.event.Event.{Event}
use Rattle.outage_schedule.specs.declared.event.Event.TheVariants as event
use Rattle.world_core.specs.declared.connection.Connection.{Connection}
use Rattle.world_core.specs.declared.traffic.Traffic.{Traffic}
use Rattle.world_core.specs.Linked.{connection_at}

-- the first so many of the bytes on their way each way are left
pub record KeepsFirst (up down : ℕ) (held later : Connection) : Type 0 where
  pub up_bytes : later.up.bytes ≡ take up held.up.bytes
  pub down_bytes : later.down.bytes ≡ take down held.down.bytes

-- on the connection of this number, if it was open
abbrev pub KeepsFirstAt : ℕ → ℕ → ℕ → List Connection → List Connection → Type 0
KeepsFirstAt number up down before after =
    (held : Connection) → connection_at before number ≡ Some held → held.ended ≡ None
    → (later : Connection) × ((connection_at after number ≡ Some later)
    × KeepsFirst up down held later)

-- no other event cuts one
abbrev pub CutsFirst : Event → Traffic → Traffic → Type 0
CutsFirst (event.Cut number up down) before after =
    KeepsFirstAt number up down before.connections.all.items after.connections.all.items
CutsFirst _ before after = Unit {0}
