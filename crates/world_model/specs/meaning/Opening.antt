-- `up` and `upcrash`: the store is opened, or its opening is stopped.
use Rattle.std.specs.Prelude.{ℕ, ◌+◌, ◌&&◌, Bool, true, not, nat_le, Option, Some, None, if◌then◌else◌}
use Rattle.svc_values.specs.meaning.Same.{same_bool}
use Rattle.world_model.specs.meaning.Machines.{Server, Machine}
use Rattle.world_model.specs.meaning.Noting.{only_if}

-- One more than that of the last opening, and more by at most the number of openings that were
-- stopped since.
abbrev pub may_open : Server → ℕ → Bool
may_open server incarnation = nat_le (server.incarnation + 1) incarnation
    && nat_le incarnation (server.incarnation + 1 + server.stopped)

abbrev pub opened : Server → ℕ → Server
opened server incarnation = record server {
  is_up = true;
  incarnation = incarnation;
  stopped =
      0;
  sessions = 0;
}

abbrev pub follow_up : Machine → Option ℕ → Option Machine
follow_up m None = only_if m.server.is_up m
follow_up m (Some incarnation) = only_if (not m.server.is_up && may_open m.server incarnation)
    (record m { server = opened m.server incarnation })

abbrev pub follow_upcrash : Machine → Bool → Option Machine
follow_upcrash m made =
    only_if (same_bool made (not m.server.is_up))
    (if made then record m { server = record m.server { stopped = m.server.stopped + 1 } } else
    m)
