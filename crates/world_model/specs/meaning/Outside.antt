-- `tick`, `outside`, `ask` and `drain`.
use Rattle.std.specs.Prelude.{ℕ, ◌+◌, ◌==◌, ◌&&◌, not, [], ◌∷◌, length, fold, Option, Some, None, if◌then◌else◌}
use Rattle.svc_values.specs.declared.entry.Ltxid.{Ltxid}
use Rattle.svc_values.specs.declared.frame.Up.TheVariants as up
use Rattle.svc_values.specs.meaning.Identifiers.{same_ltxid}
use Rattle.pool_core.specs.meaning.Slots.{after_drain}
use Rattle.outage_schedule.specs.declared.note.AskResult.{AskResult}
use Rattle.outage_schedule.specs.declared.note.OutsideNote.{OutsideNote}
use Rattle.run_clauses.specs.meaning.Outcomes.{is_uncommitted}
use Rattle.world_model.specs.meaning.Frames.{Sent}
use Rattle.world_model.specs.meaning.Links.{changed, sends}
use Rattle.world_model.specs.meaning.Machines.{Server, Machine, next_session}
use Rattle.world_model.specs.meaning.Noting.{only_if}
use Rattle.world_model.specs.meaning.Serving.{identifier}

abbrev pub ticked : Machine → Machine
ticked m = record m { tick = m.tick + 1 }

-- An `outside` makes the next session. What it ran is the note's own matter.
abbrev pub follow_outside : Machine → Option OutsideNote → Option Machine
follow_outside m None = only_if (not m.server.is_up) m
follow_outside m (Some ran) =
    only_if (m.server.is_up && same_ltxid ran.ltxid (identifier (next_session m.server) 0))
    (record m { server = record m.server { sessions = m.server.sessions + 1 } })

-- an identifier that is answered uncommitted is blocked
abbrev pub after_asked : Server → Ltxid → AskResult → Server
after_asked server ltxid result = if is_uncommitted result then record server {
  blocked =
      ltxid ∷ server.blocked;
} else server

abbrev pub follow_ask : Machine → Ltxid → Option AskResult → Option Machine
follow_ask m ltxid None = only_if (not m.server.is_up) m
follow_ask m ltxid (Some result) = only_if m.server.is_up
    (record m { server = after_asked m.server ltxid result })

-- Close is sent on each idle connection.
abbrev pub closed_by_drain : Sent
closed_by_drain = record { owner = None; call = 0; frame = up.Close }

abbrev pub drained : Machine → Machine
drained m = record m {
  links = fold (changed (sends m.event (closed_by_drain ∷ []))) m.links
      m.pool.idle;
  pool = after_drain m.pool;
}

abbrev pub follow_drain : Machine → ℕ → Option Machine
follow_drain m closed = only_if (closed == length m.pool.idle) (drained m)
