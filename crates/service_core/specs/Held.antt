-- The connections that a service holds, each with its session once a frame was served on it.
use Rattle.std.specs.Prelude.{◌≡◌, ℕ, List, Option, nat_eq, option_map, if◌then◌else◌}
use Rattle.std.specs.Map.{lookup}
use Rattle.svc_values.specs.declared.entry.SessionId.{SessionId}
use Rattle.svc_values.specs.meaning.Identifiers.{session_of}
use Rattle.server_model.specs.Seen.{Connections as Living}
use Rattle.server_session.specs.SeenSession.{SeenSession as Session}

-- each once, by its number
abbrev pub Held : Type 0
Held = List (ℕ × Option Session)

-- the connection of this number, if it lives
abbrev pub held_at : Held → ℕ → Option (Option Session)
held_at held connection = lookup (nat_eq connection) held

-- one connection stands so, or is none, and the others as they stood
abbrev pub Holds : ℕ → Option (Option Session) → Held → Held → Type 0
Holds connection one old new = (other : ℕ)
    → held_at new other ≡ (if nat_eq connection other then one else held_at old other)

-- the session that a connection has
abbrev pub id_of : Session → SessionId
id_of session = session_of session.ltxid

-- what is shown of a connection
abbrev pub shown : Option (Option Session) → Option (Option SessionId)
shown one = option_map (option_map id_of) one

abbrev pub living_of : Held → Living
living_of held connection = shown (held_at held connection)
