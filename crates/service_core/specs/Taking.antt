-- Which session serves a connection.
use Rattle.std.specs.Prelude.{◌≡◌, ◌⊎◌, ◌+◌, ℕ, Option, Some, None, if◌then◌else◌}
use Rattle.server_session.specs.declared.shared.Core.{Core}
use Rattle.server_session.specs.SeenSession.{SeenSession as Session, is_alive}
use Rattle.service_core.specs.Held.{Held, held_at, Holds}
use Rattle.service_core.specs.Sound.{unmade}

-- the one that the connection has, of so many that were made, or the next
abbrev pub IsSessionOf : Core → Held → (made connection : ℕ) → Session → (later : ℕ) → Type 0
IsSessionOf core held made connection session later =
    ((held_at held connection ≡ Some (Some session))
    × (later ≡ made)) ⊎ ((held_at held connection ≡ Some None)
    × (session ≡ unmade core (made + 1)) × (later ≡ made + 1))

-- it was taken out of its connection, which lives on with none
pub record IsTaken (core : Core) (held : Held) (made connection : ℕ) (session : Session)
    (rest : Held) (later : ℕ) : Type 0 where
  pub session_is : IsSessionOf core held made connection session later
  pub left : Holds connection (Some None) held rest

-- what a connection holds behind a frame
abbrev pub kept_of : Session → Option (Option Session)
kept_of session = if is_alive session.life then Some (Some session) else None
