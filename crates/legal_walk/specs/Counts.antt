-- Entries, counted by session.
use Rattle.std.specs.Prelude.{ℕ, ◌==◌, ◌&&◌, Bool, List, unwrap_or}
use Rattle.svc_values.specs.Keys.{value_of}
use Rattle.svc_values.specs.declared.entry.SessionId.{SessionId}

-- the two numbers of a session
abbrev pub key_of : SessionId → ℕ × ℕ
key_of session = (session.incarnation, session.session)

abbrev pub same_key : ℕ × ℕ → ℕ × ℕ → Bool
same_key a b = (a.0 == b.0) && (a.1 == b.1)

-- how many entries are counted of a session
abbrev pub counted : List ((ℕ × ℕ) × ℕ) → SessionId → ℕ
counted counts session = unwrap_or (value_of same_key counts (key_of session)) 0
