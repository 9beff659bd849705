-- Identifiers as keys.
use Rattle.std.specs.Prelude.{ℕ, ◌==◌, ◌&&◌, Bool}
use Rattle.svc_values.specs.declared.entry.Ltxid.{Ltxid}

-- the identifier of three numbers
abbrev pub ltxid_at : ℕ × ℕ × ℕ → Ltxid
ltxid_at key = record { incarnation = key.0; session = key.1; number = key.2 }

-- the three numbers of an identifier
abbrev pub key_of : Ltxid → ℕ × ℕ × ℕ
key_of x = (x.incarnation, x.session, x.number)

abbrev pub same_key : ℕ × ℕ × ℕ → ℕ × ℕ × ℕ → Bool
same_key a b = (a.0 == b.0 && a.1 == b.1) && a.2 == b.2
