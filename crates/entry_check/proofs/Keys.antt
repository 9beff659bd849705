-- Sessions as keys of two numbers.
use Rattle.std.proofs.Common.{◌≡◌, ℕ, List, [], ◌∷◌, map, Bool, eqb, ◌&&◌, ◌||◌, refl, ap}
use Rattle.svc_values.specs.Keys.{is_key}
use Rattle.svc_values.specs.declared.entry.Ltxid.{Ltxid}
use Rattle.svc_values.specs.meaning.Identifiers.{is_of_session}
use Rattle.run_clauses.specs.meaning.Sessions.{is_foreign}
use Rattle.entry_check.specs.Ids.{session_at}

abbrev pub same_pair : ℕ × ℕ → ℕ × ℕ → Bool
same_pair a b = eqb a.0 b.0 && eqb a.1 b.1

pub session_holds : (keys : List (ℕ × ℕ)) (x : Ltxid) → is_key same_pair keys (x.incarnation, x.session) ≡ is_foreign (map session_at keys) x
session_holds [] x = refl
session_holds (key ∷ keys) x = ap (λ b. is_of_session (session_at key) x || b) (session_holds keys x)
