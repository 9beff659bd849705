-- Identifiers as keys of a set.
use Rattle.std.proofs.Common.{◌≡◌, ℕ, List, [], ◌∷◌, map, ◌||◌, refl, sym, ap, ◌∙◌}
use Rattle.std.specs.Bool.{Decides, one_answer}
use Rattle.svc_values.specs.Keys.{is_key}
use Rattle.svc_values.specs.declared.entry.Ltxid.{Ltxid}
use Rattle.svc_values.specs.meaning.Identifiers.{same_ltxid}
use Rattle.svc_values.specs.SameLaws.{same_ltxid_decides}
use Rattle.ltxid_book.specs.meaning.Journal.{is_blocked}
use Rattle.run_clauses.specs.meaning.Tried.{holds}
use Rattle.identifier_sets.specs.Keys.{key_of, ltxid_at, same_key}

flipped : (x y : Ltxid) → Decides (same_ltxid y x) (x ≡ y)
flipped x y = let d = same_ltxid_decides y x in (λ h. sym (d.0 h), λ e. d.1 (sym e))

pub same_symm : (x y : Ltxid) → same_ltxid x y ≡ same_ltxid y x
same_symm x y = one_answer (same_ltxid x y) (same_ltxid y x) (same_ltxid_decides x y) (flipped x y)

pub key_holds : (keys : List (ℕ × ℕ × ℕ)) (x : Ltxid) → is_key same_key keys (key_of x) ≡ holds (map ltxid_at keys) x
key_holds [] x = refl
key_holds (key ∷ keys) x = ap (λ b. same_ltxid x (ltxid_at key) || b) (key_holds keys x)

-- it is blocked where it is among them
pub held_blocked : (ids : List Ltxid) (x : Ltxid) → holds ids x ≡ is_blocked ids x
held_blocked [] x = refl
held_blocked (y ∷ ids) x =
    ap (λ b. b || holds ids x) (same_symm x y)
    ∙ ap (λ b. same_ltxid y x || b) (held_blocked ids x)
