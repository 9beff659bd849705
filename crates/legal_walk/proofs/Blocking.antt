-- Identifiers that are put into a set, one after the other.
use Rattle.std.proofs.Common.{◌≡◌, ℕ, ◌+◌, ◌<◌, ◌≤◌, ◌||◌, Bool, true, false, List, length, get_or, drop, refl, sym, ap, ◌∙◌}
use Rattle.std.proofs.lemmas.List.{drop_more, drop_all}
use Rattle.svc_values.specs.declared.entry.Ltxid.{Ltxid}
use Rattle.svc_values.specs.meaning.Identifiers.{same_ltxid}
use Rattle.ltxid_book.specs.meaning.Journal.{is_blocked}

or_assoc : (a b c : Bool) → (a || (b || c)) ≡ ((a || b) || c)
or_assoc true b c = refl
or_assoc false b c = refl

or_none : (a : Bool) → (a || false) ≡ a
or_none true = refl
or_none false = refl

module _ (all : List Ltxid) (i : ℕ) (x : Ltxid) where
  pub one_blocked : (d : Ltxid) → i < length all → (old new : List Ltxid) → is_blocked new x ≡ (is_blocked old x || same_ltxid (get_or all i d) x)
      → (is_blocked old x || is_blocked (drop i all) x) ≡ (is_blocked new x || is_blocked (drop (i + 1) all) x)
  one_blocked d within old new added =
      ap (λ l. is_blocked old x || is_blocked l x) (drop_more all i d within)
      ∙ or_assoc (is_blocked old x) (same_ltxid (get_or all i d) x) (is_blocked (drop (i + 1) all) x)
      ∙ ap (λ b. b || is_blocked (drop (i + 1) all) x) (sym added)

  pub all_blocked : length all ≤ i → (ids : List Ltxid) → (is_blocked ids x || is_blocked (drop i all) x) ≡ is_blocked ids x
  all_blocked over ids = ap (λ l. is_blocked ids x || is_blocked l x) (drop_all i all over) ∙ or_none (is_blocked ids x)
