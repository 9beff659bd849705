-- Identifiers with their places, one more or one less.
use Rattle.std.proofs.Common.{◌≡◌, ℕ, ◌+◌, ◌<◌, List, [], ◌∷◌, ◌++◌, length, ◌||◌, sym, ap, ◌∙◌, take, drop, get_or}
use Rattle.std.proofs.lemmas.List.{drop_more, take_more, map-append}
use Rattle.svc_values.specs.declared.entry.Ltxid.{Ltxid}
use Rattle.entry_check.specs.declared.gather.IdAt.{IdAt}
use Rattle.svc_values.specs.meaning.Identifiers.{same_ltxid}
use Rattle.run_clauses.specs.meaning.Tried.{holds}
use Rattle.entry_check.specs.Ids.{ids_in}
use Rattle.entry_check.proofs.Sets.{holds-push}

pub first_left : (all : List IdAt) (i : ℕ) (d : IdAt) → i < length all → ids_in (drop i all) ≡ (get_or all i d).ltxid ∷ ids_in (drop (i + 1) all)
first_left all i d within = ap ids_in (drop_more all i d within)

pub ids_more : (all : List IdAt) (i : ℕ) (d : IdAt) → i < length all → ids_in (take (i + 1) all) ≡ ids_in (take i all) ++ (get_or all i d).ltxid ∷ []
ids_more all i d within = ap ids_in (take_more all i d within) ∙ map-append _ (take i all) (get_or all i d ∷ [])

-- one identifier more in a set
pub met_more : (all : List IdAt) (i : ℕ) (d : IdAt) (old new : List Ltxid) → i < length all → ((x : Ltxid) → holds new x ≡ (holds old x || same_ltxid x (get_or all i d).ltxid))
    → ((x : Ltxid) → holds old x ≡ holds (ids_in (take i all)) x) → (x : Ltxid) → holds new x ≡ holds (ids_in (take (i + 1) all)) x
met_more all i d old new within added met x =
    let y = (get_or all i d).ltxid in
    added x
    ∙ ap (λ b. b || same_ltxid x y) (met x)
    ∙ sym (ap (λ (ids : List Ltxid). holds ids x) (ids_more all i d within) ∙ holds-push (ids_in (take i all)) y x)
