-- Entries by their identifiers.
use Rattle.std.proofs.Common.{◌≡◌, suc, List, [], ◌∷◌, length, Bool, true, false, not, ◌&&◌, ◌||◌, refl, ap, ◌∙◌}
use Rattle.std.specs.List.{list_any, filter}
use Rattle.svc_values.specs.declared.entry.Ltxid.{Ltxid}
use Rattle.svc_values.specs.declared.entry.Entry.{Entry}
use Rattle.svc_values.specs.meaning.Identifiers.{same_ltxid}
use Rattle.run_clauses.specs.meaning.Tried.{holds, ids_differ}
use Rattle.run_clauses.specs.meaning.Once.{count_in, entries_differ}
use Rattle.identifier_sets.proofs.Offered.{same_symm}
use Rattle.entry_check.specs.Once.{known_in, ids_of}
use Rattle.entry_check.proofs.Counting.{known_swap}

pub holds_entry : (entries : List Entry) (x : Ltxid) → list_any (λ entry. same_ltxid x entry.ltxid) entries ≡ holds (ids_of entries) x
holds_entry [] x = refl
holds_entry (entry ∷ entries) x = ap (λ b. same_ltxid x entry.ltxid || b) (holds_entry entries x)

pub entry_holds : (entries : List Entry) (x : Ltxid) → list_any (λ entry. same_ltxid entry.ltxid x) entries ≡ holds (ids_of entries) x
entry_holds [] x = refl
entry_holds (entry ∷ entries) x =
    ap (λ b. b || list_any (λ other. same_ltxid other.ltxid x) entries) (same_symm entry.ltxid x) ∙ ap (λ b. same_ltxid x entry.ltxid || b) (entry_holds entries x)

pub differ_as_ids : (entries : List Entry) → entries_differ entries ≡ ids_differ (ids_of entries)
differ_as_ids [] = refl
differ_as_ids (entry ∷ entries) =
    ap (λ b. not b && entries_differ entries) (holds_entry entries entry.ltxid) ∙ ap (λ b. not (holds (ids_of entries) entry.ltxid) && b) (differ_as_ids entries)

count_all : (p : Ltxid → Bool) (entries : List Entry) → length (filter (λ (entry : Entry). p entry.ltxid) entries) ≡ known_in p (ids_of entries)
count_all p [] = refl
count_all p (entry ∷ entries) = by (p entry.ltxid) refl (count_all p entries)
  where
    by : (b : Bool) → p entry.ltxid ≡ b → length (filter (λ (one : Entry). p one.ltxid) entries) ≡ known_in p (ids_of entries)
        → length (filter (λ (one : Entry). p one.ltxid) (entry ∷ entries)) ≡ known_in p (ids_of (entry ∷ entries))
    by true is rest = rw is (ap (λ n. suc n) rest)
    by false is rest = rw is rest

-- so many entries have their identifiers in a list as identifiers of the list are those of entries
pub count_known : (entries : List Entry) (ids : List Ltxid) → ids_differ (ids_of entries) ≡ true → ids_differ ids ≡ true
    → count_in entries ids ≡ known_in (holds (ids_of entries)) ids
count_known entries ids one two = count_all (holds ids) entries ∙ known_swap (ids_of entries) ids one two
