-- The first that passes a test, by its place: a kept draw of one kind, and a sequence of a name.
use Rattle.std.proofs.Common.{◌≡◌, ℕ, zero, suc, ◌<◌, ◌≤◌, Bool, true, false, ◌&&◌, ◌||◌, cond, nat_lt, Bor, ℤ, List, [], ◌∷◌, length, map, get_or, set, refl, sym, ap, ◌∙◌, arith}
use Rattle.std.proofs.lemmas.Bool.{ltb-false}
use Rattle.std.proofs.lemmas.List.Quantifiers.{position-Some}
use Rattle.std.proofs.lemmas.List.Sums.{fails_before_first}
use Rattle.std.specs.Prelude.{Option, Some, None, position, remove}
use Rattle.std.specs.List.{list_any, position_or_len}
use Rattle.std.specs.Str.{bytes_eq}
use Rattle.svc_values.specs.declared.draw.Draw.{Draw}
use Rattle.mutable_values.specs.meaning.Granting.{is_kept_sequence}
use Rattle.server_model.specs.meaning.Base.{Sequence}
use Rattle.server_model.specs.meaning.Core.{sequence_at}
use Rattle.server_model.specs.meaning.NewValues.{Count, Kept, New, and_before, behind, counts_after, if_gave, Numbers, of_one_kind, origin_of, with_counts, with_first}

-- where there is no first, none passes
pub none_passes : {A : Type 0} (p : A → Bool) (xs : List A) → position p xs ≡ None → (k : ℕ) (d : A) → k < length xs → p (get_or xs k d) ≡ false
none_passes {A} p xs none k d within = fails_before_first p xs k d (let behind : length xs ≤ position_or_len p xs = past (nat_lt (position_or_len p xs) (length xs)) refl in omega (arith, behind, within))
  where
    past : (t : Bool) → nat_lt (position_or_len p xs) (length xs) ≡ t → length xs ≤ position_or_len p xs
    past false e = ltb-false _ _ e
    past true e = absurd (let some : ◌≡◌ {A = Option ℕ} None (Some (position_or_len p xs)) = sym none ∙ ap (λ t. cond t (Some (position_or_len p xs)) None) e in cc)

-- ---- kept draws

abbrev pub draws_at : List (Bor Draw) → List Draw
draws_at draws = map (λ (one : Bor Draw). one.now) draws

origin_from : (given : Draw) (draws : List (Bor Draw)) (i : ℕ) (d : Bor Draw) → i < length draws → of_one_kind (get_or draws i d).now given ≡ true → ((k : ℕ) → k < i → of_one_kind (get_or draws k d).now given ≡ false)
    → origin_of given (draws_at draws) ≡ Kept (get_or draws i d).now (draws_at (remove draws i))
origin_from given [] i d within here before = absurd (omega (arith, within))
origin_from given (one ∷ draws) zero d within here before = rw here refl
origin_from given (one ∷ draws) (suc i) d within here before =
    rw (before 0 (omega arith)) (ap (and_before one.now) (origin_from given draws i d (omega (arith, within)) here (λ k below. before (suc k) (omega (arith, below)))))

-- the first draw of the kind is where a draw comes from
pub origin_some : (given : Draw) (draws : List (Bor Draw)) (i : ℕ) (d : Bor Draw) → position (λ (one : Bor Draw). of_one_kind one.now given) draws ≡ Some i → origin_of given (draws_at draws) ≡ Kept (get_or draws i d).now (draws_at (remove draws i))
origin_some given draws i d some =
    let first = position-Some (λ (one : Bor Draw). of_one_kind one.now given) draws i d some in
    origin_from given draws i d first.0 first.1 first.2

origin_by : (given : Draw) (draws : List (Bor Draw)) → ((k : ℕ) (d : Bor Draw) → k < length draws → of_one_kind (get_or draws k d).now given ≡ false) → origin_of given (draws_at draws) ≡ New
origin_by given [] none = refl
origin_by given (one ∷ draws) none =
    rw (none 0 one (omega arith)) (ap (and_before one.now) (origin_by given draws (λ k d within. none (suc k) d (omega (arith, within)))))

-- and it is new where there is none
pub origin_none : (given : Draw) (draws : List (Bor Draw)) → position (λ (one : Bor Draw). of_one_kind one.now given) draws ≡ None → origin_of given (draws_at draws) ≡ New
origin_none given draws none = origin_by given draws (none_passes (λ (one : Bor Draw). of_one_kind one.now given) draws none)

-- ---- sequences that are kept

-- a kept sequence of the name, among those that a service begins with
pub is_kept_sequence_at : (sequences : List Sequence) (name : List ℕ) → is_kept_sequence (map sequence_at sequences) name ≡ list_any (λ (sequence : Sequence). bytes_eq sequence.name name && sequence.keep) sequences
is_kept_sequence_at [] name = refl
is_kept_sequence_at (sequence ∷ sequences) name = ap (λ b. (bytes_eq sequence.name name && sequence.keep) || b) (is_kept_sequence_at sequences name)

-- ---- sequences

-- the sequences with this one at a place
abbrev pub placed : List Count → ℕ → Option Count → Option (List Count)
placed counts i None = None
placed counts i (Some count) = Some (set counts i count)

first_placed : (count : Count) (counts : List Count) (after : Option Count) → with_first after counts ≡ placed (count ∷ counts) 0 after
first_placed count counts None = refl
first_placed count counts (Some after) = refl

later_placed : (count : Count) (counts : List Count) (i : ℕ) (after : Option Count) → behind count (placed counts i after) ≡ placed (count ∷ counts) (suc i) after
later_placed count counts i None = refl
later_placed count counts i (Some after) = refl

after_from : (counts : List Count) (name : List ℕ) (value : ℤ) (i : ℕ) (d : Count) → i < length counts → bytes_eq (get_or counts i d).name name ≡ true → ((k : ℕ) → k < i → bytes_eq (get_or counts k d).name name ≡ false)
    → counts_after counts name value ≡ placed counts i (if_gave (get_or counts i d) value)
after_from [] name value i d within here before = absurd (omega (arith, within))
after_from (count ∷ counts) name value zero d within here before = rw here (first_placed count counts (if_gave count value))
after_from (count ∷ counts) name value (suc i) d within here before =
    rw (before 0 (omega arith))
    (ap (behind count) (after_from counts name value i d (omega (arith, within)) here (λ k below. before (suc k) (omega (arith, below))))
    ∙ later_placed count counts i (if_gave (get_or counts i d) value))

-- the first sequence of the name gives the value
pub after_some : (counts : List Count) (name : List ℕ) (value : ℤ) (i : ℕ) (d : Count) → position (λ (count : Count). bytes_eq count.name name) counts ≡ Some i
    → counts_after counts name value ≡ placed counts i (if_gave (get_or counts i d) value)
after_some counts name value i d some =
    let first = position-Some (λ (count : Count). bytes_eq count.name name) counts i d some in
    after_from counts name value i d first.0 first.1 first.2

after_by : (counts : List Count) (name : List ℕ) (value : ℤ) → ((k : ℕ) (d : Count) → k < length counts → bytes_eq (get_or counts k d).name name ≡ false) → counts_after counts name value ≡ None
after_by [] name value none = refl
after_by (count ∷ counts) name value none =
    rw (none 0 count (omega arith)) (ap (behind count) (after_by counts name value (λ k d within. none (suc k) d (omega (arith, within)))))

-- and none gives it where there is none of the name
pub after_none : (counts : List Count) (name : List ℕ) (value : ℤ) → position (λ (count : Count). bytes_eq count.name name) counts ≡ None → counts_after counts name value ≡ None
after_none counts name value none = after_by counts name value (none_passes (λ (count : Count). bytes_eq count.name name) counts none)

-- the numbers after a value that the sequence at a place may have given
pub given_at : (numbers : Numbers) (name : List ℕ) (value : ℤ) (i : ℕ) (count : Count) (after : Option Count) → position (λ (one : Count). bytes_eq one.name name) numbers.counts ≡ Some i → count ≡ get_or numbers.counts i count → after ≡ if_gave count value
    → with_counts numbers (counts_after numbers.counts name value) ≡ with_counts numbers (placed numbers.counts i after)
given_at numbers name value i count after some item is =
    ap (with_counts numbers)
    (after_some numbers.counts name value i count some
    ∙ ap (λ one. placed numbers.counts i (if_gave one value)) (sym item)
    ∙ ap (placed numbers.counts i) (sym is))
