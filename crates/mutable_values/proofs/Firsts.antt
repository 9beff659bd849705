-- The first of the kept draws, and the first sequence of a name, by its place.
use Rattle.std.proofs.Common.{◌≡◌, ℕ, ◌<◌, ◌≤◌, suc, zero, Bool, true, false, cond, nat_lt, List, [], ◌∷◌, length, refl, sym, ap, ◌∙◌, arith, get_or}
use Rattle.std.proofs.lemmas.Bool.{ltb-false}
use Rattle.std.proofs.lemmas.List.Folds.{find_at}
use Rattle.std.proofs.lemmas.List.Quantifiers.{position-Some}
use Rattle.std.proofs.lemmas.Option.{slice_get_past, slice_get-get_or}
use Rattle.std.specs.Prelude.{Option, Some, None, position, remove, slice_get}
use Rattle.std.specs.List.{find, position_or_len}
use Rattle.std.specs.Str.{bytes_eq}
use Rattle.svc_values.specs.declared.draw.Draw.{Draw}
use Rattle.svc_values.specs.declared.draw.DrawKind.{DrawKind}
use Rattle.svc_values.specs.meaning.Draws.{is_of_kind}
use Rattle.mutable_values.specs.declared.source.SeqState.{SeqState}
use Rattle.mutable_values.specs.Sources.{first_kept, sequence_of, without_first}

-- a place past the end is none
past : {X : Type 0} (p : X → Bool) (xs : List X) (t : Bool) → nat_lt (position_or_len p xs) (length xs) ≡ t → position p xs ≡ None → length xs ≤ position_or_len p xs
past p xs false e none = ltb-false _ _ e
past p xs true e none = absurd (let some : ◌≡◌ {A = Option ℕ} None (Some (position_or_len p xs)) = sym none ∙ ap (λ t. cond t (Some (position_or_len p xs)) None) e in cc)

find_none : {X : Type 0} (p : X → Bool) (xs : List X) → position p xs ≡ None → find p xs ≡ None
find_none p xs none = find_at p xs ∙ slice_get_past xs (position_or_len p xs) (past p xs (nat_lt (position_or_len p xs) (length xs)) refl none)

place_is : {X : Type 0} (p : X → Bool) (xs : List X) (i : ℕ) (t : Bool) → nat_lt (position_or_len p xs) (length xs) ≡ t → position p xs ≡ Some i → position_or_len p xs ≡ i
place_is p xs i true e some = let same : Some (position_or_len p xs) ≡ Some i = ap (λ t. cond t (Some (position_or_len p xs)) None) (sym e) ∙ some in cc
place_is p xs i false e some = absurd (let none : ◌≡◌ {A = Option ℕ} None (Some i) = ap (λ t. cond t (Some (position_or_len p xs)) None) (sym e) ∙ some in cc)

find_some : {X : Type 0} (p : X → Bool) (xs : List X) (i : ℕ) (d : X) → position p xs ≡ Some i → find p xs ≡ Some (get_or xs i d)
find_some p xs i d some =
    find_at p xs ∙ ap (slice_get xs) (place_is p xs i (nat_lt (position_or_len p xs) (length xs)) refl some)
    ∙ slice_get-get_or xs i d (position-Some p xs i d some).0

first_is : (asked : DrawKind) (draws : List Draw) → first_kept asked draws ≡ find (is_of_kind asked) draws
first_is asked [] = refl
first_is asked (one ∷ rest) = ap (cond (is_of_kind asked one) (Some one)) (first_is asked rest)

sequence_is : (sequences : List SeqState) (name : List ℕ) → sequence_of sequences name ≡ find (λ sequence. bytes_eq sequence.name name) sequences
sequence_is [] name = refl
sequence_is (one ∷ rest) name = ap (cond (bytes_eq one.name name) (Some one)) (sequence_is rest name)

pub first_some : (asked : DrawKind) (draws : List Draw) (i : ℕ) (d : Draw) → position (is_of_kind asked) draws ≡ Some i → first_kept asked draws ≡ Some (get_or draws i d)
first_some asked draws i d some = first_is asked draws ∙ find_some (is_of_kind asked) draws i d some

pub first_none : (asked : DrawKind) (draws : List Draw) → position (is_of_kind asked) draws ≡ None → first_kept asked draws ≡ None
first_none asked draws none = first_is asked draws ∙ find_none (is_of_kind asked) draws none

pub sequence_some : (sequences : List SeqState) (name : List ℕ) (i : ℕ) (d : SeqState) → position (λ sequence. bytes_eq sequence.name name) sequences ≡ Some i → sequence_of sequences name ≡ Some (get_or sequences i d)
sequence_some sequences name i d some = sequence_is sequences name ∙ find_some (λ sequence. bytes_eq sequence.name name) sequences i d some

pub sequence_none : (sequences : List SeqState) (name : List ℕ) → position (λ sequence. bytes_eq sequence.name name) sequences ≡ None → sequence_of sequences name ≡ None
sequence_none sequences name none = sequence_is sequences name ∙ find_none (λ sequence. bytes_eq sequence.name name) sequences none

taken_at : (asked : DrawKind) (draws : List Draw) (i : ℕ) (d : Draw) → i < length draws → is_of_kind asked (get_or draws i d) ≡ true → ((k : ℕ) → k < i → is_of_kind asked (get_or draws k d) ≡ false)
    → without_first asked draws ≡ remove draws i
taken_at asked [] i d within here before = absurd (omega arith)
taken_at asked (one ∷ rest) zero d within here before = rw here refl
taken_at asked (one ∷ rest) (suc i) d within here before =
    rw (before 0 (omega arith)) (ap (λ l. one ∷ l) (taken_at asked rest i d (omega arith) here (λ k below. before (suc k) (omega arith))))

-- the draw at the first place of its kind is taken out
pub without_some : (asked : DrawKind) (draws : List Draw) (i : ℕ) (d : Draw) → position (is_of_kind asked) draws ≡ Some i → without_first asked draws ≡ remove draws i
without_some asked draws i d some = let at = position-Some (is_of_kind asked) draws i d some in taken_at asked draws i d at.0 at.1 at.2

without_by : (asked : DrawKind) (one : Draw) (rest : List Draw) (t : Bool) → is_of_kind asked one ≡ t → (first_kept asked rest ≡ None → without_first asked rest ≡ rest) → first_kept asked (one ∷ rest) ≡ None → without_first asked (one ∷ rest) ≡ one ∷ rest
without_by asked one rest true e more none = absurd (let some : ◌≡◌ {A = Option Draw} (Some one) None = ap (λ t. cond t (Some one) (first_kept asked rest)) (sym e) ∙ none in cc)
without_by asked one rest false e more none = rw e (ap (λ l. one ∷ l) (more (ap (λ t. cond t (Some one) (first_kept asked rest)) (sym e) ∙ none)))

-- where none is of the kind, all are left
pub without_none : (asked : DrawKind) (draws : List Draw) → first_kept asked draws ≡ None → without_first asked draws ≡ draws
without_none asked [] none = refl
without_none asked (one ∷ rest) none = without_by asked one rest (is_of_kind asked one) refl (without_none asked rest) none
