-- Draws that are kept, one after the other.
use Rattle.std.proofs.Common.{◌≡◌, ℕ, zero, suc, ◌+◌, ◌<◌, ◌≤◌, List, [], ◌∷◌, length, drop, get_or, Bool, true, false, not, cond, nat_lt, ◌&&◌, ◌||◌, refl, sym, ap, ◌∙◌, arith, add-one}
use Rattle.std.proofs.Math.Path.{fun_ext}
use Rattle.std.specs.Prelude.{Option, Some, None, is_none, position, map}
use Rattle.std.specs.List.{filter, position_or_len}
use Rattle.std.specs.Option.{option_map_or}
use Rattle.std.proofs.Math.ListN.{drop_of_length-le}
use Rattle.std.specs.Str.{bytes_eq}
use Rattle.std.proofs.lemmas.Bool.{ltb-false}
use Rattle.std.proofs.lemmas.List.{drop_more}
use Rattle.std.proofs.lemmas.List.Quantifiers.{position-Some}
use Rattle.svc_values.specs.declared.draw.Draw.{Draw}
use Rattle.svc_values.specs.declared.draw.Draw.TheVariants as draw
use Rattle.svc_values.specs.meaning.Same.{same_draw, same_draws}
use Rattle.commit_log.specs.declared.base.BaseSequence.{BaseSequence}
use Rattle.commit_log.specs.declared.journal.Journal.{Journal}
use Rattle.commit_log.specs.declared.journal.Reservation.{Reservation}
use Rattle.mutable_values.specs.meaning.Granting.{is_kept_sequence}
use Rattle.outage_schedule.specs.declared.document.Document.{Document}
use Rattle.server_model.specs.meaning.Core.{sequence_at}
use Rattle.server_model.specs.meaning.NewValues.{grants}
use Rattle.run_clauses.specs.meaning.Before.{journal_before}
use Rattle.run_clauses.specs.meaning.ServiceBase.{sequence_of, service_base}
use Rattle.entry_check.specs.declared.granting.First.{First}
use Rattle.entry_check.specs.InnerGranting.{is_kept, keeps}

-- ---- the first that passes

-- what passes is from the first that does
filter_first : {A : Type 0} (p : A → Bool) (xs : List A) (i : ℕ) (d : A) → i < length xs → p (get_or xs i d) ≡ true → ((k : ℕ) → k < i → p (get_or xs k d) ≡ false)
    → filter p xs ≡ get_or xs i d ∷ filter p (drop (suc i) xs)
filter_first p [] i d within here before = absurd (omega (arith, within))
filter_first p (x ∷ xs) zero d within here before = rw here refl
filter_first p (x ∷ xs) (suc i) d within here before =
    rw (before 0 (omega arith)) (filter_first p xs i d (omega (arith, within)) here (λ k below. before (suc k) (omega (arith, below))))

none_within : {A : Type 0} (p : A → Bool) (xs : List A) → length xs ≤ position_or_len p xs → filter p xs ≡ []
none_within p [] past = refl
none_within p (x ∷ xs) past = by (p x) refl (λ within. none_within p xs within)
  where
    by : (b : Bool) → p x ≡ b → (length xs ≤ position_or_len p xs → filter p xs ≡ []) → filter p (x ∷ xs) ≡ []
    by true is rest = absurd (let none : position_or_len p (x ∷ xs) ≡ 0 = ap (λ b. cond (not b) (1 + position_or_len p xs) 0) is in omega (arith, none, past))
    by false is rest =
        let more : position_or_len p (x ∷ xs) ≡ 1 + position_or_len p xs = ap (λ b. cond (not b) (1 + position_or_len p xs) 0) is in
        rw is (rest (omega (arith, more, past)))

-- nothing passes where there is no first
pub filter_none : {A : Type 0} (p : A → Bool) (xs : List A) → position p xs ≡ None → filter p xs ≡ []
filter_none {A} p xs none = none_within p xs (past (nat_lt (position_or_len p xs) (length xs)) refl)
  where
    past : (t : Bool) → nat_lt (position_or_len p xs) (length xs) ≡ t → length xs ≤ position_or_len p xs
    past false e = ltb-false _ _ e
    past true e = absurd (let some : ◌≡◌ {A = Option ℕ} None (Some (position_or_len p xs)) = sym none ∙ ap (λ t. cond t (Some (position_or_len p xs)) None) e in cc)

-- and something where there is one
pub filter_some : {A : Type 0} (p : A → Bool) (xs : List A) (i : ℕ) (d : A) → position p xs ≡ Some i → filter p xs ≡ get_or xs i d ∷ filter p (drop (i + 1) xs)
filter_some p xs i d some =
    let first = position-Some p xs i d some in
    filter_first p xs i d first.0 first.1 first.2 ∙ ap (λ n. get_or xs i d ∷ filter p (drop n xs)) (sym (add-one i))

-- ---- what a service keeps

kept_is : (reserved : List Reservation) (sequences : List BaseSequence) (name : List ℕ) → is_kept_sequence (map sequence_at (map (sequence_of reserved) sequences)) name ≡ is_kept sequences name
kept_is reserved [] name = refl
kept_is reserved (sequence ∷ sequences) name = ap (λ b. (bytes_eq sequence.name name && sequence.keep) || b) (kept_is reserved sequences name)

grants_here : (document : Document) (one : Draw) → grants (service_base document) one ≡ keeps document.service.keep (journal_before document).base.sequences one
grants_here document (draw.Seq name value) =
    let before : Journal = journal_before document in
    ap (λ b. document.service.keep.seq && b) (kept_is before.reserved before.base.sequences name)
grants_here document (draw.Clock tick) = refl
grants_here document (draw.Id id) = refl

pub grants_is : (document : Document) → grants (service_base document) ≡ keeps document.service.keep (journal_before document).base.sequences
grants_is document = fun_ext (grants_here document)

-- ---- a step over draws

left_kept : (k : Draw → Bool) (left : List Draw) (one : Draw) (i : ℕ) → i < length left → one ≡ get_or left i one → filter k (drop i left) ≡ cond (k one) (one ∷ filter k (drop (i + 1) left)) (filter k (drop (i + 1) left))
left_kept k left one i within is = ap (filter k) (drop_more left i one within ∙ ap (λ (d : Draw). d ∷ drop (i + 1) left) (sym is))

-- where none is left on the right
pub none_kept : (k : Draw → Bool) (left rest : List Draw) (one : Draw) (i : ℕ) → i < length left → one ≡ get_or left i one → k one ≡ true
    → filter k rest ≡ [] → same_draws (filter k (drop i left)) (filter k rest) ≡ false
none_kept k left rest one i within is kept none =
    ap (λ (more : List Draw). same_draws more (filter k rest)) (left_kept k left one i within is ∙ ap (λ b. cond b (one ∷ filter k (drop (i + 1) left)) (filter k (drop (i + 1) left))) kept)
    ∙ ap (same_draws (one ∷ filter k (drop (i + 1) left))) none

-- where one is
pub some_kept : (k : Draw → Bool) (left rest : List Draw) (one : Draw) (i : ℕ) → i < length left → one ≡ get_or left i one → k one ≡ true
    → (other : Draw) (behind : List Draw) → filter k rest ≡ other ∷ filter k behind
    → same_draws (filter k (drop i left)) (filter k rest) ≡ (same_draw one other && same_draws (filter k (drop (i + 1) left)) (filter k behind))
some_kept k left rest one i within is kept other behind some =
    ap (λ (more : List Draw). same_draws more (filter k rest)) (left_kept k left one i within is ∙ ap (λ b. cond b (one ∷ filter k (drop (i + 1) left)) (filter k (drop (i + 1) left))) kept)
    ∙ ap (same_draws (one ∷ filter k (drop (i + 1) left))) some

-- a draw that is not kept
pub not_kept : (k : Draw → Bool) (left rest : List Draw) (one : Draw) (i : ℕ) → i < length left → one ≡ get_or left i one → k one ≡ false
    → same_draws (filter k (drop i left)) (filter k rest) ≡ same_draws (filter k (drop (i + 1) left)) (filter k rest)
not_kept k left rest one i within is passed =
    ap (λ (more : List Draw). same_draws more (filter k rest)) (left_kept k left one i within is ∙ ap (λ b. cond b (one ∷ filter k (drop (i + 1) left)) (filter k (drop (i + 1) left))) passed)

-- nothing is left on the left
pub all_kept : (k : Draw → Bool) (left rest : List Draw) (i : ℕ) → length left ≤ i → (found : Option First) → filter k rest ≡ option_map_or (λ first. first.draw.now ∷ filter k first.behind.now) found []
    → is_none found ≡ same_draws (filter k (drop i left)) (filter k rest)
all_kept k left rest i past None none = sym (ap (λ (more : List Draw). same_draws (filter k more) (filter k rest)) (drop_of_length-le left past) ∙ ap (same_draws []) none)
all_kept k left rest i past (Some first) some = sym (ap (λ (more : List Draw). same_draws (filter k more) (filter k rest)) (drop_of_length-le left past) ∙ ap (same_draws []) some)
