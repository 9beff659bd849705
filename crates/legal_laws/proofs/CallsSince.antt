-- The calls since the last that was decided are those from its index on.
use Rattle.std.proofs.Common.{◌≡◌, refl, sym, ap, ◌∙◌, append_assoc, append-nil, Bool, true, false, ℕ, zero, suc, ◌+◌, cond, length, List, [], ◌∷◌, ◌++◌, reverse, arith}
use Rattle.std.specs.Prelude.{drop, slice_get}
use Rattle.std.proofs.lemmas.List.{length_push, length-reverse, reverse-append}
use Rattle.outage_schedule.specs.declared.request.ShownCall.{ShownCall}
use Rattle.shown_clauses.specs.meaning.KeptDraws.{if_decided, shown_since}
use Rattle.shown_clauses.specs.meaning.Turns.{ends_decided}
use Rattle.world_model.specs.records.Script.{behind_decided, recorded_from}

-- further on by so many
shifted : (by found index : ℕ) (shown : List ShownCall) → behind_decided (by + found) (by + index) shown ≡ by + behind_decided found index shown
shifted by found index [] = refl
shifted by found index (one ∷ shown) = cases (ends_decided one.answers) (λ next. shifted by next (index + 1) shown)
  where
    cases : (test : Bool) → ((next : ℕ) → behind_decided (by + next) (by + (index + 1)) shown ≡ by + behind_decided next (index + 1) shown)
        → behind_decided (cond test ((by + index) + 1) (by + found)) ((by + index) + 1) shown ≡ by + behind_decided (cond test (index + 1) found) (index + 1) shown
    cases true again =
        let one_on : (by + index) + 1 ≡ by + (index + 1) = omega arith in
        ap (λ (n : ℕ). behind_decided n n shown) one_on ∙ again (index + 1)
    cases false again =
        let one_on : (by + index) + 1 ≡ by + (index + 1) = omega arith in
        ap (λ (n : ℕ). behind_decided (by + found) n shown) one_on ∙ again found

drop_all : {A : Type 0} (xs ys : List A) (more : ℕ) → drop (length xs + more) (xs ++ ys) ≡ drop more ys
drop_all [] ys more = let same : 0 + more ≡ more = omega arith in ap (λ (n : ℕ). drop n ys) same
drop_all (x ∷ xs) ys more = let same : suc (length xs) + more ≡ suc (length xs + more) = omega arith in ap (λ (n : ℕ). drop n (x ∷ (xs ++ ys))) same ∙ drop_all xs ys more

since_is : (shown since more : List ShownCall) → shown_since (length shown) since (shown ++ more) ≡ drop (behind_decided 0 (length since) shown) (reverse since ++ shown)
since_is [] since more = sym (append-nil (reverse since))
since_is (one ∷ shown) since more = by (ends_decided one.answers) (λ others. since_is shown others more)
  where
    by : (test : Bool) → ((others : List ShownCall) → shown_since (length shown) others (shown ++ more) ≡ drop (behind_decided 0 (length others) shown) (reverse others ++ shown))
        → shown_since (length shown) (if_decided test one since) (shown ++ more) ≡ drop (behind_decided (cond test (length since + 1) 0) (length since + 1) shown) (reverse since ++ one ∷ shown)
    by true again =
        let front : List ShownCall = reverse since ++ one ∷ [] in
        let long : length (reverse since ++ one ∷ []) ≡ length since + 1 = length_push (reverse since) one ∙ ap (λ (n : ℕ). n + 1) (length-reverse since) in
        again []
        ∙ sym (drop_all (reverse since ++ one ∷ []) shown (behind_decided 0 0 shown))
        ∙ ap (λ (n : ℕ). drop n ((reverse since ++ one ∷ []) ++ shown)) (ap (λ (n : ℕ). n + behind_decided 0 0 shown) long ∙ sym (shifted (length since + 1) 0 0 shown))
        ∙ ap (λ (n : ℕ). drop (behind_decided n n shown) ((reverse since ++ one ∷ []) ++ shown)) (let same : (length since + 1) + 0 ≡ length since + 1 = omega arith in same)
        ∙ ap (drop (behind_decided (length since + 1) (length since + 1) shown)) (append_assoc (reverse since) (one ∷ []) shown)
    by false again =
        again (one ∷ since)
        ∙ ap (λ (n : ℕ). drop (behind_decided 0 n shown) (reverse (one ∷ since) ++ shown)) (let same : suc (length since) ≡ length since + 1 = omega arith in same)
        ∙ ap (λ (front : List ShownCall). drop (behind_decided 0 (length since + 1) shown) (front ++ shown)) (reverse-append (one ∷ []) since)
        ∙ ap (drop (behind_decided 0 (length since + 1) shown)) (append_assoc (reverse since) (one ∷ []) shown)

get_dropped : {A : Type 0} (xs : List A) (from place : ℕ) → slice_get (drop from xs) place ≡ slice_get xs (from + place)
get_dropped xs zero place = let same : place ≡ 0 + place = omega arith in ap (slice_get xs) same
get_dropped [] (suc from) place = refl
get_dropped (x ∷ xs) (suc from) place = let same : suc (from + place) ≡ suc from + place = omega arith in get_dropped xs from place ∙ ap (slice_get (x ∷ xs)) same

-- The call of a place behind the last that was decided, of those that were shown first.
pub since_place : (shown more : List ShownCall) (place : ℕ) → slice_get (shown_since (length shown) [] (shown ++ more)) place ≡ slice_get shown (recorded_from shown + place)
since_place shown more place = ap (λ (calls : List ShownCall). slice_get calls place) (since_is shown [] more) ∙ get_dropped shown (recorded_from shown) place
