-- The calls of a request among what a connection served, and among what was sent on it: of one
-- front, and all but one of them at least.
use Rattle.std.proofs.Common.{◌≡◌, refl, sym, ap, ◌∙◌, Bool, true, false, ℕ, zero, suc, ◌+◌, ◌≤◌, ◌&&◌, cond, length, take, List, [], ◌∷◌, ◌++◌, map, filter, Option, Some, None, if◌then◌else◌, arith}
use Rattle.std.specs.Prelude.{nat_le}
use Rattle.std.specs.List.{list_all, last_or}
use Rattle.std.specs.Option.{option_map_or}
use Rattle.std.proofs.lemmas.Bool.{and_parts, and_from}
use Rattle.std.proofs.lemmas.List.Sums.{length-filter}
use Rattle.world_model.specs.meaning.Frames.{Sent, Handled}
use Rattle.world_model.specs.meaning.Links.{Link}
use Rattle.world_model.specs.Parts.{is_rep, count_reps, served_reps}
use Rattle.world_model.specs.Sames.{owned_by, same_sent, is_front}
use Rattle.invariant_laws.specs.Shown.{is_call}
use Rattle.world_model.specs.Traced.{Course}
use Rattle.world_model.specs.records.Wire.{up_of}
use Rattle.invariant_laws.proofs.Offered.{call_answered, row_of}
use Rattle.world_model.proofs.Offered.{front_begun, last_kept, Known, rep_of, same_reps, reps_sent, le_from}
use Rattle.once_laws.proofs.calls.RanCalls.{is_mine, mine_alike}

-- LISTS -------------------------------------------------------------------------------------------

pub take_all : {A : Type 0} (test : A → Bool) (n : ℕ) (xs : List A) → list_all test xs ≡ true → list_all test (take n xs) ≡ true
take_all test zero xs all = refl
take_all test (suc n) [] all = refl
take_all test (suc n) (x ∷ xs) all = let parts = and_parts (test x) (list_all test xs) all in and_from (test x) (list_all test (take n xs)) parts.0 (take_all test n xs parts.1)

-- those before one that is pushed
pub take_before : {A : Type 0} (n : ℕ) (xs : List A) (x : A) → n ≤ length xs → take n (xs ++ x ∷ []) ≡ take n xs
take_before zero xs x few = refl
take_before (suc n) [] x few = absurd (let none : ⊥ = omega (arith, few) in none)
take_before (suc n) (y ∷ ys) x few = let less : n ≤ length ys = omega (arith, few) in ap (λ rest. y ∷ rest) (take_before n ys x less)

-- all but the last pass, and so does the last one
pub last_too : {A : Type 0} (test : A → Bool) (n : ℕ) (found : Option A) (xs : List A) (last : A) → length xs ≤ n + 1 → list_all test (take n xs) ≡ true → last_or found xs ≡ Some last → test last ≡ true → list_all test xs ≡ true
last_too test n found [] last long all is here = refl
last_too test zero found (x ∷ []) last long all is here = let same : x ≡ last = cc in and_from (test x) true (ap test same ∙ here) refl
last_too test zero found (x ∷ y ∷ xs) last long all is here = absurd (let none : ⊥ = omega (arith, long) in none)
last_too test (suc n) found (x ∷ xs) last long all is here =
    let parts = and_parts (test x) (list_all test (take n xs)) all in
    let less : length xs ≤ n + 1 = omega (arith, long) in
    and_from (test x) (list_all test xs) parts.0 (last_too test n (Some x) xs last less parts.1 is here)

-- what passes a test passes a weaker one
filter_within : {A : Type 0} (test weaker : A → Bool) (xs : List A) → ((x : A) → test x ≡ true → weaker x ≡ true) → filter test (filter weaker xs) ≡ filter test xs
filter_within test weaker [] within = refl
filter_within {A} test weaker (x ∷ xs) within = by (test x) (weaker x) refl refl (filter_within test weaker xs within)
  where
    by : (a b : Bool) → test x ≡ a → weaker x ≡ b → filter test (filter weaker xs) ≡ filter test xs → filter test (if b then x ∷ filter weaker xs else filter weaker xs) ≡ (if a then x ∷ filter test xs else filter test xs)
    by true true is so rest = ap (λ (t : Bool). if t then x ∷ filter test (filter weaker xs) else filter test (filter weaker xs)) is ∙ ap (λ (more : List A). x ∷ more) rest
    by true false is so rest = absurd (let yes_is : weaker x ≡ true = within x is in let none : ⊥ = cc in none)
    by false true is so rest = ap (λ (t : Bool). if t then x ∷ filter test (filter weaker xs) else filter test (filter weaker xs)) is ∙ rest
    by false false is so rest = rest

filter_sents : (test : Sent → Bool) (served : List Handled) → length (filter (λ one. test one.sent) served) ≡ length (filter test (map (λ one. one.sent) served))
filter_sents test [] = refl
filter_sents test (one ∷ others) = by (test one.sent) (filter_sents test others)
  where
    by : (rep : Bool) → length (filter (λ h. test h.sent) others) ≡ length (filter test (map (λ h. h.sent) others))
        → length (cond rep (one ∷ filter (λ h. test h.sent) others) (filter (λ h. test h.sent) others)) ≡ length (cond rep (one.sent ∷ filter test (map (λ h. h.sent) others)) (filter test (map (λ h. h.sent) others)))
    by true rest = let more : length (one ∷ filter (λ h. test h.sent) others) ≡ length (one.sent ∷ filter test (map (λ h. h.sent) others)) = omega (arith, rest) in more
    by false rest = rest

-- CALLS OF ONE OWNER ------------------------------------------------------------------------------

module _ (course : Course) where
  abbrev pub mine_in : Handled → Bool
  mine_in one = owned_by course.owner one.sent && is_call one.sent.frame

  mine_rep : (sent : Sent) → is_mine course sent ≡ true → is_rep sent ≡ true
  mine_rep sent is = call_answered sent.frame (and_parts (owned_by course.owner sent) (is_call sent.frame) is).1

  few_mine : (sents : List Sent) → length (filter (is_mine course) sents) ≤ length (filter is_rep sents)
  few_mine [] = let none : 0 ≤ 0 = omega arith in none
  few_mine (sent ∷ sents) = by (is_mine course sent) (is_rep sent) (mine_rep sent) (few_mine sents)
    where
      by : (mine rep : Bool) → (mine ≡ true → rep ≡ true) → length (filter (is_mine course) sents) ≤ length (filter is_rep sents)
          → length (cond mine (sent ∷ filter (is_mine course) sents) (filter (is_mine course) sents)) ≤ length (cond rep (sent ∷ filter is_rep sents) (filter is_rep sents))
      by true true within rest = let more : length (sent ∷ filter (is_mine course) sents) ≤ length (sent ∷ filter is_rep sents) = omega (arith, rest) in more
      by true false within rest = absurd (let never : false ≡ true = within refl in let none : ⊥ = cc in none)
      by false true within rest = let more : length (filter (is_mine course) sents) ≤ length (sent ∷ filter is_rep sents) = omega (arith, rest) in more
      by false false within rest = rest

  -- a front leaves as many answered frames as calls, or more
  front_mine : (xs zs : List Sent) → is_front same_sent xs zs ≡ true
      → (length (filter (is_mine course) xs) ≤ length (filter (is_mine course) zs)) × (length (filter (is_mine course) zs) + length (filter is_rep xs) ≤ length (filter (is_mine course) xs) + length (filter is_rep zs))
  front_mine [] zs front = let few = few_mine zs in (let least : 0 ≤ length (filter (is_mine course) zs) = omega arith in least, let most : length (filter (is_mine course) zs) + 0 ≤ 0 + length (filter is_rep zs) = omega (arith, few) in most)
  front_mine (x ∷ xs) [] front = absurd (let none : ⊥ = cc in none)
  front_mine (x ∷ xs) (z ∷ zs) front = by (is_mine course x) (is_mine course z) (is_rep x) (is_rep z) (mine_alike course x z parts.0) (same_reps x z parts.0) (front_mine xs zs parts.1)
    where
      parts : (same_sent x z ≡ true) × (is_front same_sent xs zs ≡ true)
      parts = and_parts (same_sent x z) (is_front same_sent xs zs) front

      by : (a b c d : Bool) → a ≡ b → c ≡ d
          → (length (filter (is_mine course) xs) ≤ length (filter (is_mine course) zs)) × (length (filter (is_mine course) zs) + length (filter is_rep xs) ≤ length (filter (is_mine course) xs) + length (filter is_rep zs))
          → (length (cond a (x ∷ filter (is_mine course) xs) (filter (is_mine course) xs)) ≤ length (cond b (z ∷ filter (is_mine course) zs) (filter (is_mine course) zs)))
          × (length (cond b (z ∷ filter (is_mine course) zs) (filter (is_mine course) zs)) + length (cond c (x ∷ filter is_rep xs) (filter is_rep xs))
          ≤ length (cond a (x ∷ filter (is_mine course) xs) (filter (is_mine course) xs)) + length (cond d (z ∷ filter is_rep zs) (filter is_rep zs)))
      by true true true true one two rest = (
        let least : length (x ∷ filter (is_mine course) xs) ≤ length (z ∷ filter (is_mine course) zs) = omega (arith, rest.0) in least,
        let most : length (z ∷ filter (is_mine course) zs) + length (x ∷ filter is_rep xs) ≤ length (x ∷ filter (is_mine course) xs) + length (z ∷ filter is_rep zs) = omega (arith, rest.1) in most,
      )
      by true true false false one two rest = (
        let least : length (x ∷ filter (is_mine course) xs) ≤ length (z ∷ filter (is_mine course) zs) = omega (arith, rest.0) in least,
        let most : length (z ∷ filter (is_mine course) zs) + length (filter is_rep xs) ≤ length (x ∷ filter (is_mine course) xs) + length (filter is_rep zs) = omega (arith, rest.1) in most,
      )
      by false false true true one two rest = (
        rest.0,
        let most : length (filter (is_mine course) zs) + length (x ∷ filter is_rep xs) ≤ length (filter (is_mine course) xs) + length (z ∷ filter is_rep zs) = omega (arith, rest.1) in most,
      )
      by false false false false one two rest = rest
      by true false c d one two rest = absurd (let none : ⊥ = cc in none)
      by false true c d one two rest = absurd (let none : ⊥ = cc in none)
      by a b true false one two rest = absurd (let none : ⊥ = cc in none)
      by a b false true one two rest = absurd (let none : ⊥ = cc in none)

  module _ (link : Link) (known : Known link) where
    abbrev row : List Sent
    row = row_of course.owner link.sent

    abbrev calls : List Handled
    calls = filter mine_in link.served

    front : is_front same_sent (map (λ one. one.sent) link.served) link.sent ≡ true
    front = front_begun same_sent (map (λ one. one.sent) link.served) (up_of link) link.sent (record { rest = link.up; whole = refl }) (and_parts (is_front same_sent (up_of link) link.sent) _ known.sent).0

    calls_long : length calls ≡ length (filter (is_mine course) (map (λ one. one.sent) link.served))
    calls_long = filter_sents (is_mine course) link.served

    -- no more are served than were sent
    pub calls_few : length calls ≤ length row
    calls_few = let least = (front_mine (map (λ one. one.sent) link.served) link.sent front).0 in omega (arith, least, calls_long)

    -- and all but one of them are
    pub calls_many : length row ≤ length calls + 1
    calls_many =
        let most = (front_mine (map (λ one. one.sent) link.served) link.sent front).1 in
        let count : length (filter is_rep link.sent) ≡ count_reps link.sent = length-filter is_rep link.sent in
        let out : count_reps link.sent ≤ length link.taken + 1 =
        le_from (count_reps link.sent) (length link.taken + 1) (and_parts (nat_le (length link.taken) (count_reps link.sent)) (nat_le (count_reps link.sent) (length link.taken + 1)) known.out).1 in
        let near : length link.taken ≤ length (served_reps link) =
        le_from (length link.taken) (length (served_reps link)) (and_parts (nat_le (length link.taken) (length (served_reps link))) (nat_le (length (served_reps link)) (length link.taken + 1)) known.near).0 in
        let same : length (served_reps link) ≡ length (filter is_rep (map (λ one. one.sent) link.served)) = reps_sent link.served in
        omega (arith, most, calls_long, count, out, near, same)

    -- the answered frame that was served last is the last of them, if it is one
    pub last_call : (one : Handled) → last_or None (served_reps link) ≡ Some one → mine_in one ≡ true → last_or None calls ≡ Some one
    last_call one is mine =
        ap (λ (all : List Handled). last_or None all) (sym (filter_within mine_in rep_of link.served (λ h here. mine_rep h.sent here)))
        ∙ (last_kept mine_in None None (served_reps link) (λ never. refl) (ap (λ (found : Option Handled). option_map_or mine_in found false) is ∙ mine) ∙ is)
