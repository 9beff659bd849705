-- A client's steps are cut by how many sessions each submission has.
use Rattle.std.proofs.Common.{◌≡◌, refl, sym, ap, ◌∙◌, Bool, true, false, ℕ, zero, suc, ◌+◌, length, List, [], ◌∷◌, map, cond, arith}
use Rattle.std.specs.Prelude.{nat_le}
use Rattle.std.proofs.lemmas.Bool.Decides.{nat_tests}
use Rattle.shown_clauses.specs.meaning.Fronts.{front_from, front_of, rest_from, rest_of}
use Rattle.shown_clauses.specs.meaning.Parts.{Part, Counted, acquires, counted_from, is_acquired_by, parts_from, parts_of}
use Rattle.shown_clauses.specs.meaning.Steps.{Step}
use Rattle.shown_clauses.specs.meaning.Submissions.{Submission}

-- FRONTS ------------------------------------------------------------------------------------------

pub front_cons : {A : Type 0} (test : A → Bool) (x : A) (xs : List A) → front_of test (x ∷ xs) ≡ cond (test x) (x ∷ front_of test xs) []
front_cons test x [] = by (test x)
  where
    by : (is : Bool) → front_from test is x [] ≡ cond is (x ∷ []) []
    by true = refl
    by false = refl
front_cons test x (y ∷ ys) = by (test x)
  where
    by : (is : Bool) → front_from test is x (y ∷ ys) ≡ cond is (x ∷ front_of test (y ∷ ys)) []
    by true = refl
    by false = refl

pub rest_cons : {A : Type 0} (test : A → Bool) (x : A) (xs : List A) → rest_of test (x ∷ xs) ≡ cond (test x) (rest_of test xs) (x ∷ xs)
rest_cons test x [] = by (test x)
  where
    by : (is : Bool) → rest_from test is x [] ≡ cond is [] (x ∷ [])
    by true = refl
    by false = refl
rest_cons test x (y ∷ ys) = by (test x)
  where
    by : (is : Bool) → rest_from test is x (y ∷ ys) ≡ cond is (rest_of test (y ∷ ys)) (x ∷ y ∷ ys)
    by true = refl
    by false = refl

-- BY SESSIONS -------------------------------------------------------------------------------------

-- the steps up to the one that acquires a session behind so many, and those from it on
abbrev pub upto : ℕ → List Step → List Step
upto count [] = []
upto zero (step ∷ steps) = cond (acquires step) [] (step ∷ upto zero steps)
upto (suc count) (step ∷ steps) = step ∷ cond (acquires step) (upto count steps) (upto (suc count) steps)

abbrev pub from : ℕ → List Step → List Step
from count [] = []
from zero (step ∷ steps) = cond (acquires step) (step ∷ steps) (from zero steps)
from (suc count) (step ∷ steps) = cond (acquires step) (from count steps) (from (suc count) steps)

abbrev steps_in : List Counted → List Step
steps_in all = map (λ counted. counted.step) all

less_one : (before now limit count : ℕ) → limit ≡ before + suc count → now ≡ before + 1 → limit ≡ now + count
less_one before now limit count is next = omega (arith, is, next)

as_many : (before now limit count : ℕ) → limit ≡ before + count → now ≡ before + 0 → limit ≡ now + count
as_many before now limit count is next = omega (arith, is, next)

within : (now limit count : ℕ) → limit ≡ now + count → nat_le now limit ≡ true
within now limit count is = grind (arith, nat_tests, is)

beyond : (before now limit : ℕ) → limit ≡ before + 0 → now ≡ before + 1 → nat_le now limit ≡ false
beyond before now limit is next = grind (arith, nat_tests, is, next)

-- the steps counted up to so many sessions
front_is : (before limit count : ℕ) (steps : List Step) → limit ≡ before + count → steps_in (front_of (is_acquired_by limit) (counted_from before steps)) ≡ upto count steps
front_is before limit count [] is = refl
front_is before limit count (step ∷ steps) is =
    ap steps_in (front_cons (is_acquired_by limit) one (counted_from now steps)) ∙ by count (acquires step) refl is (λ start more next. front_is start limit more steps next)
  where
    now : ℕ
    now = before + cond (acquires step) 1 0

    one : Counted
    one = record { acquired = before + cond (acquires step) 1 0; step = step }

    later : List Counted
    later = front_of (is_acquired_by limit) (counted_from now steps)

    by : (count : ℕ) (test : Bool) → acquires step ≡ test → limit ≡ before + count
        → ((start more : ℕ) → limit ≡ start + more → steps_in (front_of (is_acquired_by limit) (counted_from start steps)) ≡ upto more steps)
        → steps_in (cond (nat_le now limit) (one ∷ later) []) ≡ upto count (step ∷ steps)
    by zero true has is rest =
        ap (λ (b : Bool). steps_in (cond b (one ∷ later) [])) (beyond before now limit is (ap (λ (b : Bool). before + cond b 1 0) has))
        ∙ sym (ap (λ (b : Bool). cond b [] (step ∷ upto zero steps)) has)
    by zero false has is rest =
        let next : limit ≡ now + 0 = as_many before now limit 0 is (ap (λ (b : Bool). before + cond b 1 0) has) in
        ap (λ (b : Bool). steps_in (cond b (one ∷ later) [])) (within now limit 0 next)
        ∙ (ap (λ (l : List Step). step ∷ l) (rest now 0 next) ∙ sym (ap (λ (b : Bool). cond b [] (step ∷ upto zero steps)) has))
    by (suc count) true has is rest =
        let next : limit ≡ now + count = less_one before now limit count is (ap (λ (b : Bool). before + cond b 1 0) has) in
        ap (λ (b : Bool). steps_in (cond b (one ∷ later) [])) (within now limit count next)
        ∙ (ap (λ (l : List Step). step ∷ l) (rest now count next) ∙ sym (ap (λ (b : Bool). step ∷ cond b (upto count steps) (upto (suc count) steps)) has))
    by (suc count) false has is rest =
        let next : limit ≡ now + suc count = as_many before now limit (suc count) is (ap (λ (b : Bool). before + cond b 1 0) has) in
        ap (λ (b : Bool). steps_in (cond b (one ∷ later) [])) (within now limit (suc count) next)
        ∙ (ap (λ (l : List Step). step ∷ l) (rest now (suc count) next) ∙ sym (ap (λ (b : Bool). step ∷ cond b (upto count steps) (upto (suc count) steps)) has))

-- and those behind them
pub rest_is : (before limit count : ℕ) (steps : List Step) → limit ≡ before + count → rest_of (is_acquired_by limit) (counted_from before steps) ≡ counted_from limit (from count steps)
rest_is before limit zero [] is = refl
rest_is before limit (suc count) [] is = refl
rest_is before limit count (step ∷ steps) is =
    rest_cons (is_acquired_by limit) (record { acquired = before + cond (acquires step) 1 0; step = step }) (counted_from now steps)
    ∙ by count (acquires step) refl is (λ start more next. rest_is start limit more steps next)
  where
    now : ℕ
    now = before + cond (acquires step) 1 0

    later : List Counted
    later = rest_of (is_acquired_by limit) (counted_from now steps)

    by : (count : ℕ) (test : Bool) → acquires step ≡ test → limit ≡ before + count
        → ((start more : ℕ) → limit ≡ start + more → rest_of (is_acquired_by limit) (counted_from start steps) ≡ counted_from limit (from more steps))
        → cond (nat_le now limit) later (counted_from before (step ∷ steps)) ≡ counted_from limit (from count (step ∷ steps))
    by zero true has is rest =
        let same : before ≡ limit = omega (arith, is) in
        ap (λ (b : Bool). cond b later (counted_from before (step ∷ steps))) (beyond before now limit is (ap (λ (b : Bool). before + cond b 1 0) has))
        ∙ (ap (λ (start : ℕ). counted_from start (step ∷ steps)) same ∙ ap (counted_from limit) (sym (ap (λ (b : Bool). cond b (step ∷ steps) (from zero steps)) has)))
    by zero false has is rest =
        let next : limit ≡ now + 0 = as_many before now limit 0 is (ap (λ (b : Bool). before + cond b 1 0) has) in
        ap (λ (b : Bool). cond b later (counted_from before (step ∷ steps))) (within now limit 0 next)
        ∙ (rest now 0 next ∙ ap (counted_from limit) (sym (ap (λ (b : Bool). cond b (step ∷ steps) (from zero steps)) has)))
    by (suc count) true has is rest =
        let next : limit ≡ now + count = less_one before now limit count is (ap (λ (b : Bool). before + cond b 1 0) has) in
        ap (λ (b : Bool). cond b later (counted_from before (step ∷ steps))) (within now limit count next)
        ∙ (rest now count next ∙ ap (counted_from limit) (sym (ap (λ (b : Bool). cond b (from count steps) (from (suc count) steps)) has)))
    by (suc count) false has is rest =
        let next : limit ≡ now + suc count = as_many before now limit (suc count) is (ap (λ (b : Bool). before + cond b 1 0) has) in
        ap (λ (b : Bool). cond b later (counted_from before (step ∷ steps))) (within now limit (suc count) next)
        ∙ (rest now (suc count) next ∙ ap (counted_from limit) (sym (ap (λ (b : Bool). cond b (from count steps) (from (suc count) steps)) has)))

-- the parts, without the count
abbrev pub cut : List Submission → List Step → List Part
cut [] steps = []
cut (one ∷ submissions) steps = record { submission = one; steps = upto (length one.copy.sessions) steps } ∷ cut submissions (from (length one.copy.sessions) steps)

cut_from : (before : ℕ) (submissions : List Submission) (steps : List Step) → parts_from before submissions (counted_from before steps) ≡ cut submissions steps
cut_from before [] steps = refl
cut_from before (one ∷ submissions) steps =
    ap (λ (rest : List Counted). record { submission = one; steps = steps_in (front_of (is_acquired_by limit) (counted_from before steps)) } ∷ parts_from limit submissions rest) (rest_is before limit (length one.copy.sessions) steps refl)
    ∙ (ap (λ (own : List Step). record { submission = one; steps = own } ∷ parts_from limit submissions (counted_from limit (from (length one.copy.sessions) steps))) (front_is before limit (length one.copy.sessions) steps refl)
    ∙ ap (λ (parts : List Part). record { submission = one; steps = upto (length one.copy.sessions) steps } ∷ parts) (cut_from limit submissions (from (length one.copy.sessions) steps)))
  where
    limit : ℕ
    limit = before + length one.copy.sessions

pub parts_cut : (submissions : List Submission) (steps : List Step) → parts_of submissions steps ≡ cut submissions steps
parts_cut submissions steps = cut_from 0 submissions steps
