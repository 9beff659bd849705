-- The identifiers that one transaction tried, and each transaction, with one call more.
use Rattle.std.proofs.Common.{◌≡◌, ℕ, zero, suc, ◌+◌, ◌<◌, ◌≤◌, Bool, true, false, not, ◌&&◌, ◌||◌, List, [], ◌∷◌, ◌++◌, length, get_or, map, fold, refl, sym, ap, ap₂, ◌∙◌, arith}
use Rattle.std.specs.Prelude.{slice_set, ◌==◌, filter, if◌then◌else◌, cond}
use Rattle.std.specs.List.{list_any}
use Rattle.std.proofs.lemmas.Bool.{eq-eqb, ne_eqb}
use Rattle.std.proofs.lemmas.Bool.Decides.{nat_tests}
use Rattle.std.proofs.lemmas.List.{append-nil}
use Rattle.std.proofs.lemmas.List.Elements.{filter-append}
use Rattle.svc_values.specs.declared.entry.Ltxid.{Ltxid}
use Rattle.svc_values.specs.meaning.Identifiers.{same_ltxid}
use Rattle.client_model.specs.meaning.Tried.{Sending, is_try, each_once, tried_in, tried_upto}
use Rattle.transcript_core.specs.Attempts.{put_once}

-- EACH ONCE ---------------------------------------------------------------------------------------

same_parts : (x y : Ltxid) → x.incarnation ≡ y.incarnation → x.session ≡ y.session → x.number ≡ y.number → x ≡ y
same_parts x y a b c = λ i. record { incarnation = a i; session = b i; number = c i }

one_same : (x y : Ltxid) → same_ltxid x y ≡ true → x ≡ y
one_same x y same = same_parts x y (grind (arith, nat_tests)) (grind (arith, nat_tests)) (grind (arith, nat_tests))

same_back : (x y : Ltxid) → same_ltxid x y ≡ same_ltxid y x
same_back x y = grind (arith, nat_tests)

-- others are found behind a filter as before it
any_left : (found : List Ltxid) (x y : Ltxid) → same_ltxid y x ≡ false → list_any (λ other. same_ltxid other x) (filter (λ other. not (same_ltxid other y)) found) ≡ list_any (λ other. same_ltxid other x) found
any_left [] x y apart = refl
any_left (one ∷ found) x y apart = by (same_ltxid one y) refl (any_left found x y apart)
  where
    by : (b : Bool) → same_ltxid one y ≡ b → list_any (λ other. same_ltxid other x) (filter (λ other. not (same_ltxid other y)) found) ≡ list_any (λ other. same_ltxid other x) found
        → list_any (λ other. same_ltxid other x) (cond (not b) (one ∷ filter (λ other. not (same_ltxid other y)) found) (filter (λ other. not (same_ltxid other y)) found)) ≡ (same_ltxid one x || list_any (λ other. same_ltxid other x) found)
    by false e later = ap (λ b. same_ltxid one x || b) later
    by true e later = later ∙ ap (λ b. b || list_any (λ other. same_ltxid other x) found) (sym (ap (λ z. same_ltxid z x) (one_same one y e) ∙ apart))

swapped : (found : List Ltxid) (x y : Ltxid) → each_once (put_once found x) y ≡ put_once (each_once found y) x
swapped found x y = by (same_ltxid y x) refl (list_any (λ other. same_ltxid other x) found) refl
  where
    left : List Ltxid
    left = filter (λ other. not (same_ltxid other y)) found

    by : (same : Bool) → same_ltxid y x ≡ same → (among : Bool) → list_any (λ other. same_ltxid other x) found ≡ among
        → (y ∷ filter (λ other. not (same_ltxid other y)) (if among then found else found ++ x ∷ [])) ≡ (if same_ltxid y x || list_any (λ other. same_ltxid other x) (filter (λ other. not (same_ltxid other y)) found) then y ∷ filter (λ other. not (same_ltxid other y)) found else (y ∷ filter (λ other. not (same_ltxid other y)) found) ++ x ∷ [])
    by true e true a = rw e refl
    by true e false a = rw (e, filter-append (λ other. not (same_ltxid other y)) found (x ∷ []), same_back x y, e) (ap (λ (l : List Ltxid). y ∷ l) (append-nil (filter (λ other. not (same_ltxid other y)) found)))
    by false e true a = rw (e, any_left found x y e, a) refl
    by false e false a = rw (e, any_left found x y e, a, filter-append (λ other. not (same_ltxid other y)) found (x ∷ []), same_back x y, e) refl

put_first : (ids found : List Ltxid) (x : Ltxid) → fold each_once (put_once found x) ids ≡ put_once (fold each_once found ids) x
put_first [] found x = refl
put_first (y ∷ ids) found x = ap (λ (f : List Ltxid). fold each_once f ids) (swapped found x y) ∙ put_first ids (each_once found y) x

-- IN ONE TRANSACTION ------------------------------------------------------------------------------

-- one call more
pub more_in : (transaction : ℕ) (sending : Sending) (earlier : List Sending) (b : Bool) → (is_try sending && (sending.transaction == transaction)) ≡ b
    → tried_in transaction (sending ∷ earlier) ≡ (if b then put_once (tried_in transaction earlier) sending.ltxid else tried_in transaction earlier)
more_in transaction sending earlier true e = rw e (put_first (map (λ (s : Sending). s.ltxid) (filter (λ s. is_try s && (s.transaction == transaction)) earlier)) [] sending.ltxid)
more_in transaction sending earlier false e = rw e refl

pub past_one : (transaction : ℕ) (sending : Sending) → (sending.transaction ≡ transaction → ⊥) → (is_try sending && (sending.transaction == transaction)) ≡ false
past_one transaction sending apart = rw (ne_eqb sending.transaction transaction apart) (never (is_try sending))
  where
    never : (b : Bool) → (b && false) ≡ false
    never true = refl
    never false = refl

pub no_try : (transaction : ℕ) (sending : Sending) → is_try sending ≡ false → (is_try sending && (sending.transaction == transaction)) ≡ false
no_try transaction sending e = rw e refl

pub here : (transaction : ℕ) (sending : Sending) → is_try sending ≡ true → sending.transaction ≡ transaction → (is_try sending && (sending.transaction == transaction)) ≡ true
here transaction sending e same = rw (e, eq-eqb sending.transaction transaction same) refl

-- IN ALL TRANSACTIONS -----------------------------------------------------------------------------

pub length_upto : (left from : ℕ) (sendings : List Sending) → length (tried_upto left from sendings) ≡ left
length_upto zero from sendings = refl
length_upto (suc left) from sendings = ap suc (length_upto left (suc from) sendings)

-- one transaction more
upto_more : (left from : ℕ) (sendings : List Sending) → tried_upto (suc left) from sendings ≡ tried_upto left from sendings ++ tried_in (from + left) sendings ∷ []
upto_more zero from sendings = ap (λ (n : ℕ). tried_in n sendings ∷ []) (none_more from)
  where
    none_more : (n : ℕ) → n ≡ n + 0
    none_more n = omega arith
upto_more (suc left) from sendings = ap (λ (l : List (List Ltxid)). tried_in from sendings ∷ l) (upto_more left (suc from) sendings ∙ ap (λ (n : ℕ). tried_upto left (suc from) sendings ++ tried_in n sendings ∷ []) (moved from left))
  where
    moved : (n m : ℕ) → suc n + m ≡ n + suc m
    moved n m = omega arith

pub upto_first : (left : ℕ) (sendings : List Sending) → tried_upto (suc left) 0 sendings ≡ tried_upto left 0 sendings ++ tried_in left sendings ∷ []
upto_first left sendings = let none : 0 + left ≡ left = omega arith in upto_more left 0 sendings ∙ ap (λ (n : ℕ). tried_upto left 0 sendings ++ tried_in n sendings ∷ []) none

-- those behind stay as they were
pub upto_before : (left from : ℕ) (sending : Sending) (earlier : List Sending) → sending.transaction < from → tried_upto left from (sending ∷ earlier) ≡ tried_upto left from earlier
upto_before zero from sending earlier below = refl
upto_before (suc left) from sending earlier below =
    ap₂ (λ (a : List Ltxid) (l : List (List Ltxid)). a ∷ l) (more_in from sending earlier false (past_one from sending (λ same. omega arith))) (upto_before left (suc from) sending earlier (omega arith))

pub upto_untried : (left from : ℕ) (sending : Sending) (earlier : List Sending) → is_try sending ≡ false → tried_upto left from (sending ∷ earlier) ≡ tried_upto left from earlier
upto_untried zero from sending earlier e = refl
upto_untried (suc left) from sending earlier e = ap₂ (λ (a : List Ltxid) (l : List (List Ltxid)). a ∷ l) (more_in from sending earlier false (no_try from sending e)) (upto_untried left (suc from) sending earlier e)

-- what is put at a place of the list
put_at : List (List Ltxid) → ℕ → Ltxid → List (List Ltxid)
put_at lists at ltxid = slice_set lists at (put_once (get_or lists at []) ltxid)

pub upto_put : (left from at : ℕ) (sending : Sending) (earlier : List Sending) → is_try sending ≡ true → sending.transaction ≡ from + at → at < left
    → tried_upto left from (sending ∷ earlier) ≡ slice_set (tried_upto left from earlier) at (put_once (get_or (tried_upto left from earlier) at []) sending.ltxid)
upto_put zero from at sending earlier e is within = absurd (omega arith)
upto_put (suc left) from zero sending earlier e is within =
    ap₂ (λ (a : List Ltxid) (l : List (List Ltxid)). a ∷ l) (more_in from sending earlier true (here from sending e (omega arith))) (upto_before left (suc from) sending earlier (omega arith))
upto_put (suc left) from (suc at) sending earlier e is within =
    ap₂ (λ (a : List Ltxid) (l : List (List Ltxid)). a ∷ l) (more_in from sending earlier false (past_one from sending (λ same. omega arith))) (upto_put left (suc from) at sending earlier e (omega arith) (omega arith))

pub upto_beyond : (left from : ℕ) (sending : Sending) (earlier : List Sending) → from + left ≤ sending.transaction → tried_upto left from (sending ∷ earlier) ≡ tried_upto left from earlier
upto_beyond zero from sending earlier beyond = refl
upto_beyond (suc left) from sending earlier beyond =
    ap₂ (λ (a : List Ltxid) (l : List (List Ltxid)). a ∷ l) (more_in from sending earlier false (past_one from sending (λ same. omega arith))) (upto_beyond left (suc from) sending earlier (omega arith))

-- THE CALLS THAT WENT OUT -------------------------------------------------------------------------

-- each is of a transaction up to this one
abbrev pub Within : ℕ → List Sending → Type 0
Within over [] = Unit {0}
Within over (sending ∷ earlier) = (sending.transaction ≤ over) × Within over earlier

pub within_more : (over more : ℕ) (sendings : List Sending) → over ≤ more → Within over sendings → Within more sendings
within_more over more [] up w = tt
within_more over more (sending ∷ earlier) up w = (omega (arith, w.0), within_more over more earlier up w.1)

pub none_beyond : (over : ℕ) (sendings : List Sending) → Within over sendings → tried_in (suc over) sendings ≡ []
none_beyond over [] w = refl
none_beyond over (sending ∷ earlier) w = more_in (suc over) sending earlier false (past_one (suc over) sending (λ same. omega (arith, w.0))) ∙ none_beyond over earlier w.1
