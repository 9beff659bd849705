-- Idle connections are idle, behind each event.
use Rattle.std.proofs.Common.{◌≡◌, refl, ap, ◌∙◌, Bool, true, false, ℕ, suc, zero, ◌+◌, ◌≤◌, ◌&&◌, ◌||◌, cond, List, [], ◌∷◌, fold, count_by, Option, Some, None, arith}
use Rattle.std.specs.Prelude.{◌==◌, not, slice_get}
use Rattle.std.specs.List.{list_all, list_any}
use Rattle.std.specs.Option.{option_map_or}
use Rattle.std.proofs.lemmas.Bool.{and_parts, and_from, or_left, or_right, not_from_false, not-true}
use Rattle.std.proofs.lemmas.List.Sums.{sum_by-cons}
use Rattle.pool_core.specs.meaning.Slots.{Slots, without, drains, after_gone}
use Rattle.world_model.specs.meaning.Links.{Link, link_at, open_from, put_if}
use Rattle.world_model.specs.records.Hold.{is_idle}
use Rattle.world_model.proofs.events.Tests.{eq_to}
use Rattle.world_model.proofs.events.AllLists.{weaker_all}

-- THE POOL ----------------------------------------------------------------------------------------

-- those that are idle pass, and are not drained
abbrev pub is_rest : List Link → Slots → ℕ → Bool
is_rest links pool number = option_map_or is_idle (link_at links number) false && not (drains pool number)

abbrev pub all_rest : List Link → Slots → Bool
all_rest links pool = list_all (is_rest links pool) pool.idle

-- each of a list passes a test that the others of it pass too, by number
pub each_rest : (test next : ℕ → Bool) (numbers : List ℕ) → list_all test numbers ≡ true → ((number : ℕ) → 1 ≤ count_by (λ one. one == number) numbers → test number ≡ true → next number ≡ true) → list_all next numbers ≡ true
each_rest test next [] all keeps = refl
each_rest test next (number ∷ numbers) all keeps =
    let parts = and_parts (test number) (list_all test numbers) all in
    and_from (next number) (list_all next numbers)
    (keeps number (here (number == number) (count_by (λ one. one == number) numbers) (eq_to number number refl) (sum_by-cons (λ (one : ℕ). cond (one == number) 1 0) number numbers)) parts.0)
    (each_rest test next numbers parts.1 (λ other some is. keeps other (later (number == other) (count_by (λ one. one == other) numbers) some (sum_by-cons (λ (one : ℕ). cond (one == other) 1 0) number numbers)) is))
  where
    here : {all : ℕ} (test : Bool) (count : ℕ) → test ≡ true → all ≡ cond test 1 0 + count → 1 ≤ all
    here true count is split = omega arith
    here false count is split = absurd (let none : ⊥ = cc in none)

    later : {all : ℕ} (test : Bool) (count : ℕ) → 1 ≤ count → all ≡ cond test 1 0 + count → 1 ≤ all
    later true count some split = omega arith
    later false count some split = omega arith

-- without one of them
pub without_rest : (test : ℕ → Bool) (numbers : List ℕ) (gone : ℕ) → list_all test numbers ≡ true → list_all (λ number. test number && not (number == gone)) (without numbers gone) ≡ true
without_rest test [] gone all = refl
without_rest test (number ∷ numbers) gone all =
    let parts = and_parts (test number) (list_all test numbers) all in by (number == gone) refl parts.0 (without_rest test numbers gone parts.1)
  where
    by : (same : Bool) → (number == gone) ≡ same → test number ≡ true → list_all (λ one. test one && not (one == gone)) (without numbers gone) ≡ true
        → list_all (λ one. test one && not (one == gone)) (cond (not same) (number ∷ without numbers gone) (without numbers gone)) ≡ true
    by true is here rest = rest
    by false is here rest = and_from (test number && not (number == gone)) (list_all (λ one. test one && not (one == gone)) (without numbers gone)) (and_from (test number) (not (number == gone)) here (not_from_false (number == gone) is)) rest

-- without all of these
pub gone_rest : (test : ℕ → Bool) (pool : Slots) (numbers : List ℕ) → list_all test pool.idle ≡ true → list_all (λ number. test number && not (list_any (λ one. number == one) numbers)) (fold after_gone pool numbers).idle ≡ true
gone_rest test pool [] all = weaker_all test (λ number. test number && not false) pool.idle (λ number is. and_from (test number) true is refl) all
gone_rest test pool (gone ∷ numbers) all =
    weaker_all (λ number. (test number && not (number == gone)) && not (list_any (λ one. number == one) numbers)) (λ number. test number && not (list_any (λ one. number == one) (gone ∷ numbers)))
    (fold after_gone (after_gone pool gone) numbers).idle
    (λ number is. joined (test number) (number == gone) (list_any (λ one. number == one) numbers) is)
    (gone_rest (λ number. test number && not (number == gone)) (after_gone pool gone) numbers (without_rest test pool.idle gone all))
  where
    joined : (a b c : Bool) → ((a && not b) && not c) ≡ true → (a && not (b || c)) ≡ true
    joined true false c is = is
    joined true true c is = absurd (let none : ⊥ = cc in none)
    joined false b c is = absurd (let none : ⊥ = cc in none)

-- a connection that is open is among these
opened_at : (start : ℕ) (links : List Link) (index number : ℕ) (link : Link) → number ≡ start + index → slice_get links index ≡ Some link → link.is_open ≡ true → list_any (λ one. number == one) (open_from start links) ≡ true
opened_at start [] index number link same is opens = absurd (let none : ⊥ = cc in none)
opened_at start (first ∷ links) zero number link same is opens =
    let link_is : first ≡ link = cc in
    let here : start ≡ number = omega arith in
    put_here first.is_open (ap (λ (l : Link). l.is_open) link_is ∙ opens)
  where
    put_here : (test : Bool) → test ≡ true → list_any (λ one. number == one) (put_if test start (open_from (start + 1) links)) ≡ true
    put_here true is_true = or_left (number == start) (list_any (λ one. number == one) (open_from (start + 1) links)) (let here : number ≡ start = omega arith in eq_to number start here)
    put_here false is_true = absurd (let none : ⊥ = cc in none)
opened_at start (first ∷ links) (suc index) number link same is opens =
    let next : number ≡ (start + 1) + index = omega arith in
    put_later first.is_open (opened_at (start + 1) links index number link next is opens)
  where
    put_later : (test : Bool) → list_any (λ one. number == one) (open_from (start + 1) links) ≡ true → list_any (λ one. number == one) (put_if test start (open_from (start + 1) links)) ≡ true
    put_later true rest = or_right (number == start) (list_any (λ one. number == one) (open_from (start + 1) links)) rest
    put_later false rest = rest

open_any : (links : List Link) (number : ℕ) (link : Link) → link_at links number ≡ Some link → link.is_open ≡ true → list_any (λ one. number == one) (open_from 1 links) ≡ true
open_any links zero link is opens = absurd (let none : ⊥ = cc in none)
open_any links (suc index) link is opens = let same : suc index ≡ 1 + index = omega arith in opened_at 1 links index (suc index) link same is opens

-- none is idle behind a crash
pub none_idle : (links : List Link) (pool : Slots) (next : ℕ → Bool) → list_all (λ number. option_map_or (λ link. link.is_open) (link_at links number) false) pool.idle ≡ true → list_all next (fold after_gone pool (open_from 1 links)).idle ≡ true
none_idle links pool next all =
    weaker_all (λ number. opens_at number && not (list_any (λ one. number == one) (open_from 1 links))) next (fold after_gone pool (open_from 1 links)).idle
    (λ number is. absurd (never number (link_at links number) refl (and_parts (opens_at number) (not (list_any (λ one. number == one) (open_from 1 links))) is)))
    (gone_rest opens_at pool (open_from 1 links) all)
  where
    opens_at : ℕ → Bool
    opens_at number = option_map_or (λ link. link.is_open) (link_at links number) false

    never : (number : ℕ) (found : Option Link) → link_at links number ≡ found → (option_map_or (λ link. link.is_open) found false ≡ true) × (not (list_any (λ one. number == one) (open_from 1 links)) ≡ true) → ⊥
    never number None is both = let none : ⊥ = cc in none
    never number (Some link) is both =
        let some : list_any (λ one. number == one) (open_from 1 links) ≡ true = open_any links number link is both.0 in
        let none : list_any (λ one. number == one) (open_from 1 links) ≡ false = not-true (list_any (λ one. number == one) (open_from 1 links)) both.1 in
        let never_is : ⊥ = cc in never_is
