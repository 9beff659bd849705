-- Wherever a run has come to, a turn of a connection is right for the request that held the
-- connection and whose calls it served.
use Rattle.std.proofs.Common.{◌≡◌, refl, subst, Bool, true, false, ℕ, ◌&&◌, List, [], ◌∷◌, ◌++◌, Option, ◌⊎◌, inl, inr}
use Rattle.std.specs.Prelude.{◌==◌, not}
use Rattle.std.specs.List.{list_all, list_any}
use Rattle.std.specs.Option.{option_map_or}
use Rattle.std.proofs.lemmas.Bool.{and_parts, and_from, or_cases}
use Rattle.invariant_laws.specs.FirstBegins.{begins_once, begin_once}
use Rattle.world_model.specs.meaning.Frames.{Handled}
use Rattle.invariant_laws.specs.Invariant.{Invariant}
use Rattle.invariant_laws.specs.KeptLaws.{RunsKeepInvariant}
use Rattle.world_model.specs.meaning.Links.{Link, link_at}
use Rattle.invariant_laws.specs.NearCalls.{is_shown_or_next, sends_near, send_near}
use Rattle.invariant_laws.specs.SameLaws.{FollowsInvariant, HoldsInRuns}
use Rattle.world_model.specs.meaning.Serving.{is_blocked}
use Rattle.invariant_laws.specs.Shown.{calls_on, is_current, is_marked, is_row, rows_on}
use Rattle.world_model.specs.Traced.{Traced, courses_of}
use Rattle.world_model.specs.Words.{held_in}
use Rattle.shown_laws.specs.HeldTurns.{HaveRightTurns, RunsHaveRightTurns, FinishesHaveRightTurns}
use Rattle.shown_laws.specs.OwnTurns.{OnWire}
use Rattle.shown_laws.specs.ServedSent.{none_blocked}
use Rattle.shown_laws.specs.Unblocked.{serves_unblocked, serve_unblocked}
use Rattle.shown_laws.proofs.events.FinishesReached.{finishing_reached}
use Rattle.shown_laws.proofs.events.Lookups.{eq_from}
use Rattle.shown_laws.proofs.owners.OwnTurns.{own_right}
use Rattle.shown_laws.proofs.events.Places.{all_at}
use Rattle.shown_laws.proofs.links.SessionsApart.{at_link}
use Rattle.shown_laws.proofs.links.WireFronts.{on_wire}

-- LISTS -------------------------------------------------------------------------------------------

held_at : (test : ℕ → Bool) (numbers : List ℕ) (number : ℕ) → list_all test numbers ≡ true → list_any (λ other. other == number) numbers ≡ true → test number ≡ true
held_at test [] number all any = absurd (let none : ⊥ = cc in none)
held_at test (first ∷ numbers) number all any =
    let parts = and_parts (test first) (list_all test numbers) all in
    by parts.0 (λ later. held_at test numbers number parts.1 later) (or_cases (first == number) (list_any (λ other. other == number) numbers) any)
  where
    by : test first ≡ true → (list_any (λ other. other == number) numbers ≡ true → test number ≡ true) → ((first == number) ≡ true) ⊎ (list_any (λ other. other == number) numbers ≡ true) → test number ≡ true
    by here later (inl is) = subst (λ (n : ℕ). test n ≡ true) (eq_from first number is) here
    by here later (inr is) = later is

pub unblocked_before : (before later : List Handled) → none_blocked (before ++ later) ≡ true → none_blocked before ≡ true
unblocked_before [] later all = refl
unblocked_before (one ∷ before) later all =
    let parts = and_parts (not (is_blocked one.served.item && is_marked one.sent.frame)) (none_blocked (before ++ later)) all in
    and_from (not (is_blocked one.served.item && is_marked one.sent.frame)) (none_blocked before) parts.0 (unblocked_before before later parts.1)

-- TURNS -------------------------------------------------------------------------------------------

pub right_turns : (t : Traced) → Invariant t → serve_unblocked t ≡ true → begin_once t ≡ true → send_near t ≡ true → HaveRightTurns t
right_turns t inv unblocked once near number course served turn is =
    own_right course (is_current course number) is.link served turn
    (record {
      calls = is.calls;
      handled = wire.handled;
      unblocked = unblocked_before served is.later (subst (λ (all : List Handled). none_blocked all ≡ true) is.all (at_link serves_unblocked t.machine.links number is.link unblocked is.there));
      front = wire.front;
      grammar = wire.grammar;
      once = at_link begins_once t.machine.links number is.link once is.there;
      own = is.own;
    }) row close
  where
    wire : OnWire is.link served
    wire = on_wire t number is.link served is.later inv.orderly.wire is.there is.all

    row : is_row course (is_current course number) (calls_on course is.link) ≡ true
    row =
        subst (λ (found : Option Link). option_map_or (λ link. is_row course (is_current course number) (calls_on course link)) found false ≡ true) is.there
        (held_at (λ n. option_map_or (λ link. is_row course (is_current course n) (calls_on course link)) (link_at t.machine.links n) false) (held_in course.steps) number
        (all_at (rows_on t) (courses_of t) is.place course inv.shown.rows is.of_run) is.held)

    close : list_all (is_shown_or_next course.report.calls) (calls_on course is.link) ≡ true
    close =
        subst (λ (found : Option Link). option_map_or (λ link. list_all (is_shown_or_next course.report.calls) (calls_on course link)) found false ≡ true) is.there
        (held_at (λ n. option_map_or (λ link. list_all (is_shown_or_next course.report.calls) (calls_on course link)) (link_at t.machine.links n) false) (held_in course.steps) number
        (all_at (sends_near t) (courses_of t) is.place course near is.of_run) is.held)

pub runs_right : RunsKeepInvariant → HoldsInRuns serve_unblocked → HoldsInRuns begin_once → FollowsInvariant send_near → RunsHaveRightTurns
runs_right keeps unblocked once near document events notes items seen t calls reached =
    let inv : Invariant t = keeps document events notes items seen t calls reached in
    right_turns t inv (unblocked document events notes items seen t calls reached) (once document events notes items seen t calls reached) (near t inv)

pub finishes_right : RunsKeepInvariant → HoldsInRuns serve_unblocked → HoldsInRuns begin_once → FollowsInvariant send_near → FinishesHaveRightTurns
finishes_right keeps unblocked once near document place notes items seen t calls finishing =
    let so = finishing_reached document place notes items seen t finishing in runs_right keeps unblocked once near document so.0 notes items seen t calls so.1
