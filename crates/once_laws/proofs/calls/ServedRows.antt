-- What a connection that a request held served: its frames keep to the grammar, and the request's
-- calls among them are the script's, in a row.
use Rattle.std.proofs.Common.{◌≡◌, refl, Bool, true, false, ℕ, ◌&&◌, ◌||◌, List, map, filter, fold, Option, Some, None}
use Rattle.std.specs.Prelude.{slice_get}
use Rattle.std.specs.List.{list_all}
use Rattle.std.specs.Option.{option_map_or}
use Rattle.std.proofs.lemmas.Bool.{and_parts}
use Rattle.world_model.specs.records.Basic.{lives_rightly, none_behind}
use Rattle.world_model.specs.meaning.Frames.{Sent, Handled}
use Rattle.world_model.specs.Orderly.{Orderly}
use Rattle.world_model.specs.meaning.Links.{Link, link_at}
use Rattle.world_model.specs.Parts.{implies}
use Rattle.invariant_laws.specs.Same.{test_at}
use Rattle.world_model.specs.Sames.{is_front, same_sent}
use Rattle.invariant_laws.specs.Shown.{calls_on, first_of, first_unmarked, has_unmarked, in_row, in_rows, is_current, is_row, is_scripts, marked_from, rows_on, unmarked_first}
use Rattle.world_model.specs.Traced.{Traced, Course, courses_of}
use Rattle.world_model.specs.records.Wire.{New, handled_from, is_right, is_sent_front, stage_of}
use Rattle.world_model.specs.Words.{held_in}
use Rattle.world_model.proofs.Offered.{at_link, at_all, weaker_all, moved, by_index}
use Rattle.invariant_laws.proofs.Offered.{front_all, unfiltered}
use Rattle.once_laws.proofs.calls.RanCalls.{follows, follows_alike, front_right, front_row, is_mine}
use Rattle.once_laws.proofs.calls.ServedSent.{sent_front}

pub record InRow (course : Course) (served : List Handled) : Type 0 where
  pub start : ℕ
  pub handled : handled_from 0 served ≡ true
  pub lone : none_behind served ≡ true
  pub right : is_right (fold moved New (map (λ one. one.sent) served)) ≡ true
  pub row : in_row start (filter (is_mine course) (map (λ one. one.sent) served)) ≡ true
  pub scripts : list_all (follows course) (map (λ one. one.sent) served) ≡ true

link_row : (course : Course) (current : Bool) (link : Link) → is_sent_front link ≡ true → is_right (stage_of link) ≡ true → handled_from 0 link.served ≡ true → none_behind link.served ≡ true → is_row course current (calls_on course link) ≡ true
    → InRow course link.served
link_row course current link sent right handled lone row = record {
  start = start;
  handled = handled;
  lone = lone;
  right = front_right New served link.sent front right;
  row = front_row course start served link.sent front parts.0;
  scripts =
      front_all (follows course) (follows_alike course) served link.sent front
      (unfiltered (λ (s : Sent). is_scripts course s s.frame) (is_mine course) link.sent (and_parts (list_all (λ (s : Sent). is_scripts course s s.frame) (calls_on course link)) _ parts.1).0);
}
  where
    start : ℕ
    start = option_map_or (λ s. s.call) (first_of (calls_on course link)) 0

    served : List Sent
    served = map (λ one. one.sent) link.served

    front : is_front same_sent served link.sent ≡ true
    front = sent_front link sent

    rest : Bool
    rest =
        list_all (λ (s : Sent). is_scripts course s s.frame) (calls_on course link)
        && (implies (current || has_unmarked (calls_on course link)) (marked_from course (calls_on course link) (first_unmarked course (calls_on course link))) && unmarked_first course (calls_on course link))

    parts : (in_row start (calls_on course link) ≡ true) × (rest ≡ true)
    parts = and_parts (in_row start (calls_on course link)) rest row

-- A RUN -------------------------------------------------------------------------------------------

pub row_at : (t : Traced) → Orderly t → (course : Course) (current : Bool) (number : ℕ) (link : Link) → link_at t.machine.links number ≡ Some link → is_row course current (calls_on course link) ≡ true → InRow course link.served
row_at t inv course current number link there row =
    link_row course current link (at_link is_sent_front t.machine.links number link inv.wire.sent there) (at_link (λ l. is_right (stage_of l)) t.machine.links number link inv.wire.grammar there)
    (at_link (λ l. handled_from 0 l.served) t.machine.links number link inv.wire.handled there) (and_parts (none_behind link.served) _ (at_link lives_rightly t.machine.links number link inv.basic.life there)).0 row

-- a test of each connection that a request held, which holds of those that served so
pub held_so : (t : Traced) → Orderly t → in_rows t ≡ true → (test : Course → Link → Bool)
    → ((index : ℕ) (course : Course) (number : ℕ) (link : Link) → slice_get (courses_of t) index ≡ Some course → link_at t.machine.links number ≡ Some link → InRow course link.served → test course link ≡ true)
    → list_all (λ course. list_all (test_at t (test course)) (held_in course.steps)) (courses_of t) ≡ true
held_so t inv rows test from = by_index (λ course. list_all (test_at t (test course)) (held_in course.steps)) (courses_of t) of_course
  where
    of_course : (index : ℕ) (course : Course) → slice_get (courses_of t) index ≡ Some course → list_all (test_at t (test course)) (held_in course.steps) ≡ true
    of_course index course at =
        weaker_all (λ number. option_map_or (λ link. is_row course (is_current course number) (calls_on course link)) (link_at t.machine.links number) false) (test_at t (test course)) (held_in course.steps)
        (λ number is. on number (link_at t.machine.links number) refl is) (at_all (rows_on t) (courses_of t) index course rows at)
      where
        on : (number : ℕ) (found : Option Link) → link_at t.machine.links number ≡ found → option_map_or (λ link. is_row course (is_current course number) (calls_on course link)) found false ≡ true → option_map_or (test course) found false ≡ true
        on number None there row = absurd (let none : ⊥ = cc in none)
        on number (Some link) there row = from index course number link at there (row_at t inv course (is_current course number) number link there row)
