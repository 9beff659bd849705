-- What happened in a request step by step: which calls were submitted and shown, and when.
use Rattle.std.specs.Prelude.{ℕ, ◌+◌, ◌-◌, ◌==◌, ◌&&◌, ◌||◌, Bool, true, false, not, nat_lt, List, [], ◌∷◌, ◌++◌, Option, Some, None, option_and_then, if◌then◌else◌}
use Rattle.std.specs.Option.{option_map_or}
use Rattle.svc_values.specs.declared.answer.Answer.{Answer}
use Rattle.svc_values.specs.declared.answer.Answer.TheVariants as answer
use Rattle.svc_values.specs.declared.call.Call.{Call}
use Rattle.outage_schedule.specs.declared.item.Item.{Item}
use Rattle.outage_schedule.specs.declared.item.Item.TheVariants as item
use Rattle.outage_schedule.specs.declared.item.Served.{Served}
use Rattle.outage_schedule.specs.declared.note.AskResult.TheVariants as told
use Rattle.outage_schedule.specs.declared.note.GoNote.{GoNote}
use Rattle.outage_schedule.specs.declared.note.GoNote.TheVariants as go
use Rattle.outage_schedule.specs.declared.request.ShownCall.{ShownCall}
use Rattle.shown_clauses.specs.meaning.Fronts.{first_item, rest_items, is_empty}
use Rattle.shown_clauses.specs.meaning.Turns.{ends_decided}
use Rattle.shown_clauses.specs.meaning.Steps.{Step}
use Rattle.shown_clauses.specs.meaning.Showings.{shown_answers}
use Rattle.shown_clauses.specs.meaning.Submissions.{Submission}

-- Call `index` was submitted: first sent without the mark, at this tick. A call was shown with
-- these answers.
pub data Fact : Type 0 where
  Submitted : (call : Call) → (index : ℕ) → (tick : ℕ) → Fact
  Showed : (call : Call) → (answers : List Answer) → Fact

-- How far a request has come: the script's calls that were not shown, and what the report shows of
-- them; how many were shown, and how many of these since the last one that ended with Committed or
-- Conflict; whether the first call that was not shown was submitted; and how many calls are to be
-- replayed before it is sent.
pub record Course : Type 0 where
  pub unshown : List Call
  pub ahead : List ShownCall
  pub index : ℕ
  pub since : ℕ
  pub submitted : Bool
  pub behind : ℕ

abbrev pub course_of : Submission → Course
course_of submission =
    record {
      unshown = submission.request.calls;
      ahead = submission.copy.calls;
      index = 0;
      since = 0;
      submitted = false;
      behind = 0;
    }

-- ---- showings

-- the answers shown: the report's, where it shows the call
abbrev pub answers_shown : Course → List Answer → List Answer
answers_shown course answers = option_map_or (λ shown. shown.answers) (first_item course.ahead)
    answers

abbrev pub after_showing : Course → List Answer → Course
after_showing course answers =
    record {
      unshown = rest_items course.unshown;
      ahead = rest_items course.ahead;
      index = course.index + 1;
      since = (if ends_decided answers then 0 else course.since + 1);
      submitted = false;
      behind = 0;
    }

-- An outcome that says uncommitted begins a replay of the calls that were shown since then; each
-- reply to one with the mark ends one.
abbrev pub after_item : Course → Item → Course
after_item course (item.Call false call answers draws) =
    after_showing course (answers_shown course answers)
after_item course (item.Call true call answers draws) = record course { behind = course.behind - 1 }
after_item course (item.Outcome x (told.Committed true)) =
    after_showing course (answers_shown course (answer.Committed ∷ []))
after_item course (item.Outcome x told.Uncommitted) = record course { behind = course.since }
after_item course _ = course

abbrev pub after_taking : Course → Option Served → Course
after_taking course None = course
after_taking course (Some one) = after_item course one.item

-- ---- submissions

-- After what it took, a step that sends frames sends a call without the mark: after a Hello the
-- first call, where none was submitted; after a reply without the mark the next one; after an
-- outcome that says uncommitted, and after a reply with the mark, the one that is to come after the
-- replayed ones, where none of these is left.
abbrev pub comes_after : Course → Item → Bool
comes_after course item.Connect = course.index == 0
comes_after course (item.Call false call answers draws) = true
comes_after course (item.Call true call answers draws) = course.behind == 0
comes_after course (item.Outcome x (told.Committed true)) = true
comes_after course (item.Outcome x told.Uncommitted) = course.behind == 0
comes_after course _ = false

-- what a step sends, where it sends anything
abbrev pub sends_call : Course → GoNote → Option Served → Bool
sends_call course (go.Lent connection) taken = course.index == 0
sends_call course (go.Took connection sent) (Some one) =
    nat_lt 0 sent && comes_after course one.item
sends_call course _ _ = false

abbrev pub submits : Course → Step → Bool
submits course step = not course.submitted
    && (not (is_empty course.unshown) && sends_call course step.did step.taken)

-- ---- the facts of a step: the showing comes before the submission

abbrev pub shown_fact : Option Call → List Answer → List Fact
shown_fact None answers = []
shown_fact (Some call) answers = Showed call answers ∷ []

abbrev pub showing_facts : Course → Option (List Answer) → List Fact
showing_facts course None = []
showing_facts course (Some answers) = shown_fact (first_item course.unshown)
    (answers_shown course answers)

abbrev pub submitted_fact : Bool → Course → Option Call → ℕ → List Fact
submitted_fact true course (Some call) tick = Submitted call course.index tick ∷ []
submitted_fact _ course _ tick = []

abbrev pub facts_at : Course → Step → List Fact
facts_at course step =
    let after : Course = after_taking course step.taken in
    showing_facts course (option_and_then (λ one. shown_answers one.item) step.taken)
    ++ submitted_fact (submits after step) after (first_item after.unshown) step.tick

abbrev pub after_step : Course → Step → Course
after_step course step =
    let after : Course = after_taking course step.taken in
    record after { submitted = after.submitted || submits after step }
