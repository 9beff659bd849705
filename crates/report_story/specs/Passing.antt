-- A report gone through note by note: what was seen, the steps that were made, and what each served
-- item that carries the mark repeats.
use Rattle.std.specs.Prelude.{ℕ, ◌+◌, ◌==◌, Bool, true, false, List, [], ◌∷◌, ◌++◌, fold, Option, None, option_map, option_and_then}
use Rattle.svc_values.specs.declared.entry.SessionId.{SessionId}
use Rattle.outage_schedule.specs.declared.item.Served.{Served}
use Rattle.outage_schedule.specs.declared.note.GoNote.{GoNote}
use Rattle.outage_schedule.specs.declared.note.Note.{Note}
use Rattle.outage_schedule.specs.declared.report.Report.{Report}
use Rattle.shown_clauses.specs.meaning.Links.{Acquired, Seen, Turn, nothing_seen, link_of_session}
use Rattle.shown_clauses.specs.meaning.Steps.{Step}
use Rattle.shown_clauses.specs.meaning.KeptDraws.{is_marked_item, place_in}
use Rattle.report_story.specs.Plain.{plain_item, plain_note, is_idle, steps_if, steps_by}

-- A call that is repeated: the acquisition of the session before its turn, and how many calls with
-- the mark stood in the turn before it.
pub record Repeated : Type 0 where
  pub acquired : Acquired
  pub place : ℕ

abbrev pub repeated_in : Turn → Option Repeated
repeated_in turn = option_map (λ acquired. record {
  acquired = acquired;
  place = place_in turn;
}) turn.acquired

-- what a session repeats that serves a call with the mark, by the connections before it
abbrev pub repeated_at : Seen → SessionId → Option Repeated
repeated_at seen session = option_and_then (λ link. option_and_then repeated_in link.turn)
    (link_of_session session seen.links)

abbrev pub repeated_if : Bool → Seen → SessionId → Option Repeated
repeated_if true seen session = repeated_at seen session
repeated_if false seen session = None

abbrev pub repeated_by : Seen → Served → Option Repeated
repeated_by seen one = repeated_if (is_marked_item one.item) seen one.session

-- How far a report was gone through: the event of the next note, what was seen, the steps, what
-- each served item repeats, and the items that are left.
pub record Passed : Type 0 where
  pub event : ℕ
  pub seen : Seen
  pub steps : List Step
  pub repeated : List (Option Repeated)
  pub left : List Served

abbrev pub begun_with : List Served → Passed
begun_with items = record {
  event = 1;
  seen = nothing_seen;
  steps = [];
  repeated = [];
  left = items;
}

-- its step, by the connections before the note
abbrev pub with_go : ℕ → GoNote → Passed → Passed
with_go client did passed = record passed {
  steps =
      passed.steps ++ steps_if (is_idle did) passed.seen.links passed.event client did;
}

abbrev pub with_step : Note → Passed → Passed
with_step noted passed = record passed {
  steps =
      passed.steps ++ steps_by passed.seen.links passed.event noted;
}

-- the item of this event
abbrev pub with_one : Note → Passed → Served → List Served → Passed
with_one noted passed one items =
    record passed {
      seen = plain_item noted passed.seen one;
      repeated = passed.repeated ++ repeated_by passed.seen one ∷ [];
      left = items;
    }

abbrev pub with_one_if : Bool → Note → Passed → Served → List Served → Passed
with_one_if true noted passed one items = with_one noted passed one items
with_one_if false noted passed one items = passed

abbrev pub with_first : Note → Passed → List Served → Passed
with_first noted passed [] = passed
with_first noted passed (one ∷ items) = with_one_if (one.event == passed.event) noted passed one
    items

abbrev pub with_item : Note → Passed → Passed
with_item noted passed = with_first noted passed passed.left

-- on to the next note
abbrev pub with_note : Note → Passed → Passed
with_note noted passed =
    record passed {
      event = passed.event + 1;
      seen = record passed.seen { links = plain_note passed.event noted passed.seen.links };
    }

abbrev pub pass : Passed → Note → Passed
pass passed noted = with_note noted (with_item noted (with_step noted passed))

-- the whole report
abbrev pub passed_by : Report → Passed
passed_by report = fold pass (begun_with report.served) report.notes
