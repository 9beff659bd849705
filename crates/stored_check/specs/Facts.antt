-- What a journal says to a question: which entries there are, what is blocked, and how far sessions
-- and the horizon have come.
use Rattle.std.specs.Prelude.{ℕ, ◌&&◌, ◌||◌, Bool, true, not, nat_lt, Option, is_some, is_none}
use Rattle.std.specs.List.{list_all}
use Rattle.std.specs.Option.{option_map_or}
use Rattle.svc_values.specs.declared.entry.Ltxid.{Ltxid}
use Rattle.svc_values.specs.meaning.Identifiers.{session_of}
use Rattle.svc_values.specs.meaning.Same.{same_bool}
use Rattle.ltxid_book.specs.meaning.Journal.{is_blocked}
use Rattle.outage_schedule.specs.declared.item.Item.{Item}
use Rattle.outage_schedule.specs.declared.item.Item.TheVariants as item
use Rattle.outage_schedule.specs.declared.note.AskResult.{AskResult}
use Rattle.outage_schedule.specs.declared.request.Outcome.{Outcome}
use Rattle.outage_schedule.specs.declared.request.RequestReport.{RequestReport}
use Rattle.run_clauses.specs.meaning.Moments.{Happened, HappenedAt, ServedItem, RanOutside, Asked}
use Rattle.run_clauses.specs.meaning.EntryEvents.{stored_before}
use Rattle.run_clauses.specs.meaning.Horizons.{raised}
use Rattle.run_clauses.specs.meaning.Outcomes.{completed_of, outcome_of, is_told, is_uncommitted, says_forgotten, is_forgotten}
use Rattle.run_clauses.specs.meaning.Stored.{Kept}
use Rattle.stored_check.specs.Keys.{mark_of}
use Rattle.entry_events.specs.Numbering.{before}
use Rattle.stored_check.specs.declared.known.Known.{Known}
use Rattle.stored_check.specs.declared.answers.Times.{Times}

-- ---- entries and blocks

pub record Marks : Type 0 where
  pub completed : Ltxid → Option Bool
  pub blocked : Ltxid → Bool

abbrev pub marks_in : Known → Marks
marks_in known = record { completed = mark_of known.completed; blocked = is_blocked known.blocked }

abbrev pub marks_of : Kept → Marks
marks_of k = record { completed = completed_of k.entries; blocked = is_blocked k.blocked }

abbrev pub has_entry : Option Bool → Outcome → Bool
has_entry mark outcome = same_bool outcome.committed (is_some mark)
    && option_map_or (same_bool outcome.completed) mark true

abbrev pub has_block : Bool → Outcome → Bool
has_block blocked outcome = outcome.committed || (not outcome.completed && blocked)

abbrev pub is_stored : Marks → Outcome → Bool
is_stored marks outcome = has_entry (marks.completed outcome.ltxid) outcome
    && has_block (marks.blocked outcome.ltxid) outcome

abbrev pub are_stored : Marks → RequestReport → Bool
are_stored marks request = list_all (is_stored marks) request.outcomes

-- no entry has the identifier
abbrev pub has_no_entry : Marks → Ltxid → Bool
has_no_entry marks x = is_none (marks.completed x)

-- ---- numbers and horizons at an event

pub record Timing : Type 0 where
  pub next : ℕ → Ltxid → ℕ
  pub horizon : ℕ → ℕ

abbrev pub timing_in : Times → Timing
timing_in times = record {
  next = λ event x. before times.numbers (session_of x) event;
  horizon = λ event. raised times.horizon times.openings event;
}

abbrev pub timing_of : Kept → Timing
timing_of k = record {
  next = λ event x. stored_before k.image k.stored (session_of x) event;
  horizon = λ event. raised k.horizon k.openings event;
}

abbrev pub is_answer : Marks → Timing → ℕ → Ltxid → AskResult → Bool
is_answer marks timing event x answer =
    is_told (outcome_of (timing.horizon event) (timing.next event x) (marks.completed x) x) answer
    && (not (is_uncommitted answer) || marks.blocked x)

abbrev pub is_rightly_forgotten : ℕ → Ltxid → AskResult → Bool
is_rightly_forgotten horizon x answer =
    same_bool (is_forgotten answer) (nat_lt x.incarnation horizon)
    && (not (is_forgotten answer) || says_forgotten answer horizon)

abbrev pub is_item_right : Marks → Timing → ℕ → Item → Bool
is_item_right marks timing event (item.Outcome x answer) =
    is_answer marks timing event x answer && is_rightly_forgotten (timing.horizon event) x answer
is_item_right marks timing event _ = true

abbrev pub is_right_at : Marks → Timing → ℕ → Happened → Bool
is_right_at marks timing event (Asked x answer) = is_answer marks timing event x answer
is_right_at marks timing event (ServedItem session served) = is_item_right marks timing event served
is_right_at marks timing event (RanOutside ran) = true

abbrev pub is_right : Marks → Timing → HappenedAt → Bool
is_right marks timing moment = is_right_at marks timing moment.event moment.happened
