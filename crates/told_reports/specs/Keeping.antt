-- What a report that was read keeps to.
use Rattle.std.specs.Prelude.{ℕ, ◌&&◌, Bool, true, List, [], ◌∷◌, None, IsTrue}
use Rattle.std.specs.List.{list_all}
use Rattle.svc_values.specs.declared.entry.Entry.{Entry}
use Rattle.svc_values.specs.meaning.Calls.{is_made}
use Rattle.outage_schedule.specs.declared.item.Item.{Item}
use Rattle.outage_schedule.specs.declared.item.Item.TheVariants as item
use Rattle.outage_schedule.specs.declared.item.Served.{Served}
use Rattle.outage_schedule.specs.declared.note.Note.{Note}
use Rattle.outage_schedule.specs.declared.report.Report.{Report}
use Rattle.told_reports.specs.declared.place.ServedWord.{ServedWord}
use Rattle.told_reports.specs.declared.place.ServedWord.TheVariants as word
use Rattle.told_reports.specs.meaning.Places.{fits_event}
use Rattle.told_reports.specs.meaning.Settings.{names_rise}

-- the word of an item
abbrev pub word_of_item : Item → ServedWord
word_of_item item.Connect = word.Connect
word_of_item (item.Begin settings) = word.Begin
word_of_item (item.Call replay call answers draws) = word.Call
word_of_item (item.Blocked call) = word.Blocked
word_of_item (item.Outcome x result) = word.Outcome
word_of_item item.End = word.End
word_of_item item.Close = word.Close
word_of_item (item.Refused cause) = word.Refused
word_of_item (item.CrashedCall replay call) = word.Crashed
word_of_item (item.CrashedOutcome x) = word.Crashed

-- the events of items behind this one rise, and each names a note at which its item may stand
abbrev pub events_fit : List Note → ℕ → List Served → Bool
events_fit notes last [] = true
events_fit notes last (one ∷ items) =
    fits_event notes (word_of_item one.item) last one.event && events_fit notes one.event items

-- settings rise, and the call can be made
abbrev pub is_item : Item → Bool
is_item (item.Begin settings) = names_rise None settings
is_item (item.Call replay call answers draws) = is_made call
is_item (item.Blocked call) = is_made call
is_item (item.CrashedCall replay call) = is_made call
is_item _ = true

-- settings rise, and the calls can be made
abbrev pub is_entry : Entry → Bool
is_entry entry = names_rise None entry.settings
    && list_all (λ piece. is_made piece.call) entry.pieces

pub record IsTold (report : Report) : Type 0 where
  pub events : IsTrue (events_fit report.notes 0 report.served)
  pub items : IsTrue (list_all (λ one. is_item one.item) report.served)
  pub entries : IsTrue (list_all is_entry report.entries)
