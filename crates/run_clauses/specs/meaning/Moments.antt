-- What a run tells of its sessions, in the order of events: the served items, and the notes of
-- `outside` and `ask`.
use Rattle.std.specs.Prelude.{ℕ, ◌+◌, nat_lt, List, [], ◌∷◌, ◌++◌, Some, if◌then◌else◌}
use Rattle.svc_values.specs.declared.entry.Ltxid.{Ltxid}
use Rattle.svc_values.specs.declared.entry.SessionId.{SessionId}
use Rattle.outage_schedule.specs.declared.item.Item.{Item}
use Rattle.outage_schedule.specs.declared.item.Served.{Served}
use Rattle.outage_schedule.specs.declared.note.AskResult.{AskResult}
use Rattle.outage_schedule.specs.declared.note.OutsideNote.{OutsideNote}
use Rattle.outage_schedule.specs.declared.note.Note.{Note}
use Rattle.outage_schedule.specs.declared.note.Note.TheVariants as note
use Rattle.outage_schedule.specs.declared.report.Report.{Report}

pub data Happened : Type 0 where
  ServedItem : (session : SessionId) → (item : Item) → Happened
  RanOutside : (ran : OutsideNote) → Happened
  Asked : (ltxid : Ltxid) → (told : AskResult) → Happened

-- what happened, and the number of the event
pub record HappenedAt : Type 0 where
  pub event : ℕ
  pub happened : Happened

abbrev pub moment_of_note : ℕ → Note → List HappenedAt
moment_of_note event (note.Outside (Some ran)) = record {
  event = event;
  happened = RanOutside ran;
} ∷ []
moment_of_note event (note.Ask x (Some told)) = record {
  event = event;
  happened = Asked x told;
} ∷ []
moment_of_note event _ = []

-- of the notes, the first of which is that of this event
abbrev pub moments_of_notes : ℕ → List Note → List HappenedAt
moments_of_notes event [] = []
moments_of_notes event (first ∷ notes) =
    moment_of_note event first ++ moments_of_notes (event + 1) notes

abbrev pub moment_of_item : Served → HappenedAt
moment_of_item one = record { event = one.event; happened = ServedItem one.session one.item }

-- those before this event, and those from it on
abbrev pub before_event : ℕ → List HappenedAt → List HappenedAt
before_event event [] = []
before_event event (moment ∷ moments) = if nat_lt moment.event event then moment
    ∷ before_event event moments else []

abbrev pub from_event : ℕ → List HappenedAt → List HappenedAt
from_event event [] = []
from_event event (moment ∷ moments) = if nat_lt moment.event event then
    from_event event moments else moment ∷ moments

-- the items in their order, each after the notes of earlier events
abbrev pub in_order : List Served → List HappenedAt → List HappenedAt
in_order [] notes = notes
in_order (one ∷ items) notes = before_event one.event notes ++ moment_of_item one
    ∷ in_order items (from_event one.event notes)

abbrev pub moments : Report → List HappenedAt
moments report = in_order report.served (moments_of_notes 1 report.notes)
