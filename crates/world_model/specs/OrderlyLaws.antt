-- What is orderly is kept: it holds of the start, and of the state behind each event if it held
-- before.
use Rattle.std.specs.Prelude.{Bool, IsTrue, List}
use Rattle.server_model.specs.Seen.{Seen}
use Rattle.outage_schedule.specs.declared.document.Document.{Document}
use Rattle.outage_schedule.specs.declared.event.Event.{Event}
use Rattle.outage_schedule.specs.declared.note.Note.{Note}
use Rattle.outage_schedule.specs.declared.item.Served.{Served}
use Rattle.world_model.specs.meaning.Settings.{setting_of}
use Rattle.world_model.specs.Traced.{Traced}
use Rattle.world_model.specs.records.Ready.{all_requests_right}
use Rattle.world_model.specs.records.Basic.{Basic}
use Rattle.world_model.specs.records.Wire.{Wire}
use Rattle.world_model.specs.records.Hold.{Hold}
use Rattle.world_model.specs.records.Number.{Number}
use Rattle.world_model.specs.Orderly.{Orderly}
use Rattle.world_model.specs.OneEvent.{OneEvent}
use Rattle.world_model.specs.records.Conversing.{AllTalk}
use Rattle.world_model.specs.Coupled.{Coupled}
use Rattle.world_model.specs.Reached.{traced_start}

-- a test of the state
pub record IsKept (test : Traced → Bool) : Type 0 where
  pub at_start : (document : Document) → IsTrue (test (traced_start document))
  pub at_event : (before after : Seen) (old new : Traced) (event : Event) (note : Note)
      (items left : List Served)
      → OneEvent before old event note items left after new → Orderly old → IsTrue (test new)

-- a test of the state, in runs of documents whose requests are right
pub record IsKeptOfCalls (test : Traced → Bool) : Type 0 where
  pub at_start : (document : Document) → IsTrue (all_requests_right document)
      → IsTrue (test (traced_start document))
  pub at_event : (before after : Seen) (old new : Traced) (event : Event) (note : Note)
      (items left : List Served)
      → OneEvent before old event note items left after new → Orderly old → IsTrue (test new)

-- a test of each state that has a service beside it: of the start of a run, and of the state behind
-- each of its events
abbrev pub IsOfService : (Traced → Bool) → Type 0
IsOfService test = (seen : Seen) (t : Traced) → Coupled seen t → IsTrue (test t)

-- the first record as a whole
abbrev pub BasicBegins : Type 0
BasicBegins = (document : Document) → Basic (traced_start document)

abbrev pub BasicIsKept : Type 0
BasicIsKept =
    (before after : Seen) (old new : Traced) (event : Event) (note : Note)
    (items left : List Served)
    → OneEvent before old event note items left after new → Orderly old → Basic new

-- the record of the frames of connections as a whole
abbrev pub WireBegins : Type 0
WireBegins = (document : Document) → Wire (traced_start document)

abbrev pub WireIsKept : Type 0
WireIsKept =
    (before after : Seen) (old new : Traced) (event : Event) (note : Note)
    (items left : List Served)
    → OneEvent before old event note items left after new → Orderly old → Wire new

-- the record of who holds which connection and slot as a whole
abbrev pub HoldBegins : Type 0
HoldBegins = (document : Document) → Hold (traced_start document)

abbrev pub HoldIsKept : Type 0
HoldIsKept =
    (before after : Seen) (old new : Traced) (event : Event) (note : Note)
    (items left : List Served)
    → OneEvent before old event note items left after new → Orderly old → Hold new

-- the conversations of all requests, to the letter
abbrev pub TalksBegin : Type 0
TalksBegin = (document : Document) → AllTalk (setting_of document).terms
    (traced_start document).machine.clients

abbrev pub TalksAreKept : Type 0
TalksAreKept =
    (before after : Seen) (old new : Traced) (event : Event) (note : Note)
    (items left : List Served)
    → OneEvent before old event note items left after new → Orderly old
    → AllTalk new.setting.terms new.machine.clients

-- the record of identifiers and entries as a whole
abbrev pub NumberBegins : Type 0
NumberBegins = (document : Document) → Number (traced_start document)

abbrev pub NumberIsKept : Type 0
NumberIsKept =
    (before after : Seen) (old new : Traced) (event : Event) (note : Note)
    (items left : List Served)
    → OneEvent before old event note items left after new → Orderly old → Number new

-- what is orderly, as a whole, in runs of documents whose requests are right
pub record OrderlyIsKept : Type 0 where
  pub at_start : (document : Document) → IsTrue (all_requests_right document)
      → Orderly (traced_start document)
  pub at_event : (before after : Seen) (old new : Traced) (event : Event) (note : Note)
      (items left : List Served)
      → OneEvent before old event note items left after new → Orderly old → Orderly new
