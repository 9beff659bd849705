-- What of the invariant is kept: it holds of the start, and of the state behind each event if what
-- is orderly, or the whole, held before.
use Rattle.std.specs.Prelude.{Bool, IsTrue, List}
use Rattle.server_model.specs.Seen.{Seen}
use Rattle.outage_schedule.specs.declared.document.Document.{Document}
use Rattle.outage_schedule.specs.declared.event.Event.{Event}
use Rattle.outage_schedule.specs.declared.note.Note.{Note}
use Rattle.outage_schedule.specs.declared.item.Served.{Served}
use Rattle.world_model.specs.Traced.{Traced}
use Rattle.world_model.specs.records.Ready.{all_requests_right}
use Rattle.world_model.specs.Orderly.{Orderly}
use Rattle.invariant_laws.specs.Invariant.{Invariant}
use Rattle.world_model.specs.OneEvent.{OneEvent}
use Rattle.world_model.specs.meaning.Finishing.{Place}
use Rattle.world_model.specs.Reached.{traced_start, Reached, IsFinishing, IsRun}

-- a test of the state, kept where it held before and what is orderly did
pub record StaysTrue (test : Traced → Bool) : Type 0 where
  pub at_start : (document : Document) → IsTrue (test (traced_start document))
  pub at_event : (before after : Seen) (old new : Traced) (event : Event) (note : Note)
      (items left : List Served)
      → OneEvent before old event note items left after new → Orderly old → IsTrue (test old)
      → IsTrue (test new)

-- a test of the state, kept where the whole invariant held before
pub record IsKeptOfAll (test : Traced → Bool) : Type 0 where
  pub at_start : (document : Document) → IsTrue (test (traced_start document))
  pub at_event : (before after : Seen) (old new : Traced) (event : Event) (note : Note)
      (items left : List Served)
      → OneEvent before old event note items left after new → Invariant old → IsTrue (test new)

-- wherever a run has come to, the invariant holds as a whole
abbrev pub RunsKeepInvariant : Type 0
RunsKeepInvariant =
    (document : Document) (events : List Event) (notes : List Note) (items : List Served)
    (seen : Seen) (t : Traced)
    → IsTrue (all_requests_right document) → Reached document events notes items seen t
    → Invariant t

-- and so it does wherever its finish has come to
abbrev pub FinishesKeepInvariant : Type 0
FinishesKeepInvariant =
    (document : Document) (place : Place) (notes : List Note) (items : List Served) (seen : Seen)
    (t : Traced)
    → IsTrue (all_requests_right document) → IsFinishing document place notes items seen t
    → Invariant t

-- and at the end of a whole run
abbrev pub WholeRunsKeepInvariant : Type 0
WholeRunsKeepInvariant = (document : Document) (notes : List Note) (items : List Served)
    (seen : Seen) (t : Traced) → IsTrue (all_requests_right document)
    → IsRun document notes items seen t → Invariant t
