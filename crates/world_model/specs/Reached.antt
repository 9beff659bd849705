-- Where a run has come to: event by event, machine and service together.
use Rattle.std.specs.Prelude.{◌≡◌, List, [], ◌∷◌, ◌++◌, length, Some, None}
use Rattle.outage_schedule.specs.declared.document.Document.{Document}
use Rattle.outage_schedule.specs.declared.event.Event.{Event}
use Rattle.outage_schedule.specs.declared.note.Note.{Note}
use Rattle.outage_schedule.specs.declared.item.Served.{Served}
use Rattle.commit_log.specs.declared.journal.Journal.{Journal}
use Rattle.run_clauses.specs.meaning.Before.{journal_before}
use Rattle.run_clauses.specs.meaning.ServiceBase.{service_base}
use Rattle.server_model.specs.Seen.{Seen}
use Rattle.world_model.specs.meaning.Settings.{setting_of}
use Rattle.world_model.specs.meaning.Machines.{start_of}
use Rattle.world_model.specs.Traced.{Traced}
use Rattle.world_model.specs.Coupled.{Coupled}
use Rattle.world_model.specs.Forgets.{Forgets, wanted_behind}
use Rattle.world_model.specs.OneEvent.{OneEvent}
use Rattle.world_model.specs.meaning.Finishing.{Place, AtServer, next_finish}

-- behind the opening before event 1
abbrev pub traced_start : Document → Traced
traced_start document =
    let before : Journal = journal_before document in
    record {
      setting = setting_of document;
      machine = start_of document;
      entries = before.entries;
      image = length before.entries;
      blocked = before.blocked;
      outside = [];
      outside_draws = [];
    }

-- The events so far, those of the finish among them, with their notes and all that was served. The
-- store begins with the horizon of the time before event 1, and each opening asks for the one that
-- is wanted then.
pub data Reached (document : Document) : List Event → List Note → List Served → Seen → Traced
    → Type 0 where
  Begins : (seen : Seen) → seen.start ≡ service_base document → seen.history ≡ []
      → seen.state.store.horizon ≡ (journal_before document).horizon
      → Coupled seen (traced_start document)
      → Reached document [] [] [] seen (traced_start document)
  GoesOn : (events : List Event) (notes : List Note) (items more : List Served)
      (before after : Seen) (old new : Traced) (event : Event) (note : Note)
      → Reached document events notes items before old
      → OneEvent before old event note more [] after new
      → Forgets (wanted_behind document notes) note before.state.store after.state.store
      → Reached document (events ++ event ∷ []) (notes ++ note ∷ []) (items ++ more) after new

-- the whole schedule, and then the events of the finish so far, each the next one where it was made
pub data IsFinishing (document : Document) : Place → List Note → List Served → Seen → Traced
    → Type 0 where
  Scheduled : (notes : List Note) (items : List Served) (seen : Seen) (t : Traced)
      → Reached document document.schedule notes items seen t
      → IsFinishing document AtServer notes items seen t
  Finishes : (place later : Place) (notes : List Note) (items more : List Served)
      (before after : Seen) (old new : Traced) (event : Event) (note : Note)
      → IsFinishing document place notes items before old
      → next_finish old.machine place ≡ Some (event, later)
      → OneEvent before old event note more [] after new
      → Forgets (wanted_behind document notes) note before.state.store after.state.store
      → IsFinishing document later (notes ++ note ∷ []) (items ++ more) after new

-- a whole run: the finish has no further event
pub record IsRun (document : Document) (notes : List Note) (items : List Served) (seen : Seen)
    (t : Traced) : Type 0 where
  pub place : Place
  pub finishing : IsFinishing document place notes items seen t
  pub over : next_finish t.machine place ≡ None
