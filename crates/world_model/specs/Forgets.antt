-- The horizon that the openings of a run store: the outcomes of all incarnations below it are
-- forgotten.
use Rattle.std.specs.Prelude.{◌≡◌, ◌⊎◌, ℕ, true, max, List, fold, Some}
use Rattle.outage_schedule.specs.declared.document.Document.{Document}
use Rattle.outage_schedule.specs.declared.note.Note.{Note}
use Rattle.outage_schedule.specs.declared.note.Note.TheVariants as note
use Rattle.run_clauses.specs.meaning.Before.{journal_before, was_opened}
use Rattle.run_clauses.specs.meaning.Horizons.{Openings, first_opening, after_note, wanted_horizon}
use Rattle.server_model.specs.Seen.{Store}

-- An opening raises the horizon to the one that is wanted, where that is greater. One that was
-- stopped did so, or left it as it was; every other event leaves it.
abbrev pub Forgets : ℕ → Note → Store → Store → Type 0
Forgets below (note.Up (Some incarnation)) old new = new.horizon ≡ max old.horizon below
Forgets below (note.UpCrash true) old new =
    (new.horizon ≡ old.horizon) ⊎ (new.horizon ≡ max old.horizon below)
Forgets below _ old new = new.horizon ≡ old.horizon

-- the openings that the notes of a run tell
abbrev pub openings_of : Openings → List Note → Openings
openings_of first notes = fold after_note first notes

-- the opening before event 1
abbrev pub first_of : Document → Openings
first_of document = first_opening (was_opened document) (journal_before document).incarnation

-- the horizon that is wanted behind these notes
abbrev pub wanted_behind : Document → List Note → ℕ
wanted_behind document notes = wanted_horizon document.service.retention
    (openings_of (first_of document) notes)
