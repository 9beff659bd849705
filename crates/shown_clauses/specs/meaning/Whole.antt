-- Each request is shown its whole script in order, by what sessions of its own served, or one
-- Failed.
use Rattle.std.specs.Prelude.{ℕ, ◌+◌, ◌&&◌, Bool, true, false, is_some, List, [], ◌∷◌, length}
use Rattle.std.specs.List.{list_all}
use Rattle.svc_values.specs.declared.entry.Entry.{Entry}
use Rattle.outage_schedule.specs.declared.document.Document.{Document}
use Rattle.outage_schedule.specs.declared.note.GoNote.{GoNote}
use Rattle.outage_schedule.specs.declared.note.GoNote.TheVariants as go
use Rattle.outage_schedule.specs.declared.report.Report.{Report}
use Rattle.run_clauses.specs.meaning.Before.{journal_before}
use Rattle.run_clauses.specs.meaning.Copies.{has_its_reports}
use Rattle.run_clauses.specs.meaning.EntryEvents.{StoredEntry, stored_entries}
use Rattle.shown_clauses.specs.meaning.Links.{Turn}
use Rattle.shown_clauses.specs.meaning.Steps.{Step, steps, steps_of, turns}
use Rattle.shown_clauses.specs.meaning.Submissions.{Submission, submissions_by_client}
use Rattle.shown_clauses.specs.meaning.Parts.{Part, parts_of, left_of, has_its_sessions}
use Rattle.shown_clauses.specs.meaning.Showings.{has_its_showings, calls_served, have_identifiers}
use Rattle.shown_clauses.specs.meaning.Turns.{Owned, turns_right, turns_of, has_request, has_client}

-- What the lines are asked of: the entries before the run, the event at which each of the run was
-- stored, the steps and the turns.
pub record Evidence : Type 0 where
  pub image : List Entry
  pub stored : List StoredEntry
  pub steps : List Step
  pub turns : List Turn

abbrev pub told_by : Document → Report → Evidence
told_by document report =
    record {
      image = (journal_before document).entries;
      stored = stored_entries report;
      steps = steps report;
      turns = turns report;
    }

-- The notes give what each step took.
abbrev pub takes : GoNote → Bool
takes (go.Took connection sent) = true
takes _ = false

abbrev pub took_it : Bool → Step → Bool
took_it true step = is_some step.taken
took_it false step = true

abbrev pub are_taken : List Step → Bool
are_taken steps = list_all (λ step. took_it (takes step.did) step) steps

-- the lines of one submission, with the turns of its client
abbrev pub is_part_whole : Evidence → List Owned → Part → Bool
is_part_whole told mine part =
    has_its_sessions part
    && (has_its_showings part
    && (calls_served part
    && (have_identifiers told.image told.stored part
    && turns_right mine part)))

-- of one client, and of the clients from this one on
abbrev pub is_client_whole : Evidence → ℕ → List Submission → Bool
is_client_whole told client submissions =
    let mine : List Step = steps_of client told.steps in
    let its : List Owned = turns_of client told.turns in
    list_all (has_request (left_of submissions mine)) its
    && list_all (is_part_whole told its) (parts_of submissions mine)

abbrev pub are_clients_whole : Evidence → ℕ → List (List Submission) → Bool
are_clients_whole told client [] = true
are_clients_whole told client (submissions ∷ more) =
    is_client_whole told client submissions && are_clients_whole told (client + 1) more

abbrev pub is_told_whole : Evidence → List (List Submission) → Bool
is_told_whole told submissions =
    are_taken told.steps && (list_all (has_client (length submissions)) told.turns
    && are_clients_whole told 1 submissions)

-- `Whole`
abbrev pub whole : Document → Report → Bool
whole document report = has_its_reports document report
    && is_told_whole (told_by document report) (submissions_by_client document report)
