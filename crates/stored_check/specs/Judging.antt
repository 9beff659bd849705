-- The lines of `Stored`, as they are judged.
use Rattle.std.specs.Prelude.{◌+◌, ◌==◌, ◌&&◌, Bool, List, length}
use Rattle.std.specs.List.{list_all}
use Rattle.svc_values.specs.declared.entry.Ltxid.{Ltxid}
use Rattle.outage_schedule.specs.declared.document.Document.{Document}
use Rattle.outage_schedule.specs.declared.report.Report.{Report}
use Rattle.run_clauses.specs.meaning.Moments.{HappenedAt}
use Rattle.run_clauses.specs.meaning.Blocks.{answered_in, blocks_answered, blocks_in_order}
use Rattle.run_clauses.specs.meaning.Stored.{kept_by, outcomes_stored, answers_right, forgotten_fits, blocked_or_entry, blocks_fit}
use Rattle.stored_check.specs.Facts.{Marks, Timing, are_stored, is_right}

-- outcomes, answers and the horizon
abbrev pub is_told_right : Marks → Timing → Report → List HappenedAt → Bool
is_told_right marks timing report all =
    list_all (list_all (are_stored marks)) report.clients
    && (list_all (is_right marks timing) all
    && (report.forgotten == timing.horizon (length report.notes + 1)))

-- the answers and the order of blocks
abbrev pub are_blocks : List Ltxid → List Ltxid → List HappenedAt → Bool
are_blocks before blocked all = blocks_answered (answered_in all) blocked
    && blocks_in_order before (answered_in all) blocked

-- all lines but that of the image
abbrev pub is_stored_right : Document → Report → Bool
is_stored_right document report =
    let k = kept_by document report in
    outcomes_stored k report && (answers_right k report
    && (forgotten_fits document report && (blocked_or_entry k && blocks_fit document report)))
