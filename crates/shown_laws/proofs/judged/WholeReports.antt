-- Each line of `Whole` holds of the report of every whole run, so it is whole.
use Rattle.std.proofs.Common.{◌∙◌, Bool, suc}
use Rattle.std.specs.List.{list_all}
use Rattle.run_clauses.specs.meaning.Before.{journal_before}
use Rattle.run_clauses.specs.meaning.EntryEvents.{stored_entries}
use Rattle.shown_clauses.specs.meaning.Parts.{Part, parts_of}
use Rattle.shown_clauses.specs.meaning.Showings.{have_identifiers}
use Rattle.shown_clauses.specs.meaning.Steps.{steps, steps_of}
use Rattle.shown_clauses.specs.meaning.Submissions.{submissions_by_client}
use Rattle.shown_laws.specs.AnswersTold.{ReportsServeCalls}
use Rattle.shown_laws.specs.Identified.{IdentifiersAreStored, ReportsIdentifyCalls}
use Rattle.shown_laws.specs.ReportsTold.{ReportsAreOrdered, ReportsTakeReplies, ReportsListSessions, ReportsListShowings}
use Rattle.shown_laws.specs.Tellings.{FinishesTellSteps}
use Rattle.shown_laws.specs.TurnReports.{ReportsTurnsHaveClients, ReportsTurnsAreRight, ReportsTurnsHaveRequests}
use Rattle.shown_laws.specs.WholeLines.{LinesMakeWhole}
use Rattle.shown_laws.specs.WholeRuns.{RunsAreWhole}
use Rattle.shown_laws.proofs.judged.ReportsTold.{parts_by, each_of_run}

pub identifiers_listed : FinishesTellSteps → IdentifiersAreStored → ReportsIdentifyCalls
identifiers_listed tell holds document report seen t server right reported =
    let test : Part → Bool = have_identifiers (journal_before document).entries (stored_entries report) in
    parts_by test 1 (steps report) (submissions_by_client document report)
    ∙ each_of_run tell document report seen t server right reported (λ n mine. list_all test (parts_of mine (steps_of n (steps report))))
    (λ index own one is. holds document report seen t server (suc index) own right reported is.here is.rests)

pub runs_whole : LinesMakeWhole → ReportsAreOrdered → ReportsTakeReplies → ReportsListSessions → ReportsListShowings → ReportsServeCalls → ReportsIdentifyCalls → ReportsTurnsHaveClients → ReportsTurnsAreRight → ReportsTurnsHaveRequests → RunsAreWhole
runs_whole make ordered taken sessions showings served identifiers clients turns requests document report seen t server right reported =
    make document report
    (record {
      reports = ordered document report seen t server right reported;
      taken = taken document report seen t server right reported;
      clients = clients document report seen t server right reported;
      sessions = sessions document report seen t server right reported;
      showings = showings document report seen t server right reported;
      served = served document report seen t server right reported;
      identifiers = identifiers document report seen t server right reported;
      turns = turns document report seen t server right reported;
      requests = requests document report seen t server right reported;
    })
