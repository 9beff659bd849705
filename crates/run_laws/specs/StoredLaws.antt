-- What was told in a run is what was stored.
use Rattle.std.specs.Prelude.{Bool, IsTrue}
use Rattle.outage_schedule.specs.declared.document.Document.{Document}
use Rattle.outage_schedule.specs.declared.report.Report.{Report}
use Rattle.run_clauses.specs.meaning.Before.{journal_before}
use Rattle.run_clauses.specs.meaning.Blocks.{answered_in, blocks_answered, blocks_in_order}
use Rattle.run_clauses.specs.meaning.Moments.{moments}
use Rattle.run_clauses.specs.meaning.Stored.{kept_by, answers_right, forgotten_fits, blocked_or_entry}
use Rattle.server_model.specs.Runs.{Server}
use Rattle.server_model.specs.Seen.{Seen}
use Rattle.world_model.specs.Reported.{IsReported}
use Rattle.world_model.specs.Traced.{Traced}
use Rattle.std.specs.Prelude.{◌≡◌}
use Rattle.run_clauses.specs.meaning.Horizons.{last_horizon, last_incarnation}
use Rattle.world_model.specs.Reached.{IsRun}

-- It holds of each report of a whole run.
abbrev pub HoldsOfReports : (Document → Report → Bool) → Type 0
HoldsOfReports test = (document : Document) (report : Report) (seen : Seen) (t : Traced)
    (server : Server) → IsReported document report seen t server → IsTrue (test document report)

-- Each answer is by the outcome table with the entries that were stored before it, and says
-- forgotten exactly below the horizon of then.
abbrev pub AnswersAreRight : Type 0
AnswersAreRight = HoldsOfReports (λ document report. answers_right (kept_by document report) report)

-- The horizon that a report tells of is the one that its openings ask for.
abbrev pub HorizonsAreTold : Type 0
HorizonsAreTold = HoldsOfReports forgotten_fits

-- No identifier is both blocked and an entry's.
abbrev pub BlocksStayApart : Type 0
BlocksStayApart = HoldsOfReports (λ document report. blocked_or_entry (kept_by document report))

-- Each identifier that the run blocked was answered uncommitted, or a crashed item carries it.
abbrev pub BlocksAreAnswered : Type 0
BlocksAreAnswered = HoldsOfReports (λ document report.
    blocks_answered (answered_in (moments report)) report.blocked)

-- Each identifier that was answered uncommitted was blocked before, or is the next block then, and
-- none is blocked twice.
abbrev pub BlocksComeInOrder : Type 0
BlocksComeInOrder = HoldsOfReports (λ document report.
    blocks_in_order (journal_before document).blocked (answered_in (moments report)) report.blocked)

-- At the end of a run the store has the horizon that the openings of its report ask for.
abbrev pub HorizonsAreStored : Type 0
HorizonsAreStored = (document : Document) (report : Report) (seen : Seen) (t : Traced)
    → IsRun document report.notes report.served seen t
    → seen.state.store.horizon ≡ last_horizon document report

-- And it has the incarnation of the last opening that its report tells.
abbrev pub IncarnationsAreStored : Type 0
IncarnationsAreStored = (document : Document) (report : Report) (seen : Seen) (t : Traced)
    → IsRun document report.notes report.served seen t
    → seen.state.store.incarnation ≡ last_incarnation document report
