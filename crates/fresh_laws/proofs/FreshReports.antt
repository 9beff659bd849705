-- No value stands twice among what the entries of a run's report drew: no call of a request is
-- stored twice.
use Rattle.std.proofs.Common.{◌≡◌, sym, ap, ◌∙◌, true}
use Rattle.std.specs.Prelude.{drop}
use Rattle.outage_schedule.specs.declared.document.Document.{Document}
use Rattle.outage_schedule.specs.declared.report.Report.{Report}
use Rattle.run_clauses.specs.meaning.Fresh.{fresh as is_fresh}
use Rattle.server_model.specs.meaning.Fresh.{fresh}
use Rattle.server_model.specs.Runs.{Server}
use Rattle.server_model.specs.Seen.{Seen}
use Rattle.invariant_laws.specs.Invariant.{Invariant}
use Rattle.invariant_laws.specs.KeptLaws.{WholeRunsKeepInvariant}
use Rattle.world_model.specs.records.Ready.{all_requests_right}
use Rattle.world_model.specs.Reported.{IsReported}
use Rattle.fresh_laws.specs.RunsFresh.{RunsAreFresh}
use Rattle.invariant_laws.specs.SameLaws.{HoldsAtEnds}
use Rattle.once_laws.specs.StoredOnce.{are_stored_once}
use Rattle.world_model.specs.Traced.{Traced}
use Rattle.fresh_laws.specs.ValueLaws.{StoredValuesEndFresh}
use Rattle.world_model.proofs.Offered.{implied}
use Rattle.once_laws.proofs.Offered.{later_are}

pub fresh_by_calls : StoredValuesEndFresh → (document : Document) (report : Report) (seen : Seen) (t : Traced) (server : Server) → all_requests_right document ≡ true → IsReported document report seen t server → Invariant t
    → are_stored_once t ≡ true → is_fresh report ≡ true
fresh_by_calls law document report seen t server calls is inv stored =
    let same : drop t.image t.entries ≡ report.entries = later_are document report seen t server is inv.orderly inv.once in
    ap fresh (sym same) ∙ implied (are_stored_once t) (fresh (drop t.image t.entries)) stored (law document report.notes report.served seen t calls is.run)

pub runs_fresh : WholeRunsKeepInvariant → StoredValuesEndFresh → HoldsAtEnds are_stored_once → RunsAreFresh
runs_fresh keeps values once document report seen t server calls is =
    fresh_by_calls values document report seen t server calls is (keeps document report.notes report.served seen t calls is.run) (once document report.notes report.served seen t calls is.run)
