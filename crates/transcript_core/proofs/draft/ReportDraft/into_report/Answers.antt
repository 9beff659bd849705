use Rattle.std.proofs.Common.{◌≡◌, ◌∙◌}
use Rattle.std.proofs.lemmas.Result.{IfOk-weaker}
use Rattle.run_clauses.specs.meaning.Reports.{report_of}
use Rattle.transcript_core.specs.Drafts.{drafted}
use Rattle.transcript_core.proofs.Drafting.{drafted_so}
use Rattle.transcript_core.proofs.draft.ReportDraft.into_report.Goals as goal

pub returns : goal.returns
returns c = λ terms request steps is.
    IfOk-weaker c.report.result (λ report. report ≡ drafted c.args.self) (λ report. report ≡ report_of terms request steps)
    (λ report same. same ∙ drafted_so terms request steps c.args.self is)
    c.report.ensures
