-- What a verdict says.
use Rattle.std.specs.Prelude.{◌≡◌, None}
use Rattle.outage_schedule.specs.declared.document.Document.{Document}
use Rattle.outage_schedule.specs.declared.report.Report.{Report}
use Rattle.report_check.specs.declared.verdict.Verdict.{Verdict}
use Rattle.report_check.specs.declared.verdict.Verdict.TheVariants as verdict
use Rattle.report_check.specs.meaning.Verdicts.{first_false, IsFirstFalse}

-- Yes where each clause holds, and else No with the first that does not
abbrev pub IsJudged : Document → Report → Verdict → Type 0
IsJudged document report verdict.Yes = first_false document report ≡ None
IsJudged document report (verdict.No one path) = IsFirstFalse document report one path
