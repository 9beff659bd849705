use Rattle.shown_laws.specs.AnswersTold.{calls_answered}
use Rattle.shown_laws.proofs.judged.ReportsTold.{reports_hold}
use Rattle.shown_laws.proofs.reports.reports_answer_calls.Goals as goal

pub returns : goal.returns
returns c = reports_hold c.steps_are_told.ensures.finishing calls_answered c.calls_are_answered.ensures
