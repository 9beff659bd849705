use Rattle.shown_laws.proofs.judged.ReportsTold.{replies_listed}
use Rattle.shown_laws.proofs.reports.reports_take_replies.Goals as goal

pub returns : goal.returns
returns c = replies_listed c.replies_are_taken.ensures
