use Rattle.verdict_laws.proofs.Pairing.{runs_checked}
use Rattle.verdict_laws.proofs.laws.runs_are_checked_right.Goals as goal

pub returns : goal.returns
returns c = runs_checked c.reports_are_read_back.ensures c.reports_have_the_form.ensures c.runs_are_right.ensures
