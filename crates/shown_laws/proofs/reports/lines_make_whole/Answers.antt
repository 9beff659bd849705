use Rattle.shown_laws.proofs.judged.WholeLines.{lines_make_whole}
use Rattle.shown_laws.proofs.reports.lines_make_whole.Goals as goal

pub returns : goal.returns
returns c = lines_make_whole
