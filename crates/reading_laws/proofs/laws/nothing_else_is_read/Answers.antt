use Rattle.reading_laws.proofs.ReportOrFault.{nothing_else}
use Rattle.reading_laws.proofs.laws.nothing_else_is_read.Goals as goal

pub returns : goal.returns
returns c = nothing_else
