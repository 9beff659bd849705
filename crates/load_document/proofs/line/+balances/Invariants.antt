use Rattle.std.proofs.Common.{length}
use Rattle.load_document.proofs.line.+balances.Given as goal

abbrev pub decreases-balances : goal.decreases-balances
decreases-balances l = length l.rows.now
