use Rattle.same_laws.proofs.RunsBegin.{transactions_begun}
use Rattle.same_laws.proofs.laws.transactions_begin_rightly.Goals as goal

pub returns : goal.returns
returns c = transactions_begun
