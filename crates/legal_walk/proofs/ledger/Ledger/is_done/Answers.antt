use Rattle.legal_walk.proofs.Counting.{no_first}
use Rattle.legal_walk.proofs.ledger.Ledger.is_done.Goals as goal

pub returns : goal.returns
returns c = no_first c.first.result c.args.self.now.left c.is_none.result c.first.ensures c.is_none.ensures
