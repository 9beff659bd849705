use Rattle.server_model.proofs.Marked.{marked_stores_none}
use Rattle.server_model.proofs.laws.marked_calls_store_none.Goals as goal

pub returns : goal.returns
returns c = marked_stores_none
