use Rattle.std.proofs.Common.{length}
use Rattle.document_forms.proofs.script.+is_one_transaction.Given as goal

abbrev pub decreases-is_one_transaction : goal.decreases-is_one_transaction
decreases-is_one_transaction l = length l.calls.now
