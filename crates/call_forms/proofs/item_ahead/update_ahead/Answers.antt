use Rattle.std.proofs.Common.{rules}
use Rattle.call_forms.proofs.ItemsAhead.{update_ends}
use Rattle.call_forms.proofs.item_ahead.update_ahead.Goals as goal

pub returns-clause-ends : goal.returns-clause-ends
returns-clause-ends c = rw c.change_of.ensures (update_ends c.args.digits c.args.depth c.args.tokens.now c.ahead.new.tokens c.ahead-2.new.tokens c.ahead-3.new.tokens c.ahead-4.new.tokens c.last_ahead.new.tokens c.in_ok-table.table c.in_ok-key.key c.in_ok-column.column c.in_ok-word.word c.in_ok-operand.operand (search rules) (search rules) (search rules) (search rules) (search rules))
