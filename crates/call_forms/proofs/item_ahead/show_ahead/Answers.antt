use Rattle.std.proofs.Common.{rules}
use Rattle.svc_values.specs.declared.statement.Statement.TheVariants as statement
use Rattle.call_forms.specs.declared.item.Item.TheVariants as item
use Rattle.call_forms.specs.meaning.Values.{operand_of}
use Rattle.call_forms.specs.meaning.Items.{show_of}
use Rattle.call_forms.proofs.ItemsAhead.{one_part}
use Rattle.call_forms.proofs.item_ahead.show_ahead.Goals as goal

pub returns-clause-ends : goal.returns-clause-ends
unfolding show_of
returns-clause-ends c = one_part (operand_of c.args.digits) (λ operand. item.Statement (statement.Show operand)) c.args.depth c.args.tokens.now c.last_ahead.new.tokens c.in_ok-operand.operand (search rules)
