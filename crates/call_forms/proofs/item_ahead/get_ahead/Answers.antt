use Rattle.std.proofs.Common.{rules}
use Rattle.svc_values.specs.declared.statement.Statement.TheVariants as statement
use Rattle.call_forms.specs.declared.item.Item.TheVariants as item
use Rattle.call_forms.specs.meaning.Values.{name_of, operand_of}
use Rattle.call_forms.specs.meaning.Items.{get_of}
use Rattle.call_forms.proofs.ItemsAhead.{two_parts}
use Rattle.call_forms.proofs.item_ahead.get_ahead.Goals as goal

pub returns-clause-ends : goal.returns-clause-ends
unfolding get_of
returns-clause-ends c = two_parts name_of (operand_of c.args.digits) (λ table key. item.Statement (statement.Get table key)) c.args.depth c.args.tokens.now c.ahead.new.tokens c.last_ahead.new.tokens c.in_ok-table.table c.in_ok-key.key (search rules) (search rules)
