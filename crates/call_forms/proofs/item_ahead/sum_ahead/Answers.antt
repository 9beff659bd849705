use Rattle.std.proofs.Common.{rules}
use Rattle.svc_values.specs.declared.statement.Statement.TheVariants as statement
use Rattle.call_forms.specs.declared.item.Item.TheVariants as item
use Rattle.call_forms.specs.meaning.Values.{name_of}
use Rattle.call_forms.specs.meaning.Items.{sum_of}
use Rattle.call_forms.proofs.ItemsAhead.{two_parts}
use Rattle.call_forms.proofs.item_ahead.sum_ahead.Goals as goal

pub returns-clause-ends : goal.returns-clause-ends
unfolding sum_of
returns-clause-ends c = two_parts name_of name_of (λ table column. item.Statement (statement.Sum table column)) c.args.depth c.args.tokens.now c.ahead.new.tokens c.last_ahead.new.tokens c.in_ok-table.table c.in_ok-column.column (search rules) (search rules)
