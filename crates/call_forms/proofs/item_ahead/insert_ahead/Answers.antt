use Rattle.std.proofs.Common.{rules}
use Rattle.json_form.specs.meaning.Arrays.{array_of, each_of}
use Rattle.svc_values.specs.declared.statement.Statement.TheVariants as statement
use Rattle.call_forms.specs.declared.item.Item.TheVariants as item
use Rattle.call_forms.specs.meaning.Values.{name_of, operand_of}
use Rattle.call_forms.specs.meaning.Items.{insert_of}
use Rattle.call_forms.proofs.ItemsAhead.{two_parts}
use Rattle.call_forms.proofs.item_ahead.insert_ahead.Goals as goal

pub returns-clause-ends : goal.returns-clause-ends
unfolding insert_of
returns-clause-ends c = two_parts name_of (array_of 1 8 (each_of (operand_of c.args.digits))) (λ table values. item.Statement (statement.Insert table values)) c.args.depth c.args.tokens.now c.ahead.new.tokens c.last_ahead.new.tokens c.in_ok-table.table c.in_ok-values.values (search rules) (search rules)
