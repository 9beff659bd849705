use Rattle.std.proofs.Common.{rules}
use Rattle.svc_values.specs.declared.statement.Statement.TheVariants as statement
use Rattle.call_forms.specs.declared.item.Item.TheVariants as item
use Rattle.call_forms.specs.meaning.Values.{name_of}
use Rattle.call_forms.specs.meaning.Items.{count_of}
use Rattle.call_forms.proofs.ItemsAhead.{one_part}
use Rattle.call_forms.proofs.item_ahead.count_ahead.Goals as goal

pub returns-clause-ends : goal.returns-clause-ends
unfolding count_of
returns-clause-ends c = one_part name_of (λ table. item.Statement (statement.Count table)) c.args.depth c.args.tokens.now c.last_ahead.new.tokens c.in_ok-table.table (search rules)
