use Rattle.std.proofs.Common.{rules}
use Rattle.call_forms.specs.declared.item.Item.TheVariants as item
use Rattle.call_forms.specs.meaning.Values.{line_of}
use Rattle.call_forms.specs.meaning.Items.{alter_of}
use Rattle.call_forms.proofs.ItemsAhead.{one_part}
use Rattle.call_forms.proofs.item_ahead.alter_ahead.Goals as goal

pub returns-clause-ends : goal.returns-clause-ends
unfolding alter_of
returns-clause-ends c = one_part line_of (λ line. item.Alter line) c.args.depth c.args.tokens.now c.last_ahead.new.tokens c.in_ok-line.line (search rules)
