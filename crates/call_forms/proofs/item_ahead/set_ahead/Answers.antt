use Rattle.std.proofs.Common.{rules}
use Rattle.call_forms.specs.declared.item.Item.TheVariants as item
use Rattle.call_forms.specs.meaning.Values.{name_of, value_of}
use Rattle.call_forms.specs.meaning.Items.{set_of}
use Rattle.call_forms.proofs.ItemsAhead.{two_parts}
use Rattle.call_forms.proofs.item_ahead.set_ahead.Goals as goal

pub returns-clause-ends : goal.returns-clause-ends
unfolding set_of
returns-clause-ends c = two_parts name_of (value_of c.args.digits) (λ name x. item.Set name x) c.args.depth c.args.tokens.now c.ahead.new.tokens c.last_ahead.new.tokens c.in_ok-name.name c.in_ok-value.value (search rules) (search rules)
