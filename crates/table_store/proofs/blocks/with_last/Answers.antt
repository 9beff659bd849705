use Rattle.std.proofs.Common.{List, length, ap, ◌∙◌}
use Rattle.std.specs.Bool.{◌==◌}
use Rattle.svc_values.specs.declared.value.Value.{Value}
use Rattle.table_store.proofs.Placed.{closed, filled_closed}
use Rattle.table_store.proofs.blocks.with_last.Goals as goal

pub returns-clause-rows : goal.returns-clause-rows
returns-clause-rows c = closed c.args.made.items c.push.new.self.items c.in_ok-of.field-0 c.args.rows.items c.in_ok-of.ensures c.in_ok-push.ensures.items

pub returns-clause-filled : goal.returns-clause-filled
returns-clause-filled c =
    filled_closed c.args.made.items c.push.new.self.items c.in_ok-of.field-0 c.args.rows.items c.in_ok-of.ensures c.in_ok-push.ensures.items
    (c.if-is_empty.ensures ∙ ap (λ (l : List (List Value)). length l == 0) c.as_slice.ensures.value) c.requires.filled
