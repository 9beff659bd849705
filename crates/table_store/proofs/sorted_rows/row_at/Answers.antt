use Rattle.std.proofs.Common.{sym, ap, ◌∙◌}
use Rattle.std.specs.Option.{option_copied}
use Rattle.table_store.proofs.Rising.{found_at, if_key, if_key_is, if_key_not}
use Rattle.table_store.proofs.sorted_rows.row_at.Goals as goal

pub returns-in-None : goal.returns-in-None
returns-in-None c =
    sym (found_at c.args.rows.now c.args.key.now c.count_below-at.result c.requires c.count_below-at.ensures.point ∙ ap (if_key c.args.key.now) (sym c.at_place.ensures ∙ ap option_copied c.in-None.is))

pub returns-then-is_key : goal.returns-then-is_key
returns-then-is_key c =
    sym (found_at c.args.rows.now c.args.key.now c.count_below-at.result c.requires c.count_below-at.ensures.point ∙ ap (if_key c.args.key.now) (sym c.at_place.ensures ∙ ap option_copied c.in-Some.is)
    ∙ if_key_is c.args.key.now c.in-Some.row.now (sym c.is_key.ensures ∙ c.if-is_key.true))

pub returns-else-is_key : goal.returns-else-is_key
returns-else-is_key c =
    sym (found_at c.args.rows.now c.args.key.now c.count_below-at.result c.requires c.count_below-at.ensures.point ∙ ap (if_key c.args.key.now) (sym c.at_place.ensures ∙ ap option_copied c.in-Some.is)
    ∙ if_key_not c.args.key.now c.in-Some.row.now (sym c.is_key.ensures ∙ c.if-is_key.false))
