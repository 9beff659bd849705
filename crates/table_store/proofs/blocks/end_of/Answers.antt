use Rattle.std.proofs.Common.{◌≡◌, ◌+◌, drop, [], sym, subst}
use Rattle.std.specs.BTreeMap.Range.{entries_between}
use Rattle.std.specs.Range.Bound.{bound_map}
use Rattle.svc_values.specs.meaning.Order.{value_cmp}
use Rattle.table_store.specs.Blocks.{entries_in}
use Rattle.table_store.proofs.Placed.{none_up_to_key, none_before_key}
use Rattle.table_store.proofs.blocks.end_of.Goals as goal

pub returns-in-Included-clause-outside : goal.returns-in-Included-clause-outside
returns-in-Included-clause-outside c = λ lo.
    subst (λ b. entries_between value_cmp lo (bound_map (λ x. x.now) b) (entries_in (drop (c.place_of.result + 1) c.args.blocks.now)) ≡ []) (sym c.in-Included.is)
    (none_up_to_key c.in-Included.key.now c.args.blocks.now c.place_of.result c.place_of.ensures.place lo)

pub returns-in-Excluded-clause-outside : goal.returns-in-Excluded-clause-outside
returns-in-Excluded-clause-outside c = λ lo.
    subst (λ b. entries_between value_cmp lo (bound_map (λ x. x.now) b) (entries_in (drop (c.place_of-in-Excluded.result + 1) c.args.blocks.now)) ≡ []) (sym c.in-Excluded.is)
    (none_before_key c.in-Excluded.key.now c.args.blocks.now c.place_of-in-Excluded.result c.place_of-in-Excluded.ensures.place lo)
