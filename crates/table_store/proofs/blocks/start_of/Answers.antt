use Rattle.std.proofs.Common.{◌≡◌, take, [], sym, subst}
use Rattle.std.specs.BTreeMap.Range.{entries_between}
use Rattle.std.specs.Range.Bound.{bound_map}
use Rattle.svc_values.specs.meaning.Order.{value_cmp}
use Rattle.table_store.specs.Blocks.{entries_in}
use Rattle.table_store.proofs.Placed.{none_from_key, none_behind_key}
use Rattle.table_store.proofs.blocks.start_of.Goals as goal

pub returns-in-Included-clause-outside : goal.returns-in-Included-clause-outside
returns-in-Included-clause-outside c = λ hi.
    subst (λ b. entries_between value_cmp (bound_map (λ x. x.now) b) hi (entries_in (take c.place_of.result c.args.blocks.now)) ≡ []) (sym c.in-Included.is)
    (none_from_key c.in-Included.key.now c.args.blocks.now c.place_of.result c.place_of.ensures.place hi)

pub returns-in-Excluded-clause-outside : goal.returns-in-Excluded-clause-outside
returns-in-Excluded-clause-outside c = λ hi.
    subst (λ b. entries_between value_cmp (bound_map (λ x. x.now) b) hi (entries_in (take c.place_of-in-Excluded.result c.args.blocks.now)) ≡ []) (sym c.in-Excluded.is)
    (none_behind_key c.in-Excluded.key.now c.args.blocks.now c.place_of-in-Excluded.result c.place_of-in-Excluded.ensures.place hi)
