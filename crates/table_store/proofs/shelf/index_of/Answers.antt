use Rattle.std.proofs.Common.{List, ap, sym, ◌∙◌}
use Rattle.std.proofs.lemmas.List.{drop_all}
use Rattle.svc_values.specs.declared.value.Value.{Value}
use Rattle.table_store.specs.Blocks.{rows_in}
use Rattle.table_store.proofs.Indexed.{all_put, has_either}
use Rattle.table_store.proofs.shelf.index_of.Goals as goal

pub returns-clause-made : goal.returns-clause-made
returns-clause-made c =
    let blocks = c.blocks-block-items.result.now in
    let made = c.loop-block.made in
    all_put made c.args.column (rows_in blocks) c.args.rows.now c.loop-block.invariant.column c.blocks-block-items.ensures.entries c.blocks-block-items.ensures.rising
    (λ v k. ap (λ (l : List (List (List Value))). has_either (rows_in l) made.pairs.keys c.args.column v k) (sym (drop_all c.loop-block.block-index blocks c.loop-block-test.false)) ∙ c.loop-block.invariant.held v k)
