use Rattle.std.proofs.Common.{◌+◌, List, ◌++◌, drop, append_assoc, sym, ap, ◌∙◌}
use Rattle.std.specs.Prelude.{fold}
use Rattle.std.specs.Map.{values_of}
use Rattle.std.specs.Option.{option_copied}
use Rattle.std.specs.Range.Bound.{bound_map}
use Rattle.std.specs.BTreeMap.Range.{entries_between}
use Rattle.std.proofs.lemmas.List.{drop_all}
use Rattle.svc_values.specs.declared.value.Value.{Value}
use Rattle.svc_values.specs.meaning.Order.{value_cmp}
use Rattle.stmt_meaning.specs.InnerScans.{next_scan, last_answer}
use Rattle.table_store.specs.Blocks.{entries_in}
use Rattle.table_txn.specs.Found.{keyed_or_none}
use Rattle.table_txn.proofs.BlockSteps.{next_block}
use Rattle.table_txn.proofs.scanning.show_between.Goals as goal

pub returns-then-is_settled : goal.returns-then-is_settled
returns-then-is_settled c = λ more.
    let lo = bound_map (λ x. x.now) c.args.from in
    let hi = bound_map (λ x. x.now) c.args.to in
    let stays = c.is_settled.ensures.settled c.if-is_settled.true in
    let whole = ap values_of c.between-block-items.ensures.between ∙ sym (ap (λ o. values_of (entries_between value_cmp lo hi (keyed_or_none (option_copied o)))) c.in-Some.is) in
    stays more ∙ sym (stays (values_of (entries_between value_cmp lo hi (entries_in (drop c.loop-block.block-index c.between-block-items.result.now))) ++ more)) ∙ c.loop-block.invariant more
    ∙ ap (λ l. last_answer (fold next_scan c.args.scan (l ++ more))) whole

pub loop-block-preserved : goal.loop-block-preserved
loop-block-preserved c = λ more.
    let lo = bound_map (λ x. x.now) c.args.from in
    let hi = bound_map (λ x. x.now) c.args.to in
    let blocks = c.between-block-items.result.now in
    let at = c.loop-block.block-index in
    let rows = c.between.result.now in
    let rest = values_of (entries_between value_cmp lo hi (entries_in (drop (at + 1) blocks))) in
    let next = next_block lo hi blocks at c.block-item.result rows c.loop-block-test.true c.block-item.is c.between.ensures in
    c.in_ok-scan.ensures (rest ++ more)
    ∙ ap (λ l. last_answer (fold next_scan c.loop-block.scan l)) (sym (append_assoc rows rest more) ∙ ap (λ l. l ++ more) (sym next))
    ∙ c.loop-block.invariant more

pub returns : goal.returns
returns c = λ more.
    let lo = bound_map (λ x. x.now) c.args.from in
    let hi = bound_map (λ x. x.now) c.args.to in
    let blocks = c.between-block-items.result.now in
    let whole = ap values_of c.between-block-items.ensures.between ∙ sym (ap (λ o. values_of (entries_between value_cmp lo hi (keyed_or_none (option_copied o)))) c.in-Some.is) in
    ap (λ (l : List (List (List Value))). last_answer (fold next_scan c.loop-block.scan (values_of (entries_between value_cmp lo hi (entries_in l)) ++ more))) (sym (drop_all c.loop-block.block-index blocks c.loop-block-test.false))
    ∙ c.loop-block.invariant more
    ∙ ap (λ l. last_answer (fold next_scan c.args.scan (l ++ more))) whole
