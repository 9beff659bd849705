use Rattle.std.proofs.Common.{rules, arith, sym, ap, ◌∙◌}
use Rattle.std.specs.Option.{option_copied}
use Rattle.table_store.specs.Indexes.{IsIndexOf, with_row, is_value, value_in}
use Rattle.table_store.specs.Rows.{keyed_of}
use Rattle.table_store.proofs.Indexed.{index_changed, next_is_left, one_more_done, all_done}
use Rattle.table_store.proofs.shelf.changed.Goals as goal

pub change-requires : goal.change-requires
change-requires c = λ v.
    let one = c.index_mut.result.now in
    let done = IsIndexOf (with_row (keyed_of c.args.rows.now) c.args.key.now (option_copied c.args.after)) in
    let held = next_is_left done (IsIndexOf (keyed_of c.args.rows.now)) c.loop-at.at c.loop-at.indexes.items one c.loop-at.invariant.1 (omega (arith, c.loop-at-test.true, c.loop-at.invariant.0)) c.index_mut.ensures.value in
    held v c.args.key.now ∙ ap (λ r. is_value (value_in r one.column) v) (sym c.get-before.ensures)

pub loop-at-preserved : goal.loop-at-preserved
loop-at-preserved c =
    let one = c.index_mut.result.now in
    let left = IsIndexOf (keyed_of c.args.rows.now) in
    let done = IsIndexOf (with_row (keyed_of c.args.rows.now) c.args.key.now (option_copied c.args.after)) in
    let held = next_is_left done left c.loop-at.at c.loop-at.indexes.items one c.loop-at.invariant.1 (omega (arith, c.loop-at-test.true, c.loop-at.invariant.0)) c.index_mut.ensures.value in (
      search rules,
      one_more_done done left c.loop-at.at c.loop-at.indexes.items c.change.new.self c.loop-at.invariant.1
          (index_changed one c.change.new.self (keyed_of c.args.rows.now) c.args.key.now (option_copied c.args.after) c.in_ok-change.ensures.column held c.in_ok-change.ensures.ok),
    )

pub returns-clause-made : goal.returns-clause-made
returns-clause-made c =
    let done = IsIndexOf (with_row (keyed_of c.args.rows.now) c.args.key.now (option_copied c.args.after)) in
    all_done done (IsIndexOf (keyed_of c.args.rows.now)) c.loop-at.at c.loop-at.indexes.items c.loop-at.invariant.1 (omega (arith, c.loop-at-test.false, c.loop-at.invariant.0))
