use Rattle.std.proofs.Common.{◌≡◌, ap, sym, subst, ◌∙◌}
use Rattle.std.specs.Prelude.{slice_get}
use Rattle.std.specs.Option.{option_copied}
use Rattle.std.specs.Range.Bound.{bound_map}
use Rattle.std.proofs.lemmas.Result.{IfOk-weaker}
use Rattle.std.specs.BTreeMap.{is_at}
use Rattle.std.specs.Map.{keys_of, lookup}
use Rattle.std.specs.List.Sorted.{IsStrictlySortedBy}
use Rattle.std.specs.declared.ops.Bound.TheVariants.{Excluded}
use Rattle.svc_values.specs.meaning.Order.{value_cmp}
use Rattle.svc_values.specs.contracts.value.ValueOrd.TheImpl.{cmp-value}
use Rattle.table_txn.proofs.ScanSteps.{first_keys, left_next, answers_first, answers_next, answers_settled, answers_last}
use Rattle.table_txn.proofs.scanning.show_over.Goals as goal

pub loop-key-init : goal.loop-key-init
loop-key-init c = record {
  keys = first_keys c.args.tables.now.rows c.args.own.now c.args.table.now c.into_iter-key-iterator.result
      (subst (λ e. IsStrictlySortedBy cmp-value.it (keys_of e)) (sym c.into_iter-key-iterator.ensures.into_iter_gives.0) c.into_iter-key-iterator.ensures.into_iter_gives.5)
      (λ q. ap (lookup (is_at (value_cmp q))) c.into_iter-key-iterator.ensures.into_iter_gives.0 ∙ c.requires.keys q);
  answers = answers_first c.args.tables.now.rows c.args.own.now c.args.table.now c.args.scan;
}

pub loop-key-preserved : goal.loop-key-preserved
loop-key-preserved c =
    let lo = bound_map (λ x. x.now) c.loop-key.from in
    let rows = c.args.tables.now.rows in
    let writes = c.args.own.now in
    let write : option_copied c.get.result ≡ slice_get writes c.in-Some.at.now = c.get.ensures ∙ ap (λ w. slice_get w c.in-Some.at.now) c.writes-writes.ensures in
    record {
      keys = left_next rows writes c.args.table.now lo c.loop-key.key-iterator c.next.new.self c.in-Some.key.now c.in-Some.at.now c.loop-key.invariant.keys c.in-Some.ensures.steps;
      answers = answers_next rows writes c.args.table.now c.args.scan (option_copied c.row_map-rows.result) c.row_map-rows.ensures.rows c.requires.ordered lo c.loop-key.key-iterator c.next.new.self c.in-Some.key.now c.in-Some.at.now c.loop-key.invariant.keys c.in-Some.ensures.steps c.loop-key.scan c.loop-key.invariant.answers
          c.in_ok-scan.scan c.in_ok-scan.ensures (option_copied c.get.result) write c.in_ok-scan-2.scan c.in_ok-scan-2.ensures;
    }

pub returns-then-is_settled : goal.returns-then-is_settled
returns-then-is_settled c =
    let lo = bound_map (λ x. x.now) c.loop-key.from in
    let rows = c.args.tables.now.rows in
    let writes = c.args.own.now in
    let write : option_copied c.get.result ≡ slice_get writes c.in-Some.at.now = c.get.ensures ∙ ap (λ w. slice_get w c.in-Some.at.now) c.writes-writes.ensures in
    answers_settled rows writes c.args.table.now c.args.scan c.in_ok-scan-2.scan (Excluded c.in-Some.key.now)
    (answers_next rows writes c.args.table.now c.args.scan (option_copied c.row_map-rows.result) c.row_map-rows.ensures.rows c.requires.ordered lo c.loop-key.key-iterator c.next.new.self c.in-Some.key.now c.in-Some.at.now c.loop-key.invariant.keys c.in-Some.ensures.steps c.loop-key.scan c.loop-key.invariant.answers
    c.in_ok-scan.scan c.in_ok-scan.ensures (option_copied c.get.result) write c.in_ok-scan-2.scan c.in_ok-scan-2.ensures)
    (c.is_settled.ensures.settled c.if-is_settled.true)

pub returns : goal.returns
returns c =
    let lo = bound_map (λ x. x.now) c.loop-key.from in
    IfOk-weaker c.show_between-2.result _ _
    (λ after shown. answers_last c.args.tables.now.rows c.args.own.now c.args.table.now c.args.scan (option_copied c.row_map-rows.result) c.row_map-rows.ensures.rows c.loop-key.scan lo c.loop-key.key-iterator c.loop-key.invariant.keys c.in-None.ensures.steps.0 c.loop-key.invariant.answers after shown)
    c.show_between-2.ensures
