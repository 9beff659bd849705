use Rattle.std.proofs.Common.{rules, ◌∙◌, List, subst}
use Rattle.std.specs.Ordering.{is_lt}
use Rattle.std.specs.List.Sorted.{IsStableBy}
use Rattle.std.proofs.lemmas.List.Sorted.{answers_always}
use Rattle.svc_values.specs.declared.tables.PlainRow.{PlainRow}
use Rattle.svc_values.specs.Tables.{row_cmp}
use Rattle.stmt_meaning.proofs.InOrder.{row_cmp_weak, sorted_in_order}
use Rattle.stmt_meaning.proofs.order.in_order.Goals as goal

pub returns : goal.returns
returns c =
    let lt = λ (a b : PlainRow). is_lt (row_cmp a b) in
    let up = c.in_ok-sort_by.ensures.sorted lt row_cmp_weak (answers_always _ _ _ (λ f a r g h. search rules)) in
    let stable = c.in_ok-sort_by.ensures.stable lt row_cmp_weak (answers_always _ _ _ (λ f a r g h. search rules)) in
    c.from_vec.ensures ∙ sorted_in_order c.args.rows.items c.sort_by.new.self.items up (subst (λ (l : List PlainRow). IsStableBy lt l c.sort_by.new.self.items) c.reverse.ensures.items stable)
