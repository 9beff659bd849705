use Rattle.std.proofs.Common.{◌≡◌, List, ◌++◌, [], sym, ap, ◌∙◌}
use Rattle.std.proofs.lemmas.List.{append-nil, nil_from_length}
use Rattle.std.proofs.lemmas.Result.{IfOk-weaker}
use Rattle.svc_values.specs.declared.value.Value.{Value}
use Rattle.table_store.specs.Blocks.{rows_in}
use Rattle.table_store.proofs.Placed.{full_closed, one_more, part_rises}
use Rattle.table_store.proofs.blocks.filled.Goals as goal

pub of-requires : goal.of-requires
of-requires c =
    let all = c.args.rows.items in
    let made = c.loop-row.made.items in
    let rest = c.next.new.self.rest.items in
    let full = ap (λ v. v.items) c.replace-full.ensures.value ∙ c.in_ok-push.ensures.items in
    part_rises all (rows_in made) c.replace-full.result.items rest
    (one_more all made c.loop-row.part.items c.loop-row.row-iterator.rest.items rest c.in-Some.row c.exact.result c.replace-full.result.items c.loop-row.invariant.0 c.in-Some.ensures.steps.0 c.exact.ensures full)
    c.requires

pub loop-row-preserved-in_ok-push-2 : goal.loop-row-preserved-in_ok-push-2
loop-row-preserved-in_ok-push-2 c =
    let full = ap (λ v. v.items) c.replace-full.ensures.value ∙ c.in_ok-push.ensures.items in
    full_closed c.args.rows.items c.loop-row.made.items c.loop-row.part.items c.loop-row.row-iterator.rest.items c.next.new.self.rest.items c.in-Some.row c.exact.result c.replace-full.result.items c.loop-row.invariant.0 c.in-Some.ensures.steps.0
    c.exact.ensures full c.push-then-len-ge-FIRST_ROWS.new.self.items c.in_ok-of.field-0 c.replace-full.new.dest.items c.in_ok-of.ensures c.in_ok-push-2.ensures.items (ap (λ v. v.items) c.replace-full.ensures.after ∙ c.new.ensures.items)
    c.loop-row.invariant.1

pub with_last-requires-clause-rising : goal.with_last-requires-clause-rising
with_last-requires-clause-rising c = part_rises c.args.rows.items (rows_in c.loop-row.made.items) c.loop-row.part.items c.loop-row.row-iterator.rest.items c.loop-row.invariant.0 c.requires

pub returns-clause-rows : goal.returns-clause-rows
returns-clause-rows c =
    let left = c.loop-row.row-iterator.rest in
    let none : left.items ≡ [] = nil_from_length left.items (sym left.ok.0 ∙ c.in-None.ensures.steps.0) in
    IfOk-weaker c.with_last.result _ _
    (λ made is. is ∙ ap (λ l. rows_in c.loop-row.made.items ++ l) (sym (append-nil c.loop-row.part.items))
    ∙ ap (λ (l : List (List Value)). rows_in c.loop-row.made.items ++ (c.loop-row.part.items ++ l)) (sym none) ∙ c.loop-row.invariant.0)
    c.with_last.ensures.rows
