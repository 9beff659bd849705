use Rattle.std.proofs.Common.{List, sym, subst, ap, ◌∙◌}
use Rattle.std.proofs.lemmas.Result.{on_ok_weaker}
use Rattle.svc_values.specs.declared.value.Value.{Value}
use Rattle.table_store.specs.Blocks.{AreFilled, entries_in}
use Rattle.table_store.specs.Rows.{KeysRise}
use Rattle.table_store.proofs.Placed.{changed_kept, put_seen}
use Rattle.table_store.proofs.Rising.{put_rises}
use Rattle.table_store.proofs.row_map.RowMap.put.Goals as goal

pub invariant_of-self : goal.invariant_of-self
invariant_of-self c =
    changed_kept c.put.result c.in-Some.blocks.now.items c.put.new.blocks.items c.args.key.now c.exact-row.result (subst (λ v. KeysRise (entries_in v.items)) (sym c.in-Some.ensures.value) c.self.invariant.1) c.put.ensures.filled c.put.ensures.ok c.put.ensures.err

pub invariant_of-self-in-None : goal.invariant_of-self-in-None
invariant_of-self-in-None c =
    let old = c.in_ok-blocks-in-None.blocks.items in
    let rise = subst (λ (l : List (List (List Value))). KeysRise (entries_in l)) (sym (c.in_ok-blocks-in-None.ensures ∙ c.as_slice.ensures.value ∙ ap (λ v. v.items) c.deref.ensures)) c.self.invariant.1 in
    subst (λ v. AreFilled v.items × KeysRise (entries_in v.items)) (sym c.in_ok-self-inside-in-None.ensures.ok)
    (c.put-in-None.ensures.filled, subst KeysRise (sym c.in_ok-put-in-None.ensures.ok) (put_rises (entries_in old) c.args.key.now c.exact-row.result rise))

pub returns-in-Some-clause-ok : goal.returns-in-Some-clause-ok
returns-in-Some-clause-ok c =
    on_ok_weaker c.put.result
    (λ put q. put_seen (entries_in c.in-Some.blocks.now.items) (entries_in c.put.new.blocks.items) c.args.self.now c.args.key.now c.exact-row.result c.args.row q put (ap (λ v. entries_in v.items) c.in-Some.ensures.value ∙ c.self.view_is) c.exact-row.ensures)
    c.put.ensures.ok

pub returns-in-Some-clause-rising : goal.returns-in-Some-clause-rising
returns-in-Some-clause-rising c = (invariant_of-self c).1

pub returns-in_ok-self-inside-in-None-clause-ok : goal.returns-in_ok-self-inside-in-None-clause-ok
returns-in_ok-self-inside-in-None-clause-ok c = λ q.
    let old = c.in_ok-blocks-in-None.blocks.items in
    let same = ap entries_in (c.in_ok-blocks-in-None.ensures ∙ c.as_slice.ensures.value ∙ ap (λ v. v.items) c.deref.ensures) ∙ c.self.view_is in
    put_seen (entries_in old) (entries_in c.in_ok-self-inside-in-None.field-0.value.items) c.args.self.now c.args.key.now c.exact-row.result c.args.row q
    (ap (λ v. entries_in v.items) c.in_ok-self-inside-in-None.ensures.ok ∙ c.in_ok-put-in-None.ensures.ok) same c.exact-row.ensures

pub returns-in_ok-self-inside-in-None-clause-rising : goal.returns-in_ok-self-inside-in-None-clause-rising
returns-in_ok-self-inside-in-None-clause-rising c = (invariant_of-self-in-None c).1
