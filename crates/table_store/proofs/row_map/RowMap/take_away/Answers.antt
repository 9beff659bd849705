use Rattle.std.proofs.Common.{List, map, sym, subst, ap, ◌∙◌}
use Rattle.std.proofs.lemmas.Result.{on_ok_weaker}
use Rattle.svc_values.specs.declared.value.Value.{Value}
use Rattle.table_store.specs.Blocks.{AreFilled, entries_in, rows_in}
use Rattle.table_store.specs.Given.{keyed}
use Rattle.table_store.specs.Rows.{KeysRise}
use Rattle.table_store.proofs.Placed.{left_kept, taken_rises, taken_seen}
use Rattle.table_store.proofs.row_map.RowMap.take_away.Goals as goal

pub invariant_of-self : goal.invariant_of-self
invariant_of-self c =
    left_kept c.take_away.result c.in-Some.blocks.now.items c.take_away.new.blocks.items c.args.key.now (subst (λ v. KeysRise (entries_in v.items)) (sym c.in-Some.ensures.value) c.self.invariant.1) c.take_away.ensures.filled c.take_away.ensures.ok c.take_away.ensures.err

pub invariant_of-self-in-None : goal.invariant_of-self-in-None
invariant_of-self-in-None c =
    let old = c.in_ok-blocks-in-None.blocks.items in
    let rise = subst (λ (l : List (List (List Value))). KeysRise (entries_in l)) (sym (c.in_ok-blocks-in-None.ensures ∙ c.as_slice.ensures.value ∙ ap (λ v. v.items) c.deref.ensures)) c.self.invariant.1 in
    subst (λ v. AreFilled v.items × KeysRise (entries_in v.items)) (sym c.in_ok-self-inside-in-None.ensures.ok)
    (c.take_away-in-None.ensures.filled, subst (λ (l : List (List Value)). KeysRise (map keyed l)) (sym c.in_ok-take_away-in-None.ensures.ok) (taken_rises (rows_in old) c.args.key.now rise))

pub returns-in-Some-clause-ok : goal.returns-in-Some-clause-ok
returns-in-Some-clause-ok c =
    on_ok_weaker c.take_away.result
    (λ taken q. taken_seen (rows_in c.in-Some.blocks.now.items) (rows_in c.take_away.new.blocks.items) c.args.self.now c.args.key.now q taken (ap (λ v. entries_in v.items) c.in-Some.ensures.value ∙ c.self.view_is))
    c.take_away.ensures.ok

pub returns-in-Some-clause-rising : goal.returns-in-Some-clause-rising
returns-in-Some-clause-rising c = (invariant_of-self c).1

pub returns-in_ok-self-inside-in-None-clause-ok : goal.returns-in_ok-self-inside-in-None-clause-ok
returns-in_ok-self-inside-in-None-clause-ok c = λ q.
    let old = c.in_ok-blocks-in-None.blocks.items in
    let same = ap entries_in (c.in_ok-blocks-in-None.ensures ∙ c.as_slice.ensures.value ∙ ap (λ v. v.items) c.deref.ensures) ∙ c.self.view_is in
    taken_seen (rows_in old) (rows_in c.in_ok-self-inside-in-None.field-0.value.items) c.args.self.now c.args.key.now q
    (ap (λ v. rows_in v.items) c.in_ok-self-inside-in-None.ensures.ok ∙ c.in_ok-take_away-in-None.ensures.ok) same

pub returns-in_ok-self-inside-in-None-clause-rising : goal.returns-in_ok-self-inside-in-None-clause-rising
returns-in_ok-self-inside-in-None-clause-rising c = (invariant_of-self-in-None c).1
