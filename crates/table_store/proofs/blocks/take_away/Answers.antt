use Rattle.std.proofs.Common.{List, ◌<◌, length, ap, subst, ◌∙◌}
use Rattle.svc_values.specs.declared.value.Value.{Value}
use Rattle.table_store.specs.Blocks.{IsPlaceOf, rows_in, without}
use Rattle.table_store.proofs.Placed.{empty_there, rows_left, taken_in_place}
use Rattle.table_store.proofs.blocks.take_away.Goals as goal

pub returns-then-is_empty-2-clause-ok : goal.returns-then-is_empty-2-clause-ok
returns-then-is_empty-2-clause-ok c =
    let blocks = c.args.blocks.now.items in
    let at = c.place_of-at.result in
    let new = c.take_away.new.self in
    let within = subst (λ (l : List (List (List Value))). at < length l) c.as_slice.ensures.value c.place_of-at.ensures.within in
    let place = subst (λ (l : List (List (List Value))). IsPlaceOf c.args.key.now l at) c.as_slice.ensures.value c.place_of-at.ensures.place in
    ap rows_in c.remove.ensures.items
    ∙ rows_left blocks at new (empty_there blocks at new c.index.result.now c.rows.result.now within c.index.ensures c.rows.ensures.rows c.if-is_empty-2.ensures)
    ∙ taken_in_place c.args.key.now blocks at c.index_mut.result.now new place within (c.in_ok-take_away.ensures.ok ∙ ap (without c.args.key.now) c.index_mut.ensures.value)

pub returns-else-is_empty-2-clause-ok : goal.returns-else-is_empty-2-clause-ok
returns-else-is_empty-2-clause-ok c =
    let blocks = c.args.blocks.now.items in
    let at = c.place_of-at.result in
    let within = subst (λ (l : List (List (List Value))). at < length l) c.as_slice.ensures.value c.place_of-at.ensures.within in
    let place = subst (λ (l : List (List (List Value))). IsPlaceOf c.args.key.now l at) c.as_slice.ensures.value c.place_of-at.ensures.place in
    taken_in_place c.args.key.now blocks at c.index_mut.result.now c.take_away.new.self place within (c.in_ok-take_away.ensures.ok ∙ ap (without c.args.key.now) c.index_mut.ensures.value)
