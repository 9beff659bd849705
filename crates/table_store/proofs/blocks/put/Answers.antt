use Rattle.std.proofs.Common.{List, map, ap, ◌∙◌}
use Rattle.std.proofs.lemmas.Result.{on_ok_weaker}
use Rattle.std.specs.BTreeMap.{insert_entry}
use Rattle.svc_values.specs.declared.value.Value.{Value}
use Rattle.svc_values.specs.meaning.Order.{value_cmp}
use Rattle.table_store.specs.Given.{keyed}
use Rattle.table_store.proofs.Placed.{filled_after, one_rises, put_in_place}
use Rattle.table_store.proofs.blocks.put.Goals as goal

pub of-requires : goal.of-requires
of-requires c = one_rises c.in_ok-first.field-0.items c.args.row c.in_ok-first.ensures

pub returns-clause-ok : goal.returns-clause-ok
returns-clause-ok c =
    let key = c.args.key.now in
    let room = c.room_for.new.blocks.items in
    on_ok_weaker c.put.result
    (λ put. put_in_place key c.args.row room c.in_ok-at.at c.index_mut.result.now c.put.new.self c.in_ok-at.ensures.place.0 c.in_ok-at.ensures.place.1
    (put ∙ ap (λ (l : List (List Value)). insert_entry value_cmp (map keyed l) key c.args.row) c.index_mut.ensures.value)
    ∙ ap (λ (l : List (List Value)). insert_entry value_cmp (map keyed l) key c.args.row) c.in_ok-at.ensures.rows)
    c.put.ensures.ok

pub returns-clause-filled : goal.returns-clause-filled
returns-clause-filled c =
    filled_after c.put.result c.room_for.new.blocks.items c.in_ok-at.at c.index_mut.result.now c.put.new.self c.args.key.now c.args.row c.in_ok-at.ensures.filled c.in_ok-at.ensures.place.1 c.index_mut.ensures.value c.put.ensures.ok c.put.ensures.err
