use Rattle.std.proofs.Common.{◌≡◌, rules, List, ◌∷◌, map, sym, ap, ◌∙◌}
use Rattle.std.specs.Prelude.{Some}
use Rattle.std.specs.Map.{update, update_all}
use Rattle.std.specs.Ordering.{eq_by_cmp}
use Rattle.std.proofs.lemmas.Result.{on_ok_weaker}
use Rattle.svc_values.specs.declared.value.Value.{Value}
use Rattle.svc_values.specs.meaning.Order.{value_cmp}
use Rattle.svc_values.specs.meaning.Schemas.{key_of}
use Rattle.table_store.specs.Given.{keyed}
use Rattle.table_store.specs.Rows.{keyed_of}
use Rattle.table_store.proofs.Placed.{filled_found, filled_rise}
use Rattle.table_store.proofs.Same.{same_updates}
use Rattle.table_store.proofs.row_map.RowMap.put_all.Goals as goal

pub loop-row-init : goal.loop-row-init
loop-row-init c =
    let whole : c.into_iter-row-iterator.result.rest.items ≡ c.args.rows.items = search rules in (
      c.is_filled_by.ensures.rising,
      λ q. ap (λ (l : List (List Value)). update_all (eq_by_cmp value_cmp) (keyed_of c.args.self.now) (map keyed l) q) whole,
    )

pub loop-row-preserved : goal.loop-row-preserved
loop-row-preserved c =
    let rest = c.next.new.self.rest.items in
    let before = keyed_of c.loop-row.self in
    let next : c.loop-row.row-iterator.rest.items ≡ c.in-Some.row ∷ rest = search rules in (
      c.in_ok-put_at_own.ensures.rising,
      λ q. same_updates (keyed_of c.put_at_own.new.self) (update (eq_by_cmp value_cmp) before (key_of c.in-Some.row) (Some c.in-Some.row)) c.in_ok-put_at_own.ensures.ok (map keyed rest) q
          ∙ ap (λ (l : List (List Value)). update_all (eq_by_cmp value_cmp) before (map keyed l) q) (sym next)
          ∙ c.loop-row.invariant.1 q,
    )

pub fill-requires : goal.fill-requires
fill-requires c = filled_rise c.args.self.now c.as_slice.result.now c.args.rows.items c.as_slice.ensures.value c.if-is_filled_by.ensures.filled

pub returns-then-is_filled_by-clause-ok : goal.returns-then-is_filled_by-clause-ok
returns-then-is_filled_by-clause-ok c =
    on_ok_weaker c.fill.result (filled_found c.args.self.now c.as_slice.result.now c.args.rows.items c.fill.new.self c.as_slice.ensures.value c.if-is_filled_by.ensures.filled) c.fill.ensures.ok
