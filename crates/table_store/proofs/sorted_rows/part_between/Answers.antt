use Rattle.std.proofs.Common.{map, sym, ap, ◌∙◌}
use Rattle.std.proofs.lemmas.Slice.{between_is as cut_is}
use Rattle.std.specs.Range.Bound.{bound_map}
use Rattle.table_store.specs.Given.{keyed}
use Rattle.table_store.proofs.Rising.{between_is, between_none}
use Rattle.table_store.proofs.sorted_rows.part_between.Goals as goal

pub returns-then-start-end : goal.returns-then-start-end
returns-then-start-end c =
    sym (between_none (bound_map (λ x. x.now) c.args.from) (bound_map (λ x. x.now) c.args.to) c.args.rows.now _ _ c.start_of-start.ensures.point c.end_of-end.ensures.point c.if-start-end.true)

pub returns : goal.returns
returns c =
    ap (map keyed) (cut_is c.args.rows.now c.start_of-start.result c.end_of-end.result)
    ∙ sym (between_is (bound_map (λ x. x.now) c.args.from) (bound_map (λ x. x.now) c.args.to) c.args.rows.now _ _ c.start_of-start.ensures.point c.end_of-end.ensures.point)
