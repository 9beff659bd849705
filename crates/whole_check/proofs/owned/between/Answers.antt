use Rattle.std.proofs.Common.{◌∙◌, sym, ap, map}
use Rattle.std.proofs.lemmas.Slice.{between_is}
use Rattle.whole_check.specs.Views.{owned_as}
use Rattle.whole_check.proofs.Owning.{between_is_run, between_nothing}
use Rattle.whole_check.proofs.owned.between.Goals as goal

pub returns-then-start-end : goal.returns-then-start-end
returns-then-start-end c = sym (between_nothing c.args.first c.args.last c.args.owned.now _ _ c.count_before-start.ensures.point c.count_up_to-end.ensures.point c.if-start-end.true)

pub returns : goal.returns
returns c =
    let owned = c.args.owned.now in
    ap (map owned_as) (between_is owned c.count_before-start.result c.count_up_to-end.result)
    ∙ sym (between_is_run c.args.first c.args.last owned _ _ c.count_before-start.ensures.point c.count_up_to-end.ensures.point)
