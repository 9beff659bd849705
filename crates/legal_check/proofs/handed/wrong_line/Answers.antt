use Rattle.std.proofs.Common.{◌++◌, [], ◌∙◌, List, refl, sym, ap}
use Rattle.legal_items.specs.Views.{item_in}
use Rattle.server_model.specs.meaning.Legal.{Line, lines_stand}
use Rattle.legal_check.specs.Handed.{lines_at}
use Rattle.legal_check.proofs.Lines.{one_more, none_left}
use Rattle.legal_check.proofs.handed.wrong_line.Goals as goal

pub loop-one-init : goal.loop-one-init
loop-one-init c = record { lines = []; stand = c.in_ok-standing.ensures; whole = refl }

pub returns-then-not-goes_on : goal.returns-then-not-goes_on
returns-then-not-goes_on c =
    let alerts = c.args.alerts.now in
    let come = c.loop-one.invariant in
    let whole = one_more come.lines c.args.items.now c.loop-one.one-index c.one-item.result c.loop-one-test.true c.one-item.is come.whole in
    let ends = c.goes_on.ensures.ends come.lines come.stand c.if-not-goes_on.true in
    sym (ap (λ (l : List Line). lines_stand l alerts) (sym whole) ∙ c.fronts_decide.ensures.none _ _ alerts ends)

pub loop-one-preserved : goal.loop-one-preserved
loop-one-preserved c =
    let come = c.loop-one.invariant in
    record {
      lines = come.lines ++ lines_at (item_in c.one-item.result);
      stand = c.goes_on.ensures.goes come.lines come.stand;
      whole = one_more come.lines c.args.items.now c.loop-one.one-index c.one-item.result c.loop-one-test.true c.one-item.is come.whole;
    }

pub returns-then-is_whole : goal.returns-then-is_whole
returns-then-is_whole c =
    let come = c.loop-one.invariant in
    let whole = none_left come.lines c.args.items.now c.loop-one.one-index c.loop-one-test.false come.whole in
    sym c.if-is_whole.true ∙ (c.is_whole.ensures come.lines c.args.alerts.now come.stand ∙ ap (λ (l : List Line). lines_stand l c.args.alerts.now) whole)

pub returns : goal.returns
returns c =
    let come = c.loop-one.invariant in
    let whole = none_left come.lines c.args.items.now c.loop-one.one-index c.loop-one-test.false come.whole in
    sym c.if-is_whole.false ∙ (c.is_whole.ensures come.lines c.args.alerts.now come.stand ∙ ap (λ (l : List Line). lines_stand l c.args.alerts.now) whole)
