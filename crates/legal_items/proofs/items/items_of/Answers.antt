use Rattle.std.proofs.Common.{◌∙◌, ap, map}
use Rattle.legal_items.specs.Told.{ticks_from, items_told}
use Rattle.legal_items.specs.Views.{moment_at}
use Rattle.legal_items.proofs.Placing.{told_so, placed_so}
use Rattle.legal_items.proofs.items.items_of.Goals as goal

pub returns : goal.returns
returns c =
    let document = c.args.document.now in
    let report = c.args.report.now in
    let items = c.in_ok-items.items.items in
    let all = c.in_ok-moments.moments.items in
    let ticks = c.as_slice-2.ensures.value ∙ (c.in_ok-ticks.ensures ∙ ap (ticks_from 0) c.as_slice.ensures) in
    let kept = ap (map (λ draws. draws.now)) c.as_slice-3.ensures.value ∙ c.in_ok-kept.ensures in
    let are = c.in_ok-items.ensures ∙ (λ i. items_told (c.as_slice-schedule.ensures i) (ticks i) (kept i) (map moment_at (c.as_slice-4.ensures.value i))) in
    record {
      told = told_so document report items all c.requires are c.in_ok-moments.ensures.told;
      placed = placed_so report document.schedule _ _ items all are c.in_ok-moments.ensures.placed;
    }
