use Rattle.std.proofs.Common.{◌≡◌, ◌+◌, ◌++◌, ◌∙◌, ◌<◌, ◌≤◌, [], ◌∷◌, List, take, drop, length, refl, sym, ap, subst, arith, length-drop}
use Rattle.std.specs.Prelude.{slice_get, Some, All}
use Rattle.std.proofs.lemmas.List.{drop-drop}
use Rattle.std.proofs.lemmas.List.Elements.{All-append, All-push, All-take, All-drop}
use Rattle.std.proofs.lemmas.Option.{slice_get_read}
use Rattle.outage_schedule.specs.declared.item.Served.{Served}
use Rattle.run_clauses.specs.meaning.Moments.{before_event, from_event, in_order}
use Rattle.report_moments.specs.declared.moments.Moment.{Moment}
use Rattle.report_moments.specs.Views.{moments_as}
use Rattle.report_moments.specs.Places.{IsPlaced}
use Rattle.report_moments.proofs.Lists.{left_is}
use Rattle.report_moments.proofs.Merging.{order_on, put_on}
use Rattle.report_moments.proofs.Placed.{item_placed}
use Rattle.report_moments.proofs.moments.in_order.Goals as goal

pub loop-at-preserved : goal.loop-at-preserved
loop-at-preserved c =
    let report = c.args.report.now in
    let notes = c.args.notes.now in
    let items = c.as_slice-items.result.now in
    let i = c.loop-at.at in
    let next = c.loop-at.next in
    let one = c.index-items-at.result in
    let count = c.in_ok-count.count in
    let all = c.loop-at.all.items in
    let left = drop next notes in
    let moment = c.moment_of_item.result in
    let put : c.push.new.self.items ≡ (all ++ take count left) ++ moment ∷ [] =
    c.in_ok-push.ensures.items
    ∙ ap (λ (l : List Moment). l ++ moment ∷ []) (c.in_ok-count.ensures.pushed ∙ ap (λ (l : List Moment). all ++ take count l) c.behind.ensures) in
    let before : moments_as (take count left) ≡ before_event one.event (moments_as left) =
    sym (ap (λ (l : List Moment). moments_as (take count l)) c.behind.ensures) ∙ c.in_ok-count.ensures.before ∙ ap (λ (l : List Moment). before_event one.event (moments_as l)) c.behind.ensures in
    let rest : moments_as (drop (next + count) notes) ≡ from_event one.event (moments_as left) =
    ap moments_as (sym (drop-drop count next notes) ∙ ap (drop count) (sym c.behind.ensures)) ∙ c.in_ok-count.ensures.left ∙ ap (λ (l : List Moment). from_event one.event (moments_as l)) c.behind.ensures in
    let is = ap moments_as put ∙ put_on all (take count left) moment one (moments_as left) before c.moment_of_item.ensures.told in
    let within : i < length items = omega arith in
    let short : count ≤ length left = omega (arith, c.in_ok-count.ensures.within, ap length c.behind.ensures) in
    let here : slice_get items i ≡ Some one = slice_get_read items (length items) i one refl within c.index-items-at.is in
    let there : slice_get report.served i ≡ Some one = sym (ap (λ (l : List Served). slice_get l i) c.as_slice-items.ensures) ∙ here in
    let P : List Moment → Type 0 = All (IsPlaced report) in
    record {
      told =
          order_on (moments_as all) (moments_as c.push.new.self.items) one (drop (i + 1) items) (moments_as left) (moments_as (drop (next + count) notes)) is rest
          ∙ ap (λ (l : List Served). moments_as all ++ in_order l (moments_as left)) (sym (left_is items i one within c.index-items-at.is))
          ∙ c.loop-at.invariant.told;
      within = let long = length-drop next notes in let before = c.loop-at.invariant.within in omega (arith, long, short, before);
      placed = λ noted.
          subst P (sym put)
          (All-push (IsPlaced report) (all ++ take count left) moment
          (All-append (IsPlaced report) all (take count left) (c.loop-at.invariant.placed noted) (All-take (IsPlaced report) count left (All-drop (IsPlaced report) next notes noted)))
          (item_placed report i one moment there c.moment_of_item.ensures.told c.moment_of_item.ensures.place));
    }
