-- One item more of each loop.
use Rattle.std.proofs.Common.{◌≡◌, refl, sym, ap, ◌∙◌, append_assoc, ℕ, ◌+◌, ◌-◌, ◌<◌, ◌≤◌, length, get_or, drop, List, [], ◌∷◌, ◌++◌, map, Option, Some, None, option_map, Bor, arith}
use Rattle.std.specs.Prelude.{slice_get}
use Rattle.std.specs.Option.{option_map_or}
use Rattle.std.proofs.lemmas.List.{drop-drop, drop_more}
use Rattle.std.proofs.lemmas.Option.{slice_get-map}
use Rattle.svc_values.specs.declared.draw.Draw.{Draw}
use Rattle.outage_schedule.specs.declared.event.Event.{Event}
use Rattle.run_clauses.specs.meaning.Moments.{Happened, ServedItem, RanOutside, Asked}
use Rattle.server_model.specs.meaning.Items.{Item}
use Rattle.report_moments.specs.declared.moments.At.{At}
use Rattle.report_moments.specs.declared.moments.Moment.{Moment}
use Rattle.report_moments.specs.Views.{happened_as}
use Rattle.legal_items.specs.Told.{at_place, items_then, served_count, first_kept, items_told}
use Rattle.legal_items.specs.Views.{moment_at}
use Rattle.legal_items.proofs.Standing.{first_drop}

left_is : {A : Type 0} (all : List A) (i : ℕ) (one : A) → i < length all → one ≡ get_or all i one → drop i all ≡ one ∷ drop (i + 1) all
left_is all i one within is = drop_more all i one within ∙ ap (λ x. x ∷ drop (i + 1) all) (sym is)

-- one moment more
pub told_more : (schedule : List Event) (ticks : List ℕ) (kept : List (List Draw)) (all : List Moment) (i next tick count : ℕ) (one : Moment) (draws : List Draw) (before after : List (At × Item))
    → i < length all → one ≡ get_or all i one → tick ≡ get_or ticks (one.event - 1) 0 → draws ≡ first_kept (drop next kept) → count ≡ served_count (happened_as one.what)
    → after ≡ before ++ at_place one.at (items_then schedule tick draws one.event (happened_as one.what))
    → after ++ items_told schedule ticks (drop (next + count) kept) (map moment_at (drop (i + 1) all)) ≡ before ++ items_told schedule ticks (drop next kept) (map moment_at (drop i all))
told_more schedule ticks kept all i next tick count one draws before after within is tick_is draws_are count_is put =
    let rest = items_told schedule ticks (drop count (drop next kept)) (map moment_at (drop (i + 1) all)) in
    ap (λ (left : List (List Draw)). after ++ items_told schedule ticks left (map moment_at (drop (i + 1) all))) (sym (drop-drop count next kept))
    ∙ (ap (λ (items : List (At × Item)). items ++ rest) put
    ∙ (append_assoc before (at_place one.at (items_then schedule tick draws one.event (happened_as one.what))) rest
    ∙ ((λ j. before ++ (at_place one.at (items_then schedule (tick_is j) (draws_are j) one.event (happened_as one.what)) ++ items_told schedule ticks (drop (count_is j) (drop next kept)) (map moment_at (drop (i + 1) all))))
    ∙ ap (λ (left : List Moment). before ++ items_told schedule ticks (drop next kept) (map moment_at left)) (sym (left_is all i one within is)))))

-- what the served item at a place brings
pub draws_first : (kept : List (Bor (List Draw))) (next : ℕ) → option_map_or (λ (draws : Bor (List Draw)). draws.now) (slice_get kept next) [] ≡ first_kept (drop next (map (λ (draws : Bor (List Draw)). draws.now) kept))
draws_first kept next =
    by (slice_get kept next)
    ∙ sym (ap (λ (first : Option (List Draw)). option_map_or (λ (draws : List Draw). draws) first []) (first_drop next (map (λ (draws : Bor (List Draw)). draws.now) kept) ∙ slice_get-map (λ (draws : Bor (List Draw)). draws.now) kept next))
  where
    by : (first : Option (Bor (List Draw))) → option_map_or (λ (draws : Bor (List Draw)). draws.now) first [] ≡ option_map_or (λ (draws : List Draw). draws) (option_map (λ (draws : Bor (List Draw)). draws.now) first) []
    by None = refl
    by (Some draws) = refl

pub one_most : (happened : Happened) (count : ℕ) → count ≡ served_count happened → count ≤ 1
one_most (ServedItem session served) count is = omega (arith, is)
one_most (RanOutside ran) count is = omega (arith, is)
one_most (Asked x told) count is = omega (arith, is)
