-- Each call of a request behind which it sent a further one on the same connection was answered as
-- it was shown, and drew the granted values that were shown, where no digests clash.
use Rattle.std.proofs.Common.{◌≡◌, refl, ap, Bool, true, false, ℕ, ◌-◌, ◌&&◌, filter, length, List, Option, Some, None}
use Rattle.std.specs.Prelude.{slice_get}
use Rattle.std.specs.List.{list_all}
use Rattle.std.specs.Option.{option_map_or}
use Rattle.std.proofs.lemmas.Bool.{and_parts, and_from}
use Rattle.svc_values.specs.declared.answer.Answer.{Answer}
use Rattle.svc_values.specs.declared.draw.Draw.{Draw}
use Rattle.svc_values.specs.meaning.Same.{same_answers, same_draws}
use Rattle.svc_values.specs.SameLaws.{same_draws_decide}
use Rattle.outage_schedule.specs.declared.item.Item.{Item}
use Rattle.outage_schedule.specs.declared.item.Item.TheVariants as item
use Rattle.outage_schedule.specs.declared.request.ShownCall.{ShownCall}
use Rattle.world_model.specs.meaning.Frames.{Handled}
use Rattle.world_model.specs.meaning.Links.{Link}
use Rattle.world_model.specs.Parts.{implies}
use Rattle.once_laws.specs.Redrawn.{one_redraws, redraws, redraws_on}
use Rattle.world_model.specs.Sames.{owned_by}
use Rattle.invariant_laws.specs.Shown.{calls_on, is_call}
use Rattle.world_model.specs.Traced.{Course}
use Rattle.invariant_laws.specs.Verified.{answers_as, gone_behind, is_answered_so, is_verified, is_verified_item, knows_answers, served_calls, verifies}
use Rattle.world_model.proofs.Offered.{filter_all, filter_passes, weaker_all, implied}
use Rattle.invariant_laws.proofs.Offered.{both_all}
use Rattle.once_laws.proofs.calls.RanAgrees.{is_told_so, told_so}
use Rattle.once_laws.proofs.calls.VerifiedLists.{take_all}

-- answers and granted draws are the shown ones
abbrev pub tells_as : (Draw → Bool) → ShownCall → List Answer → List Draw → Bool
tells_as granted shown answers draws = same_answers answers shown.answers && same_draws (filter granted draws) (filter granted shown.draws)

pub same_granted : (granted : Draw → Bool) (a b : List Draw) → same_draws a b ≡ true → same_draws (filter granted a) (filter granted b) ≡ true
same_granted granted a b same = (same_draws_decide (filter granted a) (filter granted b)).1 (ap (filter granted) ((same_draws_decide a b).0 same))

module _ (digest : List Answer → List ℕ) (granted : Draw → Bool) (course : Course) where
  -- what a repeated call drew, by what was shown
  abbrev drew_again : Option ShownCall → Item → Bool
  drew_again found (item.Call true called answers draws) = option_map_or (λ shown. implies (same_answers answers shown.answers) (same_draws (filter granted draws) (filter granted shown.draws))) found true
  drew_again found _ = true

  redrew : (one : Handled) (told : Item) → redraws granted course one.sent told ≡ true → drew_again (slice_get course.report.calls one.sent.call) told ≡ true
  redrew one (item.Call true called answers draws) is = is
  redrew one (item.Call false called answers draws) is = refl
  redrew one told is = refl

  item_agrees : (shown : ShownCall) (told : Item) → is_verified_item digest shown told ≡ true → answers_as shown told ≡ true → drew_again (Some shown) told ≡ true → told_so course (tells_as granted) shown told ≡ true
  item_agrees shown (item.Call false called answers draws) verified answered drew =
      and_from (same_answers answers shown.answers) (same_draws (filter granted draws) (filter granted shown.draws)) answered
      (same_granted granted draws shown.draws (and_parts (same_answers answers shown.answers) (same_draws draws shown.draws) verified).1)
  item_agrees shown (item.Call true called answers draws) verified answered drew =
      and_from (same_answers answers shown.answers) (same_draws (filter granted draws) (filter granted shown.draws)) answered (implied (same_answers answers shown.answers) (same_draws (filter granted draws) (filter granted shown.draws)) answered drew)
  item_agrees shown told verified answered drew = absurd (let none : ⊥ = cc in none)

  call_agrees : (one : Handled) → owned_by course.owner one.sent ≡ true → is_verified digest course one ≡ true → is_answered_so course one ≡ true → one_redraws granted course one ≡ true → is_told_so course (tells_as granted) one ≡ true
  call_agrees one mine verified answered drew =
      by (slice_get course.report.calls one.sent.call) verified answered (redrew one one.served.item (implied (owned_by course.owner one.sent) (redraws granted course one.sent one.served.item) mine drew))
    where
      by : (found : Option ShownCall) → option_map_or (λ shown. is_verified_item digest shown one.served.item) found false ≡ true → option_map_or (λ shown. answers_as shown one.served.item) found false ≡ true → drew_again found one.served.item ≡ true
          → option_map_or (λ shown. told_so course (tells_as granted) shown one.served.item) found false ≡ true
      by None verified answered drew = absurd (let none : ⊥ = cc in none)
      by (Some shown) verified answered drew = item_agrees shown one.served.item verified answered drew

  pub link_agrees : (link : Link) → verifies digest course link ≡ true → knows_answers course link ≡ true → redraws_on granted course link ≡ true → list_all (is_told_so course (tells_as granted)) (gone_behind course link) ≡ true
  link_agrees link verified answered drew =
      weaker_all (λ one. mine one && (is_verified digest course one && (is_answered_so course one && one_redraws granted course one))) (is_told_so course (tells_as granted)) (gone_behind course link)
      (λ one all.
      let first = and_parts (mine one) (is_verified digest course one && (is_answered_so course one && one_redraws granted course one)) all in
      let next = and_parts (is_verified digest course one) (is_answered_so course one && one_redraws granted course one) first.1 in
      let last = and_parts (is_answered_so course one) (one_redraws granted course one) next.1 in
      call_agrees one (and_parts (owned_by course.owner one.sent) (is_call one.sent.frame) first.0).0 next.0 last.0 last.1)
      (both_all mine (λ one. is_verified digest course one && (is_answered_so course one && one_redraws granted course one)) (gone_behind course link) (take_all mine (length (calls_on course link) - 1) (served_calls course link) (filter_passes mine link.served))
      (both_all (is_verified digest course) (λ one. is_answered_so course one && one_redraws granted course one) (gone_behind course link) verified
      (both_all (is_answered_so course) (one_redraws granted course) (gone_behind course link) answered (take_all (one_redraws granted course) (length (calls_on course link) - 1) (served_calls course link) (filter_all (one_redraws granted course) mine link.served drew)))))
    where
      mine : Handled → Bool
      mine one = owned_by course.owner one.sent && is_call one.sent.frame
