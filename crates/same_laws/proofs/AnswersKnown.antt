-- Where no two answers that are compared have one digest by chance, a request knows the answers to
-- each call behind which it went on.
use Rattle.std.proofs.Common.{◌≡◌, refl, sym, Bool, true, false, ℕ, ◌-◌, ◌&&◌, ◌||◌, length, List, Option, Some, None}
use Rattle.std.specs.Prelude.{not, slice_get}
use Rattle.std.specs.List.{list_all}
use Rattle.std.specs.Option.{option_map_or}
use Rattle.std.specs.Str.{bytes_eq}
use Rattle.std.proofs.lemmas.Bool.{and_parts}
use Rattle.svc_values.specs.declared.answer.Answer.{Answer}
use Rattle.svc_values.specs.meaning.Same.{same_answers, same_draws}
use Rattle.svc_values.specs.SameLaws.{same_answers_decide}
use Rattle.outage_schedule.specs.declared.item.Item.{Item}
use Rattle.outage_schedule.specs.declared.item.Item.TheVariants as item
use Rattle.outage_schedule.specs.declared.request.ShownCall.{ShownCall}
use Rattle.world_model.specs.meaning.Frames.{Handled}
use Rattle.world_model.specs.meaning.Links.{Link, link_at}
use Rattle.world_model.specs.Sames.{owned_by}
use Rattle.invariant_laws.specs.Shown.{calls_on, is_call}
use Rattle.world_model.specs.Traced.{Traced, Course, courses_of}
use Rattle.invariant_laws.specs.Verified.{answers_as, answers_known, are_verified, clashes_not, gone_behind, is_answered_so, is_no_clash, is_verified, is_verified_item, knows_answers, none_clash, on_held, served_calls, verifies}
use Rattle.world_model.specs.Words.{held_in}
use Rattle.world_model.proofs.Offered.{filter_all, filter_passes, weaker_all, implied}
use Rattle.invariant_laws.proofs.Offered.{both_all}
use Rattle.once_laws.proofs.Offered.{take_all}

module _ (digest : List Answer → List ℕ) where
  -- one item: its digest is that of what was shown, and so are its answers
  item_known : (shown : ShownCall) (one : Item) → is_verified_item digest shown one ≡ true → clashes_not digest shown one ≡ true → answers_as shown one ≡ true
  item_known shown (item.Call false call answers draws) verified alike = (and_parts (same_answers answers shown.answers) (same_draws draws shown.draws) verified).0
  item_known shown (item.Call true call answers draws) verified alike = by (bytes_eq (digest shown.answers) (digest answers)) verified alike
    where
      by : (same : Bool) → same ≡ true → (not same || same_answers shown.answers answers) ≡ true → same_answers answers shown.answers ≡ true
      by true is so = (same_answers_decide answers shown.answers).1 (sym ((same_answers_decide shown.answers answers).0 so))
      by false is so = absurd (let none : ⊥ = cc in none)
  item_known shown one verified alike = absurd (let none : ⊥ = cc in none)

  module _ (course : Course) where
    -- a call of the request
    call_known : (one : Handled) → (owned_by course.owner one.sent && is_call one.sent.frame) ≡ true → is_verified digest course one ≡ true → is_no_clash digest course one ≡ true → is_answered_so course one ≡ true
    call_known one mine verified alike =
        by (slice_get course.report.calls one.sent.call) verified
        (implied (owned_by course.owner one.sent) (option_map_or (λ shown. clashes_not digest shown one.served.item) (slice_get course.report.calls one.sent.call) true) (and_parts (owned_by course.owner one.sent) (is_call one.sent.frame) mine).0 alike)
      where
        by : (found : Option ShownCall) → option_map_or (λ shown. is_verified_item digest shown one.served.item) found false ≡ true → option_map_or (λ shown. clashes_not digest shown one.served.item) found true ≡ true
            → option_map_or (λ shown. answers_as shown one.served.item) found false ≡ true
        by None verified alike = verified
        by (Some shown) verified alike = item_known shown one.served.item verified alike

    link_known : (link : Link) → verifies digest course link ≡ true → list_all (is_no_clash digest course) link.served ≡ true → knows_answers course link ≡ true
    link_known link verified alike =
        weaker_all (λ one. is_verified digest course one && (is_no_clash digest course one && mine one)) (is_answered_so course) (gone_behind course link)
        (λ one all.
        let first = and_parts (is_verified digest course one) (is_no_clash digest course one && mine one) all in
        let next = and_parts (is_no_clash digest course one) (mine one) first.1 in
        call_known one next.1 first.0 next.0)
        (both_all (is_verified digest course) (λ one. is_no_clash digest course one && mine one) (gone_behind course link) verified
        (both_all (is_no_clash digest course) mine (gone_behind course link)
        (take_all (is_no_clash digest course) (length (calls_on course link) - 1) (served_calls course link) (filter_all (is_no_clash digest course) mine link.served alike))
        (take_all mine (length (calls_on course link) - 1) (served_calls course link) (filter_passes mine link.served))))
      where
        mine : Handled → Bool
        mine one = owned_by course.owner one.sent && is_call one.sent.frame

-- the connections that a request held
held_known : (t : Traced) (course : Course) → on_held t course (verifies t.setting.terms.digest course) ≡ true → on_held t course (λ link. list_all (is_no_clash t.setting.terms.digest course) link.served) ≡ true → on_held t course (knows_answers course) ≡ true
held_known t course verified alike =
    weaker_all (λ number. option_map_or (verifies t.setting.terms.digest course) (link_at t.machine.links number) true && option_map_or (λ link. list_all (is_no_clash t.setting.terms.digest course) link.served) (link_at t.machine.links number) true)
    (λ number. option_map_or (knows_answers course) (link_at t.machine.links number) true) (held_in course.steps)
    (λ number both.
    let parts = and_parts (option_map_or (verifies t.setting.terms.digest course) (link_at t.machine.links number) true) (option_map_or (λ link. list_all (is_no_clash t.setting.terms.digest course) link.served) (link_at t.machine.links number) true) both in
    by (link_at t.machine.links number) parts.0 parts.1)
    (both_all (λ number. option_map_or (verifies t.setting.terms.digest course) (link_at t.machine.links number) true)
    (λ number. option_map_or (λ link. list_all (is_no_clash t.setting.terms.digest course) link.served) (link_at t.machine.links number) true) (held_in course.steps) verified alike)
  where
    by : (found : Option Link) → option_map_or (verifies t.setting.terms.digest course) found true ≡ true → option_map_or (λ link. list_all (is_no_clash t.setting.terms.digest course) link.served) found true ≡ true → option_map_or (knows_answers course) found true ≡ true
    by None verified alike = refl
    by (Some link) verified alike = link_known t.setting.terms.digest course link verified alike

pub all_known : (t : Traced) → are_verified t ≡ true → none_clash t ≡ true → answers_known t ≡ true
all_known t verified alike =
    weaker_all (λ course. on_held t course (verifies t.setting.terms.digest course) && on_held t course (λ link. list_all (is_no_clash t.setting.terms.digest course) link.served)) (λ course. on_held t course (knows_answers course)) (courses_of t)
    (λ course both.
    let parts = and_parts (on_held t course (verifies t.setting.terms.digest course)) (on_held t course (λ link. list_all (is_no_clash t.setting.terms.digest course) link.served)) both in
    held_known t course parts.0 parts.1)
    (both_all (λ course. on_held t course (verifies t.setting.terms.digest course)) (λ course. on_held t course (λ link. list_all (is_no_clash t.setting.terms.digest course) link.served)) (courses_of t) verified alike)
