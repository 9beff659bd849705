-- Where a shown call is from: an item of a connection that its request held, of the call without
-- the mark; or an outcome, where it is a commit with no statement. So its answers never end with
-- CommitInReplay.
use Rattle.std.proofs.Common.{◌≡◌, refl, sym, ap, ◌∙◌, arith, Bool, true, false, ℕ, ◌&&◌, length, List, [], ◌∷◌, Option, Some, None, ◌⊎◌, inl, inr}
use Rattle.std.specs.Prelude.{◌==◌, slice_get}
use Rattle.std.specs.List.{list_any}
use Rattle.std.specs.Option.{option_map_or}
use Rattle.std.proofs.lemmas.Bool.{and_parts, or_cases}
use Rattle.svc_values.specs.declared.answer.Answer.{Answer}
use Rattle.svc_values.specs.declared.answer.Answer.TheVariants as answer
use Rattle.svc_values.specs.declared.call.Call.{Call}
use Rattle.svc_values.specs.declared.draw.Draw.{Draw}
use Rattle.svc_values.specs.meaning.Calls.{is_lone_commit}
use Rattle.svc_values.specs.meaning.Endings.{ends_with}
use Rattle.svc_values.specs.meaning.Same.{same_answers, same_call, same_draws}
use Rattle.svc_values.specs.SameLaws.{same_answers_decide}
use Rattle.outage_schedule.specs.declared.item.Item.{Item}
use Rattle.outage_schedule.specs.declared.item.Item.TheVariants as item
use Rattle.outage_schedule.specs.declared.request.ShownCall.{ShownCall}
use Rattle.once_laws.specs.CommitAnswers.{all_commit_fittingly, commit_fittingly, commits_fittingly, fit_commit}
use Rattle.world_model.specs.meaning.Frames.{Handled}
use Rattle.invariant_laws.specs.Invariant.{Invariant}
use Rattle.world_model.specs.meaning.Links.{Link, link_at}
use Rattle.world_model.specs.Parts.{implies}
use Rattle.invariant_laws.specs.Same.{is_no_commit}
use Rattle.world_model.specs.Sames.{owned_by}
use Rattle.invariant_laws.specs.Shown.{all_from, has_completed, is_from, is_shown_item, item_shows, link_shows, shows_commit}
use Rattle.world_model.specs.Traced.{Traced, Course, courses_of}
use Rattle.world_model.specs.Words.{held_in}
use Rattle.world_model.proofs.Offered.{at_link, at_all, at_any, eq_from, eq_to}
use Rattle.once_laws.proofs.calls.OneCourse.{any_at}
use Rattle.once_laws.proofs.calls.ShownFrom.{from_at}

-- of a call without the mark, with what was shown
pub record IsTold (shown : ShownCall) (told : Item) : Type 0 where
  pub called : Call
  pub answers : List Answer
  pub draws : List Draw
  pub is : told ≡ item.Call false called answers draws
  pub answered : same_answers answers shown.answers ≡ true
  pub drew : same_draws draws shown.draws ≡ true

pub is_told : (call : Call) (shown : ShownCall) (told : Item) → is_shown_item call shown told ≡ true → IsTold shown told
is_told call shown (item.Call false called answers draws) is =
    let one = and_parts (same_call called call) (same_answers answers shown.answers && same_draws draws shown.draws) is in
    let two = and_parts (same_answers answers shown.answers) (same_draws draws shown.draws) one.1 in
    record { called = called; answers = answers; draws = draws; is = refl; answered = two.0; drew = two.1 }
is_told call shown (item.Call true called answers draws) is = absurd (let none : ⊥ = cc in none)
is_told call shown told is = absurd (let none : ⊥ = cc in none)

-- where a shown call is from: an item of a connection that the request held, or an outcome
pub record ShownThere (t : Traced) (course : Course) (index : ℕ) (shown : ShownCall) : Type 0 where
  pub number : ℕ
  pub had : list_any (λ other. other == number) (held_in course.steps) ≡ true
  pub link : Link
  pub there : link_at t.machine.links number ≡ Some link
  pub place : ℕ
  pub one : Handled
  pub at : slice_get link.served place ≡ Some one
  pub own : owned_by course.owner one.sent ≡ true
  pub call : one.sent.call ≡ index
  pub told : IsTold shown one.served.item

pub data ShownBy (t : Traced) (course : Course) (index : ℕ) (shown : ShownCall) : Type 0 where
  ByItem : ShownThere t course index shown → ShownBy t course index shown
  ByCommit : (call : Call) → slice_get course.request.calls index ≡ Some call → is_lone_commit call ≡ true → shows_commit shown ≡ true → ShownBy t course index shown

pub shown_by : (t : Traced) (whole : Invariant t) (number : ℕ) (course : Course) → slice_get (courses_of t) number ≡ Some course → (index : ℕ) (shown : ShownCall) → slice_get course.report.calls index ≡ Some shown → ShownBy t course index shown
shown_by t whole number course at_course index shown at =
    by (slice_get course.request.calls index) refl
    (from_at (has_completed course) t course 0 course.report.calls index index shown (omega arith) (at_all (λ c. all_from (has_completed c) t c 0 c.report.calls) (courses_of t) number course whole.shown.shown at_course) at)
  where
    on : (call : Call) (place : ℕ) (n : ℕ) → slice_get (held_in course.steps) place ≡ Some n → (found : Option Link) → link_at t.machine.links n ≡ found → option_map_or (λ link. list_any (item_shows course index call shown) link.served) found false ≡ true → ShownBy t course index shown
    on call place n held None there any = absurd (let none : ⊥ = cc in none)
    on call place n held (Some link) there any =
        let found = any_at (item_shows course index call shown) link.served any in
        let one : Handled = found.1.0 in
        let first = and_parts (owned_by course.owner one.sent) ((one.sent.call == index) && is_shown_item call shown one.served.item) found.1.1.1 in
        let next = and_parts (one.sent.call == index) (is_shown_item call shown one.served.item) first.1 in
        ByItem
        (record {
          number = n;
          had = at_any (λ other. other == n) (held_in course.steps) place n held (eq_to n n refl);
          link = link;
          there = there;
          place = found.0;
          one = one;
          at = found.1.1.0;
          own = first.0;
          call = eq_from one.sent.call index next.0;
          told = is_told call shown one.served.item next.1;
        })

    by : (call : Option Call) → slice_get course.request.calls index ≡ call → is_from (has_completed course) t course index call shown ≡ true → ShownBy t course index shown
    by None script is = absurd (let none : ⊥ = cc in none)
    by (Some call) script is = cases (or_cases (list_any (link_shows t course index call shown) (held_in course.steps)) (is_lone_commit call && (shows_commit shown && has_completed course)) is)
      where
        cases : (list_any (link_shows t course index call shown) (held_in course.steps) ≡ true) ⊎ ((is_lone_commit call && (shows_commit shown && has_completed course)) ≡ true) → ShownBy t course index shown
        cases (inl any) = let found = any_at (link_shows t course index call shown) (held_in course.steps) any in on call found.0 found.1.0 found.1.1.0 (link_at t.machine.links found.1.0) refl found.1.1.1
        cases (inr lone) =
            let one = and_parts (is_lone_commit call) (shows_commit shown && has_completed course) lone in ByCommit call script one.0 (and_parts (shows_commit shown) (has_completed course) one.1).0

-- CommitInReplay is answered only with the mark
pub never_in_replay : (t : Traced) (whole : Invariant t) → commit_fittingly t ≡ true → (number : ℕ) (course : Course) → slice_get (courses_of t) number ≡ Some course → (index : ℕ) (shown : ShownCall) → slice_get course.report.calls index ≡ Some shown → ends_with is_no_commit shown.answers ≡ false
never_in_replay t whole fits number course at_course index shown at = by (shown_by t whole number course at_course index shown at)
  where
    not_so : (a : Bool) → implies a false ≡ true → a ≡ false
    not_so false is = refl
    not_so true is = absurd (let none : ⊥ = cc in none)

    by : ShownBy t course index shown → ends_with is_no_commit shown.answers ≡ false
    by (ByItem found) =
        let told = found.told in
        let fit : fit_commit false told.called told.answers ≡ true =
        sym (ap commits_fittingly told.is) ∙ at_all (λ one. commits_fittingly one.served.item) found.link.served found.place found.one (at_link all_commit_fittingly t.machine.links found.number found.link fits found.there) found.at in
        ap (ends_with is_no_commit) (sym ((same_answers_decide told.answers shown.answers).0 told.answered))
        ∙ not_so (ends_with is_no_commit told.answers) (and_parts (implies (ends_with is_no_commit told.answers) false) _ fit).0
    by (ByCommit call script lone plain) = ap (ends_with is_no_commit) ((same_answers_decide shown.answers (answer.Committed ∷ [])).0 (and_parts (same_answers shown.answers (answer.Committed ∷ [])) (length shown.draws == 0) plain).0)
