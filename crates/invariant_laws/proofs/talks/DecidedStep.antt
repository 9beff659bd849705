-- Where a client steps and sends Begin, the call that follows is the request's first one, or the
-- one before it was shown with a decided commit.
use Rattle.std.proofs.Common.{◌≡◌, refl, ap, subst, ◌∙◌, append_assoc, Bool, true, false, ℕ, ◌+◌, ◌-◌, cond, length, List, [], ◌∷◌, ◌++◌, map, Option, Some, None, ◌⊎◌, inl, inr, arith}
use Rattle.std.specs.Prelude.{◌==◌, slice_get}
use Rattle.std.specs.List.{list_all}
use Rattle.std.specs.Option.{option_map_or}
use Rattle.std.proofs.lemmas.Bool.{and_from, or_cases, or_left, or_right}
use Rattle.std.proofs.lemmas.List.{length-map, length_push, map-append}
use Rattle.svc_values.specs.declared.answer.Answer.TheVariants as answer
use Rattle.svc_values.specs.declared.call.Call.{Call}
use Rattle.svc_values.specs.declared.frame.Up.{Up}
use Rattle.svc_values.specs.declared.frame.Up.TheVariants as up
use Rattle.request_bounds.specs.meaning.Replies.{ends_decided}
use Rattle.outage_schedule.specs.declared.request.ShownCall.{ShownCall}
use Rattle.client_model.specs.declared.act.Shown.{Shown}
use Rattle.client_model.specs.meaning.States.{Living, Asking}
use Rattle.client_model.specs.meaning.Talk.{talk_step}
use Rattle.client_model.specs.meaning.Terms.{Terms, Asked, Running}
use Rattle.run_clauses.specs.meaning.Reports.{shown_call}
use Rattle.world_model.specs.meaning.Acting.{call_in}
use Rattle.world_model.specs.meaning.Clients.{Step, Doing, client_at}
use Rattle.world_model.specs.records.Conversing.{AllTalk}
use Rattle.invariant_laws.specs.FirstCalls.{begins_behind, is_behind_decided}
use Rattle.world_model.specs.meaning.Machines.{Machine}
use Rattle.world_model.specs.records.Script.{behind_decided, is_kept, recorded_from}
use Rattle.world_model.specs.Traced.{Traced, courses_of}
use Rattle.invariant_laws.proofs.talks.BeginsStep.{IsRule, asked_by, call_is, lost_call}
use Rattle.world_model.proofs.Offered.{HasStepped, HasMore, ShownMore, get_further, get_last, account_now, shown_later, first_step, first_doing, behind_first, request_after, eq_to}
use Rattle.invariant_laws.proofs.rows.KeptRows.{before_kept}
use Rattle.invariant_laws.proofs.rows.RowSteps.{shown_after, shown_more}
use Rattle.invariant_laws.proofs.talks.TalkOpens.{Opening, NoBegin, First, Behind, Again, heard_in, no_begins, step_opens}

-- LISTS OF SHOWN CALLS ----------------------------------------------------------------------------

pub decided_more : (shown more : List ShownCall) (index : ℕ) → is_behind_decided shown index ≡ true → is_behind_decided (shown ++ more) index ≡ true
decided_more shown more index is = by (or_cases (index == 0) (option_map_or (λ one. ends_decided one.answers) (slice_get shown (index - 1)) false) is)
  where
    found : (one : Option ShownCall) → slice_get shown (index - 1) ≡ one → option_map_or (λ one. ends_decided one.answers) one false ≡ true → option_map_or (λ one. ends_decided one.answers) (slice_get (shown ++ more) (index - 1)) false ≡ true
    found None at decided = absurd (let none : ⊥ = cc in none)
    found (Some one) at decided = ap (λ (found : Option ShownCall). option_map_or (λ one. ends_decided one.answers) found false) (get_further shown more (index - 1) one at) ∙ decided

    by : ((index == 0) ≡ true) ⊎ (option_map_or (λ one. ends_decided one.answers) (slice_get shown (index - 1)) false ≡ true) → is_behind_decided (shown ++ more) index ≡ true
    by (inl first) = or_left (index == 0) (option_map_or (λ one. ends_decided one.answers) (slice_get (shown ++ more) (index - 1)) false) first
    by (inr behind) = or_right (index == 0) (option_map_or (λ one. ends_decided one.answers) (slice_get (shown ++ more) (index - 1)) false) (found (slice_get shown (index - 1)) refl behind)

-- behind the last one
decided_last : (shown : List ShownCall) (one : ShownCall) (index : ℕ) → index ≡ length shown + 1 → ends_decided one.answers ≡ true → is_behind_decided (shown ++ one ∷ []) index ≡ true
decided_last shown one index is decided =
    let before : index - 1 ≡ length shown = omega (arith, is) in
    or_right (index == 0) (option_map_or (λ one. ends_decided one.answers) (slice_get (shown ++ one ∷ []) (index - 1)) false)
    (ap (λ (n : ℕ). option_map_or (λ one. ends_decided one.answers) (slice_get (shown ++ one ∷ []) n) false) before
    ∙ ap (λ (found : Option ShownCall). option_map_or (λ one. ends_decided one.answers) found false) (get_last shown one) ∙ decided)

-- what is recorded begins there
recorded_decided : (found : ℕ) (front rest : List ShownCall) → is_behind_decided front found ≡ true → is_behind_decided (front ++ rest) (behind_decided found (length front) rest) ≡ true
recorded_decided found front [] is = decided_more front [] found is
recorded_decided found front (one ∷ rest) is =
    subst (λ (all : List ShownCall). is_behind_decided all (behind_decided (cond (ends_decided one.answers) (length front + 1) found) (length front + 1) rest) ≡ true) (append_assoc front (one ∷ []) rest)
    (subst (λ (n : ℕ). is_behind_decided ((front ++ one ∷ []) ++ rest) (behind_decided (cond (ends_decided one.answers) (length front + 1) found) n rest) ≡ true) (length_push front one)
    (recorded_decided (cond (ends_decided one.answers) (length front + 1) found) (front ++ one ∷ []) rest (by (ends_decided one.answers) refl)))
  where
    by : (decided : Bool) → ends_decided one.answers ≡ decided → is_behind_decided (front ++ one ∷ []) (cond decided (length front + 1) found) ≡ true
    by true so = decided_last front one (length front + 1) refl so
    by false so = decided_more front (one ∷ []) found is

recorded_behind : (shown : List ShownCall) → is_behind_decided shown (recorded_from shown) ≡ true
recorded_behind shown = recorded_decided 0 [] shown refl

-- FRAMES ------------------------------------------------------------------------------------------

begun_behind : (shown : List ShownCall) (index : ℕ) (frames : List Up) → (no_begins frames ≡ true) ⊎ (is_behind_decided shown index ≡ true) → list_all (begins_behind shown index) frames ≡ true
begun_behind shown index [] so = refl
begun_behind shown index (up.Begin settings ∷ frames) (inl none) = absurd (let never : ⊥ = cc in never)
begun_behind shown index (up.Begin settings ∷ frames) (inr is) = and_from (is_behind_decided shown index) (list_all (begins_behind shown index) frames) is (begun_behind shown index frames (inr is))
begun_behind shown index (up.Connect ∷ frames) so = begun_behind shown index frames so
begun_behind shown index (up.Call replay kept one ∷ frames) so = begun_behind shown index frames so
begun_behind shown index (up.Outcome x ∷ frames) so = begun_behind shown index frames so
begun_behind shown index (up.End ∷ frames) so = begun_behind shown index frames so
begun_behind shown index (up.Close ∷ frames) so = begun_behind shown index frames so

-- A STEP ------------------------------------------------------------------------------------------

module _ (t : Traced) (m : Machine) (talks : AllTalk t.setting.terms m.clients) (number : ℕ) (n : Machine) (step : HasStepped t.setting m number n) (rule : IsRule t.setting.terms.rules) (here : client_at t.machine.clients number ≡ Some step.client) (kept : list_all (is_kept t) (courses_of t) ≡ true) where
  abbrev terms : Terms
  terms = t.setting.terms

  abbrev one : Step
  one = first_step t.setting m talks number n step

  abbrev first : Doing
  first = first_doing t.setting m talks number n step

  abbrev before : List Shown
  before = (account_now terms step.before).shown

  abbrev shown : List ShownCall
  shown = map shown_call (account_now terms step.after).shown

  abbrev index : ℕ
  index = call_in first.talk.phase

  -- what was shown before stays
  pub grows : (more : List ShownCall) × (shown ≡ map shown_call before ++ more)
  grows =
      let all_more : HasMore step.before.steps step.after.steps = record {
        more = one ∷ (behind_first t.setting m talks number n step).more;
        are = (behind_first t.setting m talks number n step).are ∙ append_assoc step.before.steps (one ∷ []) (behind_first t.setting m talks number n step).more;
      } in
      let later : ShownMore terms step.before.request.calls (account_now terms step.before) (account_now terms step.after) = shown_later terms step.before step.after (request_after t.setting m talks number n step) all_more in
      (map shown_call later.more, ap (λ (all : List Shown). map shown_call all) later.are ∙ map-append shown_call before later.more)

  still : (k : ℕ) → is_behind_decided (map shown_call before) k ≡ true → is_behind_decided shown k ≡ true
  still k is = ap (λ (all : List ShownCall). is_behind_decided all k) grows.1 ∙ decided_more (map shown_call before) grows.0 k is

  again_behind : (asking : Asking) → step.before.talk.phase ≡ Asked asking → asking.track.why ≡ None → index ≡ asking.track.call - length asking.track.recorder.calls → is_behind_decided shown index ≡ true
  again_behind asking asked free at =
      let sum = before_kept t m number n step here kept asking asked free in
      let same : index ≡ recorded_from (map shown_call before) = omega (arith, sum, at) in
      still index (ap (is_behind_decided (map shown_call before)) same ∙ recorded_behind (map shown_call before))

  behind_shown : (asking : Asking) (next : Living) (one_shown : Shown) → step.before.talk.phase ≡ Asked asking → first.talk.phase ≡ Running next → next.track.call ≡ asking.track.call + 1 → one.done.act.shown ≡ Some one_shown
      → one_shown.answers ≡ answer.Committed ∷ [] → is_behind_decided shown index ≡ true
  behind_shown asking next one_shown asked runs more shows committed =
      ap (λ (all : List Shown). is_behind_decided (map shown_call all) index) after
      ∙ (ap (λ (all : List ShownCall). is_behind_decided all index) (map-append shown_call before (one_shown ∷ []))
      ∙ decided_last (map shown_call before) (shown_call one_shown) index at (ap ends_decided committed))
    where
      lost : (call : Call) × (slice_get step.before.request.calls (length before) ≡ Some call)
      lost = lost_call t.setting m talks number n step rule asking asked

      after : (account_now terms step.after).shown ≡ before ++ one_shown ∷ []
      after = shown_after t.setting m talks number n step ∙ shown_more t.setting m talks number n step one_shown lost.0 shows lost.1

      at : index ≡ length (map shown_call before) + 1
      at =
          let runs_at : index ≡ next.track.call = ap call_in runs in
          let call : asking.track.call ≡ length before = call_is t.setting m talks number n step rule asking asked in
          let long : length (map shown_call before) ≡ length before = length-map before shown_call in
          omega (arith, runs_at, call, long, more)

  pub begins_decided : list_all (begins_behind shown index) one.done.act.send ≡ true
  begins_decided = begun_behind shown index one.done.act.send (by (step_opens terms step.before.talk step.input m.tick))
    where
      by : Opening terms.rules.keeps (heard_in step.before.talk.phase step.input) (talk_step terms step.before.talk step.input m.tick) → (no_begins one.done.act.send ≡ true) ⊎ (is_behind_decided shown index ≡ true)
      by (NoBegin none) = inl none
      by (First greets at none) = inr (or_left (index == 0) _ (eq_to index 0 at))
      by (Behind asking next one_shown asks runs more lost shows committed) = inr (behind_shown asking next one_shown (asked_by t.setting m talks number n step rule asking step.input asks) runs more shows committed)
      by (Again asking asks free at none) = inr (again_behind asking (asked_by t.setting m talks number n step rule asking step.input asks) free at)
