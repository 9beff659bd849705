-- Where a client steps, its calls on the connection stay in a row.
use Rattle.std.proofs.Common.{◌≡◌, refl, sym, ap, subst, ◌∙◌, Bool, true, false, ℕ, ◌+◌, ◌≤◌, ◌<◌, ◌&&◌, cond, fold, length, length-append, List, [], ◌∷◌, ◌++◌, map, Option, Some, None, arith}
use Rattle.std.specs.Prelude.{◌==◌, slice_get}
use Rattle.std.specs.List.{list_all, last_or}
use Rattle.std.specs.Option.{option_map_or}
use Rattle.std.proofs.lemmas.Bool.{and_parts}
use Rattle.std.proofs.lemmas.List.{map-append, length-map, nil_from_length}
use Rattle.std.proofs.lemmas.List.Folds.{list_all-append}
use Rattle.std.proofs.lemmas.List.Sums.{fold-append}
use Rattle.std.proofs.lemmas.Option.{slice_get_within}
use Rattle.svc_values.specs.declared.answer.Answer.{Answer}
use Rattle.svc_values.specs.declared.answer.Answer.TheVariants as answer
use Rattle.svc_values.specs.declared.call.Call.{Call}
use Rattle.svc_values.specs.declared.draw.Draw.{Draw}
use Rattle.svc_values.specs.declared.frame.Up.{Up}
use Rattle.svc_values.specs.declared.frame.Up.TheVariants as up
use Rattle.svc_values.specs.meaning.Same.{same_call, same_draws}
use Rattle.svc_values.specs.SameLaws.{same_call_decides}
use Rattle.call_recorder.specs.declared.recorded.Recorded.{Recorded}
use Rattle.outage_schedule.specs.declared.request.ShownCall.{ShownCall}
use Rattle.request_bounds.specs.meaning.Replies.{ends_decided}
use Rattle.client_model.specs.declared.act.Shown.{Shown}
use Rattle.client_model.specs.declared.act.Hold.{Hold}
use Rattle.client_model.specs.meaning.Account.{Account, account_of, unheard, hears, shows, shows_found, before_sends, after_step}
use Rattle.client_model.specs.meaning.Conversation.{Done}
use Rattle.client_model.specs.Laws.{EachStep, MaySend, MaySendAll}
use Rattle.client_model.specs.meaning.States.{Living, Losing, Asking, Repeating, next_of}
use Rattle.client_model.specs.meaning.Terms.{Terms, Phase, Idle, Unbegun, Queued, Seeking, Greeting, Asked, Running, Replaying}
use Rattle.client_model.specs.meaning.Told.{repeated}
use Rattle.client_model.specs.meaning.Verifying.{index_of, verified_more}
use Rattle.client_model.proofs.Offered.{Fits, replays_only_verified}
use Rattle.world_model.specs.meaning.Acting.{sent_by, call_in}
use Rattle.world_model.specs.meaning.Clients.{Step, Doing}
use Rattle.world_model.specs.records.Conversing.{AllTalk, inputs_of}
use Rattle.world_model.specs.meaning.Frames.{Owner, Sent}
use Rattle.world_model.specs.meaning.Machines.{Machine}
use Rattle.run_clauses.specs.meaning.Reports.{shown_call}
use Rattle.world_model.specs.records.Script.{recorded_from}
use Rattle.invariant_laws.specs.Shown.{is_marked, is_row}
use Rattle.world_model.specs.meaning.Settings.{Setting}
use Rattle.world_model.specs.Traced.{Course}
use Rattle.world_model.specs.Words.{dones_of}
use Rattle.world_model.proofs.Offered.{HasStepped, GoesOn, AtOnce, LostToo, next_recalled, hears_same, behind_more, Recalled, all_more, account_now, FitsNow, talks_fit, first_step, first_doing, before_talks, first_talks_on, first_fits, is_next, is_running, frame_fits, send_fits}
use Rattle.invariant_laws.proofs.rows.Rows.{row_more}
use Rattle.invariant_laws.proofs.talks.TalkRows.{Rowed, AsFirst, AsNext, AsCompleted, AsLost, AsRepeated, AsMore, AsLast}

-- THE LAST STEP -----------------------------------------------------------------------------------

pub each_last : (P : Account → Done → Type 0) (terms : Terms) (calls : List Call) (a : Account) (dones : List Done) (done : Done) → EachStep P terms calls a (dones ++ done ∷ []) → P (before_sends terms calls (fold (after_step terms calls) a dones) done) done
each_last P terms calls a [] done each = each.0
each_last P terms calls a (first ∷ dones) done each = each_last P terms calls (after_step terms calls a first) dones done each.1

may_last : (calls : List Call) (heard : Account) (front : List Up) (kept : List Draw) (call : Call) → MaySendAll calls heard (front ++ up.Call false kept call ∷ []) → MaySend calls heard call
may_last calls heard [] kept call may = may.0
may_last calls heard (up.Call false other one ∷ front) kept call may = may_last calls heard front kept call may.1
may_last calls heard (up.Call true other one ∷ front) kept call may = may_last calls heard front kept call may
may_last calls heard (up.Connect ∷ front) kept call may = may_last calls heard front kept call may
may_last calls heard (up.Begin settings ∷ front) kept call may = may_last calls heard front kept call may
may_last calls heard (up.Outcome x ∷ front) kept call may = may_last calls heard front kept call may
may_last calls heard (up.End ∷ front) kept call may = may_last calls heard front kept call may
may_last calls heard (up.Close ∷ front) kept call may = may_last calls heard front kept call may

-- what a step shows
pub data ShownStep (before after : List Shown) (shown : Option Shown) : Type 0 where
  NoneMore : after ≡ before → ShownStep before after shown
  OneMore : (one : Shown) → shown ≡ Some one → after ≡ before ++ one ∷ [] → ShownStep before after shown

module _ (setting : Setting) (m : Machine) (talks : AllTalk setting.terms m.clients) (number : ℕ) (n : Machine) (step : HasStepped setting m number n) where
  abbrev one : Step
  one = first_step setting m talks number n step

  abbrev first : Doing
  first = first_doing setting m talks number n step

  abbrev calls_are : List Call
  calls_are = step.before.request.calls

  abbrev account_before : Account
  account_before = account_now setting.terms step.before

  abbrev account_first : Account
  account_first = account_now setting.terms first

  abbrev phase : Phase
  phase = first.talk.phase

  dones_first : dones_of first.steps ≡ dones_of step.before.steps ++ one.done ∷ []
  dones_first = map-append (λ (s : Step). s.done) step.before.steps (one ∷ [])

  pub first_after : account_first ≡ after_step setting.terms calls_are account_before one.done
  first_after =
      ap (λ (d : List Done). account_of setting.terms calls_are d) dones_first ∙ fold-append (after_step setting.terms calls_are) unheard (dones_of step.before.steps) (one.done ∷ [])

  abbrev heard : Account
  heard = before_sends setting.terms calls_are account_before one.done

  heard_shown : account_first.shown ≡ heard.shown
  heard_shown = ap (λ (a : Account). a.shown) first_after ∙ all_more setting.terms calls_are one.done.now one.done.act.send heard

  shown_found : (a : Account) (shown : Shown) (call : Option Call) → ShownStep a.shown (shows_found setting.terms a shown call).shown (Some shown)
  shown_found a shown None = NoneMore refl
  shown_found a shown (Some call) = OneMore shown refl refl

  shown_by : (a : Account) (shown : Option Shown) → ShownStep a.shown (shows setting.terms calls_are a shown).shown shown
  shown_by a None = NoneMore refl
  shown_by a (Some shown) = shown_found a shown (slice_get calls_are (length a.shown))

  pub shown_step : ShownStep account_before.shown account_first.shown one.done.act.shown
  shown_step =
      let a : Account = hears setting.terms account_before one.done.input one.done.now one.done.act.shown in
      subst (λ (after : List Shown). ShownStep account_before.shown after one.done.act.shown) (sym heard_shown)
      (subst (λ (before : List Shown). ShownStep before heard.shown one.done.act.shown) (hears_same setting.terms account_before one.done.input one.done.now one.done.act.shown).shown (shown_by a one.done.act.shown))

  -- one that is a call of the request is one more
  pub shown_more : (shown : Shown) (call : Call) → one.done.act.shown ≡ Some shown → slice_get calls_are (length account_before.shown) ≡ Some call → account_first.shown ≡ account_before.shown ++ shown ∷ []
  shown_more shown call is at =
      let a : Account = hears setting.terms account_before one.done.input one.done.now one.done.act.shown in
      let same : a.shown ≡ account_before.shown = (hears_same setting.terms account_before one.done.input one.done.now one.done.act.shown).shown in
      heard_shown
      ∙ (ap (λ (some : Option Shown). (shows setting.terms calls_are a some).shown) is
      ∙ (ap (λ (found : Option Call). (shows_found setting.terms a shown found).shown) (ap (λ (all : List Shown). slice_get calls_are (length all)) same ∙ at) ∙ ap (λ (all : List Shown). all ++ shown ∷ []) same))

  -- the loss shows nothing
  pub shown_after : (account_now setting.terms step.after).shown ≡ account_first.shown
  shown_after = by step.goes_on
    where
      by : {after : Doing} {kept : Hold} → GoesOn setting first one.done.act.hold after kept → (account_now setting.terms after).shown ≡ account_first.shown
      by AtOnce = refl
      by (LostToo event tick ended is) =
          ap (λ (a : Account). a.shown)
          (ap (λ (d : List Done). account_of setting.terms calls_are d) (map-append (λ (s : Step). s.done) first.steps (_ ∷ []))
          ∙ fold-append (after_step setting.terms calls_are) unheard (dones_of first.steps) (_ ∷ []))

  -- COUNTS ----------------------------------------------------------------------------------------

  pub fits_at : (p : Phase) → phase ≡ p → Fits setting.terms calls_are account_first (first_fits setting m talks number n step).gone p
  fits_at p is = subst (λ (q : Phase). Fits setting.terms calls_are account_first (first_fits setting m talks number n step).gone q) is (first_fits setting m talks number n step).fits

  pub before_fits : FitsNow setting.terms step.before
  before_fits = talks_fit setting.terms false step.before (before_talks setting m talks number n step)

  pub fits_before : (p : Phase) → step.before.talk.phase ≡ p → Fits setting.terms calls_are account_before before_fits.gone p
  fits_before p is = subst (λ (q : Phase). Fits setting.terms calls_are account_before before_fits.gone q) is before_fits.fits

  -- the running call is the next one
  pub runs_at : (state : Living) → phase ≡ Running state → state.track.call ≡ length account_first.shown
  runs_at state is = (fits_at (Running state) is).0.tracked.call

  -- WHAT IS KNOWN OF THE ROW BEFORE ---------------------------------------------------------------

  -- by the phase in which the input was heard
  pub record RowFacts (p : Phase) (calls : List Sent) : Type 0 where
    pub greets : (lost : Option Losing) → p ≡ Greeting lost → calls ≡ []
    pub asks : (asking : Asking) → p ≡ Asked asking → (calls ≡ []) × (step.before.talk.phase ≡ Asked asking)
    pub runs : (state : Living) → p ≡ Running state → (last : Sent) × (last_or None calls ≡ Some last) × (last.call ≡ state.track.call)
    pub repeats : (state : Repeating) → p ≡ Replaying state → (last : Sent) × (last_or None calls ≡ Some last) × (last.call ≡ index_of state) × (step.before.talk.phase ≡ Replaying state)

  same_last : (calls : List Sent) (a b : Sent) → last_or None calls ≡ Some a → last_or None calls ≡ Some b → a ≡ b
  same_last calls a b one other = let same : Some a ≡ Some b = sym one ∙ other in let here : a ≡ b = cc in here

  none_last : {A : Type 0} (calls : List Sent) (a : Sent) → calls ≡ [] → last_or None calls ≡ Some a → A
  none_last calls a none is = absurd (let e : last_or None [] ≡ Some a = ap (λ (all : List Sent). last_or None all) (sym none) ∙ is in let never : ⊥ = cc in never)

  call_at : (p : Phase) → phase ≡ p → call_in phase ≡ call_in p
  call_at p is = ap call_in is

  -- the call that is sent is behind the last one of the row
  goes_next : (p : Phase) (calls : List Sent) → RowFacts p calls → Rowed p phase one.done.act.shown → (last : Sent) → last_or None calls ≡ Some last → last.call + 1 ≡ call_in phase
  goes_next p calls facts (AsFirst lost is state after first_is) last at = none_last calls last (facts.greets lost is) at
  goes_next p calls facts (AsNext state next is after more) last at =
      let known = facts.runs state is in
      let same : last.call ≡ state.track.call = ap (λ (s : Sent). s.call) (same_last calls last known.0 at known.1) ∙ known.2 in
      let here : call_in phase ≡ next.track.call = call_at (Running next) after in
      omega arith
  goes_next p calls facts (AsCompleted asking next shown is after showing committed more) last at = none_last calls last (facts.asks asking is).0 at
  goes_next p calls facts (AsLost asking next is why after same none quiet) last at = none_last calls last (facts.asks asking is).0 at
  goes_next p calls facts (AsRepeated asking is why after quiet) last at = none_last calls last (facts.asks asking is).0 at
  goes_next p calls facts (AsMore state is after quiet) last at =
      let known = facts.repeats state is in
      let same : last.call ≡ index_of state = ap (λ (s : Sent). s.call) (same_last calls last known.0 at known.1) ∙ known.2 in
      let here : call_in phase ≡ index_of (verified_more state) = call_at (Replaying (verified_more state)) after in
      let fits = fits_before (Replaying state) known.3 in
      let within : state.verified < length state.track.recorder.calls = slice_get_within state.track.recorder.calls state.verified fits.2.one fits.2.is in
      let before : length state.track.recorder.calls ≤ state.track.call = fits.1.repeating.before in
      omega arith
  goes_next p calls facts (AsLast state next is after lost_call most quiet) last at =
      let known = facts.repeats state is in
      let same : last.call ≡ index_of state = ap (λ (s : Sent). s.call) (same_last calls last known.0 at known.1) ∙ known.2 in
      let here : call_in phase ≡ next.track.call = call_at (Running next) after in
      let fits = fits_before (Replaying state) known.3 in
      let within : state.verified < length state.track.recorder.calls = slice_get_within state.track.recorder.calls state.verified fits.2.one fits.2.is in
      let before : length state.track.recorder.calls ≤ state.track.call = fits.1.repeating.before in
      omega arith

  -- THE CALL WITHOUT THE MARK
  -- ----------------------------------------------------------------------

  pub sent_scripts : (front : List Up) (kept : List Draw) (call : Call) → one.done.act.send ≡ front ++ up.Call false kept call ∷ [] → slice_get calls_are (length account_first.shown) ≡ Some call
  sent_scripts front kept call sends =
      let so = first_talks_on setting m talks number n step in
      let each : EachStep (λ heard done. MaySendAll calls_are heard done.act.send) setting.terms calls_are unheard (dones_of step.before.steps ++ one.done ∷ []) =
      subst (λ (d : List Done). EachStep (λ heard done. MaySendAll calls_are heard done.act.send) setting.terms calls_are unheard d) (sym so.converses.acts ∙ dones_first)
      (replays_only_verified setting.terms step.before.request.settings calls_are (inputs_of first.steps) so.converses.may) in
      let may : MaySendAll calls_are heard one.done.act.send = each_last (λ heard done. MaySendAll calls_are heard done.act.send) setting.terms calls_are unheard (dones_of step.before.steps) one.done each in
      ap (λ (s : List Shown). slice_get calls_are (length s)) heard_shown ∙ (may_last calls_are heard front kept call (subst (λ (send : List Up). MaySendAll calls_are heard send) sends may)).in_order

  running_call : (p : Phase) → phase ≡ p → is_running p ≡ true → call_in phase ≡ length account_first.shown
  running_call (Running state) is runs = call_at (Running state) is ∙ runs_at state is
  running_call Idle is runs = absurd (let none : ⊥ = cc in none)
  running_call Unbegun is runs = absurd (let none : ⊥ = cc in none)
  running_call (Queued from) is runs = absurd (let none : ⊥ = cc in none)
  running_call (Seeking lost) is runs = absurd (let none : ⊥ = cc in none)
  running_call (Greeting lost) is runs = absurd (let none : ⊥ = cc in none)
  running_call (Asked asking) is runs = absurd (let none : ⊥ = cc in none)
  running_call (Replaying state) is runs = absurd (let none : ⊥ = cc in none)

  frame_last : (front : List Up) (frame : Up) → one.done.act.send ≡ front ++ frame ∷ [] → frame_fits phase frame ≡ true
  frame_last front frame sends =
      let all : list_all (frame_fits phase) (front ++ frame ∷ []) ≡ true = subst (λ (send : List Up). list_all (frame_fits phase) send ≡ true) sends (send_fits setting.terms step.before.talk step.input m.tick) in
      (and_parts (frame_fits phase frame) true (and_parts (list_all (frame_fits phase) front) (list_all (frame_fits phase) (frame ∷ [])) (sym (list_all-append (frame_fits phase) front (frame ∷ [])) ∙ all)).1).0

  pub unmarked_at : (front : List Up) (kept : List Draw) (call : Call) → one.done.act.send ≡ front ++ up.Call false kept call ∷ [] → call_in phase ≡ length account_first.shown
  unmarked_at front kept call sends = running_call phase refl (and_parts (length kept == 0) (is_running phase) (frame_last front (up.Call false kept call) sends)).1

  -- THE FIRST CALL --------------------------------------------------------------------------------

  still_shown : (shown : Option Shown) → one.done.act.shown ≡ shown → shown ≡ None → account_first.shown ≡ account_before.shown
  still_shown shown is none = by shown_step
    where
      by : ShownStep account_before.shown account_first.shown one.done.act.shown → account_first.shown ≡ account_before.shown
      by (NoneMore same) = same
      by (OneMore some showing more) = absurd (let e : Some some ≡ None = sym showing ∙ (is ∙ none) in let never : ⊥ = cc in never)

  recorded_more : (shown : List Shown) (some : Shown) → some.answers ≡ answer.Committed ∷ [] → recorded_from (map shown_call (shown ++ some ∷ [])) ≡ length shown + 1
  recorded_more shown some committed =
      let long : length (map shown_call shown) ≡ length shown = length-map shown shown_call in
      let plain : 0 + length (map shown_call shown) + 1 ≡ length shown + 1 = omega arith in
      ap recorded_from (map-append shown_call shown (some ∷ []))
      ∙ (behind_more 0 0 (map shown_call shown) (shown_call some)
      ∙ (ap (λ (answers : List Answer). cond (ends_decided answers) (0 + length (map shown_call shown) + 1) (recorded_from (map shown_call shown))) committed ∙ plain))

  module _ (kept : (asking : Asking) → step.before.talk.phase ≡ Asked asking → asking.track.why ≡ None → length asking.track.recorder.calls + recorded_from (map shown_call account_before.shown) ≡ asking.track.call) where
    completed_first : (asking : Asking) (next : Living) (some : Shown) → step.before.talk.phase ≡ Asked asking → phase ≡ Running next → one.done.act.shown ≡ Some some → some.answers ≡ answer.Committed ∷ []
        → ShownStep account_before.shown account_first.shown one.done.act.shown → (asking.track.call + 1 ≡ next.track.call) → call_in phase ≡ recorded_from (map shown_call account_first.shown)
    completed_first asking next some is after showing committed (NoneMore same) more =
        absurd (let a : asking.track.call ≡ length account_before.shown = (fits_before (Asked asking) is).0.tracked.call in
        let b : next.track.call ≡ length account_first.shown = runs_at next after in
        let c : length account_first.shown ≡ length account_before.shown = ap (λ (s : List Shown). length s) same in
        let never : ⊥ = omega arith in never)
    completed_first asking next some is after showing committed (OneMore other shows grown) more =
        let e : Some other ≡ Some some = sym shows ∙ showing in
        let same : other ≡ some = cc in
        let b : next.track.call ≡ length account_first.shown = runs_at next after in
        let c : length account_first.shown ≡ length account_before.shown + 1 = ap (λ (s : List Shown). length s) grown ∙ length-append account_before.shown (other ∷ []) in
        let here : call_in phase ≡ next.track.call = call_at (Running next) after in
        let there : recorded_from (map shown_call account_first.shown) ≡ length account_before.shown + 1 =
        ap (λ (s : List Shown). recorded_from (map shown_call s)) grown ∙ recorded_more account_before.shown other (ap (λ (s : Shown). s.answers) same ∙ committed) in
        omega arith

    -- where the row is empty, it begins at the recorded ones
    goes_first : (p : Phase) (calls : List Sent) → RowFacts p calls → calls ≡ [] → Rowed p phase one.done.act.shown → call_in phase ≡ recorded_from (map shown_call account_first.shown)
    goes_first p calls facts none (AsFirst lost is state after first_is) =
        let here : call_in phase ≡ state.track.call = call_at (Running state) after in
        let long : state.track.call ≡ length account_first.shown = runs_at state after in
        let zero_long : length account_first.shown ≡ 0 = omega arith in
        let nothing : recorded_from (map shown_call account_first.shown) ≡ 0 = ap (λ (s : List Shown). recorded_from (map shown_call s)) (nil_from_length account_first.shown zero_long) in
        omega arith
    goes_first p calls facts none (AsNext state next is after more) = let known = facts.runs state is in none_last calls known.0 none known.1
    goes_first p calls facts none (AsCompleted asking next shown is after showing committed more) =
        completed_first asking next shown (facts.asks asking is).1 after showing committed shown_step (let other : asking.track.call + 1 ≡ next.track.call = omega arith in other)
    goes_first p calls facts none (AsLost asking next is why after lost_call zero_long quiet) =
        let whole = kept asking (facts.asks asking is).1 why in
        let same : recorded_from (map shown_call account_first.shown) ≡ recorded_from (map shown_call account_before.shown) = ap (λ (s : List Shown). recorded_from (map shown_call s)) (still_shown one.done.act.shown refl quiet) in
        let here : call_in phase ≡ next.track.call = call_at (Running next) after in
        omega arith
    goes_first p calls facts none (AsRepeated asking is why after quiet) =
        let whole = kept asking (facts.asks asking is).1 why in
        let same : recorded_from (map shown_call account_first.shown) ≡ recorded_from (map shown_call account_before.shown) = ap (λ (s : List Shown). recorded_from (map shown_call s)) (still_shown one.done.act.shown refl quiet) in
        let here : call_in phase ≡ index_of (repeated asking) = call_at (Replaying (repeated asking)) after in
        omega arith
    goes_first p calls facts none (AsMore state is after quiet) = let known = facts.repeats state is in none_last calls known.0 none known.1
    goes_first p calls facts none (AsLast state next is after lost_call most quiet) = let known = facts.repeats state is in none_last calls known.0 none known.1

    -- THE CALL ------------------------------------------------------------------------------------

    marked_scripts : (p : Phase) (kept : List Draw) (call : Call) → phase ≡ p → is_next p kept call ≡ true → option_map_or (same_call call) (slice_get calls_are (call_in p)) false ≡ true
    marked_scripts (Replaying state) kept call is next = by (next_of state) refl next
      where
        by : (found : Option Recorded) → next_of state ≡ found → option_map_or (λ (r : Recorded). same_draws kept r.draws && same_call r.call call) found false ≡ true
            → option_map_or (same_call call) (slice_get calls_are (index_of state)) false ≡ true
        by None is_none here = absurd (let none : ⊥ = cc in none)
        by (Some r) found here =
            let recalled : Recalled account_first.shown calls_are (index_of state) r = next_recalled setting.terms first state r (first_fits setting m talks number n step) is found in
            let same : r.call ≡ call = (same_call_decides r.call call).0 (and_parts (same_draws kept r.draws) (same_call r.call call) here).1 in
            subst (λ (one : Option Call). option_map_or (same_call call) one false ≡ true) (sym recalled.call) ((same_call_decides call r.call).1 (sym same))
    marked_scripts Idle kept call is next = absurd (let none : ⊥ = cc in none)
    marked_scripts Unbegun kept call is next = absurd (let none : ⊥ = cc in none)
    marked_scripts (Queued from) kept call is next = absurd (let none : ⊥ = cc in none)
    marked_scripts (Seeking lost) kept call is next = absurd (let none : ⊥ = cc in none)
    marked_scripts (Greeting lost) kept call is next = absurd (let none : ⊥ = cc in none)
    marked_scripts (Asked asking) kept call is next = absurd (let none : ⊥ = cc in none)
    marked_scripts (Running state) kept call is next = absurd (let none : ⊥ = cc in none)

    call_scripts : (front : List Up) (mark : Bool) (kept : List Draw) (call : Call) → one.done.act.send ≡ front ++ up.Call mark kept call ∷ [] → option_map_or (same_call call) (slice_get calls_are (call_in phase)) false ≡ true
    call_scripts front false kept call sends =
        subst (λ (found : Option Call). option_map_or (same_call call) found false ≡ true) (sym (ap (λ (k : ℕ). slice_get calls_are k) (unmarked_at front kept call sends) ∙ sent_scripts front kept call sends)) ((same_call_decides call call).1 refl)
    call_scripts front true kept call sends = marked_scripts phase kept call refl (frame_last front (up.Call true kept call) sends)

    -- THE ROW -------------------------------------------------------------------------------------

    module _ (d : Course) (report : d.report.calls ≡ map shown_call account_first.shown) (request : d.request.calls ≡ calls_are) (owner : Owner) where
      -- with the call that is sent
      pub row_goes : (p : Phase) (calls : List Sent) (front : List Up) (mark : Bool) (kept : List Draw) (call : Call) → RowFacts p calls → Rowed p phase one.done.act.shown → one.done.act.send ≡ front ++ up.Call mark kept call ∷ []
          → is_row d true calls ≡ true → is_row d true (calls ++ sent_by owner (call_in phase) (up.Call mark kept call) ∷ []) ≡ true
      row_goes p calls front mark kept call facts rowed sends row =
          row_more d (sent_by owner (call_in phase) (up.Call mark kept call)) (place mark sends) calls row
          (subst (λ (all : List Call). option_map_or (same_call call) (slice_get all (call_in phase)) false ≡ true) (sym request) (call_scripts front mark kept call sends))
          (goes_next p calls facts rowed) (λ none. goes_first p calls facts none rowed ∙ ap recorded_from (sym report))
        where
          place : (mark : Bool) → one.done.act.send ≡ front ++ up.Call mark kept call ∷ [] → is_marked (up.Call mark kept call) ≡ false → call_in phase ≡ length d.report.calls
          place true sends is = absurd (let none : ⊥ = cc in none)
          place false sends is = unmarked_at front kept call sends ∙ (sym (length-map account_first.shown shown_call) ∙ ap (λ (all : List ShownCall). length all) (sym report))
