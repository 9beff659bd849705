-- Where each `set` that is submitted is a reason against a replay, none was shown as long as no
-- reason stands.
use Rattle.std.proofs.Common.{◌≡◌, refl, sym, ap, subst, ◌∙◌, Bool, true, false, ℕ, ◌+◌, ◌-◌, ◌&&◌, ◌||◌, length, List, [], ◌∷◌, ◌++◌, Option, Some, None, ◌⊎◌, inl, inr, if◌then◌else◌}
use Rattle.std.specs.Prelude.{not, nat_le, is_some, is_none, Ok, Err}
use Rattle.std.specs.Option.{option_or, option_map_or}
use Rattle.std.specs.Str.{bytes_eq}
use Rattle.std.proofs.lemmas.Bool.{and_parts, and_from, not-true}
use Rattle.svc_values.specs.declared.call.Call.{Call}
use Rattle.svc_values.specs.declared.call.Call.TheVariants as call
use Rattle.svc_values.specs.declared.answer.Answer.{Answer}
use Rattle.svc_values.specs.declared.answer.Answer.TheVariants as answer
use Rattle.svc_values.specs.declared.draw.Draw.{Draw}
use Rattle.svc_values.specs.declared.entry.Ltxid.{Ltxid}
use Rattle.svc_values.specs.declared.frame.Up.{Up}
use Rattle.svc_values.specs.declared.frame.Ahead.TheVariants as ahead
use Rattle.svc_values.specs.declared.frame.Down.{Down}
use Rattle.svc_values.specs.declared.frame.Down.TheVariants as down
use Rattle.svc_values.specs.declared.value.Value.{Value}
use Rattle.request_bounds.specs.declared.rule.Why.{Why}
use Rattle.request_bounds.specs.declared.rule.Why.TheVariants as why
use Rattle.request_bounds.specs.declared.rule.After.{After}
use Rattle.request_bounds.specs.declared.rule.After.TheVariants as after
use Rattle.call_recorder.specs.declared.recorded.Recorded.{Recorded}
use Rattle.client_model.specs.meaning.Conversation.{Timed, done_at, talk_at}
use Rattle.client_model.specs.Conversation.{is_gone, is_gone_next, is_wanted, MayCome, talk_after}
use Rattle.client_model.specs.declared.act.Failed.TheVariants.{Disabled, PoolWait, Retries}
use Rattle.client_model.specs.declared.act.Hold.{Hold}
use Rattle.client_model.specs.declared.act.Hold.TheVariants.{Keep}
use Rattle.client_model.specs.declared.act.Shown.{Shown}
use Rattle.client_model.specs.declared.input.Input.{Input}
use Rattle.client_model.specs.declared.input.Input.TheVariants.{Start, Waiting, Lent, Opened, TryFailed, Took, Gone}
use Rattle.client_model.specs.declared.track.Track.{Track}
use Rattle.client_model.specs.Laws.{track_of}
use Rattle.client_model.specs.meaning.States.{Living, Losing, Asking, Repeating, resumed, next_of}
use Rattle.client_model.specs.meaning.Talk.{Step, fails, is_set, lost_of, next_call, on_compared, on_completed, on_hello, on_repeated, on_reply, on_told, on_try_failed, on_waiting, after_completed, begin_of, loses, quiet, recorded_as, sends_call, sends_marked, sends_or_ends, stands, takes, talk_shown, talk_step, waits_from, wants_of, with_recorded, with_reply, with_shown, with_submitted, with_tried}
use Rattle.client_model.specs.meaning.Terms.{Terms, Talk, Phase, Idle, Unbegun, Queued, Seeking, Greeting, Asked, Running, Replaying, requested, unsubmitted}
use Rattle.client_model.specs.meaning.Told.{over, completed_on, repeated, is_late, uncommitted, told_of}
use Rattle.client_model.specs.meaning.Told as told
use Rattle.client_model.specs.meaning.Verifying.{verified_more, mismatch, submitted}
use Rattle.world_model.specs.Parts.{implies}
use Rattle.world_model.proofs.Offered.{Spoken, Quiet, SayingFails as Fails, Ends, SayingAsks as Asks, Calls, Marks, has_next, is_hushed, said, implied_by, met, none_some}

-- THE TEST ----------------------------------------------------------------------------------------

-- no `set` was shown, if no reason stands
abbrev pub is_plain : Track → Bool
is_plain track = implies (is_none track.why) (not track.set_shown)

abbrev pub sets_nothing : Talk → Bool
sets_nothing talk = option_map_or (λ one. not (is_set one)) (next_call talk) true

-- where the connection has ended, the call that comes next was not sent
abbrev pub plain_in : Bool → Talk → Phase → Bool
plain_in alive talk (Running state) = is_plain state.track && implies (alive && is_none state.track.why) (sets_nothing talk)
plain_in alive talk phase = option_map_or is_plain (track_of phase) true

abbrev pub is_plain_talk : Bool → Talk → Bool
is_plain_talk alive talk = plain_in alive talk talk.phase

-- behind a step, where Gone is due or is not
abbrev pub is_plain_step : Bool → Step → Bool
is_plain_step alive step = is_plain_talk alive step.0

first_none : {A : Type 0} (one other : Option A) → is_none (option_or one other) ≡ true → (is_none one ≡ true) × (is_none other ≡ true)
first_none None other is = (refl, is)
first_none (Some x) other is = absurd (let none : ⊥ = cc in none)

weaker : (alive : Bool) (talk : Talk) (phase : Phase) → plain_in true talk phase ≡ true → plain_in alive talk phase ≡ true
weaker true talk phase here = here
weaker false talk (Running state) here = and_from (is_plain state.track) true (and_parts (is_plain state.track) (implies (is_none state.track.why) (sets_nothing talk)) here).0 refl
weaker false talk Idle here = here
weaker false talk Unbegun here = here
weaker false talk (Queued from) here = here
weaker false talk (Seeking lost) here = here
weaker false talk (Greeting lost) here = here
weaker false talk (Asked asking) here = here
weaker false talk (Replaying state) here = here

module _ (terms : Terms) (refuses : (name : List ℕ) (x : Value) (index : ℕ) → is_some (terms.rules.submit (call.Set name x) index) ≡ true) where
  -- SENDING ---------------------------------------------------------------------------------------

  set_submits : (one : Call) (index : ℕ) → is_set one ≡ true → is_some (terms.rules.submit one index) ≡ true
  set_submits (call.Set name x) index is = refuses name x index
  set_submits one index is = absurd (let none : ⊥ = cc in none)

  no_set : (one : Call) (index : ℕ) → is_none (terms.rules.submit one index) ≡ true → not (is_set one) ≡ true
  no_set one index none = by (is_set one) refl
    where
      by : (sets : Bool) → is_set one ≡ sets → not sets ≡ true
      by false is = refl
      by true is = absurd (none_some (terms.rules.submit one index) none (set_submits one index is))

  next_plain : (talk : Talk) (one : Call) → next_call talk ≡ Some one → not (is_set one) ≡ true → sets_nothing talk ≡ true
  next_plain talk one is plain = subst (λ (next : Option Call). option_map_or (λ call. not (is_set call)) next true ≡ true) (sym is) plain

  sent_plain : (talk : Talk) (state : Living) (alive : Bool) (before : List Up) (shown : Option Shown) (now : ℕ) (one : Call) → next_call talk ≡ Some one → is_plain state.track ≡ true
      → is_plain_step alive (sends_call terms talk state alive before shown now one) ≡ true
  sent_plain talk state true before shown now one next plain =
      let track : Track = with_submitted terms state.track one now in
      and_from (is_plain track) (implies (is_none track.why) (sets_nothing talk))
      (implied_by (is_none track.why) (not track.set_shown) (λ none. met (is_none state.track.why) (not state.track.set_shown) plain (first_none state.track.why (terms.rules.submit one state.track.call) none).0))
      (implied_by (is_none track.why) (sets_nothing talk) (λ none. next_plain talk one next (no_set one state.track.call (first_none state.track.why (terms.rules.submit one state.track.call) none).1)))
  sent_plain talk state false before shown now one next plain = and_from (is_plain state.track) true plain refl

  goes_plain : (talk : Talk) (state : Living) (alive : Bool) (before : List Up) (shown : Option Shown) (now : ℕ) (next : Option Call) → next_call talk ≡ next → is_plain state.track ≡ true
      → is_plain_step alive (sends_or_ends terms talk state alive before shown now next) ≡ true
  goes_plain talk state alive before shown now None is plain = refl
  goes_plain talk state alive before shown now (Some one) is plain = sent_plain talk state alive before shown now one is plain

  -- SHOWING ---------------------------------------------------------------------------------------

  not_either : (shown sets : Bool) → not shown ≡ true → not sets ≡ true → not (shown || sets) ≡ true
  not_either true sets one other = absurd (let none : ⊥ = cc in none)
  not_either false sets one other = other

  recorded_plain : (track : Track) (one : Recorded) (reason : Option Why) → track.why ≡ reason → (is_none (with_recorded terms track one reason).why ≡ true → is_none track.why ≡ true) × ((with_recorded terms track one reason).set_shown ≡ track.set_shown)
  recorded_plain track one (Some reason) is = (λ none. none, refl)
  recorded_plain track one None is = by (nat_le terms.recorded (length track.recorder.calls))
    where
      by : (full : Bool)
          → (is_none (if full then record track { why = Some (why.Full terms.recorded) } else record track { recorder = record track.recorder { calls = track.recorder.calls ++ one ∷ [] } }).why ≡ true → is_none track.why ≡ true)
          × ((if full then record track { why = Some (why.Full terms.recorded) } else record track { recorder = record track.recorder { calls = track.recorder.calls ++ one ∷ [] } }).set_shown ≡ track.set_shown)
      by true = (λ none. ap is_none is, refl)
      by false = (λ none. ap is_none is, refl)

  replied_plain : (track : Track) (one : Recorded) (reply : After) → (is_none (with_reply terms track one reply).why ≡ true → is_none track.why ≡ true) × ((with_reply terms track one reply).set_shown ≡ track.set_shown)
  replied_plain track one after.Record = recorded_plain track one track.why refl
  replied_plain track one after.Purge = (λ none. none, refl)
  replied_plain track one (after.Stop reason) = (λ none. (first_none track.why (Some reason) none).0, refl)

  shown_plain : (track : Track) (one : Call) (answers : List Answer) (draws : List Draw) → is_plain track ≡ true → (is_none track.why ≡ true → not (is_set one) ≡ true) → is_plain (with_shown terms track one answers draws) ≡ true
  shown_plain track one answers draws plain sets =
      let replied : Track = with_reply terms track (recorded_as terms one answers draws) (terms.rules.reply answers) in
      let so = replied_plain track (recorded_as terms one answers draws) (terms.rules.reply answers) in
      implied_by (is_none replied.why) (not (replied.set_shown || is_set one))
      (λ none. ap (λ (shown : Bool). not (shown || is_set one)) so.1 ∙ not_either track.set_shown (is_set one) (met (is_none track.why) (not track.set_shown) plain (so.0 none)) (sets (so.0 none)))

  -- FRAMES ----------------------------------------------------------------------------------------

  hello_plain : (talk : Talk) (lost : Option Losing) (ltxid : Ltxid) (alive : Bool) (now : ℕ) → option_map_or is_plain (track_of (Greeting lost)) true ≡ true → is_plain_step alive (on_hello terms talk lost ltxid alive now) ≡ true
  hello_plain talk None ltxid true now here = goes_plain talk (record { track = unsubmitted terms; ltxid = ltxid }) true (begin_of talk ∷ []) None now (next_call talk) refl refl
  hello_plain talk (Some lost) ltxid true now here = here
  hello_plain talk None ltxid false now here = refl
  hello_plain talk (Some lost) ltxid false now here = here

  reply_plain : (talk : Talk) (state : Living) (answers : List Answer) (draws : List Draw) (ltxid : Ltxid) (alive : Bool) (now : ℕ) (one : Option Call) → next_call talk ≡ one → is_plain state.track ≡ true
      → implies (is_none state.track.why) (sets_nothing talk) ≡ true → is_plain_step alive (on_reply terms talk state answers draws ltxid alive now one) ≡ true
  reply_plain talk state answers draws ltxid alive now None is plain sets = refl
  reply_plain talk state answers draws ltxid alive now (Some one) is plain sets =
      let after : Talk = talk_shown terms talk one answers in
      goes_plain after (record { track = with_shown terms state.track one answers draws; ltxid = ltxid }) alive [] (Some (record { answers = answers; draws = draws; ltxid = ltxid })) now (next_call after) refl
      (shown_plain state.track one answers draws plain
      (λ none. subst (λ (call : Option Call). option_map_or (λ one. not (is_set one)) call true ≡ true) is (met (is_none state.track.why) (sets_nothing talk) sets none)))

  marked_plain : (talk : Talk) (state : Repeating) (alive : Bool) (before : List Up) (now : ℕ) (one : Option Recorded) → is_plain state.track ≡ true → is_plain_step alive (sends_marked terms talk state alive before now one) ≡ true
  marked_plain talk state alive before now None plain = goes_plain talk (submitted state) alive before None now (next_call talk) refl plain
  marked_plain talk state alive before now (Some one) plain = plain

  compared_plain : (talk : Talk) (state : Repeating) (seen answers : List ℕ) (alive : Bool) (now : ℕ) (test : Bool) → is_plain state.track ≡ true
      → is_plain_step alive (on_compared terms talk alive now (if test then Ok (verified_more state) else Err (mismatch state seen answers))) ≡ true
  compared_plain talk state seen answers alive now true plain = marked_plain talk (verified_more state) alive [] now (next_of (verified_more state)) plain
  compared_plain talk state seen answers alive now false plain = refl

  repeated_plain : (talk : Talk) (state : Repeating) (answers : List Answer) (draws : List Draw) (ltxid : Ltxid) (alive : Bool) (now : ℕ) (one : Option Recorded) → is_plain state.track ≡ true
      → is_plain_step alive (on_repeated terms talk state answers draws ltxid alive now one) ≡ true
  repeated_plain talk state answers draws ltxid alive now None plain = refl
  repeated_plain talk state answers draws ltxid alive now (Some one) plain = compared_plain talk state one.seen.digest (terms.digest answers) alive now (bytes_eq one.seen.digest (terms.digest answers)) plain

  -- a `set` that an outcome showed ends the request: no rule that refuses it keeps settings
  behind_plain : terms.rules.keeps ≡ false → (talk : Talk) (state : Living) (event : ℕ) (alive : Bool) (shown : Shown) (now : ℕ) (next : Option Call) → next_call talk ≡ next
      → is_plain_step alive (after_completed terms talk state event alive shown now next) ≡ true
  behind_plain unkept talk state event alive shown now None is = refl
  behind_plain unkept talk state event alive shown now (Some one) is = by state.track.set_shown terms.rules.keeps refl unkept
    where
      by : (set keeps : Bool) → state.track.set_shown ≡ set → keeps ≡ false → is_plain_step alive
          (if set && not keeps then fails talk alive (Some shown) (Disabled (why.StateLost state.track.call) event) else sends_call terms talk state alive (begin_of talk ∷ []) (Some shown) now one) ≡ true
      by true false set none = refl
      by true true set none = absurd (let never : ⊥ = cc in never)
      by false keeps set none =
          sent_plain talk state alive (begin_of talk ∷ []) (Some shown) now one is (implied_by (is_none state.track.why) (not state.track.set_shown) (λ free. ap not set))

  completed_plain : terms.rules.keeps ≡ false → (talk : Talk) (state : Living) (event : ℕ) (alive : Bool) (now : ℕ) (one : Option Call) → is_plain_step alive (on_completed terms talk state event alive now one) ≡ true
  completed_plain unkept talk state event alive now None = refl
  completed_plain unkept talk state event alive now (Some one) =
      let after : Talk = talk_shown terms talk one (answer.Committed ∷ []) in
      let next : Living = record state { track = with_shown terms state.track one (answer.Committed ∷ []) [] } in
      behind_plain unkept after next event alive (record { answers = answer.Committed ∷ []; draws = []; ltxid = state.ltxid }) now (next_call after) refl

  uncommitted_plain : (talk : Talk) (asking : Asking) (alive : Bool) (now : ℕ) (reason : Option Why) → is_plain asking.track ≡ true
      → is_plain_step alive (on_told terms talk asking alive now (uncommitted reason asking terms.limits now)) ≡ true
  uncommitted_plain talk asking alive now (Some reason) plain = refl
  uncommitted_plain talk asking alive now None plain = by (nat_le terms.limits.replays asking.track.replays) (is_late terms.limits.timeout asking.track.first now)
    where
      by : (many late : Bool) → is_plain_step alive
          (on_told terms talk asking alive now (if many then told.Replays (over asking) else (if late then told.Late (over asking) else told.Replay (repeated asking)))) ≡ true
      by true late = refl
      by false true = refl
      by false false = marked_plain talk (repeated asking) alive (begin_of talk ∷ []) now (next_of (repeated asking)) plain

  told_plain : terms.rules.keeps ≡ false → (talk : Talk) (asking : Asking) (alive : Bool) (now : ℕ) (committed completed : Bool) → is_plain asking.track ≡ true
      → is_plain_step alive (on_told terms talk asking alive now (told_of asking committed completed terms.limits now)) ≡ true
  told_plain unkept talk asking alive now true true plain = completed_plain unkept talk (resumed (completed_on asking)) asking.event alive now (next_call talk)
  told_plain unkept talk asking alive now true false plain = refl
  told_plain unkept talk asking alive now false completed plain = uncommitted_plain talk asking alive now asking.track.why plain

  takes_plain : terms.rules.keeps ≡ false → (talk : Talk) (phase : Phase) (frame : Down) (alive : Bool) (now : ℕ) → is_plain_talk true talk ≡ true → plain_in true talk phase ≡ true
      → is_plain_step alive (takes terms talk phase frame alive now) ≡ true
  takes_plain unkept talk phase down.Blocked alive now whole here = weaker alive talk talk.phase whole
  takes_plain unkept talk phase (down.Refused cause) alive now whole here = weaker alive talk talk.phase whole
  takes_plain unkept talk (Greeting lost) (down.Hello ltxid) alive now whole here = hello_plain talk lost ltxid alive now here
  takes_plain unkept talk (Asked asking) (down.OutcomeIs committed completed) alive now whole here = told_plain unkept talk asking alive now committed completed here
  takes_plain unkept talk (Asked asking) (down.OutcomeRefused ahead.Forgotten horizon) alive now whole here = refl
  takes_plain unkept talk (Running state) (down.Reply answers draws ltxid) alive now whole here =
      let parts = and_parts (is_plain state.track) (implies (is_none state.track.why) (sets_nothing talk)) here in
      reply_plain talk state answers draws ltxid alive now (next_call talk) refl parts.0 parts.1
  takes_plain unkept talk (Replaying state) (down.Reply answers draws ltxid) alive now whole here = repeated_plain talk state answers draws ltxid alive now (next_of state) here
  takes_plain unkept talk phase frame alive now whole here = refl

  -- OTHER INPUTS ----------------------------------------------------------------------------------

  gone_plain : (talk later : Talk) (phase : Phase) (event : ℕ) → plain_in false talk phase ≡ true → plain_in true later (loses phase event) ≡ true
  gone_plain talk later Idle event here = refl
  gone_plain talk later Unbegun event here = refl
  gone_plain talk later (Queued from) event here = refl
  gone_plain talk later (Seeking None) event here = refl
  gone_plain talk later (Seeking (Some lost)) event here = here
  gone_plain talk later (Greeting None) event here = refl
  gone_plain talk later (Greeting (Some lost)) event here = here
  gone_plain talk later (Asked asking) event here = here
  gone_plain talk later (Running state) event here = (and_parts (is_plain state.track) true here).0
  gone_plain talk later (Replaying state) event here = here

  -- the loss that it has to ask for is that of its phase
  lost_plain : (talk later : Talk) (phase : Phase) → plain_in true talk phase ≡ true → (plain_in true later (Greeting (lost_of phase)) ≡ true) × (plain_in true later (Seeking (lost_of phase)) ≡ true)
  lost_plain talk later (Seeking None) here = (refl, refl)
  lost_plain talk later (Seeking (Some lost)) here = (here, here)
  lost_plain talk later (Greeting None) here = (refl, refl)
  lost_plain talk later (Greeting (Some lost)) here = (here, here)
  lost_plain talk later phase here = (refl, refl)

  waits_plain : (talk : Talk) (from now : ℕ) → is_plain_step true (on_waiting terms talk from now) ≡ true
  waits_plain talk from now = by (nat_le terms.limits.wait (now - from))
    where
      by : (long : Bool) → is_plain_step true (if long then fails talk false None (PoolWait from now) else (stands talk (Queued (Some from)), quiet)) ≡ true
      by true = refl
      by false = refl

  tries_plain : (talk : Talk) (now : ℕ) → is_plain_talk true talk ≡ true → is_plain_step true (on_try_failed terms talk now) ≡ true
  tries_plain talk now here = by (nat_le terms.limits.retries (talk.tries + 1))
    where
      by : (many : Bool) → is_plain_step true (if many then fails (with_tried talk now) false None (Retries (talk.tries + 1)) else (stands (with_tried talk now) (Seeking (lost_of talk.phase)), quiet)) ≡ true
      by true = refl
      by false = (lost_plain talk (stands (with_tried talk now) (Seeking (lost_of talk.phase))) talk.phase here).1

  -- A CONVERSATION --------------------------------------------------------------------------------

  -- a request that goes on keeps its connection
  keeps_or_idle : (before : Phase) (left alive hushed : Bool) (phase : Phase) (send : List Up) (held : Hold) → Spoken before left alive hushed phase send held → (held ≡ Keep) ⊎ (phase ≡ Idle)
  keeps_or_idle before left alive hushed _ _ _ (Quiet phase silent out) = inl refl
  keeps_or_idle before left alive hushed _ _ _ Fails = inr refl
  keeps_or_idle before left alive hushed _ _ _ (Ends may) = inr refl
  keeps_or_idle before left alive hushed _ _ _ (Asks opens may asking) = inl refl
  keeps_or_idle before left alive hushed _ _ _ (Calls opens settings call state) = inl refl
  keeps_or_idle before left alive hushed _ _ _ (Marks opens may settings one state next plain) = inl refl

  module _ (unkept : terms.rules.keeps ≡ false) where
    took_plain : (talk : Talk) (frame : Down) (alive : Bool) (now : ℕ) → is_plain_talk true talk ≡ true
        → is_plain_talk (not (is_gone_next (Took frame alive) (takes terms talk talk.phase frame alive now).1.hold)) (takes terms talk talk.phase frame alive now).0 ≡ true
    took_plain talk frame true now here = takes_plain unkept talk talk.phase frame true now here here
    took_plain talk frame false now here =
        by (keeps_or_idle talk.phase (has_next talk) false (is_hushed frame) step.0.phase step.1.send step.1.hold (said terms talk talk.phase frame false now refl))
      where
        step : Step
        step = takes terms talk talk.phase frame false now

        by : (step.1.hold ≡ Keep) ⊎ (step.0.phase ≡ Idle) → is_plain_talk (not (is_gone_next (Took frame false) step.1.hold)) step.0 ≡ true
        by (inl keep) = subst (λ (held : Hold). is_plain_talk (not (is_gone_next (Took frame false) held)) step.0 ≡ true) (sym keep) (takes_plain unkept talk talk.phase frame false now here here)
        by (inr idle) = subst (λ (phase : Phase). plain_in (not (is_gone_next (Took frame false) step.1.hold)) step.0 phase ≡ true) (sym idle) refl

    step_plain : (talk : Talk) (due : Bool) (input : Input) (now : ℕ) → (is_gone input || not due) ≡ true → is_plain_talk (not due) talk ≡ true
        → is_plain_talk (not (is_gone_next input (talk_step terms talk input now).1.hold)) (talk_step terms talk input now).0 ≡ true
    step_plain talk due (Gone event) now may here = gone_plain talk (stands talk (loses talk.phase event)) talk.phase event (by due here)
      where
        by : (test : Bool) → is_plain_talk (not test) talk ≡ true → is_plain_talk false talk ≡ true
        by true is = is
        by false is = weaker false talk talk.phase is
    step_plain talk due (Took frame alive) now may here = took_plain talk frame alive now (subst (λ (test : Bool). is_plain_talk (not test) talk ≡ true) (not-true due may) here)
    step_plain talk due Start now may here = refl
    step_plain talk due Waiting now may here = waits_plain talk (waits_from talk.phase now) now
    step_plain talk due (Lent connection ltxid) now may here = hello_plain talk None ltxid true now refl
    step_plain talk due (Opened connection) now may here =
        (lost_plain talk (record talk { tries = 0; phase = Greeting (lost_of talk.phase) }) talk.phase (subst (λ (test : Bool). is_plain_talk (not test) talk ≡ true) (not-true due may) here)).0
    step_plain talk due TryFailed now may here = tries_plain talk now (subst (λ (test : Bool). is_plain_talk (not test) talk ≡ true) (not-true due may) here)

    inputs_plain : (inputs : List Timed) (talk : Talk) (due : Bool) → MayCome terms talk due inputs → is_plain_talk (not due) talk ≡ true → is_plain_talk false (talk_after terms talk inputs) ≡ true
    inputs_plain [] talk true may here = here
    inputs_plain [] talk false may here = weaker false talk talk.phase here
    inputs_plain (one ∷ inputs) talk due may here =
        inputs_plain inputs (talk_at terms talk one) (is_gone_next one.0 (done_at terms talk one).act.hold) may.1
        (step_plain talk due one.0 one.1 (and_parts (is_wanted (wants_of terms talk one.1) one.0) (is_gone one.0 || not due) may.0).1 here)

    -- wherever a conversation has come to that waits for an outcome
    pub asks_plain : (settings : List (List ℕ × Value)) (calls : List Call) (inputs : List Timed) (asking : Asking) → MayCome terms (requested settings calls) false inputs → (talk_after terms (requested settings calls) inputs).phase ≡ Asked asking
        → is_plain asking.track ≡ true
    asks_plain settings calls inputs asking may is =
        subst (λ (phase : Phase). plain_in false (talk_after terms (requested settings calls) inputs) phase ≡ true) is (inputs_plain inputs (requested settings calls) false may refl)
