-- The track of a request counts the calls that were shown, and one that sent a Begin, or asks for
-- an outcome, was told its identifier.
use Rattle.std.proofs.Common.{◌≡◌, refl, ap, subst, ◌∙◌, Bool, true, false, ℕ, ◌+◌, ◌-◌, cond, length, List, [], ◌∷◌, ◌++◌, Option, Some, None, if◌then◌else◌, arith}
use Rattle.std.specs.Prelude.{◌==◌, ◌&&◌, not, nat_le, is_some, Ok, Err}
use Rattle.std.specs.Option.{option_map_or}
use Rattle.std.specs.Str.{bytes_eq}
use Rattle.svc_values.specs.declared.answer.Answer.{Answer}
use Rattle.svc_values.specs.declared.answer.Answer.TheVariants as answer
use Rattle.svc_values.specs.declared.call.Call.{Call}
use Rattle.svc_values.specs.declared.draw.Draw.{Draw}
use Rattle.svc_values.specs.declared.entry.Ltxid.{Ltxid}
use Rattle.svc_values.specs.declared.frame.Up.{Up}
use Rattle.svc_values.specs.declared.frame.Ahead.TheVariants as ahead
use Rattle.svc_values.specs.declared.frame.Down.{Down}
use Rattle.svc_values.specs.declared.frame.Down.TheVariants as down
use Rattle.call_recorder.specs.declared.recorded.Recorded.{Recorded}
use Rattle.request_bounds.specs.declared.rule.After.{After}
use Rattle.request_bounds.specs.declared.rule.After.TheVariants as after
use Rattle.request_bounds.specs.declared.rule.Why.{Why}
use Rattle.request_bounds.specs.declared.rule.Why.TheVariants as why
use Rattle.client_model.specs.declared.act.Failed.TheVariants.{Disabled, Retries, PoolWait}
use Rattle.client_model.specs.declared.act.Shown.{Shown}
use Rattle.client_model.specs.declared.input.Input.{Input}
use Rattle.client_model.specs.declared.input.Input.TheVariants.{Start, Waiting, Lent, Opened, TryFailed, Took, Gone}
use Rattle.client_model.specs.declared.input.Wants.TheVariants as wants
use Rattle.client_model.specs.declared.track.Track.{Track}
use Rattle.client_model.specs.Conversation.{is_wanted}
use Rattle.client_model.specs.Laws.{track_of}
use Rattle.client_model.specs.meaning.States.{Living, Losing, Asking, Repeating, resumed, next_of}
use Rattle.client_model.specs.meaning.Told.{over, completed_on, repeated, is_late, uncommitted, told_of}
use Rattle.client_model.specs.meaning.Told as told
use Rattle.client_model.specs.meaning.Verifying.{verified_more, mismatch, submitted}
use Rattle.client_model.specs.meaning.Terms.{Terms, Talk, Phase, Idle, Unbegun, Queued, Seeking, Greeting, Asked, Running, Replaying, unsubmitted}
use Rattle.client_model.specs.meaning.Talk.{Step, stands, quiet, fails, with_tried, lost_of, loses, talk_shown, with_shown, with_reply, with_recorded, recorded_as, sends_call, sends_or_ends, next_call, begin_of, on_hello, on_reply, sends_marked, on_compared, on_repeated, after_completed, on_completed, on_told, takes, on_waiting, waits_from, on_try_failed, talk_step, wants_in}
use Rattle.world_model.proofs.events.Tests.{eq_from, eq_to}

-- so many calls were shown
abbrev pub counts_so : ℕ → Phase → Bool
counts_so shown Idle = true
counts_so shown phase = option_map_or (λ track. track.call == shown) (track_of phase) (shown == 0)

-- a try
data IsTry : Input → Type 0 where
  Opens : (connection : ℕ) → IsTry (Opened connection)
  Fails : IsTry TryFailed

-- what a request hears before it has a slot
data IsFirst : Input → Type 0 where
  Starts : IsFirst Start
  Waits : IsFirst Waiting
  Lends : (connection : ℕ) (ltxid : Ltxid) → IsFirst (Lent connection ltxid)

-- TRACKS ------------------------------------------------------------------------------------------

recorded_call : (terms : Terms) (track : Track) (one : Recorded) (reason : Option Why) → (with_recorded terms track one reason).call ≡ track.call
recorded_call terms track one (Some reason) = refl
recorded_call terms track one None = by (nat_le terms.recorded (length track.recorder.calls))
  where
    by : (full : Bool) → (if full then record track { why = Some (why.Full terms.recorded) } else record track { recorder = record track.recorder { calls = track.recorder.calls ++ one ∷ [] } }).call ≡ track.call
    by true = refl
    by false = refl

pub replied_call : (terms : Terms) (track : Track) (one : Recorded) (reply : After) → (with_reply terms track one reply).call ≡ track.call
replied_call terms track one after.Record = recorded_call terms track one track.why
replied_call terms track one after.Purge = refl
replied_call terms track one (after.Stop reason) = refl

shown_call_more : (terms : Terms) (track : Track) (call : Call) (answers : List Answer) (draws : List Draw) (shown : ℕ) → (track.call == shown) ≡ true → ((with_shown terms track call answers draws).call == shown + 1) ≡ true
shown_call_more terms track call answers draws shown is =
    let same : (with_reply terms track (recorded_as terms call answers draws) (terms.rules.reply answers)).call ≡ track.call = replied_call terms track (recorded_as terms call answers draws) (terms.rules.reply answers) in
    let here : track.call ≡ shown = eq_from track.call shown is in
    eq_to ((with_reply terms track (recorded_as terms call answers draws) (terms.rules.reply answers)).call + 1) (shown + 1) (ap (λ (n : ℕ). n + 1) (same ∙ here))

module _ (terms : Terms) (shown : ℕ) where
  abbrev Counted : Step → Type 0
  Counted step = counts_so (shown + cond (is_some step.1.shown) 1 0) step.0.phase ≡ true

  none_more : (phase : Phase) → counts_so shown phase ≡ true → counts_so (shown + 0) phase ≡ true
  none_more phase is = let same : shown ≡ shown + 0 = omega arith in subst (λ (n : ℕ). counts_so n phase ≡ true) same is

  none_call : (track : Track) → (track.call == shown) ≡ true → (track.call == shown + 0) ≡ true
  none_call track is = let same : shown ≡ shown + 0 = omega arith in subst (λ (n : ℕ). (track.call == n) ≡ true) same is

  -- FRAMES ----------------------------------------------------------------------------------------

  called : (talk : Talk) (state : Living) (alive : Bool) (before : List Up) (one : Option Shown) (now : ℕ) (call : Call) → (state.track.call == shown + cond (is_some one) 1 0) ≡ true → Counted (sends_call terms talk state alive before one now call)
  called talk state true before one now call here = here
  called talk state false before one now call here = here

  next_counted : (talk : Talk) (state : Living) (alive : Bool) (before : List Up) (one : Option Shown) (now : ℕ) (next : Option Call) → (state.track.call == shown + cond (is_some one) 1 0) ≡ true → Counted (sends_or_ends terms talk state alive before one now next)
  next_counted talk state alive before one now None here = refl
  next_counted talk state alive before one now (Some call) here = called talk state alive before one now call here

  marked_counted : (talk : Talk) (state : Repeating) (alive : Bool) (before : List Up) (now : ℕ) (one : Option Recorded) → (state.track.call == shown) ≡ true → Counted (sends_marked terms talk state alive before now one)
  marked_counted talk state alive before now None here = next_counted talk (submitted state) alive before None now (next_call talk) (none_call state.track here)
  marked_counted talk state alive before now (Some one) here = none_call state.track here

  first_counted : (talk : Talk) (ltxid : Ltxid) (now : ℕ) → (shown == 0) ≡ true → Counted (sends_or_ends terms talk (record { track = unsubmitted terms; ltxid = ltxid }) true (begin_of talk ∷ []) None now (next_call talk))
  first_counted talk ltxid now none =
      let zero : shown ≡ 0 = eq_from shown 0 none in
      let same : 0 ≡ shown + 0 = omega arith in
      next_counted talk (record { track = unsubmitted terms; ltxid = ltxid }) true (begin_of talk ∷ []) None now (next_call talk) (eq_to 0 (shown + 0) same)

  hello_counted : (talk : Talk) (lost : Option Losing) (ltxid : Ltxid) (alive : Bool) (now : ℕ) → counts_so shown (Greeting lost) ≡ true → Counted (on_hello terms talk lost ltxid alive now)
  hello_counted talk lost ltxid false now here = none_more (Greeting lost) here
  hello_counted talk None ltxid true now here = first_counted talk ltxid now here
  hello_counted talk (Some lost) ltxid true now here = none_call lost.track here

  reply_counted : (talk : Talk) (state : Living) (answers : List Answer) (draws : List Draw) (ltxid : Ltxid) (alive : Bool) (now : ℕ) (call : Option Call) → (state.track.call == shown) ≡ true
      → Counted (on_reply terms talk state answers draws ltxid alive now call)
  reply_counted talk state answers draws ltxid alive now None here = refl
  reply_counted talk state answers draws ltxid alive now (Some call) here =
      let after : Talk = talk_shown terms talk call answers in
      next_counted after (record { track = with_shown terms state.track call answers draws; ltxid = ltxid }) alive [] (Some (record { answers = answers; draws = draws; ltxid = ltxid })) now (next_call after)
      (shown_call_more terms state.track call answers draws shown here)

  compared_counted : (talk : Talk) (state : Repeating) (seen answers : List ℕ) (alive : Bool) (now : ℕ) (test : Bool) → (state.track.call == shown) ≡ true
      → Counted (on_compared terms talk alive now (if test then Ok (verified_more state) else Err (mismatch state seen answers)))
  compared_counted talk state seen answers alive now true here = marked_counted talk (verified_more state) alive [] now (next_of (verified_more state)) here
  compared_counted talk state seen answers alive now false here = refl

  repeated_counted : (talk : Talk) (state : Repeating) (answers : List Answer) (draws : List Draw) (ltxid : Ltxid) (alive : Bool) (now : ℕ) (one : Option Recorded) → (state.track.call == shown) ≡ true
      → Counted (on_repeated terms talk state answers draws ltxid alive now one)
  repeated_counted talk state answers draws ltxid alive now None here = refl
  repeated_counted talk state answers draws ltxid alive now (Some one) here =
      compared_counted talk state one.seen.digest (terms.digest answers) alive now (bytes_eq one.seen.digest (terms.digest answers)) here

  behind_counted : (talk : Talk) (state : Living) (event : ℕ) (alive : Bool) (one : Shown) (now : ℕ) (next : Option Call) → (state.track.call == shown + 1) ≡ true → Counted (after_completed terms talk state event alive one now next)
  behind_counted talk state event alive one now None here = refl
  behind_counted talk state event alive one now (Some call) here = by (state.track.set_shown && not terms.rules.keeps)
    where
      by : (gone : Bool) → Counted (if gone then fails talk alive (Some one) (Disabled (why.StateLost state.track.call) event) else sends_call terms talk state alive (begin_of talk ∷ []) (Some one) now call)
      by true = refl
      by false = called talk state alive (begin_of talk ∷ []) (Some one) now call here

  completed_counted : (talk : Talk) (state : Living) (event : ℕ) (alive : Bool) (now : ℕ) (call : Option Call) → (state.track.call == shown) ≡ true → Counted (on_completed terms talk state event alive now call)
  completed_counted talk state event alive now None here = refl
  completed_counted talk state event alive now (Some call) here =
      let after : Talk = talk_shown terms talk call (answer.Committed ∷ []) in
      let next : Living = record state { track = with_shown terms state.track call (answer.Committed ∷ []) [] } in
      behind_counted after next event alive (record { answers = answer.Committed ∷ []; draws = []; ltxid = state.ltxid }) now (next_call after) (shown_call_more terms state.track call (answer.Committed ∷ []) [] shown here)

  uncommitted_counted : (talk : Talk) (asking : Asking) (alive : Bool) (now : ℕ) (reason : Option Why) → (asking.track.call == shown) ≡ true → Counted (on_told terms talk asking alive now (uncommitted reason asking terms.limits now))
  uncommitted_counted talk asking alive now (Some reason) here = refl
  uncommitted_counted talk asking alive now None here = by (nat_le terms.limits.replays asking.track.replays) (is_late terms.limits.timeout asking.track.first now)
    where
      by : (many late : Bool) → Counted (on_told terms talk asking alive now (if many then told.Replays (over asking) else (if late then told.Late (over asking) else told.Replay (repeated asking))))
      by true late = refl
      by false true = refl
      by false false = marked_counted talk (repeated asking) alive (begin_of talk ∷ []) now (next_of (repeated asking)) here

  told_counted : (talk : Talk) (asking : Asking) (alive : Bool) (now : ℕ) (committed completed : Bool) → (asking.track.call == shown) ≡ true → Counted (on_told terms talk asking alive now (told_of asking committed completed terms.limits now))
  told_counted talk asking alive now true true here = completed_counted talk (resumed (completed_on asking)) asking.event alive now (next_call talk) here
  told_counted talk asking alive now true false here = refl
  told_counted talk asking alive now false completed here = uncommitted_counted talk asking alive now asking.track.why here

  taken_counted : (talk : Talk) (phase : Phase) (frame : Down) (alive : Bool) (now : ℕ) → talk.phase ≡ phase → counts_so shown phase ≡ true → Counted (takes terms talk phase frame alive now)
  taken_counted talk phase down.Blocked alive now same here = none_more talk.phase (ap (counts_so shown) same ∙ here)
  taken_counted talk phase (down.Refused cause) alive now same here = none_more talk.phase (ap (counts_so shown) same ∙ here)
  taken_counted talk (Greeting lost) (down.Hello ltxid) alive now same here = hello_counted talk lost ltxid alive now here
  taken_counted talk (Asked asking) (down.OutcomeIs committed completed) alive now same here = told_counted talk asking alive now committed completed here
  taken_counted talk (Asked asking) (down.OutcomeRefused ahead.Forgotten horizon) alive now same here = refl
  taken_counted talk (Running state) (down.Reply answers draws ltxid) alive now same here = reply_counted talk state answers draws ltxid alive now (next_call talk) here
  taken_counted talk (Replaying state) (down.Reply answers draws ltxid) alive now same here = repeated_counted talk state answers draws ltxid alive now (next_of state) here
  taken_counted talk phase frame alive now same here = refl

  -- STEPS -----------------------------------------------------------------------------------------

  waited_counted : (talk : Talk) (from now : ℕ) → (shown == 0) ≡ true → Counted (on_waiting terms talk from now)
  waited_counted talk from now none = by (nat_le terms.limits.wait (now - from))
    where
      by : (long : Bool) → Counted (if long then fails talk false None (PoolWait from now) else (stands talk (Queued (Some from)), quiet))
      by true = refl
      by false = none_more (Queued None) none

  sought_counted : (talk : Talk) (now : ℕ) → counts_so shown (Seeking (lost_of talk.phase)) ≡ true → Counted (on_try_failed terms talk now)
  sought_counted talk now here = by (nat_le terms.limits.retries (talk.tries + 1))
    where
      by : (many : Bool) → Counted (if many then fails (with_tried talk now) false None (Retries (talk.tries + 1)) else (stands (with_tried talk now) (Seeking (lost_of talk.phase)), quiet))
      by true = refl
      by false = none_more (Seeking (lost_of talk.phase)) here

  greets_counted : (lost : Option Losing) → counts_so shown (Seeking lost) ≡ true → counts_so shown (Greeting lost) ≡ true
  greets_counted None here = here
  greets_counted (Some lost) here = here

  gone_counted : (phase : Phase) (event : ℕ) → counts_so shown phase ≡ true → counts_so shown (loses phase event) ≡ true
  gone_counted (Greeting None) event here = here
  gone_counted (Greeting (Some lost)) event here = here
  gone_counted (Asked asking) event here = here
  gone_counted (Running state) event here = here
  gone_counted (Replaying state) event here = here
  gone_counted Idle event here = here
  gone_counted Unbegun event here = here
  gone_counted (Queued from) event here = here
  gone_counted (Seeking lost) event here = here

  -- WHAT IS WANTED --------------------------------------------------------------------------------

  none_wanted : (input : Input) → IsTry input → is_wanted wants.Idle input ≡ true → ⊥
  none_wanted _ (Opens connection) is = let none : ⊥ = cc in none
  none_wanted _ Fails is = let none : ⊥ = cc in none

  first_wanted : (input : Input) → IsTry input → is_wanted wants.Request input ≡ true → ⊥
  first_wanted _ (Opens connection) is = let none : ⊥ = cc in none
  first_wanted _ Fails is = let none : ⊥ = cc in none

  frame_wanted : (input : Input) → IsTry input → is_wanted wants.Frame input ≡ true → ⊥
  frame_wanted _ (Opens connection) is = let none : ⊥ = cc in none
  frame_wanted _ Fails is = let none : ⊥ = cc in none

  tried_counted : (talk : Talk) (phase : Phase) (now : ℕ) (input : Input) → IsTry input → is_wanted (wants_in terms talk phase now) input ≡ true → counts_so shown phase ≡ true → counts_so shown (Seeking (lost_of phase)) ≡ true
  tried_counted talk Idle now input tries wanted here = absurd (none_wanted input tries wanted)
  tried_counted talk Unbegun now input tries wanted here = absurd (first_wanted input tries wanted)
  tried_counted talk (Queued from) now input tries wanted here = here
  tried_counted talk (Seeking lost) now input tries wanted here = here
  tried_counted talk (Greeting lost) now input tries wanted here = absurd (frame_wanted input tries wanted)
  tried_counted talk (Asked asking) now input tries wanted here = absurd (frame_wanted input tries wanted)
  tried_counted talk (Running state) now input tries wanted here = absurd (frame_wanted input tries wanted)
  tried_counted talk (Replaying state) now input tries wanted here = absurd (frame_wanted input tries wanted)

  seeking_first : (input : Input) (waited : Bool) → IsFirst input → is_wanted (if waited then wants.Try else wants.Early) input ≡ true → ⊥
  seeking_first _ true Starts is = let none : ⊥ = cc in none
  seeking_first _ false Starts is = let none : ⊥ = cc in none
  seeking_first _ true Waits is = let none : ⊥ = cc in none
  seeking_first _ false Waits is = let none : ⊥ = cc in none
  seeking_first _ true (Lends connection ltxid) is = let none : ⊥ = cc in none
  seeking_first _ false (Lends connection ltxid) is = let none : ⊥ = cc in none

  frame_first : (input : Input) → IsFirst input → is_wanted wants.Frame input ≡ true → ⊥
  frame_first _ Starts is = let none : ⊥ = cc in none
  frame_first _ Waits is = let none : ⊥ = cc in none
  frame_first _ (Lends connection ltxid) is = let none : ⊥ = cc in none

  idle_first : (input : Input) → IsFirst input → is_wanted wants.Idle input ≡ true → ⊥
  idle_first _ Starts is = let none : ⊥ = cc in none
  idle_first _ Waits is = let none : ⊥ = cc in none
  idle_first _ (Lends connection ltxid) is = let none : ⊥ = cc in none

  first_none : (talk : Talk) (phase : Phase) (now : ℕ) (input : Input) → IsFirst input → is_wanted (wants_in terms talk phase now) input ≡ true → counts_so shown phase ≡ true → (shown == 0) ≡ true
  first_none talk Idle now input first wanted here = absurd (idle_first input first wanted)
  first_none talk Unbegun now input first wanted here = here
  first_none talk (Queued from) now input first wanted here = here
  first_none talk (Seeking lost) now input first wanted here = absurd (seeking_first input _ first wanted)
  first_none talk (Greeting lost) now input first wanted here = absurd (frame_first input first wanted)
  first_none talk (Asked asking) now input first wanted here = absurd (frame_first input first wanted)
  first_none talk (Running state) now input first wanted here = absurd (frame_first input first wanted)
  first_none talk (Replaying state) now input first wanted here = absurd (frame_first input first wanted)

  -- A STEP ----------------------------------------------------------------------------------------

  pub step_counted : (talk : Talk) (input : Input) (now : ℕ) → is_wanted (wants_in terms talk talk.phase now) input ≡ true → counts_so shown talk.phase ≡ true
      → counts_so (shown + cond (is_some (talk_step terms talk input now).1.shown) 1 0) (talk_step terms talk input now).0.phase ≡ true
  step_counted talk Start now wanted here = none_more (Queued None) (first_none talk talk.phase now Start Starts wanted here)
  step_counted talk Waiting now wanted here = waited_counted talk (waits_from talk.phase now) now (first_none talk talk.phase now Waiting Waits wanted here)
  step_counted talk (Lent connection ltxid) now wanted here = hello_counted talk None ltxid true now (first_none talk talk.phase now (Lent connection ltxid) (Lends connection ltxid) wanted here)
  step_counted talk (Opened connection) now wanted here =
      none_more (Greeting (lost_of talk.phase)) (greets_counted (lost_of talk.phase) (tried_counted talk talk.phase now (Opened connection) (Opens connection) wanted here))
  step_counted talk TryFailed now wanted here = sought_counted talk now (tried_counted talk talk.phase now TryFailed Fails wanted here)
  step_counted talk (Took frame alive) now wanted here = taken_counted talk talk.phase frame alive now refl here
  step_counted talk (Gone event) now wanted here = none_more (loses talk.phase event) (gone_counted talk.phase event here)
