-- A request never keeps more calls to be repeated than may be recorded.
use Rattle.std.proofs.Common.{◌≡◌, refl, Bool, true, false, ℕ, ◌+◌, ◌-◌, ◌<◌, length, length-append, List, [], ◌∷◌, ◌++◌, Option, Some, None, if◌then◌else◌, arith}
use Rattle.std.specs.Prelude.{nat_le, not, ◌&&◌, Ok, Err}
use Rattle.std.specs.Str.{bytes_eq}
use Rattle.svc_values.specs.declared.call.Call.{Call}
use Rattle.svc_values.specs.declared.answer.Answer.{Answer}
use Rattle.svc_values.specs.declared.answer.Answer.TheVariants as answer
use Rattle.svc_values.specs.declared.draw.Draw.{Draw}
use Rattle.svc_values.specs.declared.entry.Ltxid.{Ltxid}
use Rattle.svc_values.specs.declared.frame.Up.{Up}
use Rattle.svc_values.specs.declared.frame.Ahead.TheVariants as ahead
use Rattle.svc_values.specs.declared.frame.Down.{Down}
use Rattle.svc_values.specs.declared.frame.Down.TheVariants as down
use Rattle.request_bounds.specs.declared.rule.Why.{Why}
use Rattle.request_bounds.specs.declared.rule.Why.TheVariants as why
use Rattle.request_bounds.specs.declared.rule.After.{After}
use Rattle.request_bounds.specs.declared.rule.After.TheVariants as after
use Rattle.call_recorder.specs.declared.recorded.Recorded.{Recorded}
use Rattle.client_model.specs.declared.track.Track.{Track}
use Rattle.client_model.specs.declared.act.Shown.{Shown}
use Rattle.client_model.specs.declared.act.Failed.TheVariants.{Disabled, Retries, PoolWait}
use Rattle.client_model.specs.declared.input.Input.{Input}
use Rattle.client_model.specs.declared.input.Input.TheVariants.{Start, Waiting, Lent, Opened, TryFailed, Took, Gone}
use Rattle.client_model.specs.meaning.Conversation.{Timed, talk_at}
use Rattle.client_model.specs.Conversation.{talk_after}
use Rattle.client_model.specs.meaning.Told.{over, completed_on, repeated, is_late, uncommitted, told_of}
use Rattle.client_model.specs.meaning.Told as told
use Rattle.client_model.specs.meaning.States.{Living, Losing, Asking, Repeating, resumed, next_of}
use Rattle.client_model.specs.meaning.Verifying.{verified_more, mismatch, submitted}
use Rattle.client_model.specs.meaning.Terms.{Terms, Talk, Phase, Idle, Unbegun, Queued, Seeking, Greeting, Asked, Running, Replaying, unsubmitted}
use Rattle.client_model.specs.meaning.Talk.{Step, fails, with_recorded, with_reply, with_shown, recorded_as, talk_shown, sends_call, sends_or_ends, next_call, begin_of, on_hello, on_reply, sends_marked, on_compared, on_repeated, after_completed, on_completed, on_told, takes, loses, lost_of, waits_from, with_tried, stands, quiet, talk_step}
use Rattle.world_model.proofs.events.Tests.{le_to}
use Rattle.world_model.proofs.finish.TalkRounds.{records_few, not_le}

-- WHAT IS RECORDED --------------------------------------------------------------------------------

abbrev recorded_in : Track → List Recorded
recorded_in track = track.recorder.calls

module _ (terms : Terms) where
  abbrev is_few : Track → Bool
  is_few track = nat_le (length (recorded_in track)) terms.recorded

  abbrev pub few_in : Step → Bool
  few_in step = records_few terms step.0.phase

  one_more : {A : Type 0} (xs : List A) (x : A) (most : ℕ) → nat_le most (length xs) ≡ false → nat_le (length (xs ++ x ∷ [])) most ≡ true
  one_more xs x most few =
      let long : length (xs ++ x ∷ []) ≡ length xs + length (x ∷ []) = length-append xs (x ∷ []) in
      let below : length xs < most = not_le most (length xs) few in
      le_to (length (xs ++ x ∷ [])) most (omega arith)

  shown_few : (track : Track) (call : Call) (answers : List Answer) (draws : List Draw) → is_few track ≡ true → is_few (with_shown terms track call answers draws) ≡ true
  shown_few track call answers draws here = by (terms.rules.reply answers)
    where
      one : Recorded
      one = recorded_as terms call answers draws

      full : (test : Bool) → nat_le terms.recorded (length track.recorder.calls) ≡ test
          → is_few (if test then record track { why = Some (why.Full terms.recorded) } else record track { recorder = record track.recorder { calls = track.recorder.calls ++ one ∷ [] } }) ≡ true
      full true is = here
      full false is = one_more track.recorder.calls one terms.recorded is

      recorded : (reason : Option Why) → is_few (with_recorded terms track one reason) ≡ true
      recorded (Some reason) = here
      recorded None = full (nat_le terms.recorded (length track.recorder.calls)) refl

      by : (reply : After) → is_few (with_reply terms track one reply) ≡ true
      by after.Record = recorded track.why
      by after.Purge = le_to 0 terms.recorded (omega arith)
      by (after.Stop reason) = here

  next_few : (talk : Talk) (state : Living) (alive : Bool) (before : List Up) (shown : Option Shown) (now : ℕ) (next : Option Call) → is_few state.track ≡ true → few_in (sends_or_ends terms talk state alive before shown now next) ≡ true
  next_few talk state alive before shown now None here = refl
  next_few talk state true before shown now (Some call) here = here
  next_few talk state false before shown now (Some call) here = here

  marked_few : (talk : Talk) (state : Repeating) (alive : Bool) (before : List Up) (now : ℕ) (one : Option Recorded) → is_few state.track ≡ true → few_in (sends_marked terms talk state alive before now one) ≡ true
  marked_few talk state alive before now None here = next_few talk (submitted state) alive before None now (next_call talk) here
  marked_few talk state alive before now (Some one) here = here

  pub hello_few : (talk : Talk) (lost : Option Losing) (ltxid : Ltxid) (alive : Bool) (now : ℕ) → records_few terms (Greeting lost) ≡ true → few_in (on_hello terms talk lost ltxid alive now) ≡ true
  hello_few talk None ltxid true now here = next_few talk (record { track = unsubmitted terms; ltxid = ltxid }) true (begin_of talk ∷ []) None now (next_call talk) (le_to 0 terms.recorded (omega arith))
  hello_few talk (Some lost) ltxid true now here = here
  hello_few talk None ltxid false now here = refl
  hello_few talk (Some lost) ltxid false now here = here

  reply_few : (talk : Talk) (state : Living) (answers : List Answer) (draws : List Draw) (ltxid : Ltxid) (alive : Bool) (now : ℕ) (one : Option Call) → is_few state.track ≡ true → few_in (on_reply terms talk state answers draws ltxid alive now one) ≡ true
  reply_few talk state answers draws ltxid alive now None here = refl
  reply_few talk state answers draws ltxid alive now (Some call) here =
      let after : Talk = talk_shown terms talk call answers in
      next_few after (record { track = with_shown terms state.track call answers draws; ltxid = ltxid }) alive [] (Some (record { answers = answers; draws = draws; ltxid = ltxid })) now (next_call after) (shown_few state.track call answers draws here)

  completed_few : (talk : Talk) (state : Living) (ended : ℕ) (alive : Bool) (now : ℕ) (one : Option Call) → is_few state.track ≡ true → few_in (on_completed terms talk state ended alive now one) ≡ true
  completed_few talk state ended alive now None here = refl
  completed_few talk state ended alive now (Some call) here = by (next_call after)
    where
      after : Talk
      after = talk_shown terms talk call (answer.Committed ∷ [])

      next : Living
      next = record state { track = with_shown terms state.track call (answer.Committed ∷ []) [] }

      shown : Shown
      shown = record { answers = answer.Committed ∷ []; draws = []; ltxid = state.ltxid }

      gone : (test : Bool) (other : Call) → few_in (if test then fails after alive (Some shown) (Disabled (why.StateLost next.track.call) ended) else sends_call terms after next alive (begin_of after ∷ []) (Some shown) now other) ≡ true
      gone true other = refl
      gone false other = next_few after next alive (begin_of after ∷ []) (Some shown) now (Some other) (shown_few state.track call (answer.Committed ∷ []) [] here)

      by : (found : Option Call) → few_in (after_completed terms after next ended alive shown now found) ≡ true
      by None = refl
      by (Some other) = gone (next.track.set_shown && not terms.rules.keeps) other

  told_few : (talk : Talk) (asking : Asking) (alive : Bool) (now : ℕ) (committed completed : Bool) → is_few asking.track ≡ true → few_in (on_told terms talk asking alive now (told_of asking committed completed terms.limits now)) ≡ true
  told_few talk asking alive now true true here = completed_few talk (resumed (completed_on asking)) asking.event alive now (next_call talk) here
  told_few talk asking alive now true false here = refl
  told_few talk asking alive now false other here = by asking.track.why
    where
      started_or : (many late : Bool) → few_in (on_told terms talk asking alive now (if many then told.Replays (over asking) else (if late then told.Late (over asking) else told.Replay (repeated asking)))) ≡ true
      started_or true late = refl
      started_or false true = refl
      started_or false false = marked_few talk (repeated asking) alive (begin_of talk ∷ []) now (next_of (repeated asking)) here

      by : (reason : Option Why) → few_in (on_told terms talk asking alive now (uncommitted reason asking terms.limits now)) ≡ true
      by (Some reason) = refl
      by None = started_or (nat_le terms.limits.replays asking.track.replays) (is_late terms.limits.timeout asking.track.first now)

  repeated_few : (talk : Talk) (state : Repeating) (answers : List Answer) (draws : List Draw) (ltxid : Ltxid) (alive : Bool) (now : ℕ) (one : Option Recorded) → is_few state.track ≡ true → few_in (on_repeated terms talk state answers draws ltxid alive now one) ≡ true
  repeated_few talk state answers draws ltxid alive now None here = refl
  repeated_few talk state answers draws ltxid alive now (Some one) here = by (bytes_eq one.seen.digest (terms.digest answers))
    where
      by : (same : Bool) → few_in (on_compared terms talk alive now (if same then Ok (verified_more state) else Err (mismatch state one.seen.digest (terms.digest answers)))) ≡ true
      by true = marked_few talk (verified_more state) alive [] now (next_of (verified_more state)) here
      by false = refl

  takes_few : (talk : Talk) (phase : Phase) (frame : Down) (alive : Bool) (now : ℕ) → records_few terms talk.phase ≡ true → records_few terms phase ≡ true → few_in (takes terms talk phase frame alive now) ≡ true
  takes_few talk phase down.Blocked alive now whole here = whole
  takes_few talk phase (down.Refused cause) alive now whole here = whole
  takes_few talk (Greeting lost) (down.Hello ltxid) alive now whole here = hello_few talk lost ltxid alive now here
  takes_few talk (Asked asking) (down.OutcomeIs committed completed) alive now whole here = told_few talk asking alive now committed completed here
  takes_few talk (Asked asking) (down.OutcomeRefused ahead.Forgotten horizon) alive now whole here = refl
  takes_few talk (Running state) (down.Reply answers draws ltxid) alive now whole here = reply_few talk state answers draws ltxid alive now (next_call talk) here
  takes_few talk (Replaying state) (down.Reply answers draws ltxid) alive now whole here = repeated_few talk state answers draws ltxid alive now (next_of state) here
  takes_few talk phase frame alive now whole here = refl

  loses_few : (phase : Phase) (event : ℕ) → records_few terms phase ≡ true → records_few terms (loses phase event) ≡ true
  loses_few Idle event here = here
  loses_few Unbegun event here = here
  loses_few (Queued from) event here = here
  loses_few (Seeking lost) event here = here
  loses_few (Greeting None) event here = here
  loses_few (Greeting (Some lost)) event here = here
  loses_few (Asked asking) event here = here
  loses_few (Running state) event here = here
  loses_few (Replaying state) event here = here

  lost_few : (phase : Phase) → records_few terms phase ≡ true → (records_few terms (Greeting (lost_of phase)) ≡ true) × (records_few terms (Seeking (lost_of phase)) ≡ true)
  lost_few (Seeking None) here = (refl, refl)
  lost_few (Seeking (Some lost)) here = (here, here)
  lost_few (Greeting None) here = (refl, refl)
  lost_few (Greeting (Some lost)) here = (here, here)
  lost_few phase here = (refl, refl)

  step_few : (talk : Talk) (input : Input) (now : ℕ) → records_few terms talk.phase ≡ true → few_in (talk_step terms talk input now) ≡ true
  step_few talk Start now here = refl
  step_few talk Waiting now here = by (nat_le terms.limits.wait (now - waits_from talk.phase now))
    where
      by : (long : Bool) → few_in (if long then fails talk false None (PoolWait (waits_from talk.phase now) now) else (stands talk (Queued (Some (waits_from talk.phase now))), quiet)) ≡ true
      by true = refl
      by false = refl
  step_few talk (Lent connection ltxid) now here = hello_few talk None ltxid true now refl
  step_few talk (Opened connection) now here = (lost_few talk.phase here).0
  step_few talk TryFailed now here = by (nat_le terms.limits.retries (talk.tries + 1))
    where
      by : (many : Bool) → few_in (if many then fails (with_tried talk now) false None (Retries (talk.tries + 1)) else (stands (with_tried talk now) (Seeking (lost_of talk.phase)), quiet)) ≡ true
      by true = refl
      by false = (lost_few talk.phase here).1
  step_few talk (Took frame alive) now here = takes_few talk talk.phase frame alive now here here
  step_few talk (Gone event) now here = loses_few talk.phase event here

  -- in each conversation
  pub talk_few : (talk : Talk) (inputs : List Timed) → records_few terms talk.phase ≡ true → records_few terms (talk_after terms talk inputs).phase ≡ true
  talk_few talk [] here = here
  talk_few talk (one ∷ inputs) here = talk_few (talk_at terms talk one) inputs (step_few talk one.0 one.1 here)
