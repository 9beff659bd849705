-- A request whose connection is not kept is over.
use Rattle.std.proofs.Common.{◌≡◌, ℕ, ◌-◌, ◌+◌, Bool, true, false, not, ◌&&◌, List, [], ◌∷◌, Option, Some, None, Result, Ok, Err, if◌then◌else◌, nat_le, refl}
use Rattle.svc_values.specs.declared.answer.Answer.{Answer}
use Rattle.svc_values.specs.declared.answer.Answer.TheVariants as answer
use Rattle.svc_values.specs.declared.call.Call.{Call}
use Rattle.svc_values.specs.declared.draw.Draw.{Draw}
use Rattle.svc_values.specs.declared.entry.Ltxid.{Ltxid}
use Rattle.svc_values.specs.declared.frame.Up.{Up}
use Rattle.svc_values.specs.declared.frame.Ahead.{Ahead}
use Rattle.svc_values.specs.declared.frame.Ahead.TheVariants as ahead
use Rattle.svc_values.specs.declared.frame.Down.{Down}
use Rattle.svc_values.specs.declared.frame.Down.TheVariants as down
use Rattle.request_bounds.specs.declared.rule.Why.TheVariants as why
use Rattle.call_recorder.specs.declared.recorded.Recorded.{Recorded}
use Rattle.client_model.specs.declared.act.Failed.TheVariants.{Disabled, PoolWait, Retries}
use Rattle.client_model.specs.declared.act.Hold.{Hold}
use Rattle.client_model.specs.declared.act.Hold.TheVariants.{Keep, GiveBack, Drop}
use Rattle.client_model.specs.declared.act.Shown.{Shown}
use Rattle.client_model.specs.declared.input.Input.{Input}
use Rattle.client_model.specs.declared.input.Input.TheVariants.{Start, Waiting, Lent, Opened, TryFailed, Took, Gone}
use Rattle.client_model.specs.declared.track.Mismatch.{Mismatch}
use Rattle.client_model.specs.declared.track.Over.{Over}
use Rattle.client_model.specs.Conversation.{is_gone_next}
use Rattle.client_model.specs.meaning.States.{Living, Losing, Asking, Repeating, next_of, resumed}
use Rattle.client_model.specs.meaning.Terms.{Terms, Talk, Phase, Idle, Unbegun, Queued, Seeking, Greeting, Asked, Running, Replaying, unsubmitted}
use Rattle.client_model.specs.meaning.Told.{Told, told_of}
use Rattle.client_model.specs.meaning.Told as told
use Rattle.client_model.specs.meaning.Verifying.{compared, submitted}
use Rattle.client_model.specs.meaning.Talk.{Step, stands, quiet, with_tried, lost_of, fails, sends_call, sends_or_ends, next_call, begin_of, on_hello, on_reply, sends_marked, on_compared, on_repeated, after_completed, on_completed, on_told, takes, on_waiting, waits_from, on_try_failed, with_shown, talk_shown, talk_step}

abbrev pub is_kept : Hold → Bool
is_kept Keep = true
is_kept _ = false

abbrev pub Rests : Step → Type 0
Rests step = is_kept step.1.hold ≡ false → step.0.phase ≡ Idle

kept : {A : Type 0} → true ≡ false → A
kept e = absurd (let none : ⊥ = cc in none)

module _ (terms : Terms) (alive : Bool) (now : ℕ) where
  call_rests : (talk : Talk) (state : Living) (alive : Bool) (before : List Up) (shown : Option Shown) (call : Call) → Rests (sends_call terms talk state alive before shown now call)
  call_rests talk state true before shown call = kept
  call_rests talk state false before shown call = kept

  next_rests : (talk : Talk) (state : Living) (before : List Up) (shown : Option Shown) (next : Option Call) → Rests (sends_or_ends terms talk state alive before shown now next)
  next_rests talk state before shown None = λ e. refl
  next_rests talk state before shown (Some call) = call_rests talk state alive before shown call

  marked_rests : (talk : Talk) (state : Repeating) (before : List Up) (one : Option Recorded) → Rests (sends_marked terms talk state alive before now one)
  marked_rests talk state before None = next_rests talk (submitted state) before None (next_call talk)
  marked_rests talk state before (Some one) = kept

  reply_rests : (talk : Talk) (state : Living) (answers : List Answer) (draws : List Draw) (ltxid : Ltxid) (next : Option Call) → Rests (on_reply terms talk state answers draws ltxid alive now next)
  reply_rests talk state answers draws ltxid None = λ e. refl
  reply_rests talk state answers draws ltxid (Some call) =
      next_rests (talk_shown terms talk call answers) (record { track = with_shown terms state.track call answers draws; ltxid = ltxid }) [] (Some (record { answers = answers; draws = draws; ltxid = ltxid }))
      (next_call (talk_shown terms talk call answers))

  compared_rests : (talk : Talk) (result : Result Repeating (Over × Mismatch)) → Rests (on_compared terms talk alive now result)
  compared_rests talk (Ok state) = marked_rests talk state [] (next_of state)
  compared_rests talk (Err fault) = λ e. refl

  repeated_rests : (talk : Talk) (state : Repeating) (answers : List Answer) (draws : List Draw) (ltxid : Ltxid) (one : Option Recorded) → Rests (on_repeated terms talk state answers draws ltxid alive now one)
  repeated_rests talk state answers draws ltxid None = λ e. refl
  repeated_rests talk state answers draws ltxid (Some one) = compared_rests talk (compared one state (terms.digest answers))

  behind_rests : (talk : Talk) (state : Living) (event : ℕ) (shown : Shown) (call : Call) (lost : Bool)
      → Rests (if lost then fails talk alive (Some shown) (Disabled (why.StateLost state.track.call) event) else sends_call terms talk state alive (begin_of talk ∷ []) (Some shown) now call)
  behind_rests talk state event shown call true = λ e. refl
  behind_rests talk state event shown call false = call_rests talk state alive (begin_of talk ∷ []) (Some shown) call

  after_rests : (talk : Talk) (state : Living) (event : ℕ) (shown : Shown) (next : Option Call) → Rests (after_completed terms talk state event alive shown now next)
  after_rests talk state event shown None = λ e. refl
  after_rests talk state event shown (Some call) = behind_rests talk state event shown call (state.track.set_shown && not terms.rules.keeps)

  completed_rests : (talk : Talk) (state : Living) (event : ℕ) (next : Option Call) → Rests (on_completed terms talk state event alive now next)
  completed_rests talk state event None = λ e. refl
  completed_rests talk state event (Some call) =
      after_rests (talk_shown terms talk call (answer.Committed ∷ [])) (record state { track = with_shown terms state.track call (answer.Committed ∷ []) [] }) event (record { answers = answer.Committed ∷ []; draws = []; ltxid = state.ltxid })
      (next_call (talk_shown terms talk call (answer.Committed ∷ [])))

  told_rests : (talk : Talk) (asking : Asking) (told : Told) → Rests (on_told terms talk asking alive now told)
  told_rests talk asking (told.Committed state) = completed_rests talk (resumed state) state.event (next_call talk)
  told_rests talk asking (told.Incomplete over) = λ e. refl
  told_rests talk asking (told.Disabled over reason) = λ e. refl
  told_rests talk asking (told.Replays over) = λ e. refl
  told_rests talk asking (told.Late over) = λ e. refl
  told_rests talk asking (told.Replay state) = marked_rests talk state (begin_of talk ∷ []) (next_of state)

hello_rests : (terms : Terms) (talk : Talk) (lost : Option Losing) (ltxid : Ltxid) (alive : Bool) (now : ℕ) → Rests (on_hello terms talk lost ltxid alive now)
hello_rests terms talk lost ltxid false now = kept
hello_rests terms talk None ltxid true now = next_rests terms true now talk (record { track = unsubmitted terms; ltxid = ltxid }) (begin_of talk ∷ []) None (next_call talk)
hello_rests terms talk (Some lost) ltxid true now = kept

module _ (terms : Terms) (talk : Talk) (alive : Bool) (now : ℕ) where
  reply_taken : (phase : Phase) (answers : List Answer) (draws : List Draw) (ltxid : Ltxid) → Rests (takes terms talk phase (down.Reply answers draws ltxid) alive now)
  reply_taken Idle answers draws ltxid = λ e. refl
  reply_taken Unbegun answers draws ltxid = λ e. refl
  reply_taken (Queued from) answers draws ltxid = λ e. refl
  reply_taken (Seeking lost) answers draws ltxid = λ e. refl
  reply_taken (Greeting lost) answers draws ltxid = λ e. refl
  reply_taken (Asked asking) answers draws ltxid = λ e. refl
  reply_taken (Running state) answers draws ltxid = reply_rests terms alive now talk state answers draws ltxid (next_call talk)
  reply_taken (Replaying state) answers draws ltxid = repeated_rests terms alive now talk state answers draws ltxid (next_of state)

  hello_taken : (phase : Phase) (ltxid : Ltxid) → Rests (takes terms talk phase (down.Hello ltxid) alive now)
  hello_taken Idle ltxid = λ e. refl
  hello_taken Unbegun ltxid = λ e. refl
  hello_taken (Queued from) ltxid = λ e. refl
  hello_taken (Seeking lost) ltxid = λ e. refl
  hello_taken (Greeting lost) ltxid = hello_rests terms talk lost ltxid alive now
  hello_taken (Asked asking) ltxid = λ e. refl
  hello_taken (Running state) ltxid = λ e. refl
  hello_taken (Replaying state) ltxid = λ e. refl

  outcome_taken : (phase : Phase) (committed completed : Bool) → Rests (takes terms talk phase (down.OutcomeIs committed completed) alive now)
  outcome_taken Idle committed completed = λ e. refl
  outcome_taken Unbegun committed completed = λ e. refl
  outcome_taken (Queued from) committed completed = λ e. refl
  outcome_taken (Seeking lost) committed completed = λ e. refl
  outcome_taken (Greeting lost) committed completed = λ e. refl
  outcome_taken (Asked asking) committed completed = told_rests terms alive now talk asking (told_of asking committed completed terms.limits now)
  outcome_taken (Running state) committed completed = λ e. refl
  outcome_taken (Replaying state) committed completed = λ e. refl

  refusal_taken : (phase : Phase) (who : Ahead) (next : ℕ) → Rests (takes terms talk phase (down.OutcomeRefused who next) alive now)
  refusal_taken Idle who next = λ e. refl
  refusal_taken Unbegun who next = λ e. refl
  refusal_taken (Queued from) who next = λ e. refl
  refusal_taken (Seeking lost) who next = λ e. refl
  refusal_taken (Greeting lost) who next = λ e. refl
  refusal_taken (Asked asking) ahead.Server next = λ e. refl
  refusal_taken (Asked asking) ahead.Client next = λ e. refl
  refusal_taken (Asked asking) ahead.Forgotten next = λ e. refl
  refusal_taken (Running state) who next = λ e. refl
  refusal_taken (Replaying state) who next = λ e. refl

  frame_rests : (frame : Down) → Rests (takes terms talk talk.phase frame alive now)
  frame_rests (down.Hello ltxid) = hello_taken talk.phase ltxid
  frame_rests (down.Reply answers draws ltxid) = reply_taken talk.phase answers draws ltxid
  frame_rests (down.OutcomeIs committed completed) = outcome_taken talk.phase committed completed
  frame_rests (down.OutcomeRefused who next) = refusal_taken talk.phase who next
  frame_rests down.Blocked = kept
  frame_rests (down.Refused cause) = kept

  waiting_rests : (from : ℕ) → Rests (on_waiting terms talk from now)
  waiting_rests from = by (nat_le terms.limits.wait (now - from))
    where
      by : (b : Bool) → Rests (if b then fails talk false None (PoolWait from now) else (stands talk (Queued (Some from)), quiet))
      by true = λ e. refl
      by false = kept

  try_rests : Rests (on_try_failed terms talk now)
  try_rests = by (nat_le terms.limits.retries (talk.tries + 1))
    where
      by : (b : Bool) → Rests (if b then fails (with_tried talk now) false None (Retries (talk.tries + 1)) else (stands (with_tried talk now) (Seeking (lost_of talk.phase)), quiet))
      by true = λ e. refl
      by false = kept

pub step_rests : (terms : Terms) (talk : Talk) (input : Input) (now : ℕ) → Rests (talk_step terms talk input now)
step_rests terms talk Start now = kept
step_rests terms talk Waiting now = waiting_rests terms talk false now (waits_from talk.phase now)
step_rests terms talk (Lent connection ltxid) now = hello_rests terms talk None ltxid true now
step_rests terms talk (Opened connection) now = kept
step_rests terms talk TryFailed now = try_rests terms talk false now
step_rests terms talk (Took frame alive) now = frame_rests terms talk alive now frame
step_rests terms talk (Gone event) now = kept

pub over_not_gone : (input : Input) (hold : Hold) → is_kept hold ≡ false → is_gone_next input hold ≡ false
over_not_gone Start hold e = refl
over_not_gone Waiting hold e = refl
over_not_gone (Lent connection ltxid) hold e = refl
over_not_gone (Opened connection) hold e = refl
over_not_gone TryFailed hold e = refl
over_not_gone (Took frame true) hold e = refl
over_not_gone (Took frame false) Keep e = kept e
over_not_gone (Took frame false) GiveBack e = refl
over_not_gone (Took frame false) Drop e = refl
over_not_gone (Gone event) hold e = refl
