-- A request that awaits a frame sent the frame last that this one answers.
use Rattle.std.proofs.Common.{◌≡◌, refl, Bool, true, false, ℕ, ◌&&◌, List, [], ◌∷◌, ◌++◌, Option, Some, None, Result, Ok, Err, if◌then◌else◌}
use Rattle.std.specs.Prelude.{not, nat_le, ◌-◌, ◌+◌, fold}
use Rattle.svc_values.specs.declared.answer.Answer.{Answer}
use Rattle.svc_values.specs.declared.answer.Answer.TheVariants as answer
use Rattle.svc_values.specs.declared.call.Call.{Call}
use Rattle.svc_values.specs.declared.draw.Draw.{Draw}
use Rattle.svc_values.specs.declared.entry.Ltxid.{Ltxid}
use Rattle.svc_values.specs.declared.frame.Ahead.TheVariants as ahead
use Rattle.svc_values.specs.declared.frame.Down.{Down}
use Rattle.svc_values.specs.declared.frame.Down.TheVariants as down
use Rattle.svc_values.specs.declared.frame.Up.{Up}
use Rattle.svc_values.specs.declared.frame.Up.TheVariants as up
use Rattle.call_recorder.specs.declared.recorded.Recorded.{Recorded}
use Rattle.request_bounds.specs.declared.rule.Why.TheVariants as why
use Rattle.client_model.specs.declared.act.Failed.TheVariants.{Disabled, Retries, PoolWait}
use Rattle.client_model.specs.declared.act.Hold.TheVariants.{Keep}
use Rattle.client_model.specs.declared.act.Shown.{Shown}
use Rattle.client_model.specs.declared.input.Input.{Input}
use Rattle.client_model.specs.declared.input.Input.TheVariants.{Start, Waiting, Lent, Opened, TryFailed, Took, Gone}
use Rattle.client_model.specs.declared.track.Mismatch.{Mismatch}
use Rattle.client_model.specs.declared.track.Over.{Over}
use Rattle.client_model.specs.Conversation.{is_gone, is_gone_next}
use Rattle.client_model.specs.meaning.States.{Living, Losing, Asking, Repeating, resumed, next_of}
use Rattle.client_model.specs.meaning.Talk.{Step, fails, quiet, stands, next_call, with_shown, with_tried, waits_from, lost_of, loses, sends_call, sends_or_ends, goes_on, on_hello, on_reply, sends_marked, repeats, on_compared, on_repeated, after_completed, on_completed, on_told, takes, talk_step, begin_of, talk_shown}
use Rattle.client_model.specs.meaning.Terms.{Terms, Talk, Phase, Idle, Unbegun, Queued, Seeking, Greeting, Asked, Running, Replaying, unsubmitted}
use Rattle.client_model.specs.meaning.Told.{Told, told_of}
use Rattle.client_model.specs.meaning.Told as told
use Rattle.client_model.specs.meaning.Verifying.{compared, submitted}

-- the last of these frames, or the one before them
abbrev pub last_sent : Option Up → List Up → Option Up
last_sent last frames = fold (λ before frame. Some frame) last frames

last_append : (last : Option Up) (before : List Up) (frame : Up) → last_sent last (before ++ frame ∷ []) ≡ Some frame
last_append last [] frame = refl
last_append last (one ∷ before) frame = last_append (Some one) before frame

-- the call that is next went out last
pub record CallOut (talk : Talk) (last : Option Up) : Type 0 where
  pub call : Call
  pub is : last ≡ Some (up.Call false [] call)
  pub next : next_call talk ≡ Some call

-- or the recorded call that is next, marked
pub record MarkedOut (state : Repeating) (last : Option Up) : Type 0 where
  pub one : Recorded
  pub is : last ≡ Some (up.Call true one.draws one.call)
  pub next : next_of state ≡ Some one

abbrev pub AwaitsIn : Talk → Option Up → Phase → Type 0
AwaitsIn talk last (Greeting lost) = last ≡ Some up.Connect
AwaitsIn talk last (Asked asking) = last ≡ Some (up.Outcome asking.ltxid)
AwaitsIn talk last (Running state) = CallOut talk last
AwaitsIn talk last (Replaying state) = MarkedOut state last
AwaitsIn talk last _ = Unit {0}

module _ (terms : Terms) (input : Input) (last : Option Up) where
  abbrev pub Right : Step → Type 0
  Right step = is_gone_next input step.1.hold ≡ false → AwaitsIn step.0 (last_sent last step.1.send) step.0.phase

  -- a frame goes out where the connection is there
  abbrev Live : Bool → Type 0
  Live alive = alive ≡ false → is_gone_next input Keep ≡ true

  either_right : (test : Bool) (one other : Step) → Right one → Right other → Right (if test then one else other)
  either_right true one other first second = first
  either_right false one other first second = second

  call_right : (talk : Talk) (state : Living) (alive : Bool) (before : List Up) (shown : Option Shown) (now : ℕ) (call : Call) → next_call talk ≡ Some call → Live alive → Right (sends_call terms talk state alive before shown now call)
  call_right talk state true before shown now call next live due = record { call = call; is = last_append last before (up.Call false [] call); next = next }
  call_right talk state false before shown now call next live due = absurd (let yes : is_gone_next input Keep ≡ true = live refl in let none : ⊥ = cc in none)

  or_ends_right : (talk : Talk) (state : Living) (alive : Bool) (before : List Up) (shown : Option Shown) (now : ℕ) (next : Option Call) → next_call talk ≡ next → Live alive → Right (sends_or_ends terms talk state alive before shown now next)
  or_ends_right talk state alive before shown now None is live = λ due. tt
  or_ends_right talk state alive before shown now (Some call) is live = call_right talk state alive before shown now call is live

  on_right : (talk : Talk) (state : Living) (alive : Bool) (before : List Up) (shown : Option Shown) (now : ℕ) → Live alive → Right (goes_on terms talk state alive before shown now)
  on_right talk state alive before shown now live = or_ends_right talk state alive before shown now (next_call talk) refl live

  hello_right : (talk : Talk) (lost : Option Losing) (x : Ltxid) (alive : Bool) (now : ℕ) → Live alive → Right (on_hello terms talk lost x alive now)
  hello_right talk lost x false now live = λ due. absurd (let yes : is_gone_next input Keep ≡ true = live refl in let none : ⊥ = cc in none)
  hello_right talk None x true now live = on_right talk (record { track = unsubmitted terms; ltxid = x }) true (begin_of talk ∷ []) None now live
  hello_right talk (Some lost) x true now live = λ due. refl

  reply_right : (talk : Talk) (state : Living) (answers : List Answer) (draws : List Draw) (x : Ltxid) (alive : Bool) (now : ℕ) (call : Option Call) → Live alive → Right (on_reply terms talk state answers draws x alive now call)
  reply_right talk state answers draws x alive now None live = λ due. tt
  reply_right talk state answers draws x alive now (Some call) live =
      on_right (talk_shown terms talk call answers) (record { track = with_shown terms state.track call answers draws; ltxid = x }) alive [] (Some (record { answers = answers; draws = draws; ltxid = x })) now live

  marked_right : (talk : Talk) (state : Repeating) (alive : Bool) (before : List Up) (now : ℕ) (next : Option Recorded) → next_of state ≡ next → Live alive → Right (sends_marked terms talk state alive before now next)
  marked_right talk state alive before now None is live = on_right talk (submitted state) alive before None now live
  marked_right talk state true before now (Some one) is live = λ due. record { one = one; is = last_append last before (up.Call true one.draws one.call); next = is }
  marked_right talk state false before now (Some one) is live = λ due. absurd (let yes : is_gone_next input Keep ≡ true = live refl in let none : ⊥ = cc in none)

  repeats_right : (talk : Talk) (state : Repeating) (alive : Bool) (before : List Up) (now : ℕ) → Live alive → Right (repeats terms talk state alive before now)
  repeats_right talk state alive before now live = marked_right talk state alive before now (next_of state) refl live

  compared_right : (talk : Talk) (alive : Bool) (now : ℕ) (found : Result Repeating (Over × Mismatch)) → Live alive → Right (on_compared terms talk alive now found)
  compared_right talk alive now (Ok state) live = repeats_right talk state alive [] now live
  compared_right talk alive now (Err fault) live = λ due. tt

  repeated_right : (talk : Talk) (state : Repeating) (answers : List Answer) (draws : List Draw) (x : Ltxid) (alive : Bool) (now : ℕ) (one : Option Recorded) → Live alive → Right (on_repeated terms talk state answers draws x alive now one)
  repeated_right talk state answers draws x alive now None live = λ due. tt
  repeated_right talk state answers draws x alive now (Some one) live = compared_right talk alive now (compared one state (terms.digest answers)) live

  after_right : (talk : Talk) (state : Living) (event : ℕ) (alive : Bool) (shown : Shown) (now : ℕ) (next : Option Call) → next_call talk ≡ next → Live alive → Right (after_completed terms talk state event alive shown now next)
  after_right talk state event alive shown now None is live = λ due. tt
  after_right talk state event alive shown now (Some call) is live =
      either_right (state.track.set_shown && not terms.rules.keeps) (fails talk alive (Some shown) (Disabled (why.StateLost state.track.call) event)) (sends_call terms talk state alive (begin_of talk ∷ []) (Some shown) now call) (λ due. tt)
      (call_right talk state alive (begin_of talk ∷ []) (Some shown) now call is live)

  completed_right : (talk : Talk) (state : Living) (event : ℕ) (alive : Bool) (now : ℕ) (next : Option Call) → Live alive → Right (on_completed terms talk state event alive now next)
  completed_right talk state event alive now None live = λ due. tt
  completed_right talk state event alive now (Some call) live =
      after_right (talk_shown terms talk call (answer.Committed ∷ [])) (record state { track = with_shown terms state.track call (answer.Committed ∷ []) [] }) event alive (record { answers = answer.Committed ∷ []; draws = []; ltxid = state.ltxid }) now
      (next_call (talk_shown terms talk call (answer.Committed ∷ []))) refl live

  told_right : (talk : Talk) (asking : Asking) (alive : Bool) (now : ℕ) (one : Told) → Live alive → Right (on_told terms talk asking alive now one)
  told_right talk asking alive now (told.Committed state) live = completed_right talk (resumed state) state.event alive now (next_call talk) live
  told_right talk asking alive now (told.Incomplete over) live = λ due. tt
  told_right talk asking alive now (told.Disabled over reason) live = λ due. tt
  told_right talk asking alive now (told.Replays over) live = λ due. tt
  told_right talk asking alive now (told.Late over) live = λ due. tt
  told_right talk asking alive now (told.Replay state) live = repeats_right talk state alive (begin_of talk ∷ []) now live

  takes_right : (talk : Talk) (phase : Phase) (frame : Down) (alive : Bool) (now : ℕ) → AwaitsIn talk last talk.phase → Live alive → Right (takes terms talk phase frame alive now)
  takes_right talk phase down.Blocked alive now was live = λ due. was
  takes_right talk phase (down.Refused cause) alive now was live = λ due. was
  takes_right talk (Greeting lost) (down.Hello x) alive now was live = hello_right talk lost x alive now live
  takes_right talk (Asked asking) (down.OutcomeIs committed completed) alive now was live = told_right talk asking alive now (told_of asking committed completed terms.limits now) live
  takes_right talk (Asked asking) (down.OutcomeRefused ahead.Forgotten horizon) alive now was live = λ due. tt
  takes_right talk (Running state) (down.Reply answers draws x) alive now was live = reply_right talk state answers draws x alive now (next_call talk) live
  takes_right talk (Replaying state) (down.Reply answers draws x) alive now was live = repeated_right talk state answers draws x alive now (next_of state) live
  takes_right talk phase frame alive now was live = λ due. tt

dead_live : (frame : Down) (alive : Bool) → alive ≡ false → is_gone_next (Took frame alive) Keep ≡ true
dead_live frame true dead = absurd (let none : ⊥ = cc in none)
dead_live frame false dead = refl

-- nothing is awaited where the connection is lost
lost_none : (talk : Talk) (last : Option Up) (event : ℕ) (phase : Phase) → AwaitsIn (stands talk (loses phase event)) last (loses phase event)
lost_none talk last event Idle = tt
lost_none talk last event Unbegun = tt
lost_none talk last event (Queued from) = tt
lost_none talk last event (Seeking lost) = tt
lost_none talk last event (Greeting lost) = tt
lost_none talk last event (Asked asking) = tt
lost_none talk last event (Running state) = tt
lost_none talk last event (Replaying state) = tt

-- At each step, but where a loss is due, which comes next.
pub step_awaits : (terms : Terms) (talk : Talk) (input : Input) (now : ℕ) (last : Option Up) → (is_gone input ≡ false → AwaitsIn talk last talk.phase) → Right terms input last (talk_step terms talk input now)
step_awaits terms talk Start now last was = λ due. tt
step_awaits terms talk Waiting now last was =
    either_right terms Waiting last (nat_le terms.limits.wait (now - waits_from talk.phase now)) (fails talk false None (PoolWait (waits_from talk.phase now) now)) (stands talk (Queued (Some (waits_from talk.phase now))), quiet) (λ due. tt) (λ due. tt)
step_awaits terms talk (Lent connection x) now last was = hello_right terms (Lent connection x) last talk None x true now (λ never. absurd (let none : ⊥ = cc in none))
step_awaits terms talk (Opened connection) now last was = λ due. refl
step_awaits terms talk TryFailed now last was =
    either_right terms TryFailed last (nat_le terms.limits.retries (talk.tries + 1)) (fails (with_tried talk now) false None (Retries (talk.tries + 1))) (stands (with_tried talk now) (Seeking (lost_of talk.phase)), quiet) (λ due. tt) (λ due. tt)
step_awaits terms talk (Took frame alive) now last was = takes_right terms (Took frame alive) last talk talk.phase frame alive now (was refl) (dead_live frame alive)
step_awaits terms talk (Gone event) now last was = λ due. lost_none talk last event talk.phase
