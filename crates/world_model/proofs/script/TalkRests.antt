-- Behind each step a request has a connection on which it waits, or goes on without one, or is
-- over.
use Rattle.std.proofs.Common.{◌≡◌, refl, ap, ◌∙◌, Bool, true, false, ℕ, ◌+◌, ◌-◌, List, [], ◌∷◌, Option, Some, None, if◌then◌else◌}
use Rattle.std.specs.Prelude.{◌&&◌, not, nat_le, Ok, Err}
use Rattle.std.specs.Str.{bytes_eq}
use Rattle.svc_values.specs.declared.answer.Answer.{Answer}
use Rattle.svc_values.specs.declared.answer.Answer.TheVariants as answer
use Rattle.svc_values.specs.declared.call.Call.{Call}
use Rattle.svc_values.specs.declared.draw.Draw.{Draw}
use Rattle.svc_values.specs.declared.entry.Ltxid.{Ltxid}
use Rattle.svc_values.specs.declared.frame.Up.{Up}
use Rattle.svc_values.specs.declared.frame.Ahead.TheVariants as ahead
use Rattle.svc_values.specs.declared.frame.Down.{Down}
use Rattle.svc_values.specs.declared.frame.Down.TheVariants as down
use Rattle.call_recorder.specs.declared.recorded.Recorded.{Recorded}
use Rattle.request_bounds.specs.declared.rule.Why.{Why}
use Rattle.request_bounds.specs.declared.rule.Why.TheVariants as why
use Rattle.client_model.specs.declared.act.Failed.TheVariants.{Disabled, Retries, PoolWait}
use Rattle.client_model.specs.declared.act.Hold.{Hold}
use Rattle.client_model.specs.declared.act.Hold.TheVariants as hold
use Rattle.client_model.specs.declared.act.Shown.{Shown}
use Rattle.client_model.specs.declared.input.Input.{Input}
use Rattle.client_model.specs.declared.input.Input.TheVariants.{Start, Waiting, Lent, Opened, TryFailed, Took, Gone}
use Rattle.client_model.specs.declared.input.Wants.{Wants}
use Rattle.client_model.specs.declared.input.Wants.TheVariants as wants
use Rattle.client_model.specs.meaning.States.{Living, Losing, Asking, Repeating, resumed, next_of}
use Rattle.client_model.specs.meaning.Told.{over, completed_on, repeated, is_late, uncommitted, told_of}
use Rattle.client_model.specs.meaning.Told as told
use Rattle.client_model.specs.meaning.Verifying.{verified_more, mismatch, submitted}
use Rattle.client_model.specs.meaning.Terms.{Terms, Talk, Phase, Idle, Unbegun, Queued, Seeking, Greeting, Asked, Running, Replaying, unsubmitted}
use Rattle.client_model.specs.meaning.Talk.{Step, stands, quiet, fails, with_tried, lost_of, talk_shown, with_shown, sends_call, sends_or_ends, next_call, begin_of, on_hello, on_reply, sends_marked, on_compared, on_repeated, after_completed, on_completed, on_told, takes, on_waiting, waits_from, on_try_failed, talk_step, wants_in}
use Rattle.world_model.specs.records.Hold.{holds_connection}

abbrev is_over : Phase → Bool
is_over Idle = true
is_over _ = false

-- it keeps its connection, or it is over
abbrev is_at_rest : Hold → Phase → Bool
is_at_rest hold.Keep phase = holds_connection phase
is_at_rest _ phase = is_over phase

abbrev Rests : Step → Type 0
Rests step = is_at_rest step.1.hold step.0.phase ≡ true

-- FRAMES ------------------------------------------------------------------------------------------

ended : (alive : Bool) → is_at_rest (if alive then hold.GiveBack else hold.Drop) Idle ≡ true
ended true = refl
ended false = refl

called : (terms : Terms) (talk : Talk) (state : Living) (alive : Bool) (before : List Up) (shown : Option Shown) (now : ℕ) (call : Call) → Rests (sends_call terms talk state alive before shown now call)
called terms talk state true before shown now call = refl
called terms talk state false before shown now call = refl

next_rests : (terms : Terms) (talk : Talk) (state : Living) (alive : Bool) (before : List Up) (shown : Option Shown) (now : ℕ) (next : Option Call) → Rests (sends_or_ends terms talk state alive before shown now next)
next_rests terms talk state alive before shown now None = ended alive
next_rests terms talk state alive before shown now (Some call) = called terms talk state alive before shown now call

marked_rests : (terms : Terms) (talk : Talk) (state : Repeating) (alive : Bool) (before : List Up) (now : ℕ) (one : Option Recorded) → Rests (sends_marked terms talk state alive before now one)
marked_rests terms talk state alive before now None = next_rests terms talk (submitted state) alive before None now (next_call talk)
marked_rests terms talk state alive before now (Some one) = refl

hello_rests : (terms : Terms) (talk : Talk) (lost : Option Losing) (ltxid : Ltxid) (alive : Bool) (now : ℕ) → Rests (on_hello terms talk lost ltxid alive now)
hello_rests terms talk lost ltxid false now = refl
hello_rests terms talk None ltxid true now = next_rests terms talk (record { track = unsubmitted terms; ltxid = ltxid }) true (begin_of talk ∷ []) None now (next_call talk)
hello_rests terms talk (Some lost) ltxid true now = refl

reply_rests : (terms : Terms) (talk : Talk) (state : Living) (answers : List Answer) (draws : List Draw) (ltxid : Ltxid) (alive : Bool) (now : ℕ) (call : Option Call) → Rests (on_reply terms talk state answers draws ltxid alive now call)
reply_rests terms talk state answers draws ltxid alive now None = refl
reply_rests terms talk state answers draws ltxid alive now (Some call) =
    let after : Talk = talk_shown terms talk call answers in
    next_rests terms after (record { track = with_shown terms state.track call answers draws; ltxid = ltxid }) alive [] (Some (record { answers = answers; draws = draws; ltxid = ltxid })) now (next_call after)

compared_rests : (terms : Terms) (talk : Talk) (state : Repeating) (seen answers : List ℕ) (alive : Bool) (now : ℕ) (test : Bool)
    → Rests (on_compared terms talk alive now (if test then Ok (verified_more state) else Err (mismatch state seen answers)))
compared_rests terms talk state seen answers alive now true = marked_rests terms talk (verified_more state) alive [] now (next_of (verified_more state))
compared_rests terms talk state seen answers alive now false = refl

repeated_rests : (terms : Terms) (talk : Talk) (state : Repeating) (answers : List Answer) (draws : List Draw) (ltxid : Ltxid) (alive : Bool) (now : ℕ) (one : Option Recorded)
    → Rests (on_repeated terms talk state answers draws ltxid alive now one)
repeated_rests terms talk state answers draws ltxid alive now None = refl
repeated_rests terms talk state answers draws ltxid alive now (Some one) =
    compared_rests terms talk state one.seen.digest (terms.digest answers) alive now (bytes_eq one.seen.digest (terms.digest answers))

behind_rests : (terms : Terms) (talk : Talk) (state : Living) (event : ℕ) (alive : Bool) (shown : Shown) (now : ℕ) (next : Option Call) → Rests (after_completed terms talk state event alive shown now next)
behind_rests terms talk state event alive shown now None = ended alive
behind_rests terms talk state event alive shown now (Some call) = by (state.track.set_shown && not terms.rules.keeps)
  where
    by : (gone : Bool) → Rests (if gone then fails talk alive (Some shown) (Disabled (why.StateLost state.track.call) event) else sends_call terms talk state alive (begin_of talk ∷ []) (Some shown) now call)
    by true = refl
    by false = called terms talk state alive (begin_of talk ∷ []) (Some shown) now call

completed_rests : (terms : Terms) (talk : Talk) (state : Living) (event : ℕ) (alive : Bool) (now : ℕ) (call : Option Call) → Rests (on_completed terms talk state event alive now call)
completed_rests terms talk state event alive now None = refl
completed_rests terms talk state event alive now (Some call) =
    let after : Talk = talk_shown terms talk call (answer.Committed ∷ []) in
    let next : Living = record state { track = with_shown terms state.track call (answer.Committed ∷ []) [] } in
    behind_rests terms after next event alive (record { answers = answer.Committed ∷ []; draws = []; ltxid = state.ltxid }) now (next_call after)

uncommitted_rests : (terms : Terms) (talk : Talk) (asking : Asking) (alive : Bool) (now : ℕ) (reason : Option Why) → Rests (on_told terms talk asking alive now (uncommitted reason asking terms.limits now))
uncommitted_rests terms talk asking alive now (Some reason) = refl
uncommitted_rests terms talk asking alive now None = by (nat_le terms.limits.replays asking.track.replays) (is_late terms.limits.timeout asking.track.first now)
  where
    by : (many late : Bool) → Rests (on_told terms talk asking alive now (if many then told.Replays (over asking) else (if late then told.Late (over asking) else told.Replay (repeated asking))))
    by true late = refl
    by false true = refl
    by false false = marked_rests terms talk (repeated asking) alive (begin_of talk ∷ []) now (next_of (repeated asking))

told_rests : (terms : Terms) (talk : Talk) (asking : Asking) (alive : Bool) (now : ℕ) (committed completed : Bool) → Rests (on_told terms talk asking alive now (told_of asking committed completed terms.limits now))
told_rests terms talk asking alive now true true = completed_rests terms talk (resumed (completed_on asking)) asking.event alive now (next_call talk)
told_rests terms talk asking alive now true false = refl
told_rests terms talk asking alive now false completed = uncommitted_rests terms talk asking alive now asking.track.why

-- at each frame that is taken
pub taken_rests : (terms : Terms) (talk : Talk) (phase : Phase) (frame : Down) (alive : Bool) (now : ℕ) → talk.phase ≡ phase → holds_connection phase ≡ true → Rests (takes terms talk phase frame alive now)
taken_rests terms talk phase down.Blocked alive now same holds = ap holds_connection same ∙ holds
taken_rests terms talk phase (down.Refused cause) alive now same holds = ap holds_connection same ∙ holds
taken_rests terms talk (Greeting lost) (down.Hello ltxid) alive now same holds = hello_rests terms talk lost ltxid alive now
taken_rests terms talk (Asked asking) (down.OutcomeIs committed completed) alive now same holds = told_rests terms talk asking alive now committed completed
taken_rests terms talk (Asked asking) (down.OutcomeRefused ahead.Forgotten horizon) alive now same holds = refl
taken_rests terms talk (Running state) (down.Reply answers draws ltxid) alive now same holds = reply_rests terms talk state answers draws ltxid alive now (next_call talk)
taken_rests terms talk (Replaying state) (down.Reply answers draws ltxid) alive now same holds = repeated_rests terms talk state answers draws ltxid alive now (next_of state)
taken_rests terms talk phase frame alive now same holds = refl

-- WHAT IS WANTED ----------------------------------------------------------------------------------

pub frame_holds : (terms : Terms) (talk : Talk) (phase : Phase) (now : ℕ) → wants_in terms talk phase now ≡ wants.Frame → holds_connection phase ≡ true
frame_holds terms talk Idle now is = absurd (let none : ⊥ = cc in none)
frame_holds terms talk Unbegun now is = absurd (let none : ⊥ = cc in none)
frame_holds terms talk (Queued from) now is = absurd (let none : ⊥ = cc in none)
frame_holds terms talk (Seeking lost) now is = absurd (seeks _ is)
  where
    seeks : (waited : Bool) → (if waited then wants.Try else wants.Early) ≡ wants.Frame → ⊥
    seeks true is = let none : ⊥ = cc in none
    seeks false is = let none : ⊥ = cc in none
frame_holds terms talk phase now is = refl

pub holds_frame : (terms : Terms) (talk : Talk) (phase : Phase) (now : ℕ) → holds_connection phase ≡ true → wants_in terms talk phase now ≡ wants.Frame
holds_frame terms talk (Greeting lost) now holds = refl
holds_frame terms talk (Asked asking) now holds = refl
holds_frame terms talk (Running state) now holds = refl
holds_frame terms talk (Replaying state) now holds = refl
holds_frame terms talk phase now holds = absurd (let none : ⊥ = cc in none)

-- THE LAST STEP -----------------------------------------------------------------------------------

over_is : (phase : Phase) → is_over phase ≡ true → phase ≡ Idle
over_is Idle is = refl
over_is phase is = absurd (let none : ⊥ = cc in none)

idle_by : (held : Hold) (phase : Phase) → is_at_rest held phase ≡ true → (held ≡ hold.Keep → ⊥) → phase ≡ Idle
idle_by hold.Keep phase rests lets = absurd (lets refl)
idle_by hold.GiveBack phase rests lets = over_is phase rests
idle_by hold.Drop phase rests lets = over_is phase rests

waited_idle : (terms : Terms) (talk : Talk) (from now : ℕ) → ((on_waiting terms talk from now).1.hold ≡ hold.Keep → ⊥) → (on_waiting terms talk from now).0.phase ≡ Idle
waited_idle terms talk from now lets = by (nat_le terms.limits.wait (now - from)) lets
  where
    by : (long : Bool) → ((if long then fails talk false None (PoolWait from now) else (stands talk (Queued (Some from)), quiet)).1.hold ≡ hold.Keep → ⊥)
        → (if long then fails talk false None (PoolWait from now) else (stands talk (Queued (Some from)), quiet)).0.phase ≡ Idle
    by true lets = refl
    by false lets = absurd (lets refl)

tried_idle : (terms : Terms) (talk : Talk) (now : ℕ) → ((on_try_failed terms talk now).1.hold ≡ hold.Keep → ⊥) → (on_try_failed terms talk now).0.phase ≡ Idle
tried_idle terms talk now lets = by (nat_le terms.limits.retries (talk.tries + 1)) lets
  where
    by : (many : Bool) → ((if many then fails (with_tried talk now) false None (Retries (talk.tries + 1)) else (stands (with_tried talk now) (Seeking (lost_of talk.phase)), quiet)).1.hold ≡ hold.Keep → ⊥)
        → (if many then fails (with_tried talk now) false None (Retries (talk.tries + 1)) else (stands (with_tried talk now) (Seeking (lost_of talk.phase)), quiet)).0.phase ≡ Idle
    by true lets = refl
    by false lets = absurd (lets refl)

-- a frame is taken where one is awaited alone
abbrev pub is_awaiting : Input → Wants → Type 0
is_awaiting (Took frame alive) wanted = wanted ≡ wants.Frame
is_awaiting _ wanted = Unit {0}

-- A request that lets go is over.
pub idle_after : (terms : Terms) (talk : Talk) (input : Input) (now : ℕ) → is_awaiting input (wants_in terms talk talk.phase now) → ((talk_step terms talk input now).1.hold ≡ hold.Keep → ⊥) → (talk_step terms talk input now).0.phase ≡ Idle
idle_after terms talk Start now awaits lets = absurd (lets refl)
idle_after terms talk Waiting now awaits lets = waited_idle terms talk (waits_from talk.phase now) now lets
idle_after terms talk (Lent connection ltxid) now awaits lets =
    let step : Step = on_hello terms talk None ltxid true now in idle_by step.1.hold step.0.phase (hello_rests terms talk None ltxid true now) lets
idle_after terms talk (Opened connection) now awaits lets = absurd (lets refl)
idle_after terms talk TryFailed now awaits lets = tried_idle terms talk now lets
idle_after terms talk (Took frame alive) now awaits lets =
    let step : Step = takes terms talk talk.phase frame alive now in
    idle_by step.1.hold step.0.phase (taken_rests terms talk talk.phase frame alive now refl (frame_holds terms talk talk.phase now awaits)) lets
idle_after terms talk (Gone event) now awaits lets = absurd (lets refl)

kept_by : (held : Hold) (phase : Phase) → is_at_rest held phase ≡ true → held ≡ hold.Keep → holds_connection phase ≡ true
kept_by hold.Keep phase rests keep = rests
kept_by hold.GiveBack phase rests keep = absurd (let none : ⊥ = cc in none)
kept_by hold.Drop phase rests keep = absurd (let none : ⊥ = cc in none)

-- One that took a frame and goes on awaits one more.
pub awaits_after : (terms : Terms) (talk : Talk) (frame : Down) (alive : Bool) (now : ℕ) → wants_in terms talk talk.phase now ≡ wants.Frame → (takes terms talk talk.phase frame alive now).1.hold ≡ hold.Keep
    → wants_in terms (takes terms talk talk.phase frame alive now).0 (takes terms talk talk.phase frame alive now).0.phase now ≡ wants.Frame
awaits_after terms talk frame alive now awaits keep =
    let step : Step = takes terms talk talk.phase frame alive now in
    holds_frame terms step.0 step.0.phase now (kept_by step.1.hold step.0.phase (taken_rests terms talk talk.phase frame alive now refl (frame_holds terms talk talk.phase now awaits)) keep)
