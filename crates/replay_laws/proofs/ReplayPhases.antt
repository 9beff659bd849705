-- A request comes to repeat calls from the opening of a connection, and is shown none on the way.
use Rattle.std.proofs.Common.{◌≡◌, refl, sym, ap, ◌∙◌, ℕ, ◌+◌, ◌-◌, ◌&&◌, Bool, true, false, List, [], ◌∷◌, Option, Some, None, if◌then◌else◌}
use Rattle.std.specs.Prelude.{Result, Ok, Err, nat_le, not}
use Rattle.svc_values.specs.declared.answer.Answer.{Answer}
use Rattle.svc_values.specs.declared.answer.Answer.TheVariants as answer
use Rattle.svc_values.specs.declared.call.Call.{Call}
use Rattle.svc_values.specs.declared.draw.Draw.{Draw}
use Rattle.svc_values.specs.declared.entry.Ltxid.{Ltxid}
use Rattle.svc_values.specs.declared.frame.Ahead.TheVariants as ahead
use Rattle.svc_values.specs.declared.frame.Down.{Down}
use Rattle.svc_values.specs.declared.frame.Down.TheVariants as down
use Rattle.svc_values.specs.declared.frame.Up.{Up}
use Rattle.request_bounds.specs.declared.rule.Why.TheVariants as why
use Rattle.call_recorder.specs.declared.recorded.Recorded.{Recorded}
use Rattle.client_model.specs.declared.act.Failed.TheVariants.{Disabled, Retries, PoolWait}
use Rattle.client_model.specs.declared.act.Shown.{Shown}
use Rattle.client_model.specs.declared.input.Input.{Input}
use Rattle.client_model.specs.declared.input.Input.TheVariants.{Start, Waiting, Lent, Opened, TryFailed, Took, Gone}
use Rattle.client_model.specs.declared.track.Mismatch.{Mismatch}
use Rattle.client_model.specs.declared.track.Over.{Over}
use Rattle.client_model.specs.meaning.States.{Living, Losing, Asking, Repeating, next_of, resumed}
use Rattle.client_model.specs.meaning.Talk.{Step, begin_of, loses, talk_shown, with_shown, stands, quiet, fails, with_tried, lost_of, on_waiting, waits_from, on_try_failed, sends_or_ends, next_call, on_hello, on_reply, sends_marked, on_compared, on_repeated, after_completed, on_completed, on_told, takes, talk_step}
use Rattle.client_model.specs.meaning.Terms.{Terms, Talk, unsubmitted, Phase, Idle, Unbegun, Queued, Seeking, Greeting, Asked, Running, Replaying}
use Rattle.client_model.specs.meaning.Told.{Told, told_of}
use Rattle.client_model.specs.meaning.Told as told
use Rattle.client_model.specs.meaning.Verifying.{compared, submitted}

-- on the way to the calls that are repeated, or at them
abbrev pub is_replay_phase : Phase → Bool
is_replay_phase (Greeting lost) = true
is_replay_phase (Asked asking) = true
is_replay_phase (Replaying state) = true
is_replay_phase _ = false

-- such a phase comes by an opening, or from another one by a frame, and nothing is shown then
abbrev pub Stays : Phase → Step → Type 0
Stays before step = is_replay_phase step.0.phase ≡ true → (is_replay_phase before ≡ true) × (step.1.shown ≡ None)

never : {A : Type 0} → false ≡ true → A
never is = absurd (let none : ⊥ = cc in none)

sends_away : (terms : Terms) (talk : Talk) (state : Living) (alive : Bool) (before : List Up) (shown : Option Shown) (now : ℕ) (next : Option Call) → is_replay_phase (sends_or_ends terms talk state alive before shown now next).0.phase ≡ false
sends_away terms talk state alive before shown now None = refl
sends_away terms talk state true before shown now (Some call) = refl
sends_away terms talk state false before shown now (Some call) = refl

abbrev Away : Step → Type 0
Away step = is_replay_phase step.0.phase ≡ false

away_stays : (before : Phase) (step : Step) → Away step → Stays before step
away_stays before step away is = absurd (let none : ⊥ = cc in none)

hello_stays : (terms : Terms) (talk : Talk) (lost : Option Losing) (ltxid : Ltxid) (alive : Bool) (now : ℕ) → Stays (Greeting lost) (on_hello terms talk lost ltxid alive now)
hello_stays terms talk lost ltxid false now is = (refl, refl)
hello_stays terms talk None ltxid true now is =
    away_stays (Greeting None) (on_hello terms talk None ltxid true now) (sends_away terms talk (record { track = unsubmitted terms; ltxid = ltxid }) true (begin_of talk ∷ []) None now (next_call talk)) is
hello_stays terms talk (Some lost) ltxid true now is = (refl, refl)

reply_away : (terms : Terms) (talk : Talk) (state : Living) (answers : List Answer) (draws : List Draw) (ltxid : Ltxid) (alive : Bool) (now : ℕ) (call : Option Call) → Away (on_reply terms talk state answers draws ltxid alive now call)
reply_away terms talk state answers draws ltxid alive now None = refl
reply_away terms talk state answers draws ltxid alive now (Some call) =
    let after : Talk = talk_shown terms talk call answers in
    sends_away terms after (record { track = with_shown terms state.track call answers draws; ltxid = ltxid }) alive [] (Some (record { answers = answers; draws = draws; ltxid = ltxid })) now (next_call after)

marked_stays : (before : Phase) → is_replay_phase before ≡ true → (terms : Terms) (talk : Talk) (state : Repeating) (alive : Bool) (frames : List Up) (now : ℕ) (next : Option Recorded) → Stays before (sends_marked terms talk state alive frames now next)
marked_stays before from terms talk state alive frames now None is =
    away_stays before (sends_marked terms talk state alive frames now None) (sends_away terms talk (submitted state) alive frames None now (next_call talk)) is
marked_stays before from terms talk state alive frames now (Some one) is = (from, refl)

compared_stays : (before : Phase) → is_replay_phase before ≡ true → (terms : Terms) (talk : Talk) (alive : Bool) (now : ℕ) (result : Result Repeating (Over × Mismatch)) → Stays before (on_compared terms talk alive now result)
compared_stays before from terms talk alive now (Ok state) is = marked_stays before from terms talk state alive [] now (next_of state) is
compared_stays before from terms talk alive now (Err fault) is = never is

repeated_stays : (terms : Terms) (talk : Talk) (state : Repeating) (answers : List Answer) (draws : List Draw) (ltxid : Ltxid) (alive : Bool) (now : ℕ) (one : Option Recorded) → Stays (Replaying state) (on_repeated terms talk state answers draws ltxid alive now one)
repeated_stays terms talk state answers draws ltxid alive now None is = never is
repeated_stays terms talk state answers draws ltxid alive now (Some one) is = compared_stays (Replaying state) refl terms talk alive now (compared one state (terms.digest answers)) is

completed_away : (terms : Terms) (talk : Talk) (state : Living) (event : ℕ) (alive : Bool) (shown : Shown) (now : ℕ) (next : Option Call) → Away (after_completed terms talk state event alive shown now next)
completed_away terms talk state event alive shown now None = refl
completed_away terms talk state event alive shown now (Some call) = by (state.track.set_shown && not terms.rules.keeps)
  where
    by : (gone : Bool) → is_replay_phase (if gone then fails talk alive (Some shown) (Disabled (why.StateLost state.track.call) event) else sends_or_ends terms talk state alive (begin_of talk ∷ []) (Some shown) now (Some call)).0.phase ≡ false
    by true = refl
    by false = sends_away terms talk state alive (begin_of talk ∷ []) (Some shown) now (Some call)

outcome_away : (terms : Terms) (talk : Talk) (state : Living) (event : ℕ) (alive : Bool) (now : ℕ) (call : Option Call) → Away (on_completed terms talk state event alive now call)
outcome_away terms talk state event alive now None = refl
outcome_away terms talk state event alive now (Some call) =
    let after : Talk = talk_shown terms talk call (answer.Committed ∷ []) in
    let next : Living = record state { track = with_shown terms state.track call (answer.Committed ∷ []) [] } in
    completed_away terms after next event alive (record { answers = answer.Committed ∷ []; draws = []; ltxid = state.ltxid }) now (next_call after)

told_stays : (terms : Terms) (talk : Talk) (asking : Asking) (alive : Bool) (now : ℕ) (one : Told) → Stays (Asked asking) (on_told terms talk asking alive now one)
told_stays terms talk asking alive now (told.Committed state) is =
    away_stays (Asked asking) (on_told terms talk asking alive now (told.Committed state)) (outcome_away terms talk (resumed state) state.event alive now (next_call talk)) is
told_stays terms talk asking alive now (told.Replay state) is = marked_stays (Asked asking) refl terms talk state alive (begin_of talk ∷ []) now (next_of state) is
told_stays terms talk asking alive now (told.Incomplete over) is = never is
told_stays terms talk asking alive now (told.Disabled over reason) is = never is
told_stays terms talk asking alive now (told.Replays over) is = never is
told_stays terms talk asking alive now (told.Late over) is = never is

-- A frame, in each phase.
takes_stays : (terms : Terms) (talk : Talk) (phase : Phase) (frame : Down) (alive : Bool) (now : ℕ) → talk.phase ≡ phase → Stays phase (takes terms talk phase frame alive now)
takes_stays terms talk phase down.Blocked alive now same is = (ap is_replay_phase (sym same) ∙ is, refl)
takes_stays terms talk phase (down.Refused cause) alive now same is = (ap is_replay_phase (sym same) ∙ is, refl)
takes_stays terms talk (Greeting lost) (down.Hello ltxid) alive now same is = hello_stays terms talk lost ltxid alive now is
takes_stays terms talk (Asked asking) (down.OutcomeIs committed completed) alive now same is = told_stays terms talk asking alive now (told_of asking committed completed terms.limits now) is
takes_stays terms talk (Asked asking) (down.OutcomeRefused ahead.Forgotten horizon) alive now same is = never is
takes_stays terms talk (Running state) (down.Reply answers draws ltxid) alive now same is =
    away_stays (Running state) (takes terms talk (Running state) (down.Reply answers draws ltxid) alive now) (reply_away terms talk state answers draws ltxid alive now (next_call talk)) is
takes_stays terms talk (Replaying state) (down.Reply answers draws ltxid) alive now same is = repeated_stays terms talk state answers draws ltxid alive now (next_of state) is
takes_stays terms talk phase frame alive now same is = never is

waits_away : (terms : Terms) (talk : Talk) (from now : ℕ) → Away (on_waiting terms talk from now)
waits_away terms talk from now = by (nat_le terms.limits.wait (now - from))
  where
    by : (long : Bool) → is_replay_phase (if long then fails talk false None (PoolWait from now) else (stands talk (Queued (Some from)), quiet)).0.phase ≡ false
    by true = refl
    by false = refl

tries_away : (terms : Terms) (talk : Talk) (now : ℕ) → Away (on_try_failed terms talk now)
tries_away terms talk now = by (nat_le terms.limits.retries (talk.tries + 1))
  where
    by : (many : Bool) → is_replay_phase (if many then fails (with_tried talk now) false None (Retries (talk.tries + 1)) else (stands (with_tried talk now) (Seeking (lost_of talk.phase)), quiet)).0.phase ≡ false
    by true = refl
    by false = refl

gone_away : (phase : Phase) (event : ℕ) → is_replay_phase (loses phase event) ≡ false
gone_away Idle event = refl
gone_away Unbegun event = refl
gone_away (Queued from) event = refl
gone_away (Seeking lost) event = refl
gone_away (Greeting lost) event = refl
gone_away (Asked asking) event = refl
gone_away (Running state) event = refl
gone_away (Replaying state) event = refl

-- what the step of an input is
pub data Comes (talk : Talk) (step : Step) : Input → Type 0 where
  ComesAway : (input : Input) → is_replay_phase step.0.phase ≡ false → Comes talk step input
  ByOpening : (connection : ℕ) → step.1.shown ≡ None → Comes talk step (Opened connection)
  ByFrame : (frame : Down) (alive : Bool) → is_replay_phase talk.phase ≡ true → step.1.shown ≡ None → Comes talk step (Took frame alive)

pub step_comes : (terms : Terms) (talk : Talk) (input : Input) (now : ℕ) → Comes talk (talk_step terms talk input now) input
step_comes terms talk Start now = ComesAway Start refl
step_comes terms talk Waiting now = ComesAway Waiting (waits_away terms talk (waits_from talk.phase now) now)
step_comes terms talk (Lent connection ltxid) now = ComesAway (Lent connection ltxid) (sends_away terms talk (record { track = unsubmitted terms; ltxid = ltxid }) true (begin_of talk ∷ []) None now (next_call talk))
step_comes terms talk (Opened connection) now = ByOpening connection refl
step_comes terms talk TryFailed now = ComesAway TryFailed (tries_away terms talk now)
step_comes terms talk (Gone event) now = ComesAway (Gone event) (gone_away talk.phase event)
step_comes terms talk (Took frame alive) now = by (is_replay_phase (talk_step terms talk (Took frame alive) now).0.phase) refl
  where
    by : (phase : Bool) → is_replay_phase (talk_step terms talk (Took frame alive) now).0.phase ≡ phase → Comes talk (talk_step terms talk (Took frame alive) now) (Took frame alive)
    by true is = let both = takes_stays terms talk talk.phase frame alive now refl is in ByFrame frame alive both.0 both.1
    by false is = ComesAway (Took frame alive) is
