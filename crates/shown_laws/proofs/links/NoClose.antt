-- A request that goes on closes no connection: at no input does it send a Close.
use Rattle.std.proofs.Common.{◌≡◌, refl, ◌∙◌, Bool, true, false, ℕ, ◌&&◌, List, [], ◌∷◌, Option, Some, None, Result, Ok, Err, if◌then◌else◌}
use Rattle.std.specs.Prelude.{not, nat_le, ◌-◌, ◌+◌}
use Rattle.std.specs.List.{list_any}
use Rattle.std.proofs.lemmas.Bool.{or_from}
use Rattle.std.proofs.lemmas.List.Folds.{list_any-append}
use Rattle.svc_values.specs.declared.answer.Answer.{Answer}
use Rattle.svc_values.specs.declared.answer.Answer.TheVariants as answer
use Rattle.svc_values.specs.declared.call.Call.{Call}
use Rattle.svc_values.specs.declared.draw.Draw.{Draw}
use Rattle.svc_values.specs.declared.entry.Ltxid.{Ltxid}
use Rattle.svc_values.specs.declared.frame.Ahead.TheVariants as ahead
use Rattle.svc_values.specs.declared.frame.Down.{Down}
use Rattle.svc_values.specs.declared.frame.Down.TheVariants as down
use Rattle.svc_values.specs.declared.frame.Up.{Up}
use Rattle.call_recorder.specs.declared.recorded.Recorded.{Recorded}
use Rattle.request_bounds.specs.declared.rule.Why.TheVariants as why
use Rattle.client_model.specs.declared.act.Failed.TheVariants.{Disabled, Retries, PoolWait}
use Rattle.client_model.specs.declared.act.Hold.{Hold}
use Rattle.client_model.specs.declared.act.Hold.TheVariants.{Keep, Drop}
use Rattle.client_model.specs.declared.act.Shown.{Shown}
use Rattle.client_model.specs.declared.input.Input.{Input}
use Rattle.client_model.specs.declared.input.Input.TheVariants.{Start, Waiting, Lent, Opened, TryFailed, Took, Gone}
use Rattle.client_model.specs.declared.track.Mismatch.{Mismatch}
use Rattle.client_model.specs.declared.track.Over.{Over}
use Rattle.client_model.specs.meaning.States.{Living, Losing, Asking, Repeating, resumed, next_of}
use Rattle.client_model.specs.meaning.Talk.{Step, fails, quiet, stands, next_call, with_shown, with_tried, waits_from, lost_of, ends, sends_call, sends_or_ends, goes_on, on_hello, on_reply, sends_marked, repeats, on_compared, on_repeated, after_completed, on_completed, on_told, takes, talk_step, begin_of, talk_shown}
use Rattle.client_model.specs.meaning.Terms.{Terms, Talk, Phase, Queued, Seeking, Greeting, Asked, Running, Replaying, unsubmitted}
use Rattle.client_model.specs.meaning.Told.{Told, told_of}
use Rattle.client_model.specs.meaning.Told as told
use Rattle.client_model.specs.meaning.Verifying.{compared, submitted}
use Rattle.world_model.specs.meaning.Links.{is_close}

abbrev pub KeepsOpen : Step → Type 0
KeepsOpen step = step.1.hold ≡ Keep → list_any is_close step.1.send ≡ false

drop_keep : ◌≡◌ {A = Hold} Drop Keep → ⊥
drop_keep is = let none : ⊥ = cc in none

ends_open : (talk : Talk) (alive : Bool) (shown : Option Shown) → KeepsOpen (ends talk alive shown)
ends_open talk true shown keep = absurd (let none : ⊥ = cc in none)
ends_open talk false shown keep = absurd (let none : ⊥ = cc in none)

module _ (terms : Terms) where
  call_open : (talk : Talk) (state : Living) (alive : Bool) (before : List Up) (shown : Option Shown) (now : ℕ) (call : Call) → list_any is_close before ≡ false → KeepsOpen (sends_call terms talk state alive before shown now call)
  call_open talk state true before shown now call none keep = list_any-append is_close before (_ ∷ []) ∙ or_from (list_any is_close before) false none refl
  call_open talk state false before shown now call none keep = refl

  or_ends_open : (talk : Talk) (state : Living) (alive : Bool) (before : List Up) (shown : Option Shown) (now : ℕ) (next : Option Call) → list_any is_close before ≡ false → KeepsOpen (sends_or_ends terms talk state alive before shown now next)
  or_ends_open talk state alive before shown now None none = ends_open talk alive shown
  or_ends_open talk state alive before shown now (Some call) none = call_open talk state alive before shown now call none

  on_open : (talk : Talk) (state : Living) (alive : Bool) (before : List Up) (shown : Option Shown) (now : ℕ) → list_any is_close before ≡ false → KeepsOpen (goes_on terms talk state alive before shown now)
  on_open talk state alive before shown now none = or_ends_open talk state alive before shown now (next_call talk) none

  hello_open : (talk : Talk) (lost : Option Losing) (x : Ltxid) (alive : Bool) (now : ℕ) → KeepsOpen (on_hello terms talk lost x alive now)
  hello_open talk lost x false now = λ keep. refl
  hello_open talk None x true now = on_open talk (record { track = unsubmitted terms; ltxid = x }) true (begin_of talk ∷ []) None now refl
  hello_open talk (Some lost) x true now = λ keep. refl

  reply_open : (talk : Talk) (state : Living) (answers : List Answer) (draws : List Draw) (x : Ltxid) (alive : Bool) (now : ℕ) (call : Option Call) → KeepsOpen (on_reply terms talk state answers draws x alive now call)
  reply_open talk state answers draws x alive now None = λ keep. absurd (drop_keep keep)
  reply_open talk state answers draws x alive now (Some call) = on_open (talk_shown terms talk call answers) (record { track = with_shown terms state.track call answers draws; ltxid = x }) alive [] (Some (record { answers = answers; draws = draws; ltxid = x })) now refl

  marked_open : (talk : Talk) (state : Repeating) (alive : Bool) (before : List Up) (now : ℕ) (next : Option Recorded) → list_any is_close before ≡ false → KeepsOpen (sends_marked terms talk state alive before now next)
  marked_open talk state alive before now None none = on_open talk (submitted state) alive before None now none
  marked_open talk state true before now (Some one) none = λ keep. list_any-append is_close before (_ ∷ []) ∙ or_from (list_any is_close before) false none refl
  marked_open talk state false before now (Some one) none = λ keep. refl

  repeats_open : (talk : Talk) (state : Repeating) (alive : Bool) (before : List Up) (now : ℕ) → list_any is_close before ≡ false → KeepsOpen (repeats terms talk state alive before now)
  repeats_open talk state alive before now none = marked_open talk state alive before now (next_of state) none

  compared_open : (talk : Talk) (alive : Bool) (now : ℕ) (found : Result Repeating (Over × Mismatch)) → KeepsOpen (on_compared terms talk alive now found)
  compared_open talk alive now (Ok state) = repeats_open talk state alive [] now refl
  compared_open talk alive now (Err fault) = λ keep. absurd (drop_keep keep)

  repeated_open : (talk : Talk) (state : Repeating) (answers : List Answer) (draws : List Draw) (x : Ltxid) (alive : Bool) (now : ℕ) (one : Option Recorded) → KeepsOpen (on_repeated terms talk state answers draws x alive now one)
  repeated_open talk state answers draws x alive now None = λ keep. absurd (drop_keep keep)
  repeated_open talk state answers draws x alive now (Some one) = compared_open talk alive now (compared one state (terms.digest answers))

  either_open : (test : Bool) (one other : Step) → KeepsOpen one → KeepsOpen other → KeepsOpen (if test then one else other)
  either_open true one other first second = first
  either_open false one other first second = second

  after_open : (talk : Talk) (state : Living) (event : ℕ) (alive : Bool) (shown : Shown) (now : ℕ) (next : Option Call) → KeepsOpen (after_completed terms talk state event alive shown now next)
  after_open talk state event alive shown now None = ends_open talk alive (Some shown)
  after_open talk state event alive shown now (Some call) =
      either_open (state.track.set_shown && not terms.rules.keeps) (fails talk alive (Some shown) (Disabled (why.StateLost state.track.call) event)) (sends_call terms talk state alive (begin_of talk ∷ []) (Some shown) now call) (λ keep. absurd (drop_keep keep)) (call_open talk state alive (begin_of talk ∷ []) (Some shown) now call refl)

  completed_open : (talk : Talk) (state : Living) (event : ℕ) (alive : Bool) (now : ℕ) (next : Option Call) → KeepsOpen (on_completed terms talk state event alive now next)
  completed_open talk state event alive now None = λ keep. absurd (drop_keep keep)
  completed_open talk state event alive now (Some call) =
      after_open (talk_shown terms talk call (answer.Committed ∷ [])) (record state { track = with_shown terms state.track call (answer.Committed ∷ []) [] }) event alive (record { answers = answer.Committed ∷ []; draws = []; ltxid = state.ltxid }) now
      (next_call (talk_shown terms talk call (answer.Committed ∷ [])))

  told_open : (talk : Talk) (asking : Asking) (alive : Bool) (now : ℕ) (one : Told) → KeepsOpen (on_told terms talk asking alive now one)
  told_open talk asking alive now (told.Committed state) = completed_open talk (resumed state) state.event alive now (next_call talk)
  told_open talk asking alive now (told.Incomplete over) = λ keep. absurd (drop_keep keep)
  told_open talk asking alive now (told.Disabled over reason) = λ keep. absurd (drop_keep keep)
  told_open talk asking alive now (told.Replays over) = λ keep. absurd (drop_keep keep)
  told_open talk asking alive now (told.Late over) = λ keep. absurd (drop_keep keep)
  told_open talk asking alive now (told.Replay state) = repeats_open talk state alive (begin_of talk ∷ []) now refl

  takes_open : (talk : Talk) (phase : Phase) (frame : Down) (alive : Bool) (now : ℕ) → KeepsOpen (takes terms talk phase frame alive now)
  takes_open talk phase down.Blocked alive now = λ keep. refl
  takes_open talk phase (down.Refused cause) alive now = λ keep. refl
  takes_open talk (Greeting lost) (down.Hello x) alive now = hello_open talk lost x alive now
  takes_open talk (Asked asking) (down.OutcomeIs committed completed) alive now = told_open talk asking alive now (told_of asking committed completed terms.limits now)
  takes_open talk (Asked asking) (down.OutcomeRefused ahead.Forgotten horizon) alive now = λ keep. absurd (drop_keep keep)
  takes_open talk (Running state) (down.Reply answers draws x) alive now = reply_open talk state answers draws x alive now (next_call talk)
  takes_open talk (Replaying state) (down.Reply answers draws x) alive now = repeated_open talk state answers draws x alive now (next_of state)
  takes_open talk phase frame alive now = λ keep. absurd (drop_keep keep)

  pub step_open : (talk : Talk) (input : Input) (now : ℕ) → KeepsOpen (talk_step terms talk input now)
  step_open talk Start now = λ keep. refl
  step_open talk Waiting now =
      let from : ℕ = waits_from talk.phase now in
      either_open (nat_le terms.limits.wait (now - from)) (fails talk false None (PoolWait from now)) (stands talk (Queued (Some from)), quiet) (λ keep. absurd (drop_keep keep)) (λ keep. refl)
  step_open talk (Lent connection x) now = hello_open talk None x true now
  step_open talk (Opened connection) now = λ keep. refl
  step_open talk TryFailed now =
      either_open (nat_le terms.limits.retries (talk.tries + 1)) (fails (with_tried talk now) false None (Retries (talk.tries + 1))) (stands (with_tried talk now) (Seeking (lost_of talk.phase)), quiet) (λ keep. absurd (drop_keep keep)) (λ keep. refl)
  step_open talk (Took frame alive) now = takes_open talk talk.phase frame alive now
  step_open talk (Gone event) now = λ keep. refl
