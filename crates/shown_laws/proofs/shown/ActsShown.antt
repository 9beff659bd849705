-- What a request shows at an input: a call where it takes a reply to one, or an outcome that says
-- committed and completed, and else nothing.
use Rattle.std.proofs.Common.{◌≡◌, refl, Bool, true, false, ℕ, ◌&&◌, List, [], ◌∷◌, Option, Some, None, if◌then◌else◌}
use Rattle.std.specs.Prelude.{nat_le, not, ◌-◌, ◌+◌, Result, Ok, Err}
use Rattle.svc_values.specs.declared.answer.Answer.{Answer}
use Rattle.svc_values.specs.declared.answer.Answer.TheVariants as answer
use Rattle.svc_values.specs.declared.call.Call.{Call}
use Rattle.svc_values.specs.declared.draw.Draw.{Draw}
use Rattle.svc_values.specs.declared.entry.Ltxid.{Ltxid}
use Rattle.svc_values.specs.declared.frame.Down.TheVariants as down
use Rattle.svc_values.specs.declared.frame.Up.{Up}
use Rattle.request_bounds.specs.declared.rule.Why.{Why}
use Rattle.call_recorder.specs.declared.recorded.Recorded.{Recorded}
use Rattle.client_model.specs.declared.act.Shown.{Shown}
use Rattle.client_model.specs.declared.track.Mismatch.{Mismatch}
use Rattle.client_model.specs.declared.track.Over.{Over}
use Rattle.client_model.specs.meaning.States.{Living, Losing, Asking, Repeating, next_of, resumed}
use Rattle.client_model.specs.meaning.Talk.{Step, talk_step, takes, on_hello, goes_on, sends_or_ends, next_call, on_reply, on_completed, after_completed, on_told, on_repeated, on_compared, sends_marked, waits_from, begin_of, talk_shown, with_shown}
use Rattle.client_model.specs.meaning.Terms.{Terms, Talk, unsubmitted, Greeting, Asked, Running, Replaying}
use Rattle.client_model.specs.meaning.Told.{Told, completed_on, uncommitted, is_late}
use Rattle.client_model.specs.meaning.Told as told_as
use Rattle.client_model.specs.meaning.Verifying.{compared}
use Rattle.client_model.specs.declared.input.Input.{Input}
use Rattle.client_model.specs.declared.input.Input.TheVariants.{Start, Waiting, Lent, Opened, TryFailed, Took, Gone}

-- it shows this
abbrev pub ShowsIn : Option Shown → Step → Type 0
ShowsIn shown step = step.1.shown ≡ shown

either_shows : (shown : Option Shown) (test : Bool) (one other : Step) → ShowsIn shown one → ShowsIn shown other → ShowsIn shown (if test then one else other)
either_shows shown true one other is also = is
either_shows shown false one other is also = also

-- WHERE IT GOES ON --------------------------------------------------------------------------------

on_shows : (terms : Terms) (talk : Talk) (state : Living) (alive : Bool) (before : List Up) (shown : Option Shown) (now : ℕ) (next : Option Call) → ShowsIn shown (sends_or_ends terms talk state alive before shown now next)
on_shows terms talk state alive before shown now None = refl
on_shows terms talk state true before shown now (Some call) = refl
on_shows terms talk state false before shown now (Some call) = refl

goes_shows : (terms : Terms) (talk : Talk) (state : Living) (alive : Bool) (before : List Up) (shown : Option Shown) (now : ℕ) → ShowsIn shown (goes_on terms talk state alive before shown now)
goes_shows terms talk state alive before shown now = on_shows terms talk state alive before shown now (next_call talk)

marked_shows : (terms : Terms) (talk : Talk) (state : Repeating) (alive : Bool) (before : List Up) (now : ℕ) (next : Option Recorded) → ShowsIn None (sends_marked terms talk state alive before now next)
marked_shows terms talk state alive before now None = goes_shows terms talk _ alive before None now
marked_shows terms talk state alive before now (Some one) = refl

hello_shows : (terms : Terms) (talk : Talk) (lost : Option Losing) (ltxid : Ltxid) (alive : Bool) (now : ℕ) → ShowsIn None (on_hello terms talk lost ltxid alive now)
hello_shows terms talk lost ltxid false now = refl
hello_shows terms talk None ltxid true now = goes_shows terms talk (record { track = unsubmitted terms; ltxid = ltxid }) true (begin_of talk ∷ []) None now
hello_shows terms talk (Some lost) ltxid true now = refl

compared_shows : (terms : Terms) (talk : Talk) (alive : Bool) (now : ℕ) (found : Result Repeating (Over × Mismatch)) → ShowsIn None (on_compared terms talk alive now found)
compared_shows terms talk alive now (Ok state) = marked_shows terms talk state alive [] now (next_of state)
compared_shows terms talk alive now (Err fault) = refl

repeated_shows : (terms : Terms) (talk : Talk) (state : Repeating) (answers : List Answer) (draws : List Draw) (ltxid : Ltxid) (alive : Bool) (now : ℕ) (next : Option Recorded) → ShowsIn None (on_repeated terms talk state answers draws ltxid alive now next)
repeated_shows terms talk state answers draws ltxid alive now None = refl
repeated_shows terms talk state answers draws ltxid alive now (Some one) = compared_shows terms talk alive now (compared one state (terms.digest answers))

-- what a reply shows
abbrev pub reply_shown : List Answer → List Draw → Ltxid → Shown
reply_shown answers draws ltxid = record { answers = answers; draws = draws; ltxid = ltxid }

reply_shows : (terms : Terms) (talk : Talk) (state : Living) (answers : List Answer) (draws : List Draw) (ltxid : Ltxid) (alive : Bool) (now : ℕ) (next : Option Call) (call : Call) → next ≡ Some call
    → ShowsIn (Some (reply_shown answers draws ltxid)) (on_reply terms talk state answers draws ltxid alive now next)
reply_shows terms talk state answers draws ltxid alive now None call is = absurd (let none : ⊥ = cc in none)
reply_shows terms talk state answers draws ltxid alive now (Some one) call is = goes_shows terms (talk_shown terms talk one answers) (record { track = with_shown terms state.track one answers draws; ltxid = ltxid }) alive [] (Some (reply_shown answers draws ltxid)) now

-- OUTCOMES ----------------------------------------------------------------------------------------

-- what an outcome shows
abbrev pub outcome_shown : Ltxid → Shown
outcome_shown fresh = record { answers = answer.Committed ∷ []; draws = []; ltxid = fresh }

behind_shows : (terms : Terms) (talk : Talk) (state : Living) (event : ℕ) (alive : Bool) (shown : Shown) (now : ℕ) (next : Option Call) → ShowsIn (Some shown) (after_completed terms talk state event alive shown now next)
behind_shows terms talk state event alive shown now None = refl
behind_shows terms talk state event alive shown now (Some call) =
    either_shows (Some shown) (state.track.set_shown && not terms.rules.keeps) _ _ refl (on_shows terms talk state alive (begin_of talk ∷ []) (Some shown) now (Some call))

completed_shows : (terms : Terms) (talk : Talk) (state : Living) (event : ℕ) (alive : Bool) (now : ℕ) (next : Option Call) (call : Call) → next ≡ Some call → ShowsIn (Some (outcome_shown state.ltxid)) (on_completed terms talk state event alive now next)
completed_shows terms talk state event alive now None call is = absurd (let none : ⊥ = cc in none)
completed_shows terms talk state event alive now (Some one) call is =
    behind_shows terms (talk_shown terms talk one (answer.Committed ∷ [])) (record state { track = with_shown terms state.track one (answer.Committed ∷ []) [] }) event alive (outcome_shown state.ltxid) now _

-- one that says uncommitted shows nothing
pub data SaysNone : Told → Type 0 where
  Incompletes : (over : Over) → SaysNone (told_as.Incomplete over)
  Disables : (over : Over) (reason : Why) → SaysNone (told_as.Disabled over reason)
  Ends : (over : Over) → SaysNone (told_as.Replays over)
  IsLate : (over : Over) → SaysNone (told_as.Late over)
  Begins : (state : Repeating) → SaysNone (told_as.Replay state)

none_if : (test : Bool) (one other : Told) → SaysNone one → SaysNone other → SaysNone (if test then one else other)
none_if true one other is also = is
none_if false one other is also = also

uncommitted_none : (terms : Terms) (reason : Option Why) (asking : Asking) (now : ℕ) → SaysNone (uncommitted reason asking terms.limits now)
uncommitted_none terms (Some reason) asking now = Disables _ reason
uncommitted_none terms None asking now =
    none_if (nat_le terms.limits.replays asking.track.replays) _ _ (Ends _)
    (none_if (is_late terms.limits.timeout asking.track.first now) _ _ (IsLate _) (Begins _))

none_shows : (terms : Terms) (talk : Talk) (asking : Asking) (alive : Bool) (now : ℕ) (found : Told) → SaysNone found → ShowsIn None (on_told terms talk asking alive now found)
none_shows terms talk asking alive now _ (Incompletes over) = refl
none_shows terms talk asking alive now _ (Disables over reason) = refl
none_shows terms talk asking alive now _ (Ends over) = refl
none_shows terms talk asking alive now _ (IsLate over) = refl
none_shows terms talk asking alive now _ (Begins state) = marked_shows terms talk state alive (begin_of talk ∷ []) now (next_of state)

-- BY THE FRAME ------------------------------------------------------------------------------------

module _ (terms : Terms) (talk : Talk) (alive : Bool) (now : ℕ) where
  pub takes_hello : (lost : Option Losing) (ltxid : Ltxid) → ShowsIn None (takes terms talk (Greeting lost) (down.Hello ltxid) alive now)
  takes_hello lost ltxid = hello_shows terms talk lost ltxid alive now

  pub takes_reply : (state : Living) (answers : List Answer) (draws : List Draw) (ltxid : Ltxid) (call : Call) → next_call talk ≡ Some call
      → ShowsIn (Some (reply_shown answers draws ltxid)) (takes terms talk (Running state) (down.Reply answers draws ltxid) alive now)
  takes_reply state answers draws ltxid call is = reply_shows terms talk state answers draws ltxid alive now (next_call talk) call is

  pub takes_repeated : (state : Repeating) (answers : List Answer) (draws : List Draw) (ltxid : Ltxid) → ShowsIn None (takes terms talk (Replaying state) (down.Reply answers draws ltxid) alive now)
  takes_repeated state answers draws ltxid = repeated_shows terms talk state answers draws ltxid alive now (next_of state)

  pub takes_completed : (asking : Asking) (call : Call) → next_call talk ≡ Some call → ShowsIn (Some (outcome_shown asking.fresh)) (takes terms talk (Asked asking) (down.OutcomeIs true true) alive now)
  takes_completed asking call is = completed_shows terms talk (resumed (completed_on asking)) asking.event alive now (next_call talk) call is

  pub takes_uncommitted : (asking : Asking) (completed : Bool) → ShowsIn None (takes terms talk (Asked asking) (down.OutcomeIs false completed) alive now)
  takes_uncommitted asking completed = none_shows terms talk asking alive now (uncommitted asking.track.why asking terms.limits now) (uncommitted_none terms asking.track.why asking now)

-- OTHER INPUTS ------------------------------------------------------------------------------------

abbrev pub takes_none : Input → Bool
takes_none (Took frame alive) = false
takes_none _ = true

pub other_shows : (terms : Terms) (talk : Talk) (input : Input) (now : ℕ) → takes_none input ≡ true → ShowsIn None (talk_step terms talk input now)
other_shows terms talk Start now is = refl
other_shows terms talk Waiting now is = either_shows None (nat_le terms.limits.wait (now - waits_from talk.phase now)) _ _ refl refl
other_shows terms talk (Lent connection ltxid) now is = hello_shows terms talk None ltxid true now
other_shows terms talk (Opened connection) now is = refl
other_shows terms talk TryFailed now is = either_shows None (nat_le terms.limits.retries (talk.tries + 1)) _ _ refl refl
other_shows terms talk (Took frame alive) now is = absurd (let none : ⊥ = cc in none)
other_shows terms talk (Gone event) now is = refl
