-- With what a request may fail where it takes a frame: an outcome's errors are of the identifier
-- that was asked and of the event that ended its connection, and tries and waits have no part in
-- it.
use Rattle.std.proofs.Common.{◌≡◌, refl, Bool, true, false, ℕ, ◌&&◌, List, [], ◌∷◌, Option, Some, None, if◌then◌else◌}
use Rattle.std.specs.Prelude.{◌==◌, ◌+◌, not, nat_le, is_none, Ok, Err}
use Rattle.std.specs.Option.{option_map_or}
use Rattle.std.specs.Str.{bytes_eq}
use Rattle.svc_values.specs.declared.answer.Answer.{Answer}
use Rattle.svc_values.specs.declared.answer.Answer.TheVariants as answer
use Rattle.svc_values.specs.declared.call.Call.{Call}
use Rattle.svc_values.specs.declared.draw.Draw.{Draw}
use Rattle.svc_values.specs.declared.entry.Ltxid.{Ltxid}
use Rattle.svc_values.specs.declared.frame.Up.{Up}
use Rattle.svc_values.specs.declared.frame.Ahead.TheVariants as ahead
use Rattle.svc_values.specs.declared.frame.Down.{Down}
use Rattle.svc_values.specs.declared.frame.Down.TheVariants as down
use Rattle.svc_values.specs.meaning.Identifiers.{same_ltxid}
use Rattle.svc_values.specs.SameLaws.{same_ltxid_decides}
use Rattle.call_recorder.specs.declared.recorded.Recorded.{Recorded}
use Rattle.request_bounds.specs.declared.rule.Why.{Why}
use Rattle.request_bounds.specs.declared.rule.Why.TheVariants as why
use Rattle.client_model.specs.declared.act.Failed.{Failed}
use Rattle.client_model.specs.declared.act.Failed.TheVariants as failed
use Rattle.client_model.specs.declared.act.Shown.{Shown}
use Rattle.client_model.specs.declared.act.Hold.{Hold}
use Rattle.client_model.specs.declared.act.Hold.TheVariants as hold
use Rattle.client_model.specs.meaning.Told as told
use Rattle.client_model.specs.meaning.Told.{over, completed_on, repeated, is_late, uncommitted, told_of}
use Rattle.client_model.specs.meaning.States.{Living, Losing, Asking, Repeating, resumed, next_of}
use Rattle.client_model.specs.meaning.Verifying.{verified_more, mismatch, submitted}
use Rattle.client_model.specs.meaning.Terms.{Terms, Talk, Phase, Seeking, Greeting, Asked, Running, Replaying, unsubmitted}
use Rattle.client_model.specs.meaning.Talk.{Step, fails, talk_shown, with_shown, sends_call, sends_or_ends, next_call, begin_of, on_hello, on_reply, sends_marked, on_compared, on_repeated, after_completed, on_completed, on_told, takes, stands, quiet, lost_of, with_tried, on_try_failed}
use Rattle.world_model.proofs.Offered.{eq_to}

-- the outcome that a frame tells to a request that asked for it
abbrev pub told_to : Phase → Down → Option Asking
told_to (Asked asking) (down.OutcomeIs committed completed) = Some asking
told_to _ _ = None

-- what it may fail with, by the outcome that it is told
abbrev pub may_fail : Option Failed → Option Asking → Bool
may_fail None told = true
may_fail (Some (failed.Disabled reason event)) told = option_map_or (λ asking. asking.event == event) told false
may_fail (Some (failed.Replays limit event)) told = option_map_or (λ asking. asking.event == event) told false
may_fail (Some (failed.Incomplete x)) told = option_map_or (λ asking. same_ltxid asking.ltxid x) told false
may_fail (Some (failed.Retries tries)) told = false
may_fail (Some (failed.PoolWait first now)) told = false
may_fail (Some (failed.Mismatch call seen now)) told = true
may_fail (Some (failed.ReplayTimeout first ready)) told = true
may_fail (Some (failed.Unknown x)) told = true
may_fail (Some (failed.BadPeer tag)) told = true

-- a request that goes on did not fail
abbrev pub fails_so : Hold → Option Failed → Option Asking → Bool
fails_so hold.Keep failed told = is_none failed
fails_so hold.GiveBack failed told = may_fail failed told
fails_so hold.Drop failed told = may_fail failed told

abbrev pub FailsSo : Option Asking → Step → Type 0
FailsSo told step = fails_so step.1.hold step.1.failed told ≡ true

-- STEPS -------------------------------------------------------------------------------------------

module _ (told_now : Option Asking) where
  no_end : (alive : Bool) → fails_so (if alive then hold.GiveBack else hold.Drop) None told_now ≡ true
  no_end true = refl
  no_end false = refl

  no_call : (terms : Terms) (talk : Talk) (state : Living) (alive : Bool) (before : List Up) (shown : Option Shown) (now : ℕ) (call : Call) → FailsSo told_now (sends_call terms talk state alive before shown now call)
  no_call terms talk state true before shown now call = refl
  no_call terms talk state false before shown now call = refl

  no_next : (terms : Terms) (talk : Talk) (state : Living) (alive : Bool) (before : List Up) (shown : Option Shown) (now : ℕ) (next : Option Call) → FailsSo told_now (sends_or_ends terms talk state alive before shown now next)
  no_next terms talk state alive before shown now None = no_end alive
  no_next terms talk state alive before shown now (Some call) = no_call terms talk state alive before shown now call

  pub no_hello : (terms : Terms) (talk : Talk) (lost : Option Losing) (x : Ltxid) (alive : Bool) (now : ℕ) → FailsSo told_now (on_hello terms talk lost x alive now)
  no_hello terms talk lost x false now = refl
  no_hello terms talk None x true now = no_next terms talk (record { track = unsubmitted terms; ltxid = x }) true (begin_of talk ∷ []) None now (next_call talk)
  no_hello terms talk (Some lost) x true now = refl

  no_reply : (terms : Terms) (talk : Talk) (state : Living) (answers : List Answer) (draws : List Draw) (x : Ltxid) (alive : Bool) (now : ℕ) (call : Option Call) → FailsSo told_now (on_reply terms talk state answers draws x alive now call)
  no_reply terms talk state answers draws x alive now None = refl
  no_reply terms talk state answers draws x alive now (Some call) =
      let after : Talk = talk_shown terms talk call answers in
      no_next terms after (record { track = with_shown terms state.track call answers draws; ltxid = x }) alive [] (Some (record { answers = answers; draws = draws; ltxid = x })) now (next_call after)

  no_marked : (terms : Terms) (talk : Talk) (state : Repeating) (alive : Bool) (before : List Up) (now : ℕ) (next : Option Recorded) → FailsSo told_now (sends_marked terms talk state alive before now next)
  no_marked terms talk state alive before now None = no_next terms talk (submitted state) alive before None now (next_call talk)
  no_marked terms talk state alive before now (Some one) = refl

  no_compared : (terms : Terms) (talk : Talk) (state : Repeating) (alive : Bool) (seen answers : List ℕ) (now : ℕ) (test : Bool)
      → FailsSo told_now (on_compared terms talk alive now (if test then Ok (verified_more state) else Err (mismatch state seen answers)))
  no_compared terms talk state alive seen answers now true = no_marked terms talk (verified_more state) alive [] now (next_of (verified_more state))
  no_compared terms talk state alive seen answers now false = refl

  no_repeated : (terms : Terms) (talk : Talk) (state : Repeating) (answers : List Answer) (draws : List Draw) (x : Ltxid) (alive : Bool) (now : ℕ) (one : Option Recorded)
      → FailsSo told_now (on_repeated terms talk state answers draws x alive now one)
  no_repeated terms talk state answers draws x alive now None = refl
  no_repeated terms talk state answers draws x alive now (Some one) = no_compared terms talk state alive one.seen.digest (terms.digest answers) now (bytes_eq one.seen.digest (terms.digest answers))

-- OUTCOMES ----------------------------------------------------------------------------------------

module _ (asking : Asking) where
  event_self : (asking.event == asking.event) ≡ true
  event_self = eq_to asking.event asking.event refl

  fails_behind : (terms : Terms) (talk : Talk) (state : Living) (alive : Bool) (shown : Shown) (now : ℕ) (next : Option Call) → FailsSo (Some asking) (after_completed terms talk state asking.event alive shown now next)
  fails_behind terms talk state alive shown now None = no_end (Some asking) alive
  fails_behind terms talk state alive shown now (Some call) = by (state.track.set_shown && not terms.rules.keeps)
    where
      by : (gone : Bool)
          → FailsSo (Some asking) (if gone then fails talk alive (Some shown) (failed.Disabled (why.StateLost state.track.call) asking.event) else sends_call terms talk state alive (begin_of talk ∷ []) (Some shown) now call)
      by true = event_self
      by false = no_call (Some asking) terms talk state alive (begin_of talk ∷ []) (Some shown) now call

  fails_completed : (terms : Terms) (talk : Talk) (state : Living) (alive : Bool) (now : ℕ) (call : Option Call) → FailsSo (Some asking) (on_completed terms talk state asking.event alive now call)
  fails_completed terms talk state alive now None = refl
  fails_completed terms talk state alive now (Some call) =
      let after : Talk = talk_shown terms talk call (answer.Committed ∷ []) in
      fails_behind terms after (record state { track = with_shown terms state.track call (answer.Committed ∷ []) [] }) alive (record { answers = answer.Committed ∷ []; draws = []; ltxid = state.ltxid }) now (next_call after)

  fails_uncommitted : (terms : Terms) (talk : Talk) (alive : Bool) (now : ℕ) (reason : Option Why) → FailsSo (Some asking) (on_told terms talk asking alive now (uncommitted reason asking terms.limits now))
  fails_uncommitted terms talk alive now (Some reason) = event_self
  fails_uncommitted terms talk alive now None = by (nat_le terms.limits.replays asking.track.replays) (is_late terms.limits.timeout asking.track.first now)
    where
      by : (many late : Bool) → FailsSo (Some asking) (on_told terms talk asking alive now (if many then told.Replays (over asking) else (if late then told.Late (over asking) else told.Replay (repeated asking))))
      by true late = event_self
      by false true = refl
      by false false = no_marked (Some asking) terms talk (repeated asking) alive (begin_of talk ∷ []) now (next_of (repeated asking))

  fails_told : (terms : Terms) (talk : Talk) (alive : Bool) (now : ℕ) (committed completed : Bool) → FailsSo (Some asking) (on_told terms talk asking alive now (told_of asking committed completed terms.limits now))
  fails_told terms talk alive now true true = fails_completed terms talk (resumed (completed_on asking)) alive now (next_call talk)
  fails_told terms talk alive now true false = (same_ltxid_decides asking.ltxid asking.ltxid).1 refl
  fails_told terms talk alive now false completed = fails_uncommitted terms talk alive now asking.track.why

-- FRAMES ------------------------------------------------------------------------------------------

-- at each frame that is taken
pub taken_fails : (terms : Terms) (talk : Talk) (phase : Phase) (frame : Down) (alive : Bool) (now : ℕ) → FailsSo (told_to phase frame) (takes terms talk phase frame alive now)
taken_fails terms talk phase down.Blocked alive now = refl
taken_fails terms talk phase (down.Refused cause) alive now = refl
taken_fails terms talk (Greeting lost) (down.Hello x) alive now = no_hello None terms talk lost x alive now
taken_fails terms talk (Asked asking) (down.OutcomeIs committed completed) alive now = fails_told asking terms talk alive now committed completed
taken_fails terms talk (Asked asking) (down.OutcomeRefused ahead.Forgotten horizon) alive now = refl
taken_fails terms talk (Running state) (down.Reply answers draws x) alive now = no_reply None terms talk state answers draws x alive now (next_call talk)
taken_fails terms talk (Replaying state) (down.Reply answers draws x) alive now = no_repeated None terms talk state answers draws x alive now (next_of state)
taken_fails terms talk phase frame alive now = refl

-- one that goes on did not fail
pub keeps_none : (held : Hold) (failure : Option Failed) (told : Option Asking) → fails_so held failure told ≡ true → held ≡ hold.Keep → failure ≡ None
keeps_none hold.Keep None told so keep = refl
keeps_none hold.Keep (Some one) told so keep = absurd (let none : ⊥ = cc in none)
keeps_none hold.GiveBack failure told so keep = absurd (let none : ⊥ = cc in none)
keeps_none hold.Drop failure told so keep = absurd (let none : ⊥ = cc in none)

pub lets_may : (held : Hold) (failure : Option Failed) (told : Option Asking) → fails_so held failure told ≡ true → may_fail failure told ≡ true
lets_may hold.Keep None told so = refl
lets_may hold.Keep (Some one) told so = absurd (let none : ⊥ = cc in none)
lets_may hold.GiveBack failure told so = so
lets_may hold.Drop failure told so = so

-- WAITS AND TRIES ---------------------------------------------------------------------------------

-- a try that is the last one fails so
pub tried_fails : (terms : Terms) (talk : Talk) (now : ℕ) → ((on_try_failed terms talk now).1.hold ≡ hold.Keep → ⊥) → (on_try_failed terms talk now).1.failed ≡ Some (failed.Retries (talk.tries + 1))
tried_fails terms talk now lets = by (nat_le terms.limits.retries (talk.tries + 1)) lets
  where
    by : (many : Bool) → ((if many then fails (with_tried talk now) false None (failed.Retries (talk.tries + 1)) else (stands (with_tried talk now) (Seeking (lost_of talk.phase)), quiet)).1.hold ≡ hold.Keep → ⊥)
        → (if many then fails (with_tried talk now) false None (failed.Retries (talk.tries + 1)) else (stands (with_tried talk now) (Seeking (lost_of talk.phase)), quiet)).1.failed ≡ Some (failed.Retries (talk.tries + 1))
    by true lets = refl
    by false lets = absurd (lets refl)
