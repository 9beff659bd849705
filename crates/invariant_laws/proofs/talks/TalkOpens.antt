-- Behind what a client sends Begin: with its first call, with the one behind a call that an outcome
-- showed, or with the first one that is repeated.
use Rattle.std.proofs.Common.{◌≡◌, refl, ap, ◌∙◌, Bool, true, false, ℕ, ◌+◌, ◌-◌, ◌&&◌, length, List, [], ◌∷◌, Option, Some, None, if◌then◌else◌, arith}
use Rattle.std.specs.Prelude.{not, nat_le, slice_get, Ok, Err}
use Rattle.std.specs.List.{list_all}
use Rattle.std.specs.Str.{bytes_eq}
use Rattle.svc_values.specs.declared.answer.Answer.{Answer}
use Rattle.svc_values.specs.declared.answer.Answer.TheVariants as answer
use Rattle.svc_values.specs.declared.call.Call.{Call}
use Rattle.svc_values.specs.declared.draw.Draw.{Draw}
use Rattle.svc_values.specs.declared.entry.Ltxid.{Ltxid}
use Rattle.svc_values.specs.declared.frame.Ahead.TheVariants as ahead
use Rattle.svc_values.specs.declared.frame.Down.{Down}
use Rattle.svc_values.specs.declared.frame.Down.TheVariants as down
use Rattle.svc_values.specs.declared.frame.Up.{Up}
use Rattle.request_bounds.specs.declared.rule.Why.{Why}
use Rattle.request_bounds.specs.declared.rule.Why.TheVariants as why
use Rattle.call_recorder.specs.declared.recorded.Recorded.{Recorded}
use Rattle.client_model.specs.declared.act.Failed.TheVariants.{Disabled, PoolWait, Retries}
use Rattle.client_model.specs.declared.act.Shown.{Shown}
use Rattle.client_model.specs.declared.input.Input.{Input}
use Rattle.client_model.specs.declared.input.Input.TheVariants.{Start, Waiting, Lent, Opened, TryFailed, Took, Gone}
use Rattle.client_model.specs.meaning.States.{Living, Losing, Asking, Repeating, resumed, next_of}
use Rattle.client_model.specs.meaning.Talk.{Step, fails, talk_shown, with_shown, recorded_as, sends_call, sends_or_ends, next_call, begin_of, on_hello, on_reply, sends_marked, on_compared, on_repeated, after_completed, on_completed, on_told, quiet, stands, takes, talk_step, waits_from, with_tried, lost_of}
use Rattle.client_model.specs.meaning.Terms.{Terms, Talk, Phase, Queued, Seeking, Greeting, Asked, Running, Replaying, unsubmitted}
use Rattle.client_model.specs.meaning.Told.{over, completed_on, repeated, is_late, uncommitted, told_of}
use Rattle.client_model.specs.meaning.Told as told
use Rattle.client_model.specs.meaning.Verifying.{verified_more, mismatch, submitted}
use Rattle.world_model.specs.meaning.Acting.{call_in}
use Rattle.invariant_laws.specs.Begins.{is_begin_frame}
use Rattle.world_model.proofs.Offered.{replied_call}

abbrev pub no_begins : List Up → Bool
no_begins frames = list_all (λ frame. not (is_begin_frame frame)) frames

-- Why a step sends Begin, if it does: `before` is the phase in which a frame was taken.
pub data Opening (keeps : Bool) (before : Phase) (step : Step) : Type 0 where
  NoBegin : no_begins step.1.send ≡ true → Opening keeps before step
  -- the request's first one
  First : before ≡ Greeting None → call_in step.0.phase ≡ 0 → step.1.shown ≡ None → Opening keeps before step
  -- behind a call that an outcome showed
  Behind : (asking : Asking) (next : Living) (one : Shown) → before ≡ Asked asking → step.0.phase ≡ Running next → next.track.call ≡ asking.track.call + 1 → (next.track.set_shown && not keeps) ≡ false
      → step.1.shown ≡ Some one → one.answers ≡ answer.Committed ∷ [] → Opening keeps before step
  -- where calls are repeated, or the lost one alone
  Again : (asking : Asking) → before ≡ Asked asking → asking.track.why ≡ None → call_in step.0.phase ≡ asking.track.call - length asking.track.recorder.calls → step.1.shown ≡ None → Opening keeps before step

closes : (keeps : Bool) (before : Phase) (talk : Talk) (alive : Bool) (shown : Option Shown) (failed : _) → Opening keeps before (fails talk alive shown failed)
closes keeps before talk true shown failed = NoBegin refl
closes keeps before talk false shown failed = NoBegin refl

none_behind : {A : Type 0} (xs : List A) → slice_get xs 0 ≡ None → length xs ≡ 0
none_behind [] is = refl
none_behind (x ∷ xs) is = absurd (let none : ⊥ = cc in none)

module _ (terms : Terms) (before : Phase) where
  -- no Begin comes first
  plain_call : (talk : Talk) (state : Living) (alive : Bool) (shown : Option Shown) (now : ℕ) (call : Call) → Opening terms.rules.keeps before (sends_call terms talk state alive [] shown now call)
  plain_call talk state true shown now call = NoBegin refl
  plain_call talk state false shown now call = NoBegin refl

  plain_next : (talk : Talk) (state : Living) (alive : Bool) (shown : Option Shown) (now : ℕ) (next : Option Call) → Opening terms.rules.keeps before (sends_or_ends terms talk state alive [] shown now next)
  plain_next talk state true shown now None = NoBegin refl
  plain_next talk state false shown now None = NoBegin refl
  plain_next talk state alive shown now (Some call) = plain_call talk state alive shown now call

  plain_marked : (talk : Talk) (state : Repeating) (alive : Bool) (now : ℕ) (one : Option Recorded) → Opening terms.rules.keeps before (sends_marked terms talk state alive [] now one)
  plain_marked talk state alive now None = plain_next talk (submitted state) alive None now (next_call talk)
  plain_marked talk state true now (Some one) = NoBegin refl
  plain_marked talk state false now (Some one) = NoBegin refl

reply_opens : (terms : Terms) (before : Phase) (talk : Talk) (state : Living) (answers : List Answer) (draws : List Draw) (ltxid : Ltxid) (alive : Bool) (now : ℕ) (one : Option Call)
    → Opening terms.rules.keeps before (on_reply terms talk state answers draws ltxid alive now one)
reply_opens terms before talk state answers draws ltxid alive now None = closes terms.rules.keeps before talk alive None _
reply_opens terms before talk state answers draws ltxid alive now (Some call) =
    let after : Talk = talk_shown terms talk call answers in
    plain_next terms before after (record { track = with_shown terms state.track call answers draws; ltxid = ltxid }) alive (Some (record { answers = answers; draws = draws; ltxid = ltxid })) now (next_call after)

compared_opens : (terms : Terms) (before : Phase) (talk : Talk) (state : Repeating) (seen answers : List ℕ) (alive : Bool) (now : ℕ) (test : Bool)
    → Opening terms.rules.keeps before (on_compared terms talk alive now (if test then Ok (verified_more state) else Err (mismatch state seen answers)))
compared_opens terms before talk state seen answers alive now true = plain_marked terms before talk (verified_more state) alive now (next_of (verified_more state))
compared_opens terms before talk state seen answers alive now false = closes terms.rules.keeps before talk alive None _

repeated_opens : (terms : Terms) (before : Phase) (talk : Talk) (state : Repeating) (answers : List Answer) (draws : List Draw) (ltxid : Ltxid) (alive : Bool) (now : ℕ) (one : Option Recorded)
    → Opening terms.rules.keeps before (on_repeated terms talk state answers draws ltxid alive now one)
repeated_opens terms before talk state answers draws ltxid alive now None = closes terms.rules.keeps before talk alive None _
repeated_opens terms before talk state answers draws ltxid alive now (Some one) = compared_opens terms before talk state one.seen.digest (terms.digest answers) alive now (bytes_eq one.seen.digest (terms.digest answers))

hello_opens : (terms : Terms) (talk : Talk) (lost : Option Losing) (ltxid : Ltxid) (alive : Bool) (now : ℕ) → Opening terms.rules.keeps (Greeting lost) (on_hello terms talk lost ltxid alive now)
hello_opens terms talk lost ltxid false now = NoBegin refl
hello_opens terms talk (Some lost) ltxid true now = NoBegin refl
hello_opens terms talk None ltxid true now = by (next_call talk)
  where
    by : (next : Option Call) → Opening terms.rules.keeps (Greeting None) (sends_or_ends terms talk (record { track = unsubmitted terms; ltxid = ltxid }) true (begin_of talk ∷ []) None now next)
    by None = NoBegin refl
    by (Some call) = First refl refl refl

module _ (terms : Terms) (asking : Asking) where
  behind_opens : (talk : Talk) (state : Living) (event : ℕ) (alive : Bool) (shown : Shown) (now : ℕ) (next : Option Call) → shown.answers ≡ answer.Committed ∷ [] → state.track.call ≡ asking.track.call + 1
      → Opening terms.rules.keeps (Asked asking) (after_completed terms talk state event alive shown now next)
  behind_opens talk state event true shown now None is more = NoBegin refl
  behind_opens talk state event false shown now None is more = NoBegin refl
  behind_opens talk state event alive shown now (Some call) is more = by alive (state.track.set_shown && not terms.rules.keeps) refl
    where
      by : (live gone : Bool) → (state.track.set_shown && not terms.rules.keeps) ≡ gone
          → Opening terms.rules.keeps (Asked asking) (if gone then fails talk live (Some shown) (Disabled (why.StateLost state.track.call) event) else sends_call terms talk state live (begin_of talk ∷ []) (Some shown) now call)
      by live true so = closes terms.rules.keeps (Asked asking) talk live (Some shown) _
      by true false so = Behind asking _ shown refl refl more so refl is
      by false false so = NoBegin refl

  completed_opens : (talk : Talk) (state : Living) (event : ℕ) (alive : Bool) (now : ℕ) (one : Option Call) → state.track.call ≡ asking.track.call → Opening terms.rules.keeps (Asked asking) (on_completed terms talk state event alive now one)
  completed_opens talk state event alive now None same = closes terms.rules.keeps (Asked asking) talk alive None _
  completed_opens talk state event alive now (Some call) same =
      let after : Talk = talk_shown terms talk call (answer.Committed ∷ []) in
      let next : Living = record state { track = with_shown terms state.track call (answer.Committed ∷ []) [] } in
      behind_opens after next event alive (record { answers = answer.Committed ∷ []; draws = []; ltxid = state.ltxid }) now (next_call after) refl
      (ap (λ (n : ℕ). n + 1) (replied_call terms state.track (recorded_as terms call (answer.Committed ∷ []) []) (terms.rules.reply (answer.Committed ∷ [])) ∙ same))

  again_opens : (talk : Talk) (alive : Bool) (now : ℕ) (one : Option Recorded) → next_of (repeated asking) ≡ one → asking.track.why ≡ None → Opening terms.rules.keeps (Asked asking) (sends_marked terms talk (repeated asking) alive (begin_of talk ∷ []) now one)
  again_opens talk true now (Some one) is none = Again asking refl none (let same : asking.track.call - (length asking.track.recorder.calls - 0) ≡ asking.track.call - length asking.track.recorder.calls = omega arith in same) refl
  again_opens talk false now (Some one) is none = NoBegin refl
  again_opens talk alive now None is none = by alive (next_call talk)
    where
      few : length asking.track.recorder.calls ≡ 0
      few = none_behind asking.track.recorder.calls is

      by : (live : Bool) (next : Option Call) → Opening terms.rules.keeps (Asked asking) (sends_or_ends terms talk (submitted (repeated asking)) live (begin_of talk ∷ []) None now next)
      by true None = NoBegin refl
      by false None = NoBegin refl
      by true (Some call) = Again asking refl none (let same : asking.track.call ≡ asking.track.call - length asking.track.recorder.calls = omega (arith, few) in same) refl
      by false (Some call) = NoBegin refl

  uncommitted_opens : (talk : Talk) (alive : Bool) (now : ℕ) (reason : Option Why) → asking.track.why ≡ reason → Opening terms.rules.keeps (Asked asking) (on_told terms talk asking alive now (uncommitted reason asking terms.limits now))
  uncommitted_opens talk alive now (Some reason) is = closes terms.rules.keeps (Asked asking) talk alive None _
  uncommitted_opens talk alive now None is = by (nat_le terms.limits.replays asking.track.replays) (is_late terms.limits.timeout asking.track.first now)
    where
      by : (many late : Bool) → Opening terms.rules.keeps (Asked asking) (on_told terms talk asking alive now (if many then told.Replays (over asking) else (if late then told.Late (over asking) else told.Replay (repeated asking))))
      by true late = closes terms.rules.keeps (Asked asking) talk alive None _
      by false true = closes terms.rules.keeps (Asked asking) talk alive None _
      by false false = again_opens talk alive now (next_of (repeated asking)) refl is

  told_opens : (talk : Talk) (alive : Bool) (now : ℕ) (committed completed : Bool) → Opening terms.rules.keeps (Asked asking) (on_told terms talk asking alive now (told_of asking committed completed terms.limits now))
  told_opens talk alive now true true = completed_opens talk (resumed (completed_on asking)) asking.event alive now (next_call talk) refl
  told_opens talk alive now true false = closes terms.rules.keeps (Asked asking) talk alive None _
  told_opens talk alive now false completed = uncommitted_opens talk alive now asking.track.why refl

-- at each frame that is taken
pub takes_opens : (terms : Terms) (talk : Talk) (phase : Phase) (frame : Down) (alive : Bool) (now : ℕ) → Opening terms.rules.keeps phase (takes terms talk phase frame alive now)
takes_opens terms talk phase down.Blocked alive now = NoBegin refl
takes_opens terms talk phase (down.Refused cause) alive now = NoBegin refl
takes_opens terms talk (Greeting lost) (down.Hello ltxid) alive now = hello_opens terms talk lost ltxid alive now
takes_opens terms talk (Asked asking) (down.OutcomeIs committed completed) alive now = told_opens terms asking talk alive now committed completed
takes_opens terms talk (Asked asking) (down.OutcomeRefused ahead.Forgotten horizon) alive now = closes terms.rules.keeps (Asked asking) talk alive None _
takes_opens terms talk (Running state) (down.Reply answers draws ltxid) alive now = reply_opens terms (Running state) talk state answers draws ltxid alive now (next_call talk)
takes_opens terms talk (Replaying state) (down.Reply answers draws ltxid) alive now = repeated_opens terms (Replaying state) talk state answers draws ltxid alive now (next_of state)
takes_opens terms talk phase frame alive now = closes terms.rules.keeps phase talk alive None _

-- and at each input: a connection is lent as if Hello came on it
abbrev pub heard_in : Phase → Input → Phase
heard_in phase (Lent connection ltxid) = Greeting None
heard_in phase input = phase

pub step_opens : (terms : Terms) (talk : Talk) (input : Input) (now : ℕ) → Opening terms.rules.keeps (heard_in talk.phase input) (talk_step terms talk input now)
step_opens terms talk Start now = NoBegin refl
step_opens terms talk Waiting now = by (nat_le terms.limits.wait (now - waits_from talk.phase now))
  where
    by : (long : Bool) → Opening terms.rules.keeps talk.phase (if long then fails talk false None (PoolWait (waits_from talk.phase now) now) else (stands talk (Queued (Some (waits_from talk.phase now))), quiet))
    by true = NoBegin refl
    by false = NoBegin refl
step_opens terms talk (Lent connection ltxid) now = hello_opens terms talk None ltxid true now
step_opens terms talk (Opened connection) now = NoBegin refl
step_opens terms talk TryFailed now = by (nat_le terms.limits.retries (talk.tries + 1))
  where
    by : (many : Bool) → Opening terms.rules.keeps talk.phase (if many then fails (with_tried talk now) false None (Retries (talk.tries + 1)) else (stands (with_tried talk now) (Seeking (lost_of talk.phase)), quiet))
    by true = NoBegin refl
    by false = NoBegin refl
step_opens terms talk (Took frame alive) now = takes_opens terms talk talk.phase frame alive now
step_opens terms talk (Gone event) now = NoBegin refl
