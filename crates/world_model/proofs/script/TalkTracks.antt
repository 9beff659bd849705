-- What holds of the track of a request, whatever comes in: of the first one, and of each that comes
-- of it.
use Rattle.std.proofs.Common.{◌≡◌, refl, ap, ◌∙◌, Bool, true, false, ℕ, ◌+◌, ◌-◌, List, [], ◌∷◌, Option, Some, None, if◌then◌else◌}
use Rattle.std.specs.Prelude.{◌&&◌, not, nat_le, Ok, Err}
use Rattle.std.specs.Option.{option_map_or}
use Rattle.std.specs.Str.{bytes_eq}
use Rattle.svc_values.specs.declared.answer.Answer.{Answer}
use Rattle.svc_values.specs.declared.answer.Answer.TheVariants as answer
use Rattle.svc_values.specs.declared.call.Call.{Call}
use Rattle.svc_values.specs.declared.draw.Draw.{Draw}
use Rattle.svc_values.specs.declared.entry.Ltxid.{Ltxid}
use Rattle.svc_values.specs.declared.frame.Up.{Up}
use Rattle.svc_values.specs.declared.frame.Ahead.TheVariants as ahead
use Rattle.svc_values.specs.declared.frame.Down.{Down}
use Rattle.svc_values.specs.declared.frame.Down.TheVariants as down
use Rattle.call_recorder.specs.declared.recorded.Recorded.{Recorded}
use Rattle.request_bounds.specs.declared.rule.Why.{Why}
use Rattle.request_bounds.specs.declared.rule.Why.TheVariants as why
use Rattle.client_model.specs.declared.act.Failed.TheVariants.{Disabled, Retries, PoolWait}
use Rattle.client_model.specs.declared.act.Shown.{Shown}
use Rattle.client_model.specs.declared.input.Input.{Input}
use Rattle.client_model.specs.declared.input.Input.TheVariants.{Start, Waiting, Lent, Opened, TryFailed, Took, Gone}
use Rattle.client_model.specs.declared.track.Track.{Track}
use Rattle.client_model.specs.meaning.Conversation.{Timed, talk_at}
use Rattle.client_model.specs.Conversation.{talk_after}
use Rattle.client_model.specs.Laws.{track_of}
use Rattle.client_model.specs.meaning.States.{Living, Losing, Asking, Repeating, resumed, next_of}
use Rattle.client_model.specs.meaning.Told.{over, completed_on, repeated, is_late, uncommitted, told_of}
use Rattle.client_model.specs.meaning.Told as told
use Rattle.client_model.specs.meaning.Verifying.{verified_more, mismatch, submitted}
use Rattle.client_model.specs.meaning.Terms.{Terms, Talk, Phase, Queued, Seeking, Greeting, Asked, Running, Replaying, unsubmitted}
use Rattle.client_model.specs.meaning.Talk.{Step, stands, quiet, fails, with_tried, lost_of, loses, talk_shown, with_shown, with_submitted, sends_call, sends_or_ends, next_call, begin_of, on_hello, on_reply, sends_marked, on_compared, on_repeated, after_completed, on_completed, on_told, takes, on_waiting, waits_from, on_try_failed, talk_step}

-- a test of tracks that each step keeps
pub record IsOfTracks (terms : Terms) (good : Track → Bool) : Type 0 where
  pub first : (call : Call) (now : ℕ) → good (with_submitted terms (unsubmitted terms) call now) ≡ true
  pub submits : (track : Track) (call : Call) (now : ℕ) → good track ≡ true → good (with_submitted terms track call now) ≡ true
  pub shows : (track : Track) (call : Call) (answers : List Answer) (draws : List Draw) → good track ≡ true → good (with_shown terms track call answers draws) ≡ true
  pub again : (track : Track) → good track ≡ true → nat_le terms.limits.replays track.replays ≡ false → good (record track { replays = track.replays + 1 }) ≡ true

module _ (terms : Terms) (good : Track → Bool) (is : IsOfTracks terms good) where
  abbrev pub phase_good : Phase → Bool
  phase_good phase = option_map_or good (track_of phase) true

  abbrev IsGood : Step → Type 0
  IsGood step = phase_good step.0.phase ≡ true

  -- FRAMES ----------------------------------------------------------------------------------------

  called : (talk : Talk) (state : Living) (alive : Bool) (before : List Up) (shown : Option Shown) (now : ℕ) (call : Call) → good state.track ≡ true → IsGood (sends_call terms talk state alive before shown now call)
  called talk state true before shown now call here = is.submits state.track call now here
  called talk state false before shown now call here = here

  next_good : (talk : Talk) (state : Living) (alive : Bool) (before : List Up) (shown : Option Shown) (now : ℕ) (next : Option Call) → good state.track ≡ true → IsGood (sends_or_ends terms talk state alive before shown now next)
  next_good talk state alive before shown now None here = refl
  next_good talk state alive before shown now (Some call) here = called talk state alive before shown now call here

  marked_good : (talk : Talk) (state : Repeating) (alive : Bool) (before : List Up) (now : ℕ) (one : Option Recorded) → good state.track ≡ true → IsGood (sends_marked terms talk state alive before now one)
  marked_good talk state alive before now None here = next_good talk (submitted state) alive before None now (next_call talk) here
  marked_good talk state alive before now (Some one) here = here

  first_good : (talk : Talk) (ltxid : Ltxid) (before : List Up) (now : ℕ) (next : Option Call) → IsGood (sends_or_ends terms talk (record { track = unsubmitted terms; ltxid = ltxid }) true before None now next)
  first_good talk ltxid before now None = refl
  first_good talk ltxid before now (Some call) = is.first call now

  hello_good : (talk : Talk) (lost : Option Losing) (ltxid : Ltxid) (alive : Bool) (now : ℕ) → phase_good (Greeting lost) ≡ true → IsGood (on_hello terms talk lost ltxid alive now)
  hello_good talk lost ltxid false now here = here
  hello_good talk None ltxid true now here = first_good talk ltxid (begin_of talk ∷ []) now (next_call talk)
  hello_good talk (Some lost) ltxid true now here = here

  reply_good : (talk : Talk) (state : Living) (answers : List Answer) (draws : List Draw) (ltxid : Ltxid) (alive : Bool) (now : ℕ) (call : Option Call) → good state.track ≡ true
      → IsGood (on_reply terms talk state answers draws ltxid alive now call)
  reply_good talk state answers draws ltxid alive now None here = refl
  reply_good talk state answers draws ltxid alive now (Some call) here =
      let after : Talk = talk_shown terms talk call answers in
      next_good after (record { track = with_shown terms state.track call answers draws; ltxid = ltxid }) alive [] (Some (record { answers = answers; draws = draws; ltxid = ltxid })) now (next_call after)
      (is.shows state.track call answers draws here)

  compared_good : (talk : Talk) (state : Repeating) (seen answers : List ℕ) (alive : Bool) (now : ℕ) (test : Bool) → good state.track ≡ true
      → IsGood (on_compared terms talk alive now (if test then Ok (verified_more state) else Err (mismatch state seen answers)))
  compared_good talk state seen answers alive now true here = marked_good talk (verified_more state) alive [] now (next_of (verified_more state)) here
  compared_good talk state seen answers alive now false here = refl

  repeated_good : (talk : Talk) (state : Repeating) (answers : List Answer) (draws : List Draw) (ltxid : Ltxid) (alive : Bool) (now : ℕ) (one : Option Recorded) → good state.track ≡ true
      → IsGood (on_repeated terms talk state answers draws ltxid alive now one)
  repeated_good talk state answers draws ltxid alive now None here = refl
  repeated_good talk state answers draws ltxid alive now (Some one) here =
      compared_good talk state one.seen.digest (terms.digest answers) alive now (bytes_eq one.seen.digest (terms.digest answers)) here

  behind_good : (talk : Talk) (state : Living) (event : ℕ) (alive : Bool) (shown : Shown) (now : ℕ) (next : Option Call) → good state.track ≡ true → IsGood (after_completed terms talk state event alive shown now next)
  behind_good talk state event alive shown now None here = refl
  behind_good talk state event alive shown now (Some call) here = by (state.track.set_shown && not terms.rules.keeps)
    where
      by : (gone : Bool) → IsGood (if gone then fails talk alive (Some shown) (Disabled (why.StateLost state.track.call) event) else sends_call terms talk state alive (begin_of talk ∷ []) (Some shown) now call)
      by true = refl
      by false = called talk state alive (begin_of talk ∷ []) (Some shown) now call here

  completed_good : (talk : Talk) (state : Living) (event : ℕ) (alive : Bool) (now : ℕ) (call : Option Call) → good state.track ≡ true → IsGood (on_completed terms talk state event alive now call)
  completed_good talk state event alive now None here = refl
  completed_good talk state event alive now (Some call) here =
      let after : Talk = talk_shown terms talk call (answer.Committed ∷ []) in
      let next : Living = record state { track = with_shown terms state.track call (answer.Committed ∷ []) [] } in
      behind_good after next event alive (record { answers = answer.Committed ∷ []; draws = []; ltxid = state.ltxid }) now (next_call after) (is.shows state.track call (answer.Committed ∷ []) [] here)

  uncommitted_good : (talk : Talk) (asking : Asking) (alive : Bool) (now : ℕ) (reason : Option Why) → good asking.track ≡ true → IsGood (on_told terms talk asking alive now (uncommitted reason asking terms.limits now))
  uncommitted_good talk asking alive now (Some reason) here = refl
  uncommitted_good talk asking alive now None here = by (nat_le terms.limits.replays asking.track.replays) (is_late terms.limits.timeout asking.track.first now) refl
    where
      by : (many late : Bool) → nat_le terms.limits.replays asking.track.replays ≡ many
          → IsGood (on_told terms talk asking alive now (if many then told.Replays (over asking) else (if late then told.Late (over asking) else told.Replay (repeated asking))))
      by true late few = refl
      by false true few = refl
      by false false few = marked_good talk (repeated asking) alive (begin_of talk ∷ []) now (next_of (repeated asking)) (is.again asking.track here few)

  told_good : (talk : Talk) (asking : Asking) (alive : Bool) (now : ℕ) (committed completed : Bool) → good asking.track ≡ true → IsGood (on_told terms talk asking alive now (told_of asking committed completed terms.limits now))
  told_good talk asking alive now true true here = completed_good talk (resumed (completed_on asking)) asking.event alive now (next_call talk) here
  told_good talk asking alive now true false here = refl
  told_good talk asking alive now false completed here = uncommitted_good talk asking alive now asking.track.why here

  taken_good : (talk : Talk) (phase : Phase) (frame : Down) (alive : Bool) (now : ℕ) → talk.phase ≡ phase → phase_good phase ≡ true → IsGood (takes terms talk phase frame alive now)
  taken_good talk phase down.Blocked alive now same here = ap phase_good same ∙ here
  taken_good talk phase (down.Refused cause) alive now same here = ap phase_good same ∙ here
  taken_good talk (Greeting lost) (down.Hello ltxid) alive now same here = hello_good talk lost ltxid alive now here
  taken_good talk (Asked asking) (down.OutcomeIs committed completed) alive now same here = told_good talk asking alive now committed completed here
  taken_good talk (Asked asking) (down.OutcomeRefused ahead.Forgotten horizon) alive now same here = refl
  taken_good talk (Running state) (down.Reply answers draws ltxid) alive now same here = reply_good talk state answers draws ltxid alive now (next_call talk) here
  taken_good talk (Replaying state) (down.Reply answers draws ltxid) alive now same here = repeated_good talk state answers draws ltxid alive now (next_of state) here
  taken_good talk phase frame alive now same here = refl

  -- STEPS -----------------------------------------------------------------------------------------

  waited_good : (talk : Talk) (from now : ℕ) → IsGood (on_waiting terms talk from now)
  waited_good talk from now = by (nat_le terms.limits.wait (now - from))
    where
      by : (long : Bool) → IsGood (if long then fails talk false None (PoolWait from now) else (stands talk (Queued (Some from)), quiet))
      by true = refl
      by false = refl

  lost_good : (phase : Phase) → phase_good phase ≡ true → option_map_or good (track_of (Seeking (lost_of phase))) true ≡ true
  lost_good (Seeking lost) here = here
  lost_good (Greeting None) here = refl
  lost_good (Greeting (Some lost)) here = here
  lost_good phase here = refl

  greets_good : (lost : Option Losing) → phase_good (Seeking lost) ≡ true → phase_good (Greeting lost) ≡ true
  greets_good None here = refl
  greets_good (Some lost) here = here

  tried_good : (talk : Talk) (now : ℕ) → phase_good talk.phase ≡ true → IsGood (on_try_failed terms talk now)
  tried_good talk now here = by (nat_le terms.limits.retries (talk.tries + 1))
    where
      by : (many : Bool) → IsGood (if many then fails (with_tried talk now) false None (Retries (talk.tries + 1)) else (stands (with_tried talk now) (Seeking (lost_of talk.phase)), quiet))
      by true = refl
      by false = lost_good talk.phase here

  gone_good : (phase : Phase) (event : ℕ) → phase_good phase ≡ true → phase_good (loses phase event) ≡ true
  gone_good (Greeting None) event here = refl
  gone_good (Greeting (Some lost)) event here = here
  gone_good (Asked asking) event here = here
  gone_good (Running state) event here = here
  gone_good (Replaying state) event here = here
  gone_good phase event here = here

  step_good : (talk : Talk) (input : Input) (now : ℕ) → phase_good talk.phase ≡ true → IsGood (talk_step terms talk input now)
  step_good talk Start now here = refl
  step_good talk Waiting now here = waited_good talk (waits_from talk.phase now) now
  step_good talk (Lent connection ltxid) now here = hello_good talk None ltxid true now refl
  step_good talk (Opened connection) now here = greets_good (lost_of talk.phase) (lost_good talk.phase here)
  step_good talk TryFailed now here = tried_good talk now here
  step_good talk (Took frame alive) now here = taken_good talk talk.phase frame alive now refl here
  step_good talk (Gone event) now here = gone_good talk.phase event here

  pub talk_good : (talk : Talk) (inputs : List Timed) → phase_good talk.phase ≡ true → phase_good (talk_after terms talk inputs).phase ≡ true
  talk_good talk [] here = here
  talk_good talk (one ∷ inputs) here = talk_good (talk_at terms talk one) inputs (step_good talk one.0 one.1 here)
