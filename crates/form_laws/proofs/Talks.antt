-- What holds of each call of a request holds of each call that its client sends.
use Rattle.std.proofs.Common.{◌≡◌, ℕ, ◌+◌, ◌-◌, ◌&&◌, Bool, true, false, List, [], ◌∷◌, ◌++◌, drop, length, Option, Some, None, Ok, Err, refl, if◌then◌else◌}
use Rattle.std.specs.Prelude.{nat_le, not, unwrap_or}
use Rattle.std.specs.List.{list_all}
use Rattle.std.specs.Option.{option_map_or}
use Rattle.std.specs.Str.{bytes_eq}
use Rattle.std.proofs.lemmas.Bool.{and_parts}
use Rattle.svc_values.specs.declared.answer.Answer.{Answer}
use Rattle.svc_values.specs.declared.answer.Answer.TheVariants as answer
use Rattle.svc_values.specs.declared.call.Call.{Call}
use Rattle.svc_values.specs.declared.draw.Draw.{Draw}
use Rattle.svc_values.specs.declared.entry.Ltxid.{Ltxid}
use Rattle.svc_values.specs.declared.frame.Ahead.TheVariants as ahead
use Rattle.svc_values.specs.declared.frame.Down.{Down}
use Rattle.svc_values.specs.declared.frame.Down.TheVariants as down
use Rattle.svc_values.specs.declared.frame.Up.{Up}
use Rattle.svc_values.specs.declared.frame.Up.TheVariants as up
use Rattle.request_bounds.specs.declared.rule.After.{After}
use Rattle.request_bounds.specs.declared.rule.After.TheVariants as after
use Rattle.request_bounds.specs.declared.rule.Why.{Why}
use Rattle.request_bounds.specs.declared.rule.Why.TheVariants as why
use Rattle.call_recorder.specs.declared.recorded.Recorded.{Recorded}
use Rattle.client_model.specs.declared.act.Act.{Act}
use Rattle.client_model.specs.declared.act.Failed.{Failed}
use Rattle.client_model.specs.declared.act.Failed.TheVariants.{Disabled, Mismatch, Incomplete, Retries, ReplayTimeout, Replays, PoolWait, Unknown, BadPeer}
use Rattle.client_model.specs.declared.act.Shown.{Shown}
use Rattle.client_model.specs.declared.input.Input.{Input}
use Rattle.client_model.specs.declared.input.Input.TheVariants.{Start, Waiting, Lent, Opened, TryFailed, Took, Gone}
use Rattle.client_model.specs.declared.track.Track.{Track}
use Rattle.client_model.specs.meaning.Told as told
use Rattle.client_model.specs.meaning.Told.{over, repeated, completed_on, is_late, uncommitted, told_of}
use Rattle.client_model.specs.meaning.States.{Living, Losing, Asking, Repeating, asked_on, resumed, next_of}
use Rattle.client_model.specs.meaning.Terms.{Terms, Talk, Phase, Idle, Unbegun, Queued, Seeking, Greeting, Asked, Running, Replaying, unsubmitted}
use Rattle.client_model.specs.meaning.Talk.{Step, stands, quiet, sending, if_alive, fails, ends, begin_of, next_call, sends_call, sends_or_ends, goes_on, recorded_as, with_recorded, with_reply, with_shown, talk_shown, tag_of, on_hello, on_reply, sends_marked, on_compared, on_repeated, after_completed, on_completed, on_told, takes, lost_of, loses, waits_from, on_waiting, with_tried, on_try_failed, talk_step}
use Rattle.client_model.specs.meaning.Verifying.{mismatch, submitted, verified_more}
use Rattle.client_model.specs.Laws.{track_of}
use Rattle.world_model.proofs.Offered.{append_all, at_all, one_all}

behind_first : {A : Type 0} (test : A → Bool) (xs : List A) → list_all test xs ≡ true → list_all test (drop 1 xs) ≡ true
behind_first test [] all = refl
behind_first test (x ∷ xs) all = (and_parts (test x) (list_all test xs) all).1

module _ (test : Call → Bool) where
  -- the call of a frame
  abbrev pub frame_passes : Up → Bool
  frame_passes (up.Call replay kept call) = test call
  frame_passes _ = true

  abbrev pub recorded_passes : Recorded → Bool
  recorded_passes one = test one.call

  abbrev track_passes : Track → Bool
  track_passes track = list_all recorded_passes track.recorder.calls

  abbrev phase_passes : Phase → Bool
  phase_passes phase = option_map_or track_passes (track_of phase) true

  -- the calls that are left, and those that may be repeated
  pub record TalkPasses (talk : Talk) : Type 0 where
    pub left : list_all test talk.left ≡ true
    pub recorded : phase_passes talk.phase ≡ true

  pub record StepPasses (step : Step) : Type 0 where
    pub talk : TalkPasses step.0
    pub sends : list_all frame_passes step.1.send ≡ true

  module _ (terms : Terms) (now : ℕ) where
    steps_to : (talk : Talk) (phase : Phase) (act : Act) → list_all test talk.left ≡ true → phase_passes phase ≡ true → list_all frame_passes act.send ≡ true → StepPasses (stands talk phase, act)
    steps_to talk phase act left recorded sends = record { talk = record { left = left; recorded = recorded }; sends = sends }

    alive_pass : (alive : Bool) (frames : List Up) → list_all frame_passes frames ≡ true → list_all frame_passes (if_alive alive frames) ≡ true
    alive_pass true frames all = all
    alive_pass false frames all = refl

    fails_pass : (talk : Talk) (alive : Bool) (shown : Option Shown) (failed : Failed) → list_all test talk.left ≡ true → StepPasses (fails talk alive shown failed)
    fails_pass talk alive shown failed left = record { talk = record { left = left; recorded = refl }; sends = alive_pass alive (up.Close ∷ []) refl }

    ends_pass : (talk : Talk) (alive : Bool) (shown : Option Shown) → list_all test talk.left ≡ true → StepPasses (ends talk alive shown)
    ends_pass talk alive shown left = record { talk = record { left = left; recorded = refl }; sends = alive_pass alive (up.End ∷ []) refl }

    -- CALLS

    call_passes : (talk : Talk) (state : Living) (alive : Bool) (before : List Up) (shown : Option Shown) (call : Call) → list_all test talk.left ≡ true → track_passes state.track ≡ true → test call ≡ true
        → list_all frame_passes before ≡ true → StepPasses (sends_call terms talk state alive before shown now call)
    call_passes talk state true before shown call left recorded passes frames =
        record { talk = record { left = left; recorded = recorded }; sends = append_all frame_passes before (up.Call false [] call ∷ []) frames (one_all frame_passes (up.Call false [] call) passes) }
    call_passes talk state false before shown call left recorded passes frames = record { talk = record { left = left; recorded = recorded }; sends = refl }

    or_ends_pass : (talk : Talk) (state : Living) (alive : Bool) (before : List Up) (shown : Option Shown) (found : Option Call) → next_call talk ≡ found → list_all test talk.left ≡ true
        → track_passes state.track ≡ true → list_all frame_passes before ≡ true → StepPasses (sends_or_ends terms talk state alive before shown now found)
    or_ends_pass talk state alive before shown None is left recorded frames = ends_pass talk alive shown left
    or_ends_pass talk state alive before shown (Some call) is left recorded frames =
        call_passes talk state alive before shown call left recorded (at_all test talk.left 0 call left is) frames

    goes_pass : (talk : Talk) (state : Living) (alive : Bool) (before : List Up) (shown : Option Shown) → list_all test talk.left ≡ true → track_passes state.track ≡ true
        → list_all frame_passes before ≡ true → StepPasses (goes_on terms talk state alive before shown now)
    goes_pass talk state alive before shown left recorded frames = or_ends_pass talk state alive before shown (next_call talk) refl left recorded frames

    -- SHOWING

    recorded_pass : (track : Track) (one : Recorded) (reason : Option Why) → track_passes track ≡ true → recorded_passes one ≡ true → track_passes (with_recorded terms track one reason) ≡ true
    recorded_pass track one (Some reason) recorded passes = recorded
    recorded_pass track one None recorded passes = by (nat_le terms.recorded (length track.recorder.calls))
      where
        by : (full : Bool) → track_passes (if full then record track { why = Some (why.Full terms.recorded) } else record track { recorder = record track.recorder { calls = track.recorder.calls ++ one ∷ [] } }) ≡ true
        by true = recorded
        by false = append_all recorded_passes track.recorder.calls (one ∷ []) recorded (one_all recorded_passes one passes)

    reply_keeps : (track : Track) (one : Recorded) (rule : After) → track_passes track ≡ true → recorded_passes one ≡ true → track_passes (with_reply terms track one rule) ≡ true
    reply_keeps track one after.Record recorded passes = recorded_pass track one track.why recorded passes
    reply_keeps track one after.Purge recorded passes = refl
    reply_keeps track one (after.Stop reason) recorded passes = recorded

    shown_keeps : (track : Track) (call : Call) (answers : List Answer) (draws : List Draw) → track_passes track ≡ true → test call ≡ true → track_passes (with_shown terms track call answers draws) ≡ true
    shown_keeps track call answers draws recorded passes = reply_keeps track (recorded_as terms call answers draws) (terms.rules.reply answers) recorded passes

    reply_passes : (talk : Talk) (state : Living) (answers : List Answer) (draws : List Draw) (ltxid : Ltxid) (alive : Bool) (found : Option Call) → next_call talk ≡ found → list_all test talk.left ≡ true
        → track_passes state.track ≡ true → StepPasses (on_reply terms talk state answers draws ltxid alive now found)
    reply_passes talk state answers draws ltxid alive None is left recorded = fails_pass talk alive None (BadPeer (tag_of (down.Reply answers draws ltxid))) left
    reply_passes talk state answers draws ltxid alive (Some call) is left recorded =
        goes_pass (talk_shown terms talk call answers) (record { track = with_shown terms state.track call answers draws; ltxid = ltxid }) alive []
        (Some (record { answers = answers; draws = draws; ltxid = ltxid })) (behind_first test talk.left left)
        (shown_keeps state.track call answers draws recorded (at_all test talk.left 0 call left is)) refl

    -- REPEATED CALLS

    marked_pass : (talk : Talk) (state : Repeating) (alive : Bool) (before : List Up) (found : Option Recorded) → next_of state ≡ found → list_all test talk.left ≡ true → track_passes state.track ≡ true
        → list_all frame_passes before ≡ true → StepPasses (sends_marked terms talk state alive before now found)
    marked_pass talk state alive before None is left recorded frames = goes_pass talk (submitted state) alive before None left recorded frames
    marked_pass talk state alive before (Some one) is left recorded frames =
        let passes : recorded_passes one ≡ true = at_all recorded_passes state.track.recorder.calls state.verified one recorded is in
        record {
          talk = record { left = left; recorded = recorded };
          sends = alive_pass alive (before ++ up.Call true one.draws one.call ∷ [])
              (append_all frame_passes before (up.Call true one.draws one.call ∷ []) frames (one_all frame_passes (up.Call true one.draws one.call) passes));
        }

    repeated_pass : (talk : Talk) (state : Repeating) (answers : List Answer) (draws : List Draw) (ltxid : Ltxid) (alive : Bool) (found : Option Recorded) → list_all test talk.left ≡ true
        → track_passes state.track ≡ true → StepPasses (on_repeated terms talk state answers draws ltxid alive now found)
    repeated_pass talk state answers draws ltxid alive None left recorded = fails_pass talk alive None (BadPeer (tag_of (down.Reply answers draws ltxid))) left
    repeated_pass talk state answers draws ltxid alive (Some one) left recorded = by (bytes_eq one.seen.digest (terms.digest answers))
      where
        by : (same : Bool) → StepPasses (on_compared terms talk alive now (if same then Ok (verified_more state) else Err (mismatch state one.seen.digest (terms.digest answers))))
        by true = marked_pass talk (verified_more state) alive [] (next_of (verified_more state)) refl left recorded refl
        by false = fails_pass talk alive None (Mismatch (mismatch state one.seen.digest (terms.digest answers)).1.call one.seen.digest (terms.digest answers)) left

    -- OUTCOMES

    completed_passes : (talk : Talk) (state : Living) (event : ℕ) (alive : Bool) (found : Option Call) → next_call talk ≡ found → list_all test talk.left ≡ true → track_passes state.track ≡ true
        → StepPasses (on_completed terms talk state event alive now found)
    completed_passes talk state event alive None is left recorded = fails_pass talk alive None (BadPeer (tag_of (down.OutcomeIs true true))) left
    completed_passes talk state event alive (Some call) is left recorded = by (next_call behind) refl
      where
        behind : Talk
        behind = talk_shown terms talk call (answer.Committed ∷ [])

        next : Living
        next = record state { track = with_shown terms state.track call (answer.Committed ∷ []) [] }

        shown : Shown
        shown = record { answers = answer.Committed ∷ []; draws = []; ltxid = state.ltxid }

        rest : list_all test behind.left ≡ true
        rest = behind_first test talk.left left

        kept : track_passes next.track ≡ true
        kept = shown_keeps state.track call (answer.Committed ∷ []) [] recorded (at_all test talk.left 0 call left is)

        unless_lost : (found : Call) → next_call behind ≡ Some found → (lost : Bool)
            → StepPasses (if lost then fails behind alive (Some shown) (Disabled (why.StateLost next.track.call) event) else sends_call terms behind next alive (begin_of behind ∷ []) (Some shown) now found)
        unless_lost found is-next true = fails_pass behind alive (Some shown) (Disabled (why.StateLost next.track.call) event) rest
        unless_lost found is-next false = call_passes behind next alive (begin_of behind ∷ []) (Some shown) found rest kept (at_all test behind.left 0 found rest is-next) refl

        by : (found : Option Call) → next_call behind ≡ found → StepPasses (after_completed terms behind next event alive shown now found)
        by None is-next = ends_pass behind alive (Some shown) rest
        by (Some found) is-next = unless_lost found is-next (next.track.set_shown && not terms.rules.keeps)

    module _ (talk : Talk) (asking : Asking) (alive : Bool) (left : list_all test talk.left ≡ true) (recorded : track_passes asking.track ≡ true) where
      late_passes : (late : Bool) → StepPasses (on_told terms talk asking alive now (if late then told.Late (over asking) else told.Replay (repeated asking)))
      late_passes true = fails_pass talk alive None (ReplayTimeout (unwrap_or asking.track.first 0) now) left
      late_passes false = marked_pass talk (repeated asking) alive (begin_of talk ∷ []) (next_of (repeated asking)) refl left recorded refl

      many_pass : (many : Bool)
          → StepPasses (on_told terms talk asking alive now (if many then told.Replays (over asking) else (if is_late terms.limits.timeout asking.track.first now then told.Late (over asking) else told.Replay (repeated asking))))
      many_pass true = fails_pass talk alive None (Replays terms.limits.replays asking.event) left
      many_pass false = late_passes (is_late terms.limits.timeout asking.track.first now)

      uncommitted_passes : (reason : Option Why) → StepPasses (on_told terms talk asking alive now (uncommitted reason asking terms.limits now))
      uncommitted_passes (Some reason) = fails_pass talk alive None (Disabled reason asking.event) left
      uncommitted_passes None = many_pass (nat_le terms.limits.replays asking.track.replays)

      told_passes : (committed completed : Bool) → StepPasses (on_told terms talk asking alive now (told_of asking committed completed terms.limits now))
      told_passes true true = completed_passes talk (resumed (completed_on asking)) asking.event alive (next_call talk) refl left recorded
      told_passes true false = fails_pass talk alive None (Incomplete asking.ltxid) left
      told_passes false completed = uncommitted_passes asking.track.why

    -- FRAMES

    hello_passes : (talk : Talk) (lost : Option Losing) (ltxid : Ltxid) (alive : Bool) → list_all test talk.left ≡ true → phase_passes (Greeting lost) ≡ true → StepPasses (on_hello terms talk lost ltxid alive now)
    hello_passes talk lost ltxid false left recorded = steps_to talk (Greeting lost) quiet left recorded refl
    hello_passes talk None ltxid true left recorded = goes_pass talk (record { track = unsubmitted terms; ltxid = ltxid }) true (begin_of talk ∷ []) None left refl refl
    hello_passes talk (Some lost) ltxid true left recorded = steps_to talk (Asked (asked_on lost ltxid)) (sending (up.Outcome lost.ltxid ∷ [])) left recorded refl

    takes_pass : (talk : Talk) (phase : Phase) (frame : Down) (alive : Bool) → TalkPasses talk → phase_passes phase ≡ true → StepPasses (takes terms talk phase frame alive now)
    takes_pass talk phase down.Blocked alive passes recorded = record { talk = passes; sends = refl }
    takes_pass talk phase (down.Refused cause) alive passes recorded = record { talk = passes; sends = refl }
    takes_pass talk (Greeting lost) (down.Hello ltxid) alive passes recorded = hello_passes talk lost ltxid alive passes.left recorded
    takes_pass talk (Asked asking) (down.OutcomeIs committed completed) alive passes recorded = told_passes talk asking alive passes.left recorded committed completed
    takes_pass talk (Asked asking) (down.OutcomeRefused ahead.Forgotten horizon) alive passes recorded = fails_pass talk alive None (Unknown asking.ltxid) passes.left
    takes_pass talk (Running state) (down.Reply answers draws ltxid) alive passes recorded = reply_passes talk state answers draws ltxid alive (next_call talk) refl passes.left recorded
    takes_pass talk (Replaying state) (down.Reply answers draws ltxid) alive passes recorded = repeated_pass talk state answers draws ltxid alive (next_of state) passes.left recorded
    takes_pass talk phase frame alive passes recorded = fails_pass talk alive None (BadPeer (tag_of frame)) passes.left

    -- SLOTS AND CONNECTIONS

    lost_passes : (phase : Phase) → phase_passes phase ≡ true → phase_passes (Greeting (lost_of phase)) ≡ true
    lost_passes (Seeking None) recorded = refl
    lost_passes (Seeking (Some lost)) recorded = recorded
    lost_passes (Greeting None) recorded = refl
    lost_passes (Greeting (Some lost)) recorded = recorded
    lost_passes _ recorded = refl

    seeks_passes : (lost : Option Losing) → phase_passes (Greeting lost) ≡ true → phase_passes (Seeking lost) ≡ true
    seeks_passes None recorded = refl
    seeks_passes (Some lost) recorded = recorded

    gone_passes : (phase : Phase) (event : ℕ) → phase_passes phase ≡ true → phase_passes (loses phase event) ≡ true
    gone_passes (Greeting None) event recorded = refl
    gone_passes (Greeting (Some lost)) event recorded = recorded
    gone_passes (Asked asking) event recorded = recorded
    gone_passes (Running state) event recorded = recorded
    gone_passes (Replaying state) event recorded = recorded
    gone_passes Idle event recorded = recorded
    gone_passes Unbegun event recorded = recorded
    gone_passes (Queued from) event recorded = recorded
    gone_passes (Seeking lost) event recorded = recorded

    waited_passes : (talk : Talk) (from : ℕ) → list_all test talk.left ≡ true → StepPasses (on_waiting terms talk from now)
    waited_passes talk from left = by (nat_le terms.limits.wait (now - from))
      where
        by : (long : Bool) → StepPasses (if long then fails talk false None (PoolWait from now) else (stands talk (Queued (Some from)), quiet))
        by true = fails_pass talk false None (PoolWait from now) left
        by false = steps_to talk (Queued (Some from)) quiet left refl refl

    tried_passes : (talk : Talk) → TalkPasses talk → StepPasses (on_try_failed terms talk now)
    tried_passes talk passes = by (nat_le terms.limits.retries (talk.tries + 1))
      where
        by : (many : Bool) → StepPasses (if many then fails (with_tried talk now) false None (Retries (talk.tries + 1)) else (stands (with_tried talk now) (Seeking (lost_of talk.phase)), quiet))
        by true = fails_pass (with_tried talk now) false None (Retries (talk.tries + 1)) passes.left
        by false = steps_to (with_tried talk now) (Seeking (lost_of talk.phase)) quiet passes.left (seeks_passes (lost_of talk.phase) (lost_passes talk.phase passes.recorded)) refl

    -- a step of the client
    pub step_passes : (talk : Talk) (input : Input) → TalkPasses talk → StepPasses (talk_step terms talk input now)
    step_passes talk Start passes = steps_to talk (Queued None) quiet passes.left refl refl
    step_passes talk Waiting passes = waited_passes talk (waits_from talk.phase now) passes.left
    step_passes talk (Lent connection ltxid) passes = hello_passes talk None ltxid true passes.left refl
    step_passes talk (Opened connection) passes =
        record { talk = record { left = passes.left; recorded = lost_passes talk.phase passes.recorded }; sends = refl }
    step_passes talk TryFailed passes = tried_passes talk passes
    step_passes talk (Took frame alive) passes = takes_pass talk talk.phase frame alive passes passes.recorded
    step_passes talk (Gone event) passes = steps_to talk (loses talk.phase event) quiet passes.left (gone_passes talk.phase event passes.recorded) refl
