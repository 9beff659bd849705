-- What a client does at an input, and where its conversation stands then.
use Rattle.std.specs.Prelude.{ℕ, ◌+◌, ◌-◌, Bool, true, false, not, ◌&&◌, ◌||◌, nat_le, List, [], ◌∷◌, ◌++◌, length, drop, fold, get_or, slice_get, Option, Some, None, unwrap_or, Result, Ok, Err, if◌then◌else◌}
use Rattle.std.specs.Option.{option_or}
use Rattle.svc_values.specs.declared.value.Value.{Value}
use Rattle.svc_values.specs.declared.answer.Answer.{Answer}
use Rattle.svc_values.specs.declared.answer.Answer.TheVariants as answer
use Rattle.svc_values.specs.declared.draw.Draw.{Draw}
use Rattle.svc_values.specs.declared.call.Call.{Call}
use Rattle.svc_values.specs.declared.call.Call.TheVariants as call
use Rattle.svc_values.specs.declared.entry.Ltxid.{Ltxid}
use Rattle.svc_values.specs.declared.frame.Up.{Up}
use Rattle.svc_values.specs.declared.frame.Up.TheVariants as up
use Rattle.svc_values.specs.declared.frame.Ahead.TheVariants as ahead
use Rattle.svc_values.specs.declared.frame.Down.{Down}
use Rattle.svc_values.specs.declared.frame.Down.TheVariants as down
use Rattle.svc_values.specs.meaning.SettingsList.{put_setting}
use Rattle.canon_bytes.specs.meaning.DownBytes.{spell_down}
use Rattle.request_bounds.specs.declared.rule.Why.{Why}
use Rattle.request_bounds.specs.declared.rule.Why.TheVariants as why
use Rattle.request_bounds.specs.declared.rule.After.{After}
use Rattle.request_bounds.specs.declared.rule.After.TheVariants as after
use Rattle.request_bounds.specs.meaning.Limits.{has_waited}
use Rattle.call_recorder.specs.declared.recorded.Recorded.{Recorded}
use Rattle.call_recorder.specs.meaning.Recording.{noted, purged}
use Rattle.client_model.specs.declared.track.Track.{Track}
use Rattle.client_model.specs.declared.track.Over.{Over}
use Rattle.client_model.specs.declared.track.Mismatch.{Mismatch}
use Rattle.client_model.specs.meaning.Told.{Told, told_of}
use Rattle.client_model.specs.meaning.Told as told
use Rattle.client_model.specs.meaning.States.{Living, Losing, Asking, Repeating, lost_by, asked_on, lost_again, lost_in_replay, resumed, next_of}
use Rattle.client_model.specs.meaning.Verifying.{compared, submitted}
use Rattle.client_model.specs.declared.input.Input.{Input}
use Rattle.client_model.specs.declared.input.Input.TheVariants.{Start, Waiting, Lent, Opened, TryFailed, Took, Gone}
use Rattle.client_model.specs.declared.input.Wants.{Wants}
use Rattle.client_model.specs.declared.input.Wants.TheVariants as wants
use Rattle.client_model.specs.declared.act.Act.{Act}
use Rattle.client_model.specs.declared.act.Shown.{Shown}
use Rattle.client_model.specs.declared.act.Hold.TheVariants.{Keep, GiveBack, Drop}
use Rattle.client_model.specs.declared.act.Failed.{Failed}
use Rattle.client_model.specs.declared.act.Failed.TheVariants.{Disabled, Mismatch as Differs, Incomplete, Retries, ReplayTimeout, Replays, PoolWait, Unknown, BadPeer}
use Rattle.client_model.specs.meaning.Terms.{Terms, Talk, Phase, Idle, Unbegun, Queued, Seeking, Greeting, Asked, Running, Replaying, unsubmitted}

-- the conversation after a step, and the act
abbrev pub Step : Type 0
Step = Talk × Act

abbrev pub stands : Talk → Phase → Talk
stands talk phase = record talk { phase = phase }

-- nothing is done
abbrev pub quiet : Act
quiet = record { send = []; shown = None; failed = None; hold = Keep }

-- frames are sent, and nothing else is done
abbrev pub sending : List Up → Act
sending frames = record quiet { send = frames }

-- frames go out on a living connection alone
abbrev pub if_alive : Bool → List Up → List Up
if_alive alive frames = if alive then frames else []

-- the connection is closed
abbrev pub closing : Bool → Option Shown → Failed → Act
closing alive shown failed = record {
  send = if_alive alive (up.Close ∷ []);
  shown = shown;
  failed = Some failed;
  hold = Drop;
}

-- The request fails: it closes its connection and gives up its slot.
abbrev pub fails : Talk → Bool → Option Shown → Failed → Step
fails talk alive shown failed = (stands talk Idle, closing alive shown failed)

-- the request ends on its connection, which is given back if it is there
abbrev pub ending : Bool → Option Shown → Act
ending alive shown = record {
  send = if_alive alive (up.End ∷ []);
  shown = shown;
  failed = None;
  hold = if alive then GiveBack else Drop;
}

-- The request is through.
abbrev pub ends : Talk → Bool → Option Shown → Step
ends talk alive shown = (stands talk Idle, ending alive shown)

-- SETTINGS ----------------------------------------------------------------------------------------

abbrev pub begin_of : Talk → Up
begin_of talk = up.Begin talk.settings

-- the setting that a call changes, if it is a `set`
abbrev pub set_by : Call → List (List ℕ × Value)
set_by (call.Set name value) = (name, value) ∷ []
set_by _ = []

-- under a rule that keeps settings what a shown call sets waits for the next purge
abbrev pub sets_by : Bool → List (List ℕ × Value) → Call → List (List ℕ × Value)
sets_by keeps sets call = if keeps then sets ++ set_by call else sets

-- the settings with these put on them, one after the other
abbrev pub settled : List (List ℕ × Value) → List (List ℕ × Value) → List (List ℕ × Value)
settled settings sets = fold (λ so_far one. put_setting so_far one.0 one.1) settings sets

-- a purge settles what was set, by the purging call too, and then nothing waits
abbrev pub settled_by : After → List (List ℕ × Value) → List (List ℕ × Value)
    → List (List ℕ × Value)
settled_by after.Purge settings sets = settled settings sets
settled_by _ settings sets = settings

abbrev pub waits_after : After → List (List ℕ × Value) → List (List ℕ × Value)
waits_after after.Purge sets = []
waits_after _ sets = sets

-- SUBMITTING --------------------------------------------------------------------------------------

-- A call is submitted. The first reason that a submission gives stands, and so does the first tick.
abbrev pub with_submitted : Terms → Track → Call → ℕ → Track
with_submitted terms track call now = record track {
  why =
      option_or track.why (terms.rules.submit call track.call);
  first =
      option_or track.first (Some now);
}

-- The call goes out unmarked behind these frames. On a dead connection it neither goes out nor
-- counts as submitted.
abbrev pub sends_call : Terms → Talk → Living → Bool → List Up → Option Shown → ℕ → Call → Step
sends_call terms talk state true before shown now call = (
  stands talk (Running (record state { track = with_submitted terms state.track call now })),
  record {
    send = before ++ up.Call false [] call ∷ [];
    shown = shown;
    failed = None;
    hold = Keep;
  },
)
sends_call terms talk state false before shown now call =
    (stands talk (Running state), record quiet { shown = shown })

-- the call that comes next, or the end where none does
abbrev pub sends_or_ends : Terms → Talk → Living → Bool → List Up → Option Shown → ℕ → Option Call
    → Step
sends_or_ends terms talk state alive before shown now None = ends talk alive shown
sends_or_ends terms talk state alive before shown now (Some call) =
    sends_call terms talk state alive before shown now call

abbrev pub next_call : Talk → Option Call
next_call talk = slice_get talk.left 0

abbrev pub goes_on : Terms → Talk → Living → Bool → List Up → Option Shown → ℕ → Step
goes_on terms talk state alive before shown now =
    sends_or_ends terms talk state alive before shown now (next_call talk)

-- SHOWING -----------------------------------------------------------------------------------------

abbrev pub is_set : Call → Bool
is_set (call.Set name value) = true
is_set _ = false

-- where no reason stands the call is recorded, or the recorder is full and that is the reason
abbrev pub with_recorded : Terms → Track → Recorded → Option Why → Track
with_recorded terms track one (Some reason) = track
with_recorded terms track one None =
    if nat_le terms.recorded (length track.recorder.calls) then record track {
      why =
          Some (why.Full terms.recorded);
    }
    else record track { recorder = noted track.recorder one }

-- what the rule makes of a reply
abbrev pub with_reply : Terms → Track → Recorded → After → Track
with_reply terms track one after.Record = with_recorded terms track one track.why
with_reply terms track one after.Purge = record track { recorder = purged track.recorder }
with_reply terms track one (after.Stop reason) =
    record track { why = option_or track.why (Some reason) }

-- one call more is behind
abbrev pub with_counted : Track → Call → Track
with_counted track call = record track {
  set_shown = track.set_shown || is_set call;
  call =
      track.call + 1;
}

-- a call with its answers, in the form in which it is recorded
abbrev pub recorded_as : Terms → Call → List Answer → List Draw → Recorded
recorded_as terms call answers draws = record {
  call = call;
  seen = record { digest = terms.digest answers };
  draws = draws;
}

abbrev pub with_shown : Terms → Track → Call → List Answer → List Draw → Track
with_shown terms track call answers draws =
    with_counted (with_reply terms track (recorded_as terms call answers draws)
    (terms.rules.reply answers)) call

-- the first of the calls that are left is left no more
abbrev pub talk_shown : Terms → Talk → Call → List Answer → Talk
talk_shown terms talk call answers =
    let after : After = terms.rules.reply answers in
    let sets : List (List ℕ × Value) = sets_by terms.rules.keeps talk.sets call in
    record talk {
      settings = settled_by after talk.settings sets;
      sets =
          waits_after after sets;
      left = drop 1 talk.left;
    }

-- FRAMES THAT ARE TAKEN ---------------------------------------------------------------------------

-- the tag of a frame is the first byte that spells it
abbrev pub tag_of : Down → ℕ
tag_of frame = get_or (spell_down frame) 0 0

-- no server sends this frame here
abbrev pub bad_peer : Talk → Bool → Down → Step
bad_peer talk alive frame = fails talk alive None (BadPeer (tag_of frame))

-- At Hello a fresh request begins and sends its first call; one that lost a session asks for the
-- outcome.
abbrev pub on_hello : Terms → Talk → Option Losing → Ltxid → Bool → ℕ → Step
on_hello terms talk lost ltxid false now = (stands talk (Greeting lost), quiet)
on_hello terms talk None ltxid true now = goes_on terms talk (record {
  track = unsubmitted terms;
  ltxid = ltxid;
}) true (begin_of talk ∷ []) None now
on_hello terms talk (Some lost) ltxid true now =
    (stands talk (Asked (asked_on lost ltxid)), sending (up.Outcome lost.ltxid ∷ []))

-- the reply is shown, and what comes next goes out
abbrev pub on_reply : Terms → Talk → Living → List Answer → List Draw → Ltxid → Bool → ℕ
    → Option Call → Step
on_reply terms talk state answers draws ltxid alive now None =
    bad_peer talk alive (down.Reply answers draws ltxid)
on_reply terms talk state answers draws ltxid alive now (Some call) =
    goes_on terms (talk_shown terms talk call answers) (record {
      track = with_shown terms state.track call answers draws;
      ltxid = ltxid;
    })
    alive [] (Some (record { answers = answers; draws = draws; ltxid = ltxid })) now

-- a recorded call that is left goes out marked, with its draws; behind the last one the lost call
-- goes out
abbrev pub sends_marked : Terms → Talk → Repeating → Bool → List Up → ℕ → Option Recorded → Step
sends_marked terms talk state alive before now None =
    goes_on terms talk (submitted state) alive before None now
sends_marked terms talk state alive before now (Some one) = (
  stands talk (Replaying state),
  sending
      (if_alive alive (before ++ up.Call true one.draws one.call ∷ [])),
)

abbrev pub repeats : Terms → Talk → Repeating → Bool → List Up → ℕ → Step
repeats terms talk state alive before now =
    sends_marked terms talk state alive before now (next_of state)

-- a repeated call that was answered otherwise ends the request
abbrev pub on_compared : Terms → Talk → Bool → ℕ → Result Repeating (Over × Mismatch) → Step
on_compared terms talk alive now (Ok state) = repeats terms talk state alive [] now
on_compared terms talk alive now (Err fault) =
    fails talk alive None (Differs fault.1.call fault.1.seen fault.1.now)

abbrev pub on_repeated : Terms → Talk → Repeating → List Answer → List Draw → Ltxid → Bool → ℕ
    → Option Recorded → Step
on_repeated terms talk state answers draws ltxid alive now None =
    bad_peer talk alive (down.Reply answers draws ltxid)
on_repeated terms talk state answers draws ltxid alive now (Some one) =
    on_compared terms talk alive now (compared one state (terms.digest answers))

-- Behind a call that an outcome showed: where another call follows and a `set` was shown, the
-- settings are gone with the lost session, unless the rule keeps them.
abbrev pub after_completed : Terms → Talk → Living → ℕ → Bool → Shown → ℕ → Option Call → Step
after_completed terms talk state event alive shown now None = ends talk alive (Some shown)
after_completed terms talk state event alive shown now (Some call) =
    if state.track.set_shown && not terms.rules.keeps then
    fails talk alive (Some shown) (Disabled (why.StateLost state.track.call) event)
    else sends_call terms talk state alive (begin_of talk ∷ []) (Some shown) now call

-- The lost call is committed and completed. It is shown with that one answer, as if it were a
-- reply.
abbrev pub on_completed : Terms → Talk → Living → ℕ → Bool → ℕ → Option Call → Step
on_completed terms talk state event alive now None = bad_peer talk alive (down.OutcomeIs true true)
on_completed terms talk state event alive now (Some call) =
    let after : Talk = talk_shown terms talk call (answer.Committed ∷ []) in
    let next : Living = record state {
      track =
          with_shown terms state.track call (answer.Committed ∷ []) [];
    } in
    after_completed terms after next event alive (record {
      answers = answer.Committed ∷ [];
      draws = [];
      ltxid = state.ltxid;
    }) now (next_call after)

-- the step for each thing that an outcome leads to
abbrev pub on_told : Terms → Talk → Asking → Bool → ℕ → Told → Step
on_told terms talk asking alive now (told.Committed state) =
    on_completed terms talk (resumed state) state.event alive now (next_call talk)
on_told terms talk asking alive now (told.Incomplete over) =
    fails talk alive None (Incomplete asking.ltxid)
on_told terms talk asking alive now (told.Disabled over reason) =
    fails talk alive None (Disabled reason over.event)
on_told terms talk asking alive now (told.Replays over) =
    fails talk alive None (Replays terms.limits.replays over.event)
on_told terms talk asking alive now (told.Late over) =
    fails talk alive None (ReplayTimeout (unwrap_or over.track.first 0) now)
on_told terms talk asking alive now (told.Replay state) =
    repeats terms talk state alive (begin_of talk ∷ []) now

-- A frame, in each phase. Blocked and Refused do nothing by themselves: they end the connection,
-- and the next input says so. Every frame that is not named here fails the request.
abbrev pub takes : Terms → Talk → Phase → Down → Bool → ℕ → Step
takes terms talk phase down.Blocked alive now = (talk, quiet)
takes terms talk phase (down.Refused cause) alive now = (talk, quiet)
takes terms talk (Greeting lost) (down.Hello ltxid) alive now =
    on_hello terms talk lost ltxid alive now
takes terms talk (Asked asking) (down.OutcomeIs committed completed) alive now =
    on_told terms talk asking alive now (told_of asking committed completed terms.limits now)
takes terms talk (Asked asking) (down.OutcomeRefused ahead.Forgotten horizon) alive now =
    fails talk alive None (Unknown asking.ltxid)
takes terms talk (Running state) (down.Reply answers draws ltxid) alive now =
    on_reply terms talk state answers draws ltxid alive now (next_call talk)
takes terms talk (Replaying state) (down.Reply answers draws ltxid) alive now =
    on_repeated terms talk state answers draws ltxid alive now (next_of state)
takes terms talk phase frame alive now = bad_peer talk alive frame

-- SLOTS AND CONNECTIONS ---------------------------------------------------------------------------

-- whose outcome to ask on the next connection, if one is
abbrev pub lost_of : Phase → Option Losing
lost_of (Seeking lost) = lost
lost_of (Greeting lost) = lost
lost_of _ = None

-- The connection has ended by this event. A request that has not begun has nothing to ask, and
-- until an outcome is taken the first loss counts.
abbrev pub loses : Phase → ℕ → Phase
loses (Greeting lost) event = Seeking lost
loses (Asked asking) event = Seeking (Some (lost_again asking))
loses (Running state) event = Seeking (Some (lost_by state event))
loses (Replaying state) event = Seeking (Some (lost_in_replay state event))
loses phase event = phase

-- since when the request waits
abbrev pub waits_from : Phase → ℕ → ℕ
waits_from (Queued from) now = unwrap_or from now
waits_from _ now = now

-- still no slot: the request waits on, or has waited too long
abbrev pub on_waiting : Terms → Talk → ℕ → ℕ → Step
on_waiting terms talk from now =
    if nat_le terms.limits.wait (now - from) then fails talk false None (PoolWait from now)
    else (stands talk (Queued (Some from)), quiet)

-- one failed try more
abbrev pub with_tried : Talk → ℕ → Talk
with_tried talk now = record talk { tries = talk.tries + 1; last_try = Some now }

-- the server is down: the request tries again, or has tried too often
abbrev pub on_try_failed : Terms → Talk → ℕ → Step
on_try_failed terms talk now =
    if nat_le terms.limits.retries (talk.tries + 1) then fails (with_tried talk now) false None
    (Retries (talk.tries + 1))
    else (stands (with_tried talk now) (Seeking (lost_of talk.phase)), quiet)

abbrev pub talk_step : Terms → Talk → Input → ℕ → Step
talk_step terms talk Start now = (stands talk (Queued None), quiet)
talk_step terms talk Waiting now = on_waiting terms talk (waits_from talk.phase now) now
talk_step terms talk (Lent connection ltxid) now = on_hello terms talk None ltxid true now
talk_step terms talk (Opened connection) now =
    (record talk { tries = 0; phase = Greeting (lost_of talk.phase) }, sending (up.Connect ∷ []))
talk_step terms talk TryFailed now = on_try_failed terms talk now
talk_step terms talk (Took frame alive) now = takes terms talk talk.phase frame alive now
talk_step terms talk (Gone event) now = (stands talk (loses talk.phase event), quiet)

-- what may come next
abbrev pub wants_in : Terms → Talk → Phase → ℕ → Wants
wants_in terms talk Idle now = wants.Idle
wants_in terms talk Unbegun now = wants.Request
wants_in terms talk (Queued from) now = wants.Slot
wants_in terms talk (Seeking lost) now =
    if has_waited talk.last_try now terms.limits.delay then wants.Try else wants.Early
wants_in terms talk _ now = wants.Frame

abbrev pub wants_of : Terms → Talk → ℕ → Wants
wants_of terms talk now = wants_in terms talk talk.phase now
