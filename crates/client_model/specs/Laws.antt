-- What holds of a client over every list of inputs that may come, whoever answers it.
use Rattle.std.specs.Prelude.{◌≡◌, ◌≢◌, ◌⊎◌, ◌≤◌, ◌<◌, ℕ, ◌+◌, ◌-◌, Bool, true, false, IsSome, List, [], ◌∷◌, length, map, take, slice_get, Option, Some, None, if◌then◌else◌}
use Rattle.std.specs.List.{last_or}
use Rattle.svc_values.specs.declared.value.Value.{Value}
use Rattle.svc_values.specs.declared.answer.Answer.{Answer}
use Rattle.svc_values.specs.declared.draw.Draw.{Draw}
use Rattle.svc_values.specs.declared.call.Call.{Call}
use Rattle.svc_values.specs.declared.entry.Ltxid.{Ltxid}
use Rattle.svc_values.specs.declared.frame.Up.{Up}
use Rattle.svc_values.specs.declared.frame.Up.TheVariants as up
use Rattle.svc_values.specs.declared.frame.Ahead.TheVariants as ahead
use Rattle.svc_values.specs.declared.frame.Down.{Down}
use Rattle.svc_values.specs.declared.frame.Down.TheVariants as down
use Rattle.request_bounds.specs.declared.rule.Why.{Why}
use Rattle.request_bounds.specs.declared.rule.Why.TheVariants as why
use Rattle.call_recorder.specs.declared.recorded.Recorded.{Recorded}
use Rattle.client_model.specs.declared.track.Track.{Track}
use Rattle.client_model.specs.declared.input.Input.{Input}
use Rattle.client_model.specs.declared.input.Input.TheVariants.{Waiting, TryFailed, Took}
use Rattle.client_model.specs.declared.act.Shown.{Shown}
use Rattle.client_model.specs.declared.act.Hold.{Hold}
use Rattle.client_model.specs.declared.act.Hold.TheVariants.{Keep, GiveBack, Drop}
use Rattle.client_model.specs.declared.act.Failed.{Failed}
use Rattle.client_model.specs.declared.act.Failed.TheVariants.{Disabled, Mismatch, Incomplete, Retries, ReplayTimeout, Replays, PoolWait, Unknown, BadPeer}
use Rattle.client_model.specs.meaning.Terms.{Terms, Phase, Seeking, Greeting, Asked, Running, Replaying, requested}
use Rattle.svc_values.specs.meaning.SettingsList.{with_sets}
use Rattle.client_model.specs.meaning.Talk.{tag_of}
use Rattle.client_model.specs.meaning.Conversation.{Timed, Done}
use Rattle.client_model.specs.Conversation.{steps_of, talk_after, MayCome}
use Rattle.client_model.specs.meaning.Account.{Account, Outcome, Answered, Session, unheard, before_sends, after_step, account_of}
use Rattle.client_model.specs.Account.{set_shown, count_uncommitted}
use Rattle.client_model.specs.Reasons.{Kind, rules_of, reason_of}
use Rattle.client_model.specs.meaning.Tried.{trying_of}
use Rattle.client_model.specs.Tried.{sent_in}

-- P, at each step, of what is known before its frames go out
abbrev pub EachStep : (Account → Done → Type 0) → Terms → List Call → Account → List Done → Type 0
EachStep P terms calls account [] = Unit {0}
EachStep P terms calls account (done ∷ steps) = P (before_sends terms calls account done) done
    × EachStep P terms calls (after_step terms calls account done) steps

-- at each step of every conversation
abbrev pub Always : (Terms → List (List ℕ × Value) → List Call → Account → Done → Type 0) → Type 0
Always P =
    (terms : Terms) (settings : List (List ℕ × Value)) (calls : List Call) (inputs : List Timed)
    → MayCome terms (requested settings calls) false inputs
    → EachStep (P terms settings calls) terms calls unheard
    (steps_of terms (requested settings calls) inputs)

-- REPLAYS -----------------------------------------------------------------------------------------

-- the digests of these calls
abbrev pub digests_of : List Recorded → List (List ℕ)
digests_of calls = map (λ one. one.seen.digest) calls

-- A session answered for the identifier that was held, and unmarked calls follow on it, the next
-- one at this index. Uncommitted: all recorded calls were repeated there, each answered with its
-- recorded digest, and the lost call comes first. Committed: it was completed, and the one behind
-- it comes first.
pub record IsAnswered (next : ℕ) (session : Session) (answered : Answered) : Type 0 where
  pub asked : answered.held ≡ Some answered.outcome.ltxid
  pub verified : answered.outcome.committed ≡ false
      → session.repeated ≡ digests_of answered.recorded
  pub lost_call : answered.outcome.committed ≡ false → next ≡ answered.lost + session.sent
  pub completed : answered.outcome.committed ≡ true → answered.outcome.completed ≡ true
  pub next_call : answered.outcome.committed ≡ true → next ≡ answered.lost + session.sent + 1

-- the request began first on this session, or it answered for the lost one
abbrev pub FollowsOutcome : ℕ → Session → Type 0
FollowsOutcome next session = (session.first ≡ true) ⊎ ((answered : Answered)
    × (session.answered ≡ Some answered) × IsAnswered next session answered)

-- An unmarked call is the one behind those shown, and on a later session than the first the lost
-- one was answered for.
pub record MaySend (calls : List Call) (heard : Account) (call : Call) : Type 0 where
  pub in_order : slice_get calls (length heard.shown) ≡ Some call
  pub answered : heard.begun ≡ true → FollowsOutcome (length heard.shown) heard.session

-- each unmarked call of these frames is such
abbrev pub MaySendAll : List Call → Account → List Up → Type 0
MaySendAll calls heard [] = Unit {0}
MaySendAll calls heard (up.Call false kept call ∷ frames) = MaySend calls heard call
    × MaySendAll calls heard frames
MaySendAll calls heard (_ ∷ frames) = MaySendAll calls heard frames

abbrev pub ReplaysOnlyVerified : Type 0
ReplaysOnlyVerified = Always (λ terms settings calls heard done. MaySendAll calls heard
    done.act.send)

-- CAUSES ------------------------------------------------------------------------------------------

abbrev pub last_outcome : Account → Option Outcome
last_outcome heard = last_or None heard.outcomes

-- this outcome came for the identifier that was asked just before, so it is the last one told
pub record Says (heard : Account) (input : Input) (committed completed : Bool) : Type 0 where
  pub ltxid : Ltxid
  pub alive : Bool
  pub taken : input ≡ Took (down.OutcomeIs committed completed) alive
  pub asked : heard.last ≡ Some (up.Outcome ltxid)
  pub last : last_outcome heard ≡ Some (record {
    ltxid = ltxid;
    committed = committed;
    completed = completed;
  })

abbrev pub SaysUncommitted : Account → Input → Type 0
SaysUncommitted heard input = (completed : Bool) × Says heard input false completed

-- committed but not completed, for this identifier
pub record IsUnfinished (heard : Account) (input : Input) (ltxid : Ltxid) : Type 0 where
  pub outcome : Says heard input true false
  pub is_ltxid : outcome.ltxid ≡ ltxid

-- the frames that may answer the last one that went out; those by which a server ends a connection
-- may always come
abbrev pub is_expected : Option Up → Down → Bool
is_expected last down.Blocked = true
is_expected last (down.Refused cause) = true
is_expected (Some up.Connect) (down.Hello ltxid) = true
is_expected (Some (up.Outcome x)) (down.OutcomeIs committed completed) = true
is_expected (Some (up.Outcome x)) (down.OutcomeRefused ahead.Forgotten horizon) = true
is_expected (Some (up.Call replay kept call)) (down.Reply answers draws ltxid) = true
is_expected _ _ = false

-- this event had ended the connection of the session for which the outcome was asked
pub record WasEndedBy (heard : Account) (event : ℕ) : Type 0 where
  pub answered : Answered
  pub is_answered : heard.session.answered ≡ Some answered
  pub ended : answered.event ≡ Some event

-- an outcome shows a call, another one follows, a `set` was shown, and no rule keeps its settings
pub record LosesState (terms : Terms) (calls : List Call) (heard : Account) (input : Input)
    (index : ℕ) : Type 0 where
  pub outcome : Says heard input true true
  pub follows : index ≡ length heard.shown
  pub exists : IsSome (slice_get calls index)
  pub is_set : set_shown calls heard ≡ true
  pub unkept : terms.rules.keeps ≡ false

-- uncommitted, and this reason stood
pub record HadReason (heard : Account) (input : Input) (reason : Why) : Type 0 where
  pub outcome : SaysUncommitted heard input
  pub stood : heard.reason ≡ Some reason

abbrev pub IsStateLost : Why → ℕ → Type 0
IsStateLost reason index = reason ≡ why.StateLost index

-- A reply to a marked call has the digest `now`, and the answers that were shown at its index had
-- `seen`.
pub record Differed (terms : Terms) (heard : Account) (input : Input) (index : ℕ)
    (seen now : List ℕ) : Type 0 where
  pub taken : (answers : List Answer) × (draws : List Draw) × (ltxid : Ltxid) × (alive : Bool)
      × (input ≡ Took (down.Reply answers draws ltxid) alive) × (terms.digest answers ≡ now)
  pub shown : (one : Shown) × (slice_get heard.shown index ≡ Some one)
      × (terms.digest one.answers ≡ seen)
  pub marked : (kept : List Draw) × (one : Call) × (heard.last ≡ Some (up.Call true kept one))
  pub repeated : last_or None heard.session.repeated ≡ Some now
  pub place : index + length heard.since_purge + 1 ≡ length heard.shown
      + length heard.session.repeated
  pub differ : seen ≢ now

pub record HadReplays (terms : Terms) (heard : Account) (input : Input) (limit : ℕ) : Type 0 where
  pub outcome : SaysUncommitted heard input
  pub no_reason : heard.reason ≡ None
  pub is_limit : limit ≡ terms.limits.replays
  pub many : count_uncommitted heard ≡ limit + 1

pub record WasLate (terms : Terms) (heard : Account) (input : Input)
    (tick first ready : ℕ) : Type 0 where
  pub outcome : SaysUncommitted heard input
  pub no_reason : heard.reason ≡ None
  pub few : count_uncommitted heard ≤ terms.limits.replays
  pub submitted : heard.first ≡ Some first
  pub is_now : ready ≡ tick
  pub late : terms.limits.timeout < ready - first

pub record FailedTries (terms : Terms) (heard : Account) (input : Input) (tries : ℕ) : Type 0 where
  pub failed : input ≡ TryFailed
  pub in_a_row : tries ≡ heard.tries
  pub many : terms.limits.retries ≤ tries
  pub none_before : 1 ≤ terms.limits.retries → tries ≡ terms.limits.retries

pub record Waited (terms : Terms) (heard : Account) (input : Input)
    (tick first now : ℕ) : Type 0 where
  pub waits : input ≡ Waiting
  pub no_slot : heard.slot ≡ false
  pub is_first : heard.waits ≡ Some first
  pub is_now : now ≡ tick
  pub long : terms.limits.wait ≤ now - first

pub record Unexpected (heard : Account) (input : Input) (tag : ℕ) : Type 0 where
  pub frame : Down
  pub alive : Bool
  pub taken : input ≡ Took frame alive
  pub is_tag : tag ≡ tag_of frame
  pub unexpected : is_expected heard.last frame ≡ false

-- the lost identifier was asked, and the server has forgotten it
pub record IsForgotten (heard : Account) (input : Input) (ltxid : Ltxid) : Type 0 where
  pub horizon : ℕ
  pub alive : Bool
  pub taken : input ≡ Took (down.OutcomeRefused ahead.Forgotten horizon) alive
  pub asked : heard.last ≡ Some (up.Outcome ltxid)
  pub held : heard.held ≡ Some ltxid

-- the cause of each error, at an input and its tick
abbrev pub IsCaused : Terms → List Call → Account → Input → ℕ → Failed → Type 0
IsCaused terms calls heard input tick (Retries tries) = FailedTries terms heard input tries
IsCaused terms calls heard input tick (Incomplete ltxid) = IsUnfinished heard input ltxid
IsCaused terms calls heard input tick (Disabled reason event) =
    WasEndedBy heard event × (((index : ℕ) × IsStateLost reason index
    × LosesState terms calls heard input index) ⊎ HadReason heard input reason)
IsCaused terms calls heard input tick (Replays limit event) = WasEndedBy heard event
    × HadReplays terms heard input limit
IsCaused terms calls heard input tick (ReplayTimeout first ready) =
    WasLate terms heard input tick first ready
IsCaused terms calls heard input tick (Mismatch index seen now) =
    Differed terms heard input index seen now
IsCaused terms calls heard input tick (PoolWait first now) = Waited terms heard input tick first now
IsCaused terms calls heard input tick (Unknown ltxid) = IsForgotten heard input ltxid
IsCaused terms calls heard input tick (BadPeer tag) = Unexpected heard input tag

abbrev pub HasCause : Terms → List Call → Account → Done → Type 0
HasCause terms calls heard done = (failed : Failed) → done.act.failed ≡ Some failed
    → IsCaused terms calls heard done.input done.now failed

-- where a cause holds its error is shown
abbrev pub FailsWhere : Terms → List Call → Account → Done → Type 0
FailsWhere terms calls heard done = (failed : Failed)
    → IsCaused terms calls heard done.input done.now failed → done.act.failed ≡ Some failed

abbrev pub FailsAtCause : Type 0
FailsAtCause = Always (λ terms settings calls heard done. FailsWhere terms calls heard done)

-- no two errors have their causes at one step
abbrev pub HasOneCause : Type 0
HasOneCause =
    (terms : Terms) (calls : List Call) (heard : Account) (input : Input) (tick : ℕ)
    (failed other : Failed)
    → IsCaused terms calls heard input tick failed → IsCaused terms calls heard input tick other
    → failed ≡ other

abbrev pub FailsForCause : Type 0
FailsForCause = Always (λ terms settings calls heard done. HasCause terms calls heard done)

-- SETTINGS ----------------------------------------------------------------------------------------

-- the request's settings, and under a rule that keeps settings every `set` that was shown before
-- the last purge on them
abbrev pub settings_known : Terms → List (List ℕ × Value) → List Call → Account
    → List (List ℕ × Value)
settings_known terms settings calls heard =
    if terms.rules.keeps then with_sets settings (take heard.purged calls) else settings

abbrev pub BegunWith : List (List ℕ × Value) → List Up → Type 0
BegunWith known [] = Unit {0}
BegunWith known (up.Begin settings ∷ frames) = (settings ≡ known) × BegunWith known frames
BegunWith known (_ ∷ frames) = BegunWith known frames

abbrev pub BeginsKnown : Type 0
BeginsKnown = Always (λ terms settings calls heard done.
    BegunWith (settings_known terms settings calls heard) done.act.send)

-- OUTCOMES ----------------------------------------------------------------------------------------

-- one outcome more than there may be replays, at most, says uncommitted
abbrev pub FewReplays : Type 0
FewReplays =
    (terms : Terms) (settings : List (List ℕ × Value)) (calls : List Call) (inputs : List Timed)
    → MayCome terms (requested settings calls) false inputs
    → count_uncommitted (account_of terms calls (steps_of terms (requested settings calls) inputs))
    ≤ terms.limits.replays + 1

-- THE TRACK ---------------------------------------------------------------------------------------

-- the track, in the phases that have one
abbrev pub track_of : Phase → Option Track
track_of (Seeking (Some lost)) = Some lost.track
track_of (Greeting (Some lost)) = Some lost.track
track_of (Asked asking) = Some asking.track
track_of (Running state) = Some state.track
track_of (Replaying state) = Some state.track
track_of _ = None

-- a track agrees with what the steps told
pub record IsKept (calls : List Call) (account : Account) (track : Track) : Type 0 where
  pub call : track.call ≡ length account.shown
  pub why : track.why ≡ account.reason
  pub recorded : track.why ≡ None → track.recorder.calls ≡ account.since_purge
  pub replays : track.replays ≡ count_uncommitted account
  pub first : track.first ≡ account.first
  pub set_shown : track.set_shown ≡ set_shown calls account

abbrev pub KeepsWhatIsTold : Type 0
KeepsWhatIsTold =
    (terms : Terms) (settings : List (List ℕ × Value)) (calls : List Call) (inputs : List Timed)
    (track : Track)
    → MayCome terms (requested settings calls) false inputs
    → track_of (talk_after terms (requested settings calls) inputs).phase ≡ Some track
    → IsKept calls (account_of terms calls (steps_of terms (requested settings calls) inputs)) track

-- under each row of the table of rules the reason told is the earliest of the table of reasons
abbrev pub HasTablesReason : Type 0
HasTablesReason =
    (kind : Kind) (terms : Terms) (settings : List (List ℕ × Value)) (calls : List Call)
    (inputs : List Timed)
    → terms.rules ≡ rules_of kind → MayCome terms (requested settings calls) false inputs
    → (account_of terms calls (steps_of terms (requested settings calls) inputs)).reason
    ≡ reason_of kind terms.recorded (steps_of terms (requested settings calls) inputs)

-- SLOTS -------------------------------------------------------------------------------------------

-- What goes with each Hold. Keep: no error. GiveBack: the last reply, and End on the connection.
-- Drop without an error: the last reply came on a dead connection, so nothing goes out. Drop with
-- one: Close, or nothing on a dead connection.
abbrev pub HoldsBy : Hold → Option Failed → List Up → Type 0
HoldsBy Keep failed send = failed ≡ None
HoldsBy GiveBack failed send = (failed ≡ None) × (send ≡ up.End ∷ [])
HoldsBy Drop None send = send ≡ []
HoldsBy Drop (Some failed) send = (send ≡ []) ⊎ (send ≡ up.Close ∷ [])

abbrev pub ReleasesRightly : Type 0
ReleasesRightly = Always (λ terms settings calls heard done. HoldsBy done.act.hold done.act.failed
    done.act.send)

-- TRIED -------------------------------------------------------------------------------------------

-- what is noted as tried is each unmarked call, in order, under the identifier held when it went
-- out
abbrev pub TriesUnderHeld : Type 0
TriesUnderHeld =
    (terms : Terms) (settings : List (List ℕ × Value)) (calls : List Call) (inputs : List Timed)
    → MayCome terms (requested settings calls) false inputs
    → let steps : List Done = steps_of terms (requested settings calls) inputs in
    map (λ one. (one.call, Some one.ltxid)) (trying_of steps).sendings
    ≡ sent_in terms calls unheard [] steps
