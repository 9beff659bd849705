-- What a request wants behind an input: as before, nothing, or what it went by when its connection
-- was gone.
use Rattle.std.proofs.Common.{◌≡◌, refl, ap, Bool, true, false, ℕ, ◌&&◌, List, [], ◌∷◌, Option, Some, None, ◌⊎◌, inl, inr, if◌then◌else◌}
use Rattle.std.specs.Prelude.{not, nat_le, option_map, ◌+◌, ◌-◌, Ok, Err}
use Rattle.std.specs.Str.{bytes_eq}
use Rattle.svc_values.specs.declared.answer.Answer.{Answer}
use Rattle.svc_values.specs.declared.answer.Answer.TheVariants as answer
use Rattle.svc_values.specs.declared.call.Call.{Call}
use Rattle.svc_values.specs.declared.draw.Draw.{Draw}
use Rattle.svc_values.specs.declared.entry.Ltxid.{Ltxid}
use Rattle.svc_values.specs.declared.frame.Up.{Up}
use Rattle.svc_values.specs.declared.frame.Up.TheVariants as up
use Rattle.svc_values.specs.declared.frame.Ahead.TheVariants as ahead
use Rattle.svc_values.specs.declared.frame.Down.{Down}
use Rattle.svc_values.specs.declared.frame.Down.TheVariants as down
use Rattle.call_recorder.specs.declared.recorded.Recorded.{Recorded}
use Rattle.request_bounds.specs.declared.rule.Why.{Why}
use Rattle.request_bounds.specs.declared.rule.Why.TheVariants as why
use Rattle.client_model.specs.declared.act.Failed.TheVariants.{Disabled, Retries, PoolWait}
use Rattle.client_model.specs.declared.act.Act.{Act}
use Rattle.client_model.specs.declared.act.Shown.{Shown}
use Rattle.client_model.specs.declared.input.Input.{Input}
use Rattle.client_model.specs.declared.input.Input.TheVariants.{Start, Waiting, Lent, Opened, TryFailed, Took, Gone}
use Rattle.client_model.specs.meaning.Told as told
use Rattle.client_model.specs.meaning.Told.{over, completed_on, repeated, is_late, uncommitted, told_of}
use Rattle.client_model.specs.meaning.States.{Living, Asking, Repeating, resumed, next_of}
use Rattle.client_model.specs.meaning.Verifying.{verified_more, mismatch, submitted}
use Rattle.client_model.specs.meaning.Terms.{Terms, Talk, Phase, Idle, Unbegun, Queued, Seeking, Greeting, Asked, Running, Replaying, unsubmitted}
use Rattle.client_model.specs.meaning.Talk.{Step, stands, quiet, sending, with_tried, lost_of, on_waiting, waits_from, on_try_failed, talk_step, fails, talk_shown, with_shown, sends_call, sends_or_ends, next_call, begin_of, on_reply, sends_marked, on_compared, on_repeated, after_completed, on_completed, on_told, takes, loses}
use Rattle.world_model.specs.records.Hold.{goes_by}
use Rattle.world_model.specs.Wanted.{wanted_by, wanted_in}
use Rattle.world_model.proofs.Offered.{is_frame}

-- nothing is wanted behind it
abbrev WantsNone : Step → Type 0
WantsNone step = wanted_in step.0.phase ≡ None

no_call : (terms : Terms) (talk : Talk) (state : Living) (alive : Bool) (before : List Up) (shown : Option Shown) (now : ℕ) (call : Call) → WantsNone (sends_call terms talk state alive before shown now call)
no_call terms talk state true before shown now call = refl
no_call terms talk state false before shown now call = refl

no_next : (terms : Terms) (talk : Talk) (state : Living) (alive : Bool) (before : List Up) (shown : Option Shown) (now : ℕ) (next : Option Call) → WantsNone (sends_or_ends terms talk state alive before shown now next)
no_next terms talk state alive before shown now None = refl
no_next terms talk state alive before shown now (Some call) = no_call terms talk state alive before shown now call

no_reply : (terms : Terms) (talk : Talk) (state : Living) (answers : List Answer) (draws : List Draw) (x : Ltxid) (alive : Bool) (now : ℕ) (call : Option Call) → WantsNone (on_reply terms talk state answers draws x alive now call)
no_reply terms talk state answers draws x alive now None = refl
no_reply terms talk state answers draws x alive now (Some call) =
    let after : Talk = talk_shown terms talk call answers in
    no_next terms after (record { track = with_shown terms state.track call answers draws; ltxid = x }) alive [] (Some (record { answers = answers; draws = draws; ltxid = x })) now (next_call after)

no_marked : (terms : Terms) (talk : Talk) (state : Repeating) (alive : Bool) (before : List Up) (now : ℕ) (next : Option Recorded) → WantsNone (sends_marked terms talk state alive before now next)
no_marked terms talk state alive before now None = no_next terms talk (submitted state) alive before None now (next_call talk)
no_marked terms talk state alive before now (Some one) = refl

no_compared : (terms : Terms) (talk : Talk) (state : Repeating) (alive : Bool) (seen answers : List ℕ) (now : ℕ) (test : Bool) → WantsNone (on_compared terms talk alive now (if test then Ok (verified_more state) else Err (mismatch state seen answers)))
no_compared terms talk state alive seen answers now true = no_marked terms talk (verified_more state) alive [] now (next_of (verified_more state))
no_compared terms talk state alive seen answers now false = refl

no_repeated : (terms : Terms) (talk : Talk) (state : Repeating) (answers : List Answer) (draws : List Draw) (x : Ltxid) (alive : Bool) (now : ℕ) (one : Option Recorded) → WantsNone (on_repeated terms talk state answers draws x alive now one)
no_repeated terms talk state answers draws x alive now None = refl
no_repeated terms talk state answers draws x alive now (Some one) = no_compared terms talk state alive one.seen.digest (terms.digest answers) now (bytes_eq one.seen.digest (terms.digest answers))

no_behind : (terms : Terms) (talk : Talk) (state : Living) (event : ℕ) (alive : Bool) (shown : Shown) (now : ℕ) (next : Option Call) → WantsNone (after_completed terms talk state event alive shown now next)
no_behind terms talk state event alive shown now None = refl
no_behind terms talk state event alive shown now (Some call) = by (state.track.set_shown && not terms.rules.keeps)
  where
    by : (gone : Bool) → WantsNone (if gone then fails talk alive (Some shown) (Disabled (why.StateLost state.track.call) event) else sends_call terms talk state alive (begin_of talk ∷ []) (Some shown) now call)
    by true = refl
    by false = no_call terms talk state alive (begin_of talk ∷ []) (Some shown) now call

no_completed : (terms : Terms) (talk : Talk) (state : Living) (event : ℕ) (alive : Bool) (now : ℕ) (call : Option Call) → WantsNone (on_completed terms talk state event alive now call)
no_completed terms talk state event alive now None = refl
no_completed terms talk state event alive now (Some call) =
    let after : Talk = talk_shown terms talk call (answer.Committed ∷ []) in
    no_behind terms after (record state { track = with_shown terms state.track call (answer.Committed ∷ []) [] }) event alive (record { answers = answer.Committed ∷ []; draws = []; ltxid = state.ltxid }) now (next_call after)

no_uncommitted : (terms : Terms) (talk : Talk) (asking : Asking) (alive : Bool) (now : ℕ) (reason : Option Why) → WantsNone (on_told terms talk asking alive now (uncommitted reason asking terms.limits now))
no_uncommitted terms talk asking alive now (Some reason) = refl
no_uncommitted terms talk asking alive now None = by (nat_le terms.limits.replays asking.track.replays) (is_late terms.limits.timeout asking.track.first now)
  where
    by : (many late : Bool) → WantsNone (on_told terms talk asking alive now (if many then told.Replays (over asking) else (if late then told.Late (over asking) else told.Replay (repeated asking))))
    by true late = refl
    by false true = refl
    by false false = no_marked terms talk (repeated asking) alive (begin_of talk ∷ []) now (next_of (repeated asking))

no_told : (terms : Terms) (talk : Talk) (asking : Asking) (alive : Bool) (now : ℕ) (committed completed : Bool) → WantsNone (on_told terms talk asking alive now (told_of asking committed completed terms.limits now))
no_told terms talk asking alive now true true = no_completed terms talk (resumed (completed_on asking)) asking.event alive now (next_call talk)
no_told terms talk asking alive now true false = refl
no_told terms talk asking alive now false completed = no_uncommitted terms talk asking alive now asking.track.why

-- what is wanted stays, and no call is shown, or nothing is wanted
abbrev pub StaysOrNone : Phase → Step → Type 0
StaysOrNone before step = ((wanted_in step.0.phase ≡ wanted_in before) × (step.1.shown ≡ None)) ⊎ (wanted_in step.0.phase ≡ None)

-- so it is at each frame that is taken
pub taken_wants : (terms : Terms) (talk : Talk) (phase : Phase) (frame : Down) (alive : Bool) (now : ℕ) → talk.phase ≡ phase → StaysOrNone phase (takes terms talk phase frame alive now)
taken_wants terms talk phase down.Blocked alive now same = inl (ap wanted_in same, refl)
taken_wants terms talk phase (down.Refused cause) alive now same = inl (ap wanted_in same, refl)
taken_wants terms talk (Greeting lost) (down.Hello x) false now same = inl (refl, refl)
taken_wants terms talk (Greeting None) (down.Hello x) true now same = inr (no_next terms talk (record { track = unsubmitted terms; ltxid = x }) true (begin_of talk ∷ []) None now (next_call talk))
taken_wants terms talk (Greeting (Some lost)) (down.Hello x) true now same = inl (refl, refl)
taken_wants terms talk (Asked asking) (down.OutcomeIs committed completed) alive now same = inr (no_told terms talk asking alive now committed completed)
taken_wants terms talk (Asked asking) (down.OutcomeRefused ahead.Forgotten horizon) alive now same = inr refl
taken_wants terms talk (Running state) (down.Reply answers draws x) alive now same = inr (no_reply terms talk state answers draws x alive now (next_call talk))
taken_wants terms talk (Replaying state) (down.Reply answers draws x) alive now same = inr (no_repeated terms talk state answers draws x alive now (next_of state))
taken_wants terms talk phase frame alive now same = inr refl

-- Where its connection is gone a request wants what it wanted, or what it went by, of that event.
pub gone_wants : (phase : Phase) (event : ℕ) → (wanted_in (loses phase event) ≡ wanted_in phase) ⊎ ((x : Ltxid) × ((goes_by phase ≡ Some x) × (wanted_in (loses phase event) ≡ Some (record { ltxid = x; event = event }))))
gone_wants (Greeting lost) event = inl refl
gone_wants (Asked asking) event = inl refl
gone_wants (Running state) event = inr (state.ltxid, (refl, refl))
gone_wants (Replaying state) event = inr (state.ltxid, (refl, refl))
gone_wants Idle event = inl refl
gone_wants Unbegun event = inl refl
gone_wants (Queued from) event = inl refl
gone_wants (Seeking lost) event = inl refl

-- INPUTS OF NO CONNECTION -------------------------------------------------------------------------

waited_wants : (terms : Terms) (talk : Talk) (from now : ℕ) → wanted_in (on_waiting terms talk from now).0.phase ≡ None
waited_wants terms talk from now = by (nat_le terms.limits.wait (now - from))
  where
    by : (long : Bool) → wanted_in (if long then fails talk false None (PoolWait from now) else (stands talk (Queued (Some from)), quiet)).0.phase ≡ None
    by true = refl
    by false = refl

-- a request that seeks a connection, or has a new one, wants what it lost
seeks_wants : (phase : Phase) (act : Act) (talk : Talk) → act.shown ≡ None → wanted_in talk.phase ≡ option_map wanted_by (lost_of phase) → StaysOrNone phase (talk, act)
seeks_wants (Seeking lost) act talk none is = inl (is, none)
seeks_wants (Greeting lost) act talk none is = inl (is, none)
seeks_wants Idle act talk none is = inr is
seeks_wants Unbegun act talk none is = inr is
seeks_wants (Queued from) act talk none is = inr is
seeks_wants (Asked asking) act talk none is = inr is
seeks_wants (Running state) act talk none is = inr is
seeks_wants (Replaying state) act talk none is = inr is

tried_wants : (terms : Terms) (talk : Talk) (now : ℕ) → StaysOrNone talk.phase (on_try_failed terms talk now)
tried_wants terms talk now = by (nat_le terms.limits.retries (talk.tries + 1))
  where
    by : (many : Bool) → StaysOrNone talk.phase (if many then fails (with_tried talk now) false None (Retries (talk.tries + 1)) else (stands (with_tried talk now) (Seeking (lost_of talk.phase)), quiet))
    by true = inr refl
    by false = seeks_wants talk.phase quiet (stands (with_tried talk now) (Seeking (lost_of talk.phase))) refl refl

pub plain_wants : (terms : Terms) (talk : Talk) (input : Input) (now : ℕ) → is_frame input ≡ false → StaysOrNone talk.phase (talk_step terms talk input now)
plain_wants terms talk Start now plain = inr refl
plain_wants terms talk Waiting now plain = inr (waited_wants terms talk (waits_from talk.phase now) now)
plain_wants terms talk (Lent connection x) now plain = inr (no_next terms talk (record { track = unsubmitted terms; ltxid = x }) true (begin_of talk ∷ []) None now (next_call talk))
plain_wants terms talk (Opened connection) now plain =
    seeks_wants talk.phase (sending (up.Connect ∷ [])) (record talk { tries = 0; phase = Greeting (lost_of talk.phase) }) refl refl
plain_wants terms talk TryFailed now plain = tried_wants terms talk now
plain_wants terms talk (Took frame alive) now plain = absurd (let none : ⊥ = cc in none)
plain_wants terms talk (Gone event) now plain = absurd (let none : ⊥ = cc in none)
