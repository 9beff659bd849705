-- Which call a client shows: that of the reply that it takes, or the lost one, where the outcome
-- says that it was committed and completed.
use Rattle.std.proofs.Common.{◌≡◌, refl, sym, ap, ◌∙◌, Bool, true, false, ℕ, ◌-◌, ◌&&◌, List, [], ◌∷◌, Option, Some, None, if◌then◌else◌}
use Rattle.std.specs.Prelude.{not, nat_le, ◌+◌}
use Rattle.svc_values.specs.declared.answer.Answer.{Answer}
use Rattle.svc_values.specs.declared.answer.Answer.TheVariants as answer
use Rattle.svc_values.specs.declared.call.Call.{Call}
use Rattle.svc_values.specs.declared.draw.Draw.{Draw}
use Rattle.svc_values.specs.declared.entry.Ltxid.{Ltxid}
use Rattle.svc_values.specs.declared.frame.Up.{Up}
use Rattle.svc_values.specs.declared.frame.Ahead.TheVariants as ahead
use Rattle.svc_values.specs.declared.frame.Down.{Down}
use Rattle.svc_values.specs.declared.frame.Down.TheVariants as down
use Rattle.request_bounds.specs.declared.rule.Why.{Why}
use Rattle.request_bounds.specs.declared.rule.Why.TheVariants as why
use Rattle.client_model.specs.declared.act.Failed.TheVariants.{Disabled, Retries, PoolWait}
use Rattle.client_model.specs.declared.act.Shown.{Shown}
use Rattle.client_model.specs.declared.input.Input.{Input}
use Rattle.client_model.specs.declared.input.Input.TheVariants.{Start, Waiting, Lent, Opened, TryFailed, Took, Gone}
use Rattle.client_model.specs.meaning.States.{Living, Losing, Asking, next_of, resumed}
use Rattle.client_model.specs.meaning.Told.{over, completed_on, repeated, is_late, uncommitted, told_of}
use Rattle.client_model.specs.meaning.Told as told
use Rattle.client_model.specs.meaning.Terms.{Terms, Talk, Phase, Queued, Seeking, Greeting, Asked, Running, Replaying, unsubmitted}
use Rattle.client_model.specs.meaning.Talk.{stands, quiet, fails, with_tried, lost_of, talk_shown, with_shown, sends_call, sends_or_ends, next_call, begin_of, on_hello, on_reply, after_completed, on_completed, on_told, takes, on_waiting, waits_from, on_try_failed, talk_step}
use Rattle.invariant_laws.proofs.rows.RowCourses.{marked_shows, replay_shows}

-- why it is shown
pub data ShowsBy (phase : Phase) (frame : Down) (shown : Shown) : Type 0 where
  ByReply : (state : Living) → phase ≡ Running state → frame ≡ down.Reply shown.answers shown.draws shown.ltxid → ShowsBy phase frame shown
  ByOutcome : (asking : Asking) → phase ≡ Asked asking → frame ≡ down.OutcomeIs true true → shown.answers ≡ answer.Committed ∷ [] → ShowsBy phase frame shown

none_shown : {A : Type 0} (found : Option Shown) (shown : Shown) → found ≡ None → found ≡ Some shown → A
none_shown found shown none is = absurd (let e : None ≡ Some shown = sym none ∙ is in let never : ⊥ = cc in never)

same_shown : (found : Option Shown) (one shown : Shown) → found ≡ Some one → found ≡ Some shown → one ≡ shown
same_shown found one shown mine is = let e : Some one ≡ Some shown = sym mine ∙ is in let same : one ≡ shown = cc in same

pub next_shows : (terms : Terms) (talk : Talk) (state : Living) (alive : Bool) (before : List Up) (shown : Option Shown) (now : ℕ) (next : Option Call) → (sends_or_ends terms talk state alive before shown now next).1.shown ≡ shown
next_shows terms talk state true before shown now None = refl
next_shows terms talk state false before shown now None = refl
next_shows terms talk state true before shown now (Some call) = refl
next_shows terms talk state false before shown now (Some call) = refl

hello_shows : (terms : Terms) (talk : Talk) (lost : Option Losing) (ltxid : Ltxid) (alive : Bool) (now : ℕ) → (on_hello terms talk lost ltxid alive now).1.shown ≡ None
hello_shows terms talk lost ltxid false now = refl
hello_shows terms talk None ltxid true now = next_shows terms talk (record { track = unsubmitted terms; ltxid = ltxid }) true (begin_of talk ∷ []) None now (next_call talk)
hello_shows terms talk (Some lost) ltxid true now = refl

reply_shows : (terms : Terms) (talk : Talk) (state : Living) (answers : List Answer) (draws : List Draw) (ltxid : Ltxid) (alive : Bool) (now : ℕ) (shown : Shown) (call : Option Call) → (on_reply terms talk state answers draws ltxid alive now call).1.shown ≡ Some shown
    → down.Reply answers draws ltxid ≡ down.Reply shown.answers shown.draws shown.ltxid
reply_shows terms talk state answers draws ltxid alive now shown None is = none_shown _ shown refl is
reply_shows terms talk state answers draws ltxid alive now shown (Some call) is =
    let after : Talk = talk_shown terms talk call answers in
    let one : Shown = record { answers = answers; draws = draws; ltxid = ltxid } in
    ap (λ (s : Shown). down.Reply s.answers s.draws s.ltxid)
    (same_shown (on_reply terms talk state answers draws ltxid alive now (Some call)).1.shown one shown (next_shows terms after (record { track = with_shown terms state.track call answers draws; ltxid = ltxid }) alive [] (Some one) now (next_call after)) is)

pub behind_shows : (terms : Terms) (talk : Talk) (state : Living) (event : ℕ) (alive : Bool) (shown : Shown) (now : ℕ) (next : Option Call) → (after_completed terms talk state event alive shown now next).1.shown ≡ Some shown
behind_shows terms talk state event true shown now None = refl
behind_shows terms talk state event false shown now None = refl
behind_shows terms talk state event alive shown now (Some call) = by (state.track.set_shown && not terms.rules.keeps) alive
  where
    by : (gone alive : Bool) → (if gone then fails talk alive (Some shown) (Disabled (why.StateLost state.track.call) event) else sends_call terms talk state alive (begin_of talk ∷ []) (Some shown) now call).1.shown ≡ Some shown
    by true true = refl
    by true false = refl
    by false true = refl
    by false false = refl

-- an outcome shows a commit without a value
completed_is : (terms : Terms) (talk : Talk) (state : Living) (event : ℕ) (alive : Bool) (now : ℕ) (shown : Shown) (call : Option Call) → (on_completed terms talk state event alive now call).1.shown ≡ Some shown
    → record { answers = answer.Committed ∷ []; draws = []; ltxid = state.ltxid } ≡ shown
completed_is terms talk state event alive now shown None is = none_shown _ shown refl is
completed_is terms talk state event alive now shown (Some call) is =
    let after : Talk = talk_shown terms talk call (answer.Committed ∷ []) in
    let next : Living = record state { track = with_shown terms state.track call (answer.Committed ∷ []) [] } in
    let one : Shown = record { answers = answer.Committed ∷ []; draws = []; ltxid = state.ltxid } in
    same_shown (on_completed terms talk state event alive now (Some call)).1.shown one shown (behind_shows terms after next event alive one now (next_call after)) is

pub completed_gives : (terms : Terms) (talk : Talk) (asking : Asking) (alive : Bool) (now : ℕ) (shown : Shown) → (takes terms talk (Asked asking) (down.OutcomeIs true true) alive now).1.shown ≡ Some shown → shown.draws ≡ []
completed_gives terms talk asking alive now shown is = ap (λ (s : Shown). s.draws) (sym (completed_is terms talk (resumed (completed_on asking)) asking.event alive now shown (next_call talk) is))

uncommitted_shows : (terms : Terms) (talk : Talk) (asking : Asking) (alive : Bool) (now : ℕ) (reason : Option Why) → (on_told terms talk asking alive now (uncommitted reason asking terms.limits now)).1.shown ≡ None
uncommitted_shows terms talk asking alive now (Some reason) = refl
uncommitted_shows terms talk asking alive now None = by (nat_le terms.limits.replays asking.track.replays) (is_late terms.limits.timeout asking.track.first now)
  where
    by : (many late : Bool) → (on_told terms talk asking alive now (if many then told.Replays (over asking) else (if late then told.Late (over asking) else told.Replay (repeated asking)))).1.shown ≡ None
    by true late = refl
    by false true = refl
    by false false = marked_shows terms talk (repeated asking) alive (begin_of talk ∷ []) now (next_of (repeated asking))

told_shows : (terms : Terms) (talk : Talk) (asking : Asking) (committed completed alive : Bool) (now : ℕ) (shown : Shown) → (on_told terms talk asking alive now (told_of asking committed completed terms.limits now)).1.shown ≡ Some shown
    → (down.OutcomeIs committed completed ≡ down.OutcomeIs true true) × (shown.answers ≡ answer.Committed ∷ [])
told_shows terms talk asking true true alive now shown is = (refl, ap (λ (s : Shown). s.answers) (sym (completed_is terms talk (resumed (completed_on asking)) asking.event alive now shown (next_call talk) is)))
told_shows terms talk asking true false alive now shown is = none_shown _ shown refl is
told_shows terms talk asking false completed alive now shown is = none_shown _ shown (uncommitted_shows terms talk asking alive now asking.track.why) is

pub taken_shows : (terms : Terms) (talk : Talk) (phase : Phase) (frame : Down) (alive : Bool) (now : ℕ) (shown : Shown) → (takes terms talk phase frame alive now).1.shown ≡ Some shown → ShowsBy phase frame shown
taken_shows terms talk phase down.Blocked alive now shown is = none_shown _ shown refl is
taken_shows terms talk phase (down.Refused cause) alive now shown is = none_shown _ shown refl is
taken_shows terms talk (Greeting lost) (down.Hello ltxid) alive now shown is = none_shown _ shown (hello_shows terms talk lost ltxid alive now) is
taken_shows terms talk (Asked asking) (down.OutcomeIs committed completed) alive now shown is =
    let told_so = told_shows terms talk asking committed completed alive now shown is in ByOutcome asking refl told_so.0 told_so.1
taken_shows terms talk (Asked asking) (down.OutcomeRefused ahead.Forgotten horizon) alive now shown is = none_shown _ shown refl is
taken_shows terms talk (Running state) (down.Reply answers draws ltxid) alive now shown is = ByReply state refl (reply_shows terms talk state answers draws ltxid alive now shown (next_call talk) is)
taken_shows terms talk (Replaying state) (down.Reply answers draws ltxid) alive now shown is = none_shown _ shown (replay_shows terms talk state (down.Reply answers draws ltxid) alive now) is
taken_shows terms talk phase frame alive now shown is = none_shown _ shown refl is

waited_shows : (terms : Terms) (talk : Talk) (from now : ℕ) → (on_waiting terms talk from now).1.shown ≡ None
waited_shows terms talk from now = by (nat_le terms.limits.wait (now - from))
  where
    by : (long : Bool) → (if long then fails talk false None (PoolWait from now) else (stands talk (Queued (Some from)), quiet)).1.shown ≡ None
    by true = refl
    by false = refl

tried_shows : (terms : Terms) (talk : Talk) (now : ℕ) → (on_try_failed terms talk now).1.shown ≡ None
tried_shows terms talk now = by (nat_le terms.limits.retries (talk.tries + 1))
  where
    by : (many : Bool) → (if many then fails (with_tried talk now) false None (Retries (talk.tries + 1)) else (stands (with_tried talk now) (Seeking (lost_of talk.phase)), quiet)).1.shown ≡ None
    by true = refl
    by false = refl

-- a frame was taken then
pub record IsTaken (input : Input) : Type 0 where
  pub frame : Down
  pub alive : Bool
  pub is : input ≡ Took frame alive

pub shows_taken : (terms : Terms) (talk : Talk) (now : ℕ) (shown : Shown) (input : Input) → (talk_step terms talk input now).1.shown ≡ Some shown → IsTaken input
shows_taken terms talk now shown (Took frame alive) is = record { frame = frame; alive = alive; is = refl }
shows_taken terms talk now shown Start is = none_shown _ shown refl is
shows_taken terms talk now shown Waiting is = none_shown _ shown (waited_shows terms talk (waits_from talk.phase now) now) is
shows_taken terms talk now shown (Lent connection ltxid) is = none_shown _ shown (hello_shows terms talk None ltxid true now) is
shows_taken terms talk now shown (Opened connection) is = none_shown _ shown refl is
shows_taken terms talk now shown TryFailed is = none_shown _ shown (tried_shows terms talk now) is
shows_taken terms talk now shown (Gone event) is = none_shown _ shown refl is
