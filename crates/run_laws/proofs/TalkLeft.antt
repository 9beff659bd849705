-- A conversation gains no call: those that are left at a step were left before it.
use Rattle.std.proofs.Common.{◌≡◌, Bool, true, false, ℕ, ◌+◌, ◌≤◌, length, drop, List, [], ◌∷◌, Option, Some, None, if◌then◌else◌, arith, le_refl}
use Rattle.std.specs.Prelude.{◌-◌, nat_le, not, ◌&&◌, Ok, Err}
use Rattle.std.specs.Str.{bytes_eq}
use Rattle.std.proofs.lemmas.List.{length-drop}
use Rattle.svc_values.specs.declared.call.Call.{Call}
use Rattle.svc_values.specs.declared.answer.Answer.{Answer}
use Rattle.svc_values.specs.declared.answer.Answer.TheVariants as answer
use Rattle.svc_values.specs.declared.draw.Draw.{Draw}
use Rattle.svc_values.specs.declared.entry.Ltxid.{Ltxid}
use Rattle.svc_values.specs.declared.frame.Up.{Up}
use Rattle.svc_values.specs.declared.frame.Ahead.TheVariants as ahead
use Rattle.svc_values.specs.declared.frame.Down.{Down}
use Rattle.svc_values.specs.declared.frame.Down.TheVariants as down
use Rattle.request_bounds.specs.declared.rule.Why.{Why}
use Rattle.request_bounds.specs.declared.rule.Why.TheVariants as why
use Rattle.call_recorder.specs.declared.recorded.Recorded.{Recorded}
use Rattle.client_model.specs.declared.act.Shown.{Shown}
use Rattle.client_model.specs.declared.act.Failed.TheVariants.{Disabled, Retries, PoolWait}
use Rattle.client_model.specs.declared.input.Input.{Input}
use Rattle.client_model.specs.declared.input.Input.TheVariants.{Start, Waiting, Lent, Opened, TryFailed, Took, Gone}
use Rattle.client_model.specs.meaning.Told.{over, completed_on, repeated, is_late, uncommitted, told_of}
use Rattle.client_model.specs.meaning.Told as told
use Rattle.client_model.specs.meaning.States.{Living, Losing, Asking, Repeating, resumed, next_of}
use Rattle.client_model.specs.meaning.Verifying.{verified_more, mismatch, submitted}
use Rattle.client_model.specs.meaning.Terms.{Terms, Talk, Phase, Queued, Seeking, Greeting, Asked, Running, Replaying, unsubmitted}
use Rattle.client_model.specs.meaning.Talk.{Step, stands, quiet, fails, with_shown, talk_shown, sends_call, sends_or_ends, next_call, begin_of, on_hello, on_reply, sends_marked, on_compared, on_repeated, after_completed, on_completed, on_told, takes, lost_of, waits_from, with_tried, talk_step}
use Rattle.client_model.specs.meaning.Conversation.{Timed, talk_at}
use Rattle.client_model.specs.Conversation.{talk_after}

few_drop : {A : Type 0} (xs : List A) → length (drop 1 xs) ≤ length xs
few_drop xs = let long : length (drop 1 xs) ≡ length xs - 1 = length-drop 1 xs in omega (arith, long)

module _ (terms : Terms) where
  -- the step leaves no more calls than these
  abbrev Leaves : ℕ → Step → Type 0
  Leaves most step = length step.0.left ≤ most

  next_leaves : (talk : Talk) (state : Living) (alive : Bool) (before : List Up) (shown : Option Shown) (now : ℕ) (next : Option Call) → Leaves (length talk.left) (sends_or_ends terms talk state alive before shown now next)
  next_leaves talk state alive before shown now None = le_refl (length talk.left)
  next_leaves talk state true before shown now (Some call) = le_refl (length talk.left)
  next_leaves talk state false before shown now (Some call) = le_refl (length talk.left)

  marked_leaves : (talk : Talk) (state : Repeating) (alive : Bool) (before : List Up) (now : ℕ) (one : Option Recorded) → Leaves (length talk.left) (sends_marked terms talk state alive before now one)
  marked_leaves talk state alive before now None = next_leaves talk (submitted state) alive before None now (next_call talk)
  marked_leaves talk state alive before now (Some one) = le_refl (length talk.left)

  hello_leaves : (talk : Talk) (lost : Option Losing) (ltxid : Ltxid) (alive : Bool) (now : ℕ) → Leaves (length talk.left) (on_hello terms talk lost ltxid alive now)
  hello_leaves talk None ltxid true now = next_leaves talk (record { track = unsubmitted terms; ltxid = ltxid }) true (begin_of talk ∷ []) None now (next_call talk)
  hello_leaves talk (Some lost) ltxid true now = le_refl (length talk.left)
  hello_leaves talk lost ltxid false now = le_refl (length talk.left)

  reply_leaves : (talk : Talk) (state : Living) (answers : List Answer) (draws : List Draw) (ltxid : Ltxid) (alive : Bool) (now : ℕ) (one : Option Call)
      → Leaves (length talk.left) (on_reply terms talk state answers draws ltxid alive now one)
  reply_leaves talk state answers draws ltxid alive now None = le_refl (length talk.left)
  reply_leaves talk state answers draws ltxid alive now (Some call) =
      let after : Talk = talk_shown terms talk call answers in
      let fewer : length (drop 1 talk.left) ≤ length talk.left = few_drop talk.left in
      let most : Leaves (length (drop 1 talk.left)) (on_reply terms talk state answers draws ltxid alive now (Some call)) =
      next_leaves after (record { track = with_shown terms state.track call answers draws; ltxid = ltxid }) alive [] (Some (record { answers = answers; draws = draws; ltxid = ltxid })) now (next_call after) in
      omega (arith, fewer, most)

  completed_leaves : (talk : Talk) (state : Living) (ended : ℕ) (alive : Bool) (now : ℕ) (one : Option Call) → Leaves (length talk.left) (on_completed terms talk state ended alive now one)
  completed_leaves talk state ended alive now None = le_refl (length talk.left)
  completed_leaves talk state ended alive now (Some call) = by (next_call after)
    where
      after : Talk
      after = talk_shown terms talk call (answer.Committed ∷ [])

      next : Living
      next = record state { track = with_shown terms state.track call (answer.Committed ∷ []) [] }

      shown : Shown
      shown = record { answers = answer.Committed ∷ []; draws = []; ltxid = state.ltxid }

      gone : (test : Bool) (other : Call)
          → Leaves (length talk.left) (if test then fails after alive (Some shown) (Disabled (why.StateLost next.track.call) ended) else sends_call terms after next alive (begin_of after ∷ []) (Some shown) now other)
      gone true other = few_drop talk.left
      gone false other =
          let fewer : length (drop 1 talk.left) ≤ length talk.left = few_drop talk.left in
          let most : Leaves (length (drop 1 talk.left)) (sends_call terms after next alive (begin_of after ∷ []) (Some shown) now other) = next_leaves after next alive (begin_of after ∷ []) (Some shown) now (Some other) in
          omega (arith, fewer, most)

      by : (found : Option Call) → Leaves (length talk.left) (after_completed terms after next ended alive shown now found)
      by None = few_drop talk.left
      by (Some other) = gone (next.track.set_shown && not terms.rules.keeps) other

  told_leaves : (talk : Talk) (asking : Asking) (alive : Bool) (now : ℕ) (committed completed : Bool) → Leaves (length talk.left) (on_told terms talk asking alive now (told_of asking committed completed terms.limits now))
  told_leaves talk asking alive now true true = completed_leaves talk (resumed (completed_on asking)) asking.event alive now (next_call talk)
  told_leaves talk asking alive now true false = le_refl (length talk.left)
  told_leaves talk asking alive now false other = by asking.track.why
    where
      started_or : (many late : Bool) → Leaves (length talk.left) (on_told terms talk asking alive now (if many then told.Replays (over asking) else (if late then told.Late (over asking) else told.Replay (repeated asking))))
      started_or true late = le_refl (length talk.left)
      started_or false true = le_refl (length talk.left)
      started_or false false = marked_leaves talk (repeated asking) alive (begin_of talk ∷ []) now (next_of (repeated asking))

      by : (reason : Option Why) → Leaves (length talk.left) (on_told terms talk asking alive now (uncommitted reason asking terms.limits now))
      by (Some reason) = le_refl (length talk.left)
      by None = started_or (nat_le terms.limits.replays asking.track.replays) (is_late terms.limits.timeout asking.track.first now)

  repeated_leaves : (talk : Talk) (state : Repeating) (answers : List Answer) (draws : List Draw) (ltxid : Ltxid) (alive : Bool) (now : ℕ) (one : Option Recorded)
      → Leaves (length talk.left) (on_repeated terms talk state answers draws ltxid alive now one)
  repeated_leaves talk state answers draws ltxid alive now None = le_refl (length talk.left)
  repeated_leaves talk state answers draws ltxid alive now (Some one) = by (bytes_eq one.seen.digest (terms.digest answers))
    where
      by : (same : Bool) → Leaves (length talk.left) (on_compared terms talk alive now (if same then Ok (verified_more state) else Err (mismatch state one.seen.digest (terms.digest answers))))
      by true = marked_leaves talk (verified_more state) alive [] now (next_of (verified_more state))
      by false = le_refl (length talk.left)

  takes_leaves : (talk : Talk) (phase : Phase) (frame : Down) (alive : Bool) (now : ℕ) → Leaves (length talk.left) (takes terms talk phase frame alive now)
  takes_leaves talk phase down.Blocked alive now = le_refl (length talk.left)
  takes_leaves talk phase (down.Refused cause) alive now = le_refl (length talk.left)
  takes_leaves talk (Greeting lost) (down.Hello ltxid) alive now = hello_leaves talk lost ltxid alive now
  takes_leaves talk (Asked asking) (down.OutcomeIs committed completed) alive now = told_leaves talk asking alive now committed completed
  takes_leaves talk (Asked asking) (down.OutcomeRefused ahead.Forgotten horizon) alive now = le_refl (length talk.left)
  takes_leaves talk (Running state) (down.Reply answers draws ltxid) alive now = reply_leaves talk state answers draws ltxid alive now (next_call talk)
  takes_leaves talk (Replaying state) (down.Reply answers draws ltxid) alive now = repeated_leaves talk state answers draws ltxid alive now (next_of state)
  takes_leaves talk phase frame alive now = le_refl (length talk.left)

  step_leaves : (talk : Talk) (input : Input) (now : ℕ) → Leaves (length talk.left) (talk_step terms talk input now)
  step_leaves talk Start now = le_refl (length talk.left)
  step_leaves talk Waiting now = by (nat_le terms.limits.wait (now - waits_from talk.phase now))
    where
      by : (long : Bool) → Leaves (length talk.left) (if long then fails talk false None (PoolWait (waits_from talk.phase now) now) else (stands talk (Queued (Some (waits_from talk.phase now))), quiet))
      by true = le_refl (length talk.left)
      by false = le_refl (length talk.left)
  step_leaves talk (Lent connection ltxid) now = hello_leaves talk None ltxid true now
  step_leaves talk (Opened connection) now = le_refl (length talk.left)
  step_leaves talk TryFailed now = by (nat_le terms.limits.retries (talk.tries + 1))
    where
      by : (many : Bool) → Leaves (length talk.left) (if many then fails (with_tried talk now) false None (Retries (talk.tries + 1)) else (stands (with_tried talk now) (Seeking (lost_of talk.phase)), quiet))
      by true = le_refl (length talk.left)
      by false = le_refl (length talk.left)
  step_leaves talk (Took frame alive) now = takes_leaves talk talk.phase frame alive now
  step_leaves talk (Gone event) now = le_refl (length talk.left)

  -- behind these inputs
  pub talk_leaves : (talk : Talk) (inputs : List Timed) → length (talk_after terms talk inputs).left ≤ length talk.left
  talk_leaves talk [] = le_refl (length talk.left)
  talk_leaves talk (one ∷ inputs) =
      let first : Leaves (length talk.left) (talk_step terms talk one.0 one.1) = step_leaves talk one.0 one.1 in
      let rest : length (talk_after terms (talk_at terms talk one) inputs).left ≤ length (talk_at terms talk one).left = talk_leaves (talk_at terms talk one) inputs in
      omega (arith, first, rest)
