-- A request that asks for an outcome holds the identifier that came with its session, by the scan
-- of its steps; and what it is told where it sends a call.
use Rattle.std.proofs.Common.{◌≡◌, refl, ap, ◌∙◌, Bool, true, false, ℕ, ◌-◌, ◌+◌, ◌&&◌, fold, List, [], ◌∷◌, Option, Some, None, ◌⊎◌, inl, inr, if◌then◌else◌}
use Rattle.std.specs.Prelude.{not, nat_le, Ok, Err}
use Rattle.std.specs.List.{list_any}
use Rattle.std.specs.Option.{option_or}
use Rattle.std.specs.Str.{bytes_eq}
use Rattle.svc_values.specs.declared.answer.Answer.{Answer}
use Rattle.svc_values.specs.declared.answer.Answer.TheVariants as answer
use Rattle.svc_values.specs.declared.call.Call.{Call}
use Rattle.svc_values.specs.declared.draw.Draw.{Draw}
use Rattle.svc_values.specs.declared.entry.Ltxid.{Ltxid}
use Rattle.svc_values.specs.declared.frame.Ahead.TheVariants as ahead
use Rattle.svc_values.specs.declared.frame.Down.{Down}
use Rattle.svc_values.specs.declared.frame.Down.TheVariants as down
use Rattle.svc_values.specs.declared.frame.Up.{Up}
use Rattle.svc_values.specs.declared.frame.Up.TheVariants as up
use Rattle.call_recorder.specs.declared.recorded.Recorded.{Recorded}
use Rattle.request_bounds.specs.declared.rule.Why.{Why}
use Rattle.request_bounds.specs.declared.rule.Why.TheVariants as why
use Rattle.client_model.specs.declared.act.Failed.TheVariants.{Disabled, PoolWait, Retries}
use Rattle.client_model.specs.declared.act.Shown.{Shown}
use Rattle.client_model.specs.declared.input.Input.{Input}
use Rattle.client_model.specs.declared.input.Input.TheVariants.{Start, Waiting, Lent, Opened, TryFailed, Took, Gone}
use Rattle.client_model.specs.meaning.Conversation.{talk_at}
use Rattle.client_model.specs.Conversation.{steps_of, talk_after}
use Rattle.client_model.specs.meaning.States.{Living, Losing, Asking, Repeating, resumed, next_of}
use Rattle.client_model.specs.meaning.Told as told
use Rattle.client_model.specs.meaning.Told.{over, completed_on, repeated, is_late, uncommitted, told_of}
use Rattle.client_model.specs.meaning.Terms.{Terms, Talk, Phase, Idle, Unbegun, Queued, Seeking, Greeting, Asked, Running, Replaying, unsubmitted}
use Rattle.client_model.specs.meaning.Talk.{Step, if_alive, stands, quiet, fails, with_tried, lost_of, loses, talk_shown, with_shown, sends_call, sends_or_ends, next_call, begin_of, on_hello, on_reply, sends_marked, on_compared, on_repeated, after_completed, on_completed, on_told, takes, on_waiting, waits_from, on_try_failed, talk_step}
use Rattle.client_model.specs.meaning.Verifying.{verified_more, mismatch, submitted}
use Rattle.world_model.specs.meaning.Clients.{Step as Stepped}
use Rattle.world_model.specs.records.Conversing.{timed, inputs_of}
use Rattle.world_model.specs.records.Hold.{same_held}
use Rattle.world_model.specs.meaning.Links.{told_by}
use Rattle.world_model.specs.Parts.{Scan, scanned, is_unmarked_frame}
use Rattle.world_model.specs.Words.{dones_of}
use Rattle.world_model.proofs.Offered.{ltxid_self}

-- what it holds is the identifier of the session that it asks
abbrev pub asks_so : Option Ltxid → Phase → Bool
asks_so held (Asked asking) = same_held held (Some asking.fresh)
asks_so held _ = true

-- ASKED NO MORE -----------------------------------------------------------------------------------

module _ (held : Option Ltxid) (terms : Terms) where
  abbrev So : Step → Type 0
  So step = asks_so held step.0.phase ≡ true

  call_so : (talk : Talk) (state : Living) (alive : Bool) (before : List Up) (shown : Option Shown) (now : ℕ) (call : Call) → So (sends_call terms talk state alive before shown now call)
  call_so talk state true before shown now call = refl
  call_so talk state false before shown now call = refl

  next_so : (talk : Talk) (state : Living) (alive : Bool) (before : List Up) (shown : Option Shown) (now : ℕ) (next : Option Call) → So (sends_or_ends terms talk state alive before shown now next)
  next_so talk state alive before shown now None = refl
  next_so talk state alive before shown now (Some call) = call_so talk state alive before shown now call

  marked_so : (talk : Talk) (state : Repeating) (alive : Bool) (before : List Up) (now : ℕ) (next : Option Recorded) → So (sends_marked terms talk state alive before now next)
  marked_so talk state alive before now None = next_so talk (submitted state) alive before None now (next_call talk)
  marked_so talk state alive before now (Some one) = refl

  compared_so : (talk : Talk) (state : Repeating) (alive : Bool) (seen answers : List ℕ) (now : ℕ) (test : Bool) → So (on_compared terms talk alive now (if test then Ok (verified_more state) else Err (mismatch state seen answers)))
  compared_so talk state alive seen answers now true = marked_so talk (verified_more state) alive [] now (next_of (verified_more state))
  compared_so talk state alive seen answers now false = refl

  repeated_so : (talk : Talk) (state : Repeating) (answers : List Answer) (draws : List Draw) (x : Ltxid) (alive : Bool) (now : ℕ) (one : Option Recorded) → So (on_repeated terms talk state answers draws x alive now one)
  repeated_so talk state answers draws x alive now None = refl
  repeated_so talk state answers draws x alive now (Some one) = compared_so talk state alive one.seen.digest (terms.digest answers) now (bytes_eq one.seen.digest (terms.digest answers))

  reply_so : (talk : Talk) (state : Living) (answers : List Answer) (draws : List Draw) (x : Ltxid) (alive : Bool) (now : ℕ) (call : Option Call) → So (on_reply terms talk state answers draws x alive now call)
  reply_so talk state answers draws x alive now None = refl
  reply_so talk state answers draws x alive now (Some call) =
      let after : Talk = talk_shown terms talk call answers in
      next_so after (record { track = with_shown terms state.track call answers draws; ltxid = x }) alive [] (Some (record { answers = answers; draws = draws; ltxid = x })) now (next_call after)

  behind_so : (talk : Talk) (state : Living) (event : ℕ) (alive : Bool) (shown : Shown) (now : ℕ) (next : Option Call) → So (after_completed terms talk state event alive shown now next)
  behind_so talk state event alive shown now None = refl
  behind_so talk state event alive shown now (Some call) = by (state.track.set_shown && not terms.rules.keeps)
    where
      by : (gone : Bool) → So (if gone then fails talk alive (Some shown) (Disabled (why.StateLost state.track.call) event) else sends_call terms talk state alive (begin_of talk ∷ []) (Some shown) now call)
      by true = refl
      by false = call_so talk state alive (begin_of talk ∷ []) (Some shown) now call

  completed_so : (talk : Talk) (state : Living) (event : ℕ) (alive : Bool) (now : ℕ) (call : Option Call) → So (on_completed terms talk state event alive now call)
  completed_so talk state event alive now None = refl
  completed_so talk state event alive now (Some call) =
      let after : Talk = talk_shown terms talk call (answer.Committed ∷ []) in
      behind_so after (record state { track = with_shown terms state.track call (answer.Committed ∷ []) [] }) event alive (record { answers = answer.Committed ∷ []; draws = []; ltxid = state.ltxid }) now (next_call after)

  uncommitted_so : (talk : Talk) (asking : Asking) (alive : Bool) (now : ℕ) (reason : Option Why) → So (on_told terms talk asking alive now (uncommitted reason asking terms.limits now))
  uncommitted_so talk asking alive now (Some reason) = refl
  uncommitted_so talk asking alive now None = by (nat_le terms.limits.replays asking.track.replays) (is_late terms.limits.timeout asking.track.first now)
    where
      by : (many late : Bool) → So (on_told terms talk asking alive now (if many then told.Replays (over asking) else (if late then told.Late (over asking) else told.Replay (repeated asking))))
      by true late = refl
      by false true = refl
      by false false = marked_so talk (repeated asking) alive (begin_of talk ∷ []) now (next_of (repeated asking))

  outcome_so : (talk : Talk) (asking : Asking) (alive : Bool) (now : ℕ) (committed completed : Bool) → So (on_told terms talk asking alive now (told_of asking committed completed terms.limits now))
  outcome_so talk asking alive now true true = completed_so talk (resumed (completed_on asking)) asking.event alive now (next_call talk)
  outcome_so talk asking alive now true false = refl
  outcome_so talk asking alive now false completed = uncommitted_so talk asking alive now asking.track.why

  waited_so : (talk : Talk) (from now : ℕ) → So (on_waiting terms talk from now)
  waited_so talk from now = by (nat_le terms.limits.wait (now - from))
    where
      by : (long : Bool) → So (if long then fails talk false None (PoolWait from now) else (stands talk (Queued (Some from)), quiet))
      by true = refl
      by false = refl

  tried_so : (talk : Talk) (now : ℕ) → So (on_try_failed terms talk now)
  tried_so talk now = by (nat_le terms.limits.retries (talk.tries + 1))
    where
      by : (many : Bool) → So (if many then fails (with_tried talk now) false None (Retries (talk.tries + 1)) else (stands (with_tried talk now) (Seeking (lost_of talk.phase)), quiet))
      by true = refl
      by false = refl

  gone_so : (phase : Phase) (event : ℕ) → asks_so held (loses phase event) ≡ true
  gone_so (Greeting lost) event = refl
  gone_so (Asked asking) event = refl
  gone_so (Running state) event = refl
  gone_so (Replaying state) event = refl
  gone_so Idle event = refl
  gone_so Unbegun event = refl
  gone_so (Queued from) event = refl
  gone_so (Seeking lost) event = refl

-- STEPS -------------------------------------------------------------------------------------------

module _ (terms : Terms) where
  hello_asks : (talk : Talk) (lost : Option Losing) (x : Ltxid) (alive : Bool) (now : ℕ) → asks_so (Some x) (on_hello terms talk lost x alive now).0.phase ≡ true
  hello_asks talk lost x false now = refl
  hello_asks talk None x true now = next_so (Some x) terms talk (record { track = unsubmitted terms; ltxid = x }) true (begin_of talk ∷ []) None now (next_call talk)
  hello_asks talk (Some lost) x true now = ltxid_self x

  taken_asks : (held : Option Ltxid) (talk : Talk) (phase : Phase) (frame : Down) (alive : Bool) (now : ℕ) → talk.phase ≡ phase → asks_so held phase ≡ true → asks_so (option_or (told_by (Took frame alive)) held) (takes terms talk phase frame alive now).0.phase ≡ true
  taken_asks held talk phase down.Blocked alive now same here = ap (asks_so held) same ∙ here
  taken_asks held talk phase (down.Refused cause) alive now same here = ap (asks_so held) same ∙ here
  taken_asks held talk (Greeting lost) (down.Hello x) alive now same here = hello_asks talk lost x alive now
  taken_asks held talk (Asked asking) (down.OutcomeIs committed completed) alive now same here = outcome_so held terms talk asking alive now committed completed
  taken_asks held talk (Asked asking) (down.OutcomeRefused ahead.Forgotten horizon) alive now same here = refl
  taken_asks held talk (Running state) (down.Reply answers draws x) alive now same here = reply_so (Some x) terms talk state answers draws x alive now (next_call talk)
  taken_asks held talk (Replaying state) (down.Reply answers draws x) alive now same here = repeated_so (Some x) terms talk state answers draws x alive now (next_of state)
  taken_asks held talk phase frame alive now same here = refl

  step_asks : (held : Option Ltxid) (talk : Talk) (input : Input) (now : ℕ) → asks_so held talk.phase ≡ true → asks_so (option_or (told_by input) held) (talk_step terms talk input now).0.phase ≡ true
  step_asks held talk Start now here = refl
  step_asks held talk Waiting now here = waited_so held terms talk (waits_from talk.phase now) now
  step_asks held talk (Lent connection x) now here = hello_asks talk None x true now
  step_asks held talk (Opened connection) now here = refl
  step_asks held talk TryFailed now here = tried_so held terms talk now
  step_asks held talk (Took frame alive) now here = taken_asks held talk talk.phase frame alive now refl here
  step_asks held talk (Gone event) now here = gone_so held terms talk.phase event

  -- by the scan of its steps
  pub scan_asks : (talk : Talk) (scan : Scan) (steps : List Stepped) → dones_of steps ≡ steps_of terms talk (inputs_of steps) → asks_so scan.held talk.phase ≡ true
      → asks_so (fold scanned scan steps).held (talk_after terms talk (inputs_of steps)).phase ≡ true
  scan_asks talk scan [] same here = here
  scan_asks talk scan (step ∷ steps) same here =
      let later : dones_of steps ≡ steps_of terms (talk_at terms talk (timed step)) (inputs_of steps) = cc in
      scan_asks (talk_at terms talk (timed step)) (scanned scan step) steps later (step_asks scan.held talk step.done.input step.done.now here)

  -- WHERE A CALL IS SENT --------------------------------------------------------------------------

  no_call : (alive : Bool) → list_any is_unmarked_frame (if_alive alive (up.Close ∷ [])) ≡ true → ⊥
  no_call true is = let none : ⊥ = cc in none
  no_call false is = let none : ⊥ = cc in none

  -- the frame that was taken tells an identifier, or the request had asked for an outcome
  pub call_told : (talk : Talk) (phase : Phase) (frame : Down) (alive : Bool) (now : ℕ) → list_any is_unmarked_frame (takes terms talk phase frame alive now).1.send ≡ true
      → ((x : Ltxid) × (told_by (Took frame alive) ≡ Some x)) ⊎ ((asking : Asking) × (phase ≡ Asked asking))
  call_told talk phase down.Blocked alive now is = absurd (let none : ⊥ = cc in none)
  call_told talk phase (down.Refused cause) alive now is = absurd (let none : ⊥ = cc in none)
  call_told talk (Asked asking) frame alive now is = inr (asking, refl)
  call_told talk phase (down.Hello x) alive now is = inl (x, refl)
  call_told talk phase (down.Reply answers draws x) alive now is = inl (x, refl)
  call_told talk phase frame alive now is = absurd (no_call alive is)

  pub waited_none : (talk : Talk) (from now : ℕ) → list_any is_unmarked_frame (on_waiting terms talk from now).1.send ≡ true → ⊥
  waited_none talk from now is = by (nat_le terms.limits.wait (now - from)) is
    where
      by : (long : Bool) → list_any is_unmarked_frame (if long then fails talk false None (PoolWait from now) else (stands talk (Queued (Some from)), quiet)).1.send ≡ true → ⊥
      by true is = let none : ⊥ = cc in none
      by false is = let none : ⊥ = cc in none

  pub tried_none : (talk : Talk) (now : ℕ) → list_any is_unmarked_frame (on_try_failed terms talk now).1.send ≡ true → ⊥
  tried_none talk now is = by (nat_le terms.limits.retries (talk.tries + 1)) is
    where
      by : (many : Bool) → list_any is_unmarked_frame (if many then fails (with_tried talk now) false None (Retries (talk.tries + 1)) else (stands (with_tried talk now) (Seeking (lost_of talk.phase)), quiet)).1.send ≡ true → ⊥
      by true is = let none : ⊥ = cc in none
      by false is = let none : ⊥ = cc in none
