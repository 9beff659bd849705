-- Each step of a request on its connection leaves it fewer rounds.
use Rattle.std.proofs.Common.{◌≡◌, refl, sym, ap, subst, ◌∙◌, Bool, true, false, ℕ, ◌+◌, ◌-◌, ◌*◌, ◌≤◌, ◌<◌, length, drop, List, [], ◌∷◌, ◌++◌, Option, Some, None, if◌then◌else◌, arith}
use Rattle.std.specs.Prelude.{nat_le, not, slice_get, ◌&&◌, Ok, Err}
use Rattle.std.specs.Option.{option_map_or}
use Rattle.std.specs.Str.{bytes_eq}
use Rattle.std.proofs.lemmas.Option.{slice_get_within}
use Rattle.std.proofs.lemmas.Bool.Decides.{nat_tests}
use Rattle.svc_values.specs.declared.call.Call.{Call}
use Rattle.svc_values.specs.declared.answer.Answer.{Answer}
use Rattle.svc_values.specs.declared.answer.Answer.TheVariants as answer
use Rattle.svc_values.specs.declared.draw.Draw.{Draw}
use Rattle.svc_values.specs.declared.entry.Ltxid.{Ltxid}
use Rattle.svc_values.specs.declared.frame.Up.{Up}
use Rattle.svc_values.specs.declared.frame.Ahead.TheVariants as ahead
use Rattle.svc_values.specs.declared.frame.Down.{Down}
use Rattle.svc_values.specs.declared.frame.Down.TheVariants as down
use Rattle.request_bounds.specs.declared.rule.Why.{Why}
use Rattle.request_bounds.specs.declared.rule.Why.TheVariants as why
use Rattle.request_bounds.specs.declared.rule.After.{After}
use Rattle.request_bounds.specs.declared.rule.After.TheVariants as after
use Rattle.call_recorder.specs.declared.recorded.Recorded.{Recorded}
use Rattle.client_model.specs.declared.track.Track.{Track}
use Rattle.client_model.specs.declared.act.Shown.{Shown}
use Rattle.client_model.specs.declared.act.Hold.TheVariants as hold
use Rattle.client_model.specs.declared.act.Failed.TheVariants.{Disabled}
use Rattle.client_model.specs.meaning.Told.{over, completed_on, repeated, is_late, uncommitted, told_of}
use Rattle.client_model.specs.meaning.Told as told
use Rattle.client_model.specs.meaning.States.{Living, Losing, Asking, Repeating, resumed, next_of}
use Rattle.client_model.specs.meaning.Verifying.{verified_more, mismatch, submitted}
use Rattle.client_model.specs.Laws.{track_of}
use Rattle.client_model.specs.meaning.Terms.{Terms, Talk, Phase, Greeting, Asked, Running, Replaying, unsubmitted}
use Rattle.client_model.specs.meaning.Talk.{Step, fails, with_recorded, with_reply, with_shown, recorded_as, talk_shown, sends_call, sends_or_ends, next_call, begin_of, on_hello, on_reply, sends_marked, on_compared, on_repeated, after_completed, on_completed, on_told, takes, loses}
use Rattle.world_model.specs.records.Hold.{holds_connection}
use Rattle.world_model.specs.RoundsLeft.{try_wait, attempt, rounds_by}
use Rattle.world_model.proofs.events.Tests.{le_from}
use Rattle.world_model.proofs.wire.Saying.{is_hushed}

-- NUMBERS -----------------------------------------------------------------------------------------

-- a call is used up
call_used : (left fewer replays recorded delay rounds : ℕ) → left ≡ fewer + 1 → rounds ≤ (fewer + replays) * (recorded + (delay + 4)) + (delay + 4) → rounds + 1 ≤ (left + replays) * (recorded + (delay + 4)) + 1
call_used left fewer replays recorded delay rounds less below =
    let whole : (left + replays) * (recorded + (delay + 4)) ≡ (fewer + replays) * (recorded + (delay + 4)) + (recorded + (delay + 4)) = ap (λ (n : ℕ). (n + replays) * (recorded + (delay + 4))) less ∙ one_more in
    omega arith
  where
    one_more : ((fewer + 1) + replays) * (recorded + (delay + 4)) ≡ (fewer + replays) * (recorded + (delay + 4)) + (recorded + (delay + 4))
    one_more = omega arith

-- a replay is used up
replay_used : (left replays more recorded delay calls rounds : ℕ) → more ≡ replays + 1 → calls ≤ recorded → rounds ≤ (left + replays) * (recorded + (delay + 4)) + (delay + (4 + calls)) → rounds + 1 ≤ (left + more) * (recorded + (delay + 4)) + 1
replay_used left replays more recorded delay calls rounds less few below =
    let whole : (left + more) * (recorded + (delay + 4)) ≡ (left + replays) * (recorded + (delay + 4)) + (recorded + (delay + 4)) = ap (λ (n : ℕ). (left + n) * (recorded + (delay + 4))) less ∙ one_more in
    omega arith
  where
    one_more : (left + (replays + 1)) * (recorded + (delay + 4)) ≡ (left + replays) * (recorded + (delay + 4)) + (recorded + (delay + 4))
    one_more = omega arith

left_less : (left : List Call) (call : Call) → slice_get left 0 ≡ Some call → length left ≡ length (drop 1 left) + 1
left_less [] call is = absurd (let none : ⊥ = cc in none)
left_less (one ∷ left) call is = omega arith

pub not_le : (a b : ℕ) → nat_le a b ≡ false → b < a
not_le a b is = grind (arith, nat_tests)

replays_less : (limit started : ℕ) → nat_le limit started ≡ false → limit - started ≡ (limit - (started + 1)) + 1
replays_less limit started few = grind (arith, nat_tests)

abbrev started : Track → ℕ
started track = track.replays

-- a call is shown, and no replay is started
pub shown_replays : (terms : Terms) (track : Track) (call : Call) (answers : List Answer) (draws : List Draw) → (with_shown terms track call answers draws).replays ≡ track.replays
shown_replays terms track call answers draws = by (terms.rules.reply answers)
  where
    one : Recorded
    one = recorded_as terms call answers draws

    full : (test : Bool) → started (if test then record track { why = Some (why.Full terms.recorded) } else record track { recorder = record track.recorder { calls = track.recorder.calls ++ one ∷ [] } }) ≡ track.replays
    full true = refl
    full false = refl

    recorded : (reason : Option Why) → started (with_recorded terms track one reason) ≡ track.replays
    recorded (Some reason) = refl
    recorded None = full (nat_le terms.recorded (length track.recorder.calls))

    by : (reply : After) → started (with_reply terms track one reply) ≡ track.replays
    by after.Record = recorded track.why
    by after.Purge = refl
    by (after.Stop reason) = refl

-- the next try waits no longer than the delay
pub try_most : (terms : Terms) (now : ℕ) (last : Option ℕ) → try_wait terms now last ≤ terms.limits.delay
try_most terms now None = omega arith
try_most terms now (Some tick) = omega arith

-- a step on a connection that has ended is followed by its loss
abbrev pub behind : Bool → ℕ → Phase → Phase
behind true event phase = phase
behind false event phase = loses phase event

-- no more calls are recorded than may be
abbrev pub records_few : Terms → Phase → Bool
records_few terms phase = option_map_or (λ track. nat_le (length track.recorder.calls) terms.recorded) (track_of phase) true

module _ (terms : Terms) (tick : ℕ) where
  -- the rounds behind a step
  abbrev pub Behind : Step → Bool → ℕ → ℕ
  Behind step alive event = rounds_by terms tick true step.0.last_try (length step.0.left) (behind alive event step.0.phase)

  -- behind a submitted call
  abbrev Submitted : ℕ → ℕ → ℕ
  Submitted left replays = (left + (terms.limits.replays - replays)) * attempt terms + (terms.limits.delay + 4)

  sent_rounds : (talk : Talk) (state : Living) (alive : Bool) (before : List Up) (shown : Option Shown) (now event : ℕ) (call : Call)
      → Behind (sends_call terms talk state alive before shown now call) alive event ≤ Submitted (length talk.left) state.track.replays
  sent_rounds talk state true before shown now event call = omega arith
  sent_rounds talk state false before shown now event call = let most : try_wait terms tick talk.last_try ≤ terms.limits.delay = try_most terms tick talk.last_try in omega arith

  next_rounds : (talk : Talk) (state : Living) (alive : Bool) (before : List Up) (shown : Option Shown) (now event : ℕ) (next : Option Call) → (sends_or_ends terms talk state alive before shown now next).1.hold ≡ hold.Keep
      → Behind (sends_or_ends terms talk state alive before shown now next) alive event ≤ Submitted (length talk.left) state.track.replays
  next_rounds talk state true before shown now event None keep = absurd (let none : ⊥ = cc in none)
  next_rounds talk state false before shown now event None keep = absurd (let none : ⊥ = cc in none)
  next_rounds talk state alive before shown now event (Some call) keep = sent_rounds talk state alive before shown now event call

  marked_rounds : (talk : Talk) (state : Repeating) (alive : Bool) (before : List Up) (now event : ℕ) (one : Option Recorded) → (sends_marked terms talk state alive before now one).1.hold ≡ hold.Keep
      → Behind (sends_marked terms talk state alive before now one) alive event ≤ Submitted (length talk.left) state.track.replays + (length state.track.recorder.calls - state.verified)
  marked_rounds talk state alive before now event None keep =
      let below : Behind (sends_marked terms talk state alive before now None) alive event ≤ Submitted (length talk.left) state.track.replays = next_rounds talk (submitted state) alive before None now event (next_call talk) keep in
      omega arith
  marked_rounds talk state true before now event (Some one) keep = omega arith
  marked_rounds talk state false before now event (Some one) keep = let most : try_wait terms tick talk.last_try ≤ terms.limits.delay = try_most terms tick talk.last_try in omega arith

  pub hello_rounds : (talk : Talk) (lost : Option Losing) (ltxid : Ltxid) (alive : Bool) (now event : ℕ) → (on_hello terms talk lost ltxid alive now).1.hold ≡ hold.Keep
      → Behind (on_hello terms talk lost ltxid alive now) alive event + 1 ≤ rounds_by terms tick alive talk.last_try (length talk.left) (Greeting lost)
  hello_rounds talk None ltxid true now event keep =
      let below : Behind (on_hello terms talk None ltxid true now) true event ≤ Submitted (length talk.left) 0 = next_rounds talk (record { track = unsubmitted terms; ltxid = ltxid }) true (begin_of talk ∷ []) None now event (next_call talk) keep in
      omega arith
  hello_rounds talk (Some lost) ltxid true now event keep = omega arith
  hello_rounds talk None ltxid false now event keep = let most : try_wait terms tick talk.last_try ≤ terms.limits.delay = try_most terms tick talk.last_try in omega arith
  hello_rounds talk (Some lost) ltxid false now event keep = let most : try_wait terms tick talk.last_try ≤ terms.limits.delay = try_most terms tick talk.last_try in omega arith

  reply_rounds : (talk : Talk) (state : Living) (answers : List Answer) (draws : List Draw) (ltxid : Ltxid) (alive : Bool) (now event : ℕ) (one : Option Call) → next_call talk ≡ one
      → (on_reply terms talk state answers draws ltxid alive now one).1.hold ≡ hold.Keep
      → Behind (on_reply terms talk state answers draws ltxid alive now one) alive event + 1 ≤ rounds_by terms tick alive talk.last_try (length talk.left) (Running state)
  reply_rounds talk state answers draws ltxid alive now event None is keep = absurd (let none : ⊥ = cc in none)
  reply_rounds talk state answers draws ltxid alive now event (Some call) is keep =
      let after : Talk = talk_shown terms talk call answers in
      let track : Track = with_shown terms state.track call answers draws in
      let below : Behind (on_reply terms talk state answers draws ltxid alive now (Some call)) alive event ≤ Submitted (length (drop 1 talk.left)) state.track.replays =
      subst (λ (n : ℕ). Behind (on_reply terms talk state answers draws ltxid alive now (Some call)) alive event ≤ Submitted (length (drop 1 talk.left)) n) (shown_replays terms state.track call answers draws)
      (next_rounds after (record { track = track; ltxid = ltxid }) alive [] (Some (record { answers = answers; draws = draws; ltxid = ltxid })) now event (next_call after) keep) in
      let used = call_used (length talk.left) (length (drop 1 talk.left)) (terms.limits.replays - state.track.replays) terms.recorded terms.limits.delay _ (left_less talk.left call is) below in
      omega arith

  completed_rounds : (talk : Talk) (asking : Asking) (state : Living) (ended : ℕ) (alive : Bool) (now event : ℕ) (one : Option Call) → next_call talk ≡ one → state.track.replays ≡ asking.track.replays
      → (on_completed terms talk state ended alive now one).1.hold ≡ hold.Keep
      → Behind (on_completed terms talk state ended alive now one) alive event + 1 ≤ (length talk.left + (terms.limits.replays - asking.track.replays)) * attempt terms + 1
  completed_rounds talk asking state ended alive now event None is same keep = absurd (let none : ⊥ = cc in none)
  completed_rounds talk asking state ended alive now event (Some call) is same keep = by (next_call after) keep
    where
      after : Talk
      after = talk_shown terms talk call (answer.Committed ∷ [])

      next : Living
      next = record state { track = with_shown terms state.track call (answer.Committed ∷ []) [] }

      shown : Shown
      shown = record { answers = answer.Committed ∷ []; draws = []; ltxid = state.ltxid }

      used : (rounds : ℕ) → rounds ≤ Submitted (length (drop 1 talk.left)) next.track.replays → rounds + 1 ≤ (length talk.left + (terms.limits.replays - asking.track.replays)) * attempt terms + 1
      used rounds below =
          call_used (length talk.left) (length (drop 1 talk.left)) (terms.limits.replays - asking.track.replays) terms.recorded terms.limits.delay rounds (left_less talk.left call is)
          (subst (λ (n : ℕ). rounds ≤ Submitted (length (drop 1 talk.left)) n) (shown_replays terms state.track call (answer.Committed ∷ []) [] ∙ same) below)

      gone : (test : Bool) (other : Call) → (if test then fails after alive (Some shown) (Disabled (why.StateLost next.track.call) ended) else sends_call terms after next alive (begin_of after ∷ []) (Some shown) now other).1.hold ≡ hold.Keep
          → Behind (if test then fails after alive (Some shown) (Disabled (why.StateLost next.track.call) ended) else sends_call terms after next alive (begin_of after ∷ []) (Some shown) now other) alive event + 1 ≤ (length talk.left + (terms.limits.replays - asking.track.replays)) * attempt terms + 1
      gone true other keep = absurd (let none : ⊥ = cc in none)
      gone false other keep = used _ (sent_rounds after next alive (begin_of after ∷ []) (Some shown) now event other)

      ended_not : (live : Bool) → (if live then hold.GiveBack else hold.Drop) ≡ hold.Keep → ⊥
      ended_not true is = let none : ⊥ = cc in none
      ended_not false is = let none : ⊥ = cc in none

      by : (found : Option Call) → (after_completed terms after next ended alive shown now found).1.hold ≡ hold.Keep
          → Behind (after_completed terms after next ended alive shown now found) alive event + 1 ≤ (length talk.left + (terms.limits.replays - asking.track.replays)) * attempt terms + 1
      by None keep = absurd (ended_not alive keep)
      by (Some other) keep = gone (next.track.set_shown && not terms.rules.keeps) other keep

  uncommitted_rounds : (talk : Talk) (asking : Asking) (alive : Bool) (now event : ℕ) (reason : Option Why) → length asking.track.recorder.calls ≤ terms.recorded
      → (on_told terms talk asking alive now (uncommitted reason asking terms.limits now)).1.hold ≡ hold.Keep
      → Behind (on_told terms talk asking alive now (uncommitted reason asking terms.limits now)) alive event + 1 ≤ (length talk.left + (terms.limits.replays - asking.track.replays)) * attempt terms + 1
  uncommitted_rounds talk asking alive now event (Some reason) few keep = absurd (let none : ⊥ = cc in none)
  uncommitted_rounds talk asking alive now event None few keep = by (nat_le terms.limits.replays asking.track.replays) (is_late terms.limits.timeout asking.track.first now) refl keep
    where
      by : (many late : Bool) → nat_le terms.limits.replays asking.track.replays ≡ many
          → (on_told terms talk asking alive now (if many then told.Replays (over asking) else (if late then told.Late (over asking) else told.Replay (repeated asking)))).1.hold ≡ hold.Keep
          → Behind (on_told terms talk asking alive now (if many then told.Replays (over asking) else (if late then told.Late (over asking) else told.Replay (repeated asking)))) alive event + 1
          ≤ (length talk.left + (terms.limits.replays - asking.track.replays)) * attempt terms + 1
      by true late is keep = absurd (let none : ⊥ = cc in none)
      by false true is keep = absurd (let none : ⊥ = cc in none)
      by false false is keep =
          let below = marked_rounds talk (repeated asking) alive (begin_of talk ∷ []) now event (next_of (repeated asking)) keep in
          replay_used (length talk.left) (terms.limits.replays - (asking.track.replays + 1)) (terms.limits.replays - asking.track.replays) terms.recorded terms.limits.delay (length asking.track.recorder.calls) _
          (replays_less terms.limits.replays asking.track.replays is) few (omega (arith, below))

  told_rounds : (talk : Talk) (asking : Asking) (alive : Bool) (now event : ℕ) (committed completed : Bool) → length asking.track.recorder.calls ≤ terms.recorded
      → (on_told terms talk asking alive now (told_of asking committed completed terms.limits now)).1.hold ≡ hold.Keep
      → Behind (on_told terms talk asking alive now (told_of asking committed completed terms.limits now)) alive event + 1 ≤ rounds_by terms tick alive talk.last_try (length talk.left) (Asked asking)
  told_rounds talk asking alive now event committed completed few keep = at_least alive _ (by committed completed keep)
    where
      at_least : (opens : Bool) (rounds : ℕ) → rounds + 1 ≤ (length talk.left + (terms.limits.replays - asking.track.replays)) * attempt terms + 1 → rounds + 1 ≤ rounds_by terms tick opens talk.last_try (length talk.left) (Asked asking)
      at_least true rounds below = below
      at_least false rounds below = omega arith

      by : (committed completed : Bool) → (on_told terms talk asking alive now (told_of asking committed completed terms.limits now)).1.hold ≡ hold.Keep
          → Behind (on_told terms talk asking alive now (told_of asking committed completed terms.limits now)) alive event + 1 ≤ (length talk.left + (terms.limits.replays - asking.track.replays)) * attempt terms + 1
      by true true keep = completed_rounds talk asking (resumed (completed_on asking)) asking.event alive now event (next_call talk) refl refl keep
      by true false keep = absurd (let none : ⊥ = cc in none)
      by false other keep = uncommitted_rounds talk asking alive now event asking.track.why few keep

  repeated_rounds : (talk : Talk) (state : Repeating) (answers : List Answer) (draws : List Draw) (ltxid : Ltxid) (alive : Bool) (now event : ℕ) (one : Option Recorded) → next_of state ≡ one
      → (on_repeated terms talk state answers draws ltxid alive now one).1.hold ≡ hold.Keep
      → Behind (on_repeated terms talk state answers draws ltxid alive now one) alive event + 1 ≤ rounds_by terms tick alive talk.last_try (length talk.left) (Replaying state)
  repeated_rounds talk state answers draws ltxid alive now event None is keep = absurd (let none : ⊥ = cc in none)
  repeated_rounds talk state answers draws ltxid alive now event (Some one) is keep = by (bytes_eq one.seen.digest (terms.digest answers)) keep
    where
      within : state.verified < length state.track.recorder.calls
      within = slice_get_within state.track.recorder.calls state.verified one is

      by : (same : Bool) → (on_compared terms talk alive now (if same then Ok (verified_more state) else Err (mismatch state one.seen.digest (terms.digest answers)))).1.hold ≡ hold.Keep
          → Behind (on_compared terms talk alive now (if same then Ok (verified_more state) else Err (mismatch state one.seen.digest (terms.digest answers)))) alive event + 1 ≤ rounds_by terms tick alive talk.last_try (length talk.left) (Replaying state)
      by true keep =
          let below = marked_rounds talk (verified_more state) alive [] now event (next_of (verified_more state)) keep in
          let small : state.verified < length state.track.recorder.calls = within in
          omega arith
      by false keep = absurd (let none : ⊥ = cc in none)

  -- the loss of a connection
  pub loss_rounds : (last : Option ℕ) (left event : ℕ) (phase : Phase) → holds_connection phase ≡ true → rounds_by terms tick true last left (loses phase event) + 1 ≤ rounds_by terms tick false last left phase
  loss_rounds last left event (Greeting None) holds = let most : try_wait terms tick last ≤ terms.limits.delay = try_most terms tick last in omega arith
  loss_rounds last left event (Greeting (Some lost)) holds = let most : try_wait terms tick last ≤ terms.limits.delay = try_most terms tick last in omega arith
  loss_rounds last left event (Asked asking) holds = let most : try_wait terms tick last ≤ terms.limits.delay = try_most terms tick last in omega arith
  loss_rounds last left event (Running state) holds = let most : try_wait terms tick last ≤ terms.limits.delay = try_most terms tick last in omega arith
  loss_rounds last left event (Replaying state) holds = let most : try_wait terms tick last ≤ terms.limits.delay = try_most terms tick last in omega arith
  loss_rounds last left event phase holds = absurd (let none : ⊥ = cc in none)

  hushed_rounds : (talk : Talk) (phase : Phase) (alive : Bool) (event : ℕ) → talk.phase ≡ phase → holds_connection phase ≡ true → (alive ≡ true → ⊥)
      → rounds_by terms tick true talk.last_try (length talk.left) (behind alive event talk.phase) + 1 ≤ rounds_by terms tick alive talk.last_try (length talk.left) phase
  hushed_rounds talk phase true event same holds dead = absurd (dead refl)
  hushed_rounds talk phase false event same holds dead =
      subst (λ (p : Phase). rounds_by terms tick true talk.last_try (length talk.left) (loses p event) + 1 ≤ rounds_by terms tick false talk.last_try (length talk.left) phase) (sym same) (loss_rounds talk.last_try (length talk.left) event phase holds)

  not_hushed : (frame : Down) (alive : Bool) → is_hushed frame ≡ true → (alive ≡ true → is_hushed frame ≡ false) → alive ≡ true → ⊥
  not_hushed frame alive is loud opens = let quiet : is_hushed frame ≡ false = loud opens in let never : true ≡ false = sym is ∙ quiet in let none : ⊥ = cc in none

  -- a frame that is taken
  pub takes_rounds : (talk : Talk) (phase : Phase) (frame : Down) (alive : Bool) (now event : ℕ) → talk.phase ≡ phase → holds_connection phase ≡ true → (alive ≡ true → is_hushed frame ≡ false) → records_few terms phase ≡ true
      → (takes terms talk phase frame alive now).1.hold ≡ hold.Keep → Behind (takes terms talk phase frame alive now) alive event + 1 ≤ rounds_by terms tick alive talk.last_try (length talk.left) phase
  takes_rounds talk phase down.Blocked alive now event same holds loud few keep = hushed_rounds talk phase alive event same holds (not_hushed down.Blocked alive refl loud)
  takes_rounds talk phase (down.Refused cause) alive now event same holds loud few keep = hushed_rounds talk phase alive event same holds (not_hushed (down.Refused cause) alive refl loud)
  takes_rounds talk (Greeting lost) (down.Hello ltxid) alive now event same holds loud few keep = hello_rounds talk lost ltxid alive now event keep
  takes_rounds talk (Asked asking) (down.OutcomeIs committed completed) alive now event same holds loud few keep =
      told_rounds talk asking alive now event committed completed (le_from (length asking.track.recorder.calls) terms.recorded few) keep
  takes_rounds talk (Asked asking) (down.OutcomeRefused ahead.Forgotten horizon) alive now event same holds loud few keep = absurd (let none : ⊥ = cc in none)
  takes_rounds talk (Running state) (down.Reply answers draws ltxid) alive now event same holds loud few keep = reply_rounds talk state answers draws ltxid alive now event (next_call talk) refl keep
  takes_rounds talk (Replaying state) (down.Reply answers draws ltxid) alive now event same holds loud few keep = repeated_rounds talk state answers draws ltxid alive now event (next_of state) refl keep
  takes_rounds talk phase frame alive now event same holds loud few keep = absurd (let none : ⊥ = cc in none)
