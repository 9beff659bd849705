-- Which call a client sends behind a frame that it takes: the one that follows on its connection,
-- or the first there.
use Rattle.std.proofs.Common.{◌≡◌, refl, ap, ◌∙◌, Bool, true, false, ℕ, zero, suc, ◌+◌, ◌≤◌, ◌&&◌, length, List, [], ◌∷◌, ◌++◌, Option, Some, None, if◌then◌else◌, arith}
use Rattle.std.specs.Prelude.{not, nat_le, slice_get, Ok, Err}
use Rattle.std.specs.List.{list_all}
use Rattle.std.specs.Str.{bytes_eq}
use Rattle.svc_values.specs.declared.answer.Answer.{Answer}
use Rattle.svc_values.specs.declared.answer.Answer.TheVariants as answer
use Rattle.svc_values.specs.declared.call.Call.{Call}
use Rattle.svc_values.specs.declared.draw.Draw.{Draw}
use Rattle.svc_values.specs.declared.entry.Ltxid.{Ltxid}
use Rattle.svc_values.specs.declared.frame.Up.{Up}
use Rattle.svc_values.specs.declared.frame.Up.TheVariants as up
use Rattle.svc_values.specs.declared.frame.Ahead.TheVariants as ahead
use Rattle.svc_values.specs.declared.frame.Down.{Down}
use Rattle.svc_values.specs.declared.frame.Down.TheVariants as down
use Rattle.call_recorder.specs.declared.recorded.Recorded.{Recorded}
use Rattle.request_bounds.specs.declared.rule.Why.{Why}
use Rattle.request_bounds.specs.declared.rule.Why.TheVariants as why
use Rattle.client_model.specs.declared.act.Failed.TheVariants.{Disabled}
use Rattle.client_model.specs.declared.act.Shown.{Shown}
use Rattle.client_model.specs.meaning.States.{Living, Losing, Asking, Repeating, resumed, next_of}
use Rattle.client_model.specs.meaning.Told.{over, completed_on, repeated, is_late, uncommitted, told_of}
use Rattle.client_model.specs.meaning.Told as told
use Rattle.client_model.specs.meaning.Verifying.{verified_more, mismatch, submitted}
use Rattle.client_model.specs.meaning.Terms.{Terms, Talk, Phase, Idle, Greeting, Asked, Running, Replaying, unsubmitted}
use Rattle.client_model.specs.meaning.Talk.{Step, if_alive, fails, talk_shown, with_shown, recorded_as, sends_call, sends_or_ends, next_call, begin_of, on_hello, on_reply, sends_marked, on_compared, on_repeated, after_completed, on_completed, on_told, takes}
use Rattle.invariant_laws.specs.Shown.{is_call}
use Rattle.world_model.proofs.Offered.{replied_call}

-- why this call is the next one on the connection
pub data Rowed (before after : Phase) (shown : Option Shown) : Type 0 where
  -- the first of a request that begins
  AsFirst : (lost : Option Losing) → before ≡ Greeting lost → (state : Living) → after ≡ Running state → state.track.call ≡ 0 → Rowed before after shown
  -- behind a reply that was shown
  AsNext : (state next : Living) → before ≡ Running state → after ≡ Running next → next.track.call ≡ state.track.call + 1 → Rowed before after shown
  -- behind a call that an outcome showed
  AsCompleted : (asking : Asking) (next : Living) (one : Shown) → before ≡ Asked asking → after ≡ Running next → shown ≡ Some one → one.answers ≡ answer.Committed ∷ [] → next.track.call ≡ asking.track.call + 1 → Rowed before after shown
  -- the lost call, where none is recorded
  AsLost : (asking : Asking) (next : Living) → before ≡ Asked asking → asking.track.why ≡ None → after ≡ Running next → next.track.call ≡ asking.track.call → length asking.track.recorder.calls ≡ 0 → shown ≡ None → Rowed before after shown
  -- the first of a replay
  AsRepeated : (asking : Asking) → before ≡ Asked asking → asking.track.why ≡ None → after ≡ Replaying (repeated asking) → shown ≡ None → Rowed before after shown
  -- the next one of a replay
  AsMore : (state : Repeating) → before ≡ Replaying state → after ≡ Replaying (verified_more state) → shown ≡ None → Rowed before after shown
  -- the lost call behind a replay
  AsLast : (state : Repeating) (next : Living) → before ≡ Replaying state → after ≡ Running next → next.track.call ≡ state.track.call → length state.track.recorder.calls ≤ state.verified + 1 → shown ≡ None → Rowed before after shown

abbrev pub no_calls : List Up → Bool
no_calls frames = list_all (λ frame. not (is_call frame)) frames

-- no call is sent, or one behind other frames
pub data RowStep (before after : Phase) (shown : Option Shown) : List Up → Type 0 where
  Silent : (send : List Up) → no_calls send ≡ true → RowStep before after shown send
  Speaks : (front : List Up) (mark : Bool) (kept : List Draw) (one : Call) → no_calls front ≡ true → Rowed before after shown → RowStep before after shown (front ++ up.Call mark kept one ∷ [])

abbrev pub IsRow : Phase → Step → Type 0
IsRow before step = RowStep before step.0.phase step.1.shown step.1.send

pub none_behind : {A : Type 0} (xs : List A) (index : ℕ) → slice_get xs index ≡ None → length xs ≤ index
none_behind [] index is = omega arith
none_behind (x ∷ xs) zero is = absurd (let none : ⊥ = cc in none)
none_behind (x ∷ xs) (suc index) is = let rest : length xs ≤ index = none_behind xs index is in omega arith

-- a Close, or nothing
closes : (before after : Phase) (shown : Option Shown) (alive : Bool) → RowStep before after shown (if_alive alive (up.Close ∷ []))
closes before after shown true = Silent _ refl
closes before after shown false = Silent _ refl

module _ (before : Phase) (terms : Terms) where
  called : (talk : Talk) (state : Living) (alive : Bool) (front : List Up) (shown : Option Shown) (now : ℕ) (call : Call) → no_calls front ≡ true
      → ((next : Living) → next.track.call ≡ state.track.call → Rowed before (Running next) shown) → IsRow before (sends_call terms talk state alive front shown now call)
  called talk state true front shown now call none rows = Speaks front false [] call none (rows _ refl)
  called talk state false front shown now call none rows = Silent [] refl

  next_row : (talk : Talk) (state : Living) (alive : Bool) (front : List Up) (shown : Option Shown) (now : ℕ) (next : Option Call) → no_calls front ≡ true
      → ((next : Living) → next.track.call ≡ state.track.call → Rowed before (Running next) shown) → IsRow before (sends_or_ends terms talk state alive front shown now next)
  next_row talk state true front shown now None none rows = Silent _ refl
  next_row talk state false front shown now None none rows = Silent _ refl
  next_row talk state alive front shown now (Some call) none rows = called talk state alive front shown now call none rows

  marked_row : (talk : Talk) (state : Repeating) (alive : Bool) (front : List Up) (now : ℕ) (one : Option Recorded) → next_of state ≡ one → no_calls front ≡ true
      → ((next : Living) → next.track.call ≡ state.track.call → length state.track.recorder.calls ≤ state.verified → Rowed before (Running next) None)
      → Rowed before (Replaying state) None → IsRow before (sends_marked terms talk state alive front now one)
  marked_row talk state alive front now None is none last more =
      next_row talk (submitted state) alive front None now (next_call talk) none (λ next same. last next same (none_behind state.track.recorder.calls state.verified is))
  marked_row talk state true front now (Some one) is none last more = Speaks front true one.draws one.call none more
  marked_row talk state false front now (Some one) is none last more = Silent [] refl

hello_row : (terms : Terms) (talk : Talk) (lost : Option Losing) (ltxid : Ltxid) (alive : Bool) (now : ℕ) → IsRow (Greeting lost) (on_hello terms talk lost ltxid alive now)
hello_row terms talk lost ltxid false now = Silent [] refl
hello_row terms talk None ltxid true now =
    next_row (Greeting None) terms talk (record { track = unsubmitted terms; ltxid = ltxid }) true (begin_of talk ∷ []) None now (next_call talk) refl (λ next same. AsFirst None refl next refl same)
hello_row terms talk (Some lost) ltxid true now = Silent _ refl

-- on a connection that is lent
pub lent_row : (terms : Terms) (talk : Talk) (ltxid : Ltxid) (now : ℕ) → IsRow (Greeting None) (on_hello terms talk None ltxid true now)
lent_row terms talk ltxid now = hello_row terms talk None ltxid true now

reply_row : (terms : Terms) (talk : Talk) (state : Living) (answers : List Answer) (draws : List Draw) (ltxid : Ltxid) (alive : Bool) (now : ℕ) (call : Option Call)
    → IsRow (Running state) (on_reply terms talk state answers draws ltxid alive now call)
reply_row terms talk state answers draws ltxid alive now None = closes (Running state) Idle None alive
reply_row terms talk state answers draws ltxid alive now (Some call) =
    let after : Talk = talk_shown terms talk call answers in
    let more : (with_shown terms state.track call answers draws).call ≡ state.track.call + 1 = ap (λ (n : ℕ). n + 1) (replied_call terms state.track (recorded_as terms call answers draws) (terms.rules.reply answers)) in
    next_row (Running state) terms after (record { track = with_shown terms state.track call answers draws; ltxid = ltxid }) alive [] (Some (record { answers = answers; draws = draws; ltxid = ltxid })) now (next_call after) refl
    (λ next same. AsNext state next refl refl (same ∙ more))

compared_row : (terms : Terms) (talk : Talk) (state : Repeating) (seen answers : List ℕ) (alive : Bool) (now : ℕ) (test : Bool)
    → IsRow (Replaying state) (on_compared terms talk alive now (if test then Ok (verified_more state) else Err (mismatch state seen answers)))
compared_row terms talk state seen answers alive now true =
    marked_row (Replaying state) terms talk (verified_more state) alive [] now (next_of (verified_more state)) refl refl (λ next same most. AsLast state next refl refl same most refl) (AsMore state refl refl refl)
compared_row terms talk state seen answers alive now false = closes (Replaying state) Idle None alive

repeated_row : (terms : Terms) (talk : Talk) (state : Repeating) (answers : List Answer) (draws : List Draw) (ltxid : Ltxid) (alive : Bool) (now : ℕ) (one : Option Recorded)
    → IsRow (Replaying state) (on_repeated terms talk state answers draws ltxid alive now one)
repeated_row terms talk state answers draws ltxid alive now None = closes (Replaying state) Idle None alive
repeated_row terms talk state answers draws ltxid alive now (Some one) =
    compared_row terms talk state one.seen.digest (terms.digest answers) alive now (bytes_eq one.seen.digest (terms.digest answers))

module _ (asking : Asking) (terms : Terms) where
  behind_row : (talk : Talk) (state : Living) (event : ℕ) (alive : Bool) (shown : Shown) (now : ℕ) (next : Option Call) → shown.answers ≡ answer.Committed ∷ [] → state.track.call ≡ asking.track.call + 1 → IsRow (Asked asking) (after_completed terms talk state event alive shown now next)
  behind_row talk state event true shown now None is more = Silent _ refl
  behind_row talk state event false shown now None is more = Silent _ refl
  behind_row talk state event alive shown now (Some call) is more = by (state.track.set_shown && not terms.rules.keeps)
    where
      by : (gone : Bool) → IsRow (Asked asking) (if gone then fails talk alive (Some shown) (Disabled (why.StateLost state.track.call) event) else sends_call terms talk state alive (begin_of talk ∷ []) (Some shown) now call)
      by true = closes (Asked asking) Idle (Some shown) alive
      by false = called (Asked asking) terms talk state alive (begin_of talk ∷ []) (Some shown) now call refl (λ next same. AsCompleted asking next shown refl refl refl is (same ∙ more))

  completed_row : (talk : Talk) (state : Living) (event : ℕ) (alive : Bool) (now : ℕ) (call : Option Call) → state.track.call ≡ asking.track.call → IsRow (Asked asking) (on_completed terms talk state event alive now call)
  completed_row talk state event alive now None same = closes (Asked asking) Idle None alive
  completed_row talk state event alive now (Some call) same =
      let after : Talk = talk_shown terms talk call (answer.Committed ∷ []) in
      let next : Living = record state { track = with_shown terms state.track call (answer.Committed ∷ []) [] } in
      behind_row after next event alive (record { answers = answer.Committed ∷ []; draws = []; ltxid = state.ltxid }) now (next_call after) refl
      (ap (λ (n : ℕ). n + 1) (replied_call terms state.track (recorded_as terms call (answer.Committed ∷ []) []) (terms.rules.reply (answer.Committed ∷ [])) ∙ same))

  uncommitted_row : (talk : Talk) (alive : Bool) (now : ℕ) (reason : Option Why) → asking.track.why ≡ reason → IsRow (Asked asking) (on_told terms talk asking alive now (uncommitted reason asking terms.limits now))
  uncommitted_row talk alive now (Some reason) is = closes (Asked asking) Idle None alive
  uncommitted_row talk alive now None is = by (nat_le terms.limits.replays asking.track.replays) (is_late terms.limits.timeout asking.track.first now)
    where
      by : (many late : Bool) → IsRow (Asked asking) (on_told terms talk asking alive now (if many then told.Replays (over asking) else (if late then told.Late (over asking) else told.Replay (repeated asking))))
      by true late = closes (Asked asking) Idle None alive
      by false true = closes (Asked asking) Idle None alive
      by false false =
          marked_row (Asked asking) terms talk (repeated asking) alive (begin_of talk ∷ []) now (next_of (repeated asking)) refl refl
          (λ next same most. let none : length asking.track.recorder.calls ≡ 0 = omega arith in AsLost asking next refl is refl same none refl) (AsRepeated asking refl is refl refl)

  told_row : (talk : Talk) (alive : Bool) (now : ℕ) (committed completed : Bool) → IsRow (Asked asking) (on_told terms talk asking alive now (told_of asking committed completed terms.limits now))
  told_row talk alive now true true = completed_row talk (resumed (completed_on asking)) asking.event alive now (next_call talk) refl
  told_row talk alive now true false = closes (Asked asking) Idle None alive
  told_row talk alive now false completed = uncommitted_row talk alive now asking.track.why refl

-- at each frame that is taken
pub taken_row : (terms : Terms) (talk : Talk) (phase : Phase) (frame : Down) (alive : Bool) (now : ℕ) → IsRow phase (takes terms talk phase frame alive now)
taken_row terms talk phase down.Blocked alive now = Silent [] refl
taken_row terms talk phase (down.Refused cause) alive now = Silent [] refl
taken_row terms talk (Greeting lost) (down.Hello ltxid) alive now = hello_row terms talk lost ltxid alive now
taken_row terms talk (Asked asking) (down.OutcomeIs committed completed) alive now = told_row asking terms talk alive now committed completed
taken_row terms talk (Asked asking) (down.OutcomeRefused ahead.Forgotten horizon) alive now = closes (Asked asking) Idle None alive
taken_row terms talk (Running state) (down.Reply answers draws ltxid) alive now = reply_row terms talk state answers draws ltxid alive now (next_call talk)
taken_row terms talk (Replaying state) (down.Reply answers draws ltxid) alive now = repeated_row terms talk state answers draws ltxid alive now (next_of state)
taken_row terms talk phase frame alive now = closes phase Idle None alive
