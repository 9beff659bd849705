-- A request stays ready, whatever comes in.
use Rattle.std.proofs.Common.{◌≡◌, refl, sym, ap, subst, Bool, true, false, ℕ, ◌&&◌, length, List, [], ◌∷◌, ◌++◌, Option, Some, None, ◌⊎◌, inl, inr, if◌then◌else◌}
use Rattle.std.specs.Prelude.{◌==◌, not, nat_le, is_some, is_none, Ok, Err}
use Rattle.std.specs.Option.{option_or, option_map_or}
use Rattle.std.specs.Str.{bytes_eq}
use Rattle.std.proofs.lemmas.Bool.{and_parts, and_from, not-true}
use Rattle.svc_values.specs.declared.call.Call.{Call}
use Rattle.svc_values.specs.declared.call.Call.TheVariants as call
use Rattle.svc_values.specs.declared.answer.Answer.{Answer}
use Rattle.svc_values.specs.declared.answer.Answer.TheVariants as answer
use Rattle.svc_values.specs.declared.draw.Draw.{Draw}
use Rattle.svc_values.specs.declared.entry.Ltxid.{Ltxid}
use Rattle.svc_values.specs.declared.frame.Up.{Up}
use Rattle.svc_values.specs.declared.frame.Ahead.TheVariants as ahead
use Rattle.svc_values.specs.declared.frame.Down.{Down}
use Rattle.svc_values.specs.declared.frame.Down.TheVariants as down
use Rattle.request_bounds.specs.declared.rule.Why.{Why}
use Rattle.request_bounds.specs.declared.rule.Why.TheVariants as why
use Rattle.request_bounds.specs.declared.rule.After.{After}
use Rattle.request_bounds.specs.declared.rule.After.TheVariants as after
use Rattle.request_bounds.specs.meaning.Rules.{Rules}
use Rattle.call_recorder.specs.declared.recorded.Recorded.{Recorded}
use Rattle.client_model.specs.declared.track.Track.{Track}
use Rattle.client_model.specs.declared.act.Shown.{Shown}
use Rattle.client_model.specs.declared.act.Failed.TheVariants.{Disabled}
use Rattle.client_model.specs.declared.input.Input.TheVariants.{Gone}
use Rattle.client_model.specs.meaning.Told.{over, completed_on, repeated, is_late, uncommitted, told_of}
use Rattle.client_model.specs.meaning.Told as told
use Rattle.client_model.specs.meaning.States.{Living, Losing, Asking, Repeating, resumed, next_of}
use Rattle.client_model.specs.meaning.Verifying.{verified_more, mismatch, submitted}
use Rattle.client_model.specs.Laws.{track_of}
use Rattle.client_model.specs.meaning.Terms.{Terms, Talk, Phase, Idle, Unbegun, Queued, Seeking, Greeting, Asked, Running, Replaying, unsubmitted}
use Rattle.client_model.specs.meaning.Talk.{stands, fails, with_submitted, with_recorded, with_reply, with_shown, recorded_as, talk_shown, sends_call, sends_or_ends, next_call, begin_of, on_hello, on_reply, sends_marked, on_compared, on_repeated, after_completed, on_completed, on_told, takes, loses, talk_step}
use Rattle.world_model.specs.Parts.{implies}
use Rattle.world_model.specs.records.Wire.{is_alter}
use Rattle.world_model.specs.records.Ready.{is_unbegun, alters_none, is_recording, forgets_commits, repeats_rightly, is_repeatable, alters_nothing, records_rightly}
use Rattle.world_model.proofs.events.AllLists.{append_all, one_all}
use Rattle.world_model.proofs.events.Tests.{implied_by, met, none_some}

-- RULES -------------------------------------------------------------------------------------------

-- What alters the service is a reason against a replay. A call that was answered Committed is not
-- recorded, or each call is a reason.
pub record AreRight (rules : Rules) : Type 0 where
  pub alters : (line : List ℕ) (index : ℕ) → is_some (rules.submit (call.Alter line) index) ≡ true
  pub commits : (is_recording (rules.reply (answer.Committed ∷ [])) ≡ false) ⊎ ((one : Call) (index : ℕ) → is_some (rules.submit one index) ≡ true)

-- TESTS -------------------------------------------------------------------------------------------

-- where the connection has ended, the call that comes next was not sent
abbrev pub records_in : Bool → Terms → Talk → Phase → Bool
records_in alive terms talk (Replaying state) = repeats_rightly terms state.track
records_in alive terms talk (Running state) = is_repeatable terms state.track && implies (alive && is_none state.track.why) (alters_nothing talk)
records_in alive terms talk phase = option_map_or (is_repeatable terms) (track_of phase) true

abbrev pub talk_ready : Bool → Terms → Talk → Bool
talk_ready alive terms talk = implies (is_unbegun talk.phase) (not (length talk.left == 0)) && records_in alive terms talk talk.phase

pub records_same : (terms : Terms) (talk : Talk) (phase : Phase) → records_in true terms talk phase ≡ records_rightly terms talk phase
records_same terms talk Idle = refl
records_same terms talk Unbegun = refl
records_same terms talk (Queued from) = refl
records_same terms talk (Seeking lost) = refl
records_same terms talk (Greeting lost) = refl
records_same terms talk (Asked asking) = refl
records_same terms talk (Running state) = refl
records_same terms talk (Replaying state) = refl

-- CALLS -------------------------------------------------------------------------------------------

module _ (terms : Terms) (right : AreRight terms.rules) where
  first_none : (one other : Option Why) → is_none (option_or one other) ≡ true → (is_none one ≡ true) × (is_none other ≡ true)
  first_none None other is = (refl, is)
  first_none (Some why) other is = absurd (let none : ⊥ = cc in none)

  alter_submits : (one : Call) (index : ℕ) → is_alter one ≡ true → is_some (terms.rules.submit one index) ≡ true
  alter_submits (call.Alter line) index is = right.alters line index
  alter_submits one index is = absurd (let none : ⊥ = cc in none)

  -- a call that gives no reason does not alter the service
  no_reason : (one : Call) (index : ℕ) → is_none (terms.rules.submit one index) ≡ true → not (is_alter one) ≡ true
  no_reason one index none = by (is_alter one) refl
    where
      by : (alters : Bool) → is_alter one ≡ alters → not alters ≡ true
      by false is = refl
      by true is = absurd (none_some (terms.rules.submit one index) none (alter_submits one index is))

  next_alters : (talk : Talk) (one : Call) → next_call talk ≡ Some one → not (is_alter one) ≡ true → alters_nothing talk ≡ true
  next_alters talk one is plain = subst (λ (next : Option Call). option_map_or (λ call. not (is_alter call)) next true ≡ true) (sym is) plain

  -- what has to hold where a call may be sent
  abbrev MaySend : Living → Call → Type 0
  MaySend state one = is_none state.track.why ≡ true → is_none (terms.rules.submit one state.track.call) ≡ true → repeats_rightly terms state.track ≡ true

  sent_ready : (talk : Talk) (state : Living) (alive : Bool) (before : List Up) (shown : Option Shown) (now : ℕ) (one : Call) → next_call talk ≡ Some one → MaySend state one → (alive ≡ false → is_repeatable terms state.track ≡ true)
      → talk_ready alive terms (sends_call terms talk state alive before shown now one).0 ≡ true
  sent_ready talk state true before shown now one next may dead =
      let track : Track = with_submitted terms state.track one now in
      and_from (is_repeatable terms track) (implies (is_none track.why) (alters_nothing talk))
      (implied_by (is_none track.why) (repeats_rightly terms track) (λ none. let both = first_none state.track.why (terms.rules.submit one state.track.call) none in may both.0 both.1))
      (implied_by (is_none track.why) (alters_nothing talk)
      (λ none. next_alters talk one next (no_reason one state.track.call (first_none state.track.why (terms.rules.submit one state.track.call) none).1)))
  sent_ready talk state false before shown now one next may dead = and_from (is_repeatable terms state.track) true (dead refl) refl

  next_ready : (talk : Talk) (state : Living) (alive : Bool) (before : List Up) (shown : Option Shown) (now : ℕ) (next : Option Call) → next_call talk ≡ next → ((one : Call) → MaySend state one)
      → (alive ≡ false → is_repeatable terms state.track ≡ true) → talk_ready alive terms (sends_or_ends terms talk state alive before shown now next).0 ≡ true
  next_ready talk state alive before shown now None is may dead = refl
  next_ready talk state alive before shown now (Some one) is may dead = sent_ready talk state alive before shown now one is (may one) dead

  may_by : (state : Living) → is_repeatable terms state.track ≡ true → (one : Call) → MaySend state one
  may_by state here one none other = met (is_none state.track.why) (repeats_rightly terms state.track) here none

  -- SHOWING ---------------------------------------------------------------------------------------

  -- it does not alter the service, or is not recorded
  abbrev MayShow : Track → Call → List Answer → Type 0
  MayShow track one answers = is_none track.why ≡ true → (not (is_alter one) ≡ true) ⊎ (is_recording (terms.rules.reply answers) ≡ false)

  noted_rightly : (calls : List Recorded) (one : Recorded) → alters_none calls ≡ true → not (is_alter one.call) ≡ true → alters_none (calls ++ one ∷ []) ≡ true
  noted_rightly calls one here plain = append_all (λ (r : Recorded). not (is_alter r.call)) calls (one ∷ []) here (one_all (λ (r : Recorded). not (is_alter r.call)) one plain)

  recorded_ready : (track : Track) (one : Recorded) (reason : Option Why) → track.why ≡ reason → is_repeatable terms track ≡ true → (is_none track.why ≡ true → not (is_alter one.call) ≡ true)
      → is_repeatable terms (with_recorded terms track one reason) ≡ true
  recorded_ready track one (Some reason) is here plain = here
  recorded_ready track one None is here plain = by (nat_le terms.recorded (length track.recorder.calls))
    where
      none : is_none track.why ≡ true
      none = ap is_none is

      noted : repeats_rightly terms (record track { recorder = record track.recorder { calls = track.recorder.calls ++ one ∷ [] } }) ≡ true
      noted =
          let parts = and_parts (alters_none track.recorder.calls) (forgets_commits terms) (met (is_none track.why) (repeats_rightly terms track) here none) in
          and_from (alters_none (track.recorder.calls ++ one ∷ [])) (forgets_commits terms) (noted_rightly track.recorder.calls one parts.0 (plain none)) parts.1

      by : (full : Bool) → is_repeatable terms
          (if full then record track { why = Some (why.Full terms.recorded) } else record track { recorder = record track.recorder { calls = track.recorder.calls ++ one ∷ [] } }) ≡ true
      by true = refl
      by false = implied_by (is_none track.why) (repeats_rightly terms (record track { recorder = record track.recorder { calls = track.recorder.calls ++ one ∷ [] } })) (λ is. noted)

  replied_ready : (track : Track) (one : Recorded) (reply : After) → is_repeatable terms track ≡ true → (is_none track.why ≡ true → (not (is_alter one.call) ≡ true) ⊎ (is_recording reply ≡ false))
      → is_repeatable terms (with_reply terms track one reply) ≡ true
  replied_ready track one after.Record here may = recorded_ready track one track.why refl here (λ none. by (may none))
    where
      by : (not (is_alter one.call) ≡ true) ⊎ (is_recording after.Record ≡ false) → not (is_alter one.call) ≡ true
      by (inl plain) = plain
      by (inr never) = absurd (let none : ⊥ = cc in none)
  replied_ready track one after.Purge here may =
      implied_by (is_none track.why) (forgets_commits terms) (λ none. (and_parts (alters_none track.recorder.calls) (forgets_commits terms) (met (is_none track.why) (repeats_rightly terms track) here none)).1)
  replied_ready track one (after.Stop reason) here may = by track.why
    where
      by : (first : Option Why) → implies (is_none (option_or first (Some reason))) (repeats_rightly terms track) ≡ true
      by None = refl
      by (Some first) = refl

  shown_ready : (track : Track) (one : Call) (answers : List Answer) (draws : List Draw) → is_repeatable terms track ≡ true → MayShow track one answers → is_repeatable terms (with_shown terms track one answers draws) ≡ true
  shown_ready track one answers draws here may = replied_ready track (recorded_as terms one answers draws) (terms.rules.reply answers) here may

  -- FRAMES ----------------------------------------------------------------------------------------

  -- a request that begins has recorded nothing
  first_may : (ltxid : Ltxid) (one : Call) → MaySend (record { track = unsubmitted terms; ltxid = ltxid }) one
  first_may ltxid one none other = by right.commits
    where
      by : (is_recording (terms.rules.reply (answer.Committed ∷ [])) ≡ false) ⊎ ((any : Call) (index : ℕ) → is_some (terms.rules.submit any index) ≡ true) → forgets_commits terms ≡ true
      by (inl forgets) = ap not forgets
      by (inr always) = absurd (none_some (terms.rules.submit one 0) other (always one 0))

  pub hello_ready : (talk : Talk) (lost : Option Losing) (ltxid : Ltxid) (alive : Bool) (now : ℕ) → option_map_or (is_repeatable terms) (track_of (Greeting lost)) true ≡ true
      → implies (is_unbegun (Greeting lost)) (not (length talk.left == 0)) ≡ true → talk_ready alive terms (on_hello terms talk lost ltxid alive now).0 ≡ true
  hello_ready talk None ltxid true now here left =
      next_ready talk (record { track = unsubmitted terms; ltxid = ltxid }) true (begin_of talk ∷ []) None now (next_call talk) refl (first_may ltxid) (λ dead. absurd (let none : ⊥ = cc in none))
  hello_ready talk (Some lost) ltxid true now here left = here
  hello_ready talk None ltxid false now here left = and_from (not (length talk.left == 0)) true left refl
  hello_ready talk (Some lost) ltxid false now here left = here

  reply_ready : (talk : Talk) (state : Living) (answers : List Answer) (draws : List Draw) (ltxid : Ltxid) (alive : Bool) (now : ℕ) (one : Option Call) → next_call talk ≡ one → is_repeatable terms state.track ≡ true
      → implies (is_none state.track.why) (alters_nothing talk) ≡ true → talk_ready alive terms (on_reply terms talk state answers draws ltxid alive now one).0 ≡ true
  reply_ready talk state answers draws ltxid alive now None is here plain = refl
  reply_ready talk state answers draws ltxid alive now (Some one) is here plain =
      let after : Talk = talk_shown terms talk one answers in
      let next : Living = record { track = with_shown terms state.track one answers draws; ltxid = ltxid } in
      let shown : is_repeatable terms next.track ≡ true =
      shown_ready state.track one answers draws here
      (λ none. inl (subst (λ (call : Option Call). option_map_or (λ one. not (is_alter one)) call true ≡ true) is (met (is_none state.track.why) (alters_nothing talk) plain none))) in
      next_ready after next alive [] (Some (record { answers = answers; draws = draws; ltxid = ltxid })) now (next_call after) refl (may_by next shown) (λ dead. shown)

  marked_ready : (talk : Talk) (state : Repeating) (alive : Bool) (before : List Up) (now : ℕ) (one : Option Recorded) → repeats_rightly terms state.track ≡ true → talk_ready alive terms (sends_marked terms talk state alive before now one).0 ≡ true
  marked_ready talk state alive before now None here =
      next_ready talk (submitted state) alive before None now (next_call talk) refl (λ one none other. here) (λ dead. implied_by (is_none state.track.why) (repeats_rightly terms state.track) (λ none. here))
  marked_ready talk state alive before now (Some one) here = here

  compared_ready : (talk : Talk) (state : Repeating) (seen answers : List ℕ) (alive : Bool) (now : ℕ) (test : Bool) → repeats_rightly terms state.track ≡ true
      → talk_ready alive terms (on_compared terms talk alive now (if test then Ok (verified_more state) else Err (mismatch state seen answers))).0 ≡ true
  compared_ready talk state seen answers alive now true here = marked_ready talk (verified_more state) alive [] now (next_of (verified_more state)) here
  compared_ready talk state seen answers alive now false here = refl

  repeated_ready : (talk : Talk) (state : Repeating) (answers : List Answer) (draws : List Draw) (ltxid : Ltxid) (alive : Bool) (now : ℕ) (one : Option Recorded) → repeats_rightly terms state.track ≡ true
      → talk_ready alive terms (on_repeated terms talk state answers draws ltxid alive now one).0 ≡ true
  repeated_ready talk state answers draws ltxid alive now None here = refl
  repeated_ready talk state answers draws ltxid alive now (Some one) here = compared_ready talk state one.seen.digest (terms.digest answers) alive now (bytes_eq one.seen.digest (terms.digest answers)) here

  behind_ready : (talk : Talk) (state : Living) (event : ℕ) (alive : Bool) (shown : Shown) (now : ℕ) (next : Option Call) → next_call talk ≡ next → is_repeatable terms state.track ≡ true
      → talk_ready alive terms (after_completed terms talk state event alive shown now next).0 ≡ true
  behind_ready talk state event alive shown now None is here = refl
  behind_ready talk state event alive shown now (Some one) is here = by (state.track.set_shown && not terms.rules.keeps)
    where
      by : (gone : Bool) → talk_ready alive terms
          (if gone then fails talk alive (Some shown) (Disabled (why.StateLost state.track.call) event) else sends_call terms talk state alive (begin_of talk ∷ []) (Some shown) now one).0 ≡ true
      by true = refl
      by false = sent_ready talk state alive (begin_of talk ∷ []) (Some shown) now one is (may_by state here one) (λ dead. here)

  completed_ready : (talk : Talk) (state : Living) (event : ℕ) (alive : Bool) (now : ℕ) (one : Option Call) → is_repeatable terms state.track ≡ true → talk_ready alive terms (on_completed terms talk state event alive now one).0 ≡ true
  completed_ready talk state event alive now None here = refl
  completed_ready talk state event alive now (Some one) here =
      let after : Talk = talk_shown terms talk one (answer.Committed ∷ []) in
      let next : Living = record state { track = with_shown terms state.track one (answer.Committed ∷ []) [] } in
      let shown : is_repeatable terms next.track ≡ true =
      shown_ready state.track one (answer.Committed ∷ []) [] here
      (λ none. inr (not-true (is_recording (terms.rules.reply (answer.Committed ∷ []))) (and_parts (alters_none state.track.recorder.calls) (forgets_commits terms) (met (is_none state.track.why) (repeats_rightly terms state.track) here none)).1)) in
      behind_ready after next event alive (record { answers = answer.Committed ∷ []; draws = []; ltxid = state.ltxid }) now (next_call after) refl shown

  uncommitted_ready : (talk : Talk) (asking : Asking) (alive : Bool) (now : ℕ) (reason : Option Why) → asking.track.why ≡ reason → is_repeatable terms asking.track ≡ true
      → talk_ready alive terms (on_told terms talk asking alive now (uncommitted reason asking terms.limits now)).0 ≡ true
  uncommitted_ready talk asking alive now (Some reason) is here = refl
  uncommitted_ready talk asking alive now None is here = by (nat_le terms.limits.replays asking.track.replays) (is_late terms.limits.timeout asking.track.first now)
    where
      plain : repeats_rightly terms asking.track ≡ true
      plain = met (is_none asking.track.why) (repeats_rightly terms asking.track) here (ap is_none is)

      by : (many late : Bool) → talk_ready alive terms
          (on_told terms talk asking alive now (if many then told.Replays (over asking) else (if late then told.Late (over asking) else told.Replay (repeated asking)))).0 ≡ true
      by true late = refl
      by false true = refl
      by false false = marked_ready talk (repeated asking) alive (begin_of talk ∷ []) now (next_of (repeated asking)) plain

  told_ready : (talk : Talk) (asking : Asking) (alive : Bool) (now : ℕ) (committed completed : Bool) → is_repeatable terms asking.track ≡ true
      → talk_ready alive terms (on_told terms talk asking alive now (told_of asking committed completed terms.limits now)).0 ≡ true
  told_ready talk asking alive now true true here = completed_ready talk (resumed (completed_on asking)) asking.event alive now (next_call talk) here
  told_ready talk asking alive now true false here = refl
  told_ready talk asking alive now false completed here = uncommitted_ready talk asking alive now asking.track.why refl here

  -- a frame is taken; Blocked and Refused do nothing
  pub weaker : (alive : Bool) (talk : Talk) → talk_ready true terms talk ≡ true → talk_ready alive terms talk ≡ true
  weaker true talk here = here
  weaker false talk here =
      let parts = and_parts (implies (is_unbegun talk.phase) (not (length talk.left == 0))) (records_in true terms talk talk.phase) here in
      and_from (implies (is_unbegun talk.phase) (not (length talk.left == 0))) (records_in false terms talk talk.phase) parts.0 (by talk.phase parts.1)
    where
      by : (phase : Phase) → records_in true terms talk phase ≡ true → records_in false terms talk phase ≡ true
      by (Replaying state) is = is
      by (Running state) is = and_from (is_repeatable terms state.track) true (and_parts (is_repeatable terms state.track) (implies (is_none state.track.why) (alters_nothing talk)) is).0 refl
      by Idle is = is
      by Unbegun is = is
      by (Queued from) is = is
      by (Seeking lost) is = is
      by (Greeting lost) is = is
      by (Asked asking) is = is

  pub takes_ready : (talk : Talk) (phase : Phase) (frame : Down) (alive : Bool) (now : ℕ) → talk_ready true terms talk ≡ true → records_in true terms talk phase ≡ true
      → implies (is_unbegun phase) (not (length talk.left == 0)) ≡ true → talk_ready alive terms (takes terms talk phase frame alive now).0 ≡ true
  takes_ready talk phase down.Blocked alive now whole here left = weaker alive talk whole
  takes_ready talk phase (down.Refused cause) alive now whole here left = weaker alive talk whole
  takes_ready talk (Greeting lost) (down.Hello ltxid) alive now whole here left = hello_ready talk lost ltxid alive now here left
  takes_ready talk (Asked asking) (down.OutcomeIs committed completed) alive now whole here left = told_ready talk asking alive now committed completed here
  takes_ready talk (Asked asking) (down.OutcomeRefused ahead.Forgotten horizon) alive now whole here left = refl
  takes_ready talk (Running state) (down.Reply answers draws ltxid) alive now whole here left =
      let parts = and_parts (is_repeatable terms state.track) (implies (is_none state.track.why) (alters_nothing talk)) here in
      reply_ready talk state answers draws ltxid alive now (next_call talk) refl parts.0 parts.1
  takes_ready talk (Replaying state) (down.Reply answers draws ltxid) alive now whole here left = repeated_ready talk state answers draws ltxid alive now (next_of state) here
  takes_ready talk phase frame alive now whole here left = refl

  -- the connection has ended
  pub gone_ready : (talk : Talk) (event now : ℕ) → talk_ready false terms talk ≡ true → talk_ready true terms (talk_step terms talk (Gone event) now).0 ≡ true
  gone_ready talk event now here =
      let parts = and_parts (implies (is_unbegun talk.phase) (not (length talk.left == 0))) (records_in false terms talk talk.phase) here in
      by talk.phase parts.0 parts.1
    where
      by : (phase : Phase) → implies (is_unbegun phase) (not (length talk.left == 0)) ≡ true → records_in false terms talk phase ≡ true → talk_ready true terms (stands talk (loses phase event)) ≡ true
      by Idle left is = refl
      by Unbegun left is = and_from (not (length talk.left == 0)) true left refl
      by (Queued from) left is = and_from (not (length talk.left == 0)) true left refl
      by (Seeking None) left is = and_from (not (length talk.left == 0)) true left refl
      by (Seeking (Some lost)) left is = is
      by (Greeting None) left is = and_from (not (length talk.left == 0)) true left refl
      by (Greeting (Some lost)) left is = is
      by (Asked asking) left is = is
      by (Running state) left is = (and_parts (is_repeatable terms state.track) true is).0
      by (Replaying state) left is = implied_by (is_none state.track.why) (repeats_rightly terms state.track) (λ none. is)
