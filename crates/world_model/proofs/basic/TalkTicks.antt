-- A request's conversation keeps ticks and events that are past, whatever it hears.
use Rattle.std.proofs.Common.{◌≡◌, refl, sym, subst, le_refl}
use Rattle.std.specs.Prelude.{ℕ, ◌+◌, ◌-◌, Bool, true, false, not, ◌&&◌, nat_le, List, [], ◌∷◌, length, Option, Some, None, Ok, Err, if◌then◌else◌, bytes_eq}
use Rattle.std.specs.Option.{option_or, option_map_or}
use Rattle.std.proofs.lemmas.Bool.{and_parts, and_from}
use Rattle.svc_values.specs.declared.answer.Answer.{Answer}
use Rattle.svc_values.specs.declared.answer.Answer.TheVariants as answer
use Rattle.svc_values.specs.declared.draw.Draw.{Draw}
use Rattle.svc_values.specs.declared.call.Call.{Call}
use Rattle.svc_values.specs.declared.entry.Ltxid.{Ltxid}
use Rattle.svc_values.specs.declared.frame.Up.{Up}
use Rattle.svc_values.specs.declared.frame.Ahead.TheVariants as ahead
use Rattle.svc_values.specs.declared.frame.Down.{Down}
use Rattle.svc_values.specs.declared.frame.Down.TheVariants as down
use Rattle.request_bounds.specs.declared.rule.Why.{Why}
use Rattle.request_bounds.specs.declared.rule.Why.TheVariants as why
use Rattle.request_bounds.specs.declared.rule.After.{After}
use Rattle.request_bounds.specs.declared.rule.After.TheVariants as after
use Rattle.call_recorder.specs.declared.recorded.Recorded.{Recorded}
use Rattle.client_model.specs.declared.track.Track.{Track}
use Rattle.client_model.specs.meaning.Told.{told_of}
use Rattle.client_model.specs.meaning.Told as told
use Rattle.client_model.specs.meaning.States.{Living, Losing, Asking, Repeating, asked_on, resumed, next_of}
use Rattle.client_model.specs.meaning.Verifying.{submitted}
use Rattle.client_model.specs.declared.input.Input.{Input}
use Rattle.client_model.specs.declared.input.Input.TheVariants.{Start, Waiting, Lent, Opened, TryFailed, Took, Gone}
use Rattle.client_model.specs.declared.act.Shown.{Shown}
use Rattle.client_model.specs.declared.act.Failed.TheVariants.{Disabled, Retries, PoolWait}
use Rattle.client_model.specs.meaning.Terms.{Terms, Talk, Phase, Idle, Unbegun, Queued, Seeking, Greeting, Asked, Running, Replaying, unsubmitted}
use Rattle.client_model.specs.meaning.Talk.{stands, fails, begin_of, sends_call, sends_or_ends, goes_on, with_submitted, next_call, with_recorded, with_reply, with_shown, recorded_as, talk_shown, on_hello, on_reply, sends_marked, repeats, on_compared, on_repeated, after_completed, on_completed, on_told, takes, lost_of, loses, waits_from, with_tried, talk_step, quiet}
use Rattle.client_model.specs.meaning.Told.{uncommitted, is_late, repeated, over, completed_on}
use Rattle.client_model.specs.meaning.Verifying.{verified_more, mismatch}
use Rattle.request_bounds.specs.declared.clocked.Clocked.{Clocked}
use Rattle.client_model.specs.Laws.{track_of}
use Rattle.world_model.specs.records.Basic.{at_most}
use Rattle.world_model.specs.records.Basic as basic
use Rattle.world_model.specs.Wanted.{Wanted, wanted_in}
use Rattle.world_model.proofs.events.Tests.{le_to}
use Rattle.world_model.proofs.events.ClientsKept.{is_past_input}

abbrev pub first_at_most : ℕ → Option Track → Bool
first_at_most tick track = option_map_or (λ one. at_most tick one.first) track true

abbrev pub wanted_at_most : ℕ → Option Wanted → Bool
wanted_at_most event wanted = option_map_or (λ one. nat_le one.event event) wanted true

abbrev pub phase_at_most : ℕ → ℕ → Phase → Bool
phase_at_most event tick phase = at_most tick (basic.waits_from phase) && (first_at_most tick (track_of phase) && wanted_at_most event (wanted_in phase))

abbrev pub talk_at_most : ℕ → ℕ → Talk → Bool
talk_at_most event tick talk = at_most tick talk.last_try && phase_at_most event tick talk.phase

module _ (event tick : ℕ) where
  self : nat_le tick tick ≡ true
  self = le_to tick tick (le_refl tick)

  or_now : (first : Option ℕ) → at_most tick first ≡ true → at_most tick (option_or first (Some tick)) ≡ true
  or_now None is = self
  or_now (Some one) is = is

  -- a conversation whose last try is past, in such a phase
  stands_so : (talk : Talk) (phase : Phase) → at_most tick talk.last_try ≡ true → phase_at_most event tick phase ≡ true → talk_at_most event tick (stands talk phase) ≡ true
  stands_so talk phase last here = and_from (at_most tick talk.last_try) (phase_at_most event tick phase) last here

  idle : (talk : Talk) → at_most tick talk.last_try ≡ true → talk_at_most event tick (stands talk Idle) ≡ true
  idle talk last = stands_so talk Idle last refl

  running : (state : Living) → at_most tick state.track.first ≡ true → phase_at_most event tick (Running state) ≡ true
  running state first = and_from (at_most tick state.track.first) true first refl

  replaying : (state : Repeating) → at_most tick state.track.first ≡ true → phase_at_most event tick (Replaying state) ≡ true
  replaying state first = and_from (at_most tick state.track.first) true first refl

  call_so : (terms : Terms) (talk : Talk) (state : Living) (alive : Bool) (before : List Up) (shown : Option Shown) (call : Call) → at_most tick talk.last_try ≡ true → at_most tick state.track.first ≡ true
      → talk_at_most event tick (sends_call terms talk state alive before shown tick call).0 ≡ true
  call_so terms talk state true before shown call last first =
      stands_so talk (Running (record state { track = with_submitted terms state.track call tick })) last (running (record state { track = with_submitted terms state.track call tick }) (or_now state.track.first first))
  call_so terms talk state false before shown call last first = stands_so talk (Running state) last (running state first)

  next_so : (terms : Terms) (talk : Talk) (state : Living) (alive : Bool) (before : List Up) (shown : Option Shown) (call : Option Call) → at_most tick talk.last_try ≡ true → at_most tick state.track.first ≡ true
      → talk_at_most event tick (sends_or_ends terms talk state alive before shown tick call).0 ≡ true
  next_so terms talk state alive before shown None last first = idle talk last
  next_so terms talk state alive before shown (Some call) last first = call_so terms talk state alive before shown call last first

  goes_so : (terms : Terms) (talk : Talk) (state : Living) (alive : Bool) (before : List Up) (shown : Option Shown) → at_most tick talk.last_try ≡ true → at_most tick state.track.first ≡ true
      → talk_at_most event tick (goes_on terms talk state alive before shown tick).0 ≡ true
  goes_so terms talk state alive before shown last first = next_so terms talk state alive before shown (next_call talk) last first

  -- SHOWING ---------------------------------------------------------------------------------------

  recorded_by : (a b : Track) (test : Bool) (first : Option ℕ) → a.first ≡ first → b.first ≡ first → (if test then a else b).first ≡ first
  recorded_by a b true first one other = one
  recorded_by a b false first one other = other

  recorded_first : (terms : Terms) (track : Track) (one : Recorded) (reason : Option Why) → (with_recorded terms track one reason).first ≡ track.first
  recorded_first terms track one (Some reason) = refl
  recorded_first terms track one None = recorded_by _ _ (nat_le terms.recorded (length track.recorder.calls)) track.first refl refl

  reply_first : (terms : Terms) (track : Track) (one : Recorded) (after : After) → (with_reply terms track one after).first ≡ track.first
  reply_first terms track one after.Record = recorded_first terms track one track.why
  reply_first terms track one after.Purge = refl
  reply_first terms track one (after.Stop reason) = refl

  shown_first : (terms : Terms) (track : Track) (call : Call) (answers : List Answer) (draws : List Draw) → at_most tick track.first ≡ true → at_most tick (with_shown terms track call answers draws).first ≡ true
  shown_first terms track call answers draws is =
      subst (λ (first : Option ℕ). at_most tick first ≡ true) (sym (reply_first terms track (recorded_as terms call answers draws) (terms.rules.reply answers))) is

  reply_so : (terms : Terms) (talk : Talk) (state : Living) (answers : List Answer) (draws : List Draw) (ltxid : Ltxid) (alive : Bool) (call : Option Call) → at_most tick talk.last_try ≡ true
      → at_most tick state.track.first ≡ true → talk_at_most event tick (on_reply terms talk state answers draws ltxid alive tick call).0 ≡ true
  reply_so terms talk state answers draws ltxid alive None last first = idle talk last
  reply_so terms talk state answers draws ltxid alive (Some call) last first =
      goes_so terms (talk_shown terms talk call answers) (record { track = with_shown terms state.track call answers draws; ltxid = ltxid }) alive [] (Some (record { answers = answers; draws = draws; ltxid = ltxid })) last
      (shown_first terms state.track call answers draws first)

  -- REPLAYS ---------------------------------------------------------------------------------------

  marked_so : (terms : Terms) (talk : Talk) (state : Repeating) (alive : Bool) (before : List Up) (one : Option Recorded) → at_most tick talk.last_try ≡ true → at_most tick state.track.first ≡ true
      → talk_at_most event tick (sends_marked terms talk state alive before tick one).0 ≡ true
  marked_so terms talk state alive before None last first = goes_so terms talk (submitted state) alive before None last first
  marked_so terms talk state alive before (Some one) last first = stands_so talk (Replaying state) last (replaying state first)

  repeats_so : (terms : Terms) (talk : Talk) (state : Repeating) (alive : Bool) (before : List Up) → at_most tick talk.last_try ≡ true → at_most tick state.track.first ≡ true
      → talk_at_most event tick (repeats terms talk state alive before tick).0 ≡ true
  repeats_so terms talk state alive before last first = marked_so terms talk state alive before (next_of state) last first

  compared_so : (terms : Terms) (talk : Talk) (alive : Bool) (one : Recorded) (state : Repeating) (now : List ℕ) (same : Bool) → at_most tick talk.last_try ≡ true → at_most tick state.track.first ≡ true
      → talk_at_most event tick (on_compared terms talk alive tick (if same then Ok (verified_more state) else Err (mismatch state one.seen.digest now))).0 ≡ true
  compared_so terms talk alive one state now true last first = repeats_so terms talk (verified_more state) alive [] last first
  compared_so terms talk alive one state now false last first = idle talk last

  repeated_so : (terms : Terms) (talk : Talk) (state : Repeating) (answers : List Answer) (draws : List Draw) (ltxid : Ltxid) (alive : Bool) (one : Option Recorded) → at_most tick talk.last_try ≡ true
      → at_most tick state.track.first ≡ true → talk_at_most event tick (on_repeated terms talk state answers draws ltxid alive tick one).0 ≡ true
  repeated_so terms talk state answers draws ltxid alive None last first = idle talk last
  repeated_so terms talk state answers draws ltxid alive (Some one) last first = compared_so terms talk alive one state (terms.digest answers) (bytes_eq one.seen.digest (terms.digest answers)) last first

  -- OUTCOMES --------------------------------------------------------------------------------------

  fails_or_calls : (terms : Terms) (talk : Talk) (state : Living) (lost : ℕ) (alive : Bool) (shown : Shown) (call : Call) (test : Bool) → at_most tick talk.last_try ≡ true → at_most tick state.track.first ≡ true
      → talk_at_most event tick (if test then fails talk alive (Some shown) (Disabled (why.StateLost state.track.call) lost) else sends_call terms talk state alive (begin_of talk ∷ []) (Some shown) tick call).0 ≡ true
  fails_or_calls terms talk state lost alive shown call true last first = idle talk last
  fails_or_calls terms talk state lost alive shown call false last first = call_so terms talk state alive (begin_of talk ∷ []) (Some shown) call last first

  after_so : (terms : Terms) (talk : Talk) (state : Living) (lost : ℕ) (alive : Bool) (shown : Shown) (call : Option Call) → at_most tick talk.last_try ≡ true → at_most tick state.track.first ≡ true
      → talk_at_most event tick (after_completed terms talk state lost alive shown tick call).0 ≡ true
  after_so terms talk state lost alive shown None last first = idle talk last
  after_so terms talk state lost alive shown (Some call) last first = fails_or_calls terms talk state lost alive shown call (state.track.set_shown && not terms.rules.keeps) last first

  completed_so : (terms : Terms) (talk : Talk) (state : Living) (lost : ℕ) (alive : Bool) (call : Option Call) → at_most tick talk.last_try ≡ true → at_most tick state.track.first ≡ true
      → talk_at_most event tick (on_completed terms talk state lost alive tick call).0 ≡ true
  completed_so terms talk state lost alive None last first = idle talk last
  completed_so terms talk state lost alive (Some call) last first =
      let after : Talk = talk_shown terms talk call (answer.Committed ∷ []) in
      let next : Living = record state { track = with_shown terms state.track call (answer.Committed ∷ []) [] } in
      after_so terms after next lost alive (record { answers = answer.Committed ∷ []; draws = []; ltxid = state.ltxid }) (next_call after) last (shown_first terms state.track call (answer.Committed ∷ []) [] first)

  late_so : (terms : Terms) (talk : Talk) (asking : Asking) (alive late : Bool) → at_most tick talk.last_try ≡ true → at_most tick asking.track.first ≡ true
      → talk_at_most event tick (on_told terms talk asking alive tick (if late then told.Late (over asking) else told.Replay (repeated asking))).0 ≡ true
  late_so terms talk asking alive true last first = idle talk last
  late_so terms talk asking alive false last first = repeats_so terms talk (repeated asking) alive (begin_of talk ∷ []) last first

  many_so : (terms : Terms) (talk : Talk) (asking : Asking) (alive many late : Bool) → at_most tick talk.last_try ≡ true → at_most tick asking.track.first ≡ true
      → talk_at_most event tick (on_told terms talk asking alive tick (if many then told.Replays (over asking) else (if late then told.Late (over asking) else told.Replay (repeated asking)))).0 ≡ true
  many_so terms talk asking alive true late last first = idle talk last
  many_so terms talk asking alive false late last first = late_so terms talk asking alive late last first

  uncommitted_so : (terms : Terms) (talk : Talk) (asking : Asking) (alive : Bool) (reason : Option Why) (limits : Clocked) → at_most tick talk.last_try ≡ true → at_most tick asking.track.first ≡ true
      → talk_at_most event tick (on_told terms talk asking alive tick (uncommitted reason asking limits tick)).0 ≡ true
  uncommitted_so terms talk asking alive (Some reason) limits last first = idle talk last
  uncommitted_so terms talk asking alive None limits last first =
      many_so terms talk asking alive (nat_le limits.replays asking.track.replays) (is_late limits.timeout asking.track.first tick) last first

  told_so : (terms : Terms) (talk : Talk) (asking : Asking) (alive committed completed : Bool) (limits : Clocked) → at_most tick talk.last_try ≡ true → at_most tick asking.track.first ≡ true
      → talk_at_most event tick (on_told terms talk asking alive tick (told_of asking committed completed limits tick)).0 ≡ true
  told_so terms talk asking alive true true limits last first = completed_so terms talk (resumed (completed_on asking)) asking.event alive (next_call talk) last first
  told_so terms talk asking alive true false limits last first = idle talk last
  told_so terms talk asking alive false completed limits last first = uncommitted_so terms talk asking alive asking.track.why limits last first

  -- FRAMES ----------------------------------------------------------------------------------------

  hello_so : (terms : Terms) (talk : Talk) (lost : Option Losing) (ltxid : Ltxid) (alive : Bool) → at_most tick talk.last_try ≡ true → phase_at_most event tick (Greeting lost) ≡ true
      → talk_at_most event tick (on_hello terms talk lost ltxid alive tick).0 ≡ true
  hello_so terms talk lost ltxid false last here = stands_so talk (Greeting lost) last here
  hello_so terms talk None ltxid true last here = goes_so terms talk (record { track = unsubmitted terms; ltxid = ltxid }) true (begin_of talk ∷ []) None last refl
  hello_so terms talk (Some lost) ltxid true last here = stands_so talk (Asked (asked_on lost ltxid)) last here

  -- in a phase with a track
  first_of : (first rest : Bool) → (first && rest) ≡ true → first ≡ true
  first_of first rest here = (and_parts first rest here).0

  takes_so : (terms : Terms) (talk : Talk) (phase : Phase) (frame : Down) (alive : Bool) → talk_at_most event tick talk ≡ true → at_most tick talk.last_try ≡ true → phase_at_most event tick phase ≡ true
      → talk_at_most event tick (takes terms talk phase frame alive tick).0 ≡ true
  takes_so terms talk phase down.Blocked alive all last here = all
  takes_so terms talk phase (down.Refused cause) alive all last here = all
  takes_so terms talk (Greeting lost) (down.Hello ltxid) alive all last here = hello_so terms talk lost ltxid alive last here
  takes_so terms talk (Asked asking) (down.OutcomeIs committed completed) alive all last here =
      told_so terms talk asking alive committed completed terms.limits last (first_of (at_most tick asking.track.first) (nat_le asking.event event) here)
  takes_so terms talk (Asked asking) (down.OutcomeRefused ahead.Forgotten horizon) alive all last here = idle talk last
  takes_so terms talk (Running state) (down.Reply answers draws ltxid) alive all last here =
      reply_so terms talk state answers draws ltxid alive (next_call talk) last (first_of (at_most tick state.track.first) true here)
  takes_so terms talk (Replaying state) (down.Reply answers draws ltxid) alive all last here =
      repeated_so terms talk state answers draws ltxid alive (next_of state) last (first_of (at_most tick state.track.first) true here)
  takes_so terms talk phase frame alive all last here = idle talk last

  -- SLOTS AND CONNECTIONS -------------------------------------------------------------------------

  waits_so : (terms : Terms) (talk : Talk) (from : ℕ) (long : Bool) → at_most tick talk.last_try ≡ true → nat_le from tick ≡ true
      → talk_at_most event tick (if long then fails talk false None (PoolWait from tick) else (stands talk (Queued (Some from)), quiet)).0 ≡ true
  waits_so terms talk from true last here = idle talk last
  waits_so terms talk from false last here = stands_so talk (Queued (Some from)) last (and_from (nat_le from tick) true here refl)

  from_so : (phase : Phase) → phase_at_most event tick phase ≡ true → nat_le (waits_from phase tick) tick ≡ true
  from_so (Queued None) here = self
  from_so (Queued (Some from)) here = first_of (nat_le from tick) true here
  from_so Idle here = self
  from_so Unbegun here = self
  from_so (Seeking lost) here = self
  from_so (Greeting lost) here = self
  from_so (Asked asking) here = self
  from_so (Running state) here = self
  from_so (Replaying state) here = self

  lost_so : (phase : Phase) → phase_at_most event tick phase ≡ true → phase_at_most event tick (Seeking (lost_of phase)) ≡ true
  lost_so (Seeking lost) here = here
  lost_so (Greeting lost) here = here
  lost_so phase here = refl

  greeting_so : (lost : Option Losing) → phase_at_most event tick (Seeking lost) ≡ true → phase_at_most event tick (Greeting lost) ≡ true
  greeting_so None here = refl
  greeting_so (Some lost) here = here

  tried_so : (talk : Talk) (phase : Phase) (tries : ℕ) (many : Bool) → phase_at_most event tick (Seeking (lost_of phase)) ≡ true
      → talk_at_most event tick (if many then fails (with_tried talk tick) false None (Retries tries) else (stands (with_tried talk tick) (Seeking (lost_of phase)), quiet)).0 ≡ true
  tried_so talk phase tries true here = idle (with_tried talk tick) self
  tried_so talk phase tries false here = stands_so (with_tried talk tick) (Seeking (lost_of phase)) self here

  loses_so : (phase : Phase) (ended : ℕ) → nat_le ended event ≡ true → phase_at_most event tick phase ≡ true → phase_at_most event tick (loses phase ended) ≡ true
  loses_so (Greeting None) ended past here = refl
  loses_so (Greeting (Some lost)) ended past here = here
  loses_so (Asked asking) ended past here = here
  loses_so (Running state) ended past here = and_from (at_most tick state.track.first) (nat_le ended event) (first_of (at_most tick state.track.first) true here) past
  loses_so (Replaying state) ended past here = and_from (at_most tick state.track.first) (nat_le ended event) (first_of (at_most tick state.track.first) true here) past
  loses_so phase ended past here = here

  -- whatever it hears
  pub hears_so : (terms : Terms) (talk : Talk) (input : Input) → is_past_input event input ≡ true → talk_at_most event tick talk ≡ true → talk_at_most event tick (talk_step terms talk input tick).0 ≡ true
  hears_so terms talk input past all = by input past
    where
      last : at_most tick talk.last_try ≡ true
      last = (and_parts (at_most tick talk.last_try) (phase_at_most event tick talk.phase) all).0

      here : phase_at_most event tick talk.phase ≡ true
      here = (and_parts (at_most tick talk.last_try) (phase_at_most event tick talk.phase) all).1

      by : (input : Input) → is_past_input event input ≡ true → talk_at_most event tick (talk_step terms talk input tick).0 ≡ true
      by Start past = stands_so talk (Queued None) last refl
      by Waiting past = waits_so terms talk (waits_from talk.phase tick) (nat_le terms.limits.wait (tick - waits_from talk.phase tick)) last (from_so talk.phase here)
      by (Lent connection ltxid) past = hello_so terms talk None ltxid true last refl
      by (Opened connection) past = and_from (at_most tick talk.last_try) (phase_at_most event tick (Greeting (lost_of talk.phase))) last (greeting_so (lost_of talk.phase) (lost_so talk.phase here))
      by TryFailed past = tried_so talk talk.phase (talk.tries + 1) (nat_le terms.limits.retries (talk.tries + 1)) (lost_so talk.phase here)
      by (Took frame alive) past = takes_so terms talk talk.phase frame alive all last here
      by (Gone ended) past = stands_so talk (loses talk.phase ended) last (loses_so talk.phase ended past here)
