-- A step keeps a driver sound, its ticks past, and its frames such as the wire takes.
use Rattle.std.proofs.Common.{◌≡◌, ℕ, ◌+◌, ◌-◌, ◌≤◌, ◌<◌, ◌&&◌, if◌then◌else◌, Bool, true, false, not, List, [], ◌∷◌, ◌++◌, length, drop, Option, Some, None, IfSome, IsTrue, Ok, Err, refl, sym, subst, arith, length-append, nat_le}
use Rattle.std.specs.Prelude.{unwrap_or, max}
use Rattle.std.specs.Option.{option_or}
use Rattle.std.specs.List.{AllByRecursion}
use Rattle.std.specs.Str.{bytes_eq}
use Rattle.std.proofs.lemmas.Bool.Decides.{nat_tests}
use Rattle.svc_values.specs.Calls.{IsMade}
use Rattle.svc_values.specs.Identifiers.{IsLtxid}
use Rattle.svc_values.specs.declared.answer.Answer.{Answer}
use Rattle.svc_values.specs.declared.answer.Answer.TheVariants as answer
use Rattle.svc_values.specs.declared.draw.Draw.{Draw}
use Rattle.svc_values.specs.declared.call.Call.{Call}
use Rattle.svc_values.specs.declared.entry.Ltxid.{Ltxid}
use Rattle.svc_values.specs.declared.frame.Up.{Up}
use Rattle.svc_values.specs.declared.frame.Up.TheVariants as up
use Rattle.svc_values.specs.declared.frame.Ahead.TheVariants as ahead
use Rattle.svc_values.specs.declared.frame.Down.{Down}
use Rattle.svc_values.specs.declared.frame.Down.TheVariants as down
use Rattle.canon_bytes.specs.UpBytes.{IsMadeUp}
use Rattle.request_bounds.specs.declared.rule.Why.{Why}
use Rattle.request_bounds.specs.declared.rule.Why.TheVariants as why
use Rattle.request_bounds.specs.declared.rule.After.{After}
use Rattle.request_bounds.specs.declared.rule.After.TheVariants as after
use Rattle.request_bounds.specs.Limits.{IsPast}
use Rattle.request_bounds.specs.meaning.Rules.{Rules}
use Rattle.call_recorder.specs.declared.recorded.Recorded.{Recorded}
use Rattle.client_model.specs.declared.track.Track.{Track}
use Rattle.client_model.specs.meaning.Told as told
use Rattle.client_model.specs.meaning.Told.{over, repeated, completed_on, is_late, uncommitted, told_of}
use Rattle.client_model.specs.meaning.States.{Living, Losing, Asking, Repeating, asked_on, resumed, next_of}
use Rattle.client_model.specs.meaning.Verifying.{submitted, verified_more, mismatch}
use Rattle.client_model.specs.declared.input.Input.{Input}
use Rattle.client_model.specs.declared.input.Input.TheVariants.{Start, Waiting, Lent, Opened, TryFailed, Took, Gone}
use Rattle.client_model.specs.declared.act.Shown.{Shown}
use Rattle.client_model.specs.declared.act.Failed.TheVariants.{Disabled, Mismatch, Incomplete, Retries, ReplayTimeout, Replays, PoolWait, Unknown, BadPeer}
use Rattle.client_model.specs.meaning.Terms.{Terms, Talk, Phase, Idle, Unbegun, Queued, Seeking, Greeting, Asked, Running, Replaying, unsubmitted}
use Rattle.client_model.specs.meaning.Talk.{Step, stands, quiet, sending, if_alive, fails, begin_of, next_call, with_submitted, sends_call, sends_or_ends, goes_on, recorded_as, with_recorded, with_reply, with_counted, with_shown, talk_shown, tag_of, on_hello, on_reply, sends_marked, on_compared, on_repeated, after_completed, on_completed, on_told, takes, lost_of, loses, waits_from, with_tried, talk_step, wants_in, wants_of}
use Rattle.client_model.specs.Conversation.{is_wanted, may_come}
use Rattle.client_model.specs.Laws.{track_of}
use Rattle.driver_core.specs.Driving.{Driving, terms_of, queued_at, ArePast, HasLtxids}
use Rattle.driver_core.specs.InnerSound.{IsMadeRecorded, IsTracked, HoldsLtxids, HasTry, IsSound}
use Rattle.driver_core.proofs.Resting.{all-at, all-rest, all-last, rest-length, rest-shorter, Rests, Kept, Lives, first_in, kept_in, if_alive_made, fails_kept, ends_kept}

-- CALLS -------------------------------------------------------------------------------------------

first_now : (first : Option ℕ) (now : ℕ) → IsPast first now → IsPast (option_or first (Some now)) now
first_now None now p = let z : now ≤ now = omega arith in z
first_now (Some tick) now p = p

module _ (terms : Terms) (now : ℕ) where
  call_kept : (talk : Talk) (state : Living) (alive : Bool) (before : List Up) (shown : Option Shown) (call : Call) → Lives terms talk now state.track state.ltxid → IsMade call
      → AllByRecursion IsMadeUp before → Kept terms now (sends_call terms talk state alive before shown now call)
  call_kept talk state true before shown call l made frames =
      kept_in terms talk now (Running (record state { track = with_submitted terms state.track call now })) (record { send = before ++ up.Call false [] call ∷ []; shown = shown; failed = None; hold = quiet.hold })
      l.rests l.tries (record { within = l.tracked.within; few = l.tracked.few; recorded = l.tracked.recorded }) (first_now state.track.first now l.first) tt l.ltxid_is
      (all-last IsMadeUp before (up.Call false [] call) frames made)
  call_kept talk state false before shown call l made frames =
      kept_in terms talk now (Running state) (record quiet { shown = shown }) l.rests l.tries l.tracked l.first tt l.ltxid_is tt

  or_ends_kept : (talk : Talk) (state : Living) (alive : Bool) (before : List Up) (shown : Option Shown) (found : Option Call) → next_call talk ≡ found → Lives terms talk now state.track state.ltxid
      → AllByRecursion IsMadeUp before → Kept terms now (sends_or_ends terms talk state alive before shown now found)
  or_ends_kept talk state alive before shown None is l frames = ends_kept terms talk now alive shown l.rests
  or_ends_kept talk state alive before shown (Some call) is l frames = call_kept talk state alive before shown call l (all-at IsMade talk.left 0 call l.rests.made is) frames

  goes_kept : (talk : Talk) (state : Living) (alive : Bool) (before : List Up) (shown : Option Shown) → Lives terms talk now state.track state.ltxid
      → AllByRecursion IsMadeUp before → Kept terms now (goes_on terms talk state alive before shown now)
  goes_kept talk state alive before shown l frames = or_ends_kept talk state alive before shown (next_call talk) refl l frames

  -- SHOWING
  record Behind (left : List Call) (track : Track) : Type 0 where
    tracked : IsTracked left track
    first : IsPast track.first now

  module _ (talk : Talk) (track : Track) (call : Call) (answers : List Answer) (draws : List Draw)
      (tracked : IsTracked talk.left track) (past : IsPast track.first now) (made : IsMade call) (is : next_call talk ≡ Some call) where
    abbrev one : Recorded
    one = recorded_as terms call answers draws

    counted : (m : Track) → m.call ≡ track.call → length m.recorder.calls ≤ track.call + 1 → AllByRecursion IsMadeRecorded m.recorder.calls → IsPast m.first now → Behind (drop 1 talk.left) (with_counted m call)
    counted m same within recorded first = record {
      tracked = record {
        within = omega arith;
        few = let f : track.call + length talk.left ≤ 1024 = tracked.few in let e : length (drop 1 talk.left) + 1 ≡ length talk.left = rest-length talk.left call is in omega arith;
        recorded = recorded;
      };
      first = first;
    }

    recorded_behind : (reason : Option Why) → Behind (drop 1 talk.left) (with_counted (with_recorded terms track one reason) call)
    recorded_behind (Some reason) = counted track refl (let w : length track.recorder.calls ≤ track.call = tracked.within in omega arith) tracked.recorded past
    recorded_behind None = by (nat_le terms.recorded (length track.recorder.calls))
      where
        by : (full : Bool) → Behind (drop 1 talk.left) (with_counted (if full then record track { why = Some (why.Full terms.recorded) } else record track { recorder = record track.recorder { calls = track.recorder.calls ++ one ∷ [] } }) call)
        by true = counted (record track { why = Some (why.Full terms.recorded) }) refl (let w : length track.recorder.calls ≤ track.call = tracked.within in omega arith) tracked.recorded past
        by false = counted (record track { recorder = record track.recorder { calls = track.recorder.calls ++ one ∷ [] } }) refl
            (let w : length track.recorder.calls ≤ track.call = tracked.within in let e : length (track.recorder.calls ++ one ∷ []) ≡ length track.recorder.calls + 1 = length-append track.recorder.calls (one ∷ []) in omega arith)
            (all-last IsMadeRecorded track.recorder.calls one tracked.recorded made) past

    reply_behind : (r : After) → Behind (drop 1 talk.left) (with_counted (with_reply terms track one r) call)
    reply_behind after.Record = recorded_behind track.why
    reply_behind after.Purge = counted (record track { recorder = record track.recorder { calls = [] } }) refl (let z : 0 ≤ track.call + 1 = omega arith in z) tt past
    reply_behind (after.Stop reason) = counted (record track { why = option_or track.why (Some reason) }) refl (let w : length track.recorder.calls ≤ track.call = tracked.within in omega arith) tracked.recorded past

  shown_rests : (talk : Talk) (call : Call) (answers : List Answer) → Rests talk now → Rests (talk_shown terms talk call answers) now
  shown_rests talk call answers r = record {
    made = all-rest IsMade talk.left r.made;
    few = let f : length talk.left ≤ 1024 = r.few in let e : length (drop 1 talk.left) ≤ length talk.left = rest-shorter talk.left in omega arith;
    tried = r.tried;
  }

  -- behind a call that is shown
  shown_lives : (talk : Talk) (track : Track) (old ltxid : Ltxid) (call : Call) (answers : List Answer) (draws : List Draw) → next_call talk ≡ Some call → Lives terms talk now track old → IsLtxid ltxid
      → Lives terms (talk_shown terms talk call answers) now (with_shown terms track call answers draws) ltxid
  shown_lives talk track old ltxid call answers draws is l ltxid_is =
      let b : Behind (drop 1 talk.left) (with_shown terms track call answers draws) = reply_behind talk track call answers draws l.tracked l.first (all-at IsMade talk.left 0 call l.rests.made is) is (terms.rules.reply answers) in
      record { rests = shown_rests talk call answers l.rests; tries = l.tries; tracked = b.tracked; first = b.first; ltxid_is = ltxid_is }

  reply_kept : (talk : Talk) (state : Living) (answers : List Answer) (draws : List Draw) (ltxid : Ltxid) (alive : Bool) (found : Option Call) → next_call talk ≡ found
      → Lives terms talk now state.track state.ltxid → IsLtxid ltxid → Kept terms now (on_reply terms talk state answers draws ltxid alive now found)
  reply_kept talk state answers draws ltxid alive None is l ltxid_is = fails_kept terms talk now alive None (BadPeer (tag_of (down.Reply answers draws ltxid))) l.rests
  reply_kept talk state answers draws ltxid alive (Some call) is l ltxid_is =
      goes_kept (talk_shown terms talk call answers) (record { track = with_shown terms state.track call answers draws; ltxid = ltxid }) alive []
      (Some (record { answers = answers; draws = draws; ltxid = ltxid })) (shown_lives talk state.track state.ltxid ltxid call answers draws is l ltxid_is) tt

  -- REPEATED CALLS
  marked_kept : (talk : Talk) (state : Repeating) (alive : Bool) (before : List Up) (found : Option Recorded) → next_of state ≡ found
      → Lives terms talk now state.track state.ltxid → AllByRecursion IsMadeUp before → Kept terms now (sends_marked terms talk state alive before now found)
  marked_kept talk state alive before None is l frames = goes_kept talk (submitted state) alive before None l frames
  marked_kept talk state alive before (Some one) is l frames =
      kept_in terms talk now (Replaying state) (sending (if_alive alive (before ++ up.Call true one.draws one.call ∷ []))) l.rests l.tries l.tracked l.first tt l.ltxid_is
      (if_alive_made alive (before ++ up.Call true one.draws one.call ∷ [])
      (all-last IsMadeUp before (up.Call true one.draws one.call) frames (all-at IsMadeRecorded state.track.recorder.calls state.verified one l.tracked.recorded is)))

  repeated_kept : (talk : Talk) (state : Repeating) (answers : List Answer) (draws : List Draw) (ltxid : Ltxid) (alive : Bool) (found : Option Recorded)
      → Lives terms talk now state.track state.ltxid → Kept terms now (on_repeated terms talk state answers draws ltxid alive now found)
  repeated_kept talk state answers draws ltxid alive None l = fails_kept terms talk now alive None (BadPeer (tag_of (down.Reply answers draws ltxid))) l.rests
  repeated_kept talk state answers draws ltxid alive (Some one) l = by (bytes_eq one.seen.digest (terms.digest answers))
    where
      by : (same : Bool) → Kept terms now (on_compared terms talk alive now (if same then Ok (verified_more state) else Err (mismatch state one.seen.digest (terms.digest answers))))
      by true = marked_kept talk (verified_more state) alive [] (next_of (verified_more state)) refl
          (record { rests = l.rests; tries = l.tries; tracked = l.tracked; first = l.first; ltxid_is = l.ltxid_is }) tt
      by false = fails_kept terms talk now alive None (Mismatch (mismatch state one.seen.digest (terms.digest answers)).1.call one.seen.digest (terms.digest answers)) l.rests

  -- OUTCOMES
  completed_kept : (talk : Talk) (state : Living) (event : ℕ) (alive : Bool) (found : Option Call) → next_call talk ≡ found
      → Lives terms talk now state.track state.ltxid → Kept terms now (on_completed terms talk state event alive now found)
  completed_kept talk state event alive None is l = fails_kept terms talk now alive None (BadPeer (tag_of (down.OutcomeIs true true))) l.rests
  completed_kept talk state event alive (Some call) is l = by (next_call behind) refl
    where
      behind : Talk
      behind = talk_shown terms talk call (answer.Committed ∷ [])

      next : Living
      next = record state { track = with_shown terms state.track call (answer.Committed ∷ []) [] }

      shown : Shown
      shown = record { answers = answer.Committed ∷ []; draws = []; ltxid = state.ltxid }

      lives : Lives terms behind now next.track next.ltxid
      lives = shown_lives talk state.track state.ltxid state.ltxid call (answer.Committed ∷ []) [] is l l.ltxid_is

      unless_lost : (found : Call) → next_call behind ≡ Some found → (lost : Bool)
          → Kept terms now (if lost then fails behind alive (Some shown) (Disabled (why.StateLost next.track.call) event) else sends_call terms behind next alive (begin_of behind ∷ []) (Some shown) now found)
      unless_lost found is-next true = fails_kept terms behind now alive (Some shown) (Disabled (why.StateLost next.track.call) event) lives.rests
      unless_lost found is-next false = call_kept behind next alive (begin_of behind ∷ []) (Some shown) found lives (all-at IsMade behind.left 0 found lives.rests.made is-next) (tt, tt)

      by : (found : Option Call) → next_call behind ≡ found → Kept terms now (after_completed terms behind next event alive shown now found)
      by None is-next = ends_kept terms behind now alive (Some shown) lives.rests
      by (Some found) is-next = unless_lost found is-next (next.track.set_shown && not terms.rules.keeps)

  module _ (talk : Talk) (asking : Asking) (alive : Bool) (l : Lives terms talk now asking.track asking.fresh) where
    late_kept : (late : Bool) → Kept terms now (on_told terms talk asking alive now (if late then told.Late (over asking) else told.Replay (repeated asking)))
    late_kept true = fails_kept terms talk now alive None (ReplayTimeout (unwrap_or asking.track.first 0) now) l.rests
    late_kept false = marked_kept talk (repeated asking) alive (begin_of talk ∷ []) (next_of (repeated asking)) refl
        (record { rests = l.rests; tries = l.tries; tracked = record { within = l.tracked.within; few = l.tracked.few; recorded = l.tracked.recorded }; first = l.first; ltxid_is = l.ltxid_is }) (tt, tt)

    many_kept : (many : Bool) → Kept terms now (on_told terms talk asking alive now (if many then told.Replays (over asking) else (if is_late terms.limits.timeout asking.track.first now then told.Late (over asking) else told.Replay (repeated asking))))
    many_kept true = fails_kept terms talk now alive None (Replays terms.limits.replays asking.event) l.rests
    many_kept false = late_kept (is_late terms.limits.timeout asking.track.first now)

    uncommitted_kept : (reason : Option Why) → Kept terms now (on_told terms talk asking alive now (uncommitted reason asking terms.limits now))
    uncommitted_kept (Some reason) = fails_kept terms talk now alive None (Disabled reason asking.event) l.rests
    uncommitted_kept None = many_kept (nat_le terms.limits.replays asking.track.replays)

    told_kept : (committed completed : Bool) → Kept terms now (on_told terms talk asking alive now (told_of asking committed completed terms.limits now))
    told_kept true true = completed_kept talk (resumed (completed_on asking)) asking.event alive (next_call talk) refl l
    told_kept true false = fails_kept terms talk now alive None (Incomplete asking.ltxid) l.rests
    told_kept false completed = uncommitted_kept asking.track.why

  -- HELLO
  hello_fresh : (talk : Talk) (ltxid : Ltxid) → Rests talk now → talk.tries < max 1 terms.limits.retries → IsLtxid ltxid → Kept terms now (on_hello terms talk None ltxid true now)
  hello_fresh talk ltxid r tries ltxid_is =
      goes_kept talk (record { track = unsubmitted terms; ltxid = ltxid }) true (begin_of talk ∷ []) None (record {
        rests = r;
        tries = tries;
        tracked = record {
          within = let z : 0 ≤ 0 = omega arith in z;
          few = let f : length talk.left ≤ 1024 = r.few in let z : 0 + length talk.left ≤ 1024 = omega arith in z;
          recorded = tt;
        };
        first = tt;
        ltxid_is = ltxid_is;
      }) (tt, tt)

  hello_lost : (talk : Talk) (lost : Losing) (ltxid : Ltxid) → Lives terms talk now lost.track lost.ltxid → IsLtxid ltxid → Kept terms now (on_hello terms talk (Some lost) ltxid true now)
  hello_lost talk lost ltxid l ltxid_is =
      kept_in terms talk now (Asked (asked_on lost ltxid)) (sending (up.Outcome lost.ltxid ∷ [])) l.rests l.tries l.tracked l.first tt (l.ltxid_is, ltxid_is) (l.ltxid_is, tt)

  -- FRAMES
  module _ (talk : Talk) (r : Rests talk now) (tries : talk.tries < max 1 terms.limits.retries) (still : Kept terms now (talk, quiet)) (alive : Bool) where
    hello_kept : (lost : Option Losing) → IsSound terms.limits.retries (stands talk (Greeting lost)) → ArePast (stands talk (Greeting lost)) now → (ltxid : Ltxid) → IsLtxid ltxid → (alive : Bool)
        → Kept terms now (on_hello terms talk lost ltxid alive now)
    hello_kept lost s p ltxid ltxid_is false = record { sound = s; past = p; made = tt }
    hello_kept None s p ltxid ltxid_is true = hello_fresh talk ltxid r tries ltxid_is
    hello_kept (Some lost) s p ltxid ltxid_is true = hello_lost talk lost ltxid (record { rests = r; tries = tries; tracked = s.tracked; first = p.submitted; ltxid_is = s.ltxids }) ltxid_is

    takes_kept : (phase : Phase) → IsSound terms.limits.retries (stands talk phase) → ArePast (stands talk phase) now → (frame : Down) → HasLtxids (Took frame alive)
        → Kept terms now (takes terms talk phase frame alive now)
    takes_kept phase s p down.Blocked ltxids = still
    takes_kept phase s p (down.Refused cause) ltxids = still
    takes_kept (Greeting lost) s p (down.Hello ltxid) ltxids = hello_kept lost s p ltxid ltxids alive
    takes_kept (Asked asking) s p (down.OutcomeIs committed completed) ltxids =
        told_kept talk asking alive (record { rests = r; tries = tries; tracked = s.tracked; first = p.submitted; ltxid_is = s.ltxids.1 }) committed completed
    takes_kept (Asked asking) s p (down.OutcomeRefused ahead.Forgotten horizon) ltxids = fails_kept terms talk now alive None (Unknown asking.ltxid) r
    takes_kept (Running state) s p (down.Reply answers draws ltxid) ltxids =
        reply_kept talk state answers draws ltxid alive (next_call talk) refl (record { rests = r; tries = tries; tracked = s.tracked; first = p.submitted; ltxid_is = s.ltxids }) ltxids
    takes_kept (Replaying state) s p (down.Reply answers draws ltxid) ltxids =
        repeated_kept talk state answers draws ltxid alive (next_of state) (record { rests = r; tries = tries; tracked = s.tracked; first = p.submitted; ltxid_is = s.ltxids })
    takes_kept phase s p frame ltxids = fails_kept terms talk now alive None (BadPeer (tag_of frame)) r

  -- SLOTS AND CONNECTIONS
  module _ (talk : Talk) (s : IsSound terms.limits.retries talk) (p : ArePast talk now) where
    rests : Rests talk now
    rests = record { made = s.made; few = s.few; tried = p.tried }

    waiting_kept : (from : ℕ) → from ≤ now → talk.tries < max 1 terms.limits.retries → (long : Bool)
        → Kept terms now (if long then fails talk false None (PoolWait from now) else (stands talk (Queued (Some from)), quiet))
    waiting_kept from before tries true = fails_kept terms talk now false None (PoolWait from now) rests
    waiting_kept from before tries false = kept_in terms talk now (Queued (Some from)) quiet rests tries tt tt before tt tt

    -- what is lost stays
    lost_tracked : (phase : Phase) → IfSome (track_of phase) (IsTracked talk.left) → IfSome (track_of (Greeting (lost_of phase))) (IsTracked talk.left)
    lost_tracked (Seeking None) t = tt
    lost_tracked (Seeking (Some lost)) t = t
    lost_tracked (Greeting None) t = tt
    lost_tracked (Greeting (Some lost)) t = t
    lost_tracked _ t = tt

    lost_first : (phase : Phase) → IsPast (first_in phase) now → IsPast (first_in (Greeting (lost_of phase))) now
    lost_first (Seeking None) t = tt
    lost_first (Seeking (Some lost)) t = t
    lost_first (Greeting None) t = tt
    lost_first (Greeting (Some lost)) t = t
    lost_first _ t = tt

    lost_ltxids : (phase : Phase) → HoldsLtxids phase → HoldsLtxids (Greeting (lost_of phase))
    lost_ltxids (Seeking None) t = tt
    lost_ltxids (Seeking (Some lost)) t = t
    lost_ltxids (Greeting None) t = tt
    lost_ltxids (Greeting (Some lost)) t = t
    lost_ltxids _ t = tt

    -- the same without a connection
    seeks_tracked : (lost : Option Losing) → IfSome (track_of (Greeting lost)) (IsTracked talk.left) → IfSome (track_of (Seeking lost)) (IsTracked talk.left)
    seeks_tracked None t = tt
    seeks_tracked (Some lost) t = t

    seeks_first : (lost : Option Losing) → IsPast (first_in (Greeting lost)) now → IsPast (first_in (Seeking lost)) now
    seeks_first None t = tt
    seeks_first (Some lost) t = t

    seeks_ltxids : (lost : Option Losing) → HoldsLtxids (Greeting lost) → HoldsLtxids (Seeking lost)
    seeks_ltxids None t = tt
    seeks_ltxids (Some lost) t = t

    opened_kept : (connection : ℕ) → Kept terms now (talk_step terms talk (Opened connection) now)
    opened_kept connection =
        kept_in terms (record talk { tries = 0 }) now (Greeting (lost_of talk.phase)) (sending (up.Connect ∷ []))
        (record { made = s.made; few = s.few; tried = p.tried }) (let z : 0 < max 1 terms.limits.retries = omega arith in z)
        (lost_tracked talk.phase s.tracked) (lost_first talk.phase p.submitted) tt (lost_ltxids talk.phase s.ltxids) (tt, tt)

    tried_rests : Rests (with_tried talk now) now
    tried_rests = record { made = s.made; few = s.few; tried = let z : now ≤ now = omega arith in z }

    few_tries : (retries tries : ℕ) → nat_le retries (tries + 1) ≡ false → tries + 1 < max 1 retries
    few_tries retries tries e = let f : tries + 1 < retries = grind (arith, nat_tests) in omega arith

    tried_kept : (many : Bool) → nat_le terms.limits.retries (talk.tries + 1) ≡ many
        → Kept terms now (if many then fails (with_tried talk now) false None (Retries (talk.tries + 1)) else (stands (with_tried talk now) (Seeking (lost_of talk.phase)), quiet))
    tried_kept true many = fails_kept terms (with_tried talk now) now false None (Retries (talk.tries + 1)) tried_rests
    tried_kept false many =
        kept_in terms (with_tried talk now) now (Seeking (lost_of talk.phase)) quiet tried_rests (few_tries terms.limits.retries talk.tries many)
        (seeks_tracked (lost_of talk.phase) (lost_tracked talk.phase s.tracked)) (seeks_first (lost_of talk.phase) (lost_first talk.phase p.submitted)) tt
        (seeks_ltxids (lost_of talk.phase) (lost_ltxids talk.phase s.ltxids)) tt

    gone_kept : (event : ℕ) → talk.tries < max 1 terms.limits.retries → (phase : Phase) → talk.phase ≡ phase → IsSound terms.limits.retries (stands talk phase) → ArePast (stands talk phase) now
        → Kept terms now (stands talk (loses phase event), quiet)
    gone_kept event tries (Greeting None) is sp pp = kept_in terms talk now (Seeking None) quiet rests tries tt tt tt tt tt
    gone_kept event tries (Greeting (Some lost)) is sp pp = kept_in terms talk now (Seeking (Some lost)) quiet rests tries sp.tracked pp.submitted tt sp.ltxids tt
    gone_kept event tries (Asked asking) is sp pp = kept_in terms talk now (loses (Asked asking) event) quiet rests tries sp.tracked pp.submitted tt sp.ltxids.0 tt
    gone_kept event tries (Running state) is sp pp = kept_in terms talk now (loses (Running state) event) quiet rests tries sp.tracked pp.submitted tt sp.ltxids tt
    gone_kept event tries (Replaying state) is sp pp = kept_in terms talk now (loses (Replaying state) event) quiet rests tries sp.tracked pp.submitted tt sp.ltxids tt
    gone_kept event tries Idle is sp pp = record { sound = sp; past = pp; made = tt }
    gone_kept event tries Unbegun is sp pp = record { sound = sp; past = pp; made = tt }
    gone_kept event tries (Queued from) is sp pp = record { sound = sp; past = pp; made = tt }
    gone_kept event tries (Seeking lost) is sp pp = record { sound = sp; past = pp; made = tt }

    -- what comes where it is wanted comes to a request that goes on
    tries_left : (phase : Phase) (input : Input) → is_wanted (wants_in terms talk phase now) input ≡ true → HasTry terms.limits.retries talk.tries phase → talk.tries < max 1 terms.limits.retries
    tries_left Idle input w h = absurd (let none : ⊥ = cc in none)
    tries_left Unbegun input w h = h
    tries_left (Queued from) input w h = h
    tries_left (Seeking lost) input w h = h
    tries_left (Greeting lost) input w h = h
    tries_left (Asked state) input w h = h
    tries_left (Running state) input w h = h
    tries_left (Replaying state) input w h = h

    waits_before : (phase : Phase) → IsPast (queued_at phase) now → waits_from phase now ≤ now
    waits_before (Queued None) q = let z : now ≤ now = omega arith in z
    waits_before (Queued (Some from)) q = q
    waits_before _ q = let z : now ≤ now = omega arith in z

    and_left : (a b : Bool) → (a && b) ≡ true → a ≡ true
    and_left true b e = refl
    and_left false b e = e

    pub step_kept : (input : Input) (gone : Bool) → IsTrue (may_come gone (wants_of terms talk now) input) → HasLtxids input → Kept terms now (talk_step terms talk input now)
    step_kept input gone may ltxids = by input ltxids (tries_left talk.phase input (and_left (is_wanted (wants_of terms talk now) input) _ may) s.tries)
      where
        by : (input : Input) → HasLtxids input → talk.tries < max 1 terms.limits.retries → Kept terms now (talk_step terms talk input now)
        by Start ltxids tries = kept_in terms talk now (Queued None) quiet rests tries tt tt tt tt tt
        by Waiting ltxids tries = waiting_kept (waits_from talk.phase now) (waits_before talk.phase p.queued) tries (nat_le terms.limits.wait (now - waits_from talk.phase now))
        by (Lent connection ltxid) ltxids tries = hello_fresh talk ltxid rests tries ltxids
        by (Opened connection) ltxids tries = opened_kept connection
        by TryFailed ltxids tries = tried_kept (nat_le terms.limits.retries (talk.tries + 1)) refl
        by (Took frame alive) ltxids tries = takes_kept talk rests tries (record { sound = s; past = p; made = tt }) alive talk.phase s p frame ltxids
        by (Gone event) ltxids tries = gone_kept event tries talk.phase refl s p

-- the same of a driver, as it is seen
module _ {R : Type 0} (rules : R → Rules) where
  abbrev terms_in : Driving R → Terms
  terms_in driving = terms_of (rules driving.rule) driving.limits driving.recorded

  pub driver_kept : (driving seen : Driving R) (input : Input) (now : ℕ) (after : Step) → driving ≡ seen
      → IsSound driving.limits.retries driving.talk → ArePast seen.talk now
      → IsTrue (may_come seen.gone_next (wants_of (terms_in seen) seen.talk now) input) → HasLtxids input
      → after ≡ talk_step (terms_in driving) driving.talk input now → Kept (terms_in driving) now after
  driver_kept driving seen input now after same sound past wanted ltxids is =
      let before : ArePast driving.talk now = subst (λ (d : Driving R). ArePast d.talk now) (sym same) past in
      let may : IsTrue (may_come driving.gone_next (wants_of (terms_in driving) driving.talk now) input) =
      subst (λ (d : Driving R). IsTrue (may_come d.gone_next (wants_of (terms_in d) d.talk now) input)) (sym same) wanted in
      subst (λ s. Kept (terms_in driving) now s) (sym is) (step_kept (terms_in driving) now driving.talk sound before input driving.gone_next may ltxids)
