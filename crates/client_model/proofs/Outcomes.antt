-- The outcome of a lost identifier.
use Rattle.std.proofs.Common.{◌≡◌, inl, inr, ⊎_elim, ℕ, ◌+◌, ◌-◌, ◌≤◌, ◌<◌, ◌&&◌, Bool, true, false, not, cond, List, [], ◌∷◌, ◌++◌, length, Option, Some, None, if◌then◌else◌, refl, sym, ap, subst, ◌∙◌, arith, nat_le}
use Rattle.std.specs.Prelude.{slice_get, count_by, nat_lt, unwrap_or, IsSome}
use Rattle.std.proofs.lemmas.List.Sums.{fold-append}
use Rattle.std.proofs.lemmas.Bool.Decides.{nat_tests}
use Rattle.svc_values.specs.declared.value.Value.{Value}
use Rattle.svc_values.specs.declared.answer.Answer.TheVariants as answer
use Rattle.svc_values.specs.declared.call.Call.{Call}
use Rattle.svc_values.specs.declared.frame.Down.TheVariants as down
use Rattle.request_bounds.specs.declared.rule.Why.{Why}
use Rattle.request_bounds.specs.declared.rule.Why.TheVariants as why
use Rattle.client_model.specs.declared.track.Track.{Track}
use Rattle.client_model.specs.meaning.Told as told
use Rattle.client_model.specs.meaning.States.{Living, Asking, resumed, next_of}
use Rattle.client_model.specs.meaning.Told.{over, completed_on, repeated, is_late, uncommitted, told_of}
use Rattle.client_model.specs.declared.input.Input.TheVariants.{Took}
use Rattle.client_model.specs.declared.act.Shown.{Shown}
use Rattle.client_model.specs.declared.act.Hold.TheVariants.{Keep}
use Rattle.client_model.specs.declared.act.Failed.TheVariants.{Disabled, Incomplete, Replays, ReplayTimeout}
use Rattle.client_model.specs.meaning.Terms.{Terms, Talk, Asked}
use Rattle.client_model.specs.meaning.Talk.{fails, sends_call, begin_of, next_call, with_shown, talk_shown, after_completed, on_completed, on_told}
use Rattle.client_model.specs.Conversation.{is_gone_next}
use Rattle.client_model.specs.meaning.Account.{Account, Outcome, Answered, hears_outcome, shows_call, shows_found, shows}
use Rattle.client_model.specs.Account.{is_uncommitted, count_uncommitted}
use Rattle.client_model.specs.Laws.{FollowsOutcome, is_expected, WasEndedBy, LosesState, HadReplays}
use Rattle.client_model.proofs.Fits.{Tracked, Few, Fits, IsTalk, Good, Calm}
use Rattle.client_model.proofs.Calming.{outcome_calm}
use Rattle.client_model.proofs.Sending.{fails_good, ends_good}
use Rattle.client_model.proofs.Showing.{shown_tracked, length-last}
use Rattle.client_model.proofs.Going.{Stands, talk_same, tracked_few, begins_again_good}
use Rattle.client_model.proofs.Stepped.{Stepped}
use Rattle.client_model.proofs.Left.{next_left, shown_talk}
use Rattle.client_model.proofs.Repeating.{last-last, begun_marked_good}

le_true : (a b : ℕ) → nat_le a b ≡ true → a ≤ b
le_true a b e = grind (arith, nat_tests)

le_false : (a b : ℕ) → nat_le a b ≡ false → b < a
le_false a b e = grind (arith, nat_tests)

lt_false : (a b : ℕ) → nat_lt a b ≡ false → b ≤ a
lt_false a b e = grind (arith, nat_tests)

lt_true : (a b : ℕ) → nat_lt a b ≡ true → a < b
lt_true a b e = grind (arith, nat_tests)

and_left : (a b : Bool) → (a && b) ≡ true → a ≡ true
and_left true b e = refl
and_left false b e = e

and_never : (a b : Bool) → a ≡ true → b ≡ false → (a && not b) ≡ false → ⊥
and_never true true p q e = let no : ⊥ = cc in no
and_never true false p q e = let no : ⊥ = cc in no
and_never false b p q e = let no : ⊥ = cc in no

and_not_right : (a b : Bool) → (a && not b) ≡ true → b ≡ false
and_not_right true true e = let none : ⊥ = cc in absurd none
and_not_right true false e = refl
and_not_right false b e = let none : ⊥ = cc in absurd none

count-last : (xs : List Outcome) (x : Outcome) → count_by is_uncommitted (xs ++ x ∷ []) ≡ count_by is_uncommitted xs + cond (is_uncommitted x) 1 0
count-last xs x = fold-append (λ n y. n + cond (is_uncommitted y) 1 0) 0 xs (x ∷ [])

-- the first tick, where it is too late
late_first : (timeout : ℕ) (first : Option ℕ) (now : ℕ) → is_late timeout first now ≡ true → (first ≡ Some (unwrap_or first 0)) × (timeout < now - unwrap_or first 0)
late_first timeout None now e = absurd (let none : ⊥ = cc in none)
late_first timeout (Some first) now e = (refl, lt_true timeout (now - first) e)

module _ (terms : Terms) (settings : List (List ℕ × Value)) (calls : List Call) where
  module _ (a : Account) (state : Asking) (alive : Bool) (now : ℕ) (talk : Talk)
      (talks : IsTalk terms settings calls a talk) (fits : Fits terms calls a false (Asked state)) where
    abbrev outcome_of : Bool → Bool → Outcome
    outcome_of committed completed = record { ltxid = state.ltxid; committed = committed; completed = completed }

    abbrev answered_of : Bool → Bool → Answered
    answered_of committed completed = record { outcome = outcome_of committed completed; held = a.held; event = a.ended; lost = length a.shown; recorded = a.since_purge }

    -- the account with the outcome
    abbrev heard : Bool → Bool → Account
    heard committed completed = record a {
      outcomes = a.outcomes ++ outcome_of committed completed ∷ [];
      held = a.session.ltxid;
      ended = None;
      session = record a.session { answered = Some (answered_of committed completed) };
    }

    heard_is : (committed completed : Bool) → hears_outcome a committed completed a.last ≡ heard committed completed
    heard_is committed completed = ap (hears_outcome a committed completed) fits.1.last

    heard_talks : (committed completed : Bool) → IsTalk terms settings calls (heard committed completed) talk
    heard_talks committed completed = talk_same terms settings calls a (heard committed completed) talk refl refl refl talks

    heard_few : (committed completed : Bool) → Few terms (heard committed completed)
    heard_few true completed =
        let e : state.track.replays ≡ count_uncommitted a = fits.0.tracked.replays in
        let f : state.track.replays ≤ terms.limits.replays = fits.0.tracked.few in
        let g : count_uncommitted (heard true completed) ≡ count_uncommitted a + 0 = count-last a.outcomes (outcome_of true completed) in
        omega arith
    heard_few false completed =
        let e : state.track.replays ≡ count_uncommitted a = fits.0.tracked.replays in
        let f : state.track.replays ≤ terms.limits.replays = fits.0.tracked.few in
        let g : count_uncommitted (heard false completed) ≡ count_uncommitted a + 1 = count-last a.outcomes (outcome_of false completed) in
        omega arith

    -- the track behind an outcome: `k` has counted it
    heard_tracked : (committed completed : Bool) (k : Track) → k.call ≡ state.track.call → k.why ≡ state.track.why → k.recorder ≡ state.track.recorder
        → k.first ≡ state.track.first → k.set_shown ≡ state.track.set_shown
        → k.replays ≡ count_uncommitted (heard committed completed) → k.replays ≤ terms.limits.replays
        → Tracked terms calls (heard committed completed) k
    heard_tracked committed completed k e1 e2 e3 e4 e5 e6 few =
        let t : Tracked terms calls a state.track = fits.0.tracked in
        record {
          call = e1 ∙ t.call;
          why = e2 ∙ t.why;
          recorded = λ none. ap (λ r. r.calls) e3 ∙ t.recorded (sym e2 ∙ none);
          within = let w : length state.track.recorder.calls ≤ state.track.call = t.within in
              let f : length k.recorder.calls ≡ length state.track.recorder.calls = ap (λ r. length r.calls) e3 in
              let g : k.call ≡ state.track.call = e1 in omega arith;
          replays = e6;
          few = few;
          first = e4 ∙ t.first;
          set_shown = e5 ∙ t.set_shown;
          recalls = record { before = t.recalls.before; since = t.recalls.since; shown = t.recalls.shown; digests = t.recalls.digests };
        }

    -- the event that ended the connection of the session whose identifier was asked
    ended_here : (b : Account) (committed completed : Bool) → b.session ≡ (heard committed completed).session → WasEndedBy b state.event
    ended_here b committed completed same = record { answered = answered_of committed completed; is_answered = ap (λ s. s.answered) same; ended = fits.0.ended }

    dead : (frame : _) (b : Bool) → b ≡ false → is_gone_next (Took frame b) Keep ≡ true
    dead frame b off = subst (λ c. is_gone_next (Took frame c) Keep ≡ true) (sym off) refl

    module _ (call : Call) (here : slice_get calls state.track.call ≡ Some call) where
      abbrev shown : Shown
      shown = record { answers = answer.Committed ∷ []; draws = []; ltxid = state.fresh }

      abbrev behind : Account
      behind = shows_call terms (heard true true) shown call

      abbrev next : Living
      next = record { track = with_shown terms state.track call (answer.Committed ∷ []) []; ltxid = state.fresh }

      abbrev after : Talk
      after = talk_shown terms talk call (answer.Committed ∷ [])

      tracked_here : Tracked terms calls (heard true true) state.track
      tracked_here = heard_tracked true true state.track refl refl refl refl refl
          (let e : state.track.replays ≡ count_uncommitted a = fits.0.tracked.replays in
          let g : count_uncommitted (heard true true) ≡ count_uncommitted a + 0 = count-last a.outcomes (outcome_of true true) in omega arith)
          fits.0.tracked.few

      tracked_behind : Tracked terms calls behind next.track
      tracked_behind = shown_tracked terms calls (heard true true) state.track shown call tracked_here here

      talks_behind : IsTalk terms settings calls behind after
      talks_behind = shown_talk terms settings calls (heard true true) talk shown call (heard_talks true true) (ap (slice_get calls) (sym tracked_here.call) ∙ here)

      next_behind : slice_get calls next.track.call ≡ next_call after
      next_behind = next_left terms settings calls behind after next.track talks_behind tracked_behind

      stands_behind : Stands terms settings calls behind after next
      stands_behind = record { talks = talks_behind; tracked = tracked_behind; begun = fits.0.begun; held = fits.1.fresh; ended = refl }

      follows_behind : FollowsOutcome (length behind.shown) behind.session
      follows_behind = inr (
        answered_of true true,
        refl,
        record {
          asked = fits.0.held;
          verified = λ u. absurd (let none : ⊥ = cc in none);
          lost_call = λ u. absurd (let none : ⊥ = cc in none);
          completed = λ c. refl;
          next_call = λ c. let e : a.session.sent ≡ 0 = fits.1.none_sent in let f : length (a.shown ++ shown ∷ []) ≡ length a.shown + 1 = length-last a.shown shown in omega arith;
        },
      )

      behind_calm : ((index : ℕ) → LosesState terms calls behind (Took (down.OutcomeIs true true) alive) index → ⊥) → Calm terms calls behind (Took (down.OutcomeIs true true) alive) now
      behind_calm loses =
          outcome_calm terms calls behind now true true alive (ap (λ l. is_expected l (down.OutcomeIs true true)) fits.1.last)
          (λ ltxid c. let e : Took (down.OutcomeIs true true) alive ≡ Took (down.OutcomeIs true false) c.outcome.alive = c.outcome.taken in let no : ⊥ = cc in no)
          (λ reason event both. ⊎_elim (λ l. loses l.0 l.2)
          (λ r. let e : Took (down.OutcomeIs true true) alive ≡ Took (down.OutcomeIs false r.outcome.0) r.outcome.1.alive = r.outcome.1.taken in let no : ⊥ = cc in no) both.1)
          (λ limit event c. let e : Took (down.OutcomeIs true true) alive ≡ Took (down.OutcomeIs false c.1.outcome.0) c.1.outcome.1.alive = c.1.outcome.1.taken in let no : ⊥ = cc in no)
          (λ first ready c. let e : Took (down.OutcomeIs true true) alive ≡ Took (down.OutcomeIs false c.outcome.0) c.outcome.1.alive = c.outcome.1.taken in let no : ⊥ = cc in no)

      keeps_state : (next.track.set_shown && not terms.rules.keeps) ≡ false → (index : ℕ) → LosesState terms calls behind (Took (down.OutcomeIs true true) alive) index → ⊥
      keeps_state test index l = and_never next.track.set_shown terms.rules.keeps (tracked_behind.set_shown ∙ l.is_set) l.unkept test

      no_call : next_call after ≡ None → (index : ℕ) → LosesState terms calls behind (Took (down.OutcomeIs true true) alive) index → ⊥
      no_call none index l =
          let e : slice_get calls next.track.call ≡ None = next_behind ∙ none in
          let f : index ≡ next.track.call = l.follows ∙ sym tracked_behind.call in
          let g : slice_get calls index ≡ None = ap (slice_get calls) f ∙ e in
          let h : IsSome {T = Call} None = subst (λ (o : Option Call). IsSome o) g l.exists in
          let no : ⊥ = cc in no

      completed_test : (found : Call) → next_call after ≡ Some found → (test : Bool) → (next.track.set_shown && not terms.rules.keeps) ≡ test
          → Good terms settings calls (Took (down.OutcomeIs true true) alive) now (Some shown) behind
          (if test then fails after alive (Some shown) (Disabled (why.StateLost next.track.call) state.event)
          else sends_call terms after next alive (begin_of after ∷ []) (Some shown) now found)
      completed_test found is true test =
          fails_good terms settings calls (Took (down.OutcomeIs true true) alive) now behind after alive (Some shown) (Disabled (why.StateLost next.track.call) state.event)
          (tracked_few terms settings calls behind next.track tracked_behind) (
            ended_here behind true true refl,
            inl (
              next.track.call,
              refl,
              record {
                outcome = record { ltxid = state.ltxid; alive = alive; taken = refl; asked = fits.1.last; last = last-last None a.outcomes (outcome_of true true) };
                follows = tracked_behind.call;
                exists = subst IsSome (sym (next_behind ∙ is)) refl;
                is_set = sym tracked_behind.set_shown ∙ and_left next.track.set_shown (not terms.rules.keeps) test;
                unkept = and_not_right next.track.set_shown terms.rules.keeps test;
              },
            ),
          )
      completed_test found is false test =
          begins_again_good terms settings calls (Took (down.OutcomeIs true true) alive) now behind after next alive (Some shown) (Some found)
          (next_behind ∙ is)
          (tracked_few terms settings calls behind next.track tracked_behind) talks_behind fits.0.begun stands_behind follows_behind (dead (down.OutcomeIs true true) alive) (behind_calm (keeps_state test))

      completed_good : (found : Option Call) → next_call after ≡ found
          → Good terms settings calls (Took (down.OutcomeIs true true) alive) now (Some shown) behind (after_completed terms after next state.event alive shown now found)
      completed_good None is = ends_good terms settings calls (Took (down.OutcomeIs true true) alive) now behind after alive (Some shown) (tracked_few terms settings calls behind next.track tracked_behind) (behind_calm (no_call is))
      completed_good (Some found) is = completed_test found is (next.track.set_shown && not terms.rules.keeps) refl

    committed_stepped : (found : Option Call) → next_call talk ≡ found
        → Stepped terms settings calls a (Took (down.OutcomeIs true true) alive) now (on_completed terms talk (resumed (completed_on state)) state.event alive now found)
    committed_stepped None none =
        let left : slice_get calls state.track.call ≡ Some fits.0.left.one = fits.0.left.is in
        let e : slice_get calls state.track.call ≡ next_call talk = next_left terms settings calls a talk state.track talks fits.0.tracked in
        absurd (let no : ⊥ = cc in no)
    committed_stepped (Some call) is =
        let here : slice_get calls state.track.call ≡ Some call = next_left terms settings calls a talk state.track talks fits.0.tracked ∙ is in
        record {
          shown = Some (shown call here);
          heard = behind call here;
          as_shown = λ one e. let same : shown call here ≡ one = cc in (
            fits.0.begun,
            (
              call,
              ap (λ (o : Shown). shows_call terms (heard true true) o call) same ∙ ap (λ (b : Account). shows_call terms b one call) (sym (heard_is true true)),
            ),
          );
          is_heard = ap (λ b. shows terms calls b (Some (shown call here))) (heard_is true true)
              ∙ ap (shows_found terms (heard true true) (shown call here)) (ap (slice_get calls) (sym fits.0.tracked.call) ∙ here);
          good = completed_good call here (next_call (after call here)) refl;
        }

    -- uncommitted: each that may decide
    module _ (completed : Bool) where
      replay_calm : state.track.why ≡ None → state.track.replays + 1 ≤ terms.limits.replays → is_late terms.limits.timeout state.track.first now ≡ false
          → Calm terms calls (heard false completed) (Took (down.OutcomeIs false completed) alive) now
      replay_calm none few early =
          outcome_calm terms calls (heard false completed) now false completed alive (ap (λ l. is_expected l (down.OutcomeIs false completed)) fits.1.last)
          (λ ltxid c. let e : Took (down.OutcomeIs false completed) alive ≡ Took (down.OutcomeIs true false) c.outcome.alive = c.outcome.taken in let no : ⊥ = cc in no)
          (λ reason event c. ⊎_elim
          (λ l. let e : Took (down.OutcomeIs false completed) alive ≡ Took (down.OutcomeIs true true) l.2.outcome.alive = l.2.outcome.taken in let no : ⊥ = cc in no)
          (λ r. let e : a.reason ≡ Some reason = r.stood in let f : a.reason ≡ None = sym fits.0.tracked.why ∙ none in let no : ⊥ = cc in no) c.1)
          (λ limit event both.
          let c : HadReplays terms (heard false completed) (Took (down.OutcomeIs false completed) alive) limit = both.1 in
          let e : state.track.replays ≡ count_uncommitted a = fits.0.tracked.replays in
          let g : count_uncommitted (heard false completed) ≡ count_uncommitted a + 1 = count-last a.outcomes (outcome_of false completed) in
          let h : count_uncommitted (heard false completed) ≡ limit + 1 = c.many in
          let l : limit ≡ terms.limits.replays = c.is_limit in
          let no : ⊥ = omega arith in no)
          (λ first ready c.
          let e : state.track.first ≡ Some first = fits.0.tracked.first ∙ c.submitted in
          let f : is_late terms.limits.timeout (Some first) now ≡ false = ap (λ o. is_late terms.limits.timeout o now) (sym e) ∙ early in
          let g : now - first ≤ terms.limits.timeout = lt_false terms.limits.timeout (now - first) f in
          let h : ready ≡ now = c.is_now in
          let l : terms.limits.timeout < ready - first = c.late in
          let m : ready - first ≡ now - first = ap (λ n. n - first) h in
          let no : ⊥ = omega arith in no)

      replay_good : state.track.why ≡ None → state.track.replays + 1 ≤ terms.limits.replays → is_late terms.limits.timeout state.track.first now ≡ false
          → Good terms settings calls (Took (down.OutcomeIs false completed) alive) now None (heard false completed)
          (on_told terms talk state alive now (told.Replay (repeated state)))
      replay_good none few early =
          begun_marked_good terms settings calls (Took (down.OutcomeIs false completed) alive) now (heard false completed) talk (repeated state) alive
          (heard_talks false completed)
          (record {
            tracked = heard_tracked false completed (repeated state).track refl refl refl refl refl
                (let e : state.track.replays ≡ count_uncommitted a = fits.0.tracked.replays in
                let g : count_uncommitted (heard false completed) ≡ count_uncommitted a + 1 = count-last a.outcomes (outcome_of false completed) in omega arith) few;
            left = record { one = fits.0.left.one; is = fits.0.left.is };
            begun = fits.0.begun;
            held = fits.1.fresh;
            ended = refl;
          })
          (record {
            no_reason = none;
            repeating = record { within = let z : 0 ≤ length state.track.recorder.calls = omega arith in z; before = fits.0.tracked.within };
            answered = answered_of false completed;
            is_answered = refl;
            asked = fits.0.held;
            uncommitted = refl;
            recorded = sym (fits.0.tracked.recorded none);
            lost = refl;
            repeated = fits.1.none_repeated;
            none_sent = fits.1.none_sent;
          })
          (dead (down.OutcomeIs false completed) alive) (replay_calm none few early) (next_of (repeated state)) refl

      late_good : state.track.why ≡ None → state.track.replays + 1 ≤ terms.limits.replays → (late : Bool) → is_late terms.limits.timeout state.track.first now ≡ late
          → Good terms settings calls (Took (down.OutcomeIs false completed) alive) now None (heard false completed)
          (on_told terms talk state alive now (if late then told.Late (over state) else told.Replay (repeated state)))
      late_good none few true late =
          let l : (state.track.first ≡ Some (unwrap_or state.track.first 0)) × (terms.limits.timeout < now - unwrap_or state.track.first 0) = late_first terms.limits.timeout state.track.first now late in
          fails_good terms settings calls (Took (down.OutcomeIs false completed) alive) now (heard false completed) talk alive None
          (ReplayTimeout (unwrap_or state.track.first 0) now) (heard_few false completed)
          (record {
            outcome = (completed, record { ltxid = state.ltxid; alive = alive; taken = refl; asked = fits.1.last; last = last-last None a.outcomes (outcome_of false completed) });
            no_reason = sym fits.0.tracked.why ∙ none;
            few = let e : state.track.replays ≡ count_uncommitted a = fits.0.tracked.replays in
                let g : count_uncommitted (heard false completed) ≡ count_uncommitted a + 1 = count-last a.outcomes (outcome_of false completed) in omega arith;
            submitted = sym fits.0.tracked.first ∙ l.0;
            is_now = refl;
            late = l.1;
          })
      late_good none few false late = replay_good none few late

      many_good : state.track.why ≡ None → (many : Bool) → nat_le terms.limits.replays state.track.replays ≡ many
          → Good terms settings calls (Took (down.OutcomeIs false completed) alive) now None (heard false completed)
          (on_told terms talk state alive now (if many then told.Replays (over state) else (if is_late terms.limits.timeout state.track.first now then told.Late (over state) else told.Replay (repeated state))))
      many_good none true many =
          fails_good terms settings calls (Took (down.OutcomeIs false completed) alive) now (heard false completed) talk alive None
          (Replays terms.limits.replays state.event) (heard_few false completed) (
            ended_here (heard false completed) false completed refl,
            record {
              outcome = (completed, record { ltxid = state.ltxid; alive = alive; taken = refl; asked = fits.1.last; last = last-last None a.outcomes (outcome_of false completed) });
              no_reason = sym fits.0.tracked.why ∙ none;
              is_limit = refl;
              many = let e : state.track.replays ≡ count_uncommitted a = fits.0.tracked.replays in
                  let f : state.track.replays ≤ terms.limits.replays = fits.0.tracked.few in
                  let h : terms.limits.replays ≤ state.track.replays = le_true terms.limits.replays state.track.replays many in
                  let g : count_uncommitted (heard false completed) ≡ count_uncommitted a + 1 = count-last a.outcomes (outcome_of false completed) in omega arith;
            },
          )
      many_good none false many = late_good none
          (let h : state.track.replays < terms.limits.replays = le_false terms.limits.replays state.track.replays many in omega arith)
          (is_late terms.limits.timeout state.track.first now) refl

      uncommitted_good : (reason : Option Why) → state.track.why ≡ reason
          → Good terms settings calls (Took (down.OutcomeIs false completed) alive) now None (heard false completed)
          (on_told terms talk state alive now (uncommitted reason state terms.limits now))
      uncommitted_good (Some reason) is =
          fails_good terms settings calls (Took (down.OutcomeIs false completed) alive) now (heard false completed) talk alive None
          (Disabled reason state.event) (heard_few false completed)
          (ended_here (heard false completed) false completed refl, inr (record { outcome = (completed, record { ltxid = state.ltxid; alive = alive; taken = refl; asked = fits.1.last; last = last-last None a.outcomes (outcome_of false completed) }); stood = sym fits.0.tracked.why ∙ is }))
      uncommitted_good None is = many_good is (nat_le terms.limits.replays state.track.replays) refl

    pub outcome_stepped : (committed completed : Bool)
        → Stepped terms settings calls a (Took (down.OutcomeIs committed completed) alive) now (on_told terms talk state alive now (told_of state committed completed terms.limits now))
    outcome_stepped true true = committed_stepped (next_call talk) refl
    outcome_stepped true false = record {
      shown = None;
      as_shown = λ one e. absurd (let none : ⊥ = cc in none);
      heard = heard true false;
      is_heard = heard_is true false;
      good = fails_good terms settings calls (Took (down.OutcomeIs true false) alive) now (heard true false) talk alive None (Incomplete state.ltxid) (heard_few true false)
          (record { outcome = record { ltxid = state.ltxid; alive = alive; taken = refl; asked = fits.1.last; last = last-last None a.outcomes (outcome_of true false) }; is_ltxid = refl });
    }
    outcome_stepped false completed = record {
      shown = None;
      as_shown = λ one e. absurd (let none : ⊥ = cc in none);
      heard = heard false completed;
      is_heard = heard_is false completed;
      good = uncommitted_good completed state.track.why refl;
    }
