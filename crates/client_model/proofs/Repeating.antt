-- Calls that are repeated.
use Rattle.std.proofs.Common.{◌≡◌, inl, inr, ℕ, zero, suc, ◌+◌, ◌≤◌, ◌<◌, Bool, true, false, List, [], ◌∷◌, ◌++◌, length, map, take, Option, Some, None, Ok, Err, if◌then◌else◌, refl, sym, ap, subst, ◌∙◌, arith, length-append}
use Rattle.std.specs.Prelude.{slice_get, fold}
use Rattle.std.specs.List.{last_or}
use Rattle.std.specs.Str.{bytes_eq}
use Rattle.std.proofs.lemmas.List.{take_all, length-map, length-take-le}
use Rattle.std.proofs.lemmas.Option.{slice_get_within, slice_get_cases}
use Rattle.std.proofs.lemmas.Slice.Eq.{bytes_eq-Decides}
use Rattle.svc_values.specs.declared.value.Value.{Value}
use Rattle.svc_values.specs.declared.answer.Answer.{Answer}
use Rattle.svc_values.specs.declared.draw.Draw.{Draw}
use Rattle.svc_values.specs.declared.call.Call.{Call}
use Rattle.svc_values.specs.declared.entry.Ltxid.{Ltxid}
use Rattle.svc_values.specs.declared.frame.Up.{Up}
use Rattle.svc_values.specs.declared.frame.Up.TheVariants as up
use Rattle.svc_values.specs.declared.frame.Down.TheVariants as down
use Rattle.call_recorder.specs.declared.recorded.Recorded.{Recorded}
use Rattle.client_model.specs.declared.track.Track.{Track}
use Rattle.client_model.specs.meaning.States.{Repeating, next_of}
use Rattle.client_model.specs.meaning.Verifying.{submitted, verified_more, index_of, mismatch}
use Rattle.client_model.specs.declared.input.Input.{Input}
use Rattle.client_model.specs.declared.input.Input.TheVariants.{Took}
use Rattle.client_model.specs.declared.act.Shown.{Shown}
use Rattle.client_model.specs.declared.act.Hold.TheVariants.{Keep}
use Rattle.client_model.specs.declared.act.Failed.TheVariants.{Mismatch}
use Rattle.client_model.specs.meaning.Terms.{Terms, Talk, Replaying}
use Rattle.client_model.specs.meaning.Talk.{begin_of, next_call, sends_marked, on_compared, on_repeated}
use Rattle.client_model.specs.Conversation.{is_gone_next}
use Rattle.client_model.specs.meaning.Account.{Account, begins, sends}
use Rattle.client_model.specs.Laws.{digests_of, FollowsOutcome, Differed, is_expected}
use Rattle.client_model.proofs.Fits.{Recalls, Holds, Repeats, Fits, IsTalk, Good, Calm}
use Rattle.client_model.proofs.Calming.{reply_calm}
use Rattle.client_model.proofs.Sending.{fails_good}
use Rattle.client_model.proofs.Showing.{map-last, length-last}
use Rattle.client_model.proofs.Left.{take-next, next_left}
use Rattle.client_model.proofs.Going.{Stands, talk_same, tracked_few, goes_on_good, begins_again_good}
use Rattle.client_model.proofs.Stepped.{Stepped, holds_same}

pub last-last : {X : Type 0} (o : Option X) (xs : List X) (x : X) → last_or o (xs ++ x ∷ []) ≡ Some x
last-last o [] x = refl
last-last o (y ∷ xs) x = last-last (Some y) xs x

module _ (terms : Terms) (settings : List (List ℕ × Value)) (calls : List Call) where
  -- a replay that is done was answered in full
  repeats_follows : (a : Account) (state : Repeating) (k : Track) → Repeats a state → next_of state ≡ None → FollowsOutcome (length a.shown) a.session
  repeats_follows a state k r none = inr (
    r.answered,
    r.is_answered,
    record {
      asked = r.asked;
      verified = λ u. r.repeated ∙ ap digests_of (take_all state.verified state.track.recorder.calls all ∙ sym r.recorded);
      lost_call = λ u. let e : r.answered.lost ≡ length a.shown = r.lost in let f : a.session.sent ≡ 0 = r.none_sent in omega arith;
      completed = λ c. let u : r.answered.outcome.committed ≡ false = r.uncommitted in absurd (let none : ⊥ = cc in none);
      next_call = λ c. let u : r.answered.outcome.committed ≡ false = r.uncommitted in absurd (let none : ⊥ = cc in none);
    },
  )
    where
      all : length state.track.recorder.calls ≤ state.verified
      all = elim (slice_get_cases state.track.recorder.calls state.verified).1 as (λ s. length state.track.recorder.calls ≤ state.verified) [ inl p ↦ absurd (let found : slice_get state.track.recorder.calls state.verified ≡ Some p.0 = p.2 in let no : ⊥ = cc in no) | inr p ↦ p.0 ]

  -- the replay goes on with nothing sent before
  module _ (input : Input) (now : ℕ) (heard : Account) (talk : Talk) (state : Repeating) (alive : Bool)
      (talks : IsTalk terms settings calls heard talk) (holds : Holds terms calls heard state.track state.ltxid None) (r : Repeats heard state)
      (dead : alive ≡ false → is_gone_next input Keep ≡ true) (calm : Calm terms calls heard input now) where
    -- the account behind frames that are sent, of which the last is the call
    abbrev with_last : Option Up → Account
    with_last last = record heard { last = last }

    repeats_last : (last : Option Up) → Repeats (with_last last) state
    repeats_last last = record {
      no_reason = r.no_reason;
      repeating = r.repeating;
      answered = r.answered;
      is_answered = r.is_answered;
      asked = r.asked;
      uncommitted = r.uncommitted;
      recorded = r.recorded;
      lost = r.lost;
      repeated = r.repeated;
      none_sent = r.none_sent;
    }

    stands_here : Stands terms settings calls heard talk (submitted state)
    stands_here = record { talks = talks; tracked = holds.tracked; begun = holds.begun; held = holds.held; ended = holds.ended }

    pub marked_good : (found : Option Recorded) → next_of state ≡ found → Good terms settings calls input now None heard (sends_marked terms talk state alive [] now found)
    marked_good None none = goes_on_good terms settings calls input now heard talk (submitted state) alive None
        (tracked_few terms settings calls heard state.track holds.tracked) (next_left terms settings calls heard talk state.track talks holds.tracked)
        (λ on. (stands_here, repeats_follows heard state state.track r none)) (λ off. (stands_here, dead off)) calm
    marked_good (Some one) is = by alive dead
      where
        by : (alive : Bool) → (alive ≡ false → is_gone_next input Keep ≡ true) → Good terms settings calls input now None heard (sends_marked terms talk state alive [] now (Some one))
        by true dead = record {
          shows = refl;
          fits = (
            holds_same terms settings calls heard (with_last (Some (up.Call true one.draws one.call))) state.track state.ltxid None refl refl refl refl refl refl refl refl holds,
            repeats_last (Some (up.Call true one.draws one.call)),
            record { one = one; is = is },
            λ gone. record { kept = one.draws; one = one.call; is = refl },
          );
          talks = λ e. record { settings_are = talks.settings_are; sets_are = talks.sets_are; left_are = talks.left_are; tries_are = talks.tries_are; few_tries = talks.few_tries };
          may = tt;
          begun = tt;
          begins = λ b. inl b;
          holds = refl;
          calm = λ none. calm;
          caused = λ f e. absurd (let none : ⊥ = cc in none);
        }
        by false dead = record {
          shows = refl;
          fits = (holds, r, record { one = one; is = is }, λ gone. absurd (let off : is_gone_next input Keep ≡ true = dead refl in let none : ⊥ = cc in none));
          talks = λ e. record { settings_are = talks.settings_are; sets_are = talks.sets_are; left_are = talks.left_are; tries_are = talks.tries_are; few_tries = talks.few_tries };
          may = tt;
          begun = tt;
          begins = λ b. inl b;
          holds = refl;
          calm = λ none. calm;
          caused = λ f e. absurd (let none : ⊥ = cc in none);
        }

    -- the same behind a Begin
    begun_last : (b : Bool) → heard.begun ≡ b → b ≡ true → (λ (c : Bool). let a : Account = record (begins heard c) { last = Some (begin_of talk) } in a) heard.begun ≡ record heard { last = Some (begin_of talk) }
    begun_last b e is = ap (λ (c : Bool). let a : Account = record (begins heard c) { last = Some (begin_of talk) } in a) (e ∙ is)

    pub begun_marked_good : (found : Option Recorded) → next_of state ≡ found → Good terms settings calls input now None heard (sends_marked terms talk state alive (begin_of talk ∷ []) now found)
    begun_marked_good None none = begins_again_good terms settings calls input now heard talk (submitted state) alive None (next_call talk)
        (next_left terms settings calls heard talk state.track talks holds.tracked)
        (tracked_few terms settings calls heard state.track holds.tracked) talks holds.begun stands_here (repeats_follows heard state state.track r none) dead calm
    begun_marked_good (Some one) is = by alive dead
      where
        frame : Up
        frame = up.Call true one.draws one.call

        by : (alive : Bool) → (alive ≡ false → is_gone_next input Keep ≡ true) → Good terms settings calls input now None heard (sends_marked terms talk state alive (begin_of talk ∷ []) now (Some one))
        by true dead =
            let path : fold (sends terms now) heard (begin_of talk ∷ up.Call true one.draws one.call ∷ []) ≡ with_last (Some (up.Call true one.draws one.call)) =
            ap (λ (a : Account). sends terms now a (up.Call true one.draws one.call)) (begun_last heard.begun refl holds.begun) in
            record {
              shows = refl;
              fits = subst (λ (a : Account). Fits terms calls a (is_gone_next input Keep) (Replaying state)) (sym path) (
                holds_same terms settings calls heard (with_last (Some (up.Call true one.draws one.call))) state.track state.ltxid None refl refl refl refl refl refl refl refl holds,
                repeats_last (Some (up.Call true one.draws one.call)),
                record { one = one; is = is },
                λ gone. record { kept = one.draws; one = one.call; is = refl },
              );
              talks = λ e. subst (λ (a : Account). IsTalk terms settings calls a (record talk { phase = Replaying state })) (sym path)
                  (record { settings_are = talks.settings_are; sets_are = talks.sets_are; left_are = talks.left_are; tries_are = talks.tries_are; few_tries = talks.few_tries });
              may = tt;
              begun = (talks.settings_are, tt);
              begins = λ b. inl holds.begun;
              holds = refl;
              calm = λ none. calm;
              caused = λ f e. absurd (let none : ⊥ = cc in none);
            }
        by false dead = record {
          shows = refl;
          fits = (holds, r, record { one = one; is = is }, λ gone. absurd (let off : is_gone_next input Keep ≡ true = dead refl in let none : ⊥ = cc in none));
          talks = λ e. record { settings_are = talks.settings_are; sets_are = talks.sets_are; left_are = talks.left_are; tries_are = talks.tries_are; few_tries = talks.few_tries };
          may = tt;
          begun = tt;
          begins = λ b. inl b;
          holds = refl;
          calm = λ none. calm;
          caused = λ f e. absurd (let none : ⊥ = cc in none);
        }

-- what stands behind a front
slice_get-behind : {X : Type 0} (front rest : List X) (n m : ℕ) → m ≡ length front + n → slice_get (front ++ rest) m ≡ slice_get rest n
slice_get-behind [] rest n m e = let same : m ≡ n = omega arith in ap (slice_get rest) same
slice_get-behind (x ∷ front) rest n zero e = absurd (omega arith)
slice_get-behind (x ∷ front) rest n (suc m) e = slice_get-behind front rest n m (omega arith)

-- a recorded call is one that was shown
found_shown : (digest : List Answer → List ℕ) (since : List Shown) (recorded : List Recorded) (n : ℕ) (one : Recorded)
    → digests_of recorded ≡ map (λ each. digest each.answers) since → slice_get recorded n ≡ Some one
    → (shown : Shown) × (slice_get since n ≡ Some shown) × (digest shown.answers ≡ one.seen.digest)
found_shown digest since [] n one e is = absurd (let none : ⊥ = cc in none)
found_shown digest [] (r ∷ recorded) n one e is = absurd (let none : ⊥ = cc in none)
found_shown digest (s ∷ since) (r ∷ recorded) zero one e is =
    let same : r ≡ one = cc in
    let first : r.seen.digest ≡ digest s.answers = cc in
    (s, refl, sym first ∙ ap (λ x. x.seen.digest) same)
found_shown digest (s ∷ since) (r ∷ recorded) (suc n) one e is =
    let rest : digests_of recorded ≡ map (λ each. digest each.answers) since = cc in
    found_shown digest since recorded n one rest is

module _ (terms : Terms) (settings : List (List ℕ × Value)) (calls : List Call) where
  module _ (a : Account) (state : Repeating) (answers : List Answer) (draws : List Draw) (ltxid : Ltxid) (alive : Bool) (now : ℕ) (talk : Talk)
      (talks : IsTalk terms settings calls a talk) (fits : Fits terms calls a false (Replaying state)) where
    -- the account with the digest of the reply
    abbrev heard : Account
    heard = record a { session = record a.session { repeated = a.session.repeated ++ terms.digest answers ∷ [] } }

    heard_talks : IsTalk terms settings calls heard talk
    heard_talks = talk_same terms settings calls a heard talk refl refl refl talks

    heard_holds : Holds terms calls heard state.track state.ltxid None
    heard_holds = holds_same terms settings calls a heard state.track state.ltxid None refl refl refl refl refl refl refl refl fits.0

    -- the repeated call is one that was shown, at its place
    repeats_call : (one : Recorded) → next_of state ≡ Some one
        → ((shown : Shown) × (slice_get a.shown (index_of state) ≡ Some shown) × (terms.digest shown.answers ≡ one.seen.digest))
        × (index_of state + length a.since_purge + 1 ≡ length a.shown + length (a.session.repeated ++ terms.digest answers ∷ []))
    repeats_call one is =
        let c : Recalls terms a = fits.0.tracked.recalls in
        let since : state.track.recorder.calls ≡ a.since_purge = fits.0.tracked.recorded fits.1.no_reason in
        let digests : digests_of state.track.recorder.calls ≡ map (λ each. terms.digest each.answers) c.since = ap digests_of since ∙ c.digests in
        let f : (shown : Shown) × (slice_get c.since state.verified ≡ Some shown) × (terms.digest shown.answers ≡ one.seen.digest) = found_shown terms.digest c.since state.track.recorder.calls state.verified one digests is in
        let many : length state.track.recorder.calls ≡ length c.since = sym (length-map state.track.recorder.calls (λ (r : Recorded). r.seen.digest)) ∙ ap length digests ∙ length-map c.since (λ (s : Shown). terms.digest s.answers) in
        let purged : length a.since_purge ≡ length state.track.recorder.calls = ap length (sym since) in
        let whole : length a.shown ≡ length c.before + length c.since = ap length c.shown ∙ length-append c.before c.since in
        let counted : state.track.call ≡ length a.shown = fits.0.tracked.call in
        let within : state.verified < length state.track.recorder.calls = slice_get_within state.track.recorder.calls state.verified one is in
        let index : index_of state ≡ length c.before + state.verified = omega arith in
        let taken : length a.session.repeated ≡ state.verified = ap length fits.1.repeated ∙ length-map (take state.verified state.track.recorder.calls) (λ (r : Recorded). r.seen.digest) ∙ length-take-le state.verified state.track.recorder.calls (omega arith) in (
          (f.0, ap (λ l. slice_get l (index_of state)) c.shown ∙ slice_get-behind c.before c.since state.verified (index_of state) index ∙ f.1, f.2),
          omega (arith, length-last a.session.repeated (terms.digest answers)),
        )

    differed : (one : Recorded) → next_of state ≡ Some one → bytes_eq one.seen.digest (terms.digest answers) ≡ false
        → Differed terms heard (Took (down.Reply answers draws ltxid) alive) (index_of state) one.seen.digest (terms.digest answers)
    differed one is other = record {
      taken = (answers, draws, ltxid, alive, refl, refl);
      shown = (repeats_call one is).0;
      marked = ((fits.3 refl).kept, (fits.3 refl).one, (fits.3 refl).is);
      repeated = last-last None a.session.repeated (terms.digest answers);
      place = (repeats_call one is).1;
      differ = λ same. let t : bytes_eq one.seen.digest (terms.digest answers) ≡ true = (bytes_eq-Decides one.seen.digest (terms.digest answers)).1 same in let none : ⊥ = cc in none;
    }

    same_calm : (one : Recorded) → next_of state ≡ Some one → bytes_eq one.seen.digest (terms.digest answers) ≡ true → Calm terms calls heard (Took (down.Reply answers draws ltxid) alive) now
    same_calm one is same =
        let e : one.seen.digest ≡ terms.digest answers = (bytes_eq-Decides one.seen.digest (terms.digest answers)).0 same in
        let r : ((shown : Shown) × (slice_get a.shown (index_of state) ≡ Some shown) × (terms.digest shown.answers ≡ one.seen.digest))
        × (index_of state + length a.since_purge + 1 ≡ length a.shown + length (a.session.repeated ++ terms.digest answers ∷ [])) = repeats_call one is in
        reply_calm terms calls heard now answers draws ltxid alive (ap (λ l. is_expected l (down.Reply answers draws ltxid)) (fits.3 refl).is)
        (λ index seen until c.
        let p : index + length a.since_purge + 1 ≡ length a.shown + length (a.session.repeated ++ terms.digest answers ∷ []) = c.place in
        let q : index_of state + length a.since_purge + 1 ≡ length a.shown + length (a.session.repeated ++ terms.digest answers ∷ []) = r.1 in
        let i : index ≡ index_of state = omega arith in
        let f : slice_get a.shown index ≡ Some c.shown.0 = c.shown.1 in
        let g : slice_get a.shown index ≡ Some r.0.0 = ap (slice_get a.shown) i ∙ r.0.1 in
        let shown : c.shown.0 ≡ r.0.0 = cc in
        let last : Some until ≡ Some (terms.digest answers) = sym c.repeated ∙ last-last None a.session.repeated (terms.digest answers) in
        let now_is : until ≡ terms.digest answers = cc in
        c.differ (sym c.shown.2 ∙ ap (λ (s : Shown). terms.digest s.answers) shown ∙ r.0.2 ∙ e ∙ sym now_is))

    same_repeats : (one : Recorded) → next_of state ≡ Some one → bytes_eq one.seen.digest (terms.digest answers) ≡ true → Repeats heard (verified_more state)
    same_repeats one is same =
        let r : Repeats a state = fits.1 in
        let e : one.seen.digest ≡ terms.digest answers = (bytes_eq-Decides one.seen.digest (terms.digest answers)).0 same in
        let within : state.verified < length state.track.recorder.calls = slice_get_within state.track.recorder.calls state.verified one is in
        let more : suc state.verified ≡ state.verified + 1 = omega arith in
        record {
          no_reason = r.no_reason;
          repeating = record { within = let z : state.verified + 1 ≤ length state.track.recorder.calls = omega arith in z; before = r.repeating.before };
          answered = r.answered;
          is_answered = r.is_answered;
          asked = r.asked;
          uncommitted = r.uncommitted;
          recorded = r.recorded;
          lost = r.lost;
          repeated = ap (λ l. l ++ terms.digest answers ∷ []) r.repeated
              ∙ ap (λ d. digests_of (take state.verified state.track.recorder.calls) ++ d ∷ []) (sym e)
              ∙ sym (map-last (λ x. x.seen.digest) (take state.verified state.track.recorder.calls) one)
              ∙ ap digests_of (sym (take-next state.track.recorder.calls state.verified one is))
              ∙ ap (λ n. digests_of (take n state.track.recorder.calls)) more;
          none_sent = r.none_sent;
        }

    compared_good : (one : Recorded) → next_of state ≡ Some one → (same : Bool) → bytes_eq one.seen.digest (terms.digest answers) ≡ same
        → Good terms settings calls (Took (down.Reply answers draws ltxid) alive) now None heard
        (on_compared terms talk alive now (if same then Ok (verified_more state) else Err (mismatch state one.seen.digest (terms.digest answers))))
    compared_good one is true same =
        marked_good terms settings calls (Took (down.Reply answers draws ltxid) alive) now heard talk (verified_more state) alive
        heard_talks (record { tracked = heard_holds.tracked; left = heard_holds.left; begun = heard_holds.begun; held = heard_holds.held; ended = heard_holds.ended })
        (same_repeats one is same) (λ off. subst (λ b. is_gone_next (Took (down.Reply answers draws ltxid) b) Keep ≡ true) (sym off) refl)
        (same_calm one is same) (next_of (verified_more state)) refl
    compared_good one is false other =
        fails_good terms settings calls (Took (down.Reply answers draws ltxid) alive) now heard talk alive None
        (Mismatch (index_of state) one.seen.digest (terms.digest answers)) (tracked_few terms settings calls heard state.track heard_holds.tracked) (differed one is other)

    pub repeated_stepped : (found : Option Recorded) → next_of state ≡ found
        → Stepped terms settings calls a (Took (down.Reply answers draws ltxid) alive) now (on_repeated terms talk state answers draws ltxid alive now found)
    repeated_stepped None none = let is : next_of state ≡ Some fits.2.one = fits.2.is in absurd (let no : ⊥ = cc in no)
    repeated_stepped (Some one) is = record {
      shown = None;
      as_shown = λ one e. absurd (let none : ⊥ = cc in none);
      heard = heard;
      is_heard = refl;
      good = compared_good one is (bytes_eq one.seen.digest (terms.digest answers)) refl;
    }
