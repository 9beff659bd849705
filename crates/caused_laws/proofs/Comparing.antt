-- Steps that take the reply to a repeated call: it is the one that was shown, or the request ends.
use Rattle.std.proofs.Common.{◌≡◌, ℕ, zero, suc, ◌+◌, ◌-◌, ◌==◌, ◌<◌, ◌&&◌, Bool, true, false, List, [], ◌∷◌, ◌++◌, length, map, Option, Some, None, Ok, Err, if◌then◌else◌, refl, sym, ap, ◌∙◌, arith, length-append}
use Rattle.std.specs.Prelude.{option_map, slice_get}
use Rattle.std.specs.Str.{bytes_eq}
use Rattle.std.proofs.lemmas.List.{length-map}
use Rattle.std.proofs.lemmas.Option.{slice_get-map}
use Rattle.std.proofs.lemmas.Slice.Eq.{bytes_eq-Decides}
use Rattle.svc_values.specs.declared.answer.Answer.{Answer}
use Rattle.svc_values.specs.declared.call.Call.{Call}
use Rattle.svc_values.specs.declared.draw.Draw.{Draw}
use Rattle.svc_values.specs.declared.entry.Ltxid.{Ltxid}
use Rattle.svc_values.specs.declared.frame.Down.TheVariants as down
use Rattle.svc_values.specs.meaning.Same.{same_answers}
use Rattle.svc_values.specs.SameLaws.{same_answers_decide}
use Rattle.request_bounds.specs.meaning.Rules.{Rules}
use Rattle.call_recorder.specs.declared.recorded.Recorded.{Recorded}
use Rattle.outage_schedule.specs.declared.document.Request.{Request}
use Rattle.outage_schedule.specs.declared.document.ServiceOf.{ServiceOf}
use Rattle.outage_schedule.specs.declared.failure.Failure.TheVariants as failure
use Rattle.outage_schedule.specs.declared.item.Item.{Item}
use Rattle.outage_schedule.specs.declared.item.Item.TheVariants as item
use Rattle.outage_schedule.specs.declared.item.Served.{Served}
use Rattle.outage_schedule.specs.declared.request.RequestReport.{RequestReport}
use Rattle.client_model.specs.meaning.States.{Repeating, next_of}
use Rattle.client_model.specs.meaning.Verifying.{index_of, verified_more, mismatch}
use Rattle.client_model.specs.declared.act.Failed.TheVariants as failed
use Rattle.client_model.specs.declared.act.Shown.{Shown}
use Rattle.client_model.specs.declared.input.Input.TheVariants.{Took}
use Rattle.client_model.specs.meaning.Terms.{Terms, Talk}
use Rattle.client_model.specs.meaning.Talk.{next_call, on_compared, on_repeated}
use Rattle.client_model.specs.meaning.Account.{Account}
use Rattle.client_model.specs.Reasons.{rules_of}
use Rattle.client_model.proofs.Offered.{Tracked, Repeats as IsRepeated}
use Rattle.run_clauses.specs.meaning.NoClash.{digest}
use Rattle.run_clauses.specs.meaning.Reports.{shown_call}
use Rattle.shown_clauses.specs.meaning.Causes.{mismatch_by, mismatch_of, mismatch_at, mismatch_line, replayed_index}
use Rattle.shown_clauses.specs.meaning.Steps.{Step}
use Rattle.caused_laws.specs.ServiceTerms.{kind_of}
use Rattle.caused_laws.proofs.FactsKnown.{terms_by}
use Rattle.caused_laws.proofs.Repeating.{within, marked_comes}
use Rattle.caused_laws.proofs.Slots.{eq_self}
use Rattle.caused_laws.proofs.Standing.{SoFar, IsOpen, Knows, submission}
use Rattle.caused_laws.proofs.Submitting.{and_both, fails_comes}
use Rattle.caused_laws.proofs.Taking.{took, TakesBy}

slice-append : {X : Type 0} (xs ys : List X) (n v : ℕ) → n ≡ length xs + v → slice_get (xs ++ ys) n ≡ slice_get ys v
slice-append [] ys n v is = ap (slice_get ys) (let e : n ≡ v = omega (arith, is) in e)
slice-append (x ∷ xs) ys zero v is = absurd (let e : zero ≡ suc (length xs) + v = is in let none : ⊥ = omega arith in none)
slice-append (x ∷ xs) ys (suc n) v is = slice-append xs ys n v (let e : suc n ≡ suc (length xs) + v = is in let f : n ≡ length xs + v = omega arith in f)

slice-front : {X : Type 0} (xs ys : List X) (n : ℕ) (x : X) → slice_get xs n ≡ Some x → slice_get (xs ++ ys) n ≡ Some x
slice-front [] ys n x is = absurd (let none : ⊥ = cc in none)
slice-front (y ∷ xs) ys zero x is = is
slice-front (y ∷ xs) ys (suc n) x is = slice-front xs ys n x is

-- the test of the judge is that of digests
mismatch_same : (b : Bool) (index : ℕ) (seen now : List Answer) → same_answers seen now ≡ b → mismatch_of b index seen now ≡ mismatch_by index (digest seen) (digest now)
mismatch_same false index seen now is = refl
mismatch_same true index seen now is =
    let equal : seen ≡ now = (same_answers_decide seen now).0 is in
    let digests : bytes_eq (digest seen) (digest now) ≡ true = (bytes_eq-Decides (digest seen) (digest now)).1 (ap digest equal) in
    sym (ap (λ b. if b then None else Some (failure.Mismatch index (digest seen) (digest now))) digests)

module _ (service : ServiceOf) (rules : Rules) (told : List Answer → List ℕ) (ruled : rules ≡ rules_of (kind_of service.failover service.consistency)) (digested : told ≡ digest) (request : Request) (copy : RequestReport) where
  abbrev terms : Terms
  terms = terms_by service rules told

  module _ (s : SoFar) (step : Step) (connection sent : ℕ) (served : Served) (a : Account) (talk : Talk) (state : Repeating) (named : Call) (answers : List Answer) (draws : List Draw) (x : Ltxid)
      (knows : Knows service rules told ruled request copy a s.steps s.facts s.course) (is_open : IsOpen service a.reason s.course) (tries : a.tries ≡ 0)
      (left : s.course.behind + state.verified ≡ length state.track.recorder.calls)
      (tracked : Tracked terms request.calls a state.track) (repeated : IsRepeated a state) where
    abbrev replied : Item
    replied = item.Call true named answers draws

    abbrev here : Step
    here = took step connection sent served replied

    abbrev index : ℕ
    index = replayed_index s.course

    abbrev heard : Account
    heard = record a { session = record a.session { repeated = a.session.repeated ++ told answers ∷ [] } }

    recorded_is : state.track.recorder.calls ≡ a.since_purge
    recorded_is = tracked.recorded repeated.no_reason

    many : length tracked.recalls.since ≡ length a.since_purge
    many = sym (length-map tracked.recalls.since (λ (one : Shown). told one.answers)) ∙ ap length (sym tracked.recalls.digests) ∙ length-map a.since_purge (λ (one : Recorded). one.seen.digest)

    place : (one : Recorded) → next_of state ≡ Some one → index ≡ length tracked.recalls.before + state.verified
    place one is =
        let e : s.course.index ≡ length a.shown = knows.agrees.index in
        let f : length a.shown ≡ length tracked.recalls.before + length tracked.recalls.since = ap length tracked.recalls.shown ∙ length-append tracked.recalls.before tracked.recalls.since in
        let g : length tracked.recalls.since ≡ length a.since_purge = many in
        let h : length state.track.recorder.calls ≡ length a.since_purge = ap length recorded_is in
        let l : s.course.behind + state.verified ≡ length state.track.recorder.calls = left in
        let m : s.course.index - s.course.behind ≡ length tracked.recalls.before + state.verified = omega arith in m

    -- the answers that were shown at that place
    module _ (one : Recorded) (is : next_of state ≡ Some one) where
      digests_at : option_map (λ (o : Shown). told o.answers) (slice_get tracked.recalls.since state.verified) ≡ Some one.seen.digest
      digests_at =
          sym (slice_get-map (λ (o : Shown). told o.answers) tracked.recalls.since state.verified)
          ∙ ap (λ l. slice_get l state.verified) (sym tracked.recalls.digests)
          ∙ slice_get-map (λ (o : Recorded). o.seen.digest) a.since_purge state.verified
          ∙ ap (λ l. option_map (λ (o : Recorded). o.seen.digest) (slice_get l state.verified)) (sym recorded_is)
          ∙ ap (option_map (λ (o : Recorded). o.seen.digest)) is

      found : (o : Option Shown) → slice_get tracked.recalls.since state.verified ≡ o → option_map (λ (o : Shown). told o.answers) o ≡ Some one.seen.digest
          → (shown : Shown) × (slice_get a.shown index ≡ Some shown) × (told shown.answers ≡ one.seen.digest)
      found None at dig = absurd (let none : ⊥ = cc in none)
      found (Some shown) at dig = (
        shown,
        ap (λ l. slice_get l index) tracked.recalls.shown ∙ slice-append tracked.recalls.before tracked.recalls.since index state.verified (place one is) ∙ at,
        let same : told shown.answers ≡ one.seen.digest = cc in same,
      )

      seen : (shown : Shown) × (slice_get a.shown index ≡ Some shown) × (told shown.answers ≡ one.seen.digest)
      seen = found (slice_get tracked.recalls.since state.verified) refl digests_at

      reported : slice_get copy.calls index ≡ Some (shown_call seen.0)
      reported =
          ap (λ l. slice_get l index) knows.agrees.ahead
          ∙ slice-front (map shown_call a.shown) s.course.ahead index (shown_call seen.0) (slice_get-map shown_call a.shown index ∙ ap (option_map shown_call) seen.1)

      seen_is : digest seen.0.answers ≡ one.seen.digest
      seen_is = sym (ap (λ (d : List Answer → List ℕ). d seen.0.answers) digested) ∙ seen.2

      now_is : digest answers ≡ told answers
      now_is = sym (ap (λ (d : List Answer → List ℕ). d answers) digested)

      -- the line of the judge is the client's test
      line_is : mismatch_line (submission service rules told ruled request copy) s.course answers ≡ (if bytes_eq one.seen.digest (told answers) then None else Some (failure.Mismatch index one.seen.digest (told answers)))
      line_is =
          ap (λ o. mismatch_at index o answers) reported
          ∙ mismatch_same (same_answers seen.0.answers answers) index seen.0.answers answers refl
          ∙ ap (λ d. mismatch_by index d (digest answers)) seen_is
          ∙ ap (λ d. mismatch_by index one.seen.digest d) now_is

      index_is : index_of state ≡ index
      index_is =
          let e : s.course.index ≡ length a.shown = knows.agrees.index in
          let f : state.track.call ≡ length a.shown = tracked.call in
          let l : s.course.behind + state.verified ≡ length state.track.recorder.calls = left in
          let m : state.track.call - (length state.track.recorder.calls - state.verified) ≡ s.course.index - s.course.behind = omega arith in m

      bytes_self : (bytes : List ℕ) → bytes_eq bytes bytes ≡ true
      bytes_self bytes = (bytes_eq-Decides bytes bytes).1 refl

      verified_left : s.course.behind - 1 + (state.verified + 1) ≡ length state.track.recorder.calls
      verified_left =
          let l : s.course.behind + state.verified ≡ length state.track.recorder.calls = left in
          let b : state.verified < length state.track.recorder.calls = within state.track.recorder.calls state.verified one is in
          omega arith

      compared_by : (alive : Bool) (call : Call) → slice_get request.calls (length a.shown) ≡ Some call → next_call talk ≡ Some call
          → (same : Bool) → bytes_eq one.seen.digest (told answers) ≡ same
          → TakesBy service rules told ruled request copy a (Took (down.Reply answers draws x) alive) s here sent
          (on_compared terms talk alive step.tick (if same then Ok (verified_more state) else Err (mismatch state one.seen.digest (told answers))))
      compared_by alive call there follows false differs sends_so =
          fails_comes service rules told ruled request copy s here a (Took (down.Reply answers draws x) alive) talk alive None (failed.Mismatch (index_of state) one.seen.digest (told answers)) (failure.Mismatch index one.seen.digest (told answers))
          (ap (λ n. Some (failure.Mismatch n one.seen.digest (told answers))) index_is)
          (and_both (index == index) (bytes_eq one.seen.digest one.seen.digest && bytes_eq (told answers) (told answers)) (eq_self index)
          (and_both (bytes_eq one.seen.digest one.seen.digest) (bytes_eq (told answers) (told answers)) (bytes_self one.seen.digest) (bytes_self (told answers))))
          (line_is ∙ ap (λ (b : Bool). if b then None else Some (failure.Mismatch index one.seen.digest (told answers))) differs)
          (λ outcomes. refl)
      compared_by alive call there follows true same sends_so =
          marked_comes service rules told ruled request copy s step connection sent served replied (record s.course { behind = s.course.behind - 1 }) heard (verified_more state)
          (record {
            takes = record { facts_are = refl; course_is = refl };
            knows = record {
              agrees = record {
                unshown = knows.agrees.unshown;
                index = knows.agrees.index;
                ahead = knows.agrees.ahead;
                many = knows.agrees.many;
                reason = knows.agrees.reason;
                recorded = knows.agrees.recorded;
                tick = knows.agrees.tick;
                sets = knows.agrees.sets;
                known_tick = knows.agrees.known_tick;
                known_reason = knows.agrees.known_reason;
              };
              count = knows.count;
              downs = sym tries;
            };
            tries = tries;
            is_open = record { submitted = is_open.submitted; stands = is_open.stands };
            line = line_is ∙ ap (λ (b : Bool). if b then None else Some (failure.Mismatch index one.seen.digest (told answers))) same;
            unshown = refl;
            comes = refl;
            left = verified_left;
          })
          a (down.Reply answers draws x) alive refl talk None call there follows (next_of (verified_more state)) refl sends_so

    -- A REPLY TO A MARKED CALL
    pub repeated_comes : (alive : Bool) (call : Call) → slice_get request.calls (length a.shown) ≡ Some call → next_call talk ≡ Some call
        → (one : Recorded) → next_of state ≡ Some one → (next : Option Recorded) → next ≡ Some one
        → TakesBy service rules told ruled request copy a (Took (down.Reply answers draws x) alive) s here sent (on_repeated terms talk state answers draws x alive step.tick next)
    repeated_comes alive call there follows one is None same sends_so answered = absurd (let none : ⊥ = cc in none)
    repeated_comes alive call there follows one is (Some found) same sends_so answered =
        compared_by found (is ∙ sym same) alive call there follows (bytes_eq found.seen.digest (told answers)) refl sends_so answered
