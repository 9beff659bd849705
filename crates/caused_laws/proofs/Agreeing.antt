-- What the judge knows of a request and what its client knows agree: the calls, the reasons and the
-- ticks.
use Rattle.std.proofs.Common.{◌≡◌, ℕ, zero, suc, ◌+◌, Bool, true, false, not, ◌||◌, List, [], ◌∷◌, ◌++◌, length, map, take, drop, reverse, Option, Some, None, if◌then◌else◌, refl, sym, ap, subst, ◌∙◌, arith}
use Rattle.std.specs.Prelude.{slice_get, option_map, IsSome}
use Rattle.std.specs.List.{list_any}
use Rattle.std.specs.Option.{option_or}
use Rattle.std.proofs.lemmas.List.{append_assoc, append_cancel_left, length_push, map_push}
use Rattle.std.proofs.lemmas.List.Folds.{list_any-append}
use Rattle.svc_values.specs.declared.answer.Answer.{Answer}
use Rattle.svc_values.specs.declared.call.Call.{Call}
use Rattle.svc_values.specs.declared.call.Call.TheVariants as call
use Rattle.request_bounds.specs.declared.rule.Why.{Why}
use Rattle.request_bounds.specs.meaning.Rules.{Rules}
use Rattle.call_recorder.specs.declared.recorded.Recorded.{Recorded}
use Rattle.outage_schedule.specs.declared.document.ServiceOf.{ServiceOf}
use Rattle.outage_schedule.specs.declared.request.ShownCall.{ShownCall}
use Rattle.client_model.specs.declared.act.Shown.{Shown}
use Rattle.client_model.specs.meaning.Terms.{Terms}
use Rattle.client_model.specs.meaning.Talk.{recorded_as}
use Rattle.client_model.specs.meaning.Talk as talk
use Rattle.client_model.specs.meaning.Account.{reply_reason, since_after}
use Rattle.client_model.specs.Reasons.{rules_of}
use Rattle.run_clauses.specs.meaning.Reports.{shown_call}
use Rattle.run_clauses.specs.meaning.Reports as report
use Rattle.shown_clauses.specs.meaning.Fronts.{first_item, rest_items}
use Rattle.shown_clauses.specs.meaning.Turns.{ends_decided}
use Rattle.shown_clauses.specs.meaning.Facts.{Fact, Submitted, Showed, Course, after_showing, submitted_fact}
use Rattle.shown_clauses.specs.meaning.Reasons.{after_commit_at, full_at, submission_reason, showing_reason, since_now, reason_of}
use Rattle.shown_clauses.specs.meaning.Causes.{first_tick, is_set, is_set_shown}
use Rattle.caused_laws.specs.ServiceTerms.{kind_of}
use Rattle.caused_laws.proofs.FactsKnown.{reverse-first, counted, counted-submitted, counted-showed, reason-submitted, reason-showed, tick-submitted, tick-showed, is_off, submit_same, ShowsSame, terms_by, shows_same}

-- LISTS -------------------------------------------------------------------------------------------

pub rest-drop : {X : Type 0} (xs : List X) (n : ℕ) → rest_items (drop n xs) ≡ drop (n + 1) xs
rest-drop xs n = suc_drop xs n ∙ ap (λ m. drop m xs) (let e : suc n ≡ n + 1 = omega arith in e)
  where
    suc_drop : {X : Type 0} (xs : List X) (n : ℕ) → rest_items (drop n xs) ≡ drop (suc n) xs
    suc_drop [] zero = refl
    suc_drop [] (suc n) = refl
    suc_drop (x ∷ xs) zero = refl
    suc_drop (x ∷ xs) (suc n) = suc_drop xs n

pub first-drop : {X : Type 0} (xs : List X) (n : ℕ) → first_item (drop n xs) ≡ slice_get xs n
first-drop [] zero = refl
first-drop [] (suc n) = refl
first-drop (x ∷ xs) zero = refl
first-drop (x ∷ xs) (suc n) = first-drop xs n

pub take-next : {X : Type 0} (xs : List X) (n : ℕ) (x : X) → slice_get xs n ≡ Some x → take (suc n) xs ≡ take n xs ++ x ∷ []
take-next [] n x e = absurd (let none : ⊥ = cc in none)
take-next (y ∷ xs) zero x e = let same : y ≡ x = cc in ap (λ z. z ∷ []) same
take-next (y ∷ xs) (suc n) x e = ap (λ l. y ∷ l) (take-next xs n x e)

or_turn : (a b : Bool) → (a || b) ≡ (b || a)
or_turn true true = refl
or_turn true false = refl
or_turn false true = refl
or_turn false false = refl

pub or_false : (a : Bool) → (a || false) ≡ a
or_false true = refl
or_false false = refl

pub same_set : (one : Call) → is_set one ≡ talk.is_set one
same_set (call.Work statements commit) = refl
same_set (call.Set name value) = refl
same_set (call.Alter line) = refl
same_set call.Disable = refl
same_set call.Rollback = refl

any-last : (xs : List Call) (one : Call) → list_any talk.is_set (xs ++ one ∷ []) ≡ (is_set one || list_any talk.is_set xs)
any-last xs one =
    list_any-append talk.is_set xs (one ∷ [])
    ∙ ap (λ b. list_any talk.is_set xs || b) (or_false (talk.is_set one) ∙ sym (same_set one))
    ∙ or_turn (list_any talk.is_set xs) (is_set one)

known_or : {T : Type 0} (a : Option T) (x : T) → IsSome a → option_or a (Some x) ≡ a
known_or None x is = absurd (let none : ⊥ = cc in none)
known_or (Some y) x is = refl

some_or : {T : Type 0} (a : Option T) (x : T) → IsSome (option_or a (Some x))
some_or None x = refl
some_or (Some y) x = refl

-- AGREEING ----------------------------------------------------------------------------------------

module _ (service : ServiceOf) (rules : Rules) (told : List Answer → List ℕ) (ruled : rules ≡ rules_of (kind_of service.failover service.consistency)) (calls : List Call) (copied : List ShownCall) where
  -- The facts, with the newest first, and the course are those of a client that was shown these
  -- calls, of which these are recorded since the last purge, and that knows this reason and this
  -- tick of the first submitted call.
  pub record Agrees (shown : List Shown) (since : List Recorded) (why : Option Why) (first : Option ℕ) (facts : List Fact) (course : Course) : Type 0 where
    pub unshown : course.unshown ≡ drop (length shown) calls
    pub index : course.index ≡ length shown
    pub ahead : copied ≡ map shown_call shown ++ course.ahead
    pub many : counted 0 (reverse facts) ≡ course.since
    pub reason : reason_of service (reverse facts) ≡ option_map report.reason_of why
    pub recorded : why ≡ None → length since ≡ course.since
    pub tick : first_tick (reverse facts) ≡ first
    pub sets : list_any is_set_shown facts ≡ list_any talk.is_set (take (length shown) calls)
    pub known_tick : course.submitted ≡ true → IsSome first
    pub known_reason : course.submitted ≡ true → (one : Call) → slice_get calls (length shown) ≡ Some one → option_or why (rules.submit one (length shown)) ≡ why

  -- SHOWING
  module _ (shown : List Shown) (since : List Recorded) (why : Option Why) (first : Option ℕ) (facts : List Fact) (course : Course) (agrees : Agrees shown since why first facts course) where
    -- what the report has next
    pub ahead_is : (one : Shown) (rest : List ShownCall) → copied ≡ map shown_call (shown ++ one ∷ []) ++ rest → course.ahead ≡ shown_call one ∷ rest
    ahead_is one rest extends =
        append_cancel_left (map shown_call shown) course.ahead (shown_call one ∷ rest)
        (sym agrees.ahead ∙ extends ∙ ap (λ l. l ++ rest) (map_push shown_call shown one) ∙ append_assoc (map shown_call shown) (shown_call one ∷ []) rest)

    module _ (one : Shown) (call : Call) (rest : List ShownCall) (here : slice_get calls (length shown) ≡ Some call) (extends : copied ≡ map shown_call (shown ++ one ∷ []) ++ rest)
        (stands : is_off service.failover ≡ true → IsSome why) where
      abbrev terms : Terms
      terms = terms_by service rules told

      abbrev taken : Recorded
      taken = recorded_as terms call one.answers one.draws

      abbrev now_reason : Option Why
      now_reason = reply_reason terms (length since) (rules.reply one.answers)

      abbrev now_since : List Recorded
      now_since = since_after since taken (rules.reply one.answers)

      -- where no reason stands, and calls are replayed
      shows : is_off service.failover ≡ false → ShowsSame service terms since taken (ends_decided one.answers) (after_commit_at service.failover service.consistency) (rules.reply one.answers)
      shows off =
          subst (λ (r : Rules). ShowsSame service terms since taken (ends_decided one.answers) (after_commit_at service.failover service.consistency) (r.reply one.answers)) (sym ruled)
          (shows_same service rules told since taken service.failover service.consistency (ends_decided one.answers) one.answers off refl)

      on : (b : Bool) → is_off service.failover ≡ b → why ≡ None → is_off service.failover ≡ false
      on false is none = is
      on true is none = absurd (let some : IsSome why = stands is in let no : IsSome {T = Why} None = subst (λ o. IsSome o) none some in let none : ⊥ = cc in none)

      -- the reason that stands then, and what is recorded
      reason_by : (w : Option Why) → why ≡ w → option_or (option_map report.reason_of w) (showing_reason service course.since one.answers) ≡ option_map report.reason_of (option_or w now_reason)
      reason_by (Some w) is = refl
      reason_by None is =
          ap (λ n. if ends_decided one.answers then after_commit_at service.failover service.consistency else full_at service.record_limit n) (sym (agrees.recorded is))
          ∙ (shows (on (is_off service.failover) refl is)).reason_is

      recorded_by : (w : Option Why) → why ≡ w → option_or w now_reason ≡ None → length now_since ≡ since_now course.since one.answers
      recorded_by (Some w) is none = absurd (let no : ⊥ = cc in no)
      recorded_by None is none =
          (shows (on (is_off service.failover) refl is)).many none
          ∙ ap (λ n. if ends_decided one.answers then 0 else n + 1) (agrees.recorded is)

      pub shows_agree : Agrees (shown ++ one ∷ []) now_since (option_or why now_reason) first (Showed call one.answers ∷ facts) (after_showing course one.answers)
      shows_agree = record {
        unshown = ap rest_items agrees.unshown ∙ rest-drop calls (length shown) ∙ ap (λ n. drop n calls) (sym (length_push shown one));
        index = ap (λ n. n + 1) agrees.index ∙ sym (length_push shown one);
        ahead = extends ∙ ap (λ l. map shown_call (shown ++ one ∷ []) ++ l) (sym (ap rest_items (ahead_is one rest extends)));
        many = ap (counted 0) (reverse-first (Showed call one.answers) facts) ∙ counted-showed 0 (reverse facts) call one.answers ∙ ap (λ n. since_now n one.answers) agrees.many;
        reason = ap (reason_of service) (reverse-first (Showed call one.answers) facts)
            ∙ reason-showed service 0 (reverse facts) call one.answers
            ∙ ap (λ o. option_or o (showing_reason service (counted 0 (reverse facts)) one.answers)) agrees.reason
            ∙ ap (λ n. option_or (option_map report.reason_of why) (showing_reason service n one.answers)) agrees.many
            ∙ reason_by why refl;
        recorded = recorded_by why refl;
        tick = ap first_tick (reverse-first (Showed call one.answers) facts) ∙ tick-showed (reverse facts) call one.answers ∙ agrees.tick;
        sets = ap (λ b. is_set call || b) agrees.sets
            ∙ sym (any-last (take (length shown) calls) call)
            ∙ ap (list_any talk.is_set) (sym (take-next calls (length shown) call here) ∙ ap (λ n. take n calls) (let e : length (shown ++ one ∷ []) ≡ length shown + 1 = length_push shown one in let f : suc (length shown) ≡ length (shown ++ one ∷ []) = omega arith in f));
        known_tick = λ never. absurd (let none : ⊥ = cc in none);
        known_reason = λ never. absurd (let none : ⊥ = cc in none);
      }

    -- SUBMITTING
    module _ (call : Call) (now : ℕ) (here : slice_get calls (length shown) ≡ Some call) where
      abbrev sent_facts : Bool → List Fact
      sent_facts submitted = reverse (submitted_fact (not submitted) course (first_item course.unshown) now) ++ facts

      abbrev sent_reason : Option Why
      sent_reason = option_or why (rules.submit call (length shown))

      same_submit : submission_reason service call course.index ≡ option_map report.reason_of (rules.submit call (length shown))
      same_submit =
          ap (submission_reason service call) agrees.index
          ∙ submit_same service.failover service.consistency call (length shown)
          ∙ ap (λ (r : Rules). option_map report.reason_of (r.submit call (length shown))) (sym ruled)

      map_or : (w v : Option Why) → option_or (option_map report.reason_of w) (option_map report.reason_of v) ≡ option_map report.reason_of (option_or w v)
      map_or None v = refl
      map_or (Some w) v = refl

      none_left : (w v : Option Why) → option_or w v ≡ None → w ≡ None
      none_left None v e = refl
      none_left (Some w) v e = e

      again : (w v : Option Why) → option_or (option_or w v) v ≡ option_or w v
      again None None = refl
      again None (Some v) = refl
      again (Some w) v = refl

      new_facts : first_item course.unshown ≡ Some call
      new_facts = ap first_item agrees.unshown ∙ first-drop calls (length shown) ∙ here

      first_sent : Agrees shown since sent_reason (option_or first (Some now)) (Submitted call course.index now ∷ facts) (record course { submitted = true })
      first_sent = record {
        unshown = agrees.unshown;
        index = agrees.index;
        ahead = agrees.ahead;
        many = ap (counted 0) (reverse-first (Submitted call course.index now) facts) ∙ counted-submitted 0 (reverse facts) call course.index now ∙ agrees.many;
        reason = ap (reason_of service) (reverse-first (Submitted call course.index now) facts)
            ∙ reason-submitted service 0 (reverse facts) call course.index now
            ∙ ap (λ o. option_or o (submission_reason service call course.index)) agrees.reason
            ∙ ap (option_or (option_map report.reason_of why)) same_submit
            ∙ map_or why (rules.submit call (length shown));
        recorded = λ none. agrees.recorded (none_left why (rules.submit call (length shown)) none);
        tick = ap first_tick (reverse-first (Submitted call course.index now) facts) ∙ tick-submitted (reverse facts) call course.index now ∙ ap (λ o. option_or o (Some now)) agrees.tick;
        sets = agrees.sets;
        known_tick = λ is. some_or first now;
        known_reason = λ is one there.
            let same : call ≡ one = cc in
            subst (λ (c : Call). option_or sent_reason (rules.submit c (length shown)) ≡ sent_reason) same (again why (rules.submit call (length shown)));
      }

      sent_again : course.submitted ≡ true → Agrees shown since sent_reason (option_or first (Some now)) facts (record course { submitted = true })
      sent_again is =
          subst (λ (w : Option Why). Agrees shown since w (option_or first (Some now)) facts (record course { submitted = true })) (sym (agrees.known_reason is call here))
          (subst (λ (f : Option ℕ). Agrees shown since why f facts (record course { submitted = true })) (sym (known_or first now (agrees.known_tick is)))
          (record {
            unshown = agrees.unshown;
            index = agrees.index;
            ahead = agrees.ahead;
            many = agrees.many;
            reason = agrees.reason;
            recorded = agrees.recorded;
            tick = agrees.tick;
            sets = agrees.sets;
            known_tick = λ e. agrees.known_tick is;
            known_reason = λ e. agrees.known_reason is;
          }))

      pub sent_agree : (submitted : Bool) → course.submitted ≡ submitted → Agrees shown since sent_reason (option_or first (Some now)) (sent_facts submitted) (record course { submitted = true })
      sent_agree true is = sent_again is
      sent_agree false is =
          subst (λ (o : Option Call). Agrees shown since sent_reason (option_or first (Some now)) (reverse (submitted_fact true course o now) ++ facts) (record course { submitted = true })) (sym new_facts) first_sent
