-- Facts of a request one after the other, and the reasons that they give by the rules of the
-- service.
use Rattle.std.proofs.Common.{◌≡◌, ℕ, ◌+◌, Bool, true, false, List, [], ◌∷◌, ◌++◌, length, reverse, Option, Some, None, if◌then◌else◌, refl, sym, ap, subst, ◌∙◌, nat_le}
use Rattle.std.specs.Prelude.{option_map, filter_map}
use Rattle.std.specs.Option.{option_or}
use Rattle.std.proofs.lemmas.Grind.{reverse_onto}
use Rattle.std.proofs.lemmas.List.{length_push}
use Rattle.std.proofs.lemmas.List.Elements.{filter_map-append}
use Rattle.svc_values.specs.declared.answer.Answer.{Answer}
use Rattle.svc_values.specs.declared.call.Call.{Call}
use Rattle.svc_values.specs.declared.call.Call.TheVariants as call
use Rattle.request_bounds.specs.declared.rule.Why.TheVariants as why
use Rattle.request_bounds.specs.declared.rule.After.{After}
use Rattle.request_bounds.specs.declared.rule.After.TheVariants as after
use Rattle.request_bounds.specs.meaning.Rules.{Rules}
use Rattle.call_recorder.specs.declared.recorded.Recorded.{Recorded}
use Rattle.outage_schedule.specs.declared.document.Failover.{Failover}
use Rattle.outage_schedule.specs.declared.document.Failover.TheVariants as failover
use Rattle.outage_schedule.specs.declared.document.Consistency.{Consistency}
use Rattle.outage_schedule.specs.declared.document.Consistency.TheVariants as consistency
use Rattle.outage_schedule.specs.declared.document.ServiceOf.{ServiceOf}
use Rattle.outage_schedule.specs.declared.failure.Reason.{Reason}
use Rattle.outage_schedule.specs.declared.failure.Reason.TheVariants as reason
use Rattle.client_model.specs.meaning.Terms.{Terms}
use Rattle.client_model.specs.meaning.Account.{reply_reason, since_after}
use Rattle.client_model.specs.Reasons.{rules_of}
use Rattle.run_clauses.specs.meaning.Reports as report
use Rattle.shown_clauses.specs.meaning.Fronts.{first_item}
use Rattle.shown_clauses.specs.meaning.Turns.{ends_decided}
use Rattle.shown_clauses.specs.meaning.Facts.{Fact, Submitted, Showed}
use Rattle.shown_clauses.specs.meaning.Reasons.{off_at, asked_at, settings_at, after_commit_at, full_at, submission_reason, showing_reason, since_now, reason_from}
use Rattle.shown_clauses.specs.meaning.Causes.{first_tick, submitted_at}
use Rattle.caused_laws.specs.ServiceTerms.{kind_of, limits_of}

-- FACTS -------------------------------------------------------------------------------------------

pub or-none : {T : Type 0} (a : Option T) → option_or a None ≡ a
or-none None = refl
or-none (Some x) = refl

or-assoc : {T : Type 0} (a b c : Option T) → option_or a (option_or b c) ≡ option_or (option_or a b) c
or-assoc None b c = refl
or-assoc (Some x) b c = refl

pub reverse-first : {X : Type 0} (x : X) (xs : List X) → reverse (x ∷ xs) ≡ reverse xs ++ x ∷ []
reverse-first x xs = reverse_onto xs x []

-- how many calls these facts show since the last one that was decided
abbrev pub counted : ℕ → List Fact → ℕ
counted since [] = since
counted since (Submitted one index tick ∷ facts) = counted since facts
counted since (Showed one answers ∷ facts) = counted (since_now since answers) facts

pub counted-submitted : (since : ℕ) (facts : List Fact) (one : Call) (index tick : ℕ) → counted since (facts ++ Submitted one index tick ∷ []) ≡ counted since facts
counted-submitted since [] one index tick = refl
counted-submitted since (Submitted a i t ∷ facts) one index tick = counted-submitted since facts one index tick
counted-submitted since (Showed a answers ∷ facts) one index tick = counted-submitted (since_now since answers) facts one index tick

pub counted-showed : (since : ℕ) (facts : List Fact) (one : Call) (answers : List Answer) → counted since (facts ++ Showed one answers ∷ []) ≡ since_now (counted since facts) answers
counted-showed since [] one answers = refl
counted-showed since (Submitted a i t ∷ facts) one answers = counted-showed since facts one answers
counted-showed since (Showed a more ∷ facts) one answers = counted-showed (since_now since more) facts one answers

pub reason-submitted : (service : ServiceOf) (since : ℕ) (facts : List Fact) (one : Call) (index tick : ℕ)
    → reason_from service since (facts ++ Submitted one index tick ∷ []) ≡ option_or (reason_from service since facts) (submission_reason service one index)
reason-submitted service since [] one index tick = or-none (submission_reason service one index)
reason-submitted service since (Submitted a i t ∷ facts) one index tick =
    ap (option_or (submission_reason service a i)) (reason-submitted service since facts one index tick)
    ∙ or-assoc (submission_reason service a i) (reason_from service since facts) (submission_reason service one index)
reason-submitted service since (Showed a answers ∷ facts) one index tick =
    ap (option_or (showing_reason service since answers)) (reason-submitted service (since_now since answers) facts one index tick)
    ∙ or-assoc (showing_reason service since answers) (reason_from service (since_now since answers) facts) (submission_reason service one index)

pub reason-showed : (service : ServiceOf) (since : ℕ) (facts : List Fact) (one : Call) (answers : List Answer)
    → reason_from service since (facts ++ Showed one answers ∷ []) ≡ option_or (reason_from service since facts) (showing_reason service (counted since facts) answers)
reason-showed service since [] one answers = or-none (showing_reason service since answers)
reason-showed service since (Submitted a i t ∷ facts) one answers =
    ap (option_or (submission_reason service a i)) (reason-showed service since facts one answers)
    ∙ or-assoc (submission_reason service a i) (reason_from service since facts) (showing_reason service (counted since facts) answers)
reason-showed service since (Showed a more ∷ facts) one answers =
    ap (option_or (showing_reason service since more)) (reason-showed service (since_now since more) facts one answers)
    ∙ or-assoc (showing_reason service since more) (reason_from service (since_now since more) facts) (showing_reason service (counted (since_now since more) facts) answers)

first-append : {X : Type 0} (xs ys : List X) → first_item (xs ++ ys) ≡ option_or (first_item xs) (first_item ys)
first-append [] ys = refl
first-append (x ∷ xs) ys = refl

pub tick-submitted : (facts : List Fact) (one : Call) (index tick : ℕ) → first_tick (facts ++ Submitted one index tick ∷ []) ≡ option_or (first_tick facts) (Some tick)
tick-submitted facts one index tick =
    ap first_item (filter_map-append submitted_at facts (Submitted one index tick ∷ []))
    ∙ first-append (filter_map submitted_at facts) (tick ∷ [])

pub tick-showed : (facts : List Fact) (one : Call) (answers : List Answer) → first_tick (facts ++ Showed one answers ∷ []) ≡ first_tick facts
tick-showed facts one answers =
    ap first_item (filter_map-append submitted_at facts (Showed one answers ∷ []))
    ∙ first-append (filter_map submitted_at facts) []
    ∙ or-none (first_item (filter_map submitted_at facts))

-- RULES -------------------------------------------------------------------------------------------

abbrev pub is_off : Failover → Bool
is_off failover.Off = true
is_off _ = false

-- the table's reason for a submission is the rule's
pub submit_same : (f : Failover) (c : Consistency) (one : Call) (index : ℕ)
    → option_or (off_at f) (option_or (asked_at one index) (settings_at f c one index)) ≡ option_map report.reason_of ((rules_of (kind_of f c)).submit one index)
submit_same failover.Off c one index = refl
submit_same failover.Transaction consistency.Dynamic (call.Work statements commit) index = refl
submit_same failover.Transaction consistency.Dynamic (call.Set name value) index = refl
submit_same failover.Transaction consistency.Dynamic (call.Alter line) index = refl
submit_same failover.Transaction consistency.Dynamic call.Disable index = refl
submit_same failover.Transaction consistency.Dynamic call.Rollback index = refl
submit_same failover.Transaction consistency.Static (call.Work statements commit) index = refl
submit_same failover.Transaction consistency.Static (call.Set name value) index = refl
submit_same failover.Transaction consistency.Static (call.Alter line) index = refl
submit_same failover.Transaction consistency.Static call.Disable index = refl
submit_same failover.Transaction consistency.Static call.Rollback index = refl
submit_same failover.Auto c (call.Work statements commit) index = refl
submit_same failover.Auto c (call.Set name value) index = refl
submit_same failover.Auto c (call.Alter line) index = refl
submit_same failover.Auto c call.Disable index = refl
submit_same failover.Auto c call.Rollback index = refl

-- what a showing gives, and what is recorded behind it
pub record ShowsSame (service : ServiceOf) (terms : Terms) (since : List Recorded) (one : Recorded) (decided : Bool) (commit : Option Reason) (after : After) : Type 0 where
  pub reason_is : (if decided then commit else full_at service.record_limit (length since)) ≡ option_map report.reason_of (reply_reason terms (length since) after)
  pub many : reply_reason terms (length since) after ≡ None → length (since_after since one after) ≡ (if decided then 0 else length since + 1)

full_same : (limit since : ℕ) (b : Bool) → (if b then Some (reason.Full limit) else None) ≡ option_map report.reason_of (if b then Some (why.Full limit) else None)
full_same limit since true = refl
full_same limit since false = refl

module _ (service : ServiceOf) (rules : Rules) (told : List Answer → List ℕ) where
  -- the terms of the service, with these rules and this digest
  abbrev pub terms_by : Terms
  terms_by = record { rules = rules; limits = limits_of service; recorded = service.record_limit; digest = told }

  module _ (since : List Recorded) (one : Recorded) where
    recorded_shows : (commit : Option Reason) → ShowsSame service terms_by since one false commit after.Record
    recorded_shows commit = record {
      reason_is = full_same service.record_limit (length since) (nat_le service.record_limit (length since));
      many = λ none. length_push since one;
    }

    pub shows_same : (f : Failover) (c : Consistency) (decided : Bool) (answers : List Answer) → is_off f ≡ false → ends_decided answers ≡ decided
        → ShowsSame service terms_by since one decided (after_commit_at f c) ((rules_of (kind_of f c)).reply answers)
    shows_same failover.Off c decided answers off is = absurd (let none : ⊥ = cc in none)
    shows_same failover.Transaction consistency.Dynamic true answers off is =
        subst (λ (d : Bool). ShowsSame service terms_by since one true (Some reason.AfterCommit) (if d then after.Stop why.AfterCommit else after.Record)) (sym is)
        (record { reason_is = refl; many = λ none. absurd (let no : ⊥ = cc in no) })
    shows_same failover.Transaction consistency.Dynamic false answers off is =
        subst (λ (d : Bool). ShowsSame service terms_by since one false (Some reason.AfterCommit) (if d then after.Stop why.AfterCommit else after.Record)) (sym is) (recorded_shows (Some reason.AfterCommit))
    shows_same failover.Transaction consistency.Static true answers off is =
        subst (λ (d : Bool). ShowsSame service terms_by since one true None (if d then after.Purge else after.Record)) (sym is) (record { reason_is = refl; many = λ none. refl })
    shows_same failover.Transaction consistency.Static false answers off is =
        subst (λ (d : Bool). ShowsSame service terms_by since one false None (if d then after.Purge else after.Record)) (sym is) (recorded_shows None)
    shows_same failover.Auto c true answers off is =
        subst (λ (d : Bool). ShowsSame service terms_by since one true None (if d then after.Purge else after.Record)) (sym is) (record { reason_is = refl; many = λ none. refl })
    shows_same failover.Auto c false answers off is =
        subst (λ (d : Bool). ShowsSame service terms_by since one false None (if d then after.Purge else after.Record)) (sym is) (recorded_shows None)
