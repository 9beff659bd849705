-- What is covered call by call is what the table of reasons says.
use Rattle.std.proofs.Common.{◌≡◌, ℕ, suc, ◌+◌, ◌≤◌, Bool, true, false, not, ◌||◌, List, [], ◌∷◌, ◌++◌, length, if◌then◌else◌, refl, sym, ap, ◌∙◌, arith}
use Rattle.std.specs.Prelude.{is_some, filter}
use Rattle.svc_values.specs.declared.answer.Answer.{Answer}
use Rattle.svc_values.specs.declared.call.Call.{Call}
use Rattle.request_bounds.specs.meaning.Rules.{Rules}
use Rattle.outage_schedule.specs.declared.document.ServiceOf.{ServiceOf}
use Rattle.outage_schedule.specs.declared.request.ShownCall.{ShownCall}
use Rattle.shown_clauses.specs.meaning.Turns.{ends_decided}
use Rattle.shown_clauses.specs.meaning.Facts.{Fact, Submitted, Showed}
use Rattle.shown_clauses.specs.meaning.Reasons.{after_commit_at, submission_reason, showing_reason, reason_of}
use Rattle.shown_clauses.specs.meaning.Cover.{protections}
use Rattle.world_model.specs.meaning.Settings.{rules_of}
use Rattle.auto_bounds.specs.Covered.{Covered, nothing_covered, submitted, counted, showed}
use Rattle.cover_core.specs.Coverings.{covered}
use Rattle.cover_core.specs.Laws.{CoverageIsCover}
use Rattle.cover_core.proofs.Facts.{some_or, since_of, since_submitted, since_showed, reason_submitted, reason_showed}
use Rattle.cover_core.proofs.Replied.{submit_same, off_stops, ends_at, recorded_after, replied_is, ShowsSame, shows_same}

-- no call is left
pub no_calls : {R : Type 0} (rules : Rules) (before : Covered R) (shown : List ShownCall)
    → covered rules before [] shown ≡ before
no_calls rules before [] = refl
no_calls rules before (one ∷ shown) = refl

neither : (a b : Bool) → (a || b) ≡ false → (a ≡ false) × (b ≡ false)
neither false b e = (refl, e)
neither true b e = absurd (let none : ⊥ = cc in none)

abbrev protected_in : List Bool → ℕ
protected_in flags = length (filter (λ protected. protected) flags)

one_more : (guarded : ℕ) (stopped : Bool) (flags : List Bool)
    → (if stopped then guarded else guarded + 1) + protected_in flags ≡ guarded + protected_in (not stopped ∷ flags)
one_more guarded true flags = refl
one_more guarded false flags = let n : ℕ = protected_in flags in let same : guarded + 1 + n ≡ guarded + suc n = omega arith in same

module _ {R : Type 0} (service : ServiceOf) (rules : Rules) (ruled : rules ≡ rules_of service.failover service.consistency) where
  -- what is counted agrees with the facts of the request so far
  record Agrees (so_far : Covered R) (before : List Fact) (index : ℕ) : Type 0 where
    limit : so_far.limit ≡ service.record_limit
    shown : so_far.shown ≡ index
    stopped : so_far.stopped ≡ is_some (reason_of service before)
    recorded : so_far.stopped ≡ false → so_far.recorded ≡ since_of 0 before

  module _ (so_far : Covered R) (before : List Fact) (index : ℕ) (agrees : Agrees so_far before index) (call : Call) where
    abbrev sent : Covered R
    sent = submitted rules so_far call

    abbrev sent_facts : List Fact
    sent_facts = before ++ Submitted call index 0 ∷ []

    -- the rule ends the protection at the submission where the table has a reason
    same_end : is_some (rules.submit call so_far.shown)
        ≡ is_some (submission_reason service call index)
    same_end =
        ap (λ (r : Rules). is_some (r.submit call so_far.shown)) ruled
        ∙ (ap (λ n. is_some ((rules_of service.failover service.consistency).submit call n)) agrees.shown
        ∙ sym (submit_same service.failover service.consistency call index))

    sent_stopped : sent.stopped ≡ is_some (reason_of service sent_facts)
    sent_stopped =
        ap (λ b. b || is_some (rules.submit call so_far.shown)) agrees.stopped
        ∙ (ap (λ b. is_some (reason_of service before) || b) same_end
        ∙ (sym (some_or (reason_of service before) (submission_reason service call index))
        ∙ ap is_some (sym (reason_submitted service 0 before call index 0))))

    module _ (answers : List Answer) where
      abbrev after : Covered R
      after = showed rules sent answers

      abbrev shown_facts : List Fact
      shown_facts = sent_facts ++ Showed call answers ∷ []

      abbrev ends : Bool
      ends = ends_at so_far.limit so_far.recorded (rules.reply answers)

      fields : after
          ≡ record (counted sent) { stopped = sent.stopped || ends; recorded = recorded_after so_far.limit so_far.recorded (rules.reply answers) }
      fields = replied_is (counted sent) (rules.reply answers)

      one_counted : after.guarded ≡ (if sent.stopped then so_far.guarded else so_far.guarded + 1)
      one_counted = ap (λ c. c.guarded) fields

      one_shown : after.shown ≡ so_far.shown + 1
      one_shown = ap (λ c. c.shown) fields

      -- where nothing has ended the protection, so many calls are recorded as were shown since the
      -- last that was decided
      counted_since : sent.stopped ≡ false → so_far.recorded ≡ since_of 0 sent_facts
      counted_since goes = agrees.recorded (neither so_far.stopped _ goes).0 ∙ sym (since_submitted 0 before call index 0)

      -- and then the showing is alike in both
      shows : sent.stopped ≡ false
          → ShowsSame service.record_limit (since_of 0 sent_facts) (ends_decided answers) (after_commit_at service.failover service.consistency) ((rules_of service.failover service.consistency).reply answers)
      shows goes =
          shows_same service.failover service.consistency service.record_limit (since_of 0 sent_facts) answers (ends_decided answers)
          (off_stops service.failover service.consistency call so_far.shown (ap (λ (r : Rules). is_some (r.submit call so_far.shown)) (sym ruled) ∙ (neither so_far.stopped _ goes).1))
          refl

      abbrev as_told : ℕ → Rules → Bool
      as_told recorded r = ends_at service.record_limit recorded (r.reply answers)

      told : sent.stopped ≡ false
          → ends ≡ as_told (since_of 0 sent_facts) (rules_of service.failover service.consistency)
      told goes =
          ap (λ n. ends_at n so_far.recorded (rules.reply answers)) agrees.limit
          ∙ (ap (λ n. as_told n rules) (counted_since goes) ∙ ap (as_told (since_of 0 sent_facts)) ruled)

      ended : (b : Bool) → sent.stopped ≡ b
          → (b || ends) ≡ (b || is_some (showing_reason service (since_of 0 sent_facts) answers))
      ended true is = refl
      ended false is = told is ∙ (shows is).ends

      after_stopped : (sent.stopped || ends) ≡ is_some (reason_of service shown_facts)
      after_stopped =
          ended sent.stopped refl
          ∙ (ap (λ b. b || is_some (showing_reason service (since_of 0 sent_facts) answers)) sent_stopped
          ∙ (sym (some_or (reason_of service sent_facts) (showing_reason service (since_of 0 sent_facts) answers))
          ∙ ap is_some (sym (reason_showed service 0 sent_facts call answers))))

      after_recorded : (sent.stopped || ends) ≡ false
          → recorded_after so_far.limit so_far.recorded (rules.reply answers) ≡ since_of 0 shown_facts
      after_recorded goes =
          let both = neither sent.stopped ends goes in
          ap (λ n. recorded_after n so_far.recorded (rules.reply answers)) agrees.limit
          ∙ (ap (λ n. recorded_after service.record_limit n (rules.reply answers)) (counted_since both.0)
          ∙ (ap (λ (r : Rules). recorded_after service.record_limit (since_of 0 sent_facts) (r.reply answers)) ruled
          ∙ ((shows both.0).many (sym (told both.0) ∙ both.1)
          ∙ sym (since_showed 0 sent_facts call answers))))

      goes_on : Agrees after shown_facts (index + 1)
      goes_on = record {
        limit = ap (λ c. c.limit) fields ∙ agrees.limit;
        shown = one_shown ∙ ap (λ n. n + 1) agrees.shown;
        stopped = ap (λ c. c.stopped) fields ∙ after_stopped;
        recorded = λ goes. ap (λ c. c.recorded) fields ∙ after_recorded (sym (ap (λ c. c.stopped) fields) ∙ goes);
      }

  -- over calls and what was shown of them, the protected ones are counted
  covers : (so_far : Covered R) (before : List Fact) (index : ℕ) → Agrees so_far before index
      → (calls : List Call) (shown : List ShownCall)
      → (covered rules so_far calls shown).guarded ≡ so_far.guarded + protected_in (protections service before index calls shown)
  covers so_far before index agrees [] [] = let same : so_far.guarded ≡ so_far.guarded + 0 = omega arith in same
  covers so_far before index agrees (call ∷ calls) [] = let same : so_far.guarded ≡ so_far.guarded + 0 = omega arith in same
  covers so_far before index agrees [] (one ∷ shown) = let same : so_far.guarded ≡ so_far.guarded + 0 = omega arith in same
  covers so_far before index agrees (call ∷ calls) (one ∷ shown) =
      let rest : List Bool = protections service (shown_facts so_far before index agrees call one.answers) (index + 1) calls shown in
      covers (after so_far before index agrees call one.answers) (shown_facts so_far before index agrees call one.answers) (index + 1) (goes_on so_far before index agrees call one.answers) calls shown
      ∙ (ap (λ n. n + protected_in rest) (one_counted so_far before index agrees call one.answers)
      ∙ (one_more so_far.guarded (sent so_far before index agrees call).stopped rest
      ∙ ap (λ b. so_far.guarded + protected_in (not b ∷ rest)) (sent_stopped so_far before index agrees call)))

  -- and so are the shown ones, where the request has as many
  shows_all : (so_far : Covered R) (before : List Fact) (index : ℕ) → Agrees so_far before index
      → (calls : List Call) (shown : List ShownCall) → length shown ≤ length calls
      → (covered rules so_far calls shown).shown ≡ so_far.shown + length shown
  shows_all so_far before index agrees [] [] few = let same : so_far.shown ≡ so_far.shown + 0 = omega arith in same
  shows_all so_far before index agrees (call ∷ calls) [] few = let same : so_far.shown ≡ so_far.shown + 0 = omega arith in same
  shows_all so_far before index agrees [] (one ∷ shown) few = absurd (let none : ⊥ = omega (arith, few) in none)
  shows_all so_far before index agrees (call ∷ calls) (one ∷ shown) few =
      let n : ℕ = length shown in
      shows_all (after so_far before index agrees call one.answers) (shown_facts so_far before index agrees call one.answers) (index + 1) (goes_on so_far before index agrees call one.answers) calls shown (omega (arith, few))
      ∙ (ap (λ m. m + n) (one_shown so_far before index agrees call one.answers)
      ∙ (let same : so_far.shown + 1 + n ≡ so_far.shown + suc n = omega arith in same))

  starts : (rule : R) → Agrees (nothing_covered rule service.record_limit) [] 0
  starts rule = record { limit = refl; shown = refl; stopped = refl; recorded = λ goes. refl }

from_none : (n : ℕ) → 0 + n ≡ n
from_none n = let same : 0 + n ≡ n = omega arith in same

pub coverage_is : {R : Type 0} (rules : R → Rules) → CoverageIsCover rules
coverage_is rules rule service submission ruled =
    let agrees = starts service (rules rule) ruled rule in
    let nothing = nothing_covered rule service.record_limit in
    let calls : List Call = submission.request.calls in
    let shown : List ShownCall = submission.copy.calls in
    let flags : List Bool = protections service [] 0 calls shown in
    record {
      protected = covers service (rules rule) ruled nothing [] 0 agrees calls shown ∙ from_none (protected_in flags);
      shown = λ few. shows_all service (rules rule) ruled nothing [] 0 agrees calls shown few ∙ from_none (length shown);
    }
