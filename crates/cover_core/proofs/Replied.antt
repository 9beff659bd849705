-- What a rule does at a submission and at a showing, and what the table of reasons says of it.
use Rattle.std.proofs.Common.{◌≡◌, ℕ, ◌+◌, Bool, true, false, not, ◌||◌, List, Option, Some, None, if◌then◌else◌, refl, sym, ap, subst, ◌∙◌}
use Rattle.std.specs.Prelude.{is_some, nat_lt, nat_le}
use Rattle.std.specs.Option.{option_or}
use Rattle.std.proofs.lemmas.Bool.{lt-ltb, le-ltb, leb-true, leb-false}
use Rattle.svc_values.specs.declared.answer.Answer.{Answer}
use Rattle.svc_values.specs.declared.call.Call.{Call}
use Rattle.svc_values.specs.declared.call.Call.TheVariants as call
use Rattle.request_bounds.specs.declared.rule.Why.TheVariants as why
use Rattle.request_bounds.specs.declared.rule.After.{After}
use Rattle.request_bounds.specs.declared.rule.After.TheVariants as after
use Rattle.outage_schedule.specs.declared.document.Failover.{Failover}
use Rattle.outage_schedule.specs.declared.document.Failover.TheVariants as failover
use Rattle.outage_schedule.specs.declared.document.Consistency.{Consistency}
use Rattle.outage_schedule.specs.declared.document.Consistency.TheVariants as consistency
use Rattle.outage_schedule.specs.declared.failure.Reason.{Reason}
use Rattle.outage_schedule.specs.declared.failure.Reason.TheVariants as reason
use Rattle.shown_clauses.specs.meaning.Turns.{ends_decided}
use Rattle.shown_clauses.specs.meaning.Reasons.{off_at, asked_at, settings_at, after_commit_at, full_at}
use Rattle.world_model.specs.meaning.Settings.{rules_of}
use Rattle.auto_bounds.specs.Covered.{Covered, replied}

pub or_false : (a : Bool) → (a || false) ≡ a
or_false true = refl
or_false false = refl

or_true : (a : Bool) → (a || true) ≡ true
or_true true = refl
or_true false = refl

-- SUBMISSIONS -------------------------------------------------------------------------------------

abbrev pub is_off : Failover → Bool
is_off failover.Off = true
is_off _ = false

-- the table has a reason for a submission where the rule has one
pub submit_same : (f : Failover) (c : Consistency) (one : Call) (index : ℕ)
    → is_some (option_or (off_at f) (option_or (asked_at one index) (settings_at f c one index))) ≡ is_some ((rules_of f c).submit one index)
submit_same failover.Off c one index = refl
submit_same failover.Transaction consistency.Dynamic (call.Work statements commit) index = refl
submit_same failover.Transaction consistency.Dynamic (call.Set name value) index = refl
submit_same failover.Transaction consistency.Dynamic (call.Alter line) index = refl
submit_same failover.Transaction consistency.Dynamic call.Disable index = refl
submit_same failover.Transaction consistency.Dynamic call.Rollback index = refl
submit_same failover.Transaction consistency.Static (call.Work statements commit) index = refl
submit_same failover.Transaction consistency.Static (call.Set name value) index = refl
submit_same failover.Transaction consistency.Static (call.Alter line) index = refl
submit_same failover.Transaction consistency.Static call.Disable index = refl
submit_same failover.Transaction consistency.Static call.Rollback index = refl
submit_same failover.Auto c (call.Work statements commit) index = refl
submit_same failover.Auto c (call.Set name value) index = refl
submit_same failover.Auto c (call.Alter line) index = refl
submit_same failover.Auto c call.Disable index = refl
submit_same failover.Auto c call.Rollback index = refl

-- without a replay no submission passes
pub off_stops : (f : Failover) (c : Consistency) (one : Call) (index : ℕ)
    → is_some ((rules_of f c).submit one index) ≡ false → is_off f ≡ false
off_stops failover.Off c one index passes = absurd (let none : ⊥ = cc in none)
off_stops failover.Transaction c one index passes = refl
off_stops failover.Auto c one index passes = refl

-- REPLIES -----------------------------------------------------------------------------------------

-- whether a reply ends the protection where so many calls are recorded, and how many are recorded
-- behind it
abbrev pub ends_at : ℕ → ℕ → After → Bool
ends_at limit recorded after.Record = nat_le limit recorded
ends_at limit recorded after.Purge = false
ends_at limit recorded (after.Stop why) = true

abbrev pub recorded_after : ℕ → ℕ → After → ℕ
recorded_after limit recorded after.Record = if nat_le limit recorded then recorded else recorded + 1
recorded_after limit recorded after.Purge = 0
recorded_after limit recorded (after.Stop why) = recorded

below : (a b : ℕ) → nat_lt a b ≡ not (nat_le b a)
below a b = by (nat_le b a) refl
  where
    by : (c : Bool) → nat_le b a ≡ c → nat_lt a b ≡ not c
    by true is = le-ltb a b (leb-true b a is)
    by false is = lt-ltb a b (leb-false b a is)

-- what a reply does, field by field
pub replied_is : {R : Type 0} (covered : Covered R) (reply : After)
    → replied covered reply ≡ record covered { stopped = covered.stopped || ends_at covered.limit covered.recorded reply; recorded = recorded_after covered.limit covered.recorded reply }
replied_is {R = R} covered after.Record = ap by (below covered.recorded covered.limit) ∙ full (nat_le covered.limit covered.recorded)
  where
    by : Bool → Covered R
    by fits = if fits then record covered { recorded = covered.recorded + 1 } else record covered { stopped = true }

    full : (b : Bool)
        → by (not b) ≡ record covered { stopped = covered.stopped || b; recorded = (if b then covered.recorded else covered.recorded + 1) }
    full true = ap (λ stopped. record covered { stopped = stopped }) (sym (or_true covered.stopped))
    full false = ap (λ stopped. record covered { stopped = stopped; recorded = covered.recorded + 1 }) (sym (or_false covered.stopped))
replied_is covered after.Purge = ap (λ stopped. record covered { stopped = stopped; recorded = 0 }) (sym (or_false covered.stopped))
replied_is covered (after.Stop why) = ap (λ stopped. record covered { stopped = stopped }) (sym (or_true covered.stopped))

-- a reply ends the protection where the table has a reason for the showing, and else there are so
-- many recorded calls as were shown since
pub record ShowsSame (limit since : ℕ) (decided : Bool) (commit : Option Reason) (reply : After) : Type 0 where
  pub ends : ends_at limit since reply ≡ is_some (if decided then commit else full_at limit since)
  pub many : ends_at limit since reply ≡ false
      → recorded_after limit since reply ≡ (if decided then 0 else since + 1)

full_same : (limit since : ℕ) (b : Bool)
    → b ≡ is_some (if b then Some (reason.Full limit) else None)
full_same limit since true = refl
full_same limit since false = refl

recorded_shows : (limit since : ℕ) (commit : Option Reason)
    → ShowsSame limit since false commit after.Record
recorded_shows limit since commit = record {
  ends = full_same limit since (nat_le limit since);
  many = λ goes. ap (λ b. if b then since else since + 1) goes;
}

pub shows_same : (f : Failover) (c : Consistency) (limit since : ℕ) (answers : List Answer) (decided : Bool)
    → is_off f ≡ false → ends_decided answers ≡ decided
    → ShowsSame limit since decided (after_commit_at f c) ((rules_of f c).reply answers)
shows_same failover.Off c limit since answers decided off is = absurd (let none : ⊥ = cc in none)
shows_same failover.Transaction consistency.Dynamic limit since answers true off is =
    subst (λ (d : Bool). ShowsSame limit since true (Some reason.AfterCommit) (if d then after.Stop why.AfterCommit else after.Record)) (sym is)
    (record { ends = refl; many = λ goes. absurd (let none : ⊥ = cc in none) })
shows_same failover.Transaction consistency.Dynamic limit since answers false off is =
    subst (λ (d : Bool). ShowsSame limit since false (Some reason.AfterCommit) (if d then after.Stop why.AfterCommit else after.Record)) (sym is) (recorded_shows limit since (Some reason.AfterCommit))
shows_same failover.Transaction consistency.Static limit since answers true off is =
    subst (λ (d : Bool). ShowsSame limit since true None (if d then after.Purge else after.Record)) (sym is) (record { ends = refl; many = λ goes. refl })
shows_same failover.Transaction consistency.Static limit since answers false off is =
    subst (λ (d : Bool). ShowsSame limit since false None (if d then after.Purge else after.Record)) (sym is) (recorded_shows limit since None)
shows_same failover.Auto c limit since answers true off is =
    subst (λ (d : Bool). ShowsSame limit since true None (if d then after.Purge else after.Record)) (sym is) (record { ends = refl; many = λ goes. refl })
shows_same failover.Auto c limit since answers false off is =
    subst (λ (d : Bool). ShowsSame limit since false None (if d then after.Purge else after.Record)) (sym is) (recorded_shows limit since None)
