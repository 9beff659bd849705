-- What of a request is protected, call by call, under the rule of its service.
use Rattle.std.specs.Prelude.{ℕ, ◌+◌, ◌||◌, Bool, true, false, nat_lt, is_some, List, if◌then◌else◌}
use Rattle.svc_values.specs.declared.answer.Answer.{Answer}
use Rattle.svc_values.specs.declared.call.Call.{Call}
use Rattle.request_bounds.specs.declared.rule.After.{After}
use Rattle.request_bounds.specs.declared.rule.After.TheVariants as after
use Rattle.request_bounds.specs.meaning.Rules.{Rules}

-- How many calls of a request were shown, how many of them were protected, and how many are
-- recorded, of which there are at most `limit`;
-- whether the protection has ended; and whether a call was submitted that was not yet shown.
pub record Covered (R : Type 0) : Type 0 where
  pub rule : R
  pub limit : ℕ
  pub shown : ℕ
  pub guarded : ℕ
  pub recorded : ℕ
  pub stopped : Bool
  pub waits : Bool

-- nothing of it was submitted
abbrev pub nothing_covered : {R : Type 0} → R → ℕ → Covered R
nothing_covered rule limit = record {
  rule = rule;
  limit = limit;
  shown = 0;
  guarded = 0;
  recorded = 0;
  stopped = false;
  waits = false;
}

-- A call goes out. The protection ends where the rule says so of the submission of this call, and
-- stays ended.
abbrev pub submitted : {R : Type 0} → Rules → Covered R → Call → Covered R
submitted rules covered call = record covered {
  stopped = covered.stopped || is_some (rules.submit call covered.shown);
  waits = true;
}

-- It is shown: it was protected where the protection had not ended when it was submitted.
abbrev pub counted : {R : Type 0} → Covered R → Covered R
counted covered = record covered {
  shown = covered.shown + 1;
  guarded = (if covered.stopped then covered.guarded else covered.guarded + 1);
  waits = false;
}

-- What the rule says of its answers: it is recorded, where fewer than `limit` are, or the
-- protection ends; or none is recorded any more.
abbrev pub replied : {R : Type 0} → Covered R → After → Covered R
replied covered after.Record =
    if nat_lt covered.recorded covered.limit then record covered { recorded = covered.recorded + 1 }
    else record covered { stopped = true }
replied covered after.Purge = record covered { recorded = 0 }
replied covered (after.Stop why) = record covered { stopped = true }

abbrev pub showed : {R : Type 0} → Rules → Covered R → List Answer → Covered R
showed rules covered answers = replied (counted covered) (rules.reply answers)
