-- What is counted under the rule of a service is what its table of reasons says.
use Rattle.std.specs.Prelude.{◌≡◌, ◌≤◌, length}
use Rattle.request_bounds.specs.meaning.Rules.{Rules}
use Rattle.outage_schedule.specs.declared.document.ServiceOf.{ServiceOf}
use Rattle.shown_clauses.specs.meaning.Submissions.{Submission}
use Rattle.shown_clauses.specs.meaning.Cover.{counts_of}
use Rattle.world_model.specs.meaning.Settings.{rules_of}
use Rattle.auto_bounds.specs.Covered.{Covered, nothing_covered}
use Rattle.cover_core.specs.Coverings.{covered}

-- what is counted over a report of a request, under the rules of a rule
abbrev pub covered_of : {R : Type 0} → (R → Rules) → R → ServiceOf → Submission → Covered R
covered_of rules rule service submission =
    let nothing = nothing_covered rule service.record_limit in
    covered (rules rule) nothing submission.request.calls submission.copy.calls

-- The counts are those of `Cover`: of the protected calls, and of the shown ones where no more are
-- shown than the request has.
pub record HasItsCounts {R : Type 0} (service : ServiceOf) (submission : Submission)
    (after : Covered R) : Type 0 where
  pub protected : after.guarded ≡ (counts_of service submission).protected
  pub shown : length submission.copy.calls ≤ length submission.request.calls
      → after.shown ≡ (counts_of service submission).calls

-- so it is under each rule that is the service's
abbrev pub CoverageIsCover : {R : Type 0} → (R → Rules) → Type 0
CoverageIsCover {R = R} rules =
    (rule : R) (service : ServiceOf) (submission : Submission)
    → rules rule ≡ rules_of service.failover service.consistency
    → HasItsCounts service submission (covered_of rules rule service submission)
