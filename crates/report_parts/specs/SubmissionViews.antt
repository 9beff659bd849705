-- How submissions are seen.
use Rattle.report_parts.specs.declared.submitting.Last.{Last as LastAt}
use Rattle.report_parts.specs.declared.submitting.Submission.{Submission as SubmissionAt}
use Rattle.shown_clauses.specs.meaning.Submissions.{Submission}
use Rattle.report_parts.specs.Submitting.{Last}

abbrev pub submission_as : SubmissionAt → Submission
submission_as one = record { request = one.request.now; copy = one.copy.now }

abbrev pub last_as : LastAt → Last
last_as one = record { allowed = one.allowed; request = one.request.now; copy = one.copy.now }
