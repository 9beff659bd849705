-- What was submitted: a request, with its report.
use Rattle.shown_clauses.specs.meaning.Submissions.{Submission}
use Rattle.world_model.specs.meaning.Clients.{Past}
use Rattle.world_model.specs.Traced.{Course}

-- a request that is over
abbrev pub submission_of : Past → Submission
submission_of one = record { request = one.request; copy = one.report }

-- the request of a course, with its report as far as it has come
abbrev pub submission_so_far : Course → Submission
submission_so_far course = submission_of (record {
  request = course.request;
  steps = course.steps;
  report = course.report;
})
