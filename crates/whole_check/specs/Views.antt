-- How what the code keeps is seen.
use Rattle.std.specs.Prelude.{List, map}
use Rattle.shown_clauses.specs.meaning.Showings.{Shown}
use Rattle.shown_clauses.specs.meaning.Submissions.{Submission}
use Rattle.shown_clauses.specs.meaning.Turns.{Owned}
use Rattle.report_parts.specs.declared.submitting.Submissions.{Submissions}
use Rattle.report_parts.specs.SubmissionViews.{submission_as}
use Rattle.whole_check.specs.declared.owned.OwnedAt.{OwnedAt}
use Rattle.whole_check.specs.declared.shown.ShownAt.{ShownAt}

abbrev pub owned_as : OwnedAt → Owned
owned_as one = record { event = one.event; turn = one.turn.now }

abbrev pub shown_as : ShownAt → Shown
shown_as one = record {
  call = one.call.now;
  tried = one.tried.now;
  shown = one.shown.now;
  showing = one.showing.now;
}

-- all of a client
abbrev pub submissions_as : Submissions → List Submission
submissions_as made = map submission_as made.all.items
