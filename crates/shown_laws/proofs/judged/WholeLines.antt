-- A report of which each line holds is whole.
use Rattle.std.proofs.Common.{◌≡◌, refl, true, ℕ, ◌+◌, List, [], ◌∷◌, length}
use Rattle.std.specs.Prelude.{◌&&◌}
use Rattle.std.specs.List.{list_all}
use Rattle.std.proofs.lemmas.Bool.{and_parts, and_from}
use Rattle.run_clauses.specs.meaning.Copies.{has_its_reports}
use Rattle.shown_clauses.specs.meaning.Parts.{Part, parts_of, left_of, has_its_sessions}
use Rattle.shown_clauses.specs.meaning.Showings.{has_its_showings, calls_served, have_identifiers}
use Rattle.shown_clauses.specs.meaning.Steps.{Step, steps_of}
use Rattle.shown_clauses.specs.meaning.Submissions.{Submission, submissions_by_client}
use Rattle.shown_clauses.specs.meaning.Turns.{Owned, turns_of, turns_right, has_request, has_client}
use Rattle.shown_clauses.specs.meaning.Whole.{Evidence, are_taken, is_part_whole, is_client_whole, are_clients_whole, is_told_whole, told_by}
use Rattle.shown_laws.specs.ReportsTold.{are_parts}
use Rattle.shown_laws.specs.TurnReports.{are_turns, parts_turn_right, turns_have_requests}
use Rattle.shown_laws.specs.WholeLines.{LinesMakeWhole}
use Rattle.shown_laws.proofs.steps.CoursesOver.{both_hold}

module _ (told : Evidence) where
  -- the lines on the parts
  parts_whole : (its : List Owned) (parts : List Part) → list_all has_its_sessions parts ≡ true → list_all has_its_showings parts ≡ true → list_all calls_served parts ≡ true → list_all (have_identifiers told.image told.stored) parts ≡ true
      → list_all (turns_right its) parts ≡ true → list_all (is_part_whole told its) parts ≡ true
  parts_whole its parts sessions showings served identifiers right =
      both_hold has_its_sessions (λ part. has_its_showings part && (calls_served part && (have_identifiers told.image told.stored part && turns_right its part))) parts sessions
      (both_hold has_its_showings (λ part. calls_served part && (have_identifiers told.image told.stored part && turns_right its part)) parts showings
      (both_hold calls_served (λ part. have_identifiers told.image told.stored part && turns_right its part) parts served (both_hold (have_identifiers told.image told.stored) (turns_right its) parts identifiers right)))

  -- of each client, from this one on
  clients_whole : (client : ℕ) (submissions : List (List Submission)) → are_parts has_its_sessions client told.steps submissions ≡ true → are_parts has_its_showings client told.steps submissions ≡ true → are_parts calls_served client told.steps submissions ≡ true
      → are_parts (have_identifiers told.image told.stored) client told.steps submissions ≡ true → are_turns parts_turn_right client told.turns told.steps submissions ≡ true → are_turns turns_have_requests client told.turns told.steps submissions ≡ true
      → are_clients_whole told client submissions ≡ true
  clients_whole client [] sessions showings served identifiers right requests = refl
  clients_whole client (one ∷ more) sessions showings served identifiers right requests =
      let mine : List Step = steps_of client told.steps in
      let its : List Owned = turns_of client told.turns in
      let parts : List Part = parts_of one mine in
      let by_sessions = and_parts (list_all has_its_sessions parts) (are_parts has_its_sessions (client + 1) told.steps more) sessions in
      let by_showings = and_parts (list_all has_its_showings parts) (are_parts has_its_showings (client + 1) told.steps more) showings in
      let by_served = and_parts (list_all calls_served parts) (are_parts calls_served (client + 1) told.steps more) served in
      let by_identifiers = and_parts (list_all (have_identifiers told.image told.stored) parts) (are_parts (have_identifiers told.image told.stored) (client + 1) told.steps more) identifiers in
      let by_right = and_parts (parts_turn_right its one mine) (are_turns parts_turn_right (client + 1) told.turns told.steps more) right in
      let by_requests = and_parts (turns_have_requests its one mine) (are_turns turns_have_requests (client + 1) told.turns told.steps more) requests in
      and_from (is_client_whole told client one) (are_clients_whole told (client + 1) more)
      (and_from (list_all (has_request (left_of one mine)) its) (list_all (is_part_whole told its) parts) by_requests.0 (parts_whole its parts by_sessions.0 by_showings.0 by_served.0 by_identifiers.0 by_right.0))
      (clients_whole (client + 1) more by_sessions.1 by_showings.1 by_served.1 by_identifiers.1 by_right.1 by_requests.1)

pub lines_make_whole : LinesMakeWhole
lines_make_whole document report lines =
    let told : Evidence = told_by document report in
    let submissions : List (List Submission) = submissions_by_client document report in
    and_from (has_its_reports document report) (is_told_whole told submissions) lines.reports
    (and_from (are_taken told.steps) (list_all (has_client (length submissions)) told.turns && are_clients_whole told 1 submissions) lines.taken
    (and_from (list_all (has_client (length submissions)) told.turns) (are_clients_whole told 1 submissions) lines.clients
    (clients_whole told 1 submissions lines.sessions lines.showings lines.served lines.identifiers lines.turns lines.requests)))
