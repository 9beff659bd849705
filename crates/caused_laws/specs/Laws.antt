-- What the judge makes of the conversations of a client.
use Rattle.std.specs.Prelude.{◌≡◌, ◌≢◌, ◌≤◌, ◌+◌, ℕ, Bool, IsTrue, List, [], ◌∷◌, fold, map, flat_map}
use Rattle.outage_schedule.specs.declared.document.Document.{Document}
use Rattle.outage_schedule.specs.declared.document.Request.{Request}
use Rattle.outage_schedule.specs.declared.document.ServiceOf.{ServiceOf}
use Rattle.outage_schedule.specs.declared.report.Report.{Report}
use Rattle.client_model.specs.meaning.Terms.{Terms}
use Rattle.run_clauses.specs.meaning.Reports.{report_of}
use Rattle.shown_clauses.specs.meaning.Steps.{Step, steps, steps_of}
use Rattle.shown_clauses.specs.meaning.Submissions.{Submission, submissions_by_client}
use Rattle.shown_clauses.specs.meaning.Caused.{judged_from, judge_step, is_client_caused, caused}
use Rattle.caused_laws.specs.ServiceTerms.{AreTermsOf}
use Rattle.caused_laws.specs.Telling.{ToldStep, inputs_of, dones_of, IsConversation}

abbrev pub shown_steps : List ToldStep → List Step
shown_steps all = map (λ one. one.step) all

-- the request with the report of a conversation
abbrev pub submission_of : Terms → Request → List ToldStep → Submission
submission_of terms request all = record {
  request = request;
  copy = report_of terms request (dones_of terms request (inputs_of all));
}

-- The judge comes to the end of a request with its last step, and finds it right. (A client tells
-- how many tries in a row failed, the judge how many may: these are one number where it is at least
-- 1, as in each document.)
abbrev pub JudgesConversation : Type 0
JudgesConversation =
    (service : ServiceOf) (terms : Terms) (request : Request) (all : List ToldStep)
    (more : List Submission) (right : Bool)
    → AreTermsOf service terms → 1 ≤ service.retries → request.calls ≢ []
    → IsConversation terms request all
    → fold (judge_step service) (judged_from right (submission_of terms request all ∷ more))
    (shown_steps all) ≡ judged_from right more

-- the steps of each submission are a conversation of which its report tells
pub record IsHeard (terms : Terms) (submission : Submission) (all : List ToldStep) : Type 0 where
  pub has_calls : submission.request.calls ≢ []
  pub conversation : IsConversation terms submission.request all
  pub reported : submission.copy ≡ report_of terms submission.request
      (dones_of terms submission.request (inputs_of all))

abbrev pub AreHeard : Terms → List Submission → List (List ToldStep) → Type 0
AreHeard terms [] [] = Unit {0}
AreHeard terms (submission ∷ submissions) (all ∷ more) = IsHeard terms submission all
    × AreHeard terms submissions more
AreHeard terms _ _ = ⊥

abbrev pub JudgesClient : Type 0
JudgesClient =
    (service : ServiceOf) (terms : Terms) (submissions : List Submission)
    (conversations : List (List ToldStep))
    → AreTermsOf service terms → 1 ≤ service.retries → AreHeard terms submissions conversations
    → IsTrue (is_client_caused service submissions (flat_map shown_steps conversations))

-- Of these clients, the first of which has this number, each has conversations for all that it
-- submitted, and its steps are theirs.
abbrev pub ClientsAreHeard : Terms → ℕ → List Step → List (List Submission) → Type 0
ClientsAreHeard terms client all [] = Unit {0}
ClientsAreHeard terms client all (submissions ∷ more) =
    ((conversations : List (List ToldStep)) × AreHeard terms submissions conversations
    × (steps_of client all ≡ flat_map shown_steps conversations))
    × ClientsAreHeard terms (client + 1) all more

abbrev pub JudgesReport : Type 0
JudgesReport =
    (document : Document) (report : Report) (terms : Terms)
    → AreTermsOf document.service terms → 1 ≤ document.service.retries
    → ClientsAreHeard terms 1 (steps report) (submissions_by_client document report)
    → IsTrue (caused document report)
