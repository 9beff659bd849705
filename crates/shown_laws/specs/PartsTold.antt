-- The parts in which the steps of a client are cut are its requests', each from its first session
-- on.
use Rattle.std.specs.Prelude.{◌≡◌, ℕ, Bool, true, false, IsTrue, List, [], ◌∷◌, ◌++◌, map, Some, None, is_some}
use Rattle.std.specs.List.{list_all, list_any}
use Rattle.outage_schedule.specs.declared.document.Document.{Document}
use Rattle.outage_schedule.specs.declared.item.Served.{Served}
use Rattle.outage_schedule.specs.declared.note.Note.{Note}
use Rattle.server_model.specs.Seen.{Seen}
use Rattle.svc_values.specs.meaning.Identifiers.{same_session}
use Rattle.shown_clauses.specs.meaning.Parts.{Part, acquires, parts_of, has_its_sessions}
use Rattle.shown_clauses.specs.meaning.Showings.{showings, has_its_showings}
use Rattle.shown_clauses.specs.Showings.{has_its_outcomes}
use Rattle.shown_clauses.specs.meaning.Steps.{Step, steps_of}
use Rattle.shown_clauses.specs.meaning.Whole.{are_taken}
use Rattle.world_model.specs.meaning.Clients.{Past, Client, client_at}
use Rattle.world_model.specs.meaning.Finishing.{Place}
use Rattle.world_model.specs.Reached.{IsFinishing}
use Rattle.world_model.specs.records.Ready.{all_requests_right}
use Rattle.world_model.specs.Traced.{Traced}
use Rattle.shown_laws.specs.Submitted.{submission_of}
use Rattle.shown_laws.specs.Telling.{steps_told}
use Rattle.shown_laws.specs.Tellings.{Telling, steps_in_tellings}

-- it holds of each of these steps
abbrev pub OfEach : (Step → Type 0) → List Step → Type 0
OfEach P [] = Unit {0}
OfEach P (step ∷ steps) = P step × OfEach P steps

-- A step acquires a session exactly where it has one.
abbrev pub HasIts : Step → Type 0
HasIts step = acquires step ≡ is_some step.session

-- no session is acquired, and no reply is taken
pub record IsQuiet (step : Step) : Type 0 where
  pub takes_none : step.taken ≡ None
  pub has_none : step.session ≡ None
  pub acquires_none : acquires step ≡ false

-- The steps of a request: quiet ones, and then all from the one that acquires its first session on.
pub data Opens : List Step → Type 0 where
  Never : Opens []
  At : (first : Step) (later : List Step) → acquires first ≡ true → Opens (first ∷ later)

pub record Split (steps : List Step) : Type 0 where
  pub before : List Step
  pub own : List Step
  pub all : steps ≡ before ++ own
  pub quiet : OfEach IsQuiet before
  pub opens : Opens own

-- A part has the steps of its request from the first session on, and behind them quiet ones, which
-- are of later requests.
pub record IsPartOf (steps : List Step) (part : Part) : Type 0 where
  pub before : List Step
  pub own : List Step
  pub behind : List Step
  pub all : steps ≡ before ++ own
  pub is : part.steps ≡ own ++ behind
  pub quiet : OfEach IsQuiet before
  pub quiet_behind : OfEach IsQuiet behind

-- request by request
pub data ArePartsOf : List Past → List (List Telling) → List Part → Type 0 where
  NoParts : ArePartsOf [] [] []
  OnePart : (one : Past) (past : List Past) (tellings : List Telling) (more : List (List Telling))
      (part : Part) (parts : List Part) → part.submission ≡ submission_of one
      → IsPartOf (steps_in_tellings tellings) part
      → ArePartsOf past more parts → ArePartsOf (one ∷ past) (tellings ∷ more) (part ∷ parts)

-- WHOLE RUNS --------------------------------------------------------------------------------------

-- It holds of each part of a client that is at no request, in the finish of a run.
abbrev pub HoldsOfParts : (Part → Bool) → Type 0
HoldsOfParts test =
    (document : Document) (place : Place) (notes : List Note) (items : List Served) (seen : Seen)
    (t : Traced) (client : ℕ) (own : Client)
    → IsTrue (all_requests_right document) → IsFinishing document place notes items seen t
    → client_at t.machine.clients client ≡ Some own → own.now ≡ None
    → IsTrue (list_all test (parts_of (map submission_of own.past)
    (steps_of client (steps_told notes items))))

-- The sessions of its report are those that the steps of a request acquired, in order.
abbrev pub SessionsAreAcquired : Type 0
SessionsAreAcquired = HoldsOfParts has_its_sessions

-- The outcomes of its report are those that they took, in order.
abbrev pub OutcomesAreTaken : Type 0
OutcomesAreTaken = HoldsOfParts has_its_outcomes

-- The calls of its report are those that the replies which they took showed, in order and with the
-- same answers and draws.
abbrev pub CallsAreShown : Type 0
CallsAreShown = HoldsOfParts has_its_showings

-- each reply that showed a call is of a session of the report
abbrev pub shown_by_own : Part → Bool
shown_by_own part = list_all (λ one. list_any (same_session one.session)
    part.submission.copy.sessions) (showings part.steps)

abbrev pub ShownByOwnSessions : Type 0
ShownByOwnSessions = HoldsOfParts shown_by_own

-- Each step that is noted to take a reply has one, in the finish of a run.
abbrev pub RepliesAreTaken : Type 0
RepliesAreTaken =
    (document : Document) (place : Place) (notes : List Note) (items : List Served) (seen : Seen)
    (t : Traced)
    → IsTrue (all_requests_right document) → IsFinishing document place notes items seen t
    → IsTrue (are_taken (steps_told notes items))
