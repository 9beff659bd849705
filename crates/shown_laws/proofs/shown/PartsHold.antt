-- What holds of each request of a client with the steps that are told of it holds of each of its
-- parts.
use Rattle.std.proofs.Common.{◌≡◌, refl, sym, ap, subst, ◌∙◌, Bool, true, ℕ, ◌+◌, List, [], ◌∷◌, map}
use Rattle.std.specs.Prelude.{IsTrue}
use Rattle.std.specs.List.{list_all}
use Rattle.std.specs.Cmp.Lexicographic.{pointwise}
use Rattle.std.proofs.lemmas.Bool.{and_parts, and_from}
use Rattle.svc_values.specs.declared.entry.SessionId.{SessionId}
use Rattle.svc_values.specs.meaning.Identifiers.{same_session}
use Rattle.svc_values.specs.SameLaws.{same_session_decides}
use Rattle.outage_schedule.specs.declared.document.Document.{Document}
use Rattle.outage_schedule.specs.declared.item.Served.{Served}
use Rattle.outage_schedule.specs.declared.note.Note.{Note}
use Rattle.server_model.specs.Seen.{Seen}
use Rattle.shown_clauses.specs.meaning.Parts.{Part, parts_of, has_its_sessions}
use Rattle.shown_clauses.specs.meaning.Steps.{steps_of}
use Rattle.shown_clauses.specs.meaning.Submissions.{Submission}
use Rattle.world_model.specs.meaning.Clients.{Past}
use Rattle.world_model.specs.records.Conversing.{AreThrough, IsThrough}
use Rattle.world_model.specs.meaning.Finishing.{Place}
use Rattle.invariant_laws.specs.Invariant.{Invariant}
use Rattle.world_model.specs.Reached.{IsFinishing}
use Rattle.world_model.specs.records.Ready.{all_requests_right}
use Rattle.world_model.specs.meaning.Settings.{Setting}
use Rattle.world_model.specs.Traced.{Traced, Course, course_over, courses_of}
use Rattle.shown_laws.specs.PartsTold.{IsPartOf, ArePartsOf, NoParts, OnePart, HoldsOfParts, SessionsAreAcquired}
use Rattle.shown_laws.specs.Submitted.{submission_of}
use Rattle.shown_laws.specs.Telling.{steps_told}
use Rattle.shown_laws.specs.Tellings.{Telling, steps_in_tellings, TellsRequest, TellsPast, OnePast, TellsClient, FinishesTellSteps}
use Rattle.shown_laws.proofs.steps.BeforeSession.{talks_at}
use Rattle.shown_laws.proofs.steps.CoursesOver.{courses_over, over_hold}
use Rattle.shown_laws.proofs.steps.PartsSplit.{part_gives}
use Rattle.shown_laws.proofs.shown.PartsTold.{parts_told, sessions_listed}

-- ONE PART ----------------------------------------------------------------------------------------

-- of a request that is over, with what was told of its steps, and its part
pub record IsTold (setting : Setting) (client place : ℕ) (one : Past) (tellings : List Telling) (part : Part) : Type 0 where
  pub through : IsThrough setting.terms one
  pub tells : TellsRequest setting client place one.request tellings one.steps
  pub is : part.submission ≡ submission_of one
  pub parts : IsPartOf (steps_in_tellings tellings) part

abbrev pub HoldsOfTold : (Part → Bool) → Type 0
HoldsOfTold test = (setting : Setting) (client place : ℕ) (one : Past) (tellings : List Telling) (part : Part) → IsTold setting client place one tellings part → test part ≡ true

-- of one whose course passes this test
abbrev pub HoldsOfCourse : (Course → Bool) → (Part → Bool) → Type 0
HoldsOfCourse so test =
    (setting : Setting) (client place : ℕ) (one : Past) (tellings : List Telling) (part : Part) → IsTold setting client place one tellings part → so (course_over client place one) ≡ true → test part ≡ true

parts_hold : (so : Course → Bool) (test : Part → Bool) → HoldsOfCourse so test → (setting : Setting) (client place : ℕ) (past : List Past) (told : List (List Telling)) (parts : List Part) → AreThrough setting.terms past → TellsPast setting client place past told
    → ArePartsOf past told parts → list_all so (courses_over client place past) ≡ true → list_all test parts ≡ true
parts_hold so test holds setting client place _ _ _ through tells NoParts all = refl
parts_hold so test holds setting client _ _ _ _ through (OnePast place _ _ _ _ here after) (OnePart one past tellings more part parts is its rest) all =
    let both = and_parts (so (course_over client place one)) (list_all so (courses_over client (place + 1) past)) all in
    and_from (test part) (list_all test parts) (holds setting client place one tellings part (record { through = through.0; tells = here; is = is; parts = its }) both.0)
    (parts_hold so test holds setting client (place + 1) past more parts through.1 after rest both.1)

-- CLIENTS -----------------------------------------------------------------------------------------

-- the invariant stands in the finish
abbrev pub FinishesStand : Type 0
FinishesStand = (document : Document) (place : Place) (notes : List Note) (items : List Served) (seen : Seen) (t : Traced) → IsTrue (all_requests_right document) → IsFinishing document place notes items seen t → Invariant t

-- A test of all courses, which the invariant gives, may be taken of each.
pub finishes_hold_with : FinishesStand → FinishesTellSteps → (so : Traced → Course → Bool) → ((t : Traced) → Invariant t → list_all (so t) (courses_of t) ≡ true) → (test : Part → Bool) → ((t : Traced) → HoldsOfCourse (so t) test) → HoldsOfParts test
finishes_hold_with stands tell so all test holds document place notes items seen t client own right finishing here rests =
    parts_hold (so t) test (holds t) t.setting client 0 own.past tells.past (parts_of (map submission_of own.past) (steps_of client (steps_told notes items))) through tells.tells_past
    (parts_told t.setting client own (steps_of client (steps_told notes items)) through rests tells) (over_hold (so t) t client own (all t inv) here)
  where
    inv : Invariant t
    inv = stands document place notes items seen t right finishing

    tells : TellsClient t.setting client own (steps_of client (steps_told notes items))
    tells = (tell document place notes items seen t right finishing).each client own here

    through : AreThrough t.setting.terms own.past
    through = (talks_at t.setting.terms t.machine.clients client own inv.orderly.script.talks here).0

none_asked : (courses : List Course) → list_all (λ course. true) courses ≡ true
none_asked [] = refl
none_asked (one ∷ courses) = none_asked courses

pub finishes_hold : FinishesStand → FinishesTellSteps → (test : Part → Bool) → HoldsOfTold test → HoldsOfParts test
finishes_hold stands tell test holds = finishes_hold_with stands tell (λ t course. true) (λ t inv. none_asked (courses_of t)) test (λ t setting client place one tellings part told so. holds setting client place one tellings part told)

-- SESSIONS ----------------------------------------------------------------------------------------

sessions_self : (sessions : List SessionId) → pointwise same_session sessions sessions ≡ true
sessions_self [] = refl
sessions_self (one ∷ sessions) = and_from (same_session one one) (pointwise same_session sessions sessions) ((same_session_decides one one).1 refl) (sessions_self sessions)

sessions_right : HoldsOfTold has_its_sessions
sessions_right setting client place one tellings part told =
    subst (λ (found : List SessionId). pointwise same_session part.submission.copy.sessions found ≡ true)
    (ap (λ (s : Submission). s.copy.sessions) told.is
    ∙ sym (part_gives (λ step. step.session) (λ step is. is.has_none) (steps_in_tellings tellings) part told.parts ∙ sessions_listed setting client place one tellings told.through told.tells))
    (sessions_self part.submission.copy.sessions)

pub sessions_acquired : FinishesStand → FinishesTellSteps → SessionsAreAcquired
sessions_acquired stands tell = finishes_hold stands tell has_its_sessions sessions_right
