-- Connections by their numbers and by their sessions.
use Rattle.std.specs.Prelude.{◌≡◌, ℕ, ◌==◌, ◌&&◌, Bool, true, false, List, [], ◌∷◌, length, Option, Some, None, if◌then◌else◌}
use Rattle.svc_values.specs.Keys.{value_of}
use Rattle.svc_values.specs.declared.entry.SessionId.{SessionId}
use Rattle.svc_values.specs.meaning.Identifiers.{same_session}
use Rattle.shown_clauses.specs.meaning.Links.{Link}
use Rattle.report_story.specs.declared.which.Which.{Which}
use Rattle.report_story.specs.declared.which.Which.TheVariants as which

-- what stays of a connection
pub record Identity : Type 0 where
  pub connection : ℕ
  pub session : SessionId

abbrev pub identity_of : Link → Identity
identity_of link = record { connection = link.connection; session = link.session }

-- It has the number, or the session.
abbrev pub is_one : Which → Identity → Bool
is_one (which.Number connection) one = one.connection == connection
is_one (which.Session session) one = same_session one.session session

abbrev pub is_which : Which → Link → Bool
is_which named link = is_one named (identity_of link)

-- ---- places, which are told by how many stand behind

-- the place of the first that meets the test
abbrev pub place_of : {A : Type 0} → (A → Bool) → List A → Option ℕ
place_of test [] = None
place_of test (x ∷ xs) = if test x then Some (length xs) else place_of test xs

-- the one at a place
abbrev pub older_at : {A : Type 0} → ℕ → List A → Option A
older_at place [] = None
older_at place (x ∷ xs) = if length xs == place then Some x else older_at place xs

-- with the one at a place changed
abbrev pub changed_at : {A : Type 0} → (A → A) → ℕ → List A → List A
changed_at change place [] = []
changed_at change place (x ∷ xs) = if length xs == place then change x ∷ xs else x
    ∷ changed_at change place xs

-- At most one meets the test.
abbrev pub IsSingle : {A : Type 0} → (A → Bool) → List A → Type 0
IsSingle test [] = Unit {0}
IsSingle test (x ∷ xs) = (test x ≡ true → place_of test xs ≡ None) × IsSingle test xs

-- ---- the maps to places

-- the two numbers of a session
abbrev pub key_of : SessionId → ℕ × ℕ
key_of session = (session.incarnation, session.session)

abbrev pub same_key : ℕ × ℕ → ℕ × ℕ → Bool
same_key a b = (a.0 == b.0) && (a.1 == b.1)

-- the place that is noted
abbrev pub noted_place : Which → List (ℕ × ℕ) → List ((ℕ × ℕ) × ℕ) → Option ℕ
noted_place (which.Number connection) numbers sessions = value_of (λ a b. a == b) numbers connection
noted_place (which.Session session) numbers sessions = value_of same_key sessions (key_of session)

-- The maps have the place of the newest of each number and of each session. No two have one of
-- these, where none was put twice.
pub record IsIndexed (numbers : List (ℕ × ℕ)) (sessions : List ((ℕ × ℕ) × ℕ)) (twice : Bool)
    (all : List Identity) : Type 0 where
  pub places : (named : Which) → noted_place named numbers sessions ≡ place_of (is_one named) all
  pub single : twice ≡ false → (named : Which) → IsSingle (is_one named) all
