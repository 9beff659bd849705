-- What is said of a document and its report: the first of the clauses that is false, if one is, and
-- where.
use Rattle.std.specs.Prelude.{◌≡◌, Bool, not, List, [], ◌∷◌, ℕ, find, Option, Some}
use Rattle.outage_schedule.specs.declared.document.Document.{Document}
use Rattle.outage_schedule.specs.declared.report.Report.{Report}
use Rattle.run_clauses.specs.meaning.Serial.{serial}
use Rattle.run_clauses.specs.meaning.Fresh.{fresh}
use Rattle.run_clauses.specs.meaning.Once.{once}
use Rattle.run_clauses.specs.meaning.Same.{same}
use Rattle.run_clauses.specs.meaning.Stored.{stored}
use Rattle.shown_clauses.specs.meaning.Legal.{legal_of}
use Rattle.shown_clauses.specs.meaning.Whole.{whole}
use Rattle.serial_check.specs.meaning.Places.{serial_place, fresh_place}
use Rattle.program_ends.specs.declared.clause.Clause.{Clause}
use Rattle.program_ends.specs.declared.clause.Clause.TheVariants as clause

abbrev pub holds : Document → Report → Clause → Bool
holds document report clause.Serial = serial document report
holds document report clause.Fresh = fresh report
holds document report clause.Legal = legal_of document report
holds document report clause.Once = once document report
holds document report clause.Same = same document report
holds document report clause.Stored = stored document report
holds document report clause.Whole = whole document report

-- the clauses that are judged, in their order
abbrev pub clauses : List Clause
clauses = clause.Serial ∷ clause.Fresh ∷ clause.Legal ∷ clause.Once ∷ clause.Same ∷ clause.Stored
    ∷ clause.Whole ∷ []

-- None exactly where all of these hold
abbrev pub first_false : Document → Report → Option Clause
first_false document report = find (λ one. not (holds document report one)) clauses

-- it is the first place where the clause fails; of the clauses behind `Fresh` no place is promised
abbrev pub IsPlace : Document → Report → Clause → List ℕ → Type 0
IsPlace document report clause.Serial path = serial_place document report ≡ Some path
IsPlace document report clause.Fresh path = fresh_place report ≡ Some path
IsPlace document report _ path = Unit {0}

-- this clause is the first that is false, and it first fails there
pub record IsFirstFalse (document : Document) (report : Report) (one : Clause)
    (path : List ℕ) : Type 0 where
  pub wrong : first_false document report ≡ Some one
  pub place : IsPlace document report one path
