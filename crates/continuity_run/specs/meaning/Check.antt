-- What the command `check` says of a document and a report.
use Rattle.std.specs.Prelude.{◌≡◌, ℕ, List, [], ◌∷◌, ◌++◌, None, Ok, codes}
use Rattle.outage_schedule.specs.declared.document.Document.{Document}
use Rattle.outage_schedule.specs.declared.report.Report.{Report}
use Rattle.program_ends.specs.declared.clause.Clause.{Clause}
use Rattle.report_check.specs.meaning.Pairs.{pair_at}
use Rattle.report_check.specs.meaning.Verdicts.{first_false, IsFirstFalse}

-- The bytes are a document and a report of it, of which each clause holds.
pub record IsRight (bytes : List ℕ) : Type 0 where
  pub document : Document
  pub report : Report
  pub accepted : pair_at bytes ≡ Ok (document, report)
  pub right : first_false document report ≡ None

-- The bytes are a document and a report of it, of which this clause is the first that is false, at
-- this place.
pub record IsWrong (bytes : List ℕ) (one : Clause) (path : List ℕ) : Type 0 where
  pub document : Document
  pub report : Report
  pub accepted : pair_at bytes ≡ Ok (document, report)
  pub first : IsFirstFalse document report one path

-- what is written of a right report
abbrev pub right_text : List ℕ
right_text = codes "yes" ++ 10 ∷ []
