-- What `check` says of what `run` prints.
use Rattle.std.specs.Prelude.{◌≡◌, ℕ, List, [], ◌∷◌, IsTrue, Some, None, Ok, codes}
use Rattle.serde_json.specs.Data.{Data}
use Rattle.serde_json.specs.Read.{read}
use Rattle.json_form.specs.meaning.Texts.{json_at}
use Rattle.json_form.specs.meaning.Writing.{members}
use Rattle.outage_schedule.specs.declared.document.Document.{Document}
use Rattle.outage_schedule.specs.declared.report.Report.{Report}
use Rattle.doc_reader.specs.meaning.Documents.{limit}
use Rattle.run_clauses.specs.meaning.NoClash.{no_clash}
use Rattle.report_text.specs.Laws.{shown_report}
use Rattle.program_ends.specs.declared.clause.Clause.{Clause}
use Rattle.report_check.specs.meaning.Pairs.{check_limit}
use Rattle.report_check.specs.meaning.Verdicts.{first_false}
use Rattle.continuity_run.specs.declared.answer.Telling.TheVariants as telling
use Rattle.continuity_run.specs.meaning.Check.{IsRight, IsWrong}
use Rattle.continuity_run.specs.meaning.Clauses.{IsAnswer}
use Rattle.continuity_run.specs.meaning.Headline.{Headline}

-- no clause that is judged is false of what is shown of such a report
abbrev pub RunsAreRight : Type 0
RunsAreRight = (document : Document) (r : Report) → Headline document r
    → IsTrue (no_clash document r) → first_false document (shown_report r) ≡ None

-- {"document":document,"report":report}
abbrev pub pair_value : Data → Data → Data
pair_value document report = members ((codes "document", document) ∷ (codes "report", report) ∷ [])

-- The bytes are one object, which `check` may read: with the JSON value that the first bytes are as
-- its document, and that of the text as its report.
pub record IsPairOf (first text bytes : List ℕ) : Type 0 where
  pub document : Data
  pub report : Data
  pub begins : json_at limit first ≡ Ok document
  pub reads : read text ≡ Some report
  pub pair : json_at check_limit bytes ≡ Ok (pair_value document report)

-- What `run` answers to a document, beside that document in one object, is not wrong by any clause,
-- where no two answers that were compared have one digest by chance.
abbrev pub RunsAreNeverDenied : Type 0
RunsAreNeverDenied =
    (first text bytes : List ℕ) (answer : IsAnswer telling.Report first text)
    → IsPairOf first text bytes → IsTrue (no_clash answer.document answer.told.report)
    → (one : Clause) (path : List ℕ) → IsWrong bytes one path → ⊥

-- It is right, where no two answers that were compared have one digest by chance.
abbrev pub RunsAreCheckedRight : Type 0
RunsAreCheckedRight =
    (first text bytes : List ℕ) (answer : IsAnswer telling.Report first text)
    → IsPairOf first text bytes → IsTrue (no_clash answer.document answer.told.report)
    → IsRight bytes
