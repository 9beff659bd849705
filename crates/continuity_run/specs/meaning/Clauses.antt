-- What the top call promises.
use Rattle.std.specs.Prelude.{◌≡◌, ℕ, ◌≤◌, ◌+◌, List, length, Option, Some, Result, Ok, IfSome, IsUtf8}
use Rattle.std.specs.Io.KnownBytes.{Appends, Consumes}
use Rattle.serde_json.specs.Read.{read}
use Rattle.serde_json.specs.Written.{compact_text}
use Rattle.json_form.specs.meaning.Faults.{Fault}
use Rattle.outage_schedule.specs.declared.document.Document.{Document}
use Rattle.outage_schedule.specs.declared.report.Report.{Report}
use Rattle.shown_clauses.specs.meaning.Cover.{cover}
use Rattle.doc_reader.specs.meaning.Documents.{document_at, limit}
use Rattle.report_limits.specs.meaning.Reports.{KeepsLimits}
use Rattle.report_text.specs.meaning.Report.{report_value}
use Rattle.program_ends.specs.declared.clause.Clause.{Clause}
use Rattle.report_check.specs.meaning.Pairs.{check_limit, pair_at}
use Rattle.cover_core.specs.meaning.Text.{cover_value}
use Rattle.continuity_run.specs.declared.answer.Telling.{Telling}
use Rattle.continuity_run.specs.declared.answer.Telling.TheVariants as telling
use Rattle.command_words.specs.declared.command.Command.{Command}
use Rattle.command_words.specs.declared.command.Command.TheVariants as command
use Rattle.continuity_run.specs.meaning.Check.{IsRight, IsWrong, right_text}
use Rattle.continuity_run.specs.meaning.Headline.{Headline}
use Rattle.continuity_run.specs.meaning.Load.{IsLoaded}

-- The text is that of a report which says of the document what the headline says and keeps to the
-- limits of its types, and a reader of JSON reads the report's value in it.
pub record IsReported (document : Document) (text : List ℕ) : Type 0 where
  pub report : Report
  pub headline : Headline document report
  pub limits : KeepsLimits report
  pub written : text ≡ compact_text (report_value report)
  pub reads : read text ≡ Some (report_value report)
  pub utf8 : IsUtf8 text

-- The text tells of such a report how many calls of each request were shown and protected.
pub record IsCovered (document : Document) (text : List ℕ) : Type 0 where
  pub report : Report
  pub headline : Headline document report
  pub written : text ≡ compact_text (cover_value (cover document report))
  pub reads : read text ≡ Some (cover_value (cover document report))
  pub utf8 : IsUtf8 text

-- what is told of a document that is read
abbrev pub Tells : Telling → Document → List ℕ → Type 0
Tells telling.Report document text = IsReported document text
Tells telling.Cover document text = IsCovered document text

-- The bytes are a document, and this text is what is told of it.
pub record IsAnswer (one : Telling) (bytes text : List ℕ) : Type 0 where
  pub document : Document
  pub accepted : document_at bytes ≡ Ok document
  pub told : Tells one document text

-- where the source tells what is left, what was read is judged as all of that is
abbrev pub IsJudged : {A : Type 0} → (List ℕ → Result A Fault) → Option (List ℕ) → List ℕ → Type 0
IsJudged reads left front = IfSome left (λ bytes. reads front ≡ reads bytes)

-- the bytes that were read: at most one past the limit, and judged as the whole input is
pub record IsRead {A : Type 0} (most : ℕ) (reads : List ℕ → Result A Fault)
    (left_before left_after : Option (List ℕ)) (bytes : List ℕ) : Type 0 where
  pub taken : Consumes left_before left_after bytes
  pub within : length bytes ≤ most + 1
  pub judged : IsJudged reads left_before bytes

-- what was read is a document, and the sink took the text that is told of it
pub record IsAnswered (one : Telling)
    (left_before left_after held_before held_after : Option (List ℕ)) : Type 0 where
  pub bytes : List ℕ
  pub text : List ℕ
  pub read : IsRead limit document_at left_before left_after bytes
  pub answer : IsAnswer one bytes text
  pub wrote : Appends held_before held_after text

-- what was read is a document and a report of it, of which each clause holds, and the sink took
-- `yes` and a line feed
pub record IsChecked (left_before left_after held_before held_after : Option (List ℕ)) : Type 0
  where
    pub bytes : List ℕ
    pub read : IsRead check_limit pair_at left_before left_after bytes
    pub right : IsRight bytes
    pub wrote : Appends held_before held_after right_text

-- what was read is a document and a report of it, of which this clause is the first that is false
pub record IsDenied (left_before left_after : Option (List ℕ)) (one : Clause)
    (path : List ℕ) : Type 0 where
  pub bytes : List ℕ
  pub read : IsRead check_limit pair_at left_before left_after bytes
  pub wrong : IsWrong bytes one path

-- the document of these numbers was made, and the sink took the line of its report
pub record LoadIsDone (seed clients requests : ℕ)
    (held_before held_after : Option (List ℕ)) : Type 0 where
  pub text : List ℕ
  pub loaded : IsLoaded seed clients requests text
  pub wrote : Appends held_before held_after text

-- `run` and `cover` are done with a document that was read, `check` with a document and its report,
-- and `load` makes its own document.
abbrev pub IsDone : Command → Option (List ℕ) → Option (List ℕ) → Option (List ℕ) → Option (List ℕ)
    → Type 0
IsDone command.Run left_before left_after held_before held_after =
    IsAnswered telling.Report left_before left_after held_before held_after
IsDone command.Cover left_before left_after held_before held_after =
    IsAnswered telling.Cover left_before left_after held_before held_after
IsDone command.Check left_before left_after held_before held_after =
    IsChecked left_before left_after held_before held_after
IsDone (command.Load seed clients requests) left_before left_after held_before held_after =
    LoadIsDone seed clients requests held_before held_after
