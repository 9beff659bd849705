-- What the command `load` writes.
use Rattle.std.specs.Prelude.{◌≡◌, ℕ, pos, List, [], ◌∷◌, ◌++◌}
use Rattle.serde_json.specs.Written.{compact_text}
use Rattle.outage_schedule.specs.declared.document.Document.{Document}
use Rattle.outage_schedule.specs.declared.report.Report.{Report}
use Rattle.load_document.specs.meaning.Loads.{loaded, total}
use Rattle.load_document.specs.meaning.Lines.{line_of, line_value}
use Rattle.continuity_run.specs.meaning.Headline.{Headline}

-- The text is the line of counts of a report which says of the document what the headline says,
-- with a line feed at its end.
pub record IsLined (document : Document) (text : List ℕ) : Type 0 where
  pub report : Report
  pub headline : Headline document report
  pub written : text ≡ compact_text (line_value (line_of report)) ++ 10 ∷ []

-- It is that of the document which is made of these numbers.
pub record IsLoaded (seed clients requests : ℕ) (text : List ℕ) : Type 0 where
  pub told : IsLined (loaded seed clients requests) text
  -- on all accounts there stands as much as at the start
  pub as_much : total told.report ≡ pos 16000
