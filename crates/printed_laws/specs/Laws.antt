-- Each clause says the same of a report and of what is shown of it, which is all but the writes of
-- its entries.
use Rattle.std.specs.Prelude.{◌≡◌}
use Rattle.outage_schedule.specs.declared.document.Document.{Document}
use Rattle.outage_schedule.specs.declared.report.Report.{Report}
use Rattle.report_text.specs.Laws.{shown_report}
use Rattle.run_clauses.specs.meaning.Serial.{serial}
use Rattle.run_clauses.specs.meaning.Fresh.{fresh}
use Rattle.run_clauses.specs.meaning.Once.{once}
use Rattle.run_clauses.specs.meaning.Same.{same}
use Rattle.run_clauses.specs.meaning.Stored.{stored}
use Rattle.shown_clauses.specs.meaning.Legal.{legal_of}
use Rattle.shown_clauses.specs.meaning.Whole.{whole}

abbrev pub SerialSeesNoWrites : Type 0
SerialSeesNoWrites = (document : Document) (r : Report)
    → serial document (shown_report r) ≡ serial document r

abbrev pub FreshSeesNoWrites : Type 0
FreshSeesNoWrites = (r : Report) → fresh (shown_report r) ≡ fresh r

abbrev pub LegalSeesNoWrites : Type 0
LegalSeesNoWrites = (document : Document) (r : Report)
    → legal_of document (shown_report r) ≡ legal_of document r

abbrev pub OnceSeesNoWrites : Type 0
OnceSeesNoWrites = (document : Document) (r : Report)
    → once document (shown_report r) ≡ once document r

abbrev pub SameSeesNoWrites : Type 0
SameSeesNoWrites = (document : Document) (r : Report)
    → same document (shown_report r) ≡ same document r

abbrev pub StoredSeesNoWrites : Type 0
StoredSeesNoWrites = (document : Document) (r : Report)
    → stored document (shown_report r) ≡ stored document r

abbrev pub WholeSeesNoWrites : Type 0
WholeSeesNoWrites = (document : Document) (r : Report)
    → whole document (shown_report r) ≡ whole document r
