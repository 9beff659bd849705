-- What the places say: there is none exactly where the clause holds.
use Rattle.std.specs.Prelude.{◌≡◌, is_none}
use Rattle.outage_schedule.specs.declared.document.Document.{Document}
use Rattle.outage_schedule.specs.declared.report.Report.{Report}
use Rattle.run_clauses.specs.meaning.Serial.{serial}
use Rattle.run_clauses.specs.meaning.Fresh.{fresh}
use Rattle.serial_check.specs.meaning.Places.{serial_place, fresh_place}

-- `Serial` fails nowhere exactly where it holds
abbrev pub SerialIsPlaced : Type 0
SerialIsPlaced = (document : Document) (report : Report)
    → is_none (serial_place document report) ≡ serial document report

-- and so does `Fresh`
abbrev pub FreshIsPlaced : Type 0
FreshIsPlaced = (report : Report) → is_none (fresh_place report) ≡ fresh report
