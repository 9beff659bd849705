-- The total that is printed of a load.
use Rattle.std.specs.Prelude.{◌≡◌, ℕ, pos, IsTrue}
use Rattle.outage_schedule.specs.declared.document.Document.{Document}
use Rattle.outage_schedule.specs.declared.report.Report.{Report}
use Rattle.run_clauses.specs.meaning.Once.{once}
use Rattle.run_clauses.specs.meaning.Serial.{IsSerial}
use Rattle.shown_clauses.specs.meaning.Whole.{whole}
use Rattle.world_model.specs.meaning.Followed.{followed}
use Rattle.script_clauses.specs.meaning.Scripted.{scripted}
use Rattle.load_document.specs.meaning.Loads.{loaded, total}
use Rattle.load_laws.specs.Accounts.{AreTransferEntries}

-- what the law needs to know of a report, each as the headline says it
pub record IsRunReport (document : Document) (report : Report) : Type 0 where
  pub serial : IsSerial document report
  pub once_so : IsTrue (once document report)
  pub followed_so : IsTrue (followed document report)
  pub whole_so : IsTrue (whole document report)
  pub scripted_so : IsTrue (scripted document report)

-- each piece of each entry of a load is a call of a transfer
abbrev pub LoadsRunTransfers : Type 0
LoadsRunTransfers = (seed clients requests : ℕ) (report : Report)
    → IsRunReport (loaded seed clients requests) report → AreTransferEntries report.entries

abbrev pub LoadsKeepTotal : Type 0
LoadsKeepTotal = (seed clients requests : ℕ) (report : Report)
    → IsRunReport (loaded seed clients requests) report → total report ≡ pos 16000
