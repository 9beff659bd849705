-- Where in a report an item stands.
use Rattle.std.specs.Prelude.{◌≡◌, ℕ}
use Rattle.outage_schedule.specs.declared.report.Report.{Report}
use Rattle.run_clauses.specs.meaning.Moments.{HappenedAt}
use Rattle.server_model.specs.meaning.Items.{Item, Did, AskTold, AskStopped}
use Rattle.report_moments.specs.declared.moments.At.{At}
use Rattle.report_moments.specs.Places.{StandsAt}

abbrev pub event_of : Item → ℕ
event_of (Did event now session thing) = event
event_of (AskTold event x outcome) = event
event_of (AskStopped event x) = event

-- It stands where that does which happened at its event.
pub record IsPlacedItem (report : Report) (one : At × Item) : Type 0 where
  pub moment : HappenedAt
  pub stands : StandsAt report moment one.0
  pub event : event_of one.1 ≡ moment.event
