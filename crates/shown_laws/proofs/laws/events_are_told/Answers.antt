use Rattle.shown_laws.proofs.events.RunsGrow.{runs_counted, runs_grow, finishes_counted, finishes_grow}
use Rattle.shown_laws.proofs.laws.events_are_told.Goals as goal

pub returns : goal.returns
returns c = record { counted = runs_counted; grow = runs_grow; finish_counted = finishes_counted; finish_grows = finishes_grow }
