use Rattle.std.proofs.Common.{false, Some, ◌∙◌}
use Rattle.outage_schedule.specs.declared.note.GoNote.TheVariants as go
use Rattle.world_model.specs.meaning.Going.{finds_none}
use Rattle.world_model.specs.meaning.Acting.{loses}
use Rattle.world_core.proofs.steps.Placing.{goes_as}
use Rattle.world_core.proofs.steps.Steps.{found_open, found_lost, stays_there}
use Rattle.world_core.proofs.client.Client.find_none.Goals as goal

pub lose-requires : goal.lose-requires
lose-requires g c = record { is_lost = false; some = c.requires.some }

pub returns-in_default : goal.returns-in_default
returns-in_default g c = λ setting m client doing link at now awaits.
    stays_there _ (λ rule. g.R.BoundRule.rules rule) c.args.script.now c.args.number c.args.traffic.now c.args.self.now setting m client doing at now (finds_none setting m c.args.number go.NoFrame doing c.args.connection link)
    (found_open _ (λ rule. g.R.BoundRule.rules rule) c.args.script.now c.args.number c.args.traffic.now c.args.self.now setting m client doing c.args.connection link at awaits.his (awaits.ends ∙ c.in_default.is))

pub returns : goal.returns
returns g c = λ setting m client doing link at now awaits.
    goes_as _ (λ rule. g.R.BoundRule.rules rule) setting c.args.number m (Some (loses setting m c.args.number doing (Some c.in-Some.event))) (finds_none setting m c.args.number (go.Lost c.args.connection) doing c.args.connection link) c.lose.new.traffic c.lose.new.self
    (found_lost _ (λ rule. g.R.BoundRule.rules rule) c.args.script.now c.args.number c.args.traffic.now c.args.self.now setting m client doing c.args.connection link c.in-Some.event at awaits.his (awaits.ends ∙ c.in-Some.is))
    (c.in_ok-lose.ensures false setting m client doing at)
