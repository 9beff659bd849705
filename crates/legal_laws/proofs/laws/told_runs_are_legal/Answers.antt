use Rattle.legal_laws.proofs.LegalRuns.{legal_told, fresh_told}
use Rattle.legal_laws.proofs.laws.told_runs_are_legal.Goals as goal

pub returns : goal.returns
returns c = record {
  legal = legal_told c.events_are_told.ensures.counted c.events_are_told.ensures.grow c.marked_calls_meet_no_block.ensures.reached c.runs_legal.ensures;
  fresh = fresh_told c.events_are_told.ensures.counted c.events_are_told.ensures.grow c.marked_calls_meet_no_block.ensures.reached c.runs_fresh_new.ensures;
}
