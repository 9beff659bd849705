use Rattle.shown_laws.proofs.judged.ReportsTurns.{turns_with_clients, turns_right_told, turns_with_requests}
use Rattle.shown_laws.proofs.reports.reports_own_turns.Goals as goal

pub returns : goal.returns
returns c = record {
  clients = turns_with_clients c.steps_are_told.ensures.finishing c.turns_are_of_acquirers.ensures.run;
  right = turns_right_told c.runs_keep_invariant.ensures.finishing c.steps_are_told.ensures.finishing c.turns_are_of_acquirers.ensures.run;
  requests = turns_with_requests c.runs_keep_invariant.ensures.finishing c.steps_are_told.ensures.finishing;
}
