use Rattle.continuity_run.proofs.run.runs_hold.Goals as goal

pub returns : goal.returns
returns c = record {
  followed = c.runs_are_followed.ensures;
  serial = c.runs_serial.ensures;
  legal = c.runs_are_legal.ensures;
  legal_told = c.runs_are_legal_told.ensures.legal;
  fresh_new = c.runs_are_fresh_new.ensures;
  set_aside = c.runs_are_set_aside.ensures;
  fresh = c.runs_are_fresh.ensures;
  once = c.reports_are_once.ensures;
  same = c.runs_are_same.ensures;
  scripted = c.runs_are_scripted.ensures;
  outcomes = c.outcomes_are_stored.ensures;
  answers = c.answers_are_right.ensures;
  horizons = c.horizons_are_told.ensures;
  incarnations = c.incarnations_are_stored.ensures;
  apart = c.blocks_stay_apart.ensures;
  answered = c.blocks_are_answered.ensures.answered;
  ordered = c.blocks_are_answered.ensures.order;
  caused = c.runs_are_caused.ensures;
  whole = c.runs_are_whole.ensures;
  calm = c.calm_runs_answer.ensures;
}
