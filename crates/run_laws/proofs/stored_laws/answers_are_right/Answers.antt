use Rattle.run_laws.proofs.AnswersForgotten.{answers_right_law}
use Rattle.run_laws.proofs.stored_laws.answers_are_right.Goals as goal

pub returns : goal.returns
returns c = answers_right_law c.keeps_journal.ensures.keeps c.runs_number.ensures.numbers
