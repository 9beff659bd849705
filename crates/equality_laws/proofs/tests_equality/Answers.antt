use Rattle.equality_laws.proofs.Answers.{answers_eq}
use Rattle.equality_laws.proofs.Calls.{calls_eq}
use Rattle.equality_laws.proofs.tests_equality.Goals as goal

pub returns-clause-answers : goal.returns-clause-answers
returns-clause-answers c = answers_eq

pub returns-clause-calls : goal.returns-clause-calls
returns-clause-calls c = calls_eq
