use Rattle.std.proofs.Common.{Bool, ap, ◌∙◌}
use Rattle.std.specs.Cmp.Lexicographic.{pointwise}
use Rattle.svc_values.specs.declared.answer.Answer.{Answer}
use Rattle.serial_check.proofs.again.is_answered.Goals as goal

pub returns : goal.returns
returns c = c.eq.ensures ∙ ap (λ (same : Answer → Answer → Bool). pointwise same c.args.answers.now c.args.piece.now.answers) c.tests_equality.ensures.answers
