-- The derived equality of answers is their test.
use Rattle.std.proofs.Common.{◌≡◌, Bool, refl, ap, ◌==◌}
use Rattle.std.proofs.Math.Path.{fun_ext}
use Rattle.std.specs.Cmp.Lexicographic.{pointwise}
use Rattle.svc_values.specs.declared.value.Value.{Value}
use Rattle.svc_values.specs.declared.answer.Answer.{Answer}
use Rattle.svc_values.specs.declared.answer.Answer.TheVariants as answer
use Rattle.svc_values.specs.declared.answer.StatementFault.{StatementFault}
use Rattle.svc_values.specs.declared.answer.StatementFault.TheVariants as fault
use Rattle.svc_values.specs.contracts.answer.AnswerPartialEq.TheImpl.{eq-value}
use Rattle.svc_values.specs.contracts.answer.StatementFaultPartialEq.TheImpl.{eq-value as eq-fault}
use Rattle.svc_values.specs.meaning.Same.{fault_code, same_answer}
use Rattle.svc_values.proofs.Offered.{same_is_eq}

same_fault : (a b : StatementFault) → eq-fault.it a b ≡ (fault_code a == fault_code b)
same_fault fault.NoTable fault.NoTable = refl
same_fault fault.NoColumn fault.NoColumn = refl
same_fault fault.KindDiffers fault.KindDiffers = refl
same_fault fault.DuplicateKey fault.DuplicateKey = refl
same_fault fault.NoSequence fault.NoSequence = refl
same_fault fault.NoVar fault.NoVar = refl
same_fault fault.TooManyRows fault.TooManyRows = refl
same_fault fault.SumRange fault.SumRange = refl
same_fault fault.KeyColumn fault.KeyColumn = refl
same_fault a b = refl

same_here : (a b : Answer) → eq-value.it a b ≡ same_answer a b
same_here (answer.Done m) (answer.Done n) = refl
same_here (answer.Rows xs) (answer.Rows ys) = ap (λ (same : Value → Value → Bool). pointwise (pointwise same) xs ys) same_is_eq
same_here (answer.Number x) (answer.Number y) = refl
same_here answer.Committed answer.Committed = refl
same_here answer.Conflict answer.Conflict = refl
same_here answer.RolledBack answer.RolledBack = refl
same_here answer.CommitInReplay answer.CommitInReplay = refl
same_here (answer.Refused f) (answer.Refused g) = same_fault f g
same_here a b = refl

pub answers_eq : eq-value.it ≡ same_answer
answers_eq = fun_ext (λ a. fun_ext (same_here a))
