-- The derived equality of draws and of calls is their test.
use Rattle.std.proofs.Common.{◌≡◌, Bool, true, false, ◌&&◌, refl, ap, ◌∙◌}
use Rattle.std.proofs.Math.Path.{fun_ext}
use mathlib.Core.Bool.{beq}
use Rattle.std.specs.Str.{bytes_eq}
use Rattle.std.specs.Cmp.Lexicographic.{pointwise}
use Rattle.svc_values.specs.declared.value.Value.{Value}
use Rattle.svc_values.specs.declared.draw.Draw.{Draw}
use Rattle.svc_values.specs.declared.draw.Draw.TheVariants as draw
use Rattle.svc_values.specs.declared.draw.DrawKind.{DrawKind}
use Rattle.svc_values.specs.declared.draw.DrawKind.TheVariants as kind
use Rattle.svc_values.specs.declared.statement.Operand.{Operand}
use Rattle.svc_values.specs.declared.statement.Operand.TheVariants as operand
use Rattle.svc_values.specs.declared.statement.Change.{Change}
use Rattle.svc_values.specs.declared.statement.Change.TheVariants as change
use Rattle.svc_values.specs.declared.statement.Test.{Test}
use Rattle.svc_values.specs.declared.statement.Test.TheVariants as test
use Rattle.svc_values.specs.declared.statement.Statement.{Statement}
use Rattle.svc_values.specs.declared.statement.Statement.TheVariants as statement
use Rattle.svc_values.specs.declared.call.Call.{Call}
use Rattle.svc_values.specs.declared.call.Call.TheVariants as call
use Rattle.svc_values.specs.contracts.draw.DrawPartialEq.TheImpl.{eq-value as eq-draw}
use Rattle.svc_values.specs.contracts.draw.DrawKindPartialEq.TheImpl.{eq-value as eq-kind}
use Rattle.svc_values.specs.contracts.statement.OperandPartialEq.TheImpl.{eq-value as eq-operand}
use Rattle.svc_values.specs.contracts.statement.ChangePartialEq.TheImpl.{eq-value as eq-change}
use Rattle.svc_values.specs.contracts.statement.TestPartialEq.TheImpl.{eq-value as eq-test}
use Rattle.svc_values.specs.contracts.statement.StatementPartialEq.TheImpl.{eq-value as eq-statement}
use Rattle.svc_values.specs.contracts.call.CallPartialEq.TheImpl.{eq-value as eq-call}
use Rattle.svc_values.specs.meaning.Same.{same_bool, same_draw, same_draw_kind, same_operand, same_change, same_test, same_statement, same_call}
use Rattle.svc_values.proofs.Offered.{same_is_eq}

draw_here : (a b : Draw) → eq-draw.it a b ≡ same_draw a b
draw_here (draw.Seq a m) (draw.Seq b n) = refl
draw_here (draw.Clock a) (draw.Clock b) = refl
draw_here (draw.Id a) (draw.Id b) = refl
draw_here a b = refl

pub draws_eq : eq-draw.it ≡ same_draw
draws_eq = fun_ext (λ a. fun_ext (draw_here a))

kind_here : (a b : DrawKind) → eq-kind.it a b ≡ same_draw_kind a b
kind_here (kind.Seq a) (kind.Seq b) = refl
kind_here kind.Clock kind.Clock = refl
kind_here kind.Id kind.Id = refl
kind_here a b = refl

operand_here : (a b : Operand) → eq-operand.it a b ≡ same_operand a b
operand_here (operand.Lit a) (operand.Lit b) = ap (λ (same : Value → Value → Bool). same a b) same_is_eq
operand_here (operand.Var a) (operand.Var b) = refl
operand_here (operand.Draw a) (operand.Draw b) = kind_here a b
operand_here a b = refl

operands_eq : eq-operand.it ≡ same_operand
operands_eq = fun_ext (λ a. fun_ext (operand_here a))

change_here : (a b : Change) → eq-change.it a b ≡ same_change a b
change_here (change.To a) (change.To b) = operand_here a b
change_here (change.Plus a) (change.Plus b) = operand_here a b
change_here a b = refl

test_here : (a b : Test) → eq-test.it a b ≡ same_test a b
test_here test.Eq test.Eq = refl
test_here test.Lt test.Lt = refl
test_here test.Ge test.Ge = refl
test_here a b = refl

and_left : (a b c d : Bool) → (a && (b && (c && d))) ≡ (a && b && c && d)
and_left true true c d = refl
and_left true false c d = refl
and_left false b c d = refl

statement_here : (a b : Statement) → eq-statement.it a b ≡ same_statement a b
statement_here (statement.Insert t a) (statement.Insert u b) = ap (λ (same : Operand → Operand → Bool). bytes_eq t u && pointwise same a b) operands_eq
statement_here (statement.Update t k c a) (statement.Update u l d b) =
    ap (λ (same : Bool). bytes_eq t u && (same && (bytes_eq c d && eq-change.it a b))) (operand_here k l)
    ∙ ap (λ (same : Bool). bytes_eq t u && (same_operand k l && (bytes_eq c d && same))) (change_here a b)
    ∙ and_left (bytes_eq t u) (same_operand k l) (bytes_eq c d) (same_change a b)
statement_here (statement.Delete t k) (statement.Delete u l) = ap (λ (same : Bool). bytes_eq t u && same) (operand_here k l)
statement_here (statement.Get t k) (statement.Get u l) = ap (λ (same : Bool). bytes_eq t u && same) (operand_here k l)
statement_here (statement.Select t c p a) (statement.Select u d q b) =
    ap (λ (same : Bool). bytes_eq t u && (bytes_eq c d && (same && eq-operand.it a b))) (test_here p q)
    ∙ ap (λ (same : Bool). bytes_eq t u && (bytes_eq c d && (same_test p q && same))) (operand_here a b)
    ∙ and_left (bytes_eq t u) (bytes_eq c d) (same_test p q) (same_operand a b)
statement_here (statement.Count t) (statement.Count u) = refl
statement_here (statement.Sum t c) (statement.Sum u d) = refl
statement_here (statement.Show a) (statement.Show b) = operand_here a b
statement_here a b = refl

statements_eq : eq-statement.it ≡ same_statement
statements_eq = fun_ext (λ a. fun_ext (statement_here a))

bool_here : (p q : Bool) → beq p q ≡ same_bool p q
bool_here true true = refl
bool_here true false = refl
bool_here false true = refl
bool_here false false = refl

call_here : (a b : Call) → eq-call.it a b ≡ same_call a b
call_here (call.Work a p) (call.Work b q) =
    ap (λ (same : Statement → Statement → Bool). pointwise same a b && beq p q) statements_eq ∙ ap (λ (same : Bool). pointwise same_statement a b && same) (bool_here p q)
call_here (call.Set m a) (call.Set n b) = ap (λ (same : Value → Value → Bool). bytes_eq m n && same a b) same_is_eq
call_here (call.Alter a) (call.Alter b) = refl
call_here call.Disable call.Disable = refl
call_here call.Rollback call.Rollback = refl
call_here a b = refl

pub calls_eq : eq-call.it ≡ same_call
calls_eq = fun_ext (λ a. fun_ext (call_here a))
