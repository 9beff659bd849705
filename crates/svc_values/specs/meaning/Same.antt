-- When two values are the same one: of one kind, with the same parts.
use Rattle.std.specs.Prelude.{ℕ, ◌==◌, ◌&&◌, Bool, true, false, nat_eq, List}
use Rattle.std.specs.Ordering.{int_eq}
use Rattle.std.specs.Str.{bytes_eq}
use Rattle.std.specs.Cmp.Lexicographic.{pointwise}
use Rattle.svc_values.specs.declared.value.Value.{Value}
use Rattle.svc_values.specs.declared.value.Value.TheVariants as value
use Rattle.svc_values.specs.declared.draw.Draw.{Draw}
use Rattle.svc_values.specs.declared.draw.Draw.TheVariants as draw
use Rattle.svc_values.specs.declared.draw.DrawKind.{DrawKind}
use Rattle.svc_values.specs.declared.draw.DrawKind.TheVariants as kind
use Rattle.svc_values.specs.declared.statement.Operand.{Operand}
use Rattle.svc_values.specs.declared.statement.Operand.TheVariants as operand
use Rattle.svc_values.specs.declared.statement.Change.{Change}
use Rattle.svc_values.specs.declared.statement.Change.TheVariants as change
use Rattle.svc_values.specs.declared.statement.Test.{Test}
use Rattle.svc_values.specs.declared.statement.Test.TheVariants as test
use Rattle.svc_values.specs.declared.statement.Statement.{Statement}
use Rattle.svc_values.specs.declared.statement.Statement.TheVariants as statement
use Rattle.svc_values.specs.declared.call.Call.{Call}
use Rattle.svc_values.specs.declared.call.Call.TheVariants as call
use Rattle.svc_values.specs.declared.answer.Answer.{Answer}
use Rattle.svc_values.specs.declared.answer.Answer.TheVariants as answer
use Rattle.svc_values.specs.declared.answer.StatementFault.{StatementFault}
use Rattle.svc_values.specs.declared.answer.StatementFault.TheVariants as fault
use Rattle.svc_values.specs.declared.entry.Piece.{Piece}
use Rattle.svc_values.specs.declared.tables.PlainRow.{PlainRow}

-- of one kind, with the same number or the same bytes
abbrev pub same_value : Value → Value → Bool
same_value (value.Int a) (value.Int b) = int_eq a b
same_value (value.Text a) (value.Text b) = pointwise nat_eq a b
same_value (value.Bytes a) (value.Bytes b) = pointwise nat_eq a b
same_value _ _ = false

abbrev pub fault_code : StatementFault → ℕ
fault_code fault.NoTable = 1
fault_code fault.NoColumn = 2
fault_code fault.KindDiffers = 3
fault_code fault.DuplicateKey = 4
fault_code fault.NoSequence = 5
fault_code fault.NoVar = 6
fault_code fault.TooManyRows = 7
fault_code fault.SumRange = 8
fault_code fault.KeyColumn = 9

-- the same answer, with the same rows or number or fault
abbrev pub same_answer : Answer → Answer → Bool
same_answer (answer.Done a) (answer.Done b) = a == b
same_answer (answer.Rows a) (answer.Rows b) = pointwise (pointwise same_value) a b
same_answer (answer.Number a) (answer.Number b) = int_eq a b
same_answer answer.Committed answer.Committed = true
same_answer answer.Conflict answer.Conflict = true
same_answer answer.RolledBack answer.RolledBack = true
same_answer answer.CommitInReplay answer.CommitInReplay = true
same_answer (answer.Refused a) (answer.Refused b) = fault_code a == fault_code b
same_answer _ _ = false

abbrev pub same_answers : List Answer → List Answer → Bool
same_answers = pointwise same_answer

abbrev pub same_bool : Bool → Bool → Bool
same_bool true true = true
same_bool false false = true
same_bool _ _ = false

abbrev pub same_draw_kind : DrawKind → DrawKind → Bool
same_draw_kind (kind.Seq a) (kind.Seq b) = bytes_eq a b
same_draw_kind kind.Clock kind.Clock = true
same_draw_kind kind.Id kind.Id = true
same_draw_kind _ _ = false

abbrev pub same_draw : Draw → Draw → Bool
same_draw (draw.Seq a m) (draw.Seq b n) = bytes_eq a b && int_eq m n
same_draw (draw.Clock a) (draw.Clock b) = a == b
same_draw (draw.Id a) (draw.Id b) = bytes_eq a b
same_draw _ _ = false

abbrev pub same_operand : Operand → Operand → Bool
same_operand (operand.Lit a) (operand.Lit b) = same_value a b
same_operand (operand.Var a) (operand.Var b) = bytes_eq a b
same_operand (operand.Draw a) (operand.Draw b) = same_draw_kind a b
same_operand _ _ = false

abbrev pub same_change : Change → Change → Bool
same_change (change.To a) (change.To b) = same_operand a b
same_change (change.Plus a) (change.Plus b) = same_operand a b
same_change _ _ = false

abbrev pub same_test : Test → Test → Bool
same_test test.Eq test.Eq = true
same_test test.Lt test.Lt = true
same_test test.Ge test.Ge = true
same_test _ _ = false

abbrev pub same_statement : Statement → Statement → Bool
same_statement (statement.Insert t a) (statement.Insert u b) =
    bytes_eq t u && pointwise same_operand a b
same_statement (statement.Update t k c a) (statement.Update u l d b) =
    bytes_eq t u && same_operand k l && bytes_eq c d && same_change a b
same_statement (statement.Delete t k) (statement.Delete u l) = bytes_eq t u && same_operand k l
same_statement (statement.Get t k) (statement.Get u l) = bytes_eq t u && same_operand k l
same_statement (statement.Select t c p a) (statement.Select u d q b) =
    bytes_eq t u && bytes_eq c d && same_test p q && same_operand a b
same_statement (statement.Count t) (statement.Count u) = bytes_eq t u
same_statement (statement.Sum t c) (statement.Sum u d) = bytes_eq t u && bytes_eq c d
same_statement (statement.Show a) (statement.Show b) = same_operand a b
same_statement _ _ = false

abbrev pub same_call : Call → Call → Bool
same_call (call.Work a p) (call.Work b q) = pointwise same_statement a b && same_bool p q
same_call (call.Set m a) (call.Set n b) = bytes_eq m n && same_value a b
same_call (call.Alter a) (call.Alter b) = bytes_eq a b
same_call call.Disable call.Disable = true
same_call call.Rollback call.Rollback = true
same_call _ _ = false

abbrev pub same_calls : List Call → List Call → Bool
same_calls = pointwise same_call

abbrev pub same_draws : List Draw → List Draw → Bool
same_draws = pointwise same_draw

abbrev pub same_piece : Piece → Piece → Bool
same_piece a b = same_call a.call b.call && same_answers a.answers b.answers
    && same_draws a.draws b.draws

-- of one table and key, with the same values
abbrev pub same_row : PlainRow → PlainRow → Bool
same_row a b = bytes_eq a.table b.table && (same_value a.key b.key
    && pointwise same_value a.row b.row)

abbrev pub same_rows : List PlainRow → List PlainRow → Bool
same_rows = pointwise same_row
