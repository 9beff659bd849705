-- Reports whose octets, digests and image are bytes, numbers below 256, as each report that a
-- program holds has them. Of other numbers the two digits do not tell which they are.
use Rattle.std.specs.Prelude.{ℕ, List, Option, Some, None}
use Rattle.std.specs.List.{AllByRecursion}
use Rattle.hex.specs.Hex.{IsBytes}
use Rattle.svc_values.specs.declared.value.Value.{Value}
use Rattle.svc_values.specs.declared.value.Value.TheVariants as value
use Rattle.svc_values.specs.declared.draw.Draw.{Draw}
use Rattle.svc_values.specs.declared.draw.Draw.TheVariants as draw
use Rattle.svc_values.specs.declared.answer.Answer.{Answer}
use Rattle.svc_values.specs.declared.answer.Answer.TheVariants as answer
use Rattle.svc_values.specs.declared.statement.Operand.{Operand}
use Rattle.svc_values.specs.declared.statement.Operand.TheVariants as operand
use Rattle.svc_values.specs.declared.statement.Statement.{Statement}
use Rattle.svc_values.specs.declared.statement.Statement.TheVariants as statement
use Rattle.svc_values.specs.declared.call.Call.{Call}
use Rattle.svc_values.specs.declared.call.Call.TheVariants as call
use Rattle.svc_values.specs.declared.entry.Piece.{Piece}
use Rattle.svc_values.specs.declared.entry.Entry.{Entry}
use Rattle.outage_schedule.specs.declared.failure.Failure.{Failure}
use Rattle.outage_schedule.specs.declared.failure.Failure.TheVariants as failure
use Rattle.outage_schedule.specs.declared.request.ShownCall.{ShownCall}
use Rattle.outage_schedule.specs.declared.request.RequestReport.{RequestReport}
use Rattle.outage_schedule.specs.declared.note.NoteRun.{NoteRun}
use Rattle.outage_schedule.specs.declared.note.Note.{Note}
use Rattle.outage_schedule.specs.declared.note.Note.TheVariants as note
use Rattle.outage_schedule.specs.declared.item.Item.{Item}
use Rattle.outage_schedule.specs.declared.item.Item.TheVariants as item
use Rattle.outage_schedule.specs.declared.item.Served.{Served}
use Rattle.outage_schedule.specs.declared.report.ReportTable.{ReportTable}
use Rattle.outage_schedule.specs.declared.report.Report.{Report}
use Rattle.report_text.specs.meaning.Calls.{changing}

abbrev pub ValueOfBytes : Value → Type 0
ValueOfBytes (value.Bytes octets) = IsBytes octets
ValueOfBytes _ = Unit {0}

abbrev pub RowsOfBytes : List (List Value) → Type 0
RowsOfBytes rows = AllByRecursion (AllByRecursion ValueOfBytes) rows

abbrev pub SettingsOfBytes : List (List ℕ × Value) → Type 0
SettingsOfBytes settings = AllByRecursion (λ (pair : List ℕ × Value). ValueOfBytes pair.1) settings

abbrev pub AnswerOfBytes : Answer → Type 0
AnswerOfBytes (answer.Rows rows) = RowsOfBytes rows
AnswerOfBytes _ = Unit {0}

abbrev pub DrawOfBytes : Draw → Type 0
DrawOfBytes (draw.Id octets) = IsBytes octets
DrawOfBytes _ = Unit {0}

abbrev pub OperandOfBytes : Operand → Type 0
OperandOfBytes (operand.Lit x) = ValueOfBytes x
OperandOfBytes _ = Unit {0}

abbrev pub StatementOfBytes : Statement → Type 0
StatementOfBytes (statement.Insert table values) = AllByRecursion OperandOfBytes values
StatementOfBytes (statement.Update table key column by) = OperandOfBytes key
    × OperandOfBytes (changing by)
StatementOfBytes (statement.Delete table key) = OperandOfBytes key
StatementOfBytes (statement.Get table key) = OperandOfBytes key
StatementOfBytes (statement.Select table column test o) = OperandOfBytes o
StatementOfBytes (statement.Show o) = OperandOfBytes o
StatementOfBytes _ = Unit {0}

abbrev pub CallOfBytes : Call → Type 0
CallOfBytes (call.Work statements commit) = AllByRecursion StatementOfBytes statements
CallOfBytes (call.Set name x) = ValueOfBytes x
CallOfBytes _ = Unit {0}

abbrev pub RepliesOfBytes : List Answer → List Draw → Type 0
RepliesOfBytes answers draws = AllByRecursion AnswerOfBytes answers
    × AllByRecursion DrawOfBytes draws

abbrev pub PieceOfBytes : Piece → Type 0
PieceOfBytes piece = CallOfBytes piece.call × RepliesOfBytes piece.answers piece.draws

abbrev pub EntryOfBytes : Entry → Type 0
EntryOfBytes entry = AllByRecursion PieceOfBytes entry.pieces × SettingsOfBytes entry.settings

abbrev pub TableOfBytes : ReportTable → Type 0
TableOfBytes table = RowsOfBytes table.rows

abbrev pub FailedOfBytes : Option Failure → Type 0
FailedOfBytes (Some (failure.Mismatch i seen now)) = IsBytes seen × IsBytes now
FailedOfBytes _ = Unit {0}

abbrev pub ShownOfBytes : ShownCall → Type 0
ShownOfBytes one = RepliesOfBytes one.answers one.draws

abbrev pub RequestOfBytes : RequestReport → Type 0
RequestOfBytes request = AllByRecursion ShownOfBytes request.calls × FailedOfBytes request.failed

abbrev pub RunOfBytes : NoteRun → Type 0
RunOfBytes run = RepliesOfBytes run.answers run.draws

abbrev pub NoteOfBytes : Note → Type 0
NoteOfBytes (note.Outside (Some ran)) = AllByRecursion RunOfBytes ran.runs
NoteOfBytes _ = Unit {0}

abbrev pub ItemOfBytes : Item → Type 0
ItemOfBytes (item.Begin settings) = SettingsOfBytes settings
ItemOfBytes (item.Call replay asked answers draws) = CallOfBytes asked
    × RepliesOfBytes answers draws
ItemOfBytes (item.Blocked asked) = CallOfBytes asked
ItemOfBytes (item.CrashedCall replay asked) = CallOfBytes asked
ItemOfBytes _ = Unit {0}

abbrev pub ServedOfBytes : Served → Type 0
ServedOfBytes served = ItemOfBytes served.item

abbrev pub ImageOfBytes : Option (List ℕ) → Type 0
ImageOfBytes (Some bytes) = IsBytes bytes
ImageOfBytes None = Unit {0}

abbrev pub ReportOfBytes : Report → Type 0
ReportOfBytes report =
    AllByRecursion (AllByRecursion RequestOfBytes) report.clients
    × AllByRecursion EntryOfBytes report.entries
    × ImageOfBytes report.image
    × AllByRecursion NoteOfBytes report.notes
    × AllByRecursion ServedOfBytes report.served
    × AllByRecursion TableOfBytes report.tables
