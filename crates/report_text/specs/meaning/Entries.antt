-- Entries and tables, as the store has them at the end.
use Rattle.std.specs.Prelude.{[], ◌∷◌, codes}
use Rattle.serde_json.specs.Data.{Data}
use Rattle.json_form.specs.meaning.Writing.{text, flag, list, list_by, members}
use Rattle.svc_values.specs.declared.entry.Piece.{Piece}
use Rattle.svc_values.specs.declared.entry.Entry.{Entry}
use Rattle.outage_schedule.specs.declared.report.ReportTable.{ReportTable}
use Rattle.report_text.specs.meaning.Values.{identifier_value, settings_value, row_value}
use Rattle.report_text.specs.meaning.Calls.{call_value}
use Rattle.report_text.specs.meaning.Answers.{answers_value, draws_value}

-- [call,answers,draws]
unfoldable pub piece_value : Piece → Data
piece_value piece = list (call_value piece.call ∷ answers_value piece.answers
    ∷ draws_value piece.draws ∷ [])

-- its writes are not shown
unfoldable pub entry_value : Entry → Data
entry_value entry = members (
    (codes "completed", flag entry.completed)
    ∷ (codes "ltxid", identifier_value entry.ltxid)
    ∷ (codes "pieces", list_by piece_value entry.pieces)
    ∷ (codes "settings", settings_value entry.settings)
    ∷ [])

-- [name,rows]
unfoldable pub table_value : ReportTable → Data
table_value table = list (text table.name ∷ list_by row_value table.rows ∷ [])
