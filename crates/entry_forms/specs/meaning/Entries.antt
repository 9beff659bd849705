-- Entries and tables, as the store has them at the end.
use Rattle.std.specs.Prelude.{ℕ, List, [], ◌∷◌, Result, Ok, codes}
use Rattle.serde_json.specs.Data.{Data}
use Rattle.json_form.specs.meaning.Faults.{Fault, ◌>>=◌}
use Rattle.json_form.specs.meaning.Values.{bool_of}
use Rattle.json_form.specs.meaning.Arrays.{each_of, list_of, fixed, part}
use Rattle.json_form.specs.meaning.Objects.{object_with, all_there, member_in}
use Rattle.svc_values.specs.declared.value.Value.{Value}
use Rattle.svc_values.specs.declared.entry.Entry.{Entry}
use Rattle.svc_values.specs.declared.entry.Piece.{Piece}
use Rattle.outage_schedule.specs.declared.report.ReportTable.{ReportTable}
use Rattle.call_forms.specs.meaning.Values.{name_of}
use Rattle.answer_forms.specs.meaning.Parts.{identifier_in, settings_in, call_in, row_in}
use Rattle.answer_forms.specs.meaning.Answers.{answers_in}
use Rattle.answer_forms.specs.meaning.Draws.{draws_in}

-- [call,answers,draws]
unfoldable pub piece_in : Data → Result Piece Fault
piece_in d =
    fixed 3 d >>= λ ds. part 0 call_in ds >>= λ call. part 1 answers_in ds >>= λ answers.
    part 2 draws_in ds >>= λ draws. Ok (record { call = call; answers = answers; draws = draws })

abbrev pub pieces_in : Data → Result (List Piece) Fault
pieces_in d = list_of (each_of piece_in) d

abbrev pub entry_members : List (List ℕ)
entry_members = codes "completed" ∷ codes "ltxid" ∷ codes "pieces" ∷ codes "settings" ∷ []

-- (No report shows writes.)
unfoldable pub entry_in : Data → Result Entry Fault
entry_in d =
    object_with entry_members d >>= λ ms. all_there entry_members ms >>= λ _.
    member_in (codes "completed") bool_of ms >>= λ completed. member_in
    (codes "ltxid") identifier_in ms >>= λ x.
    member_in (codes "pieces") pieces_in ms >>= λ pieces. member_in (codes "settings") settings_in
    ms >>= λ settings.
    Ok (record {
      ltxid = x;
      completed = completed;
      settings = settings;
      pieces = pieces;
      writes = [];
    })

abbrev pub entries_in : Data → Result (List Entry) Fault
entries_in d = list_of (each_of entry_in) d

abbrev pub table_rows_in : Data → Result (List (List Value)) Fault
table_rows_in d = list_of (each_of row_in) d

-- [name,rows]
unfoldable pub table_in : Data → Result ReportTable Fault
table_in d =
    fixed 2 d >>= λ ds. part 0 name_of ds >>= λ name. part 1 table_rows_in ds >>= λ rows.
    Ok (record { name = name; rows = rows })

abbrev pub tables_in : Data → Result (List ReportTable) Fault
tables_in d = list_of (each_of table_in) d
