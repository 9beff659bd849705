-- A row whose values were read one after the other.
use Rattle.std.proofs.Common.{◌≡◌, List, [], length, Bool, Option, Some, Ok, ap, ◌∙◌}
use Rattle.json.specs.Token.{Token}
use Rattle.json.specs.Json.{parse_map}
use Rattle.serde_json.specs.Data.{Data}
use Rattle.json_form.specs.meaning.Faults.{◌>>=◌}
use Rattle.json_form.specs.meaning.Arrays.{each_after, exact_of}
use Rattle.svc_values.specs.declared.value.Value.{Value}
use Rattle.svc_values.specs.declared.schema.Column.{Column}
use Rattle.document_forms.specs.meaning.Tables.{field_of, fitting, row_of}
use Rattle.document_forms.specs.RowsAhead.{fields_of}
use Rattle.json_form.proofs.Offered.{after, begun}
use Rattle.document_forms.proofs.Steps.{gives_after}

-- the values that were read fit the columns
pub row_read_ahead : (columns : List Column) (taken : Value → Bool) (o : Option (Data × List Token)) (fields row : List Value) (r : List Token)
    → parse_map (fields_of taken (length columns)) o ≡ Some (Ok fields, r) → fitting columns fields ≡ Ok row → parse_map (row_of columns taken) o ≡ Some (Ok row, r)
unfolding row_of
row_read_ahead columns taken o fields row r h fits =
    let b = begun (fields_of taken (length columns)) o fields r h in
    let a = after (exact_of (length columns) b.0) (each_after (field_of taken) []) fields b.2 in
    ap (parse_map (row_of columns taken)) b.1
    ∙ ap (λ q. Some (q, r)) (gives_after (exact_of (length columns) b.0) a.0 (λ ds. each_after (field_of taken) [] ds >>= fitting columns) row a.1 (gives_after (each_after (field_of taken) [] a.0) fields (fitting columns) row a.2 fits))
