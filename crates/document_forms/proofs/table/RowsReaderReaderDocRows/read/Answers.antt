use Rattle.std.proofs.Common.{List, Result, ap, rules}
use Rattle.serde_json.specs.Data.{Data}
use Rattle.serde_json.specs.View.{view}
use Rattle.json_form.specs.meaning.Faults.{Fault}
use Rattle.svc_values.specs.declared.value.Value.{Value}
use Rattle.document_forms.proofs.TablesAhead.{rows_by_key}
use Rattle.document_forms.proofs.table.RowsReaderReaderDocRows.read.Goals as goal

pub returns : goal.returns
returns c = rw (ap (λ (read : Data → Result (List (List Value)) Fault). read (view c.args.value)) (rows_by_key c.args.self.now.columns.now)) (search rules)

pub returns-in_err-rows : goal.returns-in_err-rows
returns-in_err-rows c = rw (ap (λ (read : Data → Result (List (List Value)) Fault). read (view c.args.value)) (rows_by_key c.args.self.now.columns.now)) (search rules)
