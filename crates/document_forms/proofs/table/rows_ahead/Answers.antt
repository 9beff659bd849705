use Rattle.std.proofs.Common.{List, Result, sym, subst, rules}
use Rattle.serde_json.specs.Data.{Data}
use Rattle.json_form.specs.meaning.Faults.{Fault}
use Rattle.json_form.specs.Streams.{Begins}
use Rattle.svc_values.specs.declared.value.Value.{Value}
use Rattle.document_forms.proofs.TablesAhead.{rows_by_key}
use Rattle.document_forms.proofs.table.rows_ahead.Goals as goal

pub returns-clause-read : goal.returns-clause-read
returns-clause-read c = subst (λ (read : Data → Result (List (List Value)) Fault). Begins read c.args.depth c.args.tokens.now c.from_vec.result c.distinct_ahead.new.tokens) (sym (rows_by_key c.args.columns.now)) (search rules)
