use Rattle.std.proofs.Common.{rules}
use Rattle.json_form.specs.meaning.Arrays.{is_key}
use Rattle.json_form.specs.Streams.{value_ahead}
use Rattle.svc_values.specs.contracts.value.ValuePartialEq.TheImpl.{eq-value}
use Rattle.document_forms.proofs.RowsAhead.{row_read_ahead}
use Rattle.document_forms.proofs.row_ahead.row_ahead.Goals as goal

pub returns-clause-begins : goal.returns-clause-begins
returns-clause-begins c = row_read_ahead c.args.columns.now (is_key eq-value.it c.args.taken.now) (value_ahead c.args.depth c.args.tokens.now) c.in_ok-fields.fields.items c.in_ok-row.row c.fields_ahead.new.tokens (search rules) (search rules)
