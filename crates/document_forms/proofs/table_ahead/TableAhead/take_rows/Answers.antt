use Rattle.std.proofs.Common.{◌≡◌, Some, rules}
use Rattle.json_form.specs.Streams.{value_ahead}
use Rattle.json_form.proofs.Offered.{begun}
use Rattle.document_forms.specs.meaning.Tables.{rows_of}
use Rattle.document_forms.proofs.TablesAhead.{rows_put}
use Rattle.document_forms.proofs.table_ahead.TableAhead.take_rows.Goals as goal

pub returns-clause-read : goal.returns-clause-read
returns-clause-read c = λ taken.
    let columns = c.in_ok-columns.columns.now in
    let there : c.args.self.now.columns ≡ Some columns = search rules in
    let b = begun (rows_of columns) (value_ahead c.args.depth c.args.tokens.now) c.in_ok-rows.rows c.rows_ahead.new.tokens c.in_ok-rows.ensures.read in
    (b.0, b.1, λ ms are. rows_put taken c.args.self.now b.0 ms columns c.in_ok-rows.rows there b.2 are)
