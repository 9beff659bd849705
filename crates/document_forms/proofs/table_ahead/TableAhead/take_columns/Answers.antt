use Rattle.std.proofs.Common.{◌≡◌, Ok, sym, rules}
use Rattle.serde_json.specs.View.{view}
use Rattle.document_forms.specs.meaning.Tables.{columns_of}
use Rattle.document_forms.proofs.OneByOne.{none_left}
use Rattle.document_forms.proofs.TablesAhead.{columns_put}
use Rattle.document_forms.proofs.table_ahead.TableAhead.take_columns.Goals as goal

pub returns-clause-read : goal.returns-clause-read
returns-clause-read c = λ taken.
    let v = view c.in_ok-value.value in
    let read : columns_of v ≡ Ok c.in_ok-columns.columns = search rules in
    (v, c.in_ok-value.ensures.read, λ ms are. columns_put taken c.args.self.now v ms c.in_ok-columns.columns (none_left c.args.self.now.rows (sym c.if-is_some.ensures)) (none_left c.args.self.now.index (sym c.if-is_some-2.ensures)) read are)
