use Rattle.std.proofs.Common.{◌≡◌, Some, Ok, rules}
use Rattle.serde_json.specs.View.{view}
use Rattle.document_forms.specs.meaning.Tables.{index_of}
use Rattle.document_forms.proofs.TablesAhead.{index_put}
use Rattle.document_forms.proofs.table_ahead.TableAhead.take_index.Goals as goal

pub returns-clause-read : goal.returns-clause-read
returns-clause-read c = λ taken.
    let v = view c.in_ok-value.value in
    let columns = c.in_ok-columns.columns.now in
    let there : c.args.self.now.columns ≡ Some columns = search rules in
    let read : index_of columns v ≡ Ok c.in_ok-index.index = search rules in
    (v, c.in_ok-value.ensures.read, λ ms are. index_put taken c.args.self.now v ms columns c.in_ok-index.index there read are)
