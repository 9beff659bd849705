use Rattle.std.proofs.Common.{◌≡◌, Ok, rules}
use Rattle.std.specs.Str.{bytes_eq}
use Rattle.serde_json.specs.View.{view}
use Rattle.json_form.specs.meaning.Arrays.{is_key}
use Rattle.call_forms.specs.meaning.Values.{new_name}
use Rattle.document_forms.proofs.TablesAhead.{name_put}
use Rattle.document_forms.proofs.table_ahead.TableAhead.take_name.Goals as goal

pub returns-clause-read : goal.returns-clause-read
returns-clause-read c =
    let v = view c.in_ok-value.value in
    let taken = is_key bytes_eq c.args.taken.now in
    let read : new_name taken v ≡ Ok c.in_ok-name.name = search rules in
    (v, c.in_ok-value.ensures.read, λ ms are. name_put taken c.args.self.now v ms c.in_ok-name.name read are)
