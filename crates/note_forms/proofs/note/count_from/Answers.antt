use Rattle.std.proofs.Common.{◌≡◌, length, Option, Some, Ok, sym, ap, ◌∙◌, arith, rules}
use Rattle.serde_json.specs.Data.{Items}
use Rattle.serde_json.specs.Events.{items_len}
use Rattle.serde_json.specs.Find.{as_array}
use Rattle.serde_json.specs.View.{view, items_view}
use Rattle.serde_json.proofs.Views.{items_len-items_view}
use Rattle.json_form.specs.meaning.Faults.{◌>>=◌}
use Rattle.json_form.specs.meaning.Values.{expected}
use Rattle.note_forms.proofs.note.count_from.Goals as goal

pub returns-in-Some : goal.returns-in-Some
returns-in-Some c =
    let items = c.in-Some.items.now.items in
    let seen : as_array (view c.args.value.now) ≡ Some (items_view items) = first_of (search rules, grind arith) in
    let many : c.len.result ≡ length items = omega (arith, c.len.ensures) in
    ap (λ (o : Option Items). expected o >>= λ ds. Ok (items_len ds)) seen ∙ ap Ok (items_len-items_view items ∙ sym many)
