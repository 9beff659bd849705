use Rattle.std.proofs.Common.{◌≡◌, true, rules}
use Rattle.json_form.specs.Streams.{Begins, value_ahead}
use Rattle.json_form.specs.meaning.Arrays.{each_of, list_of}
use Rattle.note_forms.specs.meaning.Items.{one_served, served_in}
use Rattle.note_forms.specs.ItemsAhead.{events_rise}
use Rattle.call_forms.proofs.Offered.{begins_alike}
use Rattle.note_forms.proofs.ItemsInOrder.{items_alike}
use Rattle.note_forms.proofs.items_ahead.served_ahead.Goals as goal

pub returns-clause-read : goal.returns-clause-read
returns-clause-read c =
    let items = c.in_ok-items.items.items in
    let rise : events_rise 0 items ≡ true = search rules in
    let begins : Begins (list_of (each_of (one_served c.args.notes.now 0))) c.args.depth c.args.tokens.now items c.list_ahead.new.tokens = search rules in
    let same : c.from_vec.result ≡ items = search rules in
    rw same (begins_alike (list_of (each_of (one_served c.args.notes.now 0))) (served_in c.args.notes.now) (value_ahead c.args.depth c.args.tokens.now) items items c.list_ahead.new.tokens (λ d h. items_alike c.args.notes.now d items rise h) begins)
