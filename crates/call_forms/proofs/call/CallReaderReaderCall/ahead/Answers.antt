use Rattle.std.proofs.Common.{◌≡◌, Result, Ok, ap, ◌∙◌, rules}
use Rattle.json_form.specs.Streams.{value_ahead}
use Rattle.json_form.specs.meaning.Faults.{Fault, ◌>>=◌}
use Rattle.json_form.specs.meaning.Arrays.{array_of, each_of}
use Rattle.call_forms.specs.meaning.Items.{item_read}
use Rattle.call_forms.specs.meaning.Calls.{call_of_items, call_of}
use Rattle.call_forms.proofs.ListsAhead.{begins_alike}
use Rattle.call_forms.proofs.call.CallReaderReaderCall.ahead.Goals as goal

pub returns-clause-begins : goal.returns-clause-begins
unfolding call_of
returns-clause-begins c =
    let digits = c.args.self.now.digits in
    let made : call_of_items c.in_ok-items.items.items ≡ Ok c.in_ok-call.call = search rules in
    begins_alike (array_of 1 8 (each_of (item_read digits))) (call_of digits) (value_ahead c.args.depth c.args.tokens.now) c.in_ok-items.items.items c.in_ok-call.call c.counted_ahead.new.tokens
    (λ d h. ap (λ (r : Result _ Fault). r >>= call_of_items) h ∙ made) (search rules)
