use Rattle.json_form.specs.meaning.Arrays.{each_of, array_of, list_of}
use Rattle.json_form.specs.Streams.{value_ahead}
use Rattle.call_forms.proofs.ListsAhead.{of_each, begins_alike, any_number}
use Rattle.call_forms.proofs.lists.list_ahead.Goals as goal

pub returns-clause-read : goal.returns-clause-read
returns-clause-read g c =
    let read = each_of (g.R.Reader.reads c.args.reader.now) in
    of_each _ _ c.array_ahead.result
    (λ v begins. begins_alike (array_of 0 18446744073709551615 read) (list_of read) (value_ahead c.args.depth c.args.tokens.now) v.items v.items c.array_ahead.new.tokens (λ d h. any_number read 0 18446744073709551615 d v.items h) begins) c.array_ahead.ensures.read
