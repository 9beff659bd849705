use Rattle.std.proofs.Common.{arith}
use Rattle.json_form.specs.meaning.Arrays.{array_of, each_of}
use Rattle.json_form.specs.Streams.{value_ahead}
use Rattle.call_forms.proofs.ListsAhead.{begins_alike, enough_read}
use Rattle.call_forms.proofs.lists.counted_ahead.Goals as goal

pub returns-clause-read : goal.returns-clause-read
returns-clause-read g c =
    let read = g.R.Reader.reads c.args.reader.now in
    let xs = c.in_ok-found.found.items in
    begins_alike (array_of 0 c.args.high (each_of read)) (array_of c.args.low c.args.high (each_of read)) (value_ahead c.args.depth c.args.tokens.now) xs xs c.array_ahead.new.tokens
    (λ d. enough_read read c.args.low c.args.high d xs (omega (arith, c.len.ensures, c.if-len-low.false))) c.in_ok-found.ensures.read
