use Rattle.std.proofs.Common.{◌≡◌, [], ap, ◌∙◌, rules, Some, Ok}
use Rattle.json.specs.Json.{parse_map}
use Rattle.json_form.specs.meaning.Arrays.{each_after, array_of}
use Rattle.json_form.specs.Streams.{items_ahead}
use Rattle.json_form.proofs.Ahead.{array_read}
use Rattle.json_form.proofs.array.array_ahead.Goals as goal

pub returns-clause-read : goal.returns-clause-read
returns-clause-read g c =
    let reads = g.R.Reader.reads c.args.reader.now in
    let read : parse_map (each_after (λ before. reads) []) (items_ahead c.in_ok-inside.inside c.array_begins.new.tokens) ≡ Some (Ok c.in_ok-found.found.items, c.rest_ahead.new.tokens) = search rules in
    ap (parse_map (array_of 0 c.args.high (each_after (λ before. reads) []))) c.in_ok-inside.ensures.array
    ∙ array_read (λ before. reads) c.args.high _ c.in_ok-found.found.items c.rest_ahead.new.tokens c.in_ok-found.ensures.count read
