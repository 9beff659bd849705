use Rattle.std.proofs.Common.{◌≡◌, ◌-◌, ◌<◌, [], ◌∷◌, ◌++◌, length, None, sym, ap, ◌∙◌, arith, rules}
use Rattle.std.proofs.lemmas.List.{length_push}
use Rattle.json.specs.Json.{parse_map, after_end_array, items, value}
use Rattle.serde_json.specs.Read.{of_items, converted}
use Rattle.json_form.specs.meaning.Faults.{within_item}
use Rattle.json_form.specs.meaning.Arrays.{each_after}
use Rattle.json_form.specs.Streams.{Begins, value_ahead}
use Rattle.json_form.proofs.Ahead.{begun, one_read, none_left}
use Rattle.json_form.proofs.array.rest_ahead.Goals as goal

pub items-preserved : goal.items-preserved
items-preserved g c =
    let l = c.items in
    let p = value c.args.depth in
    let n = l.invariant.turns in
    let x = c.in_ok-item.item in
    let r = c.ahead.new.tokens in
    let going : (after_end_array l.tokens ≡ None) × (c.take_end_array.new.self ≡ l.tokens) = grind arith in
    let done = c.in_ok-item.ensures in
    let less : length r < length l.tokens = rw (← going.1) done.shorter in
    let begins : Begins (g.R.Reader.reads c.args.reader.now) c.args.depth l.tokens x r = search rules in
    let b = begun (g.R.Reader.reads c.args.reader.now) (value_ahead c.args.depth l.tokens) x r begins in
    let one = ap (within_item (length l.found.items)) b.2 in
    let turn = one_read (λ before. g.R.Reader.reads c.args.reader.now) l.found.items p n l.tokens r b.0 x (omega (arith, l.invariant.enough)) going.0 b.1 one in
    let grown : c.push.new.self.items ≡ l.found.items ++ x ∷ [] = search rules in
    record {
      turns = n - 1;
      enough = omega (arith, l.invariant.enough);
      so_far = l.invariant.so_far ∙ turn ∙ ap (λ found. parse_map (each_after (λ before. g.R.Reader.reads c.args.reader.now) found) (converted of_items (items p (n - 1) r))) (sym grown);
      few = omega (arith, c.len.ensures, c.if-len-high.false, length_push l.found.items x, ap length grown);
      shorter = omega (arith, l.invariant.shorter);
    }

pub returns-clause-read : goal.returns-clause-read
returns-clause-read g c =
    let l = c.items in
    l.invariant.so_far ∙ none_left (λ before. g.R.Reader.reads c.args.reader.now) l.found.items (value c.args.depth) l.invariant.turns l.tokens c.take_end_array.new.self l.invariant.enough (grind arith)
