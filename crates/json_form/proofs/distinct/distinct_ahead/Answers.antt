use Rattle.std.proofs.Common.{◌≡◌, ◌-◌, ◌<◌, ◌||◌, [], ◌∷◌, ◌++◌, length, map, None, sym, ap, ◌∙◌, arith, rules}
use Rattle.std.proofs.lemmas.List.{length_push}
use Rattle.json.specs.Json.{parse_map, after_end_array, items, value}
use Rattle.serde_json.specs.Read.{of_items, converted}
use Rattle.json_form.specs.meaning.Faults.{within_item}
use Rattle.json_form.specs.meaning.Arrays.{each_after, array_of, is_key}
use Rattle.json_form.proofs.Keys.{still_has}
use Rattle.json_form.specs.Streams.{Begins, value_ahead}
use Rattle.json_form.proofs.Ahead.{begun, one_read, none_left, array_read}
use Rattle.json_form.proofs.distinct.distinct_ahead.Goals as goal

pub items-preserved : goal.items-preserved
items-preserved g c =
    let l = c.items in
    let p = value c.in_ok-inside.inside in
    let n = l.invariant.turns in
    let x = c.in_ok-item.item in
    let r = c.next_ahead.new.tokens in
    let going : (after_end_array l.tokens ≡ None) × (c.take_end_array.new.self ≡ l.tokens) = grind arith in
    let done = c.in_ok-item.ensures in
    let less : length r < length l.tokens = rw (← going.1) done.shorter in
    let reads = g.R.KeyedReader.reads c.args.reader.now (is_key g.R.Key.PartialEq.eq (map g.R.KeyedReader.key_of l.found.items)) in
    let begins : Begins reads c.in_ok-inside.inside l.tokens x r = search rules in
    let b = begun reads (value_ahead c.in_ok-inside.inside l.tokens) x r begins in
    let one = ap (within_item (length l.found.items)) b.2 in
    let made : c.in_ok-key.key ≡ g.R.KeyedReader.key_of x = search rules in
    let added : (k : g.row.R-Key.Denot) → is_key g.R.Key.PartialEq.eq c.add.new.self k ≡ (is_key g.R.Key.PartialEq.eq l.taken k || g.R.Key.PartialEq.eq k c.in_ok-key.key) = search rules in
    let turn = one_read (λ before. g.R.KeyedReader.reads c.args.reader.now (is_key g.R.Key.PartialEq.eq (map g.R.KeyedReader.key_of before))) l.found.items p n l.tokens r b.0 x (omega (arith, l.invariant.enough)) going.0 b.1 one in
    let grown : c.push.new.self.items ≡ l.found.items ++ x ∷ [] = search rules in
    record {
      turns = n - 1;
      enough = omega (arith, l.invariant.enough);
      so_far = l.invariant.so_far ∙ turn ∙ ap (λ found. parse_map (each_after (λ before. g.R.KeyedReader.reads c.args.reader.now (is_key g.R.Key.PartialEq.eq (map g.R.KeyedReader.key_of before))) found) (converted of_items (items p (n - 1) r))) (sym grown);
      noted = λ k. still_has g.R.Key.PartialEq.eq g.R.KeyedReader.key_of l.found.items x l.taken c.add.new.self l.invariant.noted (λ q. added q ∙ ap (λ key. is_key g.R.Key.PartialEq.eq l.taken q || g.R.Key.PartialEq.eq q key) made) k
          ∙ ap (λ found. is_key g.R.Key.PartialEq.eq (map g.R.KeyedReader.key_of found) k) (sym grown);
      few = omega (arith, c.len.ensures, c.if-len-high.false, length_push l.found.items x, ap length grown);
      shorter = omega (arith, l.invariant.shorter);
    }

pub returns-clause-read : goal.returns-clause-read
returns-clause-read g c =
    let l = c.items in
    let over = none_left (λ before. g.R.KeyedReader.reads c.args.reader.now (is_key g.R.Key.PartialEq.eq (map g.R.KeyedReader.key_of before))) l.found.items (value c.in_ok-inside.inside) l.invariant.turns l.tokens c.take_end_array.new.self l.invariant.enough (grind arith) in
    ap (parse_map (array_of 0 c.args.high (each_after (λ before. g.R.KeyedReader.reads c.args.reader.now (is_key g.R.Key.PartialEq.eq (map g.R.KeyedReader.key_of before))) []))) c.in_ok-inside.ensures.array
    ∙ array_read (λ before. g.R.KeyedReader.reads c.args.reader.now (is_key g.R.Key.PartialEq.eq (map g.R.KeyedReader.key_of before))) c.args.high _ l.found.items c.take_end_array.new.self l.invariant.few (l.invariant.so_far ∙ over)
