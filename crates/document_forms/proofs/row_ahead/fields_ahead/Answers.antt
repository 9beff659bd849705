use Rattle.std.proofs.Common.{◌≡◌, ◌-◌, ◌<◌, [], ◌∷◌, ◌++◌, length, None, sym, ap, ◌∙◌, arith, rules}
use Rattle.std.proofs.lemmas.List.{length_push}
use Rattle.json.specs.Json.{parse_map, after_end_array, items, value}
use Rattle.serde_json.specs.Read.{of_items, converted}
use Rattle.json_form.specs.meaning.Faults.{within_item}
use Rattle.json_form.specs.meaning.Arrays.{each_after, is_key}
use Rattle.json_form.specs.Streams.{Begins, value_ahead}
use Rattle.svc_values.specs.contracts.value.ValuePartialEq.TheImpl.{eq-value}
use Rattle.document_forms.specs.meaning.Tables.{field_of}
use Rattle.document_forms.specs.RowsAhead.{fields_of}
use Rattle.json_form.proofs.Offered.{begun, one_read, none_left, exact_read}
use Rattle.document_forms.proofs.row_ahead.fields_ahead.Goals as goal

pub fields-preserved : goal.fields-preserved
fields-preserved c =
    let l = c.fields in
    let p = value c.in_ok-inside.inside in
    let n = l.invariant.turns in
    let reads = field_of (is_key eq-value.it c.args.taken.now) in
    let x = c.in_ok-field.field in
    let r = c.field_ahead.new.tokens in
    let going : (after_end_array l.tokens ≡ None) × (c.take_end_array.new.self ≡ l.tokens) = grind arith in
    let done = c.in_ok-field.ensures in
    let less : length r < length l.tokens = rw (← going.1) done.shorter in
    let begins : Begins (reads l.found.items) c.in_ok-inside.inside l.tokens x r = search rules in
    let b = begun (reads l.found.items) (value_ahead c.in_ok-inside.inside l.tokens) x r begins in
    let one = ap (within_item (length l.found.items)) b.2 in
    let turn = one_read reads l.found.items p n l.tokens r b.0 x (omega (arith, l.invariant.enough)) going.0 b.1 one in
    let grown : c.push.new.self.items ≡ l.found.items ++ x ∷ [] = search rules in
    record {
      turns = n - 1;
      enough = omega (arith, l.invariant.enough);
      so_far = l.invariant.so_far ∙ turn ∙ ap (λ found. parse_map (each_after reads found) (converted of_items (items p (n - 1) r))) (sym grown);
      few = omega (arith, c.len.ensures, length_push l.found.items x, ap length grown);
      shorter = omega (arith, l.invariant.shorter);
    }

pub returns-clause-read : goal.returns-clause-read
returns-clause-read c =
    let l = c.fields in
    let reads = field_of (is_key eq-value.it c.args.taken.now) in
    let over = none_left reads l.found.items (value c.in_ok-inside.inside) l.invariant.turns l.tokens c.take_end_array.new.self l.invariant.enough (grind arith) in
    ap (parse_map (fields_of (is_key eq-value.it c.args.taken.now) c.args.count)) c.in_ok-inside.ensures.array
    ∙ exact_read reads c.args.count _ l.found.items c.take_end_array.new.self (grind arith) (l.invariant.so_far ∙ over)
