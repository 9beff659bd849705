use Rattle.std.proofs.Common.{◌≡◌, ◌-◌, ◌<◌, [], ◌∷◌, ◌++◌, length, Some, None, sym, ap, ◌∙◌, arith, rules}
use Rattle.json.specs.Json.{parse_map, after_end_array, items, value}
use Rattle.serde_json.specs.Data.{string, item}
use Rattle.serde_json.specs.Read.{of_items, converted}
use Rattle.serde_json.specs.View.{view}
use Rattle.serde_json.specs.declared.value.Value.{String, the_lemmas}
use Rattle.json_form.specs.Streams.{items_ahead}
use Rattle.json_form.proofs.Offered.{item_turn, items_over, items_before, items_before-no_items, one_more_item}
use Rattle.note_forms.proofs.ServedAhead.{mapped}
use Rattle.note_forms.proofs.items_ahead.values_ahead.Goals as goal

pub items-init : goal.items-init
items-init c =
    let all = items_ahead c.args.depth c.args.tokens.now in
    let seen : view (String c.in_ok-text.text) ≡ string c.args.word.now = search (rules, the_lemmas) in
    let one : c.in_ok-found.found.items ≡ String c.in_ok-text.text ∷ [] = search rules in
    record {
      turns = length c.args.tokens.now;
      enough = omega arith;
      so_far = ap (λ d. parse_map (item d) all) (sym seen) ∙ ap (λ vs. parse_map (items_before vs) all) (sym one);
      shorter = omega arith;
    }

pub items-preserved : goal.items-preserved
items-preserved c =
    let p = value c.args.depth in
    let l = c.items in
    let n = l.invariant.turns in
    let going : (after_end_array l.tokens ≡ None) × (c.take_end_array.new.self ≡ l.tokens) = grind arith in
    let done = c.in_ok-value.ensures in
    let v = c.in_ok-value.value in
    let r = c.value_from.new.tokens in
    let less : length r < length l.tokens = rw (← going.1) done.shorter in
    let grown : c.push.new.self.items ≡ l.found.items ++ v ∷ [] = search rules in
    let turn = item_turn p n l.tokens r (view v) (omega (arith, l.invariant.enough)) going.0 (rw (← going.1) done.read) in
    record {
      turns = n - 1;
      enough = omega (arith, l.invariant.enough);
      so_far = l.invariant.so_far ∙ ap (parse_map (items_before l.found.items)) turn ∙ one_more_item l.found.items v _ ∙ ap (λ vs. parse_map (items_before vs) (converted of_items (items p (n - 1) r))) (sym grown);
      shorter = omega (arith, l.invariant.shorter);
    }

pub returns-clause-read : goal.returns-clause-read
returns-clause-read c =
    let l = c.items in
    let r = c.take_end_array.new.self in
    let over = items_over (value c.args.depth) l.invariant.turns l.tokens r l.invariant.enough (grind arith) in
    mapped (item (string c.args.word.now)) (items_ahead c.args.depth c.args.tokens.now) _ r (l.invariant.so_far ∙ ap (parse_map (items_before l.found.items)) over ∙ ap (λ ds. Some (ds, r)) (items_before-no_items l.found.items))
