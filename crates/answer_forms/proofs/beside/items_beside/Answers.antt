use Rattle.std.proofs.Common.{◌≡◌, suc, ◌+◌, ◌<◌, [], ◌∷◌, ◌++◌, length, take, None, Some, Ok, sym, ap, ◌∙◌, subst, arith, rules, take_all}
use Rattle.std.proofs.Math.Seq.{take-suc}
use Rattle.json.specs.Json.{parse_map, after_end_array}
use Rattle.json_form.specs.meaning.Arrays.{each_after}
use Rattle.json_form.specs.Streams.{items_ahead, Begins}
use Rattle.answer_forms.specs.Beside.{told}
use Rattle.answer_forms.proofs.KnownItems.{one_then, none_then}
use Rattle.answer_forms.proofs.beside.items_beside.Goals as goal

pub same-preserved : goal.same-preserved
same-preserved g c =
    let l = c.same in
    let read = g.R.Reader.reads c.args.reader.now in
    let r = c.beside.new.tokens in
    let going : (after_end_array l.tokens ≡ None) × (c.take_end_array.new.self ≡ l.tokens) = grind arith in
    let done = c.in_ok-beside.ensures in
    let x = c.index-known-at.result in
    let known = c.args.known.now in
    let less : length r < length l.tokens = rw (← going.1) done.shorter in
    let began : Begins read c.args.depth l.tokens (told x c.in_ok-beside.field-0) r = rw (← going.1) done.begins in
    let begins : Begins read c.args.depth l.tokens x r = subst (λ b. Begins read c.args.depth l.tokens (told x b) r) c.in-Same.is began in
    let next : l.at + 1 ≡ suc l.at = omega arith in
    let grown : take (l.at + 1) known ≡ take l.at known ++ x ∷ [] = ap (λ n. take n known) next ∙ take-suc known l.at x (omega (arith, c.same-test.true)) ∙ ap (λ y. take l.at known ++ y ∷ []) (sym c.index-known-at.is) in
    record {
      from = omega (arith, l.invariant.from);
      within = omega (arith, c.same-test.true);
      so_far = λ xs rest h. l.invariant.so_far xs rest (one_then read c.args.depth (take l.at known) x l.tokens r rest xs begins (subst (λ before. parse_map (each_after (λ _. read) before) (items_ahead c.args.depth r) ≡ Some (Ok xs, rest)) grown h));
      shorter = omega (arith, less, l.invariant.shorter);
    }

pub same-init : goal.same-init
same-init g c = record {
  from = omega arith;
  within = omega (arith, c.requires.from);
  so_far = λ xs rest h. h;
  shorter = omega arith;
}

pub returns-then-take_end_array-clause-read : goal.returns-then-take_end_array-clause-read
returns-then-take_end_array-clause-read g c =
    let l = c.same in
    let read = g.R.Reader.reads c.args.reader.now in
    let r = c.take_end_array.new.self in
    let ends : after_end_array l.tokens ≡ Some r = grind arith in
    let copied : c.in_ok-front.front.items ≡ take l.at c.args.known.now = search rules in
    l.invariant.so_far (take l.at c.args.known.now) r (none_then read c.args.depth (take l.at c.args.known.now) l.tokens r ends) ∙ ap (λ xs. Some (Ok xs, r)) (sym copied)

pub returns-in-Other-clause-read : goal.returns-in-Other-clause-read
returns-in-Other-clause-read g c =
    let l = c.same in
    let read = g.R.Reader.reads c.args.reader.now in
    let r = c.beside.new.tokens in
    let s = c.rest_ahead.new.tokens in
    let all = c.in_ok-all-in-Other.all.items in
    let known = c.args.known.now in
    let x = c.in-Other.item in
    let going : (after_end_array l.tokens ≡ None) × (c.take_end_array.new.self ≡ l.tokens) = grind arith in
    let began : Begins read c.args.depth l.tokens (told c.index-known-at.result c.in_ok-beside.field-0) r = rw (← going.1) c.in_ok-beside.ensures.begins in
    let begins : Begins read c.args.depth l.tokens x r = subst (λ b. Begins read c.args.depth l.tokens (told c.index-known-at.result b) r) c.in-Other.is began in
    let grown : c.push.new.self.items ≡ take l.at known ++ x ∷ [] = search rules in
    let behind = subst (λ before. parse_map (each_after (λ _. read) before) (items_ahead c.args.depth r) ≡ Some (Ok all, s)) grown c.in_ok-all-in-Other.ensures.read in
    l.invariant.so_far all s (one_then read c.args.depth (take l.at known) x l.tokens r s all begins behind)

pub returns-then-take_end_array-2-clause-read : goal.returns-then-take_end_array-2-clause-read
returns-then-take_end_array-2-clause-read g c =
    let l = c.same in
    let read = g.R.Reader.reads c.args.reader.now in
    let known = c.args.known.now in
    let r = c.take_end_array-2.new.self in
    let ends : after_end_array l.tokens ≡ Some r = grind arith in
    let whole : take l.at known ≡ known = take_all l.at known (omega (arith, c.same-test.false)) in
    l.invariant.so_far known r (subst (λ before. parse_map (each_after (λ _. read) before) (items_ahead c.args.depth l.tokens) ≡ Some (Ok known, r)) (sym whole) (none_then read c.args.depth known l.tokens r ends))

pub returns-clause-read : goal.returns-clause-read
returns-clause-read g c =
    let l = c.same in
    let read = g.R.Reader.reads c.args.reader.now in
    let known = c.args.known.now in
    let all = c.in_ok-all.all.items in
    let s = c.rest_ahead-2.new.tokens in
    let going : (after_end_array l.tokens ≡ None) × (c.take_end_array-2.new.self ≡ l.tokens) = grind arith in
    let copied : c.in_ok-found.found.items ≡ take l.at known = search rules ∙ sym (take_all l.at known (omega (arith, c.same-test.false))) in
    let behind : parse_map (each_after (λ _. read) c.in_ok-found.found.items) (items_ahead c.args.depth l.tokens) ≡ Some (Ok all, s) = rw (← going.1) c.in_ok-all.ensures.read in
    l.invariant.so_far all s (subst (λ before. parse_map (each_after (λ _. read) before) (items_ahead c.args.depth l.tokens) ≡ Some (Ok all, s)) copied behind)
