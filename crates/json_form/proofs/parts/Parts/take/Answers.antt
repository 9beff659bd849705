use Rattle.std.proofs.Common.{◌<◌, Some, length, refl, true, true≢false, sym, ap, ◌∙◌, arith}
use Rattle.serde_json.specs.View.{view, items_view}
use Rattle.serde_json.specs.declared.value.Value.{Value, Null}
use Rattle.serde_json.proofs.Views.{get_item_within, get_item_past, items_len-items_view}
use Rattle.serde_json.specs.Events.{items_len}
use Rattle.json_form.specs.meaning.Arrays.{placed}
use Rattle.json_form.proofs.TakenOut.{item_taken}
use Rattle.std.proofs.Math.ListN.{set}
use Rattle.std.proofs.lemmas.List.{length-set}
use Rattle.json_form.proofs.parts.Parts.take.Goals as goal

pub returns-in-Some-clause-taken : goal.returns-in-Some-clause-taken
returns-in-Some-clause-taken c =
    let there = c.in-Some.ensures.variant.0 refl in
    ap (λ v. Some (view v)) (c.replace.ensures.value ∙ c.in-Some.ensures.item.1) ∙ get_item_within c.args.self.now.items.items c.args.at c.in-Some.item.now (omega (arith, there))

pub returns-in-Some-clause-left : goal.returns-in-Some-clause-left
returns-in-Some-clause-left c =
    let there = c.in-Some.ensures.variant.0 refl in
    let within : c.args.at < length c.args.self.now.items.items = omega (arith, there) in
    ap (λ (v : Value). placed (items_view (set c.args.self.now.items.items c.args.at v))) c.replace.ensures.after ∙ item_taken c.args.self.now.items.items c.args.at within

pub returns-in-None-clause-taken : goal.returns-in-None-clause-taken
returns-in-None-clause-taken c =
    get_item_past c.args.self.now.items.items c.args.at (omega (arith, (λ (h : c.args.at < length c.args.self.now.items.items). true≢false (sym (c.in-None.ensures.variant.1 (omega (arith, h)))))))

pub returns-in-Some-clause-count : goal.returns-in-Some-clause-count
returns-in-Some-clause-count c =
    let vs = c.args.self.now.items.items in
    ap (λ (v : Value). items_len (items_view (set vs c.args.at v))) c.replace.ensures.after
    ∙ items_len-items_view (set vs c.args.at Null) ∙ length-set vs c.args.at Null ∙ sym (items_len-items_view vs)
