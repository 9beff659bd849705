use Rattle.std.proofs.Common.{◌≡◌, ◌+◌, ◌∷◌, ◌||◌, List, drop, false, sym, ap, ◌∙◌}
use Rattle.std.proofs.lemmas.List.{drop_more}
use Rattle.svc_values.specs.declared.value.Value.{Value}
use Rattle.svc_values.specs.contracts.value.ValuePartialEq.TheImpl.{eq-value}
use Rattle.svc_values.specs.meaning.Schemas.{key_of}
use Rattle.svc_values.specs.Keys.{is_key}
use Rattle.commit_log.proofs.Differing.{differ_from, differ_at_first, differ_on}
use Rattle.commit_log.proofs.checks.keys_differ.Goals as goal

pub loop-row-init : goal.loop-row-init
loop-row-init c = ap (λ (keys : List Value). differ_from (is_key eq-value.it keys) c.args.rows.now) c.new-taken.ensures ∙ differ_at_first c.args.rows.now

pub loop-row-preserved : goal.loop-row-preserved
loop-row-preserved c =
    let rows = c.args.rows.now in
    let i = c.loop-row.row-index in
    let row = c.row-item.result in
    let rest = drop (i + 1) rows in
    let here : drop i rows ≡ row ∷ rest = drop_more rows i row c.loop-row-test.true ∙ ap (λ (r : List Value). r ∷ rest) (sym c.row-item.is) in
    let key : c.in_ok-key.key ≡ key_of row = c.in_ok-key.ensures in
    let old = c.loop-row.taken in
    let fresh : is_key eq-value.it old (key_of row) ≡ false = ap (is_key eq-value.it old) (sym key) ∙ sym c.has.ensures ∙ c.if-has.false in
    let added = λ (k : Value). c.in_ok-add.ensures.ok k ∙ ap (λ (v : Value). is_key eq-value.it old k || eq-value.it k v) key in
    sym (differ_on old c.add.new.self row rest fresh added) ∙ ap (differ_from (is_key eq-value.it old)) (sym here) ∙ c.loop-row.invariant
