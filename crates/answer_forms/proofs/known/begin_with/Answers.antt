use Rattle.std.proofs.Common.{◌≡◌, Bool, [], ◌∷◌, take, sym, ap, ◌∙◌, arith}
use Rattle.std.proofs.Math.Path.{fun_ext}
use Rattle.std.proofs.Math.Seq.{take-suc}
use Rattle.std.specs.Cmp.Lexicographic.{pointwise, pointwise_decides}
use Rattle.svc_values.specs.declared.value.Value.{Value}
use Rattle.svc_values.specs.SameLaws.{same_value_decides}
use Rattle.answer_forms.proofs.known.begin_with.Goals as goal

pub returns-in-len1-up : goal.returns-in-len1-up
returns-in-len1-up c = λ held.
    let each = fun_ext (λ a. fun_ext (λ b. c.compares_exactly.ensures.equal a b)) in
    let row = c.row-item.result in
    let rows = c.as_slice.result.now in
    let decided = (pointwise_decides same_value_decides row c.args.first.now).0 (sym (c.eq.ensures ∙ ap (λ (f : Value → Value → Bool). pointwise f row c.args.first.now) each) ∙ held) in
    let front : take 1 rows ≡ row ∷ [] = take-suc rows 0 row (omega (arith, c.in-len1-up.len_at_least)) ∙ ap (λ y. y ∷ []) (sym c.row-item.is) in
    ap (take 1) (sym c.as_slice.ensures.items) ∙ front ∙ ap (λ y. y ∷ []) decided
