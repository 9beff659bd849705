use Rattle.std.proofs.Common.{Bool, ap, ◌∙◌}
use Rattle.std.proofs.Math.Path.{fun_ext}
use Rattle.std.specs.Cmp.Lexicographic.{pointwise}
use Rattle.svc_values.specs.declared.value.Value.{Value}
use Rattle.answer_forms.proofs.known.are_same.Goals as goal

pub returns : goal.returns
returns c =
    let each = fun_ext (λ a. fun_ext (λ b. c.compares_exactly.ensures.equal a b)) in
    c.eq.ensures ∙ ap (λ (f : Value → Value → Bool). pointwise (pointwise f) c.args.one.now c.args.other.now) each
