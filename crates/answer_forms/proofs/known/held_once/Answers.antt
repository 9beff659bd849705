use Rattle.std.proofs.Common.{◌≡◌, true, ◌∙◌, rules}
use Rattle.std.specs.Cmp.Lexicographic.{pointwise, pointwise_decides}
use Rattle.svc_values.specs.meaning.Same.{same_value}
use Rattle.svc_values.specs.SameLaws.{same_value_decides}
use Rattle.answer_forms.proofs.known.held_once.Goals as goal

pub returns-in-Ok : goal.returns-in-Ok
returns-in-Ok c =
    let same : pointwise (pointwise same_value) c.args.known.now c.args.rows ≡ true = search rules in
    let copied : c.in-Ok.copy ≡ c.args.known.now = search rules in
    copied ∙ (pointwise_decides (pointwise_decides same_value_decides) c.args.known.now c.args.rows).0 same
