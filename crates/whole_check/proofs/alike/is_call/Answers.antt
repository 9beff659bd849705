use Rattle.std.proofs.Common.{Bool, ap, ◌∙◌}
use Rattle.svc_values.specs.declared.call.Call.{Call}
use Rattle.whole_check.proofs.alike.is_call.Goals as goal

pub returns : goal.returns
returns c = c.eq.ensures ∙ ap (λ (test : Call → Call → Bool). test c.args.one.now c.args.other.now) c.tests_equality.ensures.calls
