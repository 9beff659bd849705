use Rattle.std.proofs.Common.{◌≡◌, ℕ, ◌+◌, List, length, sym, subst, arith}
use Rattle.driver_core.specs.Driving.{terms_of}
use Rattle.world_core.specs.Coursing.{Held}
use Rattle.world_core.proofs.steps.EachClient.{FirstFew, one_first, first_read, begin_each}
use Rattle.world_core.proofs.clients.first_clients.Goals as goal

pub loop-script-preserved : goal.loop-script-preserved
loop-script-preserved g c =
    let terms = terms_of (g.R.BoundRule.rules c.args.rule) c.args.limits c.args.recorded in
    subst (λ (all : List (Held _)). FirstFew _ (λ rule. g.R.BoundRule.rules rule) terms c.args.scripts.now (c.loop-script.script-index + 1) all) (sym c.in_ok-push.ensures.items)
    (one_first _ (λ rule. g.R.BoundRule.rules rule) terms c.args.scripts.now c.loop-script.script-index c.loop-script.clients.items c.new.result c.loop-script.invariant
    (first_read _ (λ rule. g.R.BoundRule.rules rule) terms c.args.scripts.now c.loop-script.script-index c.script-item.result c.as_slice-requests.result.now c.new.result c.loop-script-test.true c.script-item.is c.as_slice-requests.ensures c.new.ensures))

pub returns : goal.returns
returns g c =
    let terms = terms_of (g.R.BoundRule.rules c.args.rule) c.args.limits c.args.recorded in
    let all : c.loop-script.script-index ≡ length c.args.scripts.now = omega (arith, c.loop-script-test.false, c.loop-script.auto.script-index-end) in
    begin_each _ (λ rule. g.R.BoundRule.rules rule) terms c.args.scripts.now c.loop-script.clients.items (subst (λ (many : ℕ). FirstFew _ (λ rule. g.R.BoundRule.rules rule) terms c.args.scripts.now many c.loop-script.clients.items) all c.loop-script.invariant)
