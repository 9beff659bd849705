use Rattle.std.proofs.Common.{◌≡◌, ◌∙◌, [], drop, arith, ap, sym}
use Rattle.std.proofs.lemmas.List.{drop_all}
use Rattle.cover_core.specs.Coverings.{covered}
use Rattle.cover_core.proofs.Covering.{no_calls}
use Rattle.cover_core.proofs.counts.protected_by.Goals as goal

pub returns : goal.returns
returns g c =
    let rules = g.R.BoundRule.rules c.args.rule in
    let coverage = c.loop-place.coverage in
    let left = drop c.loop-place.place c.args.shown.now in
    let none : drop c.loop-place.place c.args.calls.now ≡ [] = drop_all c.loop-place.place c.args.calls.now (let out = c.loop-place-test.false in omega (arith, out)) in
    ap (λ pair. pair.1) c.counts-2.ensures
    ∙ ap (λ after. after.guarded) (sym (ap (λ calls. covered rules coverage calls left) none ∙ no_calls rules coverage left) ∙ c.loop-place.invariant.so_far)
