use Rattle.std.proofs.Common.{subst, sym, ap, ◌∙◌, ◌-◌, ◌≡◌, suc, List, map, get_or, arith}
use Rattle.report_horizons.specs.declared.wanted_horizons.Opening.{Opening}
use Rattle.report_horizons.specs.Horizons.{opening_as, part_before, most_by, AreOrdered}
use Rattle.report_horizons.proofs.Ordered.{none_is, last_is}
use Rattle.report_horizons.proofs.wanted_horizons.WantedHorizons.most_before.Goals as goal

pub returns-then-before-eq0 : goal.returns-then-before-eq0
returns-then-before-eq0 c =
    let P : List Opening → Type 0 = λ all. AreOrdered 0 0 all c.self.inside.most in
    let ordered = subst P (sym c.as_slice.ensures.value) c.self.invariant in
    none_is c.as_slice.result.now c.self.inside.most c.args.event c.count_before-before.result ordered c.count_before-before.ensures.within c.count_before-before.ensures.point c.if-before-eq0.true
    ∙ ap (λ (all : List Opening). most_by (part_before c.args.event) (map opening_as all)) c.as_slice.ensures.value
    ∙ ap (most_by (part_before c.args.event)) c.self.view_is

pub returns : goal.returns
returns c =
    let P : List Opening → Type 0 = λ all. AreOrdered 0 0 all c.self.inside.most in
    let ordered = subst P (sym c.as_slice.ensures.value) c.self.invariant in
    let before = c.count_before-before.result in
    let some : before ≡ suc (before - 1) = omega (arith, c.if-before-eq0.false) in
    ap (λ (one : Opening). one.most) c.index.ensures
    ∙ ap (λ (all : List Opening). (get_or all (before - 1) c.index.result.now).most) (sym c.as_slice.ensures.value)
    ∙ last_is c.as_slice.result.now c.self.inside.most c.args.event before ordered c.count_before-before.ensures.within c.count_before-before.ensures.point (before - 1) c.index.result.now some
    ∙ ap (λ (all : List Opening). most_by (part_before c.args.event) (map opening_as all)) c.as_slice.ensures.value
    ∙ ap (most_by (part_before c.args.event)) c.self.view_is
