use Rattle.std.proofs.Common.{◌≡◌, ◌∙◌, ◌-◌, ◌<◌, ℕ, sym, ap, arith, get_or, set, length}
use Rattle.report_story.specs.Placing.{identity_of}
use Rattle.report_story.proofs.Placed.{same_older, set_older, stays_set}
use Rattle.report_story.proofs.connections.change_at.Goals as goal

pub returns-then-count-place-clause-is : goal.returns-then-count-place-clause-is
returns-then-count-place-clause-is g c = sym (same_older (g.C.Change.change c.args.change.now) c.args.lines.now.items c.args.place (omega (arith, c.len-count.ensures, c.if-count-place.true)))

pub returns-clause-is : goal.returns-clause-is
returns-clause-is g c =
    let change = g.C.Change.change c.args.change.now in
    let items = c.args.lines.now.items in
    let d = c.index_mut-line.result.now in
    let same : c.len-count.result ≡ length items = omega (arith, c.len-count.ensures) in
    let within : c.args.place < length items = omega (arith, c.len-count.ensures, c.if-count-place.false) in
    ap (set items (c.len-count.result - 1 - c.args.place)) (c.in_ok-apply.ensures.is ∙ ap change c.index_mut-line.ensures.value)
    ∙ ap (λ (n : ℕ). set items (n - 1 - c.args.place) (change (get_or items (n - 1 - c.args.place) d))) same
    ∙ sym (set_older change items c.args.place d within)

pub returns-clause-identities : goal.returns-clause-identities
returns-clause-identities g c =
    stays_set identity_of c.args.lines.now.items _ _ c.index_mut-line.result.now (c.apply.ensures.identity ∙ ap identity_of c.index_mut-line.ensures.value)

pub returns-in_err-apply-clause-identities : goal.returns-in_err-apply-clause-identities
returns-in_err-apply-clause-identities g c =
    stays_set identity_of c.args.lines.now.items _ _ c.index_mut-line.result.now (c.apply.ensures.identity ∙ ap identity_of c.index_mut-line.ensures.value)
