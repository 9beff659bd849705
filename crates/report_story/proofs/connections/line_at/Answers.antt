use Rattle.std.proofs.Common.{◌≡◌, ◌∙◌, ◌-◌, ◌<◌, ℕ, Some, sym, ap, arith, get_or, length}
use Rattle.report_story.proofs.Placed.{none_older, read_older}
use Rattle.report_story.proofs.connections.line_at.Goals as goal

pub returns-then-count-place : goal.returns-then-count-place
returns-then-count-place c = sym (none_older c.args.lines.now.items c.args.place (omega (arith, c.len-count.ensures, c.if-count-place.true)))

pub returns : goal.returns
returns c =
    let items = c.args.lines.now.items in
    let d = c.index.result.now in
    let same : c.len-count.result ≡ length items = omega (arith, c.len-count.ensures) in
    let within : c.args.place < length items = omega (arith, c.len-count.ensures, c.if-count-place.false) in
    ap Some (c.index.ensures ∙ ap (λ (n : ℕ). get_or items (n - 1 - c.args.place) d) same) ∙ sym (read_older items c.args.place d within)
