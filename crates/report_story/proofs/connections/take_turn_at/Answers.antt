use Rattle.std.proofs.Common.{◌≡◌, ◌∙◌, ◌-◌, ◌<◌, ℕ, sym, ap, arith, get_or, set, length}
use Rattle.shown_clauses.specs.meaning.Links.{turn_of}
use Rattle.report_story.specs.Lines.{without_turn, turns_on}
use Rattle.report_story.proofs.Placed.{none_older, read_older, same_older, set_older}
use Rattle.report_story.proofs.connections.take_turn_at.Goals as goal

pub returns-then-count-place-clause-turn : goal.returns-then-count-place-clause-turn
returns-then-count-place-clause-turn c = sym (ap turns_on (none_older c.args.lines.now.items c.args.place (omega (arith, c.len-count.ensures, c.if-count-place.true))))

pub returns-then-count-place-clause-rest : goal.returns-then-count-place-clause-rest
returns-then-count-place-clause-rest c = sym (same_older without_turn c.args.lines.now.items c.args.place (omega (arith, c.len-count.ensures, c.if-count-place.true)))

pub returns-clause-turn : goal.returns-clause-turn
returns-clause-turn c =
    let items = c.args.lines.now.items in
    let d = c.index_mut-line.result.now in
    let same : c.len-count.result ≡ length items = omega (arith, c.len-count.ensures) in
    let within : c.args.place < length items = omega (arith, c.len-count.ensures, c.if-count-place.false) in
    c.take_turn.ensures.turn
    ∙ ap turn_of (c.index_mut-line.ensures.value ∙ ap (λ (n : ℕ). get_or items (n - 1 - c.args.place) d) same)
    ∙ sym (ap turns_on (read_older items c.args.place d within))

pub returns-clause-rest : goal.returns-clause-rest
returns-clause-rest c =
    let items = c.args.lines.now.items in
    let d = c.index_mut-line.result.now in
    let same : c.len-count.result ≡ length items = omega (arith, c.len-count.ensures) in
    let within : c.args.place < length items = omega (arith, c.len-count.ensures, c.if-count-place.false) in
    ap (set items (c.len-count.result - 1 - c.args.place)) (c.take_turn.ensures.rest ∙ ap without_turn c.index_mut-line.ensures.value)
    ∙ ap (λ (n : ℕ). set items (n - 1 - c.args.place) (without_turn (get_or items (n - 1 - c.args.place) d))) same
    ∙ sym (set_older without_turn items c.args.place d within)
