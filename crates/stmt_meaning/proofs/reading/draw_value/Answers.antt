use Rattle.std.proofs.lemmas.Result.{err_from_is_err_and}
use Rattle.stmt_meaning.proofs.Drawn.{lacked_after, not_given}
use Rattle.stmt_meaning.proofs.reading.draw_value.Goals as goal

pub returns-in_err-draw-clause-read : goal.returns-in_err-draw-clause-read
returns-in_err-draw-clause-read g c =
    let p = err_from_is_err_and c.from_residual.result c.from_residual.ensures.1 in
    rw (p.1, p.2) (not_given g.F.DrawFrom.drew (g.F.DrawFrom.names c.args.source.now) c.args.kind.now c.args.source.now c.draw.new.self c.in_err-draw.field-0.0 c.args.drawn.now.items c.in_err-draw.ensures.drawn)

pub returns-in_err-value-clause-read : goal.returns-in_err-value-clause-read
returns-in_err-value-clause-read g c =
    let p = err_from_is_err_and c.from_residual-in_err-value.result c.from_residual-in_err-value.ensures.1 in
    rw (p.1, p.2) (lacked_after g.F.DrawFrom.drew (g.F.DrawFrom.names c.args.source.now) c.args.kind.now c.args.source.now c.draw.new.self c.in_ok-draw.draw c.in_ok-draw.ensures.drawn)

pub returns-in_err-push-clause-read : goal.returns-in_err-push-clause-read
returns-in_err-push-clause-read g c =
    let p = err_from_is_err_and c.from_residual-in_err-push.result c.from_residual-in_err-push.ensures.1 in
    rw (p.1, p.2) (lacked_after g.F.DrawFrom.drew (g.F.DrawFrom.names c.args.source.now) c.args.kind.now c.args.source.now c.draw.new.self c.in_ok-draw.draw c.in_ok-draw.ensures.drawn)
