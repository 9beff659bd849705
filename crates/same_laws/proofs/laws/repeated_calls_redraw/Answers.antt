use Rattle.same_laws.proofs.Redrawn.{runs_redraw, whole_runs_redraw}
use Rattle.same_laws.proofs.laws.repeated_calls_redraw.Goals as goal

pub returns : goal.returns
returns c =
    let redraw = runs_redraw c.runs_keep_invariant.ensures.reached c.runs_serve.ensures c.runs_legal.ensures in
    record { reached = redraw; run = whole_runs_redraw redraw }
