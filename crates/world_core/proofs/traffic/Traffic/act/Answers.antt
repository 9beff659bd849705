use Rattle.std.proofs.Common.{List, ◌++◌, sym, ap, ◌∙◌}
use Rattle.svc_values.specs.declared.frame.Up.{Up}
use Rattle.world_core.proofs.traffic.Traffic.act.Goals as goal

pub returns-clause-acted : goal.returns-clause-acted
returns-clause-acted c = λ m sent same is.
    let frames = c.deref.ensures.value ∙ c.in_ok-frames.ensures.all ∙ ap (λ (more : List Up). c.args.send.items ++ more) c.in_ok-closes.ensures.closing in
    c.in_ok-send.ensures _ sent (same ∙ sym frames) (c.in_ok-closes.ensures.released m is)
