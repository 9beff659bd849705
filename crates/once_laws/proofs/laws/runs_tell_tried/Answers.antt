use Rattle.once_laws.proofs.laws.runs_tell_tried.Goals as goal

pub returns : goal.returns
returns c = λ document notes items seen t right run. (c.runs_keep_invariant.ensures.run document notes items seen t right run).once.tried
