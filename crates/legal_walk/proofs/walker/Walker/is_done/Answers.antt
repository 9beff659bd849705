use Rattle.legal_walk.proofs.walker.Walker.is_done.Goals as goal

pub returns : goal.returns
returns c = λ base walk walks. c.is_done.ensures base walk walks.beside
