use Rattle.std.proofs.Common.{[], refl}
use Rattle.frame_wire.specs.Stream.{nothing_pending}
use Rattle.frame_wire.proofs.Streams.{one_answer, front, frames, one_list}
use Rattle.frame_wire.proofs.law.any_cut.Goals as goal

pub returns-clause-one_answer : goal.returns-clause-one_answer
returns-clause-one_answer g c = one_answer g.F.Take.spelling g.F.Take.fits g.F.Take.reading g.met.F.Take.again

pub returns-clause-front : goal.returns-clause-front
returns-clause-front g c = λ steps after leads. front g.F.Take.spelling g.F.Take.fits g.F.Take.reading g.met.F.Take.again [] [] nothing_pending steps after refl leads

pub returns-clause-frames : goal.returns-clause-frames
returns-clause-frames g c = frames g.F.Take.spelling g.F.Take.fits g.F.Take.reading g.met.F.Take.again nothing_pending

pub returns-clause-one_list : goal.returns-clause-one_list
returns-clause-one_list g c = one_list g.F.Take.spelling g.F.Take.fits g.F.Take.reading g.met.F.Take.again
