use Rattle.frame_wire.proofs.Streams.{whole_frames}
use Rattle.frame_wire.proofs.law.cut_leaves_whole_frames.Goals as goal

pub returns : goal.returns
returns g c = whole_frames g.F.Take.spelling g.F.Take.fits g.F.Take.reading g.met.F.Take.again
