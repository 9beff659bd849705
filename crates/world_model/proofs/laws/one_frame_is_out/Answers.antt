use Rattle.world_model.proofs.wire.KeptWire.{out_law, fresh_law}
use Rattle.world_model.proofs.laws.one_frame_is_out.Goals as goal

pub returns-clause-out : goal.returns-clause-out
returns-clause-out c = out_law

pub returns-clause-fresh : goal.returns-clause-fresh
returns-clause-fresh c = fresh_law
