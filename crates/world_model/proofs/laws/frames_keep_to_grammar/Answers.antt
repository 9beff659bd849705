use Rattle.world_model.proofs.wire.KeptWire.{grammar_law}
use Rattle.world_model.proofs.laws.frames_keep_to_grammar.Goals as goal

pub returns : goal.returns
returns c = grammar_law
