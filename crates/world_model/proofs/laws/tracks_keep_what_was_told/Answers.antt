use Rattle.world_model.proofs.script.KeptTracks.{tracks_law}
use Rattle.world_model.proofs.laws.tracks_keep_what_was_told.Goals as goal

pub returns : goal.returns
returns c = tracks_law
