use Rattle.std.proofs.Common.{rules}
use Rattle.doc_reader.specs.meaning.Images.{leaves_room}
use Rattle.doc_reader.proofs.image.leaves_room.Goals as goal

pub returns-then-are_small_ltxids : goal.returns-then-are_small_ltxids
unfolding leaves_room
returns-then-are_small_ltxids c = search rules
