use Rattle.std.proofs.Common.{refl}
use Rattle.canon_bytes.specs.meaning.DownBytes.{spell_down}
use Rattle.canon_bytes.specs.DownBytes.{FitsDown}
use Rattle.world_core.specs.Linked.{down_frames}
use Rattle.world_core.proofs.Carrying.{never_bad}
use Rattle.world_core.proofs.Linking.{gives_reply}
use Rattle.world_core.proofs.connection.Connection.take.Goals as goal

-- what stands there was spelled
pub next-requires : goal.next-requires
next-requires c = record { good = λ after. never_bad spell_down FitsDown c.any_cut.ensures.one_answer c.requires.0.is_open (down_frames c.requires.0.down) c.args.self.now.down after c.requires.1.down }

pub returns : goal.returns
returns c = λ link is. rw (c.or-self.ensures, c.told_by.ensures) (gives_reply c.args.self.now c.next.new.self c.give_back.new.self c.in_ok-reply.reply c.any_cut.ensures.one_answer c.in_ok-reply.ensures c.give_back.ensures link link.down refl is)
