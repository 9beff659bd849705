use Rattle.canon_bytes.specs.meaning.UpBytes.{spell_up}
use Rattle.canon_bytes.specs.UpBytes.{FitsUp}
use Rattle.world_core.specs.Linked.{up_frames}
use Rattle.world_core.proofs.Carrying.{never_bad}
use Rattle.world_core.proofs.Linking.{gives_living_front}
use Rattle.world_core.proofs.connection.Connection.first_up.Goals as goal

-- what stands there was spelled
pub next-requires : goal.next-requires
next-requires c = record { good = λ after. never_bad spell_up FitsUp c.any_cut.ensures.one_answer c.requires.0.is_open (up_frames c.requires.0.up) c.args.self.now.up after c.requires.1.up }

pub returns : goal.returns
returns c = gives_living_front c.args.self.now c.next.new.self c.give_back.new.self c.in_ok-frame.frame c.any_cut.ensures.one_answer c.in_ok-frame.ensures c.give_back.ensures c.if-not-self.false
