use Rattle.std.proofs.Common.{Bool, sym, ap, ◌∙◌, ◌&&◌}
use Rattle.std.specs.Prelude.{is_some}
use Rattle.frame_wire.specs.Stream.{first_payload}
use Rattle.world_core.proofs.Linking.{front_stands}
use Rattle.world_core.proofs.connection.Connection.has_front.Goals as goal

pub returns-then-self-clause-link : goal.returns-then-self-clause-link
returns-then-self-clause-link c = λ link is.
    c.has_frame.ensures ∙ sym (ap (λ (b : Bool). b && is_some (first_payload c.args.self.now.up.bytes)) c.if-self.true) ∙ front_stands c.args.self.now c.any_cut.ensures.one_answer link is
