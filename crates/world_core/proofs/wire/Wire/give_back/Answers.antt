use Rattle.std.proofs.Common.{sym, ◌∙◌, subst}
use Rattle.frame_wire.specs.Stream.{Pending}
use Rattle.world_core.specs.Carrying.{Carries}
use Rattle.world_core.proofs.Carrying.{carries_back}
use Rattle.world_core.proofs.wire.Wire.give_back.Goals as goal

pub returns-then-not-has_frame : goal.returns-then-not-has_frame
returns-then-not-has_frame g c = λ is_open frames there.
    subst (λ (held : Pending). Carries g.F.Take.spelling g.F.Take.fits is_open frames held) (sym c.keep_first.ensures)
    (carries_back g.F.Take.spelling g.F.Take.fits c.any_cut.ensures.one_answer c.args.self.now (sym c.has_frame.ensures ∙ c.if-not-has_frame.true) is_open frames there)
