use Rattle.std.proofs.Common.{◌∙◌, ap}
use Rattle.world_core.specs.Forgetting.{Held}
use Rattle.world_core.proofs.Forgetting.{wanted_is}
use Rattle.world_core.proofs.openings.Openings.wanted.Goals as goal

pub returns : goal.returns
returns c = λ retention told tracks. ap (λ (held : Held). held.wanted) c.self.view_is ∙ wanted_is retention c.args.self.now told tracks
