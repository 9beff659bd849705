use Rattle.std.proofs.Common.{◌≡◌, ap, subst, List}
use Rattle.std.specs.Prelude.{get_or}
use Rattle.world_core.specs.Coursing.{Held}
use Rattle.world_run.specs.Running.{Parts}
use Rattle.world_run.proofs.Unfinished.{told_unfinished}
use Rattle.world_run.proofs.world.World.is_unfinished.Goals as goal

pub returns : goal.returns
returns g c =
    let same = ap (λ (parts : Parts g.row.S.Denot g.row.R.Denot). parts.clients) c.self.view_is in
    let read = subst (λ (held : List (Held g.row.R.Denot)). c.index.result.now ≡ get_or held c.args.at c.index.result.now) same c.index.ensures in
    λ seen t is. told_unfinished _ (λ rule. g.R.BoundRule.rules rule) c.args.scripts.now c.args.self.now.clients t is.scripted is.stand c.args.at c.index-scripts-at.result c.as_slice-script.result.now c.index.result.now c.is_unfinished.result c.requires.script c.requires.client c.as_slice-script.ensures read c.is_unfinished.ensures
