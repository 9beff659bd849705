use Rattle.server_model.specs.Seen.{Seen}
use Rattle.world_model.specs.Traced.{Traced}
use Rattle.world_run.specs.Running.{StandBeside}
use Rattle.world_run.proofs.Unfinished.{NoneUpTo}
use Rattle.world_run.proofs.world.World.next_unfinished.Given as goal

abbrev pub invariant-loop-at : goal.invariant-loop-at
invariant-loop-at g l = (seen : Seen) (t : Traced) → StandBeside _ _ g.S.Service.sees (λ rule. g.R.BoundRule.rules rule) l.scripts l.self seen t → NoneUpTo t l.passed l.at
