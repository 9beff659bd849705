use Rattle.std.proofs.Common.{◌≡◌, List, ◌++◌, take, drop}
use Rattle.svc_values.specs.declared.draw.Draw.{Draw}
use Rattle.serial_check.specs.meaning.Places.{draws_again}
use Rattle.serial_check.specs.Given.{Keeps}
use Rattle.serial_check.proofs.fresh.one_again.Given as goal

abbrev pub invariant-loop-draw : goal.invariant-loop-draw
invariant-loop-draw l =
    (before : List Draw) → Keeps l.initial.kept before
    → Keeps l.kept (before ++ take l.draw-index l.draws) × (draws_again before l.draws ≡ draws_again (before ++ take l.draw-index l.draws) (drop l.draw-index l.draws))
