use Rattle.std.proofs.Common.{◌≡◌, List, ◌++◌, take, drop}
use Rattle.std.specs.List.{flat_map}
use Rattle.svc_values.specs.declared.draw.Draw.{Draw}
use Rattle.server_model.specs.meaning.Fresh.{draws_in}
use Rattle.serial_check.specs.meaning.Places.{fresh_pieces}
use Rattle.serial_check.specs.Given.{Keeps}
use Rattle.serial_check.proofs.fresh.failing_piece.Given as goal

abbrev pub invariant-loop-p : goal.invariant-loop-p
invariant-loop-p l =
    (before : List Draw) → Keeps l.initial.kept before
    → Keeps l.kept (before ++ flat_map draws_in (take l.p l.pieces)) × (fresh_pieces before l.n 0 l.pieces ≡ fresh_pieces (before ++ flat_map draws_in (take l.p l.pieces)) l.n l.p (drop l.p l.pieces))
