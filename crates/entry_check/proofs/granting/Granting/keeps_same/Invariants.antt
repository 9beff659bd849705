use Rattle.std.proofs.Common.{◌≡◌, drop}
use Rattle.std.specs.List.{filter}
use Rattle.svc_values.specs.meaning.Same.{same_draws}
use Rattle.entry_check.specs.InnerGranting.{keeps}
use Rattle.entry_check.proofs.granting.Granting.keeps_same.Given as goal

abbrev pub invariant-loop-draw : goal.invariant-loop-draw
invariant-loop-draw l =
    let kept = keeps l.self.kinds l.self.sequences.now in
    same_draws (filter kept (drop l.draw-index l.left)) (filter kept l.rest) ≡ same_draws (filter kept l.left) (filter kept l.right)
