use Rattle.std.proofs.Common.{◌≡◌, ◌++◌, map, drop}
use Rattle.std.specs.List.{filter}
use Rattle.mutable_values.specs.meaning.Granting.{is_granted}
use Rattle.server_model.specs.meaning.Core.{sequence_at}
use Rattle.legal_draws.proofs.kept.put_granted.Given as goal

abbrev pub invariant-loop-draw : goal.invariant-loop-draw
invariant-loop-draw l =
    let keeps = is_granted l.grants (map sequence_at l.sequences) in
    map (λ one. one.now) l.granted.items ++ filter keeps (drop l.draw-index l.draws) ≡ map (λ one. one.now) l.fn.granted.items ++ filter keeps l.draws
