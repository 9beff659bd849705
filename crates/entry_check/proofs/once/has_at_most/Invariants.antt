use Rattle.std.proofs.Common.{◌≡◌, drop}
use Rattle.std.specs.Prelude.{nat_le}
use Rattle.std.specs.List.{flat_map}
use Rattle.run_clauses.specs.meaning.Tried.{holds}
use Rattle.entry_check.specs.Once.{known_in}
use Rattle.entry_check.proofs.once.has_at_most.Given as goal

abbrev pub invariant-loop-ids : goal.invariant-loop-ids
invariant-loop-ids l =
    nat_le (known_in (holds l.stored) (flat_map (λ ids. ids) (drop l.ids-index l.lists))) l.left
    ≡ nat_le (known_in (holds l.stored) (flat_map (λ ids. ids) l.lists)) l.most
