use Rattle.std.proofs.Common.{◌≡◌, [], ◌∷◌, ◌++◌, drop}
use Rattle.svc_values.specs.declared.entry.Ltxid.{Ltxid}
use Rattle.run_clauses.specs.meaning.Once.{entries_in}
use Rattle.entry_check.proofs.Placing.{placed}
use Rattle.entry_check.proofs.stored.Stored.new.Given as goal

abbrev pub invariant-loop-at : goal.invariant-loop-at
invariant-loop-at l = (x : Ltxid) → placed l.entries l.places x ++ entries_in (drop l.at l.entries) (x ∷ []) ≡ entries_in l.entries (x ∷ [])
