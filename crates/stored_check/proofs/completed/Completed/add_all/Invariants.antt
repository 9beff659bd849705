use Rattle.std.proofs.Common.{◌≡◌, drop}
use Rattle.svc_values.specs.declared.entry.Ltxid.{Ltxid}
use Rattle.run_clauses.specs.meaning.Outcomes.{completed_of}
use Rattle.stored_check.specs.Keys.{mark_of, or_else}
use Rattle.stored_check.proofs.completed.Completed.add_all.Given as goal

abbrev pub invariant-loop-entry : goal.invariant-loop-entry
invariant-loop-entry l =
    (x : Ltxid) → or_else (mark_of l.self x) (completed_of (drop l.entry-index l.entries) x) ≡ or_else (mark_of l.initial.self x) (completed_of l.entries x)
