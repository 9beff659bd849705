use Rattle.std.proofs.Common.{◌≡◌, ◌||◌, drop}
use Rattle.svc_values.specs.declared.entry.Ltxid.{Ltxid}
use Rattle.run_clauses.specs.meaning.Sessions.{outside_sessions, is_foreign}
use Rattle.entry_check.proofs.outside.outside_sessions.Given as goal

abbrev pub invariant-loop-note : goal.invariant-loop-note
invariant-loop-note l = (x : Ltxid) → (is_foreign l.outside x || is_foreign (outside_sessions (drop l.note-index l.notes)) x) ≡ is_foreign (outside_sessions l.notes) x
