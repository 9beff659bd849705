use Rattle.std.proofs.Common.{◌≡◌, take}
use Rattle.svc_values.specs.declared.entry.SessionId.{SessionId}
use Rattle.server_model.specs.meaning.Walk.{number_of}
use Rattle.legal_walk.specs.Counts.{counted}
use Rattle.legal_walk.proofs.counts.counts_of.Given as goal

abbrev pub invariant-loop-entry : goal.invariant-loop-entry
invariant-loop-entry l = (session : SessionId) → counted l.counts session ≡ number_of (take l.entry-index l.entries) session
