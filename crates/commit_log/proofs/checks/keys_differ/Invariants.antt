use Rattle.std.proofs.Common.{◌≡◌, drop}
use Rattle.svc_values.specs.contracts.value.ValuePartialEq.TheImpl.{eq-value}
use Rattle.commit_log.specs.meaning.Bases.{keys_differ}
use Rattle.svc_values.specs.Keys.{is_key}
use Rattle.commit_log.proofs.Differing.{differ_from}
use Rattle.commit_log.proofs.checks.keys_differ.Given as goal

abbrev pub invariant-loop-row : goal.invariant-loop-row
invariant-loop-row l = differ_from (is_key eq-value.it l.taken) (drop l.row-index l.rows) ≡ keys_differ l.rows
