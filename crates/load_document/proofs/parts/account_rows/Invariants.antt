use Rattle.std.proofs.Common.{◌≡◌, ◌++◌, ◌-◌, ◌≤◌}
use Rattle.load_document.specs.meaning.Loads.{accounts_from}
use Rattle.load_document.proofs.parts.account_rows.Given as goal

abbrev pub invariant-loop-number : goal.invariant-loop-number
invariant-loop-number l = (l.rows.items ++ accounts_from (16 - l.number) l.number ≡ accounts_from 16 0) × (l.number ≤ 16)
