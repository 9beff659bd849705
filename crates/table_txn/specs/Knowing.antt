-- What a transaction knows of the places that it read.
use Rattle.std.specs.Prelude.{ℕ, Bool, true, List, Some}
use Rattle.table_txn.specs.declared.known.Known.{Known}
use Rattle.table_txn.specs.declared.known.Known.TheVariants as known
use Rattle.table_txn.specs.Changes.{is_unwritten}

-- each place of the table that was read is known to have what it had
abbrev pub is_known : Known → List ℕ → Bool
is_known known.All table = true
is_known (known.Since changes since) table = is_unwritten changes.now (Some since) table
