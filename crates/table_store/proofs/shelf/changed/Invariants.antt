use Rattle.std.proofs.Common.{◌≡◌, length}
use Rattle.std.specs.Option.{option_copied}
use Rattle.table_store.specs.Indexes.{IsIndexOf, with_row}
use Rattle.table_store.specs.Rows.{keyed_of}
use Rattle.table_store.proofs.Indexed.{Halves}
use Rattle.table_store.proofs.shelf.changed.Given as goal

-- the first indexes are those of the rows with the change, and the others of the rows as they are
abbrev pub invariant-loop-at : goal.invariant-loop-at
invariant-loop-at l =
    (length l.indexes.items ≡ l.at-end) × Halves (IsIndexOf (with_row (keyed_of l.rows) l.key (option_copied l.after))) (IsIndexOf (keyed_of l.rows)) l.at l.indexes.items
