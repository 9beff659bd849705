-- What a transaction read, each place with the rows that were committed there at that moment.
-- Here is what contracts and proofs say of it besides.
use Rattle.std.specs.Prelude.{◌≡◌, List, Option, Some, None, All, Contains}
use Rattle.svc_values.specs.declared.tables.PlainRow.{PlainRow}
use Rattle.svc_values.specs.declared.tables.Place.{Place}
use Rattle.svc_values.specs.meaning.Tables.{rows_at}
use Rattle.stmt_meaning.specs.meaning.Reads.{Read}

-- each place that was read has the rows now that were found there
abbrev pub ReadsStand : List Read → List PlainRow → Type 0
ReadsStand reads now = All (λ read. rows_at now read.at ≡ read.found) reads

-- something else is committed now at a place that was read
abbrev pub HasChanged : List PlainRow → Read → Type 0
HasChanged now read = (rows_at now read.at ≡ read.found) → ⊥

-- some place that was read has other rows now
abbrev pub ReadsDiffer : List Read → List PlainRow → Type 0
ReadsDiffer reads now = (read : Read) × (Contains reads read × HasChanged now read)

-- A transaction with these reads conflicts with the tables of now exactly where one of its places
-- has other rows now than it had at the read. The answer is such a place.
abbrev pub IsConflict : List Read → List PlainRow → Option Place → Type 0
IsConflict reads now None = ReadsStand reads now
IsConflict reads now (Some at) = (read : Read)
    × (Contains reads read × ((read.at ≡ at) × HasChanged now read))
