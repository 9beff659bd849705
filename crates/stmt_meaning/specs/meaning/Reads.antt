-- What a transaction read, each place with the rows that were committed there at that moment.
use Rattle.std.specs.Prelude.{List, map}
use Rattle.svc_values.specs.declared.tables.PlainRow.{PlainRow}
use Rattle.svc_values.specs.declared.tables.Place.{Place}
use Rattle.svc_values.specs.meaning.Tables.{rows_at}

-- A place was read, and these rows were committed there: the row of its key or none, or all rows of
-- the table in order of key.
pub record Read : Type 0 where
  pub at : Place
  pub found : List PlainRow

-- a read of the place at the moment of these committed rows
abbrev pub read_at : List PlainRow → Place → Read
read_at committed at = record { at = at; found = rows_at committed at }

-- places that are read at one moment
abbrev pub reads_at : List PlainRow → List Place → List Read
reads_at committed places = map (read_at committed) places
