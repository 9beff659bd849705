-- What a session's transaction read, beside the commits of others. A core keeps which tables its
-- commits have written, and a session how many there were when its transaction began to read.
use Rattle.std.specs.Prelude.{ℕ, List, Option}
use Rattle.table_txn.specs.Changes.{HoldsSince as StandsSince}
use Rattle.table_txn.specs.Readings.{Reading}
use Rattle.server_session.specs.declared.shared.Core.{Core}

-- what a transaction read of a table is there still where no commit has written the table since it
-- began to
abbrev pub HoldsSince : Core → Option ℕ → List Reading → Type 0
HoldsSince core since readings = StandsSince core.changes core.tables.rows since readings

-- A core later on: that is so there too.
pub record MovesOn (core later : Core) : Type 0 where
  pub on : (since : Option ℕ) (readings : List Reading) → HoldsSince core since readings
      → HoldsSince later since readings
