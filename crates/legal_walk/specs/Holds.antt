-- What a transaction read, beside the commits of others. A service keeps which tables its commits
-- have written, and beside a transaction stands how many there were when it began to read.
use Rattle.std.specs.Prelude.{ℕ, List, Option}
use Rattle.table_txn.specs.Changes.{HoldsSince as StandsSince}
use Rattle.table_txn.specs.Readings.{Reading}
use Rattle.legal_walk.specs.declared.service.Service.{Service}

-- what a transaction read of a table is there still where no commit has written the table since it
-- began to
abbrev pub HoldsSince : Service → Option ℕ → List Reading → Type 0
HoldsSince service since readings = StandsSince service.changes service.tables.rows since readings

-- A service later on: that is so there too.
pub record MovesOn (service later : Service) : Type 0 where
  pub on : (since : Option ℕ) (readings : List Reading) → HoldsSince service since readings
      → HoldsSince later since readings
