-- What a service begins with, as it is given.
use Rattle.std.specs.Prelude.{◌≡◌}
use Rattle.table_txn.specs.Transactions.{shape_of}
use Rattle.server_model.specs.meaning.Base.{Base}
use Rattle.legal_walk.specs.declared.start.Start.{Start}

-- these are the parts of the base that a walk looks at
pub record IsStart (base : Base) (start : Start) : Type 0 where
  pub shape : base.shape ≡ shape_of start.tables start.names
  pub sequences : base.sequences ≡ start.sequences.items
  pub grants : base.grants ≡ start.grants
  pub tables : base.tables ≡ start.tables.rows
  pub entries : base.entries ≡ start.entries.now
  pub blocked : base.blocked ≡ start.blocked.now
  pub incarnation : base.incarnation ≡ start.incarnation
