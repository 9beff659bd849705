-- A walk, beside what all sessions of a service share.
use Rattle.std.specs.Prelude.{◌≡◌}
use Rattle.svc_values.specs.declared.entry.Ltxid.{Ltxid}
use Rattle.ltxid_book.specs.meaning.Journal.{is_blocked}
use Rattle.table_txn.specs.Transactions.{shape_of}
use Rattle.server_model.specs.meaning.Base.{Base}
use Rattle.server_model.specs.meaning.Walk.{Walk}
use Rattle.legal_walk.specs.declared.service.Service.{Service}
use Rattle.legal_walk.specs.Holds.{MovesOn}

-- all of the walk but its sessions, and what stays so of the base
pub record Beside (base : Base) (walk : Walk) (service : Service) : Type 0 where
  pub shape : base.shape ≡ shape_of service.tables service.names
  pub sequences : base.sequences ≡ service.sequences.items
  pub grants : base.grants ≡ service.grants
  pub committed : walk.committed ≡ service.tables.rows
  pub stored : walk.stored ≡ service.ledger.stored
  pub left : walk.left ≡ service.ledger.left
  pub blocked : (x : Ltxid) → is_blocked walk.blocked x ≡ is_blocked service.blocked x
  pub perhaps : (x : Ltxid) → is_blocked walk.perhaps x ≡ is_blocked service.perhaps x
  pub numbers : walk.numbers ≡ service.numbers
  pub over : walk.is_over ≡ service.is_over

-- a service moves as each walk beside it does, with the same tables declared
pub record Moves (old : Service) (step : Walk → Walk) (new : Service) : Type 0 where
  pub schemas : new.tables.schemas ≡ old.tables.schemas
  pub on : MovesOn old new
  pub beside : (base : Base) (walk : Walk) → Beside base walk old → Beside base (step walk) new
