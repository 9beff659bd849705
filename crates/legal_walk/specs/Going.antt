-- The transactions of sessions, as they are kept and as the walk has them.
use Rattle.std.specs.Prelude.{◌≡◌, ℕ, List, [], ◌∷◌, ◌++◌, None, unwrap_or, IsTrue}
use Rattle.svc_values.specs.Keys.{value_of}
use Rattle.svc_values.specs.declared.entry.Piece.{Piece}
use Rattle.svc_values.specs.declared.entry.SessionId.{SessionId}
use Rattle.svc_values.specs.declared.schema.Schema.{Schema}
use Rattle.svc_values.specs.meaning.Fitting.{writes_fit}
use Rattle.svc_values.specs.meaning.SettingsList.{NamedValues}
use Rattle.table_txn.specs.Readings.{AreReadings}
use Rattle.server_model.specs.meaning.Walk.{Transaction, transaction_in}
use Rattle.calls_again.specs.OnWay.{begun_with}
use Rattle.legal_walk.specs.declared.ongoing.Ongoing.{Ongoing}
use Rattle.legal_walk.specs.declared.service.Service.{Service}
use Rattle.legal_walk.specs.Holds.{HoldsSince}
use Rattle.legal_walk.specs.Counts.{key_of, same_key}

-- one that has called and read nothing
abbrev pub begins_with : NamedValues → Ongoing
begins_with settings = record { going = begun_with settings; since = None }

-- with one more call, as it was told
abbrev pub with_piece : Ongoing → Piece → Ongoing
with_piece one piece = record one {
  going =
      record one.going { pieces = one.going.pieces ++ piece ∷ [] };
}

-- the transaction of a session that was not met has done nothing
abbrev pub ongoing_in : List ((ℕ × ℕ) × Ongoing) → SessionId → Ongoing
ongoing_in ongoings session = unwrap_or (value_of same_key ongoings (key_of session))
    (begins_with [])

-- it is kept with readings in place of reads, and its writes fit what is declared
pub record Goes (schemas : List Schema) (transaction : Transaction) (one : Ongoing) : Type 0 where
  pub settings : one.going.settings ≡ transaction.settings
  pub at_start : one.going.at_start ≡ transaction.at_start
  pub pieces : one.going.pieces ≡ transaction.pieces
  pub writes : one.going.writes ≡ transaction.writes
  pub reads : AreReadings one.going.readings transaction.reads
  pub fits : IsTrue (writes_fit schemas one.going.writes)

-- and what it read of a table that no commit has written since stands in the service
pub record GoesAt (service : Service) (transaction : Transaction) (one : Ongoing) : Type 0 where
  pub goes : Goes service.tables.schemas transaction one
  pub holds : HoldsSince service one.since one.going.readings

abbrev pub AllGo : Service → List (SessionId × Transaction) → List ((ℕ × ℕ) × Ongoing) → Type 0
AllGo service sessions ongoings = (session : SessionId)
    → GoesAt service (transaction_in sessions session) (ongoing_in ongoings session)
