-- What is seen of a session.
use Rattle.std.specs.Prelude.{ℕ, Bool, true, false, List, [], Option, Some, None}
use Rattle.svc_values.specs.declared.entry.Ltxid.{Ltxid}
use Rattle.svc_values.specs.meaning.SettingsList.{NamedValues}
use Rattle.stmt_meaning.specs.meaning.Reads.{Read}
use Rattle.table_txn.specs.Transactions.{Transaction, empty}
use Rattle.server_model.specs.Sessions.{Life, New, Ended, Sess}

-- `ltxid` is the session's next identifier, and `at_start` are the settings before the first call
-- of its transaction. `since` is how many commits the core had applied when the transaction began
-- to read, where it has read anything.
pub record SeenSession : Type 0 where
  pub ltxid : Ltxid
  pub life : Life
  pub settings : NamedValues
  pub at_start : NamedValues
  pub txn : Transaction
  pub since : Option ℕ

-- the settings before a transaction's first call, where a call has changed them, and else those of
-- now
abbrev pub started_with : Option NamedValues → NamedValues → NamedValues
started_with None now = now
started_with (Some earlier) now = earlier

-- as it is made
abbrev pub begins : Ltxid → SeenSession
begins ltxid = record {
  ltxid = ltxid;
  life = New;
  settings = [];
  at_start = [];
  txn = empty;
  since = None;
}

-- the plain server's session, which read this
abbrev pub sess_of : SeenSession → List Read → Sess
sess_of seen reads = record {
  ltxid = seen.ltxid;
  life = seen.life;
  settings = seen.settings;
  at_start = seen.at_start;
  pieces = seen.txn.pieces;
  writes = seen.txn.writes;
  reads = reads;
}

abbrev pub is_alive : Life → Bool
is_alive Ended = false
is_alive _ = true

-- rolled back, with these settings
abbrev pub begun_so : SeenSession → Life → NamedValues → SeenSession
begun_so seen life settings = record {
  ltxid = seen.ltxid;
  life = life;
  settings = settings;
  at_start = settings;
  txn = empty;
  since = None;
}

abbrev pub ended_so : SeenSession → SeenSession
ended_so seen = begun_so seen Ended seen.settings
