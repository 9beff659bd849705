-- A session with its open transaction.
use Rattle.std.specs.Prelude.{◌+◌, ℕ, List, [], ◌∷◌, ◌++◌}
use Rattle.svc_values.specs.declared.value.Value.{Value}
use Rattle.svc_values.specs.declared.draw.Draw.{Draw}
use Rattle.svc_values.specs.declared.call.Call.{Call}
use Rattle.svc_values.specs.declared.answer.Answer.{Answer}
use Rattle.svc_values.specs.declared.entry.Ltxid.{Ltxid}
use Rattle.svc_values.specs.declared.entry.Piece.{Piece}
use Rattle.svc_values.specs.declared.entry.Write.{Write}
use Rattle.svc_values.specs.declared.entry.Entry.{Entry}
use Rattle.svc_values.specs.meaning.Calls.{is_lone_commit}
use Rattle.svc_values.specs.declared.tables.PlainRow.{PlainRow}
use Rattle.svc_values.specs.meaning.Identifiers.{session_of, ltxid_of}
use Rattle.svc_values.specs.declared.entry.SessionId.{SessionId}
use Rattle.stmt_meaning.specs.meaning.Meaning.{Meant}
use Rattle.stmt_meaning.specs.meaning.Reads.{Read, reads_at}

-- before its Connect, between requests, in a request, and at its end
pub data Life : Type 0 where
  New : Life
  Idle : Life
  Begun : Life
  Ended : Life

-- `at_start` are the settings before the transaction's first call. `ltxid` is the session's next
-- identifier.
pub record Sess : Type 0 where
  pub ltxid : Ltxid
  pub life : Life
  pub settings : List (List ℕ × Value)
  pub at_start : List (List ℕ × Value)
  pub pieces : List Piece
  pub writes : List Write
  pub reads : List Read

-- a session as it is made
abbrev pub made : SessionId → Sess
made id = record {
  ltxid = ltxid_of id 0;
  life = New;
  settings = [];
  at_start = [];
  pieces = [];
  writes = [];
  reads = [];
}

-- rolled back, with these settings
abbrev pub begun_with : Sess → Life → List (List ℕ × Value) → Sess
begun_with sess life settings = record {
  ltxid = sess.ltxid;
  life = life;
  settings = settings;
  at_start = settings;
  pieces = [];
  writes = [];
  reads = [];
}

-- its transaction is over; the settings stay
abbrev pub dropped : Sess → Sess
dropped sess = begun_with sess sess.life sess.settings

abbrev pub ended : Sess → Sess
ended sess = begun_with sess Ended sess.settings

abbrev pub piece_of : Call → List Answer → List Draw → Piece
piece_of call answers draws = record { call = call; answers = answers; draws = draws }

-- a call becomes a piece
abbrev pub with_piece : Sess → Call → List Answer → List Draw → Sess
with_piece sess call answers draws = record sess {
  pieces =
      sess.pieces ++ piece_of call answers draws ∷ [];
}

-- what a call read and wrote joins the transaction
abbrev pub with_work : Sess → List PlainRow → Meant → Sess
with_work sess committed meant = record sess {
  reads = sess.reads ++ reads_at committed meant.reads;
  writes = sess.writes ++ meant.writes;
}

-- the session after a commit
abbrev pub raised : Sess → Sess
raised sess = record sess { ltxid = ltxid_of (session_of sess.ltxid) (sess.ltxid.number + 1) }

-- what a transaction stores that commits with this call; the session has the call's writes already
abbrev pub entry_of : Sess → Call → List Answer → List Draw → Entry
entry_of sess call answers draws = record {
  ltxid = sess.ltxid;
  completed = is_lone_commit call;
  settings = sess.at_start;
  pieces = sess.pieces ++ piece_of call answers draws ∷ [];
  writes = sess.writes;
}
