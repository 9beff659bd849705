-- Parts of a step of the walk, as the code takes them.
use Rattle.std.specs.Prelude.{◌||◌, nat_lt, Bool, false, if◌then◌else◌}
use Rattle.svc_values.specs.declared.call.Call.{Call}
use Rattle.svc_values.specs.declared.entry.Ltxid.{Ltxid}
use Rattle.svc_values.specs.declared.entry.Piece.{Piece}
use Rattle.svc_values.specs.declared.entry.SessionId.{SessionId}
use Rattle.ltxid_book.specs.meaning.Journal.{is_blocked}
use Rattle.server_model.specs.meaning.NewValues.{opened, stopped_in, unseen_in}
use Rattle.server_model.specs.meaning.Walk.{Walk, Performed}
use Rattle.legal_walk.specs.declared.performed.Performed.{Performed as PerformedAt}

-- a session of a later opening comes behind its opening
abbrev pub entered_at : Walk → SessionId → Walk
entered_at walk session = if nat_lt walk.numbers.incarnation session.incarnation then
    record walk { numbers = opened walk.numbers session.incarnation; is_over = false } else walk

-- the identifier is or may be blocked
abbrev pub may_block : Walk → Ltxid → Bool
may_block walk x = is_blocked walk.blocked x || is_blocked walk.perhaps x

-- a stopped call of which no entry stands
abbrev pub stopped_at : Walk → Call → Walk
stopped_at walk called = record walk { numbers = stopped_in called walk.numbers }

-- a call that met a block
abbrev pub passed : Walk → Call → Walk
passed walk called = record walk { numbers = unseen_in called walk.numbers }

-- the call with its answers and draws
abbrev pub piece_of : PerformedAt → Piece
piece_of one = record { call = one.call.now; answers = one.answers.now; draws = one.draws.now }

abbrev pub performed_as : PerformedAt → Performed
performed_as one = record {
  session = one.session;
  now = one.now;
  replay = one.replay;
  kept = one.kept.now;
  called = one.call.now;
  answers = one.answers.now;
  draws = one.draws.now;
}
