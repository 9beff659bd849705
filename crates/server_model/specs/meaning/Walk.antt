-- A walk over items: what is committed and where each session's transaction stands, told from the
-- items and the entries alone.
use Rattle.std.specs.Prelude.{ℕ, ◌&&◌, nat_lt, Bool, true, false, not, List, [], ◌∷◌, ◌++◌, filter, length, Option, Some, None, if◌then◌else◌}
use Rattle.std.specs.List.{last_or}
use Rattle.svc_values.specs.declared.value.Value.{Value}
use Rattle.svc_values.specs.declared.draw.Draw.{Draw}
use Rattle.svc_values.specs.declared.call.Call.{Call}
use Rattle.svc_values.specs.declared.answer.Answer.{Answer}
use Rattle.svc_values.specs.declared.answer.Answer.TheVariants as answer
use Rattle.svc_values.specs.declared.entry.Ltxid.{Ltxid}
use Rattle.svc_values.specs.declared.entry.Piece.{Piece}
use Rattle.svc_values.specs.declared.entry.Write.{Write}
use Rattle.svc_values.specs.declared.entry.Entry.{Entry}
use Rattle.svc_values.specs.meaning.Calls.{has_commit}
use Rattle.svc_values.specs.meaning.Endings.{ends_with, ends_committed}
use Rattle.svc_values.specs.declared.tables.PlainRow.{PlainRow}
use Rattle.svc_values.specs.meaning.Tables.{with_writes}
use Rattle.stmt_meaning.specs.meaning.Meaning.{Meant, mean}
use Rattle.stmt_meaning.specs.meaning.Reads.{Read, reads_at}
use Rattle.svc_values.specs.meaning.Identifiers.{is_of, same_ltxid, same_session, ltxid_of}
use Rattle.server_model.specs.meaning.Base.{Base}
use Rattle.svc_values.specs.declared.entry.SessionId.{SessionId}
use Rattle.server_model.specs.meaning.Items.{Outcome, Uncommitted, Thing, Began, Called, MetBlock, TellsOutcome, CallStopped, OutcomeStopped, Item, Did, AskTold, AskStopped}
use Rattle.server_model.specs.meaning.NewValues.{Numbers, numbers_of, opened, kept_by, drawn_by, stopped_in, unseen_in}

-- The calls of a session since its last begin, and since its last answer that ended a transaction:
-- with the settings now and at their start, and with each place that they read beside the rows that
-- were committed there at that moment.
pub record Transaction : Type 0 where
  pub settings : List (List ℕ × Value)
  pub at_start : List (List ℕ × Value)
  pub pieces : List Piece
  pub writes : List Write
  pub reads : List Read

abbrev pub begun : List (List ℕ × Value) → Transaction
begun settings = record {
  settings = settings;
  at_start = settings;
  pieces = [];
  writes = [];
  reads = [];
}

-- `stored` are the entries so far, those of the time before included, and `left` those that are
-- still to come. `blocked` was told uncommitted, or stood blocked at the start; `perhaps` was
-- carried by what a stop left without an answer.
pub record Walk : Type 0 where
  pub committed : List PlainRow
  pub stored : List Entry
  pub left : List Entry
  pub sessions : List (SessionId × Transaction)
  pub blocked : List Ltxid
  pub perhaps : List Ltxid
  pub numbers : Numbers
  -- nothing more can come of this opening: something was stopped in it, or it is that of the base
  pub is_over : Bool

abbrev pub walk_of : Base → List Entry → Walk
walk_of base entries = record {
  committed = base.tables;
  stored = base.entries;
  left = entries;
  sessions = [];
  blocked = base.blocked;
  perhaps = [];
  numbers = numbers_of base;
  is_over = true;
}

-- ---- sessions

abbrev pub transaction_in : List (SessionId × Transaction) → SessionId → Transaction
transaction_in [] session = begun []
transaction_in (first ∷ rest) session = if same_session first.0 session then first.1 else
    transaction_in rest session

abbrev pub with_transaction : List (SessionId × Transaction) → SessionId → Transaction
    → List (SessionId × Transaction)
with_transaction [] session transaction = (session, transaction) ∷ []
with_transaction (first ∷ rest) session transaction =
    if same_session first.0 session then (session, transaction) ∷ rest else first
    ∷ with_transaction rest session transaction

-- the number of the session's entries
abbrev pub number_of : List Entry → SessionId → ℕ
number_of stored session = length (filter (λ entry. is_of
    entry.ltxid session.incarnation session.session) stored)

-- the session's next identifier
abbrev pub next_of : Walk → SessionId → Ltxid
next_of walk session = ltxid_of session (number_of walk.stored session)

-- ---- calls

-- a call that was served, with its answers and draws
pub record Performed : Type 0 where
  pub session : SessionId
  pub now : ℕ
  pub replay : Bool
  pub kept : List Draw
  pub called : Call
  pub answers : List Answer
  pub draws : List Draw

abbrev pub stands : Ltxid → List Entry → Option Piece
stands x [] = None
stands x (entry ∷ more) = if same_ltxid entry.ltxid x then last_or None entry.pieces else None

abbrev pub if_stands : ℕ → SessionId → Call → Option Piece → Option Performed
if_stands now session called None = None
if_stands now session called (Some piece) = Some (record {
  session = session;
  now = now;
  replay = false;
  kept = [];
  called = called;
  answers = piece.answers;
  draws = piece.draws;
})

-- A call that was stopped is as if it had been answered exactly where it is a commit without the
-- mark, and the entry that comes next is its session's next one.
abbrev pub performed_if : Walk → ℕ → SessionId → Bool → Call → Option Performed
performed_if walk now session replay called =
    if has_commit called && not replay then
    if_stands now session called (stands (next_of walk session) walk.left) else None

abbrev pub performed_by : Walk → ℕ → SessionId → Thing → Option Performed
performed_by walk now session (Called replay kept called answers draws) = Some (record {
  session = session;
  now = now;
  replay = replay;
  kept = kept;
  called = called;
  answers = answers;
  draws = draws;
})
performed_by walk now session (CallStopped replay called) =
    performed_if walk now session replay called
performed_by walk now session _ = None

-- what an item did, if it served a call: nothing, a call that means nothing with these draws, or a
-- call with its meaning
pub data Deed : Type 0 where
  Nothing : Deed
  Meaningless : Deed
  Ran : (performed : Performed) (meant : Meant) → Deed

-- the transaction's own writes over what is committed
abbrev pub view : Walk → SessionId → List PlainRow
view walk session = with_writes walk.committed (transaction_in walk.sessions session).writes

abbrev pub meaning : Base → Walk → SessionId → Call → List Draw → Option Meant
meaning base walk session called draws =
    mean base.shape (view walk session) (transaction_in walk.sessions session).settings called draws

abbrev pub with_meaning : Performed → Option Meant → Deed
with_meaning performed None = Meaningless
with_meaning performed (Some meant) = Ran performed meant

abbrev pub deed : Base → Walk → Option Performed → Deed
deed base walk None = Nothing
deed base walk (Some performed) = with_meaning performed
    (meaning base walk performed.session performed.called performed.draws)

abbrev pub deed_of : Base → Walk → Item → Deed
deed_of base walk (Did event now session thing) =
    deed base walk (performed_by walk now session thing)
deed_of base walk (AskTold event x outcome) = Nothing
deed_of base walk (AskStopped event x) = Nothing

-- ---- the walk after an item

abbrev pub is_ending : Answer → Bool
is_ending answer.Committed = true
is_ending answer.Conflict = true
is_ending answer.RolledBack = true
is_ending answer.CommitInReplay = true
is_ending _ = false

-- the answers end a transaction
abbrev pub ends : List Answer → Bool
ends answers = ends_with is_ending answers

-- a transaction with one call more
abbrev pub grown : List PlainRow → Transaction → Performed → Meant → Transaction
grown committed transaction performed meant = record {
  settings = meant.settings;
  at_start = transaction.at_start;
  pieces = transaction.pieces ++ record {
    call = performed.called;
    answers = performed.answers;
    draws = performed.draws;
  } ∷ [];
  writes = transaction.writes ++ meant.writes;
  reads = transaction.reads ++ reads_at committed meant.reads;
}

abbrev pub with_call : Walk → Performed → Meant → Transaction
with_call walk performed meant = grown walk.committed
    (transaction_in walk.sessions performed.session) performed meant

abbrev pub if_ended : Bool → Transaction → Transaction
if_ended true transaction = begun transaction.settings
if_ended false transaction = transaction

-- the entry that comes next is stored
abbrev pub take_entry : List Entry → List Entry → List Entry × List Entry
take_entry stored [] = (stored, [])
take_entry stored (entry ∷ left) = (stored ++ entry ∷ [], left)

abbrev pub if_commits : Bool → Walk → List Write → Walk
if_commits false walk writes = walk
if_commits true walk writes = let taken =
    take_entry walk.stored walk.left in record walk {
      committed = with_writes walk.committed writes;
      stored = taken.0;
      left = taken.1;
    }

abbrev pub or_same : Numbers → Option Numbers → Numbers
or_same numbers None = numbers
or_same numbers (Some after) = after

abbrev pub with_numbers : Base → Walk → Performed → Walk
with_numbers base walk performed = record walk {
  numbers =
      or_same walk.numbers (drawn_by performed.now (kept_by base performed.replay performed.kept)
      performed.draws walk.numbers);
}

abbrev pub after_deed : Base → Walk → Deed → Walk
after_deed base walk Nothing = walk
after_deed base walk Meaningless = walk
after_deed base walk (Ran performed meant) =
    let transaction = with_call walk performed meant in
    let stored = if_commits (ends_committed performed.answers) (with_numbers base walk performed)
    transaction.writes in
    record stored {
      sessions = with_transaction walk.sessions performed.session
          (if_ended (ends performed.answers) transaction);
    }

abbrev pub with_blocked : Walk → Ltxid → Walk
with_blocked walk x = record walk { blocked = x ∷ walk.blocked }

abbrev pub with_perhaps : Walk → Ltxid → Walk
with_perhaps walk x = record walk { perhaps = x ∷ walk.perhaps }

abbrev pub stopped : Walk → Walk
stopped walk = record walk { is_over = true }

abbrev pub if_uncommitted : Walk → Ltxid → Outcome → Walk
if_uncommitted walk x Uncommitted = with_blocked walk x
if_uncommitted walk x _ = walk

-- a stopped call of which no entry stands
abbrev pub if_nothing : Deed → Walk → Call → Walk
if_nothing Nothing walk called = record walk { numbers = stopped_in called walk.numbers }
if_nothing Meaningless walk called = walk
if_nothing (Ran performed meant) walk called = walk

abbrev pub after_thing : Walk → SessionId → Deed → Thing → Walk
after_thing walk session did (Began settings) =
    record walk { sessions = with_transaction walk.sessions session (begun settings) }
after_thing walk session did (MetBlock replay called) =
    record walk { numbers = unseen_in called walk.numbers }
after_thing walk session did (TellsOutcome x outcome) = if_uncommitted walk x outcome
after_thing walk session did (CallStopped replay called) = stopped (if_nothing did walk called)
after_thing walk session did (OutcomeStopped x) = stopped (with_perhaps walk x)
after_thing walk session did _ = walk

-- an item of a later opening comes behind its opening
abbrev pub entered : Walk → Item → Walk
entered walk (Did event now session thing) =
    if nat_lt walk.numbers.incarnation session.incarnation then record walk {
      numbers =
          opened walk.numbers session.incarnation;
      is_over = false;
    } else walk
entered walk (AskTold event x outcome) = walk
entered walk (AskStopped event x) = walk

-- `did` is what the item did on this walk
abbrev pub after : Base → Walk → Item → Deed → Walk
after base walk (Did event now session thing) did =
    after_thing (after_deed base walk did) session did thing
after base walk (AskTold event x outcome) did = if_uncommitted walk x outcome
after base walk (AskStopped event x) did = with_perhaps walk x
