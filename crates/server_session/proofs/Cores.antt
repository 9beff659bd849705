-- A core fits its disk with one record more.
use Rattle.std.proofs.Common.{◌≡◌, ℕ, ◌+◌, ◌&&◌, Bool, true, false, List, [], ◌∷◌, refl, sym, ◌∙◌, ap, subst, arith}
use Rattle.std.proofs.lemmas.Bool.{le-leb}
use Rattle.std.proofs.lemmas.Bool.Decides.{nat_tests}
use Rattle.std.specs.Prelude.{IsTrue, Result, Ok, Err, nat_le, if◌then◌else◌}
use Rattle.disk_model.specs.Disk.{DiskState}
use Rattle.redo_store.specs.declared.fault.RedoFault.{RedoFault}
use Rattle.redo_store.specs.declared.fault.RedoFault.TheVariants as log_fault
use Rattle.svc_values.specs.declared.entry.Entry.{Entry}
use Rattle.svc_values.specs.declared.entry.Ltxid.{Ltxid}
use Rattle.svc_values.specs.meaning.Fitting.{writes_fit}
use Rattle.svc_values.specs.meaning.Identifiers.{is_of}
use Rattle.svc_values.specs.meaning.Tables.{with_writes}
use Rattle.ltxid_book.specs.declared.State.{State}
use Rattle.ltxid_book.specs.meaning.Sessions.{Sessions, may_commit as may_note}
use Rattle.ltxid_book.specs.Sessions.{Contents, sessions_in, after_commit, after_block}
use Rattle.table_store.specs.Stored.{Stored}
use Rattle.commit_log.specs.declared.journal.Journal.{Journal}
use Rattle.commit_log.specs.declared.log.Log.{Log}
use Rattle.commit_log.specs.declared.records.Record.{Record}
use Rattle.commit_log.specs.declared.records.Record.TheVariants as kept
use Rattle.commit_log.specs.Adds.{Adds, MayAdd}
use Rattle.commit_log.specs.Logs.{Trails}
use Rattle.commit_log.specs.meaning.Bases.{schemas_of, start_of}
use Rattle.commit_log.specs.meaning.Journals.{journal_in, journal_of}
use Rattle.commit_log.specs.meaning.Rules.{may_block, may_commit, with_record}
use Rattle.commit_log.proofs.Offered.{may_beside, notes_commit, block_beside, notes_block}
use Rattle.server_model.specs.declared.fault.ServeFault.{ServeFault}
use Rattle.server_model.specs.declared.fault.ServeFault.TheVariants as fault
use Rattle.server_session.specs.declared.shared.Core.{Core}
use Rattle.table_txn.specs.Changes.{Written, HasNoted}
use Rattle.svc_values.specs.Tables.{AreTables}
use Rattle.server_session.specs.Holds.{MovesOn}
use Rattle.server_session.specs.Fits.{Fits, Belongs, tables_of}
use Rattle.server_session.specs.Leaving.{StaysTrue, StillEnds}
use Rattle.server_session.specs.SeenSession.{SeenSession}
use Rattle.server_session.specs.Serving.{HasLacked}
use Rattle.server_session.specs.Stored.{stored_as}
use Rattle.server_session.specs.Storing.{HasStored, Stores}
use Rattle.server_session.proofs.Holding.{moves_none, moves_one}
use Rattle.server_session.proofs.Gaining.{gained_one, halted_one}
use Rattle.server_session.proofs.Plains.{reads_more, tables_with-more}

-- the journal that a disk reads as is one
pub same_journal : (image : List ℕ) (a b : Journal) → journal_of image ≡ Ok a → journal_of image ≡ Ok b → a ≡ b
same_journal image a b first second = let e : ◌≡◌ {A = Result Journal ℕ} (Ok a) (Ok b) = sym first ∙ second in cc

-- ---- by what the log answers

answered_ok : (answer : Result (Unit {0}) RedoFault) → ◌≡◌ {A = Result (Unit {0}) ServeFault} (Ok tt) (stored_as answer) → answer ≡ Ok tt
answered_ok (Ok tt) e = refl
answered_ok (Err log_fault.NoMemory) e = absurd (let clash : ◌≡◌ {A = Result (Unit {0}) ServeFault} (Ok tt) (Err fault.NoMemory) = e in cc)
answered_ok (Err log_fault.Stopped) e = absurd (let clash : ◌≡◌ {A = Result (Unit {0}) ServeFault} (Ok tt) (Err fault.Stopped) = e in cc)
answered_ok (Err (log_fault.Damaged place)) e = absurd (let clash : ◌≡◌ {A = Result (Unit {0}) ServeFault} (Ok tt) (Err fault.NoMemory) = e in cc)

-- the record was added
pub was_added : (log : Log) (disk end : DiskState) (one : Record) (answer : Result (Unit {0}) RedoFault) → ◌≡◌ {A = Result (Unit {0}) ServeFault} (Ok tt) (stored_as answer) → Adds answer log disk end one → Adds (Ok tt) log disk end one
was_added log disk end one answer told adds = subst (λ (a : Result (Unit {0}) RedoFault). Adds a log disk end one) (answered_ok answer told) adds

-- and then there was no memory
pub lacks_with : (log : Log) (disk end : DiskState) (one : Record) → Adds (Ok tt) log disk end one → HasLacked 1 disk end
lacks_with log disk end one adds = record { records = one ∷ []; few = omega arith; moments = adds.any_moment; faults = adds.cause.uncounted (λ e. cc) }

-- a core whose log was stopped, and which has not changed otherwise
pub stays_true : (core : Core) (disk end : DiskState) (log : Log) → Fits core disk → StillEnds log disk end → StaysTrue core (record core { log = log }) end
stays_true core disk end log fits ends = record {
  front = λ image left. record {
    journal = fits.journal;
    of_journal = record { tables = fits.tables; book = fits.book; source = fits.source; sequences = fits.sequences };
    trails = subst (λ (j : Journal). Trails true true j log image) (same_journal disk.now.seen fits.log.journal fits.journal (ap journal_in fits.log.so_far) fits.reads) (ends fits.log.journal fits.log.so_far image left);
  };
  grants = refl;
}

-- the record was not added
pub fault_stores : (core : Core) (disk : DiskState) (one : Record) (log : Log) (end : DiskState) (answer : Result (Unit {0}) RedoFault) (error : ServeFault) → Fits core disk → ◌≡◌ {A = Result (Unit {0}) ServeFault} (Err error) (stored_as answer)
    → Adds answer log disk end one → Stores one (Err error) core disk (record core { log = log }) end
fault_stores core disk one log end (Ok done) error fits e adds = absurd (let clash : ◌≡◌ {A = Result (Unit {0}) ServeFault} (Err error) (Ok done) = e in cc)
fault_stores core disk one log end (Err log_fault.NoMemory) error fits e adds =
    let same : error ≡ fault.NoMemory = (let both : ◌≡◌ {A = Result (Unit {0}) ServeFault} (Err error) (Err fault.NoMemory) = e in cc) in
    rw same (record { records = one ∷ []; few = omega arith; moments = adds.any_moment; faults = adds.cause.uncounted (λ e. cc) })
fault_stores core disk one log end (Err log_fault.Stopped) error fits e adds =
    let same : error ≡ fault.Stopped = (let both : ◌≡◌ {A = Result (Unit {0}) ServeFault} (Err error) (Err fault.Stopped) = e in cc) in
    rw same (halted_one core.log log disk end one fits.log adds, stays_true core disk end log fits (adds.trails refl))
fault_stores core disk one log end (Err (log_fault.Damaged place)) error fits e adds = absurd adds.goes_on

-- ---- a line

pub may_line : (disk : DiskState) (line : List ℕ) → MayAdd disk (kept.Alert line)
may_line disk line journal reads = refl

pub line_stores : (core : Core) (disk : DiskState) (line : List ℕ) (log : Log) (end : DiskState) (answer : Result (Unit {0}) RedoFault) → Fits core disk
    → Adds answer log disk end (kept.Alert line) → Stores (kept.Alert line) (stored_as answer) core disk (record core { log = log }) end
line_stores core disk line log end (Ok done) fits adds = record {
  gained = gained_one log disk end (kept.Alert line) adds;
  fits = record {
    log = adds.goes_on;
    journal = with_record fits.journal (kept.Alert line);
    reads = reads_more disk.now.seen end.now.seen fits.journal (kept.Alert line) fits.reads adds.added;
    tables = fits.tables;
    book = record { sessions = fits.book.sessions; blocks = fits.book.blocks };
    source = record { incarnation = fits.source.incarnation; sequences = fits.source.sequences };
    sequences = fits.sequences;
    current = fits.current;
  };
  book = refl;
  schemas = refl;
  moves = moves_none core _ refl refl;
  source = refl;
  grants = refl;
}
line_stores core disk line log end (Err log_fault.NoMemory) fits adds = fault_stores core disk (kept.Alert line) log end (Err log_fault.NoMemory) fault.NoMemory fits refl adds
line_stores core disk line log end (Err log_fault.Stopped) fits adds = fault_stores core disk (kept.Alert line) log end (Err log_fault.Stopped) fault.Stopped fits refl adds
line_stores core disk line log end (Err (log_fault.Damaged place)) fits adds = absurd adds.goes_on

-- ---- a block

pub may_be_blocked : (core : Core) (disk : DiskState) (x : Ltxid) → Fits core disk → IsTrue (may_note (sessions_in core.book) x) → MayAdd disk (kept.Blocked x)
may_be_blocked core disk x fits may journal reads =
    let same : fits.journal ≡ journal = same_journal disk.now.seen fits.journal journal fits.reads reads in
    subst (λ (j : Journal). IsTrue (may_block j x)) same (sym (block_beside core.book fits.journal x fits.book) ∙ may)

pub block_stores : (core : Core) (disk : DiskState) (x : Ltxid) (book : Contents) (log : Log) (end : DiskState) → Fits core disk → IsTrue (may_note (sessions_in core.book) x) → sessions_in book ≡ after_block (sessions_in core.book) x
    → Adds (Ok tt) log disk end (kept.Blocked x) → HasStored (kept.Blocked x) core disk (record core { book = book; log = log }) end
block_stores core disk x book log end fits may says adds =
    let stands = notes_block core.book book fits.journal x fits.book may says in
    record {
      gained = gained_one log disk end (kept.Blocked x) adds;
      fits = record {
        log = adds.goes_on;
        journal = with_record fits.journal (kept.Blocked x);
        reads = reads_more disk.now.seen end.now.seen fits.journal (kept.Blocked x) fits.reads adds.added;
        tables = fits.tables;
        book = stands;
        source = record { incarnation = fits.source.incarnation; sequences = fits.source.sequences };
        sequences = fits.sequences;
        current = fits.current;
      };
      book = says;
      schemas = refl;
      moves = moves_none core _ refl refl;
      source = refl;
      grants = refl;
    }

-- ---- a commit

all_three : (a b c : Bool) → a ≡ true → b ≡ true → c ≡ true → (a && (b && c)) ≡ true
all_three a b c first second third = rw (first, second, third) refl

pub may_be_stored : (core : Core) (disk : DiskState) (entry : Entry) → Fits core disk → entry.ltxid.incarnation ≡ core.source.incarnation
    → IsTrue (may_note (sessions_in core.book) entry.ltxid) → IsTrue (writes_fit core.tables.schemas entry.writes) → MayAdd disk (kept.Commit entry)
may_be_stored core disk entry fits here may writes journal reads =
    let same : fits.journal ≡ journal = same_journal disk.now.seen fits.journal journal fits.reads reads in
    let now : entry.ltxid.incarnation ≡ fits.journal.incarnation = here ∙ fits.source.incarnation in
    let within : nat_le entry.ltxid.incarnation fits.journal.incarnation ≡ true = le-leb entry.ltxid.incarnation fits.journal.incarnation (omega (arith, now)) in
    let fit : writes_fit (schemas_of fits.journal.base) entry.writes ≡ true = ap (λ (t : Stored). writes_fit t.schemas entry.writes) (sym fits.tables) ∙ writes in
    subst (λ (j : Journal). IsTrue (may_commit j entry)) same
    (may_beside core.book fits.journal entry fits.book ∙ all_three (nat_le entry.ltxid.incarnation fits.journal.incarnation) (may_note (sessions_in core.book) entry.ltxid) (writes_fit (schemas_of fits.journal.base) entry.writes) within may fit)

pub tables_after : (core : Core) (journal : Journal) (entry : Entry) (tables : Stored) → core.tables ≡ tables_of journal
    → tables ≡ record { schemas = core.tables.schemas; rows = with_writes core.tables.rows entry.writes } → tables ≡ tables_of (with_record journal (kept.Commit entry))
tables_after core journal entry tables are is =
    is ∙ (λ i. record { schemas = (are i).schemas; rows = with_writes (are i).rows entry.writes })
    ∙ (λ i. record { schemas = schemas_of journal.base; rows = sym (tables_with-more (start_of journal.base) journal.entries entry) i })

pub commit_stores : (core : Core) (disk : DiskState) (entry : Entry) (tables : Stored) (changes : Written) (book : Contents) (log : Log) (end : DiskState) → Fits core disk
    → IsTrue (may_note (sessions_in core.book) entry.ltxid) → sessions_in book ≡ after_commit (sessions_in core.book) entry.ltxid entry.completed
    → tables ≡ record { schemas = core.tables.schemas; rows = with_writes core.tables.rows entry.writes }
    → AreTables core.tables.rows → HasNoted core.changes entry.writes changes → Adds (Ok tt) log disk end (kept.Commit entry) → HasStored (kept.Commit entry) core disk (record core { tables = tables; changes = changes; book = book; log = log }) end
commit_stores core disk entry tables changes book log end fits may says wrote ordered noted adds =
    let stands = notes_commit core.book book fits.journal entry fits.book may says in
    record {
      gained = gained_one log disk end (kept.Commit entry) adds;
      fits = record {
        log = adds.goes_on;
        journal = with_record fits.journal (kept.Commit entry);
        reads = reads_more disk.now.seen end.now.seen fits.journal (kept.Commit entry) fits.reads adds.added;
        tables = tables_after core fits.journal entry tables fits.tables wrote;
        book = stands;
        source = record { incarnation = fits.source.incarnation; sequences = fits.source.sequences };
        sequences = fits.sequences;
        current = fits.current;
      };
      book = says;
      schemas = ap (λ (t : Stored). t.schemas) wrote;
      moves = moves_one core _ entry.writes ordered noted (ap (λ (t : Stored). t.rows) wrote);
      source = refl;
      grants = refl;
    }

-- ---- the numbers of sessions

own_block : (sessions : Sessions) (x : Ltxid) (incarnation session : ℕ) (own : Bool) → is_of x incarnation session ≡ own
    → (if own then (let s : State = record (sessions.state x.incarnation x.session) { blocked = true } in s) else sessions.state incarnation session).next ≡ (sessions.state incarnation session).next
own_block sessions x incarnation session true is =
    let i : x.incarnation ≡ incarnation = grind (arith, nat_tests) in
    let s : x.session ≡ session = grind (arith, nat_tests) in
    λ k. (sessions.state (i k) (s k)).next
own_block sessions x incarnation session false is = refl

-- a block leaves every session its number
pub next_blocked : (sessions : Sessions) (x : Ltxid) (incarnation session : ℕ) → ((after_block sessions x).state incarnation session).next ≡ (sessions.state incarnation session).next
next_blocked sessions x incarnation session = own_block sessions x incarnation session (is_of x incarnation session) refl

-- a commit leaves every other session its number
pub next_other : (sessions : Sessions) (x : Ltxid) (completed : Bool) (incarnation session : ℕ) → is_of x incarnation session ≡ false → ((after_commit sessions x completed).state incarnation session).next ≡ (sessions.state incarnation session).next
next_other sessions x completed incarnation session is = rw is refl

-- and raises that of its own
pub next_own : (sessions : Sessions) (x : Ltxid) (completed : Bool) → ((after_commit sessions x completed).state x.incarnation x.session).next ≡ x.number + 1
next_own sessions x completed =
    let own : is_of x x.incarnation x.session ≡ true = grind (arith, nat_tests) in
    rw own refl

-- a session belongs to a core whose book has its number still
pub belongs_with : (core later : Core) (seen : SeenSession) → later.tables.schemas ≡ core.tables.schemas → MovesOn core later → later.source.incarnation ≡ core.source.incarnation
    → ((sessions_in later.book).state seen.ltxid.incarnation seen.ltxid.session).next ≡ ((sessions_in core.book).state seen.ltxid.incarnation seen.ltxid.session).next
    → Belongs core seen → Belongs later seen
belongs_with core later seen schemas moves incarnation next belongs = record {
  incarnation = belongs.incarnation ∙ sym incarnation;
  number = belongs.number ∙ sym next;
  writes = ap (λ s. writes_fit s seen.txn.writes) schemas ∙ belongs.writes;
  calls = belongs.calls;
  holds = moves.on seen.since seen.txn.readings belongs.holds;
}
