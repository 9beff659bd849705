-- What is told of an identifier, and its block.
use Rattle.std.proofs.Common.{◌≡◌, inl, inr, ℕ, ◌+◌, ◌==◌, ◌&&◌, Bool, true, false, not, List, [], ◌∷◌, map, refl, sym, ◌∙◌, ap, subst, arith}
use Rattle.std.specs.Prelude.{IsTrue, IfOk, Err, nat_lt, if◌then◌else◌}
use Rattle.disk_model.specs.Disk.{DiskState}
use Rattle.svc_values.specs.declared.entry.Ltxid.{Ltxid}
use Rattle.ltxid_book.specs.declared.State.{State}
use Rattle.ltxid_book.specs.declared.verdict.Verdict.{Verdict}
use Rattle.ltxid_book.specs.declared.verdict.Verdict.TheVariants as verdict
use Rattle.ltxid_book.specs.meaning.Journal.{committed_of, book_of}
use Rattle.ltxid_book.specs.meaning.Outcomes.{outcome_in, verdict_of}
use Rattle.ltxid_book.specs.meaning.Sessions.{Sessions, may_commit, can_commit, is_forgotten}
use Rattle.ltxid_book.specs.Sessions.{sessions_in}
use Rattle.mutable_values.specs.Sources.{Opening}
use Rattle.commit_log.specs.declared.journal.Journal.{Journal}
use Rattle.commit_log.specs.declared.records.Record.{Record}
use Rattle.commit_log.specs.declared.records.Record.TheVariants as kept
use Rattle.commit_log.specs.meaning.Journals.{journal_of}
use Rattle.commit_log.specs.meaning.Rules.{sessions_of, with_record}
use Rattle.server_model.specs.Core.{Core as Plain, book}
use Rattle.server_model.specs.meaning.Outcomes.{Stopped}
use Rattle.server_model.specs.Outcomes.{with_block, if_blocks, verdict_on, Outcomes, BlockStops}
use Rattle.server_session.specs.declared.shared.Core.{Core}
use Rattle.server_model.specs.declared.fault.ServeFault.{ServeFault}
use Rattle.server_model.specs.declared.fault.ServeFault.TheVariants as fault
use Rattle.server_session.specs.Adding.{HasHalted, IsLeftOf}
use Rattle.server_session.specs.Fits.{Fits}
use Rattle.server_session.specs.Plain.{IsStored, IsPlain}
use Rattle.server_session.specs.Storing.{HasStored, Stores, HasTold, HasStoppedTelling, StopsTelling, Tells}
use Rattle.server_session.proofs.Cores.{belongs_with, next_blocked}
use Rattle.server_session.proofs.Gaining.{gained_none, grown_left}
use Rattle.server_session.proofs.Plains.{is_stored, reads_stored, reads_same, reads_more, stored_block}

-- the plain server's book is that of the core
pub plain_book : (plain : Plain) (journal : Journal) → IsStored plain journal → book plain ≡ sessions_of journal
plain_book plain journal is = λ i. book_of (is.horizon i) (map committed_of (is.entries i)) (is.blocked i)

pub same_verdict : (plain : Plain) (core : Core) (disk : DiskState) (x : Ltxid) → Fits core disk → IsPlain plain core disk → verdict_on plain x ≡ verdict_of (sessions_in core.book) x
same_verdict plain core disk x fits is = ap (λ (s : Sessions). verdict_of s x) (plain_book plain fits.journal (is_stored plain core disk fits is) ∙ sym fits.book.sessions)

-- ---- an identifier that is to be blocked may be blocked

never : (d e f : Bool) (state : State) → (if d then verdict.AlreadyBlocked else (if e then verdict.Committed state.completed else (if f then verdict.ServerAhead state.next else verdict.ClientAhead state.next))) ≡ verdict.BlockIt → ⊥
never true e f state is = cc
never false true f state is = cc
never false false true state is = cc
never false false false state is = cc

by_state : (b d e f : Bool) (state : State)
    → (if b then verdict.BlockIt else (if d then verdict.AlreadyBlocked else (if e then verdict.Committed state.completed else (if f then verdict.ServerAhead state.next else verdict.ClientAhead state.next)))) ≡ verdict.BlockIt → b ≡ true
by_state true d e f state is = refl
by_state false d e f state is = absurd (never d e f state is)

by_horizon : (sessions : Sessions) (x : Ltxid) (gone : Bool) → (if gone then verdict.Forgotten sessions.horizon else outcome_in (sessions.state x.incarnation x.session) x.number) ≡ verdict.BlockIt → (not gone && can_commit sessions x) ≡ true
by_horizon sessions x true is = absurd (let none : ⊥ = cc in none)
by_horizon sessions x false is =
    let state = sessions.state x.incarnation x.session in
    by_state ((x.number == state.next) && not state.blocked) ((x.number == state.next) && state.blocked) (x.number + 1 == state.next) (nat_lt (x.number + 1) state.next) state is

pub may_block : (sessions : Sessions) (x : Ltxid) → verdict_of sessions x ≡ verdict.BlockIt → IsTrue (may_commit sessions x)
may_block sessions x is = by_horizon sessions x (is_forgotten sessions x.incarnation) is

-- ---- the plain server goes on

-- a core with one record more, beside a plain one
pub plain_with : (plain after : Plain) (one : Record) (core : Core) (disk : DiskState) (later : Core) (end : DiskState) (fits : Fits core disk) → HasStored one core disk later end → IsPlain plain core disk
    → after.opening ≡ plain.opening → after.base.grants ≡ plain.base.grants → IsStored after (with_record fits.journal one) → IsPlain after later end
plain_with plain after one core disk later end fits stored is opening grants stands = record {
  stored = reads_stored after end.now.seen (with_record fits.journal one) (reads_more disk.now.seen end.now.seen fits.journal one fits.reads stored.gained.added) stands;
  opening = opening ∙ is.opening ∙ sym stored.source;
  grants = grants ∙ is.grants ∙ sym stored.grants;
}

unblocked : (told : Verdict) (plain : Plain) (x : Ltxid) → (told ≡ verdict.BlockIt → ⊥) → plain ≡ if_blocks told plain x
unblocked verdict.BlockIt plain x other = absurd (other refl)
unblocked verdict.AlreadyBlocked plain x other = refl
unblocked (verdict.Committed completed) plain x other = refl
unblocked (verdict.ServerAhead next) plain x other = refl
unblocked (verdict.ClientAhead next) plain x other = refl
unblocked (verdict.Forgotten horizon) plain x other = refl

-- nothing is to be blocked
pub tells_as_it_is : (x : Ltxid) (told : Verdict) (core : Core) (disk : DiskState) → Fits core disk → told ≡ verdict_of (sessions_in core.book) x → (told ≡ verdict.BlockIt → ⊥) → HasTold x told core disk core disk
tells_as_it_is x told core disk fits is other = record {
  verdict = is;
  records = [];
  few = omega arith;
  gained = gained_none disk;
  fits = fits;
  belongs = λ seen belongs. belongs;
  steps = λ plain stands. (same_verdict plain core disk x fits stands ∙ sym is, subst (λ (after : Plain). IsPlain after core disk) (unblocked told plain x other) stands);
  fronts = λ some. absurd (some refl);
}

-- the block was stopped, and stands or not
stops_by : (x : Ltxid) (core : Core) (disk : DiskState) (plain : Plain) (image : List ℕ) (fits : Fits core disk) → verdict_on plain x ≡ verdict.BlockIt → IsStored plain fits.journal → IsLeftOf disk.now.seen [] (kept.Blocked x) image
    → (after : Plain) × (IfOk (journal_of image) (IsStored after) × Outcomes plain x after Stopped)
stops_by x core disk plain image fits is stands (inl none) =
    (plain, (reads_stored plain image fits.journal (reads_same disk.now.seen image fits.journal fits.reads none) stands, BlockStops plain is (inl refl)))
stops_by x core disk plain image fits is stands (inr one) =
    (with_block plain x, (reads_stored (with_block plain x) image (with_record fits.journal (kept.Blocked x)) (reads_more disk.now.seen image fits.journal (kept.Blocked x) fits.reads one) (stored_block plain fits.journal x stands), BlockStops (with_block plain x) is (inr refl)))

block_fronts : (x : Ltxid) (core : Core) (disk : DiskState) → Fits core disk → verdict.BlockIt ≡ verdict_of (sessions_in core.book) x → StopsTelling x core disk (kept.Blocked x ∷ [])
block_fronts x core disk fits is plain stands image grown =
    stops_by x core disk plain image fits (same_verdict plain core disk x fits stands ∙ sym is) (is_stored plain core disk fits stands) (grown_left disk.now.seen (kept.Blocked x) image grown)

-- the block is stored
pub tells_blocked : (x : Ltxid) (core : Core) (disk : DiskState) (later : Core) (end : DiskState) → Fits core disk → verdict.BlockIt ≡ verdict_of (sessions_in core.book) x
    → HasStored (kept.Blocked x) core disk later end → HasTold x verdict.BlockIt core disk later end
tells_blocked x core disk later end fits is stored = record {
  verdict = is;
  records = kept.Blocked x ∷ [];
  few = omega arith;
  gained = stored.gained;
  fits = stored.fits;
  belongs = λ seen belongs. belongs_with core later seen stored.schemas stored.moves (ap (λ (o : Opening). o.incarnation) stored.source)
      (ap (λ (s : Sessions). (s.state seen.ltxid.incarnation seen.ltxid.session).next) stored.book ∙ next_blocked (sessions_in core.book) x seen.ltxid.incarnation seen.ltxid.session) belongs;
  steps = λ plain stands. (same_verdict plain core disk x fits stands ∙ sym is, plain_with plain (with_block plain x) (kept.Blocked x) core disk later end fits stored stands refl refl (stored_block plain fits.journal x (is_stored plain core disk fits stands)));
  fronts = λ some. block_fronts x core disk fits is;
}

-- the block was stopped
pub stops_telling : (x : Ltxid) (core : Core) (disk end : DiskState) → Fits core disk → verdict.BlockIt ≡ verdict_of (sessions_in core.book) x → HasHalted [] (kept.Blocked x) disk end → HasStoppedTelling x core disk end
stops_telling x core disk end fits is halted = record {
  halted = halted;
  steps = block_fronts x core disk fits is;
}

-- the block was not stored
pub tells_fault : (x : Ltxid) (error : ServeFault) (core : Core) (disk : DiskState) (later : Core) (end : DiskState) → Fits core disk → verdict.BlockIt ≡ verdict_of (sessions_in core.book) x
    → Stores (kept.Blocked x) (Err error) core disk later end → Tells x (Err error) core disk later end
tells_fault x fault.NoMemory core disk later end fits is stores = stores
tells_fault x fault.Stopped core disk later end fits is stores = (stops_telling x core disk end fits is stores.0, stores.1)
