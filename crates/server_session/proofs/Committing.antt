-- Commits that are reached.
use Rattle.std.proofs.Common.{◌≡◌, inl, inr, ℕ, ◌+◌, ◌==◌, ◌&&◌, Bool, true, false, not, List, [], ◌∷◌, ◌++◌, refl, sym, ◌∙◌, ap, subst, arith, map}
use Rattle.std.proofs.lemmas.Bool.Decides.{nat_tests}
use Rattle.std.specs.Prelude.{IsTrue, IfOk, Option, Some, None, Err}
use Rattle.disk_model.specs.Disk.{DiskState}
use Rattle.svc_values.specs.declared.answer.Answer.{Answer}
use Rattle.svc_values.specs.declared.answer.Answer.TheVariants as answer
use Rattle.svc_values.specs.declared.call.Call.{Call}
use Rattle.svc_values.specs.declared.draw.Draw.{Draw}
use Rattle.svc_values.specs.declared.entry.Entry.{Entry}
use Rattle.svc_values.specs.declared.entry.Ltxid.{Ltxid}
use Rattle.svc_values.specs.declared.frame.Down.{Down}
use Rattle.svc_values.specs.declared.frame.Down.TheVariants as down
use Rattle.svc_values.specs.declared.tables.PlainRow.{PlainRow}
use Rattle.svc_values.specs.declared.tables.Place.{Place}
use Rattle.svc_values.specs.meaning.Identifiers.{is_of}
use Rattle.svc_values.specs.meaning.SettingsList.{NamedValues}
use Rattle.ltxid_book.specs.meaning.Journal.{committed_of, is_blocked}
use Rattle.ltxid_book.specs.meaning.Sessions.{Sessions, can_commit, may_commit, is_forgotten}
use Rattle.ltxid_book.specs.Sessions.{sessions_in}
use Rattle.ltxid_book.proofs.Offered.{tells_blocks}
use Rattle.mutable_values.specs.Sources.{Opening}
use Rattle.table_store.specs.Stored.{Stored}
use Rattle.commit_log.specs.declared.records.Record.TheVariants as kept
use Rattle.commit_log.specs.meaning.Journals.{journal_of}
use Rattle.commit_log.specs.meaning.Rules.{sessions_of, with_record}
use Rattle.stmt_meaning.specs.meaning.Reads.{Read}
use Rattle.stmt_meaning.specs.Reads.{ReadsStand, ReadsDiffer, IsConflict}
use Rattle.table_txn.specs.Readings.{AreReadings}
use Rattle.server_model.specs.Core.{Core as Plain, committed, all_blocked}
use Rattle.server_model.specs.meaning.Outcomes.{Telling, Says, Stopped}
use Rattle.server_model.specs.Sessions.{Life, Sess, ended, entry_of}
use Rattle.server_model.specs.Serve.{InReplay, Blocks, Conflicts, Stores as StoresIt, StopsBefore, StopsAfter, MayStore, with_entry, with_last}
use Rattle.server_session.specs.declared.shared.Core.{Core}
use Rattle.server_model.specs.declared.fault.ServeFault.{ServeFault}
use Rattle.server_model.specs.declared.fault.ServeFault.TheVariants as fault
use Rattle.server_session.specs.Adding.{IsLeftOf}
use Rattle.server_session.specs.Fits.{Fits, Belongs}
use Rattle.server_session.specs.Plain.{IsStored, IsPlain}
use Rattle.server_session.specs.SeenSession.{SeenSession, sess_of, begun_so, ended_so}
use Rattle.server_session.specs.Serving.{HasServed, Serves, StepsTo, StopsAtFronts, commits_as, stores_as}
use Rattle.server_session.specs.Storing.{HasStored, Stores}
use Rattle.server_session.proofs.Cores.{belongs_with, next_own, next_other}
use Rattle.server_session.proofs.Gaining.{gained_none, grown_left}
use Rattle.server_session.proofs.Plains.{is_stored, reads_stored, reads_same, reads_more, stored_commit}
use Rattle.server_session.proofs.Quiet.{no_reads}
use Rattle.server_session.proofs.Telling.{plain_with}

-- an answer in the place of the last one
pub with_last-push : (answers : List Answer) (old new : Answer) → with_last (answers ++ old ∷ []) new ≡ answers ++ new ∷ []
with_last-push [] old new = refl
with_last-push (first ∷ []) old new = refl
with_last-push (first ∷ next ∷ more) old new = ap (λ (l : List Answer). first ∷ l) (with_last-push (next ∷ more) old new)

-- rolled back, a session belongs to its core still
pub rolled : (core : Core) (seen : SeenSession) (life : Life) (settings : NamedValues) → Belongs core seen → Belongs core (begun_so seen life settings)
rolled core seen life settings belongs = record { incarnation = belongs.incarnation; number = belongs.number; writes = refl; calls = tt; holds = refl }

-- a step that stores nothing
pub unstored : (step : Plain → Sess → Plain → Sess → Telling → Type 0) (most : ℕ) (told : Telling) (old new : SeenSession) (core : Core) (disk : DiskState) → Fits core disk → Belongs core new
    → ((plain : Plain) (reads : List Read) → IsPlain plain core disk → AreReadings old.txn.readings reads → StepsTo step told plain (sess_of old reads) plain new) → HasServed step most told old core disk new core disk
unstored step most told old new core disk fits belongs steps = record {
  records = [];
  few = omega arith;
  gained = gained_none disk;
  fits = fits;
  belongs = belongs;
  others = λ other apart stays. stays;
  steps = λ plain reads is noted. (plain, (is, steps plain reads is noted));
  fronts = λ some. absurd (some refl);
}

-- ---- whether it may be stored

same_number : (n m : ℕ) (b : Bool) → n ≡ m → ((n == m) && not b) ≡ not b
same_number n m b e = let same : (n == m) ≡ true = grind (arith, nat_tests) in rw same refl

-- whether it is not blocked, by the book and by the plain server
pub can_is : (core : Core) (disk : DiskState) (seen : SeenSession) (plain : Plain) (fits : Fits core disk) → Belongs core seen → IsStored plain fits.journal
    → can_commit (sessions_in core.book) seen.ltxid ≡ not (is_blocked (all_blocked plain) seen.ltxid)
can_is core disk seen plain fits belongs is =
    let x = seen.ltxid in
    let state = (sessions_in core.book).state x.incarnation x.session in
    let here : x.incarnation ≡ fits.journal.incarnation = belongs.incarnation ∙ fits.source.incarnation in
    let open_still : is_forgotten (sessions_of fits.journal) x.incarnation ≡ false = ap (is_forgotten (sessions_of fits.journal)) here ∙ fits.current in
    let number : x.number ≡ ((sessions_of fits.journal).state x.incarnation x.session).next = belongs.number ∙ ap (λ (s : Sessions). (s.state x.incarnation x.session).next) fits.book.sessions in
    let tells = tells_blocks fits.journal.horizon (map committed_of fits.journal.entries) fits.journal.blocked x open_still number in
    same_number x.number state.next state.blocked belongs.number
    ∙ ap not (ap (λ (s : Sessions). (s.state x.incarnation x.session).blocked) fits.book.sessions ∙ tells ∙ ap (λ (l : List Ltxid). is_blocked l x) (sym is.blocked))

not_forgotten : (a b : Bool) → a ≡ false → b ≡ true → (not a && b) ≡ true
not_forgotten a b none can = rw (none, can) refl

pub may_be : (core : Core) (disk : DiskState) (seen : SeenSession) → Fits core disk → Belongs core seen → IsTrue (can_commit (sessions_in core.book) seen.ltxid) → IsTrue (may_commit (sessions_in core.book) seen.ltxid)
may_be core disk seen fits belongs can =
    let here : seen.ltxid.incarnation ≡ fits.journal.incarnation = belongs.incarnation ∙ fits.source.incarnation in
    let open_still : is_forgotten (sessions_in core.book) seen.ltxid.incarnation ≡ false =
    ap (λ (s : Sessions). is_forgotten s seen.ltxid.incarnation) fits.book.sessions ∙ ap (is_forgotten (sessions_of fits.journal)) here ∙ fits.current in
    not_forgotten (is_forgotten (sessions_in core.book) seen.ltxid.incarnation) (can_commit (sessions_in core.book) seen.ltxid) open_still can

-- the committed rows are the plain server's
pub same_rows : (plain : Plain) (core : Core) (disk : DiskState) (fits : Fits core disk) → IsStored plain fits.journal → core.tables.rows ≡ committed plain
same_rows plain core disk fits is = ap (λ (t : Stored). t.rows) fits.tables ∙ sym is.tables

differs : (reads : List Read) (now : List PlainRow) (at : Place) → IsConflict reads now (Some at) → ReadsDiffer reads now
differs reads now at conflict = (conflict.0, (conflict.1.0, conflict.1.1.1))

-- ---- commits that store nothing

module _ (called : Call) (answers : List Answer) (draws : List Draw) (core : Core) (disk : DiskState) (old : SeenSession) (fits : Fits core disk) (belongs : Belongs core old) where
  pub in_replay : (told : Down) (new : SeenSession) → told ≡ down.Reply (with_last answers answer.CommitInReplay) draws old.ltxid → new ≡ begun_so old old.life old.settings
      → HasServed (commits_as true called answers draws) 1 (Says told) old core disk new core disk
  in_replay told new is seen =
      rw (is, seen)
      (unstored (commits_as true called answers draws) 1 _ old _ core disk fits (rolled core old old.life old.settings belongs)
      (λ plain reads stands noted. record { reads = []; noted = no_reads; steps = InReplay refl }))

  pub blocked : (new : SeenSession) → new ≡ ended_so old → can_commit (sessions_in core.book) old.ltxid ≡ false
      → HasServed (commits_as false called answers draws) 1 (Says down.Blocked) old core disk new core disk
  blocked new seen cannot =
      rw seen (unstored (commits_as false called answers draws) 1 _ old _ core disk fits (rolled core old _ old.settings belongs)
      (λ plain reads stands noted.
      let is : is_blocked (all_blocked plain) old.ltxid ≡ true = by (is_blocked (all_blocked plain) old.ltxid) (sym (can_is core disk old plain fits belongs (is_stored plain core disk fits stands)) ∙ cannot) in
      record { reads = []; noted = no_reads; steps = Blocks refl is }))
    where
      by : (b : Bool) → not b ≡ false → b ≡ true
      by true e = refl
      by false e = sym e

  pub conflicts : (told : Down) (new : SeenSession) (at : Option Place) → told ≡ down.Reply (with_last answers answer.Conflict) draws old.ltxid → new ≡ begun_so old old.life old.settings
      → can_commit (sessions_in core.book) old.ltxid ≡ true → ((reads : List Read) → AreReadings old.txn.readings reads → IsConflict reads core.tables.rows at) → (place : Place) → at ≡ Some place
      → HasServed (commits_as false called answers draws) 1 (Says told) old core disk new core disk
  conflicts told new at is seen can conflict place found =
      rw (is, seen)
      (unstored (commits_as false called answers draws) 1 _ old _ core disk fits (rolled core old old.life old.settings belongs)
      (λ plain reads stands noted.
      let stored = is_stored plain core disk fits stands in
      let free : not (is_blocked (all_blocked plain) old.ltxid) ≡ true = sym (can_is core disk old plain fits belongs stored) ∙ can in
      let differ : ReadsDiffer reads core.tables.rows = differs reads core.tables.rows place (subst (IsConflict reads core.tables.rows) found (conflict reads noted)) in
      record { reads = []; noted = no_reads; steps = Conflicts refl free (subst (ReadsDiffer reads) (same_rows plain core disk fits stored) differ) }))

  -- where nothing is against it, it may be stored
  pub may_store : (plain : Plain) (reads : List Read) (at : Option Place) → IsPlain plain core disk → AreReadings old.txn.readings reads
      → can_commit (sessions_in core.book) old.ltxid ≡ true → IsConflict reads core.tables.rows at → at ≡ None → MayStore plain (sess_of old reads) false
  may_store plain reads at stands noted can conflict found =
      let stored = is_stored plain core disk fits stands in
      record {
        unmarked = refl;
        free = sym (can_is core disk old plain fits belongs stored) ∙ can;
        same = subst (ReadsStand reads) (same_rows plain core disk fits stored) (subst (IsConflict reads core.tables.rows) found conflict);
      }

-- ---- commits that are stored

-- the session after its commit
abbrev pub committed_so : SeenSession → SeenSession
committed_so seen = begun_so (record seen { ltxid = record seen.ltxid { number = seen.ltxid.number + 1 } }) seen.life seen.settings

module _ (called : Call) (answers : List Answer) (draws : List Draw) (core : Core) (disk : DiskState) (later : Core) (end : DiskState) (old : SeenSession) (fits : Fits core disk) (belongs : Belongs core old) where
  abbrev pub entry_here : Entry
  entry_here = entry_of (sess_of old []) called answers draws

  apart_of : (other : SeenSession) → (other.ltxid.session ≡ old.ltxid.session → ⊥) → is_of old.ltxid other.ltxid.incarnation other.ltxid.session ≡ false
  apart_of other apart = by (is_of old.ltxid other.ltxid.incarnation other.ltxid.session) refl
    where
      by : (b : Bool) → is_of old.ltxid other.ltxid.incarnation other.ltxid.session ≡ b → b ≡ false
      by true own = absurd (apart (let same : old.ltxid.session ≡ other.ltxid.session = grind (arith, nat_tests) in sym same))
      by false own = refl

  others_stay : HasStored (kept.Commit entry_here) core disk later end → (other : SeenSession) → (other.ltxid.session ≡ old.ltxid.session → ⊥) → Belongs core other → Belongs later other
  others_stay stored other apart stays =
      belongs_with core later other stored.schemas stored.moves (ap (λ (o : Opening). o.incarnation) stored.source)
      (ap (λ (s : Sessions). (s.state other.ltxid.incarnation other.ltxid.session).next) stored.book
      ∙ next_other (sessions_in core.book) old.ltxid entry_here.completed other.ltxid.incarnation other.ltxid.session (apart_of other apart))
      stays

  own_after : HasStored (kept.Commit entry_here) core disk later end → Belongs later (committed_so old)
  own_after stored = record {
    incarnation = belongs.incarnation ∙ sym (ap (λ (o : Opening). o.incarnation) stored.source);
    number = sym (ap (λ (s : Sessions). (s.state old.ltxid.incarnation old.ltxid.session).next) stored.book ∙ next_own (sessions_in core.book) old.ltxid entry_here.completed);
    writes = refl;
    calls = tt;
    holds = refl;
  }

  commit_stops : (plain : Plain) (reads : List Read) (image : List ℕ) → IsStored plain fits.journal → IsLeftOf disk.now.seen [] (kept.Commit entry_here) image
      → (after : Plain) × (IfOk (journal_of image) (IsStored after) × stores_as called answers draws plain (sess_of old reads) after (ended (sess_of old reads)) Stopped)
  commit_stops plain reads image stands (inl none) =
      (plain, (reads_stored plain image fits.journal (reads_same disk.now.seen image fits.journal fits.reads none) stands, λ may. StopsBefore may))
  commit_stops plain reads image stands (inr one) = (
    with_entry plain entry_here,
    (
      reads_stored (with_entry plain entry_here) image (with_record fits.journal (kept.Commit entry_here)) (reads_more disk.now.seen image fits.journal (kept.Commit entry_here) fits.reads one) (stored_commit plain fits.journal entry_here stands),
      λ may. StopsAfter may,
    ),
  )

  -- it was stopped without the entry or with it
  commit_fronts : StopsAtFronts (stores_as called answers draws) old core disk (kept.Commit entry_here ∷ [])
  commit_fronts plain reads stands noted image grown = commit_stops plain reads image (is_stored plain core disk fits stands) (grown_left disk.now.seen (kept.Commit entry_here) image grown)

  pub commit_told : (told : Down) (new : SeenSession) → told ≡ down.Reply answers draws (record old.ltxid { number = old.ltxid.number + 1 }) → new ≡ committed_so old
      → HasStored (kept.Commit entry_here) core disk later end → HasServed (stores_as called answers draws) 1 (Says told) old core disk new later end
  commit_told told new is seen stored =
      rw (is, seen) (record {
        records = kept.Commit entry_here ∷ [];
        few = omega arith;
        gained = stored.gained;
        fits = stored.fits;
        belongs = own_after stored;
        others = others_stay stored;
        steps = λ plain reads stands noted. (
          with_entry plain entry_here,
          (
            plain_with plain (with_entry plain entry_here) (kept.Commit entry_here) core disk later end fits stored stands refl refl (stored_commit plain fits.journal entry_here (is_stored plain core disk fits stands)),
            record { reads = []; noted = no_reads; steps = λ may. StoresIt may },
          ),
        );
        fronts = λ some. commit_fronts;
      })

  pub commit_fault : (error : ServeFault) (new : SeenSession) → Stores (kept.Commit entry_here) (Err error) core disk later end → Serves (stores_as called answers draws) 1 (Err error) old core disk new later end
  commit_fault fault.NoMemory new stores = stores
  commit_fault fault.Stopped new stores = (
    record {
      records = [];
      last = kept.Commit entry_here;
      few = omega arith;
      halted = stores.0;
      steps = commit_fronts;
    },
    stores.1,
  )
