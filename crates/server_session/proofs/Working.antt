-- A work call: what its statements leave, and its commit where it reaches one.
use Rattle.std.proofs.Common.{◌≡◌, ◌≢◌, ◌⊎◌, ◌≤◌, ◌+◌, inl, inr, ℕ, Bool, true, false, List, [], ◌∷◌, ◌++◌, length, map, take, fold, refl, sym, ◌∙◌, ap, subst, arith, length-append, append-nil, append_assoc}
use Rattle.std.proofs.lemmas.List.{length-map, map-append}
use Rattle.std.specs.Prelude.{IsTrue, IfOk, Option, Some, Result, Ok, Err}
use Rattle.disk_model.specs.Disk.{DiskState}
use Rattle.svc_values.specs.declared.answer.Answer.{Answer}
use Rattle.svc_values.specs.declared.call.Call.{Call}
use Rattle.svc_values.specs.declared.call.Call.TheVariants as call
use Rattle.svc_values.specs.declared.draw.Draw.{Draw}
use Rattle.svc_values.specs.declared.frame.Down.{Down}
use Rattle.svc_values.specs.declared.frame.Down.TheVariants as down
use Rattle.svc_values.specs.declared.frame.Up.TheVariants as up
use Rattle.svc_values.specs.declared.schema.Shape.{Shape}
use Rattle.svc_values.specs.declared.statement.Statement.{Statement}
use Rattle.svc_values.specs.declared.tables.PlainRow.{PlainRow}
use Rattle.svc_values.specs.meaning.Calls.{sequences_in}
use Rattle.svc_values.specs.Calls.{IsMade}
use Rattle.std.specs.List.{AllByRecursion}
use Rattle.svc_values.specs.meaning.Endings.{ends_committed}
use Rattle.svc_values.specs.meaning.Fitting.{writes_fit}
use Rattle.canon_bytes.specs.Entries.{IsMadePiece}
use Rattle.svc_values.specs.meaning.Tables.{with_writes}
use Rattle.ltxid_book.specs.meaning.Sessions.{is_forgotten}
use Rattle.mutable_values.specs.declared.grants.Grants.{Grants}
use Rattle.mutable_values.specs.Sources.{Opening, names_of}
use Rattle.table_store.specs.Stored.{Stored}
use Rattle.table_txn.specs.declared.txn.Ran.{Ran}
use Rattle.table_txn.specs.Readings.{AreReadings, StayUnchanged}
use Rattle.table_txn.specs.Transactions.{Transaction, shape_of, meaning}
use Rattle.commit_log.specs.declared.base.BaseSequence.{BaseSequence}
use Rattle.commit_log.specs.declared.journal.Journal.{Journal}
use Rattle.commit_log.specs.declared.journal.Reservation.{Reservation}
use Rattle.commit_log.specs.declared.records.Record.{Record}
use Rattle.commit_log.specs.declared.records.Record.TheVariants as kept
use Rattle.commit_log.specs.meaning.Bases.{sequence_name, shape_of as shape_of_base}
use Rattle.commit_log.specs.Growth.{HasAdded, IsGrown, with_records}
use Rattle.commit_log.specs.meaning.Journals.{journal_of}
use Rattle.commit_log.specs.Judging.{IsBookFor}
use Rattle.commit_log.specs.meaning.Rules.{sessions_of, with_record}
use Rattle.commit_log.proofs.Offered.{grown_then}
use Rattle.stmt_meaning.specs.Laws.{closed_by}
use Rattle.stmt_meaning.specs.meaning.Meaning.{Meant, mean}
use Rattle.stmt_meaning.specs.meaning.Reads.{Read, reads_at}
use Rattle.stmt_meaning.proofs.Offered.{commits_last, sequences-few}
use Rattle.server_model.specs.meaning.Base.{Sequence}
use Rattle.server_model.specs.Core.{Core as Plain, committed}
use Rattle.server_model.specs.Draws.{brought, DrawsAll}
use Rattle.server_model.specs.meaning.Outcomes.{Telling, Says, Stopped}
use Rattle.server_model.specs.Sessions.{Sess, ended, piece_of, with_piece, with_work}
use Rattle.server_model.specs.Serve.{Commits, Means, Works, Answers, Reaches, HaltsInDraw, IsWork, reply, with_opening}
use Rattle.server_session.specs.declared.shared.Core.{Core}
use Rattle.server_model.specs.declared.fault.ServeFault.{ServeFault}
use Rattle.server_model.specs.declared.fault.ServeFault.TheVariants as fault
use Rattle.table_txn.specs.Changes.{begun_at}
use Rattle.server_session.specs.Adding.{HasGained, HasHalted}
use Rattle.server_session.specs.Dealing.{AtDesk, HaltsAtFront, IsPrepared, reserving, reservation_of, with_reserved}
use Rattle.server_session.specs.Fits.{Fits, Belongs, IsSourceOf, sequence_of, tables_of}
use Rattle.server_session.specs.Leaving.{StaysTrue}
use Rattle.server_session.specs.Plain.{IsStored, IsPlain}
use Rattle.server_session.specs.Running.{Ground, HasRunOver, HasHaltedOver, RunsOver}
use Rattle.server_session.specs.SeenSession.{SeenSession, sess_of}
use Rattle.server_session.specs.Serving.{HasServed, HasStopped, HasLacked, Serves, StopsAtFronts, called_as, commits_as, told_of}
use Rattle.table_txn.proofs.Offered.{holds_then}
use Rattle.server_session.proofs.Holding.{moves_none}
use Rattle.server_session.proofs.Committing.{same_rows}
use Rattle.server_session.proofs.Cores.{belongs_with, same_journal, stays_true}
use Rattle.server_session.proofs.Desks.{given_few, with_meant}
use Rattle.server_session.proofs.Fronts.{HasSome, among_or_behind, grown_some, some_reserved}
use Rattle.server_session.proofs.Gaining.{gained_then, halted_then}
use Rattle.server_session.proofs.Halting.{halts_last, some_there}
use Rattle.server_session.proofs.Plains.{is_stored, reads_stored}
use Rattle.server_session.proofs.Quiet.{made_more, noting}
use Rattle.server_session.proofs.Reserving.{names_by}

-- ---- a journal with reservations more

fold_reserving : (journal : Journal) (more : List Reservation) → fold with_record journal (reserving more) ≡ with_reserved journal more
fold_reserving journal [] = ap (λ (l : List Reservation). let j : Journal = record journal { reserved = l } in j) (sym (append-nil journal.reserved))
fold_reserving journal (one ∷ more) =
    fold_reserving (with_record journal (kept.Reserved one)) more
    ∙ ap (λ (l : List Reservation). let j : Journal = record journal { reserved = l } in j) (append_assoc journal.reserved (one ∷ []) more)

-- the journal that an image reads as behind reservations
reads_reserved : (old image : List ℕ) (journal : Journal) (more : List Reservation) → journal_of old ≡ Ok journal → HasAdded old (reserving more) image → journal_of image ≡ Ok (with_reserved journal more)
reads_reserved old image journal more reads added =
    added.journal ∙ ap (with_records (reserving more)) reads ∙ ap (λ (j : Journal). let r : Result Journal ℕ = Ok j in r) (fold_reserving journal more)

bases_names : (journal : Journal) (bases : List BaseSequence) → map (λ (s : Sequence). s.name) (map (sequence_of journal) bases) ≡ map sequence_name bases
bases_names journal [] = refl
bases_names journal (one ∷ bases) = ap (λ (l : List (List ℕ)). one.name ∷ l) (bases_names journal bases)

-- the plain server's core, its source elsewhere, beside such a journal
stored_at : (plain : Plain) (journal : Journal) (more : List Reservation) (opening : Opening) (later : Journal) → IsStored plain journal → later ≡ with_reserved journal more → IsSourceOf opening later → IsStored (with_opening plain opening) later
stored_at plain journal more opening later is e source = record {
  shape = is.shape ∙ ap (λ (j : Journal). shape_of_base j.base) (sym e);
  entries = is.entries ∙ ap (λ (j : Journal). j.entries) (sym e);
  blocked = is.blocked ∙ ap (λ (j : Journal). j.blocked) (sym e);
  alerts = is.alerts ∙ ap (λ (j : Journal). j.alerts) (sym e);
  horizon = is.horizon ∙ ap (λ (j : Journal). j.horizon) (sym e);
  tables = is.tables ∙ ap (λ (j : Journal). (tables_of j).rows) (sym e);
  source = source;
}

module _ (statements : List Statement) (commit replay : Bool) (marks : List Draw) (now : ℕ) (old : SeenSession) (core : Core) (disk : DiskState) (fits : Fits core disk) (belongs : Belongs core old) where
  abbrev pub called : Call
  called = call.Work statements commit

  abbrev pub most : ℕ
  most = 1 + sequences_in (up.Call replay marks called)

  abbrev pub ground : Ground
  ground = record { tables = core.tables; settings = old.settings; txn = old.txn; statements = statements }

  abbrev pub before : AtDesk
  before = record { opening = core.source; left = brought core.grants core.source replay marks; log = core.log; disk = disk }

  abbrev pub core_at : AtDesk → Core
  core_at desk = record core { source = desk.opening; log = desk.log }

  abbrev pub seen_at : Transaction → SeenSession
  seen_at txn = record old { txn = txn; since = begun_at old.since core.changes.commits }

  pub prepared_here : IsPrepared core.source core.log disk
  prepared_here = record { ready = fits.log; journal = fits.journal; reads = fits.reads; source = fits.source; sequences = fits.sequences }

  -- ---- the core after the draws

  module _ (desk : AtDesk) (more : List Reservation) (gained : HasGained (reserving more) disk desk.disk) (prepared : IsPrepared desk.opening desk.log desk.disk) where
    journal_is : prepared.journal ≡ with_reserved fits.journal more
    journal_is = same_journal desk.disk.now.seen prepared.journal (with_reserved fits.journal more) prepared.reads (reads_reserved disk.now.seen desk.disk.now.seen fits.journal more fits.reads gained.added)

    pub fits_at : Fits (core_at desk) desk.disk
    fits_at = record {
      log = prepared.ready;
      journal = prepared.journal;
      reads = prepared.reads;
      tables = fits.tables ∙ ap tables_of (sym journal_is);
      book = subst (λ (j : Journal). IsBookFor core.book j) (sym journal_is) (record { sessions = fits.book.sessions; blocks = fits.book.blocks });
      source = prepared.source;
      sequences = prepared.sequences;
      current = subst (λ (j : Journal). is_forgotten (sessions_of j) j.incarnation ≡ false) (sym journal_is) fits.current;
    }

    incarnation_at : desk.opening.incarnation ≡ core.source.incarnation
    incarnation_at = prepared.source.incarnation ∙ ap (λ (j : Journal). j.incarnation) journal_is ∙ sym fits.source.incarnation

    pub others_at : (other : SeenSession) → Belongs core other → Belongs (core_at desk) other
    others_at other stays = belongs_with core (core_at desk) other refl (moves_none core (core_at desk) refl refl) incarnation_at refl stays

    pub plain_at : (plain : Plain) → IsPlain plain core disk → IsPlain (with_opening plain desk.opening) (core_at desk) desk.disk
    plain_at plain is = record {
      stored = reads_stored (with_opening plain desk.opening) desk.disk.now.seen prepared.journal prepared.reads (stored_at plain fits.journal more desk.opening prepared.journal (is_stored plain core disk fits is) journal_is prepared.source);
      opening = refl;
      grants = is.grants;
    }

    pub belongs_at : (txn : Transaction) → IsTrue (writes_fit core.tables.schemas txn.writes) → txn.pieces ≡ old.txn.pieces → StayUnchanged core.tables.rows old.txn.readings txn.readings
        → Belongs (core_at desk) (seen_at txn)
    belongs_at txn writes pieces unchanged = record {
      incarnation = belongs.incarnation ∙ sym incarnation_at;
      number = belongs.number;
      writes = writes;
      calls = subst (AllByRecursion IsMadePiece) (sym pieces) belongs.calls;
      holds = holds_then core.changes core.tables.rows old.since old.txn.readings txn.readings belongs.holds unchanged;
    }

  -- ---- what the statements mean to the plain server

  module _ (plain : Plain) (is : IsPlain plain core disk) where
    stored_here : IsStored plain fits.journal
    stored_here = is_stored plain core disk fits is

    rows_here : core.tables.rows ≡ committed plain
    rows_here = same_rows plain core disk fits stored_here

    schemas_here : core.tables.schemas ≡ plain.base.shape.schemas
    schemas_here = ap (λ (t : Stored). t.schemas) fits.tables ∙ sym (ap (λ (s : Shape). s.schemas) stored_here.shape)

    names_here : names_of core.source.sequences ≡ plain.base.shape.sequences
    names_here =
        names_by core.source.sequences ∙ ap (map (λ (s : Sequence). s.name)) fits.source.sequences ∙ bases_names fits.journal fits.journal.base.sequences
        ∙ sym (ap (λ (s : Shape). s.sequences) stored_here.shape)

    shape_here : shape_of core.tables (names_of core.source.sequences) ≡ plain.base.shape
    shape_here = λ i. record { schemas = schemas_here i; sequences = names_here i }

    pub means_here : (reads : List Read) (draws : List Draw) (meant : Meant) → meaning core.tables (names_of core.source.sequences) old.settings old.txn statements draws ≡ Some meant → meant.rest ≡ []
        → Means plain (sess_of old reads) called draws (record meant { answers = closed_by commit meant.answers })
    means_here reads draws meant means used = record {
      run =
          let said = commits_last (shape_of core.tables (names_of core.source.sequences)) (with_writes core.tables.rows old.txn.writes) old.settings statements draws meant means commit in
          subst (λ (s : Shape). mean s (with_writes (committed plain) old.txn.writes) old.settings called draws ≡ Some (record meant { answers = closed_by commit meant.answers })) shape_here
          (subst (λ (rows : List PlainRow). mean (shape_of core.tables (names_of core.source.sequences)) (with_writes rows old.txn.writes) old.settings called draws ≡ Some (record meant { answers = closed_by commit meant.answers })) rows_here said);
      used = used;
    }

    pub draws_here : (draws : List Draw) (opening : Opening) (left : List Draw) → DrawsAll now core.source (brought core.grants core.source replay marks) draws opening left
        → DrawsAll now plain.opening (brought plain.base.grants plain.opening replay marks) draws opening left
    draws_here draws opening left drawn =
        subst (λ (g : Grants). DrawsAll now plain.opening (brought g plain.opening replay marks) draws opening left) (sym is.grants)
        (subst (λ (o : Opening). DrawsAll now o (brought core.grants o replay marks) draws opening left) (sym is.opening) drawn)

  -- ---- the store was stopped in a draw

  halts_at : (given : List Draw) (stored : List Reservation) → HaltsAtFront now before given stored → (meant : Meant) → meaning core.tables (names_of core.source.sequences) old.settings old.txn statements given ≡ Some meant → meant.rest ≡ []
      → (plain : Plain) (reads : List Read) → IsPlain plain core disk → (image : List ℕ) → HasAdded disk.now.seen (reserving stored) image
      → (after : Plain) × (IfOk (journal_of image) (IsStored after) × called_as replay marks called now plain (sess_of old reads) after (ended (sess_of old reads)) Stopped)
  halts_at given stored h meant means used plain reads is image added =
      let journal = with_reserved fits.journal stored in
      let all : Meant = record meant { answers = closed_by commit meant.answers } in
      let asked : Means plain (sess_of old reads) called (h.front ++ h.next ∷ h.back) all =
      subst (λ (draws : List Draw). Means plain (sess_of old reads) called draws all) h.split (means_here plain is reads given meant means used) in (
        with_opening plain h.opening,
        (
          reads_stored (with_opening plain h.opening) image journal (reads_reserved disk.now.seen image fits.journal stored fits.reads added)
              (stored_at plain fits.journal stored h.opening journal (is_stored plain core disk fits is) refl (h.source fits.journal fits.source)),
          IsWork statements commit _ _ _ (HaltsInDraw h.between h.opening h.front h.next h.back h.left all (draws_here plain is h.front h.between h.left h.draws) asked h.halts),
        ),
      )

  -- ---- the statements ran

  module _ (ran : Ran) (txn : Transaction) (desk : AtDesk) (over : HasRunOver now ground before ran txn desk) (answers : List Answer) (closed : answers ≡ closed_by commit ran.answers) where
    few_here : length over.dealt.reservations ≤ sequences_in (up.Call replay marks called)
    few_here =
        let few = sequences-few (shape_of core.tables (names_of core.source.sequences)) (with_writes core.tables.rows old.txn.writes) old.settings (call.Work statements false) ran.draws over.run.meant over.run.means over.run.used true [] in
        omega (arith, over.dealt.few, few)

    abbrev meant_here : Meant
    meant_here = record over.run.meant { answers = closed_by commit over.run.meant.answers }

    answers_here : answers ≡ closed_by commit over.run.meant.answers
    answers_here = closed ∙ ap (closed_by commit) over.run.answered

    fits_now : Fits (core_at desk) desk.disk
    fits_now = fits_at desk over.dealt.reservations over.dealt.gained over.dealt.prepared

    pub fits_then : Fits (core_at desk) desk.disk
    fits_then = fits_now

    pub belongs_then : Belongs (core_at desk) (seen_at txn)
    belongs_then = belongs_at desk over.dealt.reservations over.dealt.gained over.dealt.prepared txn over.fits over.run.same_pieces over.unchanged

    abbrev reads_then : Plain → List Read → List Read
    reads_then plain reads = reads ++ reads_at (committed plain) over.run.meant.reads

    noted_then : (plain : Plain) (is : IsPlain plain core disk) (reads : List Read) → AreReadings old.txn.readings reads → AreReadings txn.readings (reads_then plain reads)
    noted_then plain is reads noted = subst (λ (rows : List PlainRow). AreReadings txn.readings (reads ++ reads_at rows over.run.meant.reads)) (rows_here plain is) (over.run.was_read reads noted)

    -- the session with its work, as the plain server has it
    sess_then : (plain : Plain) (reads : List Read) → with_work (sess_of old reads) (committed plain) meant_here ≡ sess_of (seen_at txn) (reads_then plain reads)
    sess_then plain reads = λ i. record {
      ltxid = old.ltxid;
      life = old.life;
      settings = old.settings;
      at_start = old.at_start;
      pieces = sym over.run.same_pieces i;
      writes = sym over.run.wrote i;
      reads = reads_then plain reads;
    }

    -- it was stopped in a draw
    halts_among : (plain : Plain) (reads : List Read) → IsPlain plain core disk → (image : List ℕ) → over.dealt.reservations ≢ [] → HasSome disk.now.seen over.dealt.reservations image
        → (after : Plain) × (IfOk (journal_of image) (IsStored after) × called_as replay marks called now plain (sess_of old reads) after (ended (sess_of old reads)) Stopped)
    halts_among plain reads is image there some =
        halts_at ran.draws (take some.count over.dealt.reservations) (over.dealt.halts some.count some.within there) over.run.meant over.run.means over.run.used plain reads is image some.has

    draw_fronts : reserving over.dealt.reservations ≢ [] → StopsAtFronts (called_as replay marks called now) old core disk (reserving over.dealt.reservations)
    draw_fronts there plain reads is noted image grown = halts_among plain reads is image (some_reserved over.dealt.reservations there) (grown_some disk.now.seen over.dealt.reservations image grown)

    -- it is answered, and its transaction goes on
    pub answered : (told : Down) (new : SeenSession) → ends_committed answers ≡ false → IsMade called → told ≡ down.Reply answers ran.draws old.ltxid → new ≡ noting (seen_at txn) (piece_of called answers ran.draws)
        → HasServed (called_as replay marks called now) most (Says told) old core disk new (core_at desk) desk.disk
    answered told new open_still made said seen =
        rw (said, seen) (record {
          records = reserving over.dealt.reservations;
          few = simp length-map (omega (arith, few_here));
          gained = over.dealt.gained;
          fits = fits_now;
          belongs = let own = belongs_then in record { incarnation = own.incarnation; number = own.number; writes = own.writes; calls = made_more txn.pieces (piece_of called answers ran.draws) own.calls made; holds = own.holds };
          others = λ other apart stays. others_at desk over.dealt.reservations over.dealt.gained over.dealt.prepared other stays;
          steps = λ plain reads is noted. (
            with_opening plain desk.opening,
            (
              plain_at desk over.dealt.reservations over.dealt.gained over.dealt.prepared plain is,
              record { reads = reads_then plain reads; noted = noted_then plain is reads noted; steps = step plain is reads },
            ),
          );
          fronts = draw_fronts;
        })
      where
        works : (plain : Plain) (is : IsPlain plain core disk) (reads : List Read) (a : List Answer) → a ≡ closed_by commit over.run.meant.answers → ends_committed a ≡ false
            → Works plain (sess_of old reads) replay marks called now (with_opening plain desk.opening) (with_piece (with_work (sess_of old reads) (committed plain) meant_here) called a ran.draws) (reply a ran.draws (sess_of old reads))
        works plain is reads a e ends =
            subst (λ (b : List Answer). Works plain (sess_of old reads) replay marks called now (with_opening plain desk.opening) (with_piece (with_work (sess_of old reads) (committed plain) meant_here) called b ran.draws) (reply b ran.draws (sess_of old reads))) (sym e)
            (Answers desk.opening ran.draws desk.left meant_here (draws_here plain is ran.draws desk.opening desk.left over.dealt.draws) (means_here plain is reads ran.draws over.run.meant over.run.means over.run.used) (ap ends_committed (sym e) ∙ ends))

        step : (plain : Plain) (is : IsPlain plain core disk) (reads : List Read)
            → called_as replay marks called now plain (sess_of old reads) (with_opening plain desk.opening) (sess_of (noting (seen_at txn) (piece_of called answers ran.draws)) (reads_then plain reads)) (Says (down.Reply answers ran.draws old.ltxid))
        step plain is reads =
            subst (λ (s : Sess). called_as replay marks called now plain (sess_of old reads) (with_opening plain desk.opening) (with_piece s called answers ran.draws) (Says (down.Reply answers ran.draws old.ltxid))) (sess_then plain reads)
            (IsWork statements commit _ _ _ (works plain is reads answers answers_here open_still))

    -- a commit behind it is one of the call's
    commits_on : (plain after : Plain) (is : IsPlain plain core disk) (reads : List Read) (t : Sess) (told : Telling) → ends_committed answers ≡ true
        → Commits (with_opening plain desk.opening) (sess_of (seen_at txn) (reads_then plain reads)) replay called answers ran.draws after t told → called_as replay marks called now plain (sess_of old reads) after t told
    commits_on plain after is reads t told ends commits =
        let there = subst (λ (a : List Answer). Commits (with_opening plain desk.opening) (with_work (sess_of old reads) (committed plain) meant_here) replay called a ran.draws after t told) answers_here
        (subst (λ (s : Sess). Commits (with_opening plain desk.opening) s replay called answers ran.draws after t told) (sym (sess_then plain reads)) commits) in
        IsWork statements commit after t told
        (Reaches desk.opening ran.draws desk.left meant_here after t told (draws_here plain is ran.draws desk.opening desk.left over.dealt.draws) (means_here plain is reads ran.draws over.run.meant over.run.means over.run.used) (ap ends_committed (sym answers_here) ∙ ends) there)

    -- it was stopped behind the draws
    commit_fronts : (records : List Record) → ends_committed answers ≡ true → StopsAtFronts (commits_as replay called answers ran.draws) (seen_at txn) (core_at desk) desk.disk records
        → StopsAtFronts (called_as replay marks called now) old core disk (reserving over.dealt.reservations ++ records)
    commit_fronts records ends stops plain reads is noted image grown = by (among_or_behind disk.now.seen desk.disk.now.seen image over.dealt.reservations records over.dealt.gained.added grown)
      where
        by : ((over.dealt.reservations ≢ []) × HasSome disk.now.seen over.dealt.reservations image) ⊎ IsGrown desk.disk.now.seen records image
            → (after : Plain) × (IfOk (journal_of image) (IsStored after) × called_as replay marks called now plain (sess_of old reads) after (ended (sess_of old reads)) Stopped)
        by (inl among) = halts_among plain reads is image among.0 among.1
        by (inr behind) =
            let next = stops (with_opening plain desk.opening) (reads_then plain reads) (plain_at desk over.dealt.reservations over.dealt.gained over.dealt.prepared plain is) (noted_then plain is reads noted) image behind in
            (next.0, (next.1.0, commits_on plain next.0 is reads (ended (sess_of old reads)) Stopped ends next.1.1))

    -- a commit that stored nothing has the draws alone
    all_fronts : (records : List Record) → ends_committed answers ≡ true → (records ≢ [] → StopsAtFronts (commits_as replay called answers ran.draws) (seen_at txn) (core_at desk) desk.disk records)
        → reserving over.dealt.reservations ++ records ≢ [] → StopsAtFronts (called_as replay marks called now) old core disk (reserving over.dealt.reservations ++ records)
    all_fronts [] ends stops =
        subst (λ (l : List Record). l ≢ [] → StopsAtFronts (called_as replay marks called now) old core disk l) (sym (append-nil (reserving over.dealt.reservations))) draw_fronts
    all_fronts (one ∷ more) ends stops = λ some. commit_fronts (one ∷ more) ends (stops (some_there one more))

    pub committed_on : (result : Result (Option Down) ServeFault) (new : SeenSession) (later : Core) (end : DiskState) → ends_committed answers ≡ true
        → Serves (commits_as replay called answers ran.draws) 1 result (seen_at txn) (core_at desk) desk.disk new later end → Serves (called_as replay marks called now) most result old core disk new later end
    committed_on (Ok told) new later end ends served = record {
      records = reserving over.dealt.reservations ++ served.records;
      few = simp (length-append, length-map) (omega (arith, few_here, served.few));
      gained = gained_then disk desk.disk end (reserving over.dealt.reservations) served.records over.dealt.gained served.gained;
      fits = served.fits;
      belongs = served.belongs;
      others = λ other apart stays. served.others other apart (others_at desk over.dealt.reservations over.dealt.gained over.dealt.prepared other stays);
      steps = λ plain reads is noted.
          let next = served.steps (with_opening plain desk.opening) (reads_then plain reads) (plain_at desk over.dealt.reservations over.dealt.gained over.dealt.prepared plain is) (noted_then plain is reads noted) in
          let steps = next.1.1 in
          (next.0, (next.1.0, record { reads = steps.reads; noted = steps.noted; steps = commits_on plain next.0 is reads (sess_of new steps.reads) (told_of told) ends steps.steps }));
      fronts = all_fronts served.records ends served.fronts;
    }
    committed_on (Err fault.NoMemory) new later end ends served = record {
      records = reserving over.dealt.reservations ++ served.records;
      few = simp (length-append, length-map) (omega (arith, few_here, served.few));
      moments = grown_then disk desk.disk end disk.now.seen (reserving over.dealt.reservations) served.records over.dealt.gained.moments over.dealt.gained.added served.moments;
      faults = served.faults ∙ over.dealt.gained.faults;
    }
    committed_on (Err fault.Stopped) new later end ends served = (
      record {
        records = reserving over.dealt.reservations ++ served.0.records;
        last = served.0.last;
        few = simp (length-append, length-map) (omega (arith, few_here, served.0.few));
        halted = halted_then disk desk.disk end (reserving over.dealt.reservations) served.0.records served.0.last over.dealt.gained served.0.halted;
        steps = subst (λ (l : List Record). StopsAtFronts (called_as replay marks called now) old core disk l) (sym (append_assoc (reserving over.dealt.reservations) served.0.records (served.0.last ∷ [])))
            (commit_fronts (served.0.records ++ served.0.last ∷ []) ends served.0.steps);
      },
      record { front = served.1.front; grants = served.1.grants },
    )

    -- no memory behind the run
    pub lacked_on : HasLacked most disk desk.disk
    lacked_on = record { records = reserving over.dealt.reservations; few = simp length-map (omega (arith, few_here)); moments = over.dealt.gained.moments; faults = over.dealt.gained.faults }

  -- ---- the run was ended

  -- the store was stopped in a draw
  pub halted_on : (after : AtDesk) → HasHaltedOver now ground before after → HasStopped (called_as replay marks called now) most old core disk after.disk
  halted_on after h =
      let at = h.halted in
      let dealt = h.dealt in
      let few = given_few ground (names_of core.source.sequences) h.given (h.next ∷ h.more) h.asks in
      let means = with_meant (meaning core.tables (names_of core.source.sequences) old.settings old.txn statements (h.given ++ h.next ∷ h.more)) h.asks in
      let halts : HasHalted (reserving dealt.reservations) (kept.Reserved (reservation_of at.name at.upto)) disk after.disk =
      subst (λ (l : List Record). HasHalted l (kept.Reserved (reservation_of at.name at.upto)) disk after.disk) (append-nil (reserving dealt.reservations))
      (halted_then disk h.between.disk after.disk (reserving dealt.reservations) [] (kept.Reserved (reservation_of at.name at.upto)) dealt.gained at.halted) in
      record {
        records = reserving dealt.reservations;
        last = kept.Reserved (reservation_of at.name at.upto);
        few = simp length-map (omega (arith, dealt.few, few));
        halted = halts;
        steps = λ plain reads is noted image grown.
            let all = dealt.reservations ++ reservation_of at.name at.upto ∷ [] in
            let some = grown_some disk.now.seen all image (subst (λ (l : List Record). IsGrown disk.now.seen l image) (sym (map-append (λ (r : Reservation). kept.Reserved r) dealt.reservations (reservation_of at.name at.upto ∷ []))) grown) in
            halts_at (h.given ++ h.next ∷ h.more) (take some.count all)
            (halts_last now before h.between after h.given h.more h.next dealt at some.count (omega (arith, some.within, length-append dealt.reservations (reservation_of at.name at.upto ∷ []))))
            means.0 means.1.0 means.1.1 plain reads is image some.has;
      }

  -- and the core is that of the reservations before it
  pub left_on : (after : AtDesk) → HasHaltedOver now ground before after → StaysTrue core (core_at after) after.disk
  left_on after h =
      let at = h.halted in
      let here = fits_at h.between h.dealt.reservations h.dealt.gained h.dealt.prepared in
      let stays = stays_true (core_at h.between) h.between.disk after.disk after.log here at.ends in
      subst (λ (o : Opening). StaysTrue core (record core { source = o; log = after.log }) after.disk) (sym at.same) (record { front = stays.front; grants = refl })

  pub ended_on : (error : ServeFault) (txn : Transaction) (after : AtDesk) (new : SeenSession) → RunsOver now ground most before (Err error) txn after → Serves (called_as replay marks called now) most (Err error) old core disk new (core_at after) after.disk
  ended_on fault.NoMemory txn after new lacked = lacked
  ended_on fault.Stopped txn after new halted = (halted_on after halted, left_on after halted)
