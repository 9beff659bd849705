-- Frames that store: an outcome, and a line.
use Rattle.std.proofs.Common.{◌≡◌, ◌≤◌, inl, inr, ℕ, ◌+◌, Bool, true, false, not, List, [], ◌∷◌, refl, sym, ◌∙◌, ap, subst, arith}
use Rattle.std.specs.Prelude.{IsTrue, IfOk, Err}
use Rattle.disk_model.specs.Disk.{DiskState}
use Rattle.svc_values.specs.declared.answer.Answer.TheVariants as answer
use Rattle.svc_values.specs.declared.call.Call.{Call}
use Rattle.svc_values.specs.declared.call.Call.TheVariants as call
use Rattle.svc_values.specs.declared.draw.Draw.{Draw}
use Rattle.svc_values.specs.declared.entry.Ltxid.{Ltxid}
use Rattle.svc_values.specs.declared.frame.Down.{Down}
use Rattle.svc_values.specs.declared.frame.Down.TheVariants as down
use Rattle.svc_values.specs.declared.frame.Up.TheVariants as up
use Rattle.svc_values.specs.meaning.Calls.{sequences_in}
use Rattle.ltxid_book.specs.declared.verdict.Verdict.{Verdict}
use Rattle.ltxid_book.specs.meaning.Sessions.{Sessions}
use Rattle.mutable_values.specs.Sources.{Opening}
use Rattle.commit_log.specs.declared.records.Record.{Record}
use Rattle.commit_log.specs.declared.records.Record.TheVariants as kept
use Rattle.commit_log.specs.meaning.Journals.{journal_of}
use Rattle.commit_log.specs.meaning.Rules.{with_record}
use Rattle.stmt_meaning.specs.meaning.Reads.{Read}
use Rattle.server_model.specs.Core.{Core as Plain}
use Rattle.server_model.specs.meaning.Outcomes.{Says, Stopped}
use Rattle.server_model.specs.Outcomes.{down_of, if_blocks, IsTold}
use Rattle.server_model.specs.Sessions.{ended, piece_of}
use Rattle.server_model.specs.Serve.{IsAlter, AlterStops, Asks, is_serving, with_alert}
use Rattle.server_session.specs.declared.shared.Core.{Core}
use Rattle.server_model.specs.declared.fault.ServeFault.{ServeFault}
use Rattle.server_model.specs.declared.fault.ServeFault.TheVariants as fault
use Rattle.server_session.specs.Adding.{IsLeftOf}
use Rattle.server_session.specs.Fits.{Fits, Belongs}
use Rattle.server_session.specs.Plain.{IsStored}
use Rattle.server_session.specs.SeenSession.{SeenSession, sess_of, ended_so}
use Rattle.server_session.specs.Serving.{HasServed, HasLacked, Serves, StopsAtFronts, called_as, served_as}
use Rattle.server_session.specs.Storing.{HasStored, Stores, HasTold, StopsTelling, Tells}
use Rattle.server_session.proofs.Cores.{belongs_with}
use Rattle.server_session.proofs.Gaining.{grown_left}
use Rattle.server_session.proofs.Plains.{is_stored, reads_stored, reads_same, reads_more, stored_alert}
use Rattle.server_session.proofs.Lifting.{serves_quietly}
use Rattle.server_session.proofs.Quiet.{made_more, noting, refuses_alter}
use Rattle.server_session.proofs.Telling.{plain_with}

-- ---- an outcome

asks_fronts : (x : Ltxid) (now : ℕ) (seen : SeenSession) (core : Core) (disk : DiskState) (records : List Record) → IsTrue (is_serving seen.life)
    → StopsTelling x core disk records → StopsAtFronts (served_as (up.Outcome x) now) seen core disk records
asks_fronts x now seen core disk records serving stops plain reads stands noted image grown =
    let next = stops plain stands image grown in
    (next.0, (next.1.0, Asks x next.0 Stopped serving next.1.1))

pub outcome_told : (x : Ltxid) (now : ℕ) (told : Verdict) (answered : Down) (seen : SeenSession) (core : Core) (disk : DiskState) (later : Core) (end : DiskState) → IsTrue (is_serving seen.life) → Belongs core seen
    → answered ≡ down_of told → HasTold x told core disk later end → HasServed (served_as (up.Outcome x) now) 1 (Says answered) seen core disk seen later end
outcome_told x now told answered seen core disk later end serving belongs is tells = record {
  records = tells.records;
  few = tells.few;
  gained = tells.gained;
  fits = tells.fits;
  belongs = tells.belongs seen belongs;
  others = λ other apart stays. tells.belongs other stays;
  steps = λ plain reads stands noted.
      let step = tells.steps plain stands in
      (if_blocks told plain x, (step.1, record { reads = reads; noted = noted; steps = rw is (Asks x (if_blocks told plain x) (Says (down_of told)) serving (IsTold told step.0)) }));
  fronts = λ some. asks_fronts x now seen core disk tells.records serving (tells.fronts some);
}

pub outcome_fault : (x : Ltxid) (now : ℕ) (error : ServeFault) (seen : SeenSession) (core : Core) (disk : DiskState) (later : Core) (end : DiskState) → IsTrue (is_serving seen.life)
    → Tells x (Err error) core disk later end → Serves (served_as (up.Outcome x) now) 1 (Err error) seen core disk seen later end
outcome_fault x now fault.NoMemory seen core disk later end serving tells = tells
outcome_fault x now fault.Stopped seen core disk later end serving tells = (
  record {
    records = [];
    last = kept.Blocked x;
    few = omega arith;
    halted = tells.0.halted;
    steps = asks_fronts x now seen core disk (kept.Blocked x ∷ []) serving tells.0.steps;
  },
  tells.1,
)

-- ---- a line

module _ (line : List ℕ) (replay : Bool) (marks : List Draw) (now : ℕ) (unmarked : IsTrue (not replay)) where
  line_stops : (old : SeenSession) (core : Core) (disk : DiskState) (plain : Plain) (reads : List Read) (image : List ℕ) (fits : Fits core disk) → IsStored plain fits.journal → IsLeftOf disk.now.seen [] (kept.Alert line) image
      → (after : Plain) × (IfOk (journal_of image) (IsStored after) × called_as replay marks (call.Alter line) now plain (sess_of old reads) after (ended (sess_of old reads)) Stopped)
  line_stops old core disk plain reads image fits stands (inl none) =
      (plain, (reads_stored plain image fits.journal (reads_same disk.now.seen image fits.journal fits.reads none) stands, AlterStops line plain unmarked (inl refl)))
  line_stops old core disk plain reads image fits stands (inr one) =
      (with_alert plain line, (reads_stored (with_alert plain line) image (with_record fits.journal (kept.Alert line)) (reads_more disk.now.seen image fits.journal (kept.Alert line) fits.reads one) (stored_alert plain fits.journal line stands), AlterStops line (with_alert plain line) unmarked (inr refl)))

  -- it was stopped without the line or with it
  line_fronts : (old : SeenSession) (core : Core) (disk : DiskState) → Fits core disk → StopsAtFronts (called_as replay marks (call.Alter line) now) old core disk (kept.Alert line ∷ [])
  line_fronts old core disk fits plain reads stands noted image grown = line_stops old core disk plain reads image fits (is_stored plain core disk fits stands) (grown_left disk.now.seen (kept.Alert line) image grown)

  pub line_told : (told : Down) (old new : SeenSession) (core : Core) (disk : DiskState) (later : Core) (end : DiskState) → Fits core disk → Belongs core old
      → told ≡ down.Reply (answer.Done 1 ∷ []) [] old.ltxid → new ≡ noting old (piece_of (call.Alter line) (answer.Done 1 ∷ []) [])
      → HasStored (kept.Alert line) core disk later end → HasServed (called_as replay marks (call.Alter line) now) 1 (Says told) old core disk new later end
  line_told told old new core disk later end fits belongs is seen stored =
      let stays : (other : SeenSession) → Belongs core other → Belongs later other =
      λ other b. belongs_with core later other stored.schemas stored.moves (ap (λ (o : Opening). o.incarnation) stored.source) (ap (λ (s : Sessions). (s.state other.ltxid.incarnation other.ltxid.session).next) stored.book) b in
      let own : Belongs later old = stays old belongs in
      rw (is, seen) (record {
        records = kept.Alert line ∷ [];
        few = omega arith;
        gained = stored.gained;
        fits = stored.fits;
        belongs = record { incarnation = own.incarnation; number = own.number; writes = own.writes; calls = made_more old.txn.pieces _ own.calls refl; holds = own.holds };
        others = λ other apart b. stays other b;
        steps = λ plain reads stands noted. (
          with_alert plain line,
          (
            plain_with plain (with_alert plain line) (kept.Alert line) core disk later end fits stored stands refl refl (stored_alert plain fits.journal line (is_stored plain core disk fits stands)),
            record { reads = reads; noted = noted; steps = IsAlter line unmarked },
          ),
        );
        fronts = λ some. line_fronts old core disk fits;
      })

  pub line_fault : (error : ServeFault) (old new : SeenSession) (core : Core) (disk : DiskState) (later : Core) (end : DiskState) → Fits core disk
      → Stores (kept.Alert line) (Err error) core disk later end → Serves (called_as replay marks (call.Alter line) now) 1 (Err error) old core disk new later end
  line_fault fault.NoMemory old new core disk later end fits stores = stores
  line_fault fault.Stopped old new core disk later end fits stores = (
    record {
      records = [];
      last = kept.Alert line;
      few = omega arith;
      halted = stores.0;
      steps = line_fronts old core disk fits;
    },
    stores.1,
  )

-- a record was stored, and then there was no memory
pub lacks_behind : (most : ℕ) (core : Core) (disk : DiskState) (later : Core) (end : DiskState) (line : List ℕ) → 1 ≤ most → HasStored (kept.Alert line) core disk later end → HasLacked most disk end
lacks_behind most core disk later end line le stored = record { records = kept.Alert line ∷ []; few = omega (arith, le); moments = stored.gained.moments; faults = stored.gained.faults }

-- ---- a line, by what the code makes of it

pub alter_refused : (called : Call) (line : List ℕ) (replay : Bool) (marks : List Draw) (now : ℕ) (old new : SeenSession) (core : Core) (disk : DiskState) → called ≡ call.Alter line → replay ≡ true → new ≡ ended_so old → Fits core disk → Belongs core old
    → HasServed (called_as replay marks called now) (1 + sequences_in (up.Call replay marks called)) (Says (down.Refused 2)) old core disk new core disk
alter_refused called line replay marks now old new core disk is marked seen fits belongs =
    rw (is, marked, seen) (serves_quietly (called_as true marks (call.Alter line) now) 1 (Says (down.Refused 2)) old (ended_so old) core disk (refuses_alter old true marks now line refl) fits belongs)

pub alter_fault : (called : Call) (line : List ℕ) (replay : Bool) (marks : List Draw) (now : ℕ) (error : ServeFault) (old new : SeenSession) (core : Core) (disk : DiskState) (later : Core) (end : DiskState) → called ≡ call.Alter line → replay ≡ false → Fits core disk
    → Stores (kept.Alert line) (Err error) core disk later end → Serves (called_as replay marks called now) (1 + sequences_in (up.Call replay marks called)) (Err error) old core disk new later end
alter_fault called line replay marks now error old new core disk later end is unmarked fits stores =
    subst (λ (k : Call). Serves (called_as replay marks k now) (1 + sequences_in (up.Call replay marks k)) (Err error) old core disk new later end) (sym is)
    (subst (λ (r : Bool). Serves (called_as r marks (call.Alter line) now) (1 + sequences_in (up.Call r marks (call.Alter line))) (Err error) old core disk new later end) (sym unmarked)
    (line_fault line false marks now refl error old new core disk later end fits stores))

pub alter_told : (called : Call) (line : List ℕ) (replay : Bool) (marks : List Draw) (now : ℕ) (told : Down) (old new : SeenSession) (core : Core) (disk : DiskState) (later : Core) (end : DiskState) → called ≡ call.Alter line → replay ≡ false → Fits core disk → Belongs core old
    → told ≡ down.Reply (answer.Done 1 ∷ []) [] old.ltxid → new ≡ noting old (piece_of called (answer.Done 1 ∷ []) []) → HasStored (kept.Alert line) core disk later end
    → HasServed (called_as replay marks called now) (1 + sequences_in (up.Call replay marks called)) (Says told) old core disk new later end
alter_told called line replay marks now told old new core disk later end is unmarked fits belongs said seen stored =
    rw (is, unmarked) (line_told line false marks now refl told old new core disk later end fits belongs said (seen ∙ ap (λ (k : Call). noting old (piece_of k (answer.Done 1 ∷ []) [])) is) stored)
