-- A frame in which the disk failed: what a crash may leave, and the plain server that was stopped
-- with it.
use Rattle.std.proofs.Common.{◌≡◌, ◌∙◌, ◌+◌, ◌≤◌, ℕ, true, false, refl, sym, List, [], ◌∷◌, ◌++◌, length, length-append, arith}
use Rattle.disk_model.specs.Moment.{MayLeave}
use Rattle.disk_model.specs.Disk.{DiskState}
use Rattle.svc_values.specs.declared.frame.Up.{Up}
use Rattle.svc_values.specs.meaning.Calls.{sequences_in}
use Rattle.svc_values.specs.meaning.Identifiers.{session_of}
use Rattle.mutable_values.specs.declared.grants.Grants.{Grants}
use Rattle.commit_log.specs.declared.records.Record.{Record}
use Rattle.commit_log.specs.Growth.{IsGrown}
use Rattle.stmt_meaning.specs.meaning.Reads.{Read}
use Rattle.table_txn.specs.Readings.{AreReadings}
use Rattle.server_model.specs.meaning.Base.{Base}
use Rattle.server_model.specs.meaning.Outcomes.{Stopped}
use Rattle.server_model.specs.Runs.{Happened, Served}
use Rattle.server_model.specs.ServiceCalls.{Adds}
use Rattle.server_session.specs.declared.shared.Core.{Core}
use Rattle.server_session.specs.SeenSession.{SeenSession as Session}
use Rattle.server_session.specs.Serving.{HasStopped, served_as}
use Rattle.server_session.proofs.Offered.{left_grown}
use Rattle.service_calls.specs.Kept.{HaveOneBase}
use Rattle.service_core.specs.declared.notes.Notes.{Notes}
use Rattle.service_core.specs.Held.{Held}
use Rattle.service_core.specs.Seeing.{Came, StandsDown, store_of}
use Rattle.service_core.specs.Sound.{HasFaultRoom, IsDown, IsUp}
use Rattle.service_core.proofs.halts.Fronting.{front_adds, front_base, front_came, front_reads}
use Rattle.service_core.proofs.Taken.{IsReady}

module _ (grants : Grants) (disk end : DiskState) (core : Core) (held : Held) (notes : Notes) (now : ℕ) (frame : Up) (session : Session) (reads : List Read) (noted : AreReadings session.txn.readings reads) (up : IsUp grants disk core held notes)
    (stopped : HasStopped (served_as frame now) (1 + sequences_in frame) session core disk end) (reads_now : MayLeave end.now end.now.seen) where
  -- its records, with the one in which the disk failed
  abbrev all : List Record
  all = stopped.records ++ stopped.last ∷ []

  few : length all ≤ 1 + sequences_in frame
  few = omega (arith, stopped.few, length-append stopped.records (stopped.last ∷ []))

  grown : (image : List ℕ) → MayLeave end.now image → IsGrown disk.now.seen all image
  grown image left = left_grown disk.now.seen stopped.records stopped.last image (stopped.halted.left image left)

  -- the service is down, with these notes
  pub stopped_down : (later : Notes) → notes.calls ≤ later.calls → later.crashes ≡ notes.crashes → later.is_settled ≡ false → HasFaultRoom end.faults later → IsDown end [] later
  stopped_down later calls crashes unsettled counted = record {
    none = refl;
    base = up.fits.journal.base;
    leaves = λ image left. front_reads grants disk core held notes now frame session reads noted up all few stopped.steps later calls image (grown image left);
    faults = counted;
    crashes = omega (arith, up.crashes, calls, crashes);
    reads_now = reads_now;
    settled = λ settled. absurd (let e : false ≡ true = sym unsettled ∙ settled in let no : ⊥ = cc in no);
  }

  pub stopped_base : HaveOneBase disk.now.seen end.now.seen
  stopped_base = front_base grants disk core held notes now frame session reads noted up all few stopped.steps end.now.seen (grown end.now.seen reads_now)

  -- ---- the plain server beside each image

  module _ (rest : Held) (made : ℕ) (start : Base) (history : List Happened) (ready : Came start history (IsReady disk core rest made session)) where
    pub stopped_came : (image : List ℕ) → MayLeave end.now image → Came start (history ++ Served (session_of session.ltxid) now frame Stopped ∷ []) (StandsDown grants false image)
    stopped_came image left = front_came grants disk core held notes now frame session reads noted up all few stopped.steps rest made start history ready image (grown image left)

    pub stopped_adds_at : (image : List ℕ) → MayLeave end.now image → Adds (Served (session_of session.ltxid) now frame Stopped ∷ []) (1 + sequences_in frame) (store_of disk.now.seen) (store_of image)
    stopped_adds_at image left = front_adds grants disk core held notes now frame session reads noted up all few stopped.steps rest made start history ready image (grown image left)
