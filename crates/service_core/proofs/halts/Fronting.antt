-- A frame that counts as stopped behind some of its records: the plain server that was stopped with
-- it, beside each image that holds them.
use Rattle.std.proofs.Common.{◌≡◌, ◌∙◌, ◌+◌, ◌≤◌, ℕ, false, refl, sym, ap, subst, List, [], ◌∷◌, ◌++◌, length, take, arith}
use Rattle.std.proofs.lemmas.List.{length-take-le}
use Rattle.std.specs.Prelude.{◌≢◌, Result, IfOk}
use Rattle.disk_model.specs.Disk.{DiskState}
use Rattle.svc_values.specs.declared.frame.Up.{Up}
use Rattle.svc_values.specs.meaning.Calls.{sequences_in}
use Rattle.svc_values.specs.meaning.Identifiers.{session_of}
use Rattle.mutable_values.specs.declared.grants.Grants.{Grants}
use Rattle.mutable_values.specs.Sources.{Opening}
use Rattle.commit_log.specs.declared.journal.Journal.{Journal}
use Rattle.commit_log.specs.declared.records.Record.{Record}
use Rattle.commit_log.specs.Growth.{HasAdded, IsGrown}
use Rattle.commit_log.specs.meaning.Journals.{journal_of}
use Rattle.stmt_meaning.specs.meaning.Reads.{Read}
use Rattle.table_txn.specs.Readings.{AreReadings}
use Rattle.server_model.specs.meaning.Base.{Base}
use Rattle.server_model.specs.Core.{Core as Plain}
use Rattle.server_model.specs.Laws.{StaysIn}
use Rattle.server_model.specs.meaning.Outcomes.{Stopped}
use Rattle.server_model.specs.Runs.{Happened, Served, Server, On, Halted, Then, Halts, is_running}
use Rattle.server_model.specs.Serve.{Serve}
use Rattle.server_model.specs.ServiceCalls.{Adds}
use Rattle.server_model.specs.Sessions.{Sess, ended}
use Rattle.server_model.proofs.Offered.{stopped_adds, serve_stays}
use Rattle.server_session.specs.declared.shared.Core.{Core}
use Rattle.server_session.specs.Plain.{IsStored}
use Rattle.server_session.specs.SeenSession.{SeenSession as Session, sess_of}
use Rattle.server_session.specs.Serving.{StopsAtFronts, served_as}
use Rattle.service_calls.specs.Kept.{HaveOneBase}
use Rattle.service_core.specs.declared.notes.Notes.{Notes}
use Rattle.service_core.specs.Held.{Held}
use Rattle.service_core.specs.Seeing.{Came, StandsDown, store_of}
use Rattle.service_core.specs.Sound.{IsUp, Reads}
use Rattle.service_core.proofs.Gained.{Grew, added_grew, adds_between, grew_base}
use Rattle.service_core.proofs.Taken.{IsReady, has_plain}

-- ---- what is added

-- The image has the old one's records and some of these.
pub record HasSome (old : List ℕ) (most : ℕ) (image : List ℕ) : Type 0 where
  pub added : List Record
  pub few : length added ≤ most
  pub has : HasAdded old added image

pub has_some : (old : List ℕ) (records : List Record) (most : ℕ) (image : List ℕ) → length records ≤ most → IsGrown old records image → HasSome old most image
has_some old records most image few grown = record { added = take grown.count records; few = omega (arith, few, grown.within, length-take-le grown.count records grown.within); has = grown.has }

-- ---- the service

module _ (grants : Grants) (disk : DiskState) (core : Core) (held : Held) (notes : Notes) (now : ℕ) (frame : Up) (session : Session) (reads : List Read) (noted : AreReadings session.txn.readings reads) (up : IsUp grants disk core held notes)
    (records : List Record) (few : length records ≤ 1 + sequences_in frame) (fronts : StopsAtFronts (served_as frame now) session core disk records) where
  some_in : (image : List ℕ) → IsGrown disk.now.seen records image → HasSome disk.now.seen (1 + sequences_in frame) image
  some_in image grown = has_some disk.now.seen records (1 + sequences_in frame) image few grown

  grew_in : (image : List ℕ) (grown : IsGrown disk.now.seen records image) → Grew disk.now.seen (some_in image grown).added up.fits.journal image
  grew_in image grown = added_grew disk.now.seen (some_in image grown).added up.fits.journal image up.fits.reads (some_in image grown).has

  -- the incarnation is the same in each image
  same_incarnation : (image : List ℕ) (grown : IsGrown disk.now.seen records image) → (grew_in image grown).later.incarnation ≡ core.source.incarnation
  same_incarnation image grown =
      let beside = has_plain core disk up.fits in
      let steps = fronts beside.plain reads beside.stands noted image grown in
      let stays = serve_stays beside.plain (sess_of session reads) now frame steps.0 (ended (sess_of session reads)) Stopped steps.1.1 in
      let stored : IsStored steps.0 (grew_in image grown).later = subst (λ (r : Result Journal ℕ). IfOk r (IsStored steps.0)) (grew_in image grown).reads steps.1.0 in
      sym stored.source.incarnation ∙ stays.incarnation ∙ ap (λ (o : Opening). o.incarnation) beside.stands.opening

  -- each is that of a journal with the base
  pub front_reads : (later : Notes) → notes.calls ≤ later.calls → (image : List ℕ) → IsGrown disk.now.seen records image → Reads up.fits.journal.base later image
  front_reads later calls image grown = let grew = grew_in image grown in record { journal = grew.later; reads = grew.reads; base_is = grew.base_is; room = omega (arith, same_incarnation image grown, up.room, calls) }

  pub front_base : (image : List ℕ) → IsGrown disk.now.seen records image → HaveOneBase disk.now.seen image
  front_base image grown = grew_base disk.now.seen (some_in image grown).added up.fits.journal image up.fits.reads (grew_in image grown)

  -- ---- the plain server beside each image

  module _ (rest : Held) (made : ℕ) (start : Base) (history : List Happened) (ready : Came start history (IsReady disk core rest made session)) where
    old_sess : Sess
    old_sess = sess_of session ready.stands.own.reads

    -- it was stopped with it
    record Stepped (image : List ℕ) : Type 0 where
      pub after : Plain
      pub stored : IfOk (journal_of image) (IsStored after)
      pub step : Serve ready.server.core (sess_of session ready.stands.own.reads) now frame after (ended (sess_of session ready.stands.own.reads)) Stopped

    stepped : (image : List ℕ) → IsGrown disk.now.seen records image → Stepped image
    stepped image grown =
        let steps = fronts ready.server.core ready.stands.own.reads ready.stands.stands.plain ready.stands.own.noted image grown in
        record { after = steps.0; stored = steps.1.0; step = steps.1.1 }

    stays : (image : List ℕ) (one : Stepped image) → StaysIn ready.server.core old_sess one.after (ended old_sess)
    unfolding old_sess
    stays image one = serve_stays ready.server.core old_sess now frame one.after (ended old_sess) Stopped one.step

    server_after : Plain → Server
    server_after after = record { power = Halted; core = after; sessions = ready.stands.own.front ++ ended old_sess ∷ ready.stands.own.back; count = ready.server.count }

    not_on : Halted ≢ On
    not_on same = let no : ⊥ = cc in no

    pub front_came : (image : List ℕ) → IsGrown disk.now.seen records image → Came start (history ++ Served (session_of session.ltxid) now frame Stopped ∷ []) (StandsDown grants false image)
    unfolding old_sess server_after
    front_came image grown =
        let one = stepped image grown in
        record {
          server = server_after one.after;
          runs =
              Then history (Served (session_of session.ltxid) now frame Stopped ∷ []) ready.server (server_after one.after) ready.runs
              (Halts old_sess (ended old_sess) now frame one.after Stopped (server_after one.after) (ap is_running ready.stands.stands.power) one.step
              (record { front = ready.stands.own.front; back = ready.stands.own.back; split = ready.stands.own.split; turned = refl }));
          is_base = (stays image one).base ∙ ready.is_base;
          stands = record { power = not_on; stored = one.stored; grants_are = ap (λ (b : Base). b.grants) (stays image one).base ∙ ready.stands.stands.plain.grants ∙ up.granted };
        }

    pub front_adds : (image : List ℕ) → IsGrown disk.now.seen records image → Adds (Served (session_of session.ltxid) now frame Stopped ∷ []) (1 + sequences_in frame) (store_of disk.now.seen) (store_of image)
    unfolding old_sess
    front_adds image grown =
        let one = stepped image grown in
        let grew = grew_in image grown in
        adds_between (Served (session_of session.ltxid) now frame Stopped) (1 + sequences_in frame) ready.server.core one.after (stopped_adds ready.server.core old_sess now frame one.after (ended old_sess) Stopped one.step) disk.now.seen image (some_in image grown).added
        up.fits.journal grew.later up.fits.reads grew.reads (subst (λ (r : Result Journal ℕ). IfOk r (IsStored ready.server.core)) up.fits.reads ready.stands.stands.plain.stored)
        (subst (λ (r : Result Journal ℕ). IfOk r (IsStored one.after)) grew.reads one.stored) (record { base = (stays image one).base; incarnation = (stays image one).incarnation; horizon = (stays image one).horizon }) (some_in image grown).has (some_in image grown).few
