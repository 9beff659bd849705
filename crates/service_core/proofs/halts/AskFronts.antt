-- An outcome whose asking counts as stopped behind some of its records: the plain server that was
-- stopped with it, beside each image that holds them.
use Rattle.std.proofs.Common.{◌≡◌, ◌≢◌, ◌∙◌, ◌≤◌, ℕ, false, sym, ap, subst, List, [], ◌∷◌, ◌++◌, length, arith}
use Rattle.std.specs.Prelude.{Result, IfOk}
use Rattle.disk_model.specs.Disk.{DiskState}
use Rattle.svc_values.specs.declared.entry.Ltxid.{Ltxid}
use Rattle.mutable_values.specs.declared.grants.Grants.{Grants}
use Rattle.mutable_values.specs.Sources.{Opening}
use Rattle.commit_log.specs.declared.journal.Journal.{Journal}
use Rattle.commit_log.specs.declared.records.Record.{Record}
use Rattle.commit_log.specs.Growth.{IsGrown}
use Rattle.commit_log.specs.meaning.Journals.{journal_of}
use Rattle.server_model.specs.meaning.Base.{Base}
use Rattle.server_model.specs.Core.{Core as Plain}
use Rattle.server_model.specs.meaning.Outcomes.{Stopped}
use Rattle.server_model.specs.Outcomes.{Outcomes, BlockStops}
use Rattle.server_model.specs.Runs.{Happened, Asked, On, Halted, Then, HaltsInAsk, is_running}
use Rattle.server_model.specs.ServiceCalls.{AddsBlock}
use Rattle.server_session.specs.declared.shared.Core.{Core}
use Rattle.server_session.specs.Plain.{IsStored, IsPlain}
use Rattle.server_session.specs.Storing.{StopsTelling}
use Rattle.service_calls.specs.Kept.{HaveOneBase}
use Rattle.service_core.specs.declared.notes.Notes.{Notes}
use Rattle.service_core.specs.Held.{Held}
use Rattle.service_core.specs.Seeing.{Came, StandsDown, StandsUp, store_of}
use Rattle.service_core.specs.Sound.{IsUp, Reads}
use Rattle.service_core.proofs.Blocking.{MayBlock, adds_block, block_stays}
use Rattle.service_core.proofs.halts.Fronting.{HasSome, has_some}
use Rattle.service_core.proofs.Gained.{Grew, added_grew, grew_base}
use Rattle.service_core.proofs.Taken.{has_plain}

module _ (grants : Grants) (disk : DiskState) (core : Core) (held : Held) (notes : Notes) (x : Ltxid) (up : IsUp grants disk core held notes) (records : List Record) (few : length records ≤ 1) (fronts : StopsTelling x core disk records) where
  stored_before : (plain : Plain) → IsPlain plain core disk → IsStored plain up.fits.journal
  stored_before plain is = subst (λ (r : Result Journal ℕ). IfOk r (IsStored plain)) up.fits.reads is.stored

  some_in : (image : List ℕ) → IsGrown disk.now.seen records image → HasSome disk.now.seen 1 image
  some_in image grown = has_some disk.now.seen records 1 image few grown

  grew_in : (image : List ℕ) (grown : IsGrown disk.now.seen records image) → Grew disk.now.seen (some_in image grown).added up.fits.journal image
  grew_in image grown = added_grew disk.now.seen (some_in image grown).added up.fits.journal image up.fits.reads (some_in image grown).has

  -- the plain server was stopped with it
  record Halting (plain : Plain) (image : List ℕ) : Type 0 where
    pub after : Plain
    pub may : MayBlock x plain after
    pub outcomes : Outcomes plain x after Stopped
    pub stored : IfOk (journal_of image) (IsStored after)

  blocks : (plain after : Plain) → Outcomes plain x after Stopped → MayBlock x plain after
  blocks plain _ (BlockStops stored judged may) = may

  halting : (plain : Plain) (image : List ℕ) → IsPlain plain core disk → IsGrown disk.now.seen records image → Halting plain image
  halting plain image is grown = let steps = fronts plain is image grown in record { after = steps.0; may = blocks plain steps.0 steps.1.1; outcomes = steps.1.1; stored = steps.1.0 }

  stored_in : (image : List ℕ) (grown : IsGrown disk.now.seen records image) (plain : Plain) (one : Halting plain image) → IsStored one.after (grew_in image grown).later
  stored_in image grown plain one = subst (λ (r : Result Journal ℕ). IfOk r (IsStored one.after)) (grew_in image grown).reads one.stored

  still_incarnation : (image : List ℕ) (grown : IsGrown disk.now.seen records image) → (grew_in image grown).later.incarnation ≡ core.source.incarnation
  still_incarnation image grown =
      let beside = has_plain core disk up.fits in
      let one = halting beside.plain image beside.stands grown in
      sym (stored_in image grown beside.plain one).source.incarnation ∙ (block_stays x beside.plain one.after one.may).incarnation ∙ ap (λ (o : Opening). o.incarnation) beside.stands.opening

  -- each is that of a journal with the base
  pub ask_reads : (later : Notes) → notes.calls ≤ later.calls → (image : List ℕ) → IsGrown disk.now.seen records image → Reads up.fits.journal.base later image
  ask_reads later calls image grown = let grew = grew_in image grown in record { journal = grew.later; reads = grew.reads; base_is = grew.base_is; room = omega (arith, still_incarnation image grown, up.room, calls) }

  pub ask_base : (image : List ℕ) → IsGrown disk.now.seen records image → HaveOneBase disk.now.seen image
  ask_base image grown = grew_base disk.now.seen (some_in image grown).added up.fits.journal image up.fits.reads (grew_in image grown)

  module _ (start : Base) (history : List Happened) (came : Came start history (StandsUp disk core held notes.sessions)) where
    not_on : Halted ≢ On
    not_on is = let no : ⊥ = cc in no

    pub ask_came : (image : List ℕ) → IsGrown disk.now.seen records image → Came start (history ++ Asked x Stopped ∷ []) (StandsDown grants false image)
    ask_came image grown =
        let one = halting came.server.core image came.stands.plain grown in
        let stays = block_stays x came.server.core one.after one.may in
        record {
          server = record came.server { power = Halted; core = one.after };
          runs = Then history (Asked x Stopped ∷ []) came.server (record came.server { power = Halted; core = one.after }) came.runs (HaltsInAsk x one.after Stopped (ap is_running came.stands.power) one.outcomes);
          is_base = stays.base ∙ came.is_base;
          stands = record { power = not_on; stored = one.stored; grants_are = ap (λ (b : Base). b.grants) stays.base ∙ came.stands.plain.grants ∙ up.granted };
        }

    pub ask_adds : (image : List ℕ) → IsGrown disk.now.seen records image → AddsBlock x (store_of disk.now.seen) (store_of image)
    ask_adds image grown =
        let one = halting came.server.core image came.stands.plain grown in
        adds_block x came.server.core one.after one.may disk.now.seen image (some_in image grown).added up.fits.journal (grew_in image grown).later up.fits.reads (grew_in image grown).reads
        (stored_before came.server.core came.stands.plain) (stored_in image grown came.server.core one) (some_in image grown).has (some_in image grown).few
