-- What a crash leaves of a service.
use Rattle.std.proofs.Common.{◌≡◌, ◌∙◌, ◌⊎◌, ◌+◌, ◌≤◌, ℕ, Bool, true, false, refl, sym, ap, subst, inl, inr, List, [], append-nil, arith}
use Rattle.std.specs.Prelude.{Option, Some, None, Result, Ok, is_some, if◌then◌else◌}
use Rattle.disk_model.specs.Moment.{MayLeave}
use Rattle.disk_model.specs.Disk.{DiskState, IsSettled}
use Rattle.redo_store.specs.Records.{record_count}
use Rattle.redo_store.specs.Store.{IsStore}
use Rattle.redo_store.specs.meaning.Records.{records_of}
use Rattle.mutable_values.specs.declared.grants.Grants.{Grants}
use Rattle.commit_log.specs.declared.base.Base.{Base as Begun}
use Rattle.commit_log.specs.declared.journal.Journal.{Journal}
use Rattle.commit_log.specs.meaning.Journals.{journal_of, so_far_of}
use Rattle.server_model.specs.meaning.Base.{Base}
use Rattle.server_model.specs.Runs.{Happened, Server, Off, Runs, Then, Falls}
use Rattle.server_model.specs.meaning.ServiceCalls.{is_failover}
use Rattle.server_model.specs.ServiceCalls.{Crashed}
use Rattle.server_session.specs.declared.shared.Core.{Core}
use Rattle.server_session.specs.Fits.{Fits}
use Rattle.service_calls.specs.Kept.{Goes, HaveOneBase}
use Rattle.service_core.specs.declared.notes.Notes.{Notes}
use Rattle.service_core.specs.Held.{Held}
use Rattle.service_core.specs.Within.{Within}
use Rattle.service_core.specs.Seeing.{store_of, StandsDown, Stands, SeesIn}
use Rattle.service_core.specs.Sound.{HasFaultRoom, HasRoom, IsUp, IsSound, IsSoundWithin, Reads}
use Rattle.service_core.proofs.Standing.{goes_from}
use Rattle.service_core.proofs.Faulty.{still_room}

-- What a crash with this pick leaves of a disk.
pub record IsFallen (old new : DiskState) : Type 0 where
  pub left : MayLeave old.now new.now.seen
  pub durable : IsSettled new
  pub reads_now : MayLeave new.now new.now.seen
  pub stop : new.stop ≡ None
  pub faults : new.faults ≡ old.faults
  pub quiet : new.quiet ≡ old.quiet

-- the notes of a service that crashed
abbrev pub fallen : Notes → ℕ → Notes
fallen notes pick = record notes { is_settled = true; is_opened = false; crashes = notes.crashes + 1; last_pick = Some pick; last_stop = notes.kept; calls = notes.calls + 1 }

abbrev pub fallen_from : Within → DiskState → ℕ → Within
fallen_from old end pick = record old { disk = end; core = None; held = []; notes = fallen old.notes pick }

-- ---- the bases

-- two images of journals with one base
pub one_base : (base : Begun) (notes other : Notes) (old new : List ℕ) → Reads base notes old → Reads base other new → HaveOneBase old new
one_base base notes other old new first second journal later reads reads_later =
    let e : ◌≡◌ {A = Result Journal ℕ} (Ok first.journal) (Ok journal) = sym first.reads ∙ reads in
    let f : ◌≡◌ {A = Result Journal ℕ} (Ok second.journal) (Ok later) = sym second.reads ∙ reads_later in
    let here : first.journal ≡ journal = cc in
    let there : second.journal ≡ later = cc in
    ap (λ (j : Journal). j.base) (sym there) ∙ second.base_is ∙ sym first.base_is ∙ ap (λ (j : Journal). j.base) here

-- what a service that is up reads
pub reads_up : (grants : Grants) (disk : DiskState) (core : Core) (held : Held) (notes : Notes) → (up : IsUp grants disk core held notes) → Reads up.fits.journal.base notes disk.now.seen
reads_up grants disk core held notes up = record { journal = up.fits.journal; reads = up.fits.reads; base_is = refl; room = subst (λ (n : ℕ). HasRoom n notes) up.fits.source.incarnation up.room }

-- the same one call later
pub reads_later : (base : Begun) (notes later : Notes) (image : List ℕ) → later.calls ≡ notes.calls + 1 → Reads base notes image → Reads base later image
reads_later base notes later image more read = record { journal = read.journal; reads = read.reads; base_is = read.base_is; room = omega (arith, read.room, more) }

-- ---- the image

-- nothing was pending on the disk of a service that was up, or settled
left_whole : (grants : Grants) (disk end : DiskState) (core : Option Core) (held : Held) (notes : Notes) → IsSound grants disk core held notes → IsFallen disk end → (is_some core ≡ true) ⊎ (notes.is_settled ≡ true) → end.now.seen ≡ disk.now.seen
left_whole grants disk end None held notes down fall (inl up) = absurd (cc)
left_whole grants disk end None held notes down fall (inr settled) = down.settled settled end.now.seen fall.left
left_whole grants disk end (Some core) held notes up fall whole = up.fits.log.append.settled end.now.seen fall.left

-- what it is read as: an image that the old disk may leave
fallen_reads : (grants : Grants) (disk end : DiskState) (core : Option Core) (held : Held) (notes : Notes) (pick : ℕ) → IsSound grants disk core held notes → IsFallen disk end
    → (base : Begun) × (Reads base notes disk.now.seen × Reads base (fallen notes pick) end.now.seen)
fallen_reads grants disk end None held notes pick down fall =
    (down.base, (down.leaves disk.now.seen down.reads_now, reads_later down.base notes (fallen notes pick) end.now.seen refl (down.leaves end.now.seen fall.left)))
fallen_reads grants disk end (Some core) held notes pick up fall =
    let read = reads_up grants disk core held notes up in (
      up.fits.journal.base,
      (
        read,
        reads_later up.fits.journal.base notes (fallen notes pick) end.now.seen refl
            (subst (λ (i : List ℕ). Reads up.fits.journal.base notes i) (sym (up.fits.log.append.settled end.now.seen fall.left)) read),
      ),
    )

-- a core fits each disk with the same bytes, on which nothing is pending
pub fits_over : (core : Core) (old new : DiskState) → new.now.seen ≡ old.now.seen → IsSettled new → Fits core old → Fits core new
fits_over core old new same settled fits =
    let log = fits.log in
    record {
      log = record {
        append = record {
          live = log.append.live;
          store = subst (λ (image : List ℕ). IsStore core.log.redo.tail image) (sym same) log.append.store;
          counted = log.append.counted ∙ ap (λ (image : List ℕ). record_count (records_of image)) (sym same);
          settled = settled;
        };
        journal = log.journal;
        so_far = ap so_far_of same ∙ log.so_far;
      };
      journal = fits.journal;
      reads = ap journal_of same ∙ fits.reads;
      tables = fits.tables;
      book = fits.book;
      source = fits.source;
      sequences = fits.sequences;
      current = fits.current;
    }

pub few_crashes : (grants : Grants) (disk : DiskState) (core : Option Core) (held : Held) (notes : Notes) → IsSound grants disk core held notes → notes.crashes ≤ notes.calls
few_crashes grants disk None held notes down = down.crashes
few_crashes grants disk (Some core) held notes up = up.crashes

pub counted : (grants : Grants) (disk : DiskState) (core : Option Core) (held : Held) (notes : Notes) → IsSound grants disk core held notes → HasFaultRoom disk.faults notes
counted grants disk None held notes down = down.faults
counted grants disk (Some core) held notes up = up.faults

-- what it keeps to afterwards
pub falls_soundly : (old : Within) (end : DiskState) (pick : ℕ) → IsSoundWithin old → IsFallen old.disk end → IsSoundWithin (fallen_from old end pick)
falls_soundly old end pick sound fall =
    let read = fallen_reads old.grants old.disk end old.core old.held old.notes pick sound fall in
    record {
      none = refl;
      base = read.0;
      leaves = λ image leaves. subst (λ (i : List ℕ). Reads read.0 (fallen old.notes pick) i) (sym (fall.durable image leaves)) read.1.1;
      faults = still_room old.disk.faults end.faults old.notes (fallen old.notes pick) (counted old.grants old.disk old.core old.held old.notes sound) fall.faults (omega arith) refl;
      crashes = omega (arith, few_crashes old.grants old.disk old.core old.held old.notes sound);
      reads_now = fall.reads_now;
      settled = λ settled. fall.durable;
    }

-- ---- the plain server

abbrev pub off : Server → Server
off server = record { power = Off; core = server.core; sessions = []; count = 0 }

pub falls : (start : Base) (history : List Happened) (server : Server) → Runs start history server → Runs start history (off server)
falls start history server runs = subst (λ (h : List Happened). Runs start h (off server)) (append-nil history) (Then history [] server (off server) runs Falls)

fallen_stands : (grants : Grants) (disk end : DiskState) (core : Option Core) (held : Held) (notes : Notes) (pick : ℕ) (start : Base) (history : List Happened) → IsSound grants disk core held notes → IsFallen disk end
    → Stands grants disk core held notes start history → Stands grants end None [] (fallen notes pick) start history
fallen_stands grants disk end None held notes pick start history down fall stands image leaves =
    let came = stands end.now.seen fall.left in
    record {
      server = off came.server;
      runs = falls start history came.server came.runs;
      is_base = came.is_base;
      stands = subst (λ (i : List ℕ). StandsDown grants true i (off came.server)) (sym (fall.durable image leaves)) (record { power = refl; stored = came.stands.stored; grants_are = came.stands.grants_are });
    }
fallen_stands grants disk end (Some core) held notes pick start history up fall stands image leaves =
    let seen : image ≡ disk.now.seen = fall.durable image leaves ∙ up.fits.log.append.settled end.now.seen fall.left in
    record {
      server = off stands.server;
      runs = falls start history stands.server stands.runs;
      is_base = stands.is_base;
      stands = subst (λ (i : List ℕ). StandsDown grants true i (off stands.server)) (sym seen) (record { power = refl; stored = stands.stands.plain.stored; grants_are = stands.stands.plain.grants ∙ up.granted });
    }

-- one store takes four calls a record before a crash and after it
same_calls : (failover : Bool) → ◌≡◌ {A = ℕ} 4 (if failover then 4 else 4)
same_calls true = refl
same_calls false = refl

pub crashes : (old : Within) (end : DiskState) (pick : ℕ) → old.notes.is_spent ≡ false → IsSoundWithin old → IsFallen old.disk end → Goes (SeesIn old) (SeesIn (fallen_from old end pick)) (λ before after. Crashed before pick after)
crashes old end pick live sound fall =
    goes_from old (fallen_from old end pick) (λ before after. Crashed before pick after) live (falls_soundly old end pick sound fall)
    (λ start history stands. record {
      later = history;
      stands = fallen_stands old.grants old.disk end old.core old.held old.notes pick start history sound fall stands;
      does = record {
        start = refl;
        history = refl;
        store = λ whole. ap store_of (left_whole old.grants old.disk end old.core old.held old.notes sound fall whole);
        down = (refl, refl, refl);
        living = λ connection. refl;
        is_quiet = fall.quiet;
        faults = omega (arith, fall.faults);
        stop = (fall.stop, refl);
        per_record = same_calls (is_failover pick);
        crashes = (refl, refl, refl);
        calls = refl;
        is_spent = live;
      };
    })
