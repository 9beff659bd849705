-- What a second store asks of a service leaves it sound.
use Rattle.std.proofs.Common.{◌≡◌, ◌∙◌, ◌+◌, ◌≤◌, ◌<◌, ◌-◌, ◌^◌, ℕ, Bool, true, false, refl, sym, subst, List, arith}
use Rattle.std.proofs.Math.Nat.{min-le_left}
use Rattle.std.specs.Prelude.{Option, Some, None, Result, Ok, Err}
use Rattle.disk_model.specs.Moment.{DiskMoment, MayLeave}
use Rattle.disk_model.specs.Disk.{DiskState, OnlyReads, with_fault}
use Rattle.redo_store.specs.meaning.Records.{records_of}
use Rattle.mutable_values.specs.declared.grants.Grants.{Grants}
use Rattle.commit_log.specs.declared.base.Base.{Base as Begun}
use Rattle.commit_log.specs.declared.journal.Journal.{Journal}
use Rattle.commit_log.specs.meaning.Journals.{journal_of}
use Rattle.server_session.specs.declared.shared.Core.{Core}
use Rattle.service_core.specs.declared.notes.Notes.{Notes}
use Rattle.service_core.specs.Held.{Held}
use Rattle.service_core.specs.Shipping.{halted, read_once, taken}
use Rattle.service_core.specs.Sound.{HasFaultRoom, IsSound, IsSoundWithin, Reads}
use Rattle.service_core.specs.Within.{Within}
use Rattle.service_core.proofs.Falling.{counted, few_crashes}
use Rattle.service_core.proofs.Gained.{has_records}
use Rattle.service_core.proofs.Read.{left_reads}

-- ---- what it reads is whole

not_damaged : (image : List ℕ) (journal : Journal) (at : ℕ) → journal_of image ≡ Ok journal → records_of image ≡ Err at → ⊥
not_damaged image journal at reads damaged =
    let found = has_records image journal reads in
    let e : ◌≡◌ {A = Result (List (List ℕ)) ℕ} (Ok found.payloads) (Err at) = sym found.are ∙ damaged in
    let no : ⊥ = cc in no

pub reads_whole : (service : Within) → IsSoundWithin service → MayLeave service.disk.now service.disk.now.seen → (at : ℕ) → records_of service.disk.now.seen ≡ Err at → ⊥
reads_whole service sound reads_now at damaged =
    let left = left_reads service.grants service.disk service.core service.held service.notes sound in
    let read = left.1 service.disk.now.seen reads_now in
    not_damaged service.disk.now.seen read.journal at read.reads damaged

-- ---- it stays sound

-- one reading more
once_more : (count : ℕ) (notes : Notes) → HasFaultRoom count notes → notes.reads < notes.calls → HasFaultRoom count (record notes { reads = notes.reads + 1 })
once_more count notes room less = (omega (arith, room.0), omega (arith, less))

failed_more : (count later : ℕ) (notes : Notes) → HasFaultRoom count notes → notes.reads < notes.calls → later ≡ with_fault count → HasFaultRoom later (record notes { reads = notes.reads + 1 })
failed_more count later notes room less is = (omega (arith, room.0, is, min-le_left (count + 1) (2 ^ 64 - 1)), omega (arith, less))

read_soundly_in : (grants : Grants) (disk : DiskState) (core : Option Core) (held : Held) (notes : Notes) → notes.reads < notes.calls → IsSound grants disk core held notes → IsSound grants disk core held (record notes { reads = notes.reads + 1 })
read_soundly_in grants disk None held notes less down = record {
  none = down.none;
  base = down.base;
  leaves = λ image left. let read = down.leaves image left in record { journal = read.journal; reads = read.reads; base_is = read.base_is; room = read.room };
  faults = once_more disk.faults notes down.faults less;
  crashes = down.crashes;
  reads_now = down.reads_now;
  settled = down.settled;
}
read_soundly_in grants disk (Some core) held notes less up = record {
  fits = up.fits;
  granted = up.granted;
  faults = once_more disk.faults notes up.faults less;
  settled = up.settled;
  room = up.room;
  few = up.few;
  crashes = up.crashes;
  each = up.each;
  counted = up.counted;
  unmade_belong = up.unmade_belong;
  apart = up.apart;
}

pub read_soundly : (old : Within) → old.notes.reads < old.notes.calls → IsSoundWithin old → IsSoundWithin (read_once old)
read_soundly old less sound = read_soundly_in old.grants old.disk old.core old.held old.notes less sound

-- over a disk whose images are those of journals with one base
pub taken_soundly : (old : Within) (disk : DiskState) (base : Begun) → ((image : List ℕ) → MayLeave disk.now image → Reads base old.notes image) → HasFaultRoom disk.faults old.notes → old.notes.crashes ≤ old.notes.calls
    → MayLeave disk.now disk.now.seen → IsSoundWithin (taken old disk)
taken_soundly old disk base journals room crashes reads_now = record {
  none = refl;
  base = base;
  leaves = λ image left. let read = journals image left in record { journal = read.journal; reads = read.reads; base_is = read.base_is; room = read.room };
  faults = room;
  crashes = crashes;
  reads_now = reads_now;
  settled = λ settled. absurd (let e : ◌≡◌ {A = Bool} false true = settled in cc);
}

pub crashes_few : (old : Within) → IsSoundWithin old → old.notes.crashes ≤ old.notes.calls
crashes_few old sound = few_crashes old.grants old.disk old.core old.held old.notes sound

pub halted_soundly : (old : Within) → IsSoundWithin old → MayLeave old.disk.now old.disk.now.seen → IsSoundWithin (halted old)
halted_soundly old sound reads_now =
    let left = left_reads old.grants old.disk old.core old.held old.notes sound in
    taken_soundly old old.disk left.0 left.1 (counted old.grants old.disk old.core old.held old.notes sound) (crashes_few old sound) reads_now

pub failed_soundly : (old : Within) (disk : DiskState) → old.notes.reads < old.notes.calls → IsSoundWithin old → (fault : Type 0) → fault → OnlyReads fault old.disk disk → MayLeave disk.now disk.now.seen → IsSoundWithin (taken (read_once old) disk)
failed_soundly old disk less sound fault stopped reads reads_now =
    let left = left_reads old.grants old.disk old.core old.held old.notes sound in
    taken_soundly (read_once old) disk left.0
    (λ image leaves. let read = left.1 image (subst (λ (m : DiskMoment). MayLeave m image) reads.same.now leaves) in record { journal = read.journal; reads = read.reads; base_is = read.base_is; room = read.room })
    (failed_more old.disk.faults disk.faults old.notes (counted old.grants old.disk old.core old.held old.notes sound) less (reads.cause.counted stopped)) (crashes_few old sound) reads_now
