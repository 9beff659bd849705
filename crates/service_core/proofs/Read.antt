-- What a service is seen as after a call that only read its store, answered or stopped.
use Rattle.std.proofs.Common.{◌≡◌, ◌≢◌, ◌∙◌, ◌<◌, ◌^◌, ℕ, Bool, true, false, refl, sym, ap, subst, List, [], arith}
use Rattle.std.specs.Prelude.{Option, Some, None, Result, Ok, Err, IsErrOf}
use Rattle.disk_model.specs.Moment.{DiskMoment, MayLeave}
use Rattle.disk_model.specs.Disk.{DiskState, IsSettled, OnlyReads, with_fault}
use Rattle.mutable_values.specs.declared.grants.Grants.{Grants}
use Rattle.commit_log.specs.declared.base.Base.{Base as Begun}
use Rattle.server_model.specs.meaning.Base.{Base}
use Rattle.server_model.specs.Runs.{Happened}
use Rattle.server_model.specs.ServiceCalls.{Looked, StoppedLook}
use Rattle.server_session.specs.declared.shared.Core.{Core}
use Rattle.service_calls.specs.Kept.{Goes}
use Rattle.service_core.specs.declared.notes.Notes.{Notes}
use Rattle.service_core.specs.Held.{Held}
use Rattle.service_core.specs.Within.{Within}
use Rattle.service_core.specs.Seeing.{store_of, StandsDown, Stands, SeesIn, called}
use Rattle.service_core.specs.Sound.{IsSound, IsSoundWithin, Reads}
use Rattle.service_core.proofs.Falling.{reads_up, reads_later, few_crashes, counted, off, falls}
use Rattle.service_core.proofs.Faulty.{rises, never_falls, still_counted, read_same}
use Rattle.service_core.proofs.Standing.{goes_from, stays_soundly}

-- ---- an answer

-- after one call more, on this disk
abbrev pub looked_from : Within → DiskState → Within
looked_from old new = record old { disk = new; notes = called old.notes }

still_stands : (grants : Grants) (disk : DiskState) (core : Option Core) (held : Held) (notes : Notes) (start : Base) (history : List Happened) → Stands grants disk core held notes start history → Stands grants disk core held (called notes) start history
still_stands grants disk None held notes start history stands = stands
still_stands grants disk (Some core) held notes start history stands = record {
  server = stands.server;
  runs = stands.runs;
  is_base = stands.is_base;
  stands = record { power = stands.stands.power; plain = stands.stands.plain; count = stands.stands.count; attends = stands.stands.attends };
}

looks_here : (old : Within) → old.notes.is_spent ≡ false → IsSoundWithin old → Goes (SeesIn old) (SeesIn (looked_from old old.disk)) Looked
looks_here old live sound =
    goes_from old (looked_from old old.disk) Looked live (stays_soundly old sound)
    (λ start history stands. record {
      later = history;
      stands = still_stands old.grants old.disk old.core old.held old.notes start history stands;
      does = record {
        keeps = record {
          start = refl;
          is_opened = refl;
          is_quiet = refl;
          per_record = refl;
          crashes = (refl, refl, refl);
          faults = omega arith;
          stop = λ none. none;
          calls = refl;
          is_spent = live;
        };
        keeps_store = record { history = refl; store = refl; is_settled = refl; is_up = refl; sessions = refl; kept = refl };
        living = λ connection. refl;
        cause = record { rose = λ stopped. absurd (let e : ◌≡◌ {A = Bool} false true = stopped in cc); quiet = λ is_quiet changed. absurd (changed refl) };
      };
    })

-- a call that was answered left the disk as it was
pub answered_same : {A E : Type 0} (answer : A) (fault : E) (old new : DiskState) → OnlyReads (IsErrOf {T = A} {E = E} (Ok answer) fault) old new → new ≡ old
answered_same {A} {E} answer fault old new reads = read_same (IsErrOf {T = A} {E = E} (Ok answer) fault) old new reads (λ stopped. absurd (let e : ◌≡◌ {A = Result A E} (Ok answer) (Err fault) = stopped in cc))

pub looks_soundly : (old : Within) (new : DiskState) → new ≡ old.disk → IsSoundWithin old → IsSoundWithin (looked_from old new)
looks_soundly old new same sound = subst (λ (d : DiskState). IsSoundWithin (looked_from old d)) (sym same) (stays_soundly old sound)

pub looks : (old : Within) (new : DiskState) → new ≡ old.disk → old.notes.is_spent ≡ false → IsSoundWithin old → Goes (SeesIn old) (SeesIn (looked_from old new)) Looked
looks old new same live sound = subst (λ (d : DiskState). Goes (SeesIn old) (SeesIn (looked_from old d)) Looked) (sym same) (looks_here old live sound)

-- ---- a stop

abbrev pub lost_from : Within → DiskState → Within
lost_from old new = record old { disk = new; core = None; held = []; notes = called old.notes }

-- what a reading that was stopped says of its disk
pub record IsLost (old new : DiskState) : Type 0 where
  pub now : new.now ≡ old.now
  pub stop : new.stop ≡ old.stop
  pub faults : new.faults ≡ with_fault old.faults
  pub at_stop : old.quiet ≡ true → new.stop ≡ Some 0
  pub quiet : new.quiet ≡ old.quiet
  pub reads_now : MayLeave new.now new.now.seen

pub is_lost : (fault : Type 0) (old new : DiskState) → fault → OnlyReads fault old new → MayLeave new.now new.now.seen → IsLost old new
is_lost fault old new stopped reads reads_now = record {
  now = reads.same.now;
  stop = reads.stop;
  faults = reads.cause.counted stopped;
  at_stop = λ quiet. reads.cause.at_stop quiet stopped;
  quiet = reads.cause.still_quiet;
  reads_now = reads_now;
}

-- each image that a crash may leave is that of a journal with one base
pub left_reads : (grants : Grants) (disk : DiskState) (core : Option Core) (held : Held) (notes : Notes) → IsSound grants disk core held notes → (base : Begun) × ((image : List ℕ) → MayLeave disk.now image → Reads base notes image)
left_reads grants disk None held notes down = (down.base, down.leaves)
left_reads grants disk (Some core) held notes up =
    (up.fits.journal.base, λ image left. subst (λ (i : List ℕ). Reads up.fits.journal.base notes i) (sym (up.fits.log.append.settled image left)) (reads_up grants disk core held notes up))

pub settled_in : (grants : Grants) (disk : DiskState) (core : Option Core) (held : Held) (notes : Notes) → IsSound grants disk core held notes → notes.is_settled ≡ true → IsSettled disk
settled_in grants disk None held notes down settled = down.settled settled
settled_in grants disk (Some core) held notes up settled = up.fits.log.append.settled

pub loses_soundly : (old : Within) (new : DiskState) → IsSoundWithin old → IsLost old.disk new → IsSoundWithin (lost_from old new)
loses_soundly old new sound lost =
    let left = left_reads old.grants old.disk old.core old.held old.notes sound in
    record {
      none = refl;
      base = left.0;
      leaves = λ image leaves. reads_later left.0 old.notes (called old.notes) image refl (left.1 image (subst (λ (m : DiskMoment). MayLeave m image) lost.now leaves));
      faults = still_counted old.disk.faults new.faults old.notes (called old.notes) (counted old.grants old.disk old.core old.held old.notes sound) lost.faults refl refl;
      crashes = omega (arith, few_crashes old.grants old.disk old.core old.held old.notes sound);
      reads_now = lost.reads_now;
      settled = λ settled. subst (λ (m : DiskMoment). (image : List ℕ) → MayLeave m image → image ≡ m.seen) (sym lost.now) (settled_in old.grants old.disk old.core old.held old.notes sound settled);
    }

lost_stands : (grants : Grants) (disk : DiskState) (core : Option Core) (held : Held) (notes : Notes) (start : Base) (history : List Happened) → IsSound grants disk core held notes
    → Stands grants disk core held notes start history → Stands grants disk None [] (called notes) start history
lost_stands grants disk None held notes start history down stands image leaves = stands image leaves
lost_stands grants disk (Some core) held notes start history up stands image leaves = record {
  server = off stands.server;
  runs = falls start history stands.server stands.runs;
  is_base = stands.is_base;
  stands = subst (λ (b : Bool). StandsDown grants b image (off stands.server)) (sym up.settled)
      (subst (λ (i : List ℕ). StandsDown grants true i (off stands.server)) (sym (up.fits.log.append.settled image leaves))
      (record { power = refl; stored = stands.stands.plain.stored; grants_are = stands.stands.plain.grants ∙ up.granted }));
}

-- the same beside a disk whose moment is the same
moved_stands : (grants : Grants) (disk new : DiskState) (notes : Notes) (start : Base) (history : List Happened) → new.now ≡ disk.now → Stands grants disk None [] notes start history → Stands grants new None [] notes start history
moved_stands grants disk new notes start history now stands image leaves = stands image (subst (λ (m : DiskMoment). MayLeave m image) now leaves)

set_before : (before after : Option ℕ) → after ≡ before → after ≡ Some 0 → before ≢ None
set_before before after same reached none = absurd (let e : ◌≡◌ {A = Option ℕ} None (Some 0) = sym none ∙ sym same ∙ reached in cc)

pub loses : (old : Within) (new : DiskState) → old.notes.is_spent ≡ false → old.notes.calls < 2 ^ 48 → IsSoundWithin old → IsLost old.disk new → Goes (SeesIn old) (SeesIn (lost_from old new)) StoppedLook
loses old new live few sound lost =
    goes_from old (lost_from old new) StoppedLook live (loses_soundly old new sound lost)
    (λ start history stands. record {
      later = history;
      stands = moved_stands old.grants old.disk new (called old.notes) start history lost.now (lost_stands old.grants old.disk old.core old.held old.notes start history sound stands);
      does = record {
        keeps = record {
          start = refl;
          is_opened = refl;
          is_quiet = lost.quiet;
          per_record = refl;
          crashes = (refl, refl, refl);
          faults = never_falls old.disk.faults new.faults old.notes (counted old.grants old.disk old.core old.held old.notes sound) few lost.faults;
          stop = λ none. lost.stop ∙ none;
          calls = refl;
          is_spent = live;
        };
        unchanged = (refl, ap (λ (m : DiskMoment). store_of m.seen) lost.now, refl);
        down = (λ connection. refl, refl);
        cause = record { rose = λ stopped. rises old.disk.faults new.faults old.notes (counted old.grants old.disk old.core old.held old.notes sound) few lost.faults; quiet = λ is_quiet changed. set_before old.disk.stop new.stop lost.stop (lost.at_stop is_quiet) };
      };
    })
