-- What is kept of a service that goes down, and how it comes to know one record more.
use Rattle.std.proofs.Common.{◌≡◌, ◌∙◌, ◌<◌, ◌||◌, ℕ, Bool, true, false, refl, sym, ap, subst, List, length, arith}
use Rattle.std.specs.Prelude.{Option, Some, None, is_some, IfSome, IfNone, IsErrOf, Result, Ok, Err}
use Rattle.disk_model.specs.Moment.{DiskMoment, MayLeave}
use Rattle.disk_model.specs.Disk.{DiskState, IsSettled, OnlyReads}
use Rattle.disk_model.proofs.Offered.{reads_for}
use Rattle.redo_store.specs.Redo.{tail_of}
use Rattle.redo_store.specs.declared.fault.RedoFault.{RedoFault}
use Rattle.redo_store.specs.declared.fault.RedoFault.TheVariants as redo_fault
use Rattle.mutable_values.specs.declared.grants.Grants.{Grants}
use Rattle.commit_log.specs.declared.journal.Journal.{Journal}
use Rattle.commit_log.specs.declared.log.Log.{Log}
use Rattle.commit_log.specs.declared.records.Record.{Record}
use Rattle.commit_log.specs.meaning.Rules.{Begun, is_horizon, is_opening, with_record}
use Rattle.commit_log.specs.meaning.Journals.{journal_in, journal_of, so_far_of}
use Rattle.commit_log.specs.Logs.{CanAdd, HasReadOn, Trails}
use Rattle.commit_log.proofs.Offered.{trails_begun}
use Rattle.server_session.specs.declared.shared.Core.{Core}
use Rattle.server_session.specs.Fits.{Fits}
use Rattle.server_session.specs.Following.{IsOfJournal}
use Rattle.server_session.specs.Leaving.{StaysTrue}
use Rattle.service_core.specs.declared.notes.Notes.{Notes}
use Rattle.service_core.specs.declared.resting.Resting.{Resting}
use Rattle.service_core.specs.Held.{Held}
use Rattle.service_core.specs.Keeping.{KnowsAll, Reached, Rests, RestsBy, StepsTo, rested, rests_of}
use Rattle.service_core.specs.Sound.{IsSound, IsSoundWithin, IsUp}
use Rattle.service_core.specs.Within.{Within}

-- the journal that an image reads as is one
pub one_journal : (image : List ℕ) (a b : Journal) → journal_of image ≡ Ok a → journal_of image ≡ Ok b → a ≡ b
one_journal image a b first second = let e : ◌≡◌ {A = Result Journal ℕ} (Ok a) (Ok b) = sym first ∙ second in cc

-- wherever the log is
pub with_log : (core : Core) (log : Log) (journal : Journal) → IsOfJournal core journal → IsOfJournal (record core { log = log }) journal
with_log core log journal is = record { tables = is.tables; book = is.book; source = is.source; sequences = is.sequences }

-- ---- what is kept

-- a core that fits its disk knows all its records
pub rests_all : (core : Core) (disk : DiskState) → Fits core disk → Rests disk.now.seen (record { core = core; has_horizon = true })
rests_all core disk fits = record {
  is_opened = true;
  journal = fits.log.journal;
  of_journal = subst (λ (j : Journal). IsOfJournal core j) (sym (one_journal disk.now.seen fits.log.journal fits.journal (ap journal_in fits.log.so_far) fits.reads))
      (record { tables = fits.tables; book = fits.book; source = fits.source; sequences = fits.sequences });
  trails = trails_begun true true core.log disk fits.log;
}

-- it is kept where nothing more may be left than before
pub goes_to_rest : (grants : Grants) (disk end : DiskState) (core : Option Core) (held : Held) (notes : Notes) (resting : Option Resting) → IsSound grants disk core held notes
    → (is_some core ≡ false → IfSome resting (RestsBy grants disk)) → ((image : List ℕ) → MayLeave end.now image → MayLeave disk.now image) → IfSome (rested core resting) (RestsBy grants end)
goes_to_rest grants disk end (Some core) held notes resting up at_rest fewer = record {
  rests = λ image left. subst (λ (i : List ℕ). Rests i (record { core = core; has_horizon = true })) (sym (up.fits.log.append.settled image (fewer image left))) (rests_all core disk up.fits);
  granted = up.granted;
}
goes_to_rest grants disk end None held notes None down at_rest fewer = tt
goes_to_rest grants disk end None held notes (Some resting) down at_rest fewer =
    let kept = at_rest refl in record { rests = λ image left. kept.rests image (fewer image left); granted = kept.granted }

-- and behind a stop
pub rests_behind : (old : Within) (core later : Core) (end : DiskState) (resting : Resting) → old.core ≡ Some core → IsSoundWithin old → StaysTrue core later end → resting ≡ rests_of later → RestsBy old.grants end resting
rests_behind old core later end resting is_up sound stays is =
    let up : IsUp old.grants old.disk core old.held old.notes = subst (λ (o : Option Core). IsSound old.grants old.disk o old.held old.notes) is_up sound in
    subst (λ (r : Resting). RestsBy old.grants end r) (sym is)
    (record {
      rests = λ image left. let front = stays.front image left in record { is_opened = true; journal = front.journal; of_journal = front.of_journal; trails = front.trails };
      granted = stays.grants ∙ up.granted;
    })

-- what is at rest on a disk is so on each that may leave the same
pub still_rests : (grants : Grants) (old new : DiskState) (resting : Option Resting) → new.now ≡ old.now → IfSome resting (RestsBy grants old) → IfSome resting (RestsBy grants new)
still_rests grants old new None same kept = tt
still_rests grants old new (Some resting) same kept = record { rests = λ image left. kept.rests image (subst (λ (m : DiskMoment). MayLeave m image) same left); granted = kept.granted }

-- ---- one record more

pub reached_one : (old new : Resting) (disk end : DiskState) (is_opened : Bool) (journal : Journal) (one : Record) (log : Log) → HasReadOn is_opened old.has_horizon journal one log disk.now.seen
    → (tail_of old.core.log.redo < tail_of log.redo) × (tail_of log.redo < length disk.now.seen) → new.core.log ≡ log → new.has_horizon ≡ (old.has_horizon || is_horizon one) → IsOfJournal new.core (with_record journal one)
    → Reached true old new disk end
reached_one old new disk end is_opened journal one log read rises same has follows = (
  record {
    is_opened = is_opened || is_opening one;
    journal = with_record journal one;
    of_journal = follows;
    trails = subst (λ (h : Bool). Trails (is_opened || is_opening one) h (with_record journal one) new.core.log disk.now.seen) (sym has)
        (subst (λ (l : Log). Trails (is_opened || is_opening one) (old.has_horizon || is_horizon one) (with_record journal one) l disk.now.seen) (sym same) read.trails);
  },
  omega (arith, ap (λ (l : Log). tail_of l.redo) same, rises.0, rises.1),
)

pub reached_end : (old : Resting) (disk end : DiskState) (is_opened : Bool) (journal : Journal) (log : Log) → IsOfJournal old.core journal → end.now ≡ disk.now → so_far_of disk.now.seen ≡ Ok (Begun journal is_opened old.has_horizon)
    → (IsSettled disk → CanAdd log end) → Reached false old (record old { core = record old.core { log = log } }) disk end
reached_end old disk end is_opened journal log is same so_far ready =
    let knows : (image : List ℕ) → so_far_of image ≡ Ok (Begun journal is_opened old.has_horizon) → KnowsAll image (record old { core = record old.core { log = log } }) =
    λ image comes. record { is_opened = is_opened; journal = journal; of_journal = with_log old.core log journal is; so_far = comes } in
    (knows disk.now.seen so_far, λ settled. record { knows = knows end.now.seen (ap (λ (m : DiskMoment). so_far_of m.seen) same ∙ so_far); log = ready settled })

pub steps_fault : (fault : RedoFault) (old new : Resting) (disk end : DiskState) → (fault ≡ redo_fault.Stopped → new ≡ old) → ((place : ℕ) → fault ≡ redo_fault.Damaged place → ⊥) → StepsTo (Err fault) old new disk end
steps_fault redo_fault.NoMemory old new disk end stays whole = tt
steps_fault redo_fault.Stopped old new disk end stays whole = stays refl
steps_fault (redo_fault.Damaged place) old new disk end stays whole = whole place refl

-- ---- answers

pub if_some : {T : Type 0} (o : Option T) (x : T) (P : T → Type 0) → o ≡ Some x → IfSome o P → P x
if_some o x P is met = subst (λ p. IfSome p P) is met

pub if_none : {T : Type 0} (o : Option T) (P : Type 0) → o ≡ None → IfNone o P → P
if_none o P is met = subst (λ p. IfNone p P) is met

-- a reading that was answered, whatever the answer
pub read_well : {T U : Type 0} (x : T) (y : U) (s t : DiskState) → (let r : Result T RedoFault = Ok x in OnlyReads (IsErrOf r redo_fault.Stopped) s t) → (let r : Result U RedoFault = Ok y in OnlyReads (IsErrOf r redo_fault.Stopped) s t)
read_well {T} {U} x y s t read =
    let a : Result T RedoFault = Ok x in
    let b : Result U RedoFault = Ok y in
    reads_for (IsErrOf a redo_fault.Stopped) (IsErrOf b redo_fault.Stopped) s t (λ is. absurd (let none : ⊥ = cc in none)) (λ is. absurd (let none : ⊥ = cc in none)) read
