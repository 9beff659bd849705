-- A second store takes the place of the first: what it holds is the first records of the first
-- store, and is seen by the same history.
use Rattle.std.proofs.Common.{◌≡◌, ◌≢◌, ◌⊎◌, inl, inr, ◌∙◌, ◌≤◌, ℕ, Bool, true, false, refl, sym, ap, subst, List, [], append-nil}
use Rattle.std.specs.Prelude.{Option, Some, None, Result, IfOk}
use Rattle.disk_model.specs.Moment.{MayLeave}
use Rattle.disk_model.specs.Disk.{DiskState}
use Rattle.redo_store.specs.meaning.Records.{records_of}
use Rattle.mutable_values.specs.declared.grants.Grants.{Grants}
use Rattle.commit_log.specs.declared.base.Base.{Base as Begun}
use Rattle.commit_log.specs.declared.journal.Journal.{Journal}
use Rattle.commit_log.specs.meaning.Journals.{journal_of}
use Rattle.server_model.specs.meaning.Base.{Base}
use Rattle.server_model.specs.Runs.{Falls, Happened, Off, On, Power, Runs, Server, Then}
use Rattle.server_session.specs.Plain.{IsStored}
use Rattle.server_session.specs.declared.shared.Core.{Core}
use Rattle.service_core.specs.declared.notes.Notes.{Notes}
use Rattle.service_core.specs.Held.{Held}
use Rattle.service_core.specs.Seeing.{Came, SeesIn, Stands, StandsDown, StandsIn, store_of}
use Rattle.service_core.specs.Shipping.{taken}
use Rattle.service_core.specs.Sound.{HasRoom, IsSound, IsSoundWithin, Reads}
use Rattle.service_core.specs.Within.{Within}
use Rattle.standby_ship.specs.Fallen.{MayGoOn, MayTakeOver}
use Rattle.standby_ship.specs.Seeing.{SecondStands}
use Rattle.standby_ship.specs.Sound.{IsBeside, IsBesideSome, IsEven, IsFrontOf, IsSoundPair}
use Rattle.standby_ship.specs.Twins.{Second, Twin}
use Rattle.standby_ship.proofs.Beginnings.{Begins, begins, same_front}
use Rattle.standby_ship.proofs.Crashing.{not_so}
use Rattle.standby_ship.proofs.Fronts.{front_base, front_reads, same_journal, same_store}
use Rattle.standby_ship.proofs.Going.{seen_of}

-- ---- what the first store holds

-- It reads as a journal. A service that is down may have left it, and of one that is up nothing is
-- pending.
record HoldsNow (disk : DiskState) (notes : Notes) : Type 0 where
  left : MayLeave disk.now disk.now.seen ⊎ (notes.is_settled ≡ true)
  base : Begun
  reads : Reads base notes disk.now.seen
  crashes : notes.crashes ≤ notes.calls

holds_in : (grants : Grants) (disk : DiskState) (core : Option Core) (held : Held) (notes : Notes) → IsSound grants disk core held notes → HoldsNow disk notes
holds_in grants disk None held notes down = record { left = inl down.reads_now; base = down.base; reads = down.leaves disk.now.seen down.reads_now; crashes = down.crashes }
holds_in grants disk (Some core) held notes up = record {
  left = inr up.settled;
  base = up.fits.journal.base;
  reads = record { journal = up.fits.journal; reads = up.fits.reads; base_is = refl; room = subst (λ (n : ℕ). HasRoom n notes) up.fits.source.incarnation up.room };
  crashes = up.crashes;
}

holds_now : (service : Within) → IsSoundWithin service → HoldsNow service.disk service.notes
holds_now service sound = holds_in service.grants service.disk service.core service.held service.notes sound

-- ---- the second one is a front of it

even_front : (primary : Within) (second : Second) (image : List ℕ) → Begins primary.disk.now.seen → IsEven primary second → MayLeave second.disk.now image → IsFrontOf image primary.disk.now.seen
even_front primary second image begun even left = same_front image primary.disk.now.seen (ap records_of (even.settled image left) ∙ even.records) begun

module _ (pair : Twin) (second : Second) (beside : IsBeside pair second) (sound : IsSoundWithin pair.primary) (opened : pair.is_opened ≡ true) where
  holds : HoldsNow pair.primary.disk pair.primary.notes
  holds = holds_now pair.primary sound

  begun : Begins pair.primary.disk.now.seen
  begun = begins pair.primary.disk.now.seen holds.reads.journal holds.reads.reads

  front_now : (image : List ℕ) → MayLeave second.disk.now image → IsFrontOf image pair.primary.disk.now.seen
  front_now image here = by holds.left
    where
      by : MayLeave pair.primary.disk.now pair.primary.disk.now.seen ⊎ (pair.primary.notes.is_settled ≡ true) → IsFrontOf image pair.primary.disk.now.seen
      by (inl there) = beside.fronts image pair.primary.disk.now.seen here there
      by (inr settled) = even_front pair.primary second image begun (beside.even opened settled) here

  second_reads : (image : List ℕ) → MayLeave second.disk.now image → Reads holds.base pair.primary.notes image
  second_reads image left = front_reads holds.base pair.primary.notes image pair.primary.disk.now.seen (front_now image left) holds.reads

  pub may_go_on : MayGoOn pair.primary second
  may_go_on = record {
    room = beside.faults;
    base = front_base second.disk.now.seen pair.primary.disk.now.seen (front_now second.disk.now.seen beside.reads_now);
    begun = holds.base;
    journals = second_reads;
  }

  pub taken_soundly : IsSoundWithin (taken pair.primary second.disk)
  taken_soundly = record {
    none = refl;
    base = holds.base;
    leaves = λ image left. let read = second_reads image left in record { journal = read.journal; reads = read.reads; base_is = read.base_is; room = read.room };
    faults = beside.faults;
    crashes = holds.crashes;
    reads_now = beside.reads_now;
    settled = λ settled. not_so settled;
  }

  -- where nothing is pending it says the same
  pub even_store : (image : List ℕ) → pair.primary.notes.is_settled ≡ true → MayLeave second.disk.now image → store_of image ≡ store_of pair.primary.disk.now.seen
  even_store image settled left =
      let even = beside.even opened settled in
      same_store image pair.primary.disk.now.seen begun.journal begun.base begun.some begun.reads begun.is (ap records_of (even.settled image left) ∙ even.records ∙ begun.is)

  even_journal : (image : List ℕ) → pair.primary.notes.is_settled ≡ true → MayLeave second.disk.now image → journal_of image ≡ journal_of pair.primary.disk.now.seen
  even_journal image settled left =
      let even = beside.even opened settled in
      same_journal image pair.primary.disk.now.seen begun.journal begun.base begun.some begun.reads begun.is (ap records_of (even.settled image left) ∙ even.records ∙ begun.is) ∙ sym begun.reads

-- ---- by the same history

abbrev off : Server → Server
off server = record { power = Off; core = server.core; sessions = []; count = 0 }

falls : (start : Base) (history : List Happened) (server : Server) → Runs start history server → Runs start history (off server)
falls start history server runs = subst (λ (h : List Happened). Runs start h (off server)) (append-nil history) (Then history [] server (off server) runs Falls)

off_not_on : Off ≢ On
off_not_on same = let e : ◌≡◌ {A = Power} Off On = same in let none : ⊥ = cc in none

-- a run has come to what the first store holds, where nothing is pending
came_in : (grants : Grants) (disk : DiskState) (core : Option Core) (held : Held) (notes : Notes) (start : Base) (history : List Happened) → notes.is_settled ≡ true → IsSound grants disk core held notes → Stands grants disk core held notes start history
    → Came start history (StandsDown grants false disk.now.seen)
came_in grants disk None held notes start history settled down stands =
    let came = stands disk.now.seen down.reads_now in
    record {
      server = off came.server;
      runs = falls start history came.server came.runs;
      is_base = came.is_base;
      stands = record { power = off_not_on; stored = came.stands.stored; grants_are = came.stands.grants_are };
    }
came_in grants disk (Some core) held notes start history settled up stands = record {
  server = off stands.server;
  runs = falls start history stands.server stands.runs;
  is_base = stands.is_base;
  stands = record { power = off_not_on; stored = stands.stands.plain.stored; grants_are = stands.stands.plain.grants ∙ up.granted };
}

-- and so to another that reads the same
came_alike : (grants : Grants) (image whole : List ℕ) (start : Base) (history : List Happened) → journal_of image ≡ journal_of whole → Came start history (StandsDown grants false whole) → Came start history (StandsDown grants false image)
came_alike grants image whole start history same came = record {
  server = came.server;
  runs = came.runs;
  is_base = came.is_base;
  stands = record { power = came.stands.power; stored = subst (λ (r : Result Journal ℕ). IfOk r (IsStored came.server.core)) (sym same) came.stands.stored; grants_are = came.stands.grants_are };
}

module _ (pair : Twin) (second : Second) (beside : IsBeside pair second) (sound : IsSoundWithin pair.primary) (opened : pair.is_opened ≡ true) (start : Base) (history : List Happened) (stands : StandsIn pair.primary start history) (second_stands : SecondStands pair (Some second) start history) where
  came_second : (settled : Bool) → pair.primary.notes.is_settled ≡ settled → (image : List ℕ) → MayLeave second.disk.now image → Came start history (StandsDown pair.primary.grants false image)
  came_second false pending image left = second_stands opened pending image left
  came_second true settled image left =
      came_alike pair.primary.grants image pair.primary.disk.now.seen start history (even_journal pair second beside sound opened image settled left)
      (came_in pair.primary.grants pair.primary.disk pair.primary.core pair.primary.held pair.primary.notes start history settled sound stands)

  pub taken_seen : pair.primary.notes.is_spent ≡ false → SeesIn (taken pair.primary second.disk) (seen_of (taken pair.primary second.disk) start history)
  taken_seen live = record {
    live = live;
    sound = taken_soundly pair second beside sound opened;
    sees = record { state_is = refl; stands = came_second pair.primary.notes.is_settled refl };
  }

-- ---- where there may be no second store

may_over : (pair : Twin) (second : Option Second) → IsSoundWithin pair.primary → pair.is_opened ≡ true → IsBesideSome pair second → MayTakeOver pair.primary second
may_over pair None sound opened beside = tt
may_over pair (Some second) sound opened beside = may_go_on pair second beside sound opened

pub may_take_over : (pair : Twin) → IsSoundPair pair → pair.is_opened ≡ true → MayTakeOver pair.primary pair.second
may_take_over pair kept opened = may_over pair pair.second kept.primary opened kept.second
