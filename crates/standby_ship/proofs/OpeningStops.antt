-- A pair whose opening was stopped, whichever disk has failed. Where it was opened before, since
-- its last crash, each store stands somewhere between what the first one held at the start and what
-- a crash may leave of it now. Else the second store may lack more, and no failover may come.
use Rattle.std.proofs.Common.{◌≡◌, inl, inr, ◌∙◌, ◌+◌, ◌<◌, ℕ, true, false, refl, sym, ap, subst, List, [], arith}
use Rattle.std.specs.Prelude.{◌&&◌, Option, Some, None}
use Rattle.disk_model.specs.Moment.{DiskMoment, MayLeave}
use Rattle.disk_model.specs.Disk.{DiskState}
use Rattle.server_model.specs.meaning.Base.{Base}
use Rattle.server_model.specs.Runs.{Happened}
use Rattle.server_model.specs.Seen.{Store, ServiceState, Seen}
use Rattle.server_model.specs.ServiceCalls.{KeepsOpening, StoppedOpening}
use Rattle.service_calls.specs.Kept.{Goes}
use Rattle.service_core.specs.Held.{Held, living_of}
use Rattle.service_core.specs.Seeing.{Came, SeesIn, StandsDown, store_of}
use Rattle.service_core.specs.Shipping.{halted, taken}
use Rattle.service_core.specs.Sound.{HasFaultRoom, IsSoundWithin}
use Rattle.service_core.specs.Unanswered.{HaltedOpening, IsHaltedAs, LiesBetween, StandsBetween}
use Rattle.service_core.specs.Within.{Within}
use Rattle.standby_ship.specs.Seeing.{LeavesPair, SecondLeaves, SecondStands, SeesPair}
use Rattle.standby_ship.specs.Shipped.{with_reads}
use Rattle.standby_ship.specs.Sound.{IsBesideSome, IsFrontOf, IsSoundPair}
use Rattle.standby_ship.specs.Twins.{Second, Twin, disk_in, faults_of, per_record_in, quiet_of}
use Rattle.standby_ship.proofs.Answering.{with_both}
use Rattle.standby_ship.proofs.Crashing.{not_so}
use Rattle.standby_ship.proofs.Going.{seen_in, seen_of, seen_with, sees_one}
use Rattle.standby_ship.proofs.Halting.{WasSet, first_quiet, second_quiet}

-- ---- what a stop leaves

-- of a second store
pub record LeftOpening (pair : Twin) (down : Within) (second : Second) : Type 0 where
  pub fronts : (image whole : List ℕ) → MayLeave second.disk.now image → MayLeave down.disk.now whole → IsFrontOf image whole
  pub lies : pair.is_opened ≡ true → (image whole : List ℕ) → MayLeave second.disk.now image → MayLeave down.disk.now whole → LiesBetween pair.primary.disk.now.seen image whole
  pub reads_now : MayLeave second.disk.now second.disk.now.seen
  pub room : HasFaultRoom second.disk.faults down.notes
  pub none_lost : pair.lost ≡ None

abbrev pub LeftOpeningSome : Twin → Within → Option Second → Type 0
LeftOpeningSome pair down None = Unit {0}
LeftOpeningSome pair down (Some second) = LeftOpening pair down second

-- of both
pub record IsStopped (pair : Twin) (down : Within) (after : Option Second) : Type 0 where
  pub first : (whole : List ℕ) → MayLeave down.disk.now whole → LiesBetween pair.primary.disk.now.seen whole whole
  pub second : LeftOpeningSome pair down after
  pub reads_now : MayLeave down.disk.now down.disk.now.seen
  pub rose : pair.primary.disk.faults + faults_of (disk_in pair.second) < down.disk.faults + faults_of (disk_in after)
  pub quiet : quiet_of (disk_in after) ≡ quiet_of (disk_in pair.second)
  pub per_record : per_record_in after ≡ per_record_in pair.second

-- The pair that is down on this disk, with this second store.
module _ (pair : Twin) (live : pair.is_spent ≡ false) (mid : Within) (reads : ℕ) (disk : DiskState) (after : Option Second) where
  abbrev down : Within
  down = taken (with_reads reads mid) disk

  abbrev behind : Twin
  behind = with_both pair down after

  -- ---- it is sound

  beside_stopped : (second : Option Second) → LeftOpeningSome pair down second → IsBesideSome behind second
  beside_stopped None left = tt
  beside_stopped (Some second) left = record {
    fronts = left.fronts;
    reads_now = left.reads_now;
    faults = left.room;
    settled = λ settled. not_so settled;
    even = λ _ settled. not_so settled;
    ready = λ up. not_so up;
    none_lost = left.none_lost;
  }

  pub stops_soundly : IsSoundWithin down → mid.notes.is_spent ≡ false → IsStopped pair down after → IsSoundPair behind
  stops_soundly sound unspent stopped = record { primary = sound; live = unspent; opened = λ up. not_so up; second = beside_stopped after stopped.second }

  -- ---- and is seen

  module _ (stopped : IsStopped pair down after) (now : disk.now ≡ mid.disk.now) where
    came_second : (second : Option Second) (start : Base) (history : List Happened) → LeftOpeningSome pair down second
        → ((image left : List ℕ) → MayLeave mid.disk.now left → LiesBetween pair.primary.disk.now.seen image left → Came start history (StandsDown mid.grants false image)) → SecondStands behind second start history
    came_second None start history left came = tt
    came_second (Some second) start history left came = λ opened pending image may.
        came image disk.now.seen (subst (λ (m : DiskMoment). MayLeave m disk.now.seen) now stopped.reads_now) (left.lies opened image disk.now.seen may stopped.reads_now)

    -- one history serves for both stores
    pub goes_stopped : (One Halts Does : Seen → Seen → Type 0) → IsSoundPair behind → Goes (SeesIn pair.primary) (SeesIn mid) One
        → ((start : Base) (history : List Happened) (first : Base) (told : List Happened) → One (seen_of pair.primary start history) (seen_of mid first told) → Goes (SeesIn pair.primary) (IsHaltedAs pair.primary mid) Halts)
        → ((start : Base) (history : List Happened) (begun : Base) (later : List Happened) (first : Base) (told : List Happened) → One (seen_of pair.primary start history) (seen_of mid first told)
        → Halts (seen_of pair.primary start history) (seen_of (halted mid) begun later) → Does (seen_in pair start history) (seen_in behind begun later)) → Goes (SeesPair pair) (SeesPair behind) Does
    goes_stopped One Halts Does sound goes halts comes before sees =
        let first = seen_of pair.primary before.start before.history in
        let told = goes first (sees_one pair before sees) in
        let one = subst (λ (state : ServiceState). One first (seen_with told.0.start told.0.history state)) told.1.0.sees.state_is told.1.1 in
        let gone = halts before.start before.history told.0.start told.0.history one first (sees_one pair before sees) in
        let none = subst (λ (state : ServiceState). Halts first (seen_with gone.0.start gone.0.history state)) gone.1.0.state_is gone.1.1 in
        subst (λ (state : ServiceState). (seen : Seen) × (SeesPair behind seen × Does (seen_with before.start before.history state) seen)) (sym sees.state_is) (
          seen_in behind gone.0.start gone.0.history,
          (
            record {
              live = live;
              sound = sound;
              state_is = refl;
              stands = λ image may. gone.1.0.came image image (subst (λ (m : DiskMoment). MayLeave m image) now may) (stopped.first image may);
              second = came_second after gone.0.start gone.0.history stopped.second gone.1.0.came;
            },
            comes before.start before.history gone.0.start gone.0.history told.0.start told.0.history one none,
          ),
        )

    -- ---- what may stand between

    between_second : (second : Option Second) (store : Store) → LeftOpeningSome pair down second → SecondLeaves behind second store → StandsBetween pair.primary mid store
    between_second None store left none = absurd none
    between_second (Some second) store left leaves = record {
      image = leaves.1.image;
      left = disk.now.seen;
      leaves = subst (λ (m : DiskMoment). MayLeave m disk.now.seen) now stopped.reads_now;
      lies = left.lies leaves.0 leaves.1.image disk.now.seen leaves.1.left stopped.reads_now;
      store_is = leaves.1.store_is;
    }

    between_left : (store : Store) → LeavesPair behind store → StandsBetween pair.primary mid store
    between_left store (inl leaves) = record {
      image = leaves.image;
      left = leaves.image;
      leaves = subst (λ (m : DiskMoment). MayLeave m leaves.image) now leaves.left;
      lies = stopped.first leaves.image leaves.left;
      store_is = leaves.store_is;
    }
    between_left store (inr leaves) = between_second after store stopped.second leaves

    between_now : StandsBetween pair.primary mid (store_of disk.now.seen)
    between_now = record {
      image = disk.now.seen;
      left = disk.now.seen;
      leaves = subst (λ (m : DiskMoment). MayLeave m disk.now.seen) now stopped.reads_now;
      lies = stopped.first disk.now.seen stopped.reads_now;
      store_is = refl;
    }

    -- ---- what is said of the opening

    pub stopped_opening : (horizon : ℕ) (start : Base) (history : List Happened) (begun : Base) (later : List Happened) (first : Base) (told : List Happened) → pair.primary.held ≡ [] → disk.quiet ≡ mid.disk.quiet → disk.stop ≡ mid.disk.stop → WasSet pair
        → KeepsOpening (seen_of pair.primary start history) (seen_of mid first told) → HaltedOpening (seen_of pair.primary start history) horizon (StandsBetween pair.primary mid) (seen_of (halted mid) begun later)
        → StoppedOpening (seen_in pair start history) horizon (LeavesPair behind) (seen_in behind begun later)
    stopped_opening horizon start history begun later first told none_held quiet stop set keeps none = record {
      keeps = record {
        start = none.start;
        history = none.history;
        living = λ connection. ap (λ (h : Held). living_of h connection) (sym none_held);
        is_quiet = λ i. (quiet ∙ keeps.is_quiet) i && (stopped.quiet i && quiet_of pair.lost);
        per_record = stopped.per_record;
        crashes = keeps.crashes;
        faults = omega (arith, stopped.rose);
        stop = λ no_stop. stop ∙ keeps.stop no_stop;
        kept = keeps.kept;
        calls = keeps.calls;
        is_spent = live;
      };
      is_up = (refl, refl);
      so_far = none.so_far (store_of disk.now.seen) between_now;
      left = λ store leaves. none.so_far store (between_left store leaves);
      cause = record {
        rose = λ _. omega (arith, stopped.rose);
        quiet = λ is_quiet _. set (first_quiet pair.primary.disk.quiet (quiet_of (disk_in pair.second)) (quiet_of pair.lost) is_quiet) (second_quiet pair.primary.disk.quiet (quiet_of (disk_in pair.second)) (quiet_of pair.lost) is_quiet);
      };
    }
