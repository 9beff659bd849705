-- A pair behind a call that was stopped before its answer, whichever disk has failed: each store
-- stands somewhere between what the first one held at the call's start and what a crash may leave
-- of it now.
use Rattle.std.proofs.Common.{◌≡◌, ◌≢◌, inl, inr, ◌∙◌, ◌+◌, ◌*◌, ◌<◌, ℕ, Bool, true, false, refl, sym, subst, List, arith}
use Rattle.std.specs.Prelude.{◌&&◌, Option, Some, None}
use Rattle.disk_model.specs.Moment.{DiskMoment, MayLeave}
use Rattle.disk_model.specs.Disk.{DiskState}
use Rattle.server_model.specs.meaning.Base.{Base}
use Rattle.server_model.specs.meaning.Outcomes.{Stopped}
use Rattle.server_model.specs.Runs.{Happened}
use Rattle.server_model.specs.Seen.{Store, ServiceState, Seen, Keeps}
use Rattle.server_model.specs.ServiceCalls.{StopCause, StopsOnly}
use Rattle.service_calls.specs.Kept.{Goes}
use Rattle.service_core.specs.Seeing.{Came, SeesIn, StandsDown, store_of}
use Rattle.service_core.specs.Shipping.{halted, taken}
use Rattle.service_core.specs.Sound.{HasFaultRoom, IsSoundWithin}
use Rattle.service_core.specs.Unanswered.{IsHaltedAs, LiesBetween, StandsBetween}
use Rattle.service_core.specs.Within.{Within}
use Rattle.standby_ship.specs.Seeing.{LeavesPair, SecondLeaves, SecondStands, SeesPair}
use Rattle.standby_ship.specs.Shipped.{with_reads}
use Rattle.standby_ship.specs.Sound.{IsBesideSome, IsSoundPair}
use Rattle.standby_ship.specs.Twins.{Second, Twin, disk_in, faults_of, per_record_in, quiet_of}
use Rattle.standby_ship.proofs.Answering.{with_both}
use Rattle.standby_ship.proofs.Beginnings.{Begins, lies_front}
use Rattle.standby_ship.proofs.Going.{seen_in, seen_of, seen_with, sees_one}

-- ---- what a stop leaves

-- of a second store
pub record LeftBehind (old down : Within) (second : Second) : Type 0 where
  pub lies : (image whole : List ℕ) → MayLeave second.disk.now image → MayLeave down.disk.now whole → LiesBetween old.disk.now.seen image whole
  pub reads_now : MayLeave second.disk.now second.disk.now.seen
  pub room : HasFaultRoom second.disk.faults down.notes

abbrev pub LeftBehindSome : Twin → Within → Option Second → Type 0
LeftBehindSome pair down None = Unit {0}
LeftBehindSome pair down (Some second) = LeftBehind pair.primary down second × (pair.lost ≡ None)

-- of both
pub record IsHalted (pair : Twin) (down : Within) (after : Option Second) : Type 0 where
  pub begun : Begins pair.primary.disk.now.seen
  pub first : (whole : List ℕ) → MayLeave down.disk.now whole → LiesBetween pair.primary.disk.now.seen whole whole
  pub second : LeftBehindSome pair down after
  pub reads_now : MayLeave down.disk.now down.disk.now.seen
  pub rose : pair.primary.disk.faults + faults_of (disk_in pair.second) < down.disk.faults + faults_of (disk_in after)
  pub quiet : quiet_of (disk_in after) ≡ quiet_of (disk_in pair.second)
  pub per_record : per_record_in after ≡ per_record_in pair.second

-- what a stop was that was reached, as so many records were to be stored
abbrev pub Reached : Twin → ℕ → Type 0
Reached pair records = pair.primary.disk.quiet ≡ true → quiet_of (disk_in pair.second) ≡ true → (n : ℕ) × (pair.primary.disk.stop ≡ Some n) × (n < per_record_in pair.second * records)

-- one that was set
abbrev pub WasSet : Twin → Type 0
WasSet pair = pair.primary.disk.quiet ≡ true → quiet_of (disk_in pair.second) ≡ true → pair.primary.disk.stop ≢ None

pub first_quiet : (a b c : Bool) → (a && (b && c)) ≡ true → a ≡ true
first_quiet true b c all = refl
first_quiet false b c all = all

pub second_quiet : (a b c : Bool) → (a && (b && c)) ≡ true → b ≡ true
second_quiet true true c all = refl
second_quiet true false c all = all
second_quiet false b c all = absurd (let e : ◌≡◌ {A = Bool} false true = all in let none : ⊥ = cc in none)

no_more : {A : Type 0} → false ≡ true → A
no_more clash = absurd (let e : ◌≡◌ {A = Bool} false true = clash in let none : ⊥ = cc in none)

-- The pair that is down on this disk, with this second store.
module _ (pair : Twin) (live : pair.is_spent ≡ false) (mid : Within) (reads : ℕ) (disk : DiskState) (after : Option Second) where
  abbrev pub down : Within
  down = taken (with_reads reads mid) disk

  abbrev pub behind : Twin
  behind = with_both pair down after

  -- ---- it is sound

  beside_halted : (second : Option Second) → Begins pair.primary.disk.now.seen → LeftBehindSome pair down second → IsBesideSome behind second
  beside_halted None begun left = tt
  beside_halted (Some second) begun left = record {
    fronts = λ image whole here there. lies_front pair.primary.disk.now.seen image whole begun (left.0.lies image whole here there);
    reads_now = left.0.reads_now;
    faults = left.0.room;
    settled = λ settled. no_more settled;
    even = λ _ settled. no_more settled;
    ready = λ up. no_more up;
    none_lost = left.1;
  }

  pub halted_soundly : IsSoundWithin down → mid.notes.is_spent ≡ false → IsHalted pair down after → IsSoundPair behind
  halted_soundly sound unspent stopped = record {
    primary = sound;
    live = unspent;
    opened = λ up. no_more up;
    second = beside_halted after stopped.begun stopped.second;
  }

  -- ---- and is seen

  module _ (stopped : IsHalted pair down after) (now : disk.now ≡ mid.disk.now) where
    came_second : (second : Option Second) (start : Base) (history : List Happened) → LeftBehindSome pair down second
        → ((image left : List ℕ) → MayLeave mid.disk.now left → LiesBetween pair.primary.disk.now.seen image left → Came start history (StandsDown mid.grants false image)) → SecondStands behind second start history
    came_second None start history left came = tt
    came_second (Some second) start history left came = λ opened pending image may.
        came image disk.now.seen (subst (λ (m : DiskMoment). MayLeave m disk.now.seen) now stopped.reads_now) (left.0.lies image disk.now.seen may stopped.reads_now)

    -- one history serves for both stores
    pub goes_halted : (One Halts Does : Seen → Seen → Type 0) → IsSoundPair behind → Goes (SeesIn pair.primary) (SeesIn mid) One → Goes (SeesIn pair.primary) (IsHaltedAs pair.primary mid) Halts
        → ((start : Base) (history : List Happened) (begun : Base) (later : List Happened) (first : Base) (told : List Happened) → One (seen_of pair.primary start history) (seen_of mid first told)
        → Halts (seen_of pair.primary start history) (seen_of (halted mid) begun later) → Does (seen_in pair start history) (seen_in behind begun later)) → Goes (SeesPair pair) (SeesPair behind) Does
    goes_halted One Halts Does sound goes halts comes before sees =
        let first = seen_of pair.primary before.start before.history in
        let told = goes first (sees_one pair before sees) in
        let one = subst (λ (state : ServiceState). One first (seen_with told.0.start told.0.history state)) told.1.0.sees.state_is told.1.1 in
        let gone = halts first (sees_one pair before sees) in
        let none = subst (λ (state : ServiceState). Halts first (seen_with gone.0.start gone.0.history state)) gone.1.0.state_is gone.1.1 in
        subst (λ (state : ServiceState). (seen : Seen) × (SeesPair behind seen × Does (seen_with before.start before.history state) seen)) (sym sees.state_is) (
          seen_in behind gone.0.start gone.0.history,
          (
            record {
              live = live;
              sound = sound;
              state_is = refl;
              stands = λ image may. gone.1.0.came image image (subst (λ (m : DiskMoment). MayLeave m image) now may) (stopped.first image may);
              second = came_second after gone.0.start gone.0.history stopped.second gone.1.0.came;
            },
            comes before.start before.history gone.0.start gone.0.history told.0.start told.0.history one none,
          ),
        )

    -- ---- what may stand between

    between_second : (second : Option Second) (store : Store) → LeftBehindSome pair down second → SecondLeaves behind second store → StandsBetween pair.primary mid store
    between_second None store left none = absurd none
    between_second (Some second) store left leaves = record {
      image = leaves.1.image;
      left = disk.now.seen;
      leaves = subst (λ (m : DiskMoment). MayLeave m disk.now.seen) now stopped.reads_now;
      lies = left.0.lies leaves.1.image disk.now.seen leaves.1.left stopped.reads_now;
      store_is = leaves.1.store_is;
    }

    -- whatever a crash may leave of either
    pub between_left : (store : Store) → LeavesPair behind store → StandsBetween pair.primary mid store
    between_left store (inl leaves) = record {
      image = leaves.image;
      left = leaves.image;
      leaves = subst (λ (m : DiskMoment). MayLeave m leaves.image) now leaves.left;
      lies = stopped.first leaves.image leaves.left;
      store_is = leaves.store_is;
    }
    between_left store (inr leaves) = between_second after store stopped.second leaves

    -- and what the first one holds now
    pub between_now : StandsBetween pair.primary mid (store_of disk.now.seen)
    between_now = record {
      image = disk.now.seen;
      left = disk.now.seen;
      leaves = subst (λ (m : DiskMoment). MayLeave m disk.now.seen) now stopped.reads_now;
      lies = stopped.first disk.now.seen stopped.reads_now;
      store_is = refl;
    }

    -- ---- what it keeps

    module _ (start : Base) (history : List Happened) (begun : Base) (later : List Happened) where
      pub keeps_halted : (first : Base) (told : List Happened) → begun ≡ start → disk.quiet ≡ mid.disk.quiet → disk.stop ≡ mid.disk.stop → Keeps (seen_of pair.primary start history) (seen_of mid first told) → Keeps (seen_in pair start history) (seen_in behind begun later)
      keeps_halted first told same quiet stop keeps = record {
        start = same;
        is_opened = refl;
        is_quiet = λ i. (quiet ∙ keeps.is_quiet) i && (stopped.quiet i && quiet_of pair.lost);
        per_record = stopped.per_record;
        crashes = keeps.crashes;
        faults = omega (arith, stopped.rose);
        stop = λ none. stop ∙ keeps.stop none;
        calls = keeps.calls;
        is_spent = live;
      }

      pub only_halted : WasSet pair → StopsOnly (seen_in pair start history) (seen_in behind begun later) true
      only_halted set = record {
        rose = λ _. omega (arith, stopped.rose);
        quiet = λ is_quiet _. set (first_quiet pair.primary.disk.quiet (quiet_of (disk_in pair.second)) (quiet_of pair.lost) is_quiet) (second_quiet pair.primary.disk.quiet (quiet_of (disk_in pair.second)) (quiet_of pair.lost) is_quiet);
      }

      pub cause_halted : (records : ℕ) → Reached pair records → StopCause (seen_in pair start history) (seen_in behind begun later) records Stopped
      cause_halted records reached = record {
        rose = λ _. omega (arith, stopped.rose);
        quiet = λ is_quiet _. reached (first_quiet pair.primary.disk.quiet (quiet_of (disk_in pair.second)) (quiet_of pair.lost) is_quiet) (second_quiet pair.primary.disk.quiet (quiet_of (disk_in pair.second)) (quiet_of pair.lost) is_quiet);
        reached = λ n stop differ not_stopped. absurd (not_stopped refl);
      }
