-- Calls of the first store's service that leave its store and the second one as they are.
use Rattle.std.proofs.Common.{◌≡◌, ◌∙◌, ◌+◌, ℕ, Bool, true, false, refl, sym, ap, subst, List, arith}
use Rattle.std.specs.Prelude.{◌&&◌, Option, Some, None, is_some}
use Rattle.disk_model.specs.Moment.{DiskMoment, MayLeave}
use Rattle.redo_store.specs.meaning.Records.{records_of}
use Rattle.mutable_values.specs.declared.grants.Grants.{Grants}
use Rattle.server_model.specs.meaning.Base.{Base}
use Rattle.server_model.specs.Runs.{Happened}
use Rattle.server_model.specs.Seen.{ServiceState, Seen, Keeps, KeepsStore}
use Rattle.server_model.specs.ServiceCalls.{Connected, Looked, Reaped, StoppedLook, StopsOnly, with_stop}
use Rattle.service_calls.specs.Kept.{Goes}
use Rattle.service_core.specs.Seeing.{Came, SeesIn, StandsDown}
use Rattle.service_core.specs.Shipping.{Looks, SetsStop, Stays}
use Rattle.service_core.specs.Sound.{IsSoundWithin}
use Rattle.service_core.specs.Within.{Within}
use Rattle.standby_ship.specs.Seeing.{SecondStands, SeesPair}
use Rattle.standby_ship.specs.Sound.{IsBesideSome, IsSoundPair}
use Rattle.standby_ship.specs.Twins.{Second, Twin, disk_in, faults_of, quiet_of, state_in}
use Rattle.standby_ship.proofs.Going.{goes_with, seen_in, seen_of}

pub first_quiet : (a b : Bool) → (a && b) ≡ true → a ≡ true
first_quiet true b both = refl
first_quiet false b both = both

-- the pair with this service
abbrev pub with_primary : Twin → Within → Twin
with_primary pair new = record pair { primary = new }

-- The store stays, and one call more was made.
pub record LeavesStore (old new : Within) : Type 0 where
  pub now : new.disk.now ≡ old.disk.now
  pub calls : new.notes.calls ≡ old.notes.calls + 1
  pub reads : new.notes.reads ≡ old.notes.reads
  pub live : new.notes.is_spent ≡ false
  pub grants : new.grants ≡ old.grants
  pub settled : new.notes.is_settled ≡ old.notes.is_settled
  pub up : is_some new.core ≡ true → is_some old.core ≡ true

pub stays_leaves : (old new : Within) → Stays old new → LeavesStore old new
stays_leaves old new stays = record {
  now = ap (λ d. d.now) stays.disk;
  calls = stays.counts.calls;
  reads = stays.counts.reads;
  live = stays.counts.live;
  grants = stays.counts.grants;
  settled = stays.settled;
  up = λ up. sym stays.up ∙ up;
}

pub sets_leaves : (calls : Option ℕ) (old new : Within) → SetsStop calls old new → LeavesStore old new
sets_leaves calls old new sets = record {
  now = ap (λ d. d.now) sets.disk;
  calls = sets.counts.calls;
  reads = sets.counts.reads;
  live = sets.counts.live;
  grants = sets.counts.grants;
  settled = sets.settled;
  up = λ up. sym sets.up ∙ up;
}

pub looks_leaves : (failed : Type 0) (old new : Within) → Looks failed old new → LeavesStore old new
looks_leaves failed old new looks = record {
  now = looks.reads.same.now;
  calls = looks.counts.calls;
  reads = looks.counts.reads;
  live = looks.counts.live;
  grants = looks.counts.grants;
  settled = looks.settled;
  up = looks.up;
}

-- ---- the pair stays sound

beside_stays : (pair : Twin) (new : Within) (second : Option Second) → LeavesStore pair.primary new → IsBesideSome pair second → IsBesideSome (with_primary pair new) second
beside_stays pair new None leaves beside = tt
beside_stays pair new (Some second) leaves beside = record {
  fronts = λ image whole here there. beside.fronts image whole here (subst (λ (m : DiskMoment). MayLeave m whole) leaves.now there);
  reads_now = beside.reads_now;
  faults = (omega (arith, beside.faults.0, leaves.calls, leaves.reads), omega (arith, beside.faults.1, leaves.calls, leaves.reads));
  settled = λ settled. beside.settled (sym leaves.settled ∙ settled);
  even = λ opened settled.
      let even = beside.even opened (sym leaves.settled ∙ settled) in
      record { records = even.records ∙ ap (λ (m : DiskMoment). records_of m.seen) (sym leaves.now); settled = even.settled };
  ready = λ up. beside.ready (leaves.up up);
  none_lost = beside.none_lost;
}

pub stays_soundly : (pair : Twin) (new : Within) → LeavesStore pair.primary new → IsSoundWithin new → IsSoundPair pair → IsSoundPair (with_primary pair new)
stays_soundly pair new leaves sound kept = record {
  primary = sound;
  live = leaves.live;
  opened = λ up. kept.opened (leaves.up up);
  second = beside_stays pair new pair.second leaves kept.second;
}

-- ---- and is seen

-- so far has the second store come
second_stays : (pair : Twin) (new : Within) (second : Option Second) (start begun : Base) (history later : List Happened) → LeavesStore pair.primary new → begun ≡ start → later ≡ history → SecondStands pair second start history
    → SecondStands (with_primary pair new) second begun later
second_stays pair new None start begun history later leaves same_start same_history stands = tt
second_stays pair new (Some second) start begun history later leaves same_start same_history stands = λ opened pending image left.
    subst (λ (g : Grants). Came begun later (StandsDown g false image)) (sym leaves.grants)
    (subst (λ (b : Base). Came b later (StandsDown pair.primary.grants false image)) (sym same_start)
    (subst (λ (h : List Happened). Came start h (StandsDown pair.primary.grants false image)) (sym same_history) (stands opened (sym leaves.settled ∙ pending) image left)))

module _ (pair : Twin) (new : Within) (start : Base) (history : List Happened) (begun : Base) (later : List Happened) where
  pub keeps_pair : pair.is_spent ≡ false → Keeps (seen_of pair.primary start history) (seen_of new begun later) → Keeps (seen_in pair start history) (seen_in (with_primary pair new) begun later)
  keeps_pair live keeps = record {
    start = keeps.start;
    is_opened = refl;
    is_quiet = ap (λ (q : Bool). q && (quiet_of (disk_in pair.second) && quiet_of pair.lost)) keeps.is_quiet;
    per_record = refl;
    crashes = keeps.crashes;
    faults = omega (arith, keeps.faults);
    stop = keeps.stop;
    calls = keeps.calls;
    is_spent = live;
  }

  pub keeps_store_pair : KeepsStore (seen_of pair.primary start history) (seen_of new begun later) → KeepsStore (seen_in pair start history) (seen_in (with_primary pair new) begun later)
  keeps_store_pair keeps = record {
    history = keeps.history;
    store = keeps.store;
    is_settled = keeps.is_settled;
    is_up = keeps.is_up;
    sessions = keeps.sessions;
    kept = keeps.kept;
  }

  pub stops_pair : (is_stopped : Bool) → StopsOnly (seen_of pair.primary start history) (seen_of new begun later) is_stopped → StopsOnly (seen_in pair start history) (seen_in (with_primary pair new) begun later) is_stopped
  stops_pair is_stopped stops = record {
    rose = λ stopped. omega (arith, stops.rose stopped);
    quiet = λ is_quiet rose. stops.quiet (first_quiet pair.primary.disk.quiet _ is_quiet) (λ same. rose (ap (λ (n : ℕ). n + faults_of (disk_in pair.second) + faults_of pair.lost) same));
  }

-- ---- each call

module _ (pair : Twin) (new : Within) (live : pair.is_spent ≡ false) (leaves : LeavesStore pair.primary new) (sound : IsSoundWithin new) (kept : IsSoundPair pair) where
  pub connects : (connection : ℕ) (up : Bool) → Goes (SeesIn pair.primary) (SeesIn new) (λ old new. Connected old connection up new) → Goes (SeesPair pair) (SeesPair (with_primary pair new)) (λ old new. Connected old connection up new)
  connects connection up goes =
      goes_with pair (with_primary pair new) (λ old new. Connected old connection up new) (λ old new. Connected old connection up new) live (stays_soundly pair new leaves sound kept) goes
      (λ start history begun later stands second now one. record {
        second = second_stays pair new pair.second start begun history later leaves one.keeps.start one.keeps_store.history second;
        does = record { keeps = keeps_pair pair new start history begun later live one.keeps; keeps_store = keeps_store_pair pair new start history begun later one.keeps_store; answered = one.answered; living = one.living };
      })

  pub reaps : (connection : ℕ) → Goes (SeesIn pair.primary) (SeesIn new) (λ old new. Reaped old connection new) → Goes (SeesPair pair) (SeesPair (with_primary pair new)) (λ old new. Reaped old connection new)
  reaps connection goes =
      goes_with pair (with_primary pair new) (λ old new. Reaped old connection new) (λ old new. Reaped old connection new) live (stays_soundly pair new leaves sound kept) goes
      (λ start history begun later stands second now one. record {
        second = second_stays pair new pair.second start begun history later leaves one.keeps.start one.keeps_store.history second;
        does = record { keeps = keeps_pair pair new start history begun later live one.keeps; keeps_store = keeps_store_pair pair new start history begun later one.keeps_store; living = one.living };
      })

  -- the state of a pair with a service in this state
  abbrev over : ServiceState → ServiceState
  over state = record state {
    is_opened = pair.is_opened;
    faults = state.faults + faults_of (disk_in pair.second) + faults_of pair.lost;
    is_quiet = state.is_quiet && (quiet_of (disk_in pair.second) && quiet_of pair.lost);
    per_record = (state_in pair).per_record;
    is_spent = pair.is_spent;
  }

  pub sets_stop : (calls : Option ℕ) → Goes (SeesIn pair.primary) (SeesIn new) (λ old new. new ≡ with_stop old calls) → Goes (SeesPair pair) (SeesPair (with_primary pair new)) (λ old new. new ≡ with_stop old calls)
  sets_stop calls goes =
      goes_with pair (with_primary pair new) (λ old new. new ≡ with_stop old calls) (λ old new. new ≡ with_stop old calls) live (stays_soundly pair new leaves sound kept) goes
      (λ start history begun later stands second now one. record {
        second = second_stays pair new pair.second start begun history later leaves (ap (λ (s : Seen). s.start) one) (ap (λ (s : Seen). s.history) one) second;
        does = ap (λ (s : Seen). record s { state = over s.state }) one;
      })

  pub looks : Goes (SeesIn pair.primary) (SeesIn new) Looked → Goes (SeesPair pair) (SeesPair (with_primary pair new)) Looked
  looks goes =
      goes_with pair (with_primary pair new) Looked Looked live (stays_soundly pair new leaves sound kept) goes
      (λ start history begun later stands second now one. record {
        second = second_stays pair new pair.second start begun history later leaves one.keeps.start one.keeps_store.history second;
        does = record { keeps = keeps_pair pair new start history begun later live one.keeps; keeps_store = keeps_store_pair pair new start history begun later one.keeps_store; living = one.living; cause = stops_pair pair new start history begun later false one.cause };
      })

  pub loses : Goes (SeesIn pair.primary) (SeesIn new) StoppedLook → Goes (SeesPair pair) (SeesPair (with_primary pair new)) StoppedLook
  loses goes =
      goes_with pair (with_primary pair new) StoppedLook StoppedLook live (stays_soundly pair new leaves sound kept) goes
      (λ start history begun later stands second now one. record {
        second = second_stays pair new pair.second start begun history later leaves one.keeps.start one.unchanged.0 second;
        does = record { keeps = keeps_pair pair new start history begun later live one.keeps; unchanged = one.unchanged; down = one.down; cause = stops_pair pair new start history begun later true one.cause };
      })
