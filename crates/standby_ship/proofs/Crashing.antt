-- A crash of both disks.
use Rattle.std.proofs.Common.{◌≡◌, ◌∙◌, ℕ, Bool, true, false, refl, sym, subst, List, arith}
use Rattle.std.specs.Prelude.{◌&&◌, Option, Some, None, is_some, if◌then◌else◌}
use Rattle.server_model.specs.meaning.Base.{Base}
use Rattle.server_model.specs.meaning.ServiceCalls.{is_failover}
use Rattle.server_model.specs.Runs.{Happened}
use Rattle.server_model.specs.ServiceCalls.{Crashed}
use Rattle.service_calls.specs.Kept.{Goes}
use Rattle.service_core.specs.Seeing.{SeesIn}
use Rattle.service_core.specs.Shipping.{Fell}
use Rattle.service_core.specs.Sound.{IsKept}
use Rattle.service_core.specs.Within.{Within}
use Rattle.standby_ship.specs.Fallen.{FellSome}
use Rattle.standby_ship.specs.Seeing.{SecondStands, SeesPair}
use Rattle.standby_ship.specs.Sound.{IsBesideSome, IsFrontOf, IsSoundPair}
use Rattle.standby_ship.specs.Twins.{Second, Twin, disk_in, faults_of, per_record_in, quiet_of}
use Rattle.standby_ship.proofs.Going.{goes_with, seen_in, seen_of}

-- the pair with these, which was not opened since
abbrev pub fallen_with : Twin → Within → Option Second → Twin
fallen_with pair primary second = record pair { primary = primary; second = second; is_opened = false }

pub not_so : {A : Type 0} → false ≡ true → A
not_so clash = absurd (let e : ◌≡◌ {A = Bool} false true = clash in let none : ⊥ = cc in none)

-- it is down
pub down_so : {A : Type 0} (service : Within) → is_some service.core ≡ false → is_some service.core ≡ true → A
down_so service down up = not_so (sym down ∙ up)

-- what the second store's disk counts stays
pub record SameCounts (before after : Option Second) : Type 0 where
  pub faults : faults_of (disk_in after) ≡ faults_of (disk_in before)
  pub quiet : quiet_of (disk_in after) ≡ quiet_of (disk_in before)
  pub per_record : per_record_in after ≡ per_record_in before

pub fell_counts : (before after : Option Second) → FellSome before after → SameCounts before after
fell_counts None None fell = record { faults = refl; quiet = refl; per_record = refl }
fell_counts None (Some after) fell = absurd fell
fell_counts (Some before) None fell = absurd fell
fell_counts (Some before) (Some after) fell = record { faults = fell.faults; quiet = fell.quiet; per_record = refl }

-- ---- the pair stays sound

beside_fallen : (pair : Twin) (new : Within) (whole before after : Option Second) → Fell pair.primary new → FellSome before after → IsBesideSome pair before → IsBesideSome (fallen_with pair new whole) after
beside_fallen pair new whole None None fell fell_second beside = tt
beside_fallen pair new whole None (Some after) fell fell_second beside = absurd fell_second
beside_fallen pair new whole (Some before) None fell fell_second beside = absurd fell_second
beside_fallen pair new whole (Some before) (Some after) fell fell_second beside = record {
  fronts = λ image all here there.
      subst (λ (i : List ℕ). IsFrontOf i all) (sym (fell_second.durable image here))
      (subst (λ (i : List ℕ). IsFrontOf after.disk.now.seen i) (sym (fell.durable all there)) (beside.fronts after.disk.now.seen new.disk.now.seen fell_second.left fell.left));
  reads_now = fell_second.reads_now;
  faults = (omega (arith, beside.faults.0, fell_second.faults, fell.counts.calls, fell.counts.reads), omega (arith, beside.faults.1, fell.counts.calls, fell.counts.reads));
  settled = λ _. fell_second.durable;
  even = λ opened settled. not_so opened;
  ready = λ up. down_so new fell.down up;
  none_lost = beside.none_lost;
}

pub falls_soundly : (pair : Twin) (new : Within) (after : Option Second) → Fell pair.primary new → FellSome pair.second after → IsKept new → IsSoundPair pair → IsSoundPair (fallen_with pair new after)
falls_soundly pair new after fell fell_second is_kept kept = record {
  primary = is_kept fell.counts.live;
  live = fell.counts.live;
  opened = λ up. down_so new fell.down up;
  second = beside_fallen pair new after pair.second after fell fell_second kept.second;
}

-- ---- and is seen

-- no failover may come of one that was not opened
pub unopened_stands : (pair : Twin) (second : Option Second) (start : Base) (history : List Happened) → pair.is_opened ≡ false → SecondStands pair second start history
unopened_stands pair None start history unopened = tt
unopened_stands pair (Some second) start history unopened = λ opened. not_so (sym unopened ∙ opened)

module _ (pair : Twin) (new : Within) (after : Option Second) (pick : ℕ) (live : pair.is_spent ≡ false) (both : is_failover pick ≡ false) (same : SameCounts pair.second after) where
  pair_crashed : (start : Base) (history : List Happened) (begun : Base) (later : List Happened) → Crashed (seen_of pair.primary start history) pick (seen_of new begun later) → Crashed (seen_in pair start history) pick (seen_in (fallen_with pair new after) begun later)
  pair_crashed start history begun later one = record {
    start = one.start;
    history = one.history;
    store = one.store;
    down = (one.down.0, one.down.1, refl);
    living = one.living;
    is_quiet = λ i. one.is_quiet i && (same.quiet i && quiet_of pair.lost);
    faults = omega (arith, one.faults, same.faults);
    stop = one.stop;
    per_record = subst (λ (b : Bool). per_record_in after ≡ (if b then 4 else per_record_in pair.second)) (sym both) same.per_record;
    crashes = one.crashes;
    calls = one.calls;
    is_spent = live;
  }

  pub falls : IsSoundPair (fallen_with pair new after) → Goes (SeesIn pair.primary) (SeesIn new) (λ before next. Crashed before pick next) → Goes (SeesPair pair) (SeesPair (fallen_with pair new after)) (λ before next. Crashed before pick next)
  falls sound goes =
      goes_with pair (fallen_with pair new after) (λ before next. Crashed before pick next) (λ before next. Crashed before pick next) live sound goes
      (λ start history begun later stands second now one. record { second = unopened_stands (fallen_with pair new after) after begun later refl; does = pair_crashed start history begun later one })
