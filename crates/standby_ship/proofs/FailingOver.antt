-- A crash that takes the first store away.
use Rattle.std.proofs.Common.{◌≡◌, ◌⊎◌, inl, inr, ◌∙◌, ℕ, Bool, true, false, refl, sym, ap, subst, List, arith}
use Rattle.std.specs.Prelude.{◌&&◌, Option, Some, None, is_some, if◌then◌else◌}
use Rattle.disk_model.specs.Disk.{DiskState}
use Rattle.server_model.specs.meaning.Base.{Base}
use Rattle.server_model.specs.meaning.ServiceCalls.{is_failover}
use Rattle.server_model.specs.Runs.{Happened}
use Rattle.server_model.specs.Seen.{Seen, ServiceState}
use Rattle.server_model.specs.ServiceCalls.{Crashed}
use Rattle.service_calls.specs.Kept.{Goes, HaveOneBase}
use Rattle.service_core.specs.Seeing.{SeesIn}
use Rattle.service_core.specs.Shipping.{Fell, taken}
use Rattle.service_core.specs.Sound.{IsKept}
use Rattle.service_core.specs.Within.{Within}
use Rattle.standby_ship.specs.Fallen.{TookOver}
use Rattle.standby_ship.specs.Seeing.{SecondStands, SeesPair}
use Rattle.standby_ship.specs.Sound.{IsBeside, IsBesideSome, IsSoundPair}
use Rattle.standby_ship.specs.Twins.{Second, Twin, disk_in, faults_of, per_record_in, quiet_of}
use Rattle.standby_ship.proofs.Beginnings.{settled_up}
use Rattle.standby_ship.proofs.Crashing.{down_so, unopened_stands}
use Rattle.standby_ship.proofs.Going.{seen_in, seen_of, seen_with, sees_one}
use Rattle.standby_ship.proofs.TakingOver.{even_store, may_go_on, taken_seen}

-- the pair with one store, and the one that it lost
abbrev pub failed_with : Twin → Within → Option Second → Option DiskState → Twin
failed_with pair primary later lost = record pair { primary = primary; second = later; lost = lost; is_opened = false }

-- ---- what is done to the service that goes on is done to the pair

goes_on : (pair new : Twin) (mid : Within) (One Does : Seen → Seen → Type 0) → new.is_spent ≡ false → new.is_opened ≡ false → IsSoundPair new
    → ((seen : Seen) → SeesPair pair seen → SeesIn mid (seen_of mid seen.start seen.history)) → Goes (SeesIn mid) (SeesIn new.primary) One
    → ((start : Base) (history : List Happened) (begun : Base) (later : List Happened) → One (seen_of mid start history) (seen_of new.primary begun later) → Does (seen_in pair start history) (seen_in new begun later))
    → Goes (SeesPair pair) (SeesPair new) Does
goes_on pair new mid One Does live unopened sound sees_mid goes comes before sees =
    let first = seen_of mid before.start before.history in
    let gone = goes first (sees_mid before sees) in
    let after = gone.0 in
    let one = subst (λ (state : ServiceState). One first (seen_with after.start after.history state)) gone.1.0.sees.state_is gone.1.1 in
    subst (λ (state : ServiceState). (seen : Seen) × (SeesPair new seen × Does (seen_with before.start before.history state) seen)) (sym sees.state_is) (
      seen_in new after.start after.history,
      (
        record {
          live = live;
          sound = sound;
          state_is = refl;
          stands = gone.1.0.sees.stands;
          second = unopened_stands new new.second after.start after.history unopened;
        },
        comes before.start before.history after.start after.history one,
      ),
    )

-- ---- with a second store

both_quiet : (a b : Bool) → (b && (true && a)) ≡ (a && (b && true))
both_quiet true true = refl
both_quiet true false = refl
both_quiet false true = refl
both_quiet false false = refl

-- nothing is pending of one that is up, or settled
whole_settled : (pair : Twin) → IsSoundPair pair → (is_some pair.primary.core ≡ true) ⊎ (pair.primary.notes.is_settled ≡ true) → pair.primary.notes.is_settled ≡ true
whole_settled pair kept (inl up) = settled_up pair.primary up kept.primary
whole_settled pair kept (inr settled) = settled

module _ (pair : Twin) (second : Second) (is : pair.second ≡ Some second) (live : pair.is_spent ≡ false) (opened : pair.is_opened ≡ true) (kept : IsSoundPair pair) (pick : ℕ) (over : is_failover pick ≡ true)
    (new : Within) (later : Option Second) (lost : Option DiskState) (none : later ≡ None) (lost_is : lost ≡ Some pair.primary.disk) (fell : Fell (taken pair.primary second.disk) new) where
  beside : IsBeside pair second
  beside = subst (IsBesideSome pair) is kept.second

  over_quiet : new.disk.quiet ≡ second.disk.quiet → (new.disk.quiet && (quiet_of (disk_in later) && quiet_of lost)) ≡ (pair.primary.disk.quiet && (quiet_of (disk_in pair.second) && quiet_of pair.lost))
  over_quiet same =
      (λ i. same i && (quiet_of (disk_in (none i)) && quiet_of (lost_is i))) ∙ both_quiet pair.primary.disk.quiet second.disk.quiet
      ∙ (λ i. pair.primary.disk.quiet && (quiet_of (disk_in (sym is i)) && quiet_of (sym beside.none_lost i)))

  over_crashed : (start : Base) (history : List Happened) (begun : Base) (told : List Happened) → Crashed (seen_of (taken pair.primary second.disk) start history) pick (seen_of new begun told)
      → Crashed (seen_in pair start history) pick (seen_in (failed_with pair new later lost) begun told)
  over_crashed start history begun told one = record {
    start = one.start;
    history = one.history;
    store = λ whole. even_store pair second beside kept.primary opened new.disk.now.seen (whole_settled pair kept whole) fell.left;
    down = (one.down.0, one.down.1, refl);
    living = one.living;
    is_quiet = over_quiet one.is_quiet;
    faults = omega (arith, one.faults, ap (λ (o : Option Second). faults_of (disk_in o)) is, ap faults_of beside.none_lost, ap (λ (o : Option Second). faults_of (disk_in o)) none, ap faults_of lost_is);
    stop = one.stop;
    per_record = subst (λ (b : Bool). per_record_in later ≡ (if b then 4 else per_record_in pair.second)) (sym over) (ap per_record_in none);
    crashes = one.crashes;
    calls = one.calls;
    is_spent = live;
  }

  fails : IsSoundPair (failed_with pair new later lost) → Goes (SeesIn (taken pair.primary second.disk)) (SeesIn new) (λ before next. Crashed before pick next)
      → Goes (SeesPair pair) (SeesPair (failed_with pair new later lost)) (λ before next. Crashed before pick next)
  fails sound goes =
      goes_on pair (failed_with pair new later lost) (taken pair.primary second.disk) (λ before next. Crashed before pick next) (λ before next. Crashed before pick next) live refl sound
      (λ seen sees. taken_seen pair second beside kept.primary opened seen.start seen.history sees.stands (subst (λ (o : Option Second). SecondStands pair o seen.start seen.history) is sees.second) kept.live)
      goes over_crashed

-- ---- with none

module _ (pair : Twin) (is : pair.second ≡ None) (live : pair.is_spent ≡ false) (pick : ℕ) (new : Within) (later : Option Second) (lost : Option DiskState) (none : later ≡ None) (lost_is : lost ≡ pair.lost) where
  alone_crashed : (start : Base) (history : List Happened) (begun : Base) (told : List Happened) → Crashed (seen_of pair.primary start history) pick (seen_of new begun told) → Crashed (seen_in pair start history) pick (seen_in (failed_with pair new later lost) begun told)
  alone_crashed start history begun told one = record {
    start = one.start;
    history = one.history;
    store = one.store;
    down = (one.down.0, one.down.1, refl);
    living = one.living;
    is_quiet = λ i. one.is_quiet i && (quiet_of (disk_in ((none ∙ sym is) i)) && quiet_of (lost_is i));
    faults = omega (arith, one.faults, ap (λ (o : Option Second). faults_of (disk_in o)) (none ∙ sym is), ap faults_of lost_is);
    stop = one.stop;
    per_record = ap per_record_in none ∙ same_calls (is_failover pick) ∙ ap (λ (o : Option Second). if is_failover pick then 4 else per_record_in o) (sym is);
    crashes = one.crashes;
    calls = one.calls;
    is_spent = live;
  }
    where
      same_calls : (over : Bool) → ◌≡◌ {A = ℕ} 4 (if over then 4 else per_record_in None)
      same_calls true = refl
      same_calls false = refl

  fails_alone : IsSoundPair (failed_with pair new later lost) → Goes (SeesIn pair.primary) (SeesIn new) (λ before next. Crashed before pick next) → Goes (SeesPair pair) (SeesPair (failed_with pair new later lost)) (λ before next. Crashed before pick next)
  fails_alone sound goes =
      goes_on pair (failed_with pair new later lost) pair.primary (λ before next. Crashed before pick next) (λ before next. Crashed before pick next) live refl sound (sees_one pair) goes alone_crashed

-- ---- either way

module _ (pair : Twin) (live : pair.is_spent ≡ false) (opened : pair.is_opened ≡ true) (kept : IsSoundPair pair) (mid new : Within) (later : Option Second) (lost : Option DiskState) where
  fails_by : (second : Option Second) → pair.second ≡ second → TookOver pair.primary mid second later pair.lost lost → (pick : ℕ) → is_failover pick ≡ true → Fell mid new → IsSoundPair (failed_with pair new later lost)
      → Goes (SeesIn mid) (SeesIn new) (λ before next. Crashed before pick next) → Goes (SeesPair pair) (SeesPair (failed_with pair new later lost)) (λ before next. Crashed before pick next)
  fails_by None is took pick over fell sound goes =
      fails_alone pair is live pick new later lost took.none took.lost_is sound (subst (λ (w : Within). Goes (SeesIn w) (SeesIn new) (λ before next. Crashed before pick next)) took.primary goes)
  fails_by (Some second) is took pick over fell sound goes =
      fails pair second is live opened kept pick over new later lost took.none took.lost_is (subst (λ (w : Within). Fell w new) took.primary fell) sound
      (subst (λ (w : Within). Goes (SeesIn w) (SeesIn new) (λ before next. Crashed before pick next)) took.primary goes)

  pub fails_over : TookOver pair.primary mid pair.second later pair.lost lost → (pick : ℕ) → is_failover pick ≡ true → Fell mid new → IsSoundPair (failed_with pair new later lost)
      → Goes (SeesIn mid) (SeesIn new) (λ before next. Crashed before pick next) → Goes (SeesPair pair) (SeesPair (failed_with pair new later lost)) (λ before next. Crashed before pick next)
  fails_over took pick over fell sound goes = fails_by pair.second refl took pick over fell sound goes

  base_by : (second : Option Second) → IsBesideSome pair second → TookOver pair.primary mid second later pair.lost lost → HaveOneBase mid.disk.now.seen new.disk.now.seen → HaveOneBase pair.primary.disk.now.seen new.disk.now.seen
  base_by None near took base = subst (λ (w : Within). HaveOneBase w.disk.now.seen new.disk.now.seen) {x = mid} took.primary base
  base_by (Some second) near took base =
      let may = may_go_on pair second near kept.primary opened in
      let read = may.journals second.disk.now.seen near.reads_now in
      let last = subst (λ (w : Within). HaveOneBase w.disk.now.seen new.disk.now.seen) {x = mid} took.primary base in
      λ journal other reads here. last read.journal other read.reads here ∙ may.base journal read.journal reads read.reads

  pub base_over : TookOver pair.primary mid pair.second later pair.lost lost → HaveOneBase mid.disk.now.seen new.disk.now.seen → HaveOneBase pair.primary.disk.now.seen new.disk.now.seen
  base_over took base = base_by pair.second kept.second took base

-- ---- it is sound

none_later : (primary mid : Within) (second later : Option Second) (before lost : Option DiskState) → TookOver primary mid second later before lost → later ≡ None
none_later primary mid None later before lost took = took.none
none_later primary mid (Some second) later before lost took = took.none

pub failed_soundly : (pair : Twin) (mid new : Within) (later : Option Second) (lost : Option DiskState) → TookOver pair.primary mid pair.second later pair.lost lost → Fell mid new → IsKept new → IsSoundPair (failed_with pair new later lost)
failed_soundly pair mid new later lost took fell is_kept = record {
  primary = is_kept fell.counts.live;
  live = fell.counts.live;
  opened = λ up. down_so new fell.down up;
  second = subst (λ (o : Option Second). IsBesideSome (failed_with pair new later lost) o) {x = None} (sym (none_later pair.primary mid pair.second later pair.lost lost took)) tt;
}
