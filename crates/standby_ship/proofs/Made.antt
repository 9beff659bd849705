-- A pair as it is made.
use Rattle.std.proofs.Common.{◌≡◌, ◌∙◌, ℕ, Bool, true, false, refl, sym, ap, subst, List, arith}
use Rattle.disk_model.specs.Moment.{MayLeave}
use Rattle.disk_model.specs.Disk.{DiskState}
use Rattle.redo_store.specs.meaning.Records.{records_of}
use Rattle.mutable_values.specs.declared.grants.Grants.{Grants}
use Rattle.commit_log.specs.declared.journal.Journal.{Journal}
use Rattle.server_model.specs.Seen.{IsNew}
use Rattle.service_core.specs.Seeing.{SeesIn}
use Rattle.service_core.specs.Sound.{IsKept, IsSoundWithin}
use Rattle.service_core.specs.Starting.{CanBegin, base_of, made_on, seen_new as seen_new_one}
use Rattle.service_core.specs.Within.{Within}
use Rattle.standby_ship.specs.Seeing.{SeesPair}
use Rattle.standby_ship.specs.Sound.{IsFrontOf, IsSoundPair}
use Rattle.standby_ship.specs.Starting.{made_of, seen_new, with_second}
use Rattle.standby_ship.specs.Twins.{Twin}
use Rattle.standby_ship.proofs.Fronts.{same_front}

-- it is neither up nor opened
not_so : {A : Type 0} → false ≡ true → A
not_so so = absurd (let e : ◌≡◌ {A = Bool} false true = so in let none : ⊥ = cc in none)

module _ (primary second : DiskState) (grants : Grants) (one : CanBegin primary) (other : CanBegin second) (same : records_of second.now.seen ≡ records_of primary.now.seen) where
  fronts_now : (image whole : List ℕ) → MayLeave second.now image → MayLeave primary.now whole → IsFrontOf image whole
  fronts_now image whole here there =
      subst (λ (i : List ℕ). IsFrontOf i whole) (sym (other.settled image here))
      (subst (λ (w : List ℕ). IsFrontOf second.now.seen w) (sym (one.settled whole there)) (same_front second.now.seen primary.now.seen one.journal one.reads same))

  pub makes_soundly : IsSoundWithin (made_on primary grants) → MayLeave second.now second.now.seen → IsSoundPair (made_of primary second grants)
  makes_soundly sound reads_now = record {
    primary = sound;
    live = refl;
    opened = λ up. not_so up;
    second = record {
      fronts = fronts_now;
      reads_now = reads_now;
      faults = (omega (arith, other.faults), omega arith);
      settled = λ _. other.settled;
      even = λ opened _. not_so opened;
      ready = λ up. not_so up;
      none_lost = refl;
    };
  }

  pub makes_seen : (journal : Journal) → IsSoundPair (made_of primary second grants) → SeesIn (made_on primary grants) (seen_new_one (made_on primary grants) (base_of journal grants)) → SeesPair (made_of primary second grants) (seen_new (made_of primary second grants) (base_of journal grants))
  makes_seen journal sound sees = record { live = refl; sound = sound; state_is = refl; stands = sees.sees.stands; second = λ opened. not_so opened }

  pub makes_new : (journal : Journal) → IsNew (seen_new_one (made_on primary grants) (base_of journal grants)) → IsNew (seen_new (made_of primary second grants) (base_of journal grants))
  makes_new journal new = record {
    history = refl;
    entries = new.entries;
    blocked = new.blocked;
    alerts = new.alerts;
    incarnation = new.incarnation;
    horizon = new.horizon;
    down = (refl, refl, refl);
    none = (λ connection. refl, one.stop, refl, refl, refl, refl);
  }

  -- the same of a service that was made so
  module _ (service : Within) (is : service ≡ made_on primary grants) (kept : IsKept service) (reads_now : MayLeave second.now second.now.seen) where
    sound : IsSoundWithin (made_on primary grants)
    sound = subst (λ (w : Within). IsKept w) is kept refl

    pub beside_soundly : IsSoundPair (with_second service second)
    beside_soundly = subst (λ (w : Within). IsSoundPair (with_second w second)) {x = made_on primary grants} {y = service} (sym {b = made_on primary grants} is) (makes_soundly sound reads_now)

    pub beside_seen : (journal : Journal) → SeesIn service (seen_new_one service (base_of journal grants)) × IsNew (seen_new_one service (base_of journal grants))
        → (pair : Twin) → pair ≡ with_second service second → SeesPair pair (seen_new pair (base_of journal grants)) × IsNew (seen_new pair (base_of journal grants))
    beside_seen journal seen pair pair_is =
        let first = subst (λ (w : Within). SeesIn w (seen_new_one w (base_of journal grants)) × IsNew (seen_new_one w (base_of journal grants))) is seen in
        let made : pair ≡ made_of primary second grants = pair_is ∙ ap (λ (w : Within). with_second w second) is in
        subst (λ (p : Twin). SeesPair p (seen_new p (base_of journal grants)) × IsNew (seen_new p (base_of journal grants))) {x = made_of primary second grants} {y = pair} (sym {b = made_of primary second grants} made)
        (makes_seen journal (makes_soundly sound reads_now) first.0, makes_new journal first.1)
