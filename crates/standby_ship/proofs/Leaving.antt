-- What each call of a pair that stores leaves of the pair: it is sound, and its store has the base
-- that it had.
use Rattle.std.proofs.Common.{◌≡◌, ◌∙◌, ◌<◌, ◌^◌, ℕ, true, false, sym, ap, subst, List}
use Rattle.std.specs.Prelude.{Option, Some, None, is_some}
use Rattle.disk_model.specs.Moment.{DiskMoment}
use Rattle.service_calls.specs.Kept.{HaveOneBase}
use Rattle.service_core.specs.Shipping.{Broke, GrewBy, taken}
use Rattle.service_core.specs.Sound.{IsKept, IsSoundWithin}
use Rattle.service_core.specs.Within.{Within}
use Rattle.standby_ship.specs.Lagging.{lacked_some}
use Rattle.standby_ship.specs.Shipped.{HasBrokenSome, HasShippedSome, with_reads}
use Rattle.standby_ship.specs.Sound.{IsSoundPair}
use Rattle.standby_ship.specs.Twins.{Second, Twin}
use Rattle.standby_ship.proofs.Answering.{answered_soundly, came_along, caught_up, with_both}
use Rattle.standby_ship.proofs.Breaking.{counted, halts_own, halts_shipping, is_down}
use Rattle.standby_ship.proofs.Halting.{IsHalted, halted_soundly}

-- ---- the first store's service

pub sound_shipped : (old mid new : Within) (before after : Option Second) → GrewBy old mid → HasShippedSome mid new before after → IsKept new → IsSoundWithin new
sound_shipped old mid new before after grew shipped kept =
    let along = came_along mid new before after (caught_up mid new before after shipped) in
    kept (ap (λ (w : Within). w.notes.is_spent) along.primary ∙ grew.counts.live)

-- what a failure as it was shipped leaves of it
record IsTaken (mid new : Within) : Type 0 where
  reads : ℕ
  is : new ≡ taken (with_reads reads mid) new.disk
  bytes : new.disk.now ≡ mid.disk.now

taken_in : (most : ℕ) (mid new : Within) (before after : Option Second) → HasBrokenSome most mid new before after → IsTaken mid new
taken_in most mid new None after broken = absurd broken
taken_in most mid new (Some before) None broken = absurd broken
taken_in most mid new (Some before) (Some after) broken = record { reads = broken.reads; is = broken.down; bytes = broken.bytes }

pub sound_broken : (most : ℕ) (old mid new : Within) (before after : Option Second) → GrewBy old mid → HasBrokenSome most mid new before after → IsKept new → IsSoundWithin new
sound_broken most old mid new before after grew broken kept =
    let down = taken_in most mid new before after broken in
    kept (ap (λ (w : Within). w.notes.is_spent) down.is ∙ grew.counts.live)

-- ---- the base

pub base_shipped : (mid new : Within) (before after : Option Second) (old : List ℕ) → HasShippedSome mid new before after → HaveOneBase old mid.disk.now.seen → HaveOneBase old new.disk.now.seen
base_shipped mid new before after old shipped base =
    let along = came_along mid new before after (caught_up mid new before after shipped) in
    subst (λ (w : Within). HaveOneBase old w.disk.now.seen) {x = with_reads along.reads mid} (sym along.primary) base

pub base_broken : (most : ℕ) (mid new : Within) (before after : Option Second) (old : List ℕ) → HasBrokenSome most mid new before after → HaveOneBase old mid.disk.now.seen → HaveOneBase old new.disk.now.seen
base_broken most mid new before after old broken base =
    let down = taken_in most mid new before after broken in
    subst (λ (m : DiskMoment). HaveOneBase old m.seen) {x = mid.disk.now} (sym down.bytes) base

-- ---- the pair

module _ (pair : Twin) (live : pair.is_spent ≡ false) (kept : IsSoundPair pair) (is_up : is_some pair.primary.core ≡ true) where
  pub keeps_shipped : (mid new : Within) (after : Option Second) → GrewBy pair.primary mid → HasShippedSome mid new pair.second after → IsKept new → IsSoundPair (with_both pair new after)
  keeps_shipped mid new after grew shipped is_kept =
      answered_soundly pair mid grew is_up kept new after (sound_shipped pair.primary mid new pair.second after grew shipped is_kept) (caught_up mid new pair.second after shipped)

  pub keeps_broken : (mid new : Within) (after : Option Second) → GrewBy pair.primary mid → IsKept mid → HasBrokenSome (lacked_some mid pair.second) mid new pair.second after → IsKept new → IsSoundPair (with_both pair new after)
  keeps_broken mid new after grew kept_mid broken is_kept =
      let sound_mid = kept_mid grew.counts.live in
      let sound = sound_broken (lacked_some mid pair.second) pair.primary mid new pair.second after grew broken is_kept in
      let counts = counted pair mid grew is_up kept sound_mid new sound after broken in
      let halts = halts_shipping pair mid grew is_up kept sound_mid new sound after broken in
      subst (λ (w : Within). IsSoundPair (with_both pair w after)) {x = taken (with_reads counts.reads mid) new.disk} (sym counts.down)
      (halted_soundly pair live mid counts.reads new.disk after (subst IsSoundWithin {x = new} counts.down sound) grew.counts.live (subst (λ (w : Within). IsHalted pair w after) {x = new} counts.down halts))

  pub keeps_stopped : (new : Within) → pair.primary.notes.calls < 2 ^ 48 → Broke pair.primary new → IsKept new → IsSoundPair (with_both pair new pair.second)
  keeps_stopped new few broke is_kept =
      let sound = is_kept broke.counts.live in
      let same = is_down new broke.down broke.settled sound in
      let halts = halts_own pair is_up few kept new broke sound in
      subst (λ (w : Within). IsSoundPair (with_both pair w pair.second)) {x = taken (with_reads new.notes.reads new) new.disk} (sym same)
      (halted_soundly pair live new new.notes.reads new.disk pair.second (subst IsSoundWithin {x = new} same sound) broke.counts.live (subst (λ (w : Within). IsHalted pair w pair.second) {x = new} same halts))
