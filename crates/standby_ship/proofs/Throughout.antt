-- What is done to the first store's service is done to the pair, once it was shipped, and once it
-- was stopped.
use Rattle.std.proofs.Common.{◌≡◌, ℕ, true, false, sym, subst, List}
use Rattle.std.specs.Prelude.{Option, is_some}
use Rattle.server_model.specs.meaning.Base.{Base}
use Rattle.server_model.specs.Runs.{Happened}
use Rattle.server_model.specs.Seen.{Seen}
use Rattle.service_calls.specs.Kept.{Goes}
use Rattle.service_core.specs.Seeing.{SeesIn}
use Rattle.service_core.specs.Shipping.{GrewBy, halted, taken}
use Rattle.service_core.specs.Sound.{IsSoundWithin}
use Rattle.service_core.specs.Unanswered.{IsHaltedAs}
use Rattle.service_core.specs.Within.{Within}
use Rattle.standby_ship.specs.Seeing.{SeesPair}
use Rattle.standby_ship.specs.Shipped.{HasShippedSome, with_reads}
use Rattle.standby_ship.specs.Sound.{IsSoundPair}
use Rattle.standby_ship.specs.Twins.{Second, Twin}
use Rattle.standby_ship.proofs.Answering.{answered_soundly, came_along, caught_up, goes_answered, with_both}
use Rattle.standby_ship.proofs.Going.{seen_in, seen_of}
use Rattle.standby_ship.proofs.Halting.{IsHalted, goes_halted, halted_soundly}

module _ (pair : Twin) (live : pair.is_spent ≡ false) where
  -- it was answered, and shipped
  pub answers : (kept : IsSoundPair pair) (is_up : is_some pair.primary.core ≡ true) (mid : Within) (grew : GrewBy pair.primary mid) (new : Within) (after : Option Second) → IsSoundWithin new → HasShippedSome mid new pair.second after
      → (One : Seen → Seen → Type 0) (Does : Within → Seen → Seen → Type 0) → Goes (SeesIn pair.primary) (SeesIn mid) One
      → ((reads : ℕ) → HasShippedSome mid (with_reads reads mid) pair.second after → (start : Base) (history : List Happened) (begun : Base) (later : List Happened)
      → One (seen_of pair.primary start history) (seen_of mid begun later) → Does (with_reads reads mid) (seen_in pair start history) (seen_in (with_both pair (with_reads reads mid) after) begun later))
      → Goes (SeesPair pair) (SeesPair (with_both pair new after)) (Does new)
  answers kept is_up mid grew new after sound shipped One Does goes comes =
      let caught = caught_up mid new pair.second after shipped in
      let along = came_along mid new pair.second after caught in
      let soundly = subst (λ (w : Within). IsSoundPair (with_both pair w after)) {x = new} along.primary (answered_soundly pair mid grew is_up kept new after sound caught) in
      let did = subst (λ (w : Within). HasShippedSome mid w pair.second after) {x = new} along.primary shipped in
      subst (λ (w : Within). Goes (SeesPair pair) (SeesPair (with_both pair w after)) (Does w)) {x = with_reads along.reads mid} (sym along.primary)
      (goes_answered pair live mid along.reads after One (Does (with_reads along.reads mid)) soundly grew.settled goes (comes along.reads did))

  -- it was stopped
  pub stops : (mid new : Within) (after : Option Second) (reads : ℕ) → new ≡ taken (with_reads reads mid) new.disk → IsHalted pair new after → IsSoundWithin new → mid.notes.is_spent ≡ false → new.disk.now ≡ mid.disk.now
      → (One Halts : Seen → Seen → Type 0) (Does : Within → Seen → Seen → Type 0) → Goes (SeesIn pair.primary) (SeesIn mid) One → Goes (SeesIn pair.primary) (IsHaltedAs pair.primary mid) Halts
      → (IsHalted pair (taken (with_reads reads mid) new.disk) after → (start : Base) (history : List Happened) (begun : Base) (later : List Happened) (first : Base) (told : List Happened)
      → One (seen_of pair.primary start history) (seen_of mid first told) → Halts (seen_of pair.primary start history) (seen_of (halted mid) begun later)
      → Does (taken (with_reads reads mid) new.disk) (seen_in pair start history) (seen_in (with_both pair (taken (with_reads reads mid) new.disk) after) begun later))
      → Goes (SeesPair pair) (SeesPair (with_both pair new after)) (Does new)
  stops mid new after reads same has_halted sound unspent now One Halts Does goes halts comes =
      let stopped = subst (λ (w : Within). IsHalted pair w after) {x = new} same has_halted in
      let soundly = halted_soundly pair live mid reads new.disk after (subst IsSoundWithin {x = new} same sound) unspent stopped in
      subst (λ (w : Within). Goes (SeesPair pair) (SeesPair (with_both pair w after)) (Does w)) {x = taken (with_reads reads mid) new.disk} (sym same)
      (goes_halted pair live mid reads new.disk after stopped now One Halts (Does (taken (with_reads reads mid) new.disk)) soundly goes halts (comes stopped))
