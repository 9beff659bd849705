-- Records that a service was asked for, appended to the second store.
use Rattle.std.proofs.Common.{◌≡◌, ◌≢◌, ◌∙◌, ◌*◌, ℕ, sym, ap, subst, List, length, Vec, Global}
use Rattle.std.proofs.lemmas.List.{length-map}
use Rattle.std.specs.Prelude.{Option, Some, None}
use Rattle.disk_model.specs.Moment.{MayLeave}
use Rattle.disk_model.specs.Disk.{Caused, DiskState, Lowered, LoweredByLess, with_fault}
use Rattle.redo_store.specs.declared.redo.Redo.{Redo}
use Rattle.redo_store.specs.Redo.{CanAppend, count_of, tail_of}
use Rattle.redo_store.specs.meaning.Records.{records_of}
use Rattle.service_core.specs.Seeing.{bytes_in}
use Rattle.service_core.specs.Shipping.{AreBehind, StandsAt, count_in, halted, read_once}
use Rattle.service_core.specs.Sound.{IsSoundWithin}
use Rattle.service_core.specs.Within.{Within}
use Rattle.standby_ship.specs.Lagging.{Lags, lacked_in, open_at}
use Rattle.standby_ship.specs.Shipped.{HasBroken, HasShipped, HasSomeLasts, with_lasts}
use Rattle.standby_ship.specs.Sound.{MayShip}
use Rattle.standby_ship.proofs.Appending.{items_of}
use Rattle.standby_ship.proofs.Lacking.{breaks_adding, ships_all, stands_at}

-- a stop takes nothing from a store
pub ready_under : (store : Redo) (disk : DiskState) (stop : Option ℕ) → CanAppend store disk → CanAppend store (record disk { stop = stop })
ready_under store disk stop ready = record { live = ready.live; store = ready.store; counted = ready.counted; settled = ready.settled }

-- where the second store's records end in the first one, as they were asked for
pub stands_for : (primary : Within) (store : Redo) (disk : DiskState) (from place : ℕ) → IsSoundWithin primary → Lags primary (open_at store disk) → CanAppend store disk → from ≡ count_of store → place ≡ tail_of store → StandsAt from place (bytes_in primary)
stands_for primary store disk from place sound lags ready is_from is_place =
    subst (λ (n : ℕ). StandsAt n place (bytes_in primary)) (sym is_from) (subst (λ (n : ℕ). StandsAt (count_of store) n (bytes_in primary)) (sym is_place) (stands_at primary store disk sound lags ready))

pub are_behind : (primary : Within) (store : Redo) (from place : ℕ) (payloads : List (List ℕ)) → from ≡ count_of store → place ≡ tail_of store → AreBehind from place (bytes_in primary) payloads → AreBehind (count_of store) (tail_of store) (bytes_in primary) payloads
are_behind primary store from place payloads is_from is_place are =
    subst (λ (n : ℕ). AreBehind (count_of store) n (bytes_in primary) payloads) is_place (subst (λ (n : ℕ). AreBehind n place (bytes_in primary) payloads) is_from are)

-- `begun` is the second disk under the stop that the first one leaves, and `shown` what was
-- appended there.
module _ (primary new : Within) (store later : Redo) (disk begun end : DiskState) (payloads shown : List (Vec ℕ Global)) (sound : IsSoundWithin primary) (lags : Lags primary (open_at store disk)) (ready : CanAppend store disk)
    (are : AreBehind (count_of store) (tail_of store) (bytes_in primary) (items_of payloads)) (is_new : new ≡ read_once primary) (is_begun : begun ≡ record disk { stop = new.disk.stop }) (is_shown : shown ≡ payloads) (Fault : Type 0) (cause : Caused Fault begun end) (differ : count_of store ≢ count_in primary) (reads_now : MayLeave end.now end.now.seen) where
  same_seen : begun.now.seen ≡ disk.now.seen
  same_seen = ap (λ (d : DiskState). d.now.seen) is_begun

  same_stop : begun.stop ≡ primary.disk.stop
  same_stop = ap (λ (d : DiskState). d.stop) is_begun ∙ ap (λ (w : Within). w.disk.stop) is_new

  same_length : length shown ≡ length (items_of payloads)
  same_length = ap (λ (l : List (Vec ℕ Global)). length l) is_shown ∙ sym (length-map payloads (λ (payload : Vec ℕ Global). payload.items))

  same_quiet : end.quiet ≡ disk.quiet
  same_quiet = cause.still_quiet ∙ ap (λ (d : DiskState). d.quiet) is_begun

  pub sent_all : (Fault → ⊥) → CanAppend later end → records_of end.now.seen ≡ with_lasts (items_of shown) (records_of begun.now.seen) → Lowered (4 * length shown) begun.stop end.stop → HasShipped primary new (open_at store disk) (open_at later end)
  sent_all none goes_on added stop =
      let added_there : records_of end.now.seen ≡ with_lasts (items_of payloads) (records_of disk.now.seen) = added ∙ ap (λ (l : List (Vec ℕ Global)). with_lasts (items_of l) (records_of begun.now.seen)) is_shown ∙ ap (λ (image : List ℕ). with_lasts (items_of payloads) (records_of image)) same_seen in
      let stop_there : Lowered (4 * length (items_of payloads)) primary.disk.stop end.stop = subst (λ (n : ℕ). Lowered (4 * n) primary.disk.stop end.stop) same_length (subst (λ (s : Option ℕ). Lowered (4 * length shown) s end.stop) same_stop stop) in
      ships_all primary new store later disk end (items_of payloads) sound lags ready are differ is_new goes_on reads_now added_there stop_there (cause.uncounted none ∙ ap (λ (d : DiskState). d.faults) is_begun) same_quiet

  pub sent_some : (halt : Within) → Fault → halt ≡ halted new → ((image : List ℕ) → MayLeave end.now image → HasSomeLasts (items_of shown) begun.now.seen image) → LoweredByLess (4 * length shown) begun.stop end.stop
      → HasBroken (lacked_in primary (open_at store disk)) primary halt (open_at store disk) (open_at later end)
  sent_some halt fault is_halt left stop =
      let left_there = λ (image : List ℕ) (leaves : MayLeave end.now image). subst (λ (l : List (Vec ℕ Global)). HasSomeLasts (items_of l) disk.now.seen image) is_shown (subst (λ (was : List ℕ). HasSomeLasts (items_of shown) was image) same_seen (left image leaves)) in
      let stop_there : LoweredByLess (4 * length (items_of payloads)) primary.disk.stop end.stop = subst (λ (n : ℕ). LoweredByLess (4 * n) primary.disk.stop end.stop) same_length (subst (λ (s : Option ℕ). LoweredByLess (4 * length shown) s end.stop) same_stop stop) in
      breaks_adding primary halt store later disk end (items_of payloads) sound lags ready are differ (is_halt ∙ ap halted is_new) reads_now left_there stop_there (cause.counted fault ∙ ap (λ (d : DiskState). with_fault d.faults) is_begun)
      (λ quiet. cause.at_stop (ap (λ (d : DiskState). d.quiet) is_begun ∙ quiet) fault) same_quiet

-- ---- a second store that is open

pub may_append : (store : Redo) (disk : DiskState) → MayShip (open_at store disk) → CanAppend store disk
may_append store disk may =
    let e : ◌≡◌ {A = Option Redo} (Some may.store) (Some store) = sym may.is in
    let same : may.store ≡ store = cc in
    subst (λ (r : Redo). CanAppend r disk) same may.ready

-- and one that is not
pub may_not : (disk : DiskState) → MayShip (record { disk = disk; store = None }) → ⊥
may_not disk may = let e : ◌≡◌ {A = Option Redo} None (Some may.store) = may.is in cc
