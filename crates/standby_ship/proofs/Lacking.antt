-- What a second store lacks, and what shipping it leaves.
use Rattle.std.proofs.Common.{◌≡◌, ◌≢◌, ◌∙◌, ◌+◌, ◌-◌, ◌*◌, ◌<◌, ◌≤◌, ◌^◌, ℕ, suc, Bool, true, false, refl, sym, ap, subst, List, [], ◌∷◌, ◌++◌, length, append_assoc, append-nil, length-append, arith}
use Rattle.std.proofs.Math.Nat.{min-eq_left}
use Rattle.std.specs.Prelude.{Option, Some, None, is_some, Ok}
use Rattle.disk_model.specs.Moment.{MayLeave}
use Rattle.disk_model.specs.Disk.{DiskState, Lowered, LoweredByLess, with_fault}
use Rattle.redo_store.specs.declared.redo.Redo.{Redo}
use Rattle.redo_store.specs.Records.{record_count}
use Rattle.redo_store.specs.Redo.{CanAppend, count_of, tail_of}
use Rattle.redo_store.specs.Store.{IsStore}
use Rattle.redo_store.specs.meaning.Records.{records_of}
use Rattle.redo_store.proofs.Offered.{stands_over}
use Rattle.mutable_values.specs.declared.grants.Grants.{Grants}
use Rattle.server_session.specs.declared.shared.Core.{Core}
use Rattle.service_core.specs.declared.notes.Notes.{Notes}
use Rattle.service_core.specs.Held.{Held}
use Rattle.service_core.specs.Seeing.{bytes_in}
use Rattle.service_core.specs.Shipping.{AreBehind, FailedRead, StandsAt, count_in, halted, read_once, taken}
use Rattle.service_core.specs.Sound.{HasFaultRoom, IsSound, IsSoundWithin}
use Rattle.service_core.specs.Unanswered.{LiesBetween}
use Rattle.service_core.specs.Within.{Within}
use Rattle.standby_ship.specs.Lagging.{Lags, lacked_in, open_at}
use Rattle.standby_ship.specs.Shipped.{HasBroken, HasShipped, HasSomeLasts, with_lasts}
use Rattle.standby_ship.specs.Sound.{IsFrontOf}

-- ---- how many records

-- the first store has these more
pub lacks : (image whole : List ℕ) (front : IsFrontOf image whole) → record_count (records_of whole) - record_count (records_of image) ≡ length front.more
lacks image whole front =
    let here : record_count (records_of image) ≡ suc (length front.some) = ap record_count front.image_is in
    let there : record_count (records_of whole) ≡ suc (length (front.some ++ front.more)) = ap record_count front.whole_is in
    omega (arith, here, there, length-append front.some front.more)

none_of : (list : List (List ℕ)) → length list ≡ 0 → list ≡ []
none_of [] none = refl
none_of (one ∷ list) none = absurd (omega (arith, none))

-- as many records are the same
pub as_many : (image whole : List ℕ) → IsFrontOf image whole → record_count (records_of image) ≡ record_count (records_of whole) → records_of image ≡ records_of whole
as_many image whole front same =
    let none = none_of front.more (sym (lacks image whole front) ∙ (omega (arith, same))) in
    front.image_is ∙ ap (λ (l : List (List ℕ)). Ok (front.base ∷ l)) (sym (append-nil front.some) ∙ ap (λ (l : List (List ℕ)). front.some ++ l) (sym none)) ∙ sym front.whole_is

-- others are fewer
pub some_lacked : (image whole : List ℕ) → IsFrontOf image whole → (record_count (records_of image) ≢ record_count (records_of whole)) → 1 ≤ record_count (records_of whole) - record_count (records_of image)
some_lacked image whole front differ =
    let here : record_count (records_of image) ≡ suc (length front.some) = ap record_count front.image_is in
    let there : record_count (records_of whole) ≡ suc (length (front.some ++ front.more)) = ap record_count front.whole_is in
    omega (arith, here, there, length-append front.some front.more, differ)

-- ---- where they stand

-- the bytes of a service that is up are a store
store_in_up : (grants : Grants) (disk : DiskState) (core : Option Core) (held : Held) (notes : Notes) → is_some core ≡ true → IsSound grants disk core held notes → (tail : ℕ) × IsStore tail disk.now.seen
store_in_up grants disk None held notes up sound = absurd (let e : ◌≡◌ {A = Bool} false true = up in let none : ⊥ = cc in none)
store_in_up grants disk (Some core) held notes up sound = (core.log.redo.tail, sound.fits.log.append.store)

pub stands_at : (primary : Within) (store : Redo) (disk : DiskState) → IsSoundWithin primary → Lags primary (open_at store disk) → CanAppend store disk → StandsAt (count_of store) (tail_of store) (bytes_in primary)
stands_at primary store disk sound lags ready =
    let is = store_in_up primary.grants primary.disk primary.core primary.held primary.notes lags.up sound in
    record {
      records = lags.front.base ∷ lags.front.some;
      stands = stands_over store disk ready is.0 primary.disk.now.seen is.1 (lags.front.base ∷ lags.front.some) lags.front.more lags.front.image_is lags.front.whole_is;
      counted = ready.counted ∙ ap record_count lags.front.image_is;
    }

-- ---- nothing was lacked

pub ships_none : (primary : Within) (store : Redo) (disk : DiskState) → Lags primary (open_at store disk) → CanAppend store disk → MayLeave disk.now disk.now.seen → count_of store ≡ count_in primary → HasShipped primary primary (open_at store disk) (open_at store disk)
ships_none primary store disk lags ready reads_now same =
    let here : record_count (records_of disk.now.seen) ≡ count_in primary = sym ready.counted ∙ same in
    let nothing : lacked_in primary (open_at store disk) ≡ 0 = omega (arith, here) in
    record {
      caught_up = record {
        reads = primary.notes.reads;
        primary = refl;
        more_reads = omega arith;
        even = record { records = as_many disk.now.seen primary.disk.now.seen lags.front here; settled = ready.settled };
        ready = record { store = store; is = refl; ready = ready };
        reads_now = reads_now;
        faults = refl;
        quiet = refl;
      };
      none = λ _. refl;
      under = λ some. absurd (some nothing);
    }

-- ---- what was lacked was appended

-- The payloads that the first store has more.
pub behind_it : (primary : Within) (store : Redo) (disk : DiskState) (payloads : List (List ℕ)) → IsSoundWithin primary → (lags : Lags primary (open_at store disk)) → CanAppend store disk → AreBehind (count_of store) (tail_of store) (bytes_in primary) payloads
    → records_of primary.disk.now.seen ≡ Ok ((lags.front.base ∷ lags.front.some) ++ payloads)
unfolding stands_at
behind_it primary store disk payloads sound lags ready are =
    let stands = stands_at primary store disk sound lags ready in
    are (lags.front.base ∷ lags.front.some) stands.stands stands.counted

many_lacked : (records payloads : List (List ℕ)) (image whole : List ℕ) → records_of image ≡ Ok records → records_of whole ≡ Ok (records ++ payloads) → record_count (records_of whole) - record_count (records_of image) ≡ length payloads
many_lacked records payloads image whole here there =
    omega (arith, ap record_count here, ap record_count there, length-append records payloads)

pub ships_all : (primary new : Within) (store later : Redo) (disk end : DiskState) (payloads : List (List ℕ)) → IsSoundWithin primary → Lags primary (open_at store disk) → CanAppend store disk → AreBehind (count_of store) (tail_of store) (bytes_in primary) payloads
    → count_of store ≢ count_in primary → new ≡ read_once primary → CanAppend later end → MayLeave end.now end.now.seen → records_of end.now.seen ≡ with_lasts payloads (records_of disk.now.seen) → Lowered (4 * length payloads) primary.disk.stop end.stop → end.faults ≡ disk.faults → end.quiet ≡ disk.quiet
    → HasShipped primary new (open_at store disk) (open_at later end)
ships_all primary new store later disk end payloads sound lags ready are differ is_new ready_later reads_now added stop faults quiet =
    let records = lags.front.base ∷ lags.front.some in
    let whole = behind_it primary store disk payloads sound lags ready are in
    let many = many_lacked records payloads disk.now.seen primary.disk.now.seen lags.front.image_is whole in
    let some = some_lacked disk.now.seen primary.disk.now.seen lags.front (λ same. differ (ready.counted ∙ same)) in
    record {
      caught_up = record {
        reads = primary.notes.reads + 1;
        primary = is_new;
        more_reads = omega arith;
        even = record { records = added ∙ ap (with_lasts payloads) lags.front.image_is ∙ sym whole ∙ ap (λ (w : Within). records_of w.disk.now.seen) (sym is_new); settled = ready_later.settled };
        ready = record { store = later; is = refl; ready = ready_later };
        reads_now = reads_now;
        faults = faults;
        quiet = quiet;
      };
      none = λ none. absurd (omega (arith, none, some));
      under = λ _. subst (λ (n : ℕ). Lowered (4 * n) primary.disk.stop end.stop) (sym many) stop;
    }

-- ---- a disk failed

-- one fault more, where there is room
pub more_faults : (old new calls reads : ℕ) → old ≤ 2 ^ 62 + (calls + reads) → reads ≤ calls → calls ≤ 2 ^ 48 → new ≡ with_fault old → new ≡ old + 1
more_faults old new calls reads room once few is = is ∙ min-eq_left (omega (arith, room, once, few))

faults_in : (grants : Grants) (disk : DiskState) (core : Option Core) (held : Held) (notes : Notes) → IsSound grants disk core held notes → HasFaultRoom disk.faults notes
faults_in grants disk None held notes down = down.faults
faults_in grants disk (Some core) held notes up = up.faults

-- the first one, as it was read
pub breaks_reading : (primary new : Within) (store : Redo) (disk : DiskState) → IsSoundWithin primary → Lags primary (open_at store disk) → CanAppend store disk → MayLeave disk.now disk.now.seen → count_of store ≢ count_in primary → FailedRead primary new
    → HasBroken (lacked_in primary (open_at store disk)) primary new (open_at store disk) (open_at store disk)
breaks_reading primary new store disk sound lags ready reads_now differ failed =
    let room = faults_in primary.grants primary.disk primary.core primary.held primary.notes sound in
    let rose = more_faults primary.disk.faults new.disk.faults primary.notes.calls primary.notes.reads room.0 room.1 lags.few (failed.reads.cause.counted tt) in
    let some = some_lacked disk.now.seen primary.disk.now.seen lags.front (λ same. differ (ready.counted ∙ same)) in
    record {
      reads = primary.notes.reads + 1;
      down = failed.down;
      more_reads = omega arith;
      some = some;
      bytes = failed.reads.same.now;
      stop = failed.reads.stop;
      between = λ image left. subst (λ (i : List ℕ). LiesBetween disk.now.seen i primary.disk.now.seen) (sym (ready.settled image left)) (record {
        records = lags.front.base ∷ lags.front.some;
        some = [];
        more = lags.front.more;
        old_is = lags.front.image_is;
        image_is = lags.front.image_is ∙ ap (λ (l : List (List ℕ)). Ok l) (sym (append-nil (lags.front.base ∷ lags.front.some)));
        new_is = lags.front.whole_is ∙ ap (λ (l : List (List ℕ)). Ok (l ++ lags.front.more)) (sym (append-nil (lags.front.base ∷ lags.front.some)));
      });
      reads_now = reads_now;
      rose = omega (arith, rose);
      faults = (omega (arith, rose), omega arith);
      reached = λ quiet _. (0, (sym failed.reads.stop ∙ failed.reads.cause.at_stop quiet tt, omega (arith, some)));
      quiet = (failed.reads.cause.still_quiet, refl);
    }

-- the stop before it, of one that was reached
from_stop : (n : ℕ) (before after : Option ℕ) → LoweredByLess n before after → after ≡ Some 0 → (left : ℕ) × ((before ≡ Some left) × (left < n))
from_stop n None None lowered reached = absurd (let e : ◌≡◌ {A = Option ℕ} None (Some 0) = reached in let none : ⊥ = cc in none)
from_stop n None (Some after) lowered reached = absurd lowered
from_stop n (Some before) None lowered reached = absurd lowered
from_stop n (Some before) (Some after) lowered reached =
    let e : ◌≡◌ {A = Option ℕ} (Some after) (Some 0) = reached in
    let zero : after ≡ 0 = cc in
    (before, (refl, omega (arith, lowered.1, zero)))

-- the second one, as it was added to
pub breaks_adding : (primary new : Within) (store later : Redo) (disk end : DiskState) (payloads : List (List ℕ)) → IsSoundWithin primary → Lags primary (open_at store disk) → CanAppend store disk → AreBehind (count_of store) (tail_of store) (bytes_in primary) payloads
    → count_of store ≢ count_in primary → new ≡ halted (read_once primary) → MayLeave end.now end.now.seen → ((image : List ℕ) → MayLeave end.now image → HasSomeLasts payloads disk.now.seen image) → LoweredByLess (4 * length payloads) primary.disk.stop end.stop → end.faults ≡ with_fault disk.faults
    → (disk.quiet ≡ true → end.stop ≡ Some 0) → end.quiet ≡ disk.quiet → HasBroken (lacked_in primary (open_at store disk)) primary new (open_at store disk) (open_at later end)
breaks_adding primary new store later disk end payloads sound lags ready are differ is_new reads_now left stop faults at_stop quiet =
    let records = lags.front.base ∷ lags.front.some in
    let whole = behind_it primary store disk payloads sound lags ready are in
    let many = many_lacked records payloads disk.now.seen primary.disk.now.seen lags.front.image_is whole in
    let rose = more_faults disk.faults end.faults primary.notes.calls primary.notes.reads lags.room.0 lags.room.1 lags.few faults in
    let same : new.disk ≡ primary.disk = ap (λ (w : Within). w.disk) is_new in
    record {
      reads = primary.notes.reads + 1;
      down = is_new ∙ ap (taken (read_once primary)) (sym same);
      more_reads = omega arith;
      some = some_lacked disk.now.seen primary.disk.now.seen lags.front (λ alike. differ (ready.counted ∙ alike));
      bytes = ap (λ (d : DiskState). d.now) same;
      stop = ap (λ (d : DiskState). d.stop) same;
      between = λ image leaves.
          let has = left image leaves in
          record {
            records = records;
            some = has.some;
            more = has.more;
            old_is = lags.front.image_is;
            image_is = has.records ∙ ap (with_lasts has.some) lags.front.image_is;
            new_is = whole ∙ ap (λ (l : List (List ℕ)). Ok (records ++ l)) has.split ∙ ap (λ (l : List (List ℕ)). Ok l) (sym (append_assoc records has.some has.more));
          };
      reads_now = reads_now;
      rose = omega (arith, rose, ap (λ (d : DiskState). d.faults) same);
      faults = (omega (arith, ap (λ (d : DiskState). d.faults) same), omega (arith, rose));
      reached = λ _ is_quiet. subst (λ (n : ℕ). (left : ℕ) × ((primary.disk.stop ≡ Some left) × (left < 4 * n))) (sym many) (from_stop (4 * length payloads) primary.disk.stop end.stop stop (at_stop is_quiet));
      quiet = (ap (λ (d : DiskState). d.quiet) same, quiet);
    }
