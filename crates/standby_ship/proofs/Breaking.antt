-- What a stop leaves of both stores: in the first store's call, and as the second one was shipped
-- to.
use Rattle.std.proofs.Common.{◌≡◌, ◌≢◌, ◌∙◌, ◌+◌, ◌*◌, ◌<◌, ◌≤◌, ◌^◌, ℕ, Bool, true, false, refl, sym, ap, subst, List, [], length, arith}
use Rattle.std.proofs.Math.Nat.{min-eq_left}
use Rattle.std.specs.Prelude.{Option, Some, None, is_some}
use Rattle.disk_model.specs.Moment.{DiskMoment, MayLeave}
use Rattle.disk_model.specs.Disk.{DiskState, Lowered, with_fault}
use Rattle.redo_store.specs.Records.{record_count}
use Rattle.redo_store.specs.meaning.Records.{records_of}
use Rattle.mutable_values.specs.declared.grants.Grants.{Grants}
use Rattle.server_session.specs.declared.shared.Core.{Core}
use Rattle.service_core.specs.declared.notes.Notes.{Notes}
use Rattle.service_core.specs.Held.{Held}
use Rattle.service_core.specs.Shipping.{Broke, GrewBy, count_in, taken}
use Rattle.service_core.specs.Sound.{HasFaultRoom, IsSound, IsSoundWithin}
use Rattle.service_core.specs.Unanswered.{LiesBetween}
use Rattle.service_core.specs.Within.{Within}
use Rattle.service_core.proofs.Offered.{settled_in}
use Rattle.standby_ship.specs.Lagging.{lacked_some}
use Rattle.standby_ship.specs.Shipped.{HasBrokenSome, with_reads}
use Rattle.standby_ship.specs.Sound.{IsBesideSome, IsSoundPair}
use Rattle.standby_ship.specs.Twins.{Second, Twin, disk_in, faults_of, per_record_in, quiet_of}
use Rattle.standby_ship.proofs.Answering.{more_count, room_in}
use Rattle.standby_ship.proofs.Beginnings.{added_lies, begins_up, lies_alike, none_lies, settled_up}
use Rattle.standby_ship.proofs.Halting.{IsHalted, LeftBehindSome, Reached, WasSet}

-- what a crash leaves of a service that is down
down_reads : (grants : Grants) (disk : DiskState) (core : Option Core) (held : Held) (notes : Notes) → is_some core ≡ false → IsSound grants disk core held notes → MayLeave disk.now disk.now.seen
down_reads grants disk None held notes down sound = sound.reads_now
down_reads grants disk (Some core) held notes down sound = absurd (let e : ◌≡◌ {A = Bool} true false = down in let none : ⊥ = cc in none)

pub reads_down : (service : Within) → is_some service.core ≡ false → IsSoundWithin service → MayLeave service.disk.now service.disk.now.seen
reads_down service down sound = down_reads service.grants service.disk service.core service.held service.notes down sound

-- its value, by its parts
down_as : (grants : Grants) (disk : DiskState) (core : Option Core) (held : Held) (notes : Notes) → is_some core ≡ false → notes.is_settled ≡ false → IsSound grants disk core held notes
    → ◌≡◌ {A = Within} (record { grants = grants; disk = disk; core = core; held = held; notes = notes }) (record { grants = grants; disk = disk; core = None; held = []; notes = record notes { is_settled = false } })
down_as grants disk None held notes down pending sound = λ i. record { grants = grants; disk = disk; core = None; held = sound.none i; notes = record notes { is_settled = pending i } }
down_as grants disk (Some core) held notes down pending sound = absurd (let e : ◌≡◌ {A = Bool} true false = down in let none : ⊥ = cc in none)

pub is_down : (service : Within) → is_some service.core ≡ false → service.notes.is_settled ≡ false → IsSoundWithin service → service ≡ taken (with_reads service.notes.reads service) service.disk
is_down service down pending sound = down_as service.grants service.disk service.core service.held service.notes down pending sound

rises : (old new : ℕ) (notes : Notes) → HasFaultRoom old notes → notes.calls < 2 ^ 48 → new ≡ with_fault old → new ≡ old + 1
rises old new notes room few is = is ∙ min-eq_left (omega (arith, room.0, room.1, few))

-- ---- in the first store's call

module _ (pair : Twin) (up : is_some pair.primary.core ≡ true) (few : pair.primary.notes.calls < 2 ^ 48) (kept : IsSoundPair pair) where
  left_own : (new : Within) (second : Option Second) → Broke pair.primary new → IsBesideSome pair second → LeftBehindSome pair new second
  left_own new None broke beside = tt
  left_own new (Some second) broke beside =
      let even = beside.even (kept.opened up) (settled_up pair.primary up kept.primary) in (
        record {
          lies = λ image whole here there.
              let has = broke.left whole there in
              none_lies pair.primary.disk.now.seen has.0 whole image (ap records_of (even.settled image here) ∙ even.records) (begins_up pair.primary up kept.primary) has.1;
          reads_now = beside.reads_now;
          room = (omega (arith, beside.faults.0, broke.counts.calls, broke.counts.reads), omega (arith, beside.faults.1, broke.counts.calls, broke.counts.reads));
        },
        beside.none_lost,
      )

  pub halts_own : (new : Within) → Broke pair.primary new → IsSoundWithin new → IsHalted pair new pair.second
  halts_own new broke sound =
      let room = room_in pair.primary.grants pair.primary.disk pair.primary.core pair.primary.held pair.primary.notes kept.primary in
      let rose = rises pair.primary.disk.faults new.disk.faults pair.primary.notes room few broke.faults in
      record {
        begun = begins_up pair.primary up kept.primary;
        first = λ whole there. let has = broke.left whole there in added_lies pair.primary.disk.now.seen has.0 whole (begins_up pair.primary up kept.primary) has.1;
        second = left_own new pair.second broke kept.second;
        reads_now = reads_down new broke.down sound;
        rose = omega (arith, rose);
        quiet = refl;
        per_record = refl;
      }

-- ---- as it was shipped

-- what both disks count
pub record Counts (mid new : Within) (before after : Option Second) : Type 0 where
  pub reads : ℕ
  pub down : new ≡ taken (with_reads reads mid) new.disk
  pub bytes : new.disk.now ≡ mid.disk.now
  pub stop : new.disk.stop ≡ mid.disk.stop
  pub first_quiet : new.disk.quiet ≡ mid.disk.quiet
  pub rose : mid.disk.faults + faults_of (disk_in before) < new.disk.faults + faults_of (disk_in after)
  pub quiet : quiet_of (disk_in after) ≡ quiet_of (disk_in before)
  pub per_record : per_record_in after ≡ per_record_in before
  pub some : 1 ≤ lacked_some mid before
  pub reached : mid.disk.quiet ≡ true → quiet_of (disk_in before) ≡ true → (n : ℕ) × ((mid.disk.stop ≡ Some n) × (n < 4 * lacked_some mid before))
  pub both : per_record_in before ≡ 8

counts : (mid new : Within) (before after : Option Second) → HasBrokenSome (lacked_some mid before) mid new before after → Counts mid new before after
counts mid new None after broken = absurd broken
counts mid new (Some before) None broken = absurd broken
counts mid new (Some before) (Some after) broken = record {
  reads = broken.reads;
  down = broken.down;
  bytes = broken.bytes;
  stop = broken.stop;
  first_quiet = broken.quiet.0;
  rose = broken.rose;
  quiet = broken.quiet.1;
  per_record = refl;
  some = broken.some;
  reached = broken.reached;
  both = refl;
}

from_lowered : (n left : ℕ) (before after : Option ℕ) → after ≡ Some left → Lowered n before after → (rest : ℕ) × ((before ≡ Some rest) × (rest ≡ left + n))
from_lowered n left None None is lowered = absurd (let e : ◌≡◌ {A = Option ℕ} None (Some left) = is in let none : ⊥ = cc in none)
from_lowered n left None (Some after) is lowered = absurd lowered
from_lowered n left (Some before) None is lowered = absurd lowered
from_lowered n left (Some before) (Some after) is lowered =
    let e : ◌≡◌ {A = Option ℕ} (Some after) (Some left) = is in
    let same : after ≡ left = cc in
    (before, (refl, lowered ∙ ap (λ (m : ℕ). m + n) same))

module _ (pair : Twin) (mid : Within) (grew : GrewBy pair.primary mid) (up : is_some pair.primary.core ≡ true) (kept : IsSoundPair pair) (sound_mid : IsSoundWithin mid) where
  settled_mid : (whole : List ℕ) → MayLeave mid.disk.now whole → whole ≡ mid.disk.now.seen
  settled_mid = settled_in mid.grants mid.disk mid.core mid.held mid.notes sound_mid grew.settled

  lies_mid : LiesBetween pair.primary.disk.now.seen mid.disk.now.seen mid.disk.now.seen
  lies_mid = added_lies pair.primary.disk.now.seen grew.records mid.disk.now.seen (begins_up pair.primary up kept.primary) grew.gained.added

  calls_down : (new : Within) (reads : ℕ) → new ≡ taken (with_reads reads mid) new.disk → new.notes.calls ≡ pair.primary.notes.calls + 1
  calls_down new reads is = ap (λ (w : Within). w.notes.calls) is ∙ grew.counts.calls

  module _ (new : Within) (sound : IsSoundWithin new) where
    halts_second : (before after : Option Second) → IsBesideSome pair before → HasBrokenSome (lacked_some mid before) mid new before after → (first : (whole : List ℕ) → MayLeave new.disk.now whole → LiesBetween pair.primary.disk.now.seen whole whole)
        → LeftBehindSome pair new after
    halts_second None after beside broken first = absurd broken
    halts_second (Some before) None beside broken first = absurd broken
    halts_second (Some before) (Some after) beside broken first =
        let even = beside.even (kept.opened up) (settled_up pair.primary up kept.primary) in
        let room = room_in new.grants new.disk new.core new.held new.notes sound in
        let reads = ap (λ (w : Within). w.notes.reads) broken.down in (
          record {
            lies = λ image whole here there.
                let same = settled_mid whole (subst (λ (m : DiskMoment). MayLeave m whole) broken.bytes there) in
                subst (λ (w : List ℕ). LiesBetween pair.primary.disk.now.seen image w) (sym same) (lies_alike before.disk.now.seen pair.primary.disk.now.seen image mid.disk.now.seen even.records (broken.between image here));
            reads_now = broken.reads_now;
            room = (omega (arith, beside.faults.0, broken.faults.1, calls_down new broken.reads broken.down, reads, broken.more_reads, grew.counts.reads), room.1);
          },
          beside.none_lost,
        )

    -- it lacked what the call has added
    lacks : (before after : Option Second) → IsBesideSome pair before → HasBrokenSome (lacked_some mid before) mid new before after → lacked_some mid before ≡ length grew.records
    lacks None after beside broken = absurd broken
    lacks (Some before) after beside broken =
        let even = beside.even (kept.opened up) (settled_up pair.primary up kept.primary) in
        omega (arith, more_count pair mid grew up kept, ap record_count even.records)

    module _ (after : Option Second) (broken : HasBrokenSome (lacked_some mid pair.second) mid new pair.second after) where
      pub counted : Counts mid new pair.second after
      counted = counts mid new pair.second after broken

      pub lacked : lacked_some mid pair.second ≡ length grew.records
      lacked = lacks pair.second after kept.second broken

      -- so it had added some
      pub some_more : count_in mid ≢ count_in pair.primary
      some_more same = omega (arith, same, more_count pair mid grew up kept, lacked, counted.some)

      whole_lies : (whole : List ℕ) → MayLeave new.disk.now whole → LiesBetween pair.primary.disk.now.seen whole whole
      whole_lies whole there =
          let same = settled_mid whole (subst (λ (m : DiskMoment). MayLeave m whole) counted.bytes there) in
          subst (λ (w : List ℕ). LiesBetween pair.primary.disk.now.seen w w) (sym same) lies_mid

      pub halts_shipping : IsHalted pair new after
      halts_shipping = record {
        begun = begins_up pair.primary up kept.primary;
        first = whole_lies;
        second = halts_second pair.second after kept.second broken whole_lies;
        reads_now = reads_down new (ap (λ (w : Within). is_some w.core) counted.down) sound;
        rose = omega (arith, counted.rose, grew.gained.faults);
        quiet = counted.quiet;
        per_record = counted.per_record;
      }

      -- the stop was one of fewer device calls than the records take on both disks
      pub reached_shipping : Reached pair (length grew.records)
      reached_shipping quiet second =
          let at = counted.reached (grew.gained.quiet ∙ quiet) second in
          let was = from_lowered (4 * length grew.records) at.0 pair.primary.disk.stop mid.disk.stop at.1.0 grew.gained.stop in
          let few : was.0 < 8 * length grew.records = omega (arith, was.1.1, at.1.1, lacked) in
          (was.0, was.1.0, subst (λ (m : ℕ). was.0 < m * length grew.records) (sym counted.both) few)

-- a stop that was reached was set
pub was_set : (pair : Twin) (records : ℕ) → Reached pair records → WasSet pair
was_set pair records reached quiet second none =
    let at = reached quiet second in
    let e : ◌≡◌ {A = Option ℕ} None (Some at.0) = sym none ∙ at.1 in
    let clash : ⊥ = cc in
    clash
