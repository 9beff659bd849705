-- A pair that is opened, once the second store has come as far as the first.
use Rattle.std.proofs.Common.{◌≡◌, ◌∙◌, ◌+◌, ◌<◌, ◌^◌, ℕ, true, false, refl, sym, ap, subst, List, ◌∷◌, ◌++◌, map, append_assoc, arith}
use Rattle.std.specs.Prelude.{◌&&◌, Option, Some, None, is_some, Ok}
use Rattle.disk_model.specs.Disk.{DiskState}
use Rattle.redo_store.specs.meaning.Records.{records_of}
use Rattle.mutable_values.specs.declared.grants.Grants.{Grants}
use Rattle.commit_log.specs.declared.records.Record.{Record}
use Rattle.commit_log.specs.Growth.{HasAdded, with_payloads}
use Rattle.commit_log.specs.RecordBytes.{spell_record}
use Rattle.server_model.specs.meaning.Base.{Base}
use Rattle.server_model.specs.Runs.{Happened}
use Rattle.server_model.specs.ServiceCalls.{Opened}
use Rattle.server_session.specs.declared.shared.Core.{Core}
use Rattle.service_calls.specs.Kept.{Goes, HaveOneBase}
use Rattle.service_core.specs.declared.notes.Notes.{Notes}
use Rattle.service_core.specs.Held.{Held}
use Rattle.service_core.specs.Seeing.{SeesIn}
use Rattle.service_core.specs.Shipping.{GrewBy}
use Rattle.service_core.specs.Sound.{IsDown, IsKept, IsSound, IsSoundWithin}
use Rattle.service_core.specs.Within.{Within}
use Rattle.service_core.proofs.Offered.{settled_in}
use Rattle.standby_ship.specs.Lagging.{LagsSettled}
use Rattle.standby_ship.specs.Seeing.{SeesPair}
use Rattle.standby_ship.specs.Shipped.{IsCaughtUpSome, with_reads}
use Rattle.standby_ship.specs.Sound.{IsBeside, IsBesideSome, IsFrontOf, IsSoundPair}
use Rattle.standby_ship.specs.Twins.{Second, Twin, disk_in, faults_of, per_record_in, quiet_of}
use Rattle.standby_ship.proofs.Answering.{came_along, read_seen, room_in, settled_stands}
use Rattle.standby_ship.proofs.Beginnings.{Begins, added_begins, begins, same_front}
use Rattle.standby_ship.proofs.Crashing.{not_so}
use Rattle.standby_ship.proofs.Going.{goes_with, seen_in, seen_of}
use Rattle.standby_ship.proofs.Halting.{first_quiet}

-- the pair with these, opened
abbrev pub opened_with : Twin → Within → Option Second → Twin
opened_with pair primary second = record pair { primary = primary; second = second; is_opened = true }

-- ---- before it

down_in : (grants : Grants) (disk : DiskState) (core : Option Core) (held : Held) (notes : Notes) → is_some core ≡ false → IsSound grants disk core held notes → IsDown disk held notes
down_in grants disk None held notes off sound = sound
down_in grants disk (Some core) held notes off sound = not_so (sym off)

pub down_of : (service : Within) → is_some service.core ≡ false → IsSoundWithin service → IsDown service.disk service.held service.notes
down_of service off sound = down_in service.grants service.disk service.core service.held service.notes off sound

pub begins_down : (service : Within) → is_some service.core ≡ false → IsSoundWithin service → Begins service.disk.now.seen
begins_down service off sound =
    let down = down_of service off sound in
    let read = down.leaves service.disk.now.seen down.reads_now in
    begins service.disk.now.seen read.journal read.reads

-- records behind those of the first store leave a front one
pub front_more : (image old whole : List ℕ) (added : List Record) → IsFrontOf image old → HasAdded old added whole → IsFrontOf image whole
front_more image old whole added front has = record {
  base = front.base;
  some = front.some;
  more = front.more ++ map spell_record added;
  image_is = front.image_is;
  whole_is = has.records ∙ ap (with_payloads added) front.whole_is ∙ ap (λ (l : List (List ℕ)). Ok (front.base ∷ l)) (append_assoc front.some front.more (map spell_record added));
}

module _ (pair : Twin) (off : is_some pair.primary.core ≡ false) (settled : pair.primary.notes.is_settled ≡ true) (kept : IsSoundPair pair) where
  -- the second store has the first records of what the first one holds
  pub front_down : (second : Second) → IsBeside pair second → IsFrontOf second.disk.now.seen pair.primary.disk.now.seen
  front_down second beside = beside.fronts second.disk.now.seen pair.primary.disk.now.seen beside.reads_now (down_of pair.primary off kept.primary).reads_now

  lags_in : (mid : Within) (second : Option Second) → pair.primary.notes.calls < 2 ^ 48 → GrewBy pair.primary mid → IsBesideSome pair second → LagsSettled mid second
  lags_in mid None few grew beside = tt
  lags_in mid (Some second) few grew beside = (
    record {
      up = grew.up;
      live = grew.counts.live;
      once = omega (arith, beside.faults.1, grew.counts.calls, grew.counts.reads);
      few = omega (arith, few, grew.counts.calls);
      front = front_more second.disk.now.seen pair.primary.disk.now.seen mid.disk.now.seen grew.records (front_down second beside) grew.gained.added;
      room = (omega (arith, beside.faults.0, grew.counts.calls, grew.counts.reads), omega (arith, beside.faults.1, grew.counts.calls, grew.counts.reads));
    },
    beside.settled settled,
  )

  pub lags_settled : (mid : Within) → pair.primary.notes.calls < 2 ^ 48 → GrewBy pair.primary mid → LagsSettled mid pair.second
  lags_settled mid few grew = lags_in mid pair.second few grew kept.second

  -- ---- the pair is sound

  begun_grown : (mid : Within) → GrewBy pair.primary mid → Begins mid.disk.now.seen
  begun_grown mid grew = added_begins pair.primary.disk.now.seen grew.records mid.disk.now.seen (begins_down pair.primary off kept.primary) grew.gained.added

  beside_opened : (mid new : Within) (whole before after : Option Second) → GrewBy pair.primary mid → IsSoundWithin new → IsBesideSome pair before → IsCaughtUpSome mid new before after → IsBesideSome (opened_with pair new whole) after
  beside_opened mid new whole None None grew sound beside caught = tt
  beside_opened mid new whole None (Some after) grew sound beside caught = absurd caught
  beside_opened mid new whole (Some before) None grew sound beside caught = absurd caught
  beside_opened mid new whole (Some before) (Some after) grew sound beside caught =
      let began = subst (λ (w : Within). Begins w.disk.now.seen) {x = with_reads caught.reads mid} (sym caught.primary) (begun_grown mid grew) in
      let is_settled = ap (λ (w : Within). w.notes.is_settled) caught.primary ∙ grew.settled in
      let still = settled_in new.grants new.disk new.core new.held new.notes sound is_settled in
      let room = room_in new.grants new.disk new.core new.held new.notes sound in
      let calls = ap (λ (w : Within). w.notes.calls) caught.primary in
      let reads = ap (λ (w : Within). w.notes.reads) caught.primary in
      record {
        fronts = λ image all here there. same_front image all
            (ap records_of (caught.even.settled image here) ∙ caught.even.records ∙ ap records_of (sym (still all there)))
            (subst Begins (sym (still all there)) began);
        reads_now = caught.reads_now;
        faults = (omega (arith, beside.faults.0, caught.faults, calls, reads, caught.more_reads, grew.counts.calls, grew.counts.reads), room.1);
        settled = λ _. caught.even.settled;
        even = λ _ _. caught.even;
        ready = λ _. caught.ready;
        none_lost = beside.none_lost;
      }

  pub opens_soundly : (mid new : Within) (after : Option Second) → GrewBy pair.primary mid → IsKept new → IsCaughtUpSome mid new pair.second after → IsSoundPair (opened_with pair new after)
  opens_soundly mid new after grew is_kept caught =
      let along = came_along mid new pair.second after caught in
      let live = ap (λ (w : Within). w.notes.is_spent) along.primary ∙ grew.counts.live in
      record { primary = is_kept live; live = live; opened = λ _. refl; second = beside_opened mid new after pair.second after grew (is_kept live) kept.second caught }

-- the base stays
pub base_along : (mid new : Within) (before after : Option Second) (old : List ℕ) → IsCaughtUpSome mid new before after → HaveOneBase old mid.disk.now.seen → HaveOneBase old new.disk.now.seen
base_along mid new before after old caught base =
    let along = came_along mid new before after caught in
    subst (λ (w : Within). HaveOneBase old w.disk.now.seen) {x = with_reads along.reads mid} (sym along.primary) base

-- ---- and is seen

module _ (pair : Twin) (live : pair.is_spent ≡ false) (mid : Within) (horizon : ℕ) where
  module _ (reads : ℕ) (after : Option Second) (faults : faults_of (disk_in after) ≡ faults_of (disk_in pair.second)) (quiet : quiet_of (disk_in after) ≡ quiet_of (disk_in pair.second)) (per_record : per_record_in after ≡ per_record_in pair.second) where
    pair_opened : (start : Base) (history : List Happened) (begun : Base) (later : List Happened) → Opened (seen_of pair.primary start history) horizon (seen_of mid begun later) → Opened (seen_in pair start history) horizon (seen_in (opened_with pair (with_reads reads mid) after) begun later)
    pair_opened start history begun later one = record {
      keeps = record {
        start = one.keeps.start;
        history = one.keeps.history;
        living = one.keeps.living;
        is_quiet = λ i. one.keeps.is_quiet i && (quiet i && quiet_of pair.lost);
        per_record = per_record;
        crashes = one.keeps.crashes;
        faults = omega (arith, one.keeps.faults, faults);
        stop = one.keeps.stop;
        kept = one.keeps.kept;
        calls = one.keeps.calls;
        is_spent = live;
      };
      is_up = (one.is_up.0, refl);
      lists = one.lists;
      incarnation = one.incarnation;
      horizon = one.horizon;
      sessions = one.sessions;
      cause = record {
        rose = λ stopped. not_so stopped;
        quiet = λ is_quiet differ. one.cause.quiet (first_quiet pair.primary.disk.quiet (quiet_of (disk_in pair.second)) (quiet_of pair.lost) is_quiet) (λ same. differ (omega (arith, same, faults)));
      };
    }

    opens_with : mid.notes.is_settled ≡ true → IsSoundPair (opened_with pair (with_reads reads mid) after) → Goes (SeesIn pair.primary) (SeesIn mid) (λ before next. Opened before horizon next)
        → Goes (SeesPair pair) (SeesPair (opened_with pair (with_reads reads mid) after)) (λ before next. Opened before horizon next)
    opens_with settled sound goes =
        goes_with pair (opened_with pair (with_reads reads mid) after) (λ before next. Opened before horizon next) (λ before next. Opened before horizon next) live sound
        (λ before sees. let gone = goes before sees in (gone.0, (read_seen mid reads gone.0 sound.primary gone.1.0, gone.1.1)))
        (λ start history begun later stands second now one. record { second = settled_stands (opened_with pair (with_reads reads mid) after) after begun later settled; does = pair_opened start history begun later one })

  pub opens : (new : Within) (after : Option Second) → IsCaughtUpSome mid new pair.second after → mid.notes.is_settled ≡ true → IsSoundPair (opened_with pair new after) → Goes (SeesIn pair.primary) (SeesIn mid) (λ before next. Opened before horizon next)
      → Goes (SeesPair pair) (SeesPair (opened_with pair new after)) (λ before next. Opened before horizon next)
  opens new after caught settled sound goes =
      let along = came_along mid new pair.second after caught in
      subst (λ (w : Within). Goes (SeesPair pair) (SeesPair (opened_with pair w after)) (λ before next. Opened before horizon next)) {x = with_reads along.reads mid} (sym along.primary)
      (opens_with along.reads after along.faults along.quiet along.per_record settled (subst (λ (w : Within). IsSoundPair (opened_with pair w after)) {x = new} along.primary sound) goes)
