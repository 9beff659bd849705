-- A pair behind a call of its first store's service that was answered, once the second store has
-- come as far.
use Rattle.std.proofs.Common.{◌≡◌, ◌≢◌, ◌∙◌, ◌+◌, ◌*◌, ◌<◌, ◌≤◌, ◌^◌, ℕ, Bool, true, false, refl, sym, ap, subst, List, [], ◌∷◌, length, arith}
use Rattle.std.specs.Prelude.{◌&&◌, Option, Some, None, is_some}
use Rattle.disk_model.specs.Disk.{DiskState, Lowered}
use Rattle.redo_store.specs.Records.{record_count}
use Rattle.redo_store.specs.meaning.Records.{records_of}
use Rattle.mutable_values.specs.declared.grants.Grants.{Grants}
use Rattle.commit_log.specs.declared.records.Record.{Record}
use Rattle.server_model.specs.meaning.Base.{Base}
use Rattle.server_model.specs.Runs.{Happened}
use Rattle.server_model.specs.Seen.{Seen, Keeps}
use Rattle.server_session.specs.declared.shared.Core.{Core}
use Rattle.service_calls.specs.Kept.{Goes}
use Rattle.service_core.specs.declared.notes.Notes.{Notes}
use Rattle.service_core.specs.Held.{Held}
use Rattle.service_core.specs.Seeing.{SeesIn, Stands, store_of}
use Rattle.service_core.specs.Shipping.{GrewBy, count_in}
use Rattle.service_core.specs.Sound.{HasFaultRoom, IsSound, IsSoundWithin}
use Rattle.service_core.specs.Within.{Within}
use Rattle.service_core.proofs.Offered.{settled_in}
use Rattle.standby_ship.specs.Lagging.{LagsOpen, lacked_in}
use Rattle.standby_ship.specs.Seeing.{SecondStands, SeesPair}
use Rattle.standby_ship.specs.Shipped.{HasShippedSome, IsCaughtUpSome, with_reads}
use Rattle.standby_ship.specs.Sound.{IsBesideSome, IsSoundPair}
use Rattle.standby_ship.specs.Twins.{Second, Twin, disk_in, faults_of, per_record_in, quiet_of}
use Rattle.standby_ship.proofs.Beginnings.{Begins, added_begins, added_count, added_front, begins_up, none_added, same_front, settled_up}
use Rattle.standby_ship.proofs.Going.{goes_with, seen_in, seen_of}

-- the pair with these
abbrev pub with_both : Twin → Within → Option Second → Twin
with_both pair primary second = record pair { primary = primary; second = second }

-- ---- before the shipping

lags_behind : (pair : Twin) (mid : Within) (second : Option Second) → is_some pair.primary.core ≡ true → IsSoundWithin pair.primary → pair.is_opened ≡ true → pair.primary.notes.calls < 2 ^ 48 → GrewBy pair.primary mid → IsBesideSome pair second → LagsOpen mid second
lags_behind pair mid None up sound opened few grew beside = tt
lags_behind pair mid (Some second) up sound opened few grew beside =
    let even = beside.even opened (settled_up pair.primary up sound) in (
      record {
        up = grew.up;
        live = grew.counts.live;
        once = omega (arith, beside.faults.1, grew.counts.calls, grew.counts.reads);
        few = omega (arith, few, grew.counts.calls);
        front = added_front pair.primary.disk.now.seen grew.records mid.disk.now.seen second.disk.now.seen even.records (begins_up pair.primary up sound) grew.gained.added;
        room = (omega (arith, beside.faults.0, grew.counts.calls, grew.counts.reads), omega (arith, beside.faults.1, grew.counts.calls, grew.counts.reads));
      },
      beside.ready up,
    )

-- behind an answer the second store may be shipped to
pub lags_open : (pair : Twin) (mid : Within) → IsSoundPair pair → is_some pair.primary.core ≡ true → pair.primary.notes.calls < 2 ^ 48 → GrewBy pair.primary mid → LagsOpen mid pair.second
lags_open pair mid kept up few grew = lags_behind pair mid pair.second up kept.primary (kept.opened up) few grew kept.second

-- ---- behind it

-- what the second store's disk counts stays
pub record CameAlong (mid new : Within) (before after : Option Second) : Type 0 where
  pub reads : ℕ
  pub primary : new ≡ with_reads reads mid
  pub more_reads : mid.notes.reads ≤ reads
  pub faults : faults_of (disk_in after) ≡ faults_of (disk_in before)
  pub quiet : quiet_of (disk_in after) ≡ quiet_of (disk_in before)
  pub per_record : per_record_in after ≡ per_record_in before

pub came_along : (mid new : Within) (before after : Option Second) → IsCaughtUpSome mid new before after → CameAlong mid new before after
came_along mid new None None up = record { reads = mid.notes.reads; primary = up; more_reads = omega arith; faults = refl; quiet = refl; per_record = refl }
came_along mid new (Some before) (Some after) up = record { reads = up.reads; primary = up.primary; more_reads = up.more_reads; faults = up.faults; quiet = up.quiet; per_record = refl }
came_along mid new None (Some after) up = absurd up
came_along mid new (Some before) None up = absurd up

pub caught_up : (mid new : Within) (before after : Option Second) → HasShippedSome mid new before after → IsCaughtUpSome mid new before after
caught_up mid new None None shipped = shipped
caught_up mid new (Some before) (Some after) shipped = shipped.caught_up
caught_up mid new None (Some after) shipped = absurd shipped
caught_up mid new (Some before) None shipped = absurd shipped

-- room for faults, of a service that is sound
pub room_in : (grants : Grants) (disk : DiskState) (core : Option Core) (held : Held) (notes : Notes) → IsSound grants disk core held notes → HasFaultRoom disk.faults notes
room_in grants disk None held notes down = down.faults
room_in grants disk (Some core) held notes up = up.faults

-- ---- the pair is sound

-- the service, once its records were read
module _ (pair : Twin) (mid : Within) (grew : GrewBy pair.primary mid) (up : is_some pair.primary.core ≡ true) (kept : IsSoundPair pair) where
  begun : Begins mid.disk.now.seen
  begun = added_begins pair.primary.disk.now.seen grew.records mid.disk.now.seen (begins_up pair.primary up kept.primary) grew.gained.added

  beside_behind : (new : Within) (before after : Option Second) → IsSoundWithin new → IsBesideSome pair before → IsCaughtUpSome mid new before after → IsBesideSome (with_both pair new after) after
  beside_behind new None None sound beside caught = tt
  beside_behind new None (Some after) sound beside caught = absurd caught
  beside_behind new (Some before) None sound beside caught = absurd caught
  beside_behind new (Some before) (Some after) sound beside caught =
      let began = subst (λ (w : Within). Begins w.disk.now.seen) {x = with_reads caught.reads mid} (sym caught.primary) begun in
      let is_settled = ap (λ (w : Within). w.notes.is_settled) caught.primary ∙ grew.settled in
      let still = settled_in new.grants new.disk new.core new.held new.notes sound is_settled in
      let room = room_in new.grants new.disk new.core new.held new.notes sound in
      let calls = ap (λ (w : Within). w.notes.calls) caught.primary in
      let reads = ap (λ (w : Within). w.notes.reads) caught.primary in
      record {
        fronts = λ image whole here there. same_front image whole
            (ap records_of (caught.even.settled image here) ∙ caught.even.records ∙ ap records_of (sym (still whole there)))
            (subst Begins (sym (still whole there)) began);
        reads_now = caught.reads_now;
        faults = (omega (arith, beside.faults.0, caught.faults, calls, reads, caught.more_reads, grew.counts.calls, grew.counts.reads), room.1);
        settled = λ _. caught.even.settled;
        even = λ _ _. caught.even;
        ready = λ _. caught.ready;
        none_lost = beside.none_lost;
      }

  pub answered_soundly : (new : Within) (after : Option Second) → IsSoundWithin new → IsCaughtUpSome mid new pair.second after → IsSoundPair (with_both pair new after)
  answered_soundly new after sound caught =
      let along = came_along mid new pair.second after caught in
      record {
        primary = sound;
        live = ap (λ (w : Within). w.notes.is_spent) along.primary ∙ grew.counts.live;
        opened = λ _. kept.opened up;
        second = beside_behind new pair.second after sound kept.second caught;
      }

-- ---- and is seen

read_stands : (grants : Grants) (disk : DiskState) (core : Option Core) (held : Held) (notes : Notes) (reads : ℕ) (start : Base) (history : List Happened) → Stands grants disk core held notes start history
    → Stands grants disk core held (record notes { reads = reads }) start history
read_stands grants disk None held notes reads start history stands = stands
read_stands grants disk (Some core) held notes reads start history stands = stands

pub read_seen : (mid : Within) (reads : ℕ) (seen : Seen) → IsSoundWithin (with_reads reads mid) → SeesIn mid seen → SeesIn (with_reads reads mid) seen
read_seen mid reads seen sound sees = record {
  live = sees.live;
  sound = sound;
  sees = record { state_is = sees.sees.state_is; stands = read_stands mid.grants mid.disk mid.core mid.held mid.notes reads seen.start seen.history sees.sees.stands };
}

pub settled_stands : (pair : Twin) (second : Option Second) (start : Base) (history : List Happened) → pair.primary.notes.is_settled ≡ true → SecondStands pair second start history
settled_stands pair None start history settled = tt
settled_stands pair (Some second) start history settled = λ opened pending. absurd (let e : ◌≡◌ {A = Bool} true false = sym settled ∙ pending in let none : ⊥ = cc in none)

-- The pair behind an answer, whose second store counts what it did.
module _ (pair : Twin) (live : pair.is_spent ≡ false) (mid : Within) (reads : ℕ) (after : Option Second) where
  abbrev pub behind : Twin
  behind = with_both pair (with_reads reads mid) after

  -- what is done to the first store's service is done to the pair
  pub goes_answered : (One Does : Seen → Seen → Type 0) → IsSoundPair behind → mid.notes.is_settled ≡ true → Goes (SeesIn pair.primary) (SeesIn mid) One
      → ((start : Base) (history : List Happened) (begun : Base) (later : List Happened) → One (seen_of pair.primary start history) (seen_of mid begun later) → Does (seen_in pair start history) (seen_in behind begun later))
      → Goes (SeesPair pair) (SeesPair behind) Does
  goes_answered One Does sound settled goes comes =
      goes_with pair behind One Does live sound
      (λ before sees. let gone = goes before sees in (gone.0, (read_seen mid reads gone.0 sound.primary gone.1.0, gone.1.1)))
      (λ start history begun later stands second now one. record { second = settled_stands behind after begun later settled; does = comes start history begun later one })

  pub keeps_answered : (start : Base) (history : List Happened) (begun : Base) (later : List Happened) → faults_of (disk_in after) ≡ faults_of (disk_in pair.second) → quiet_of (disk_in after) ≡ quiet_of (disk_in pair.second)
      → per_record_in after ≡ per_record_in pair.second → Keeps (seen_of pair.primary start history) (seen_of mid begun later) → Keeps (seen_in pair start history) (seen_in behind begun later)
  keeps_answered start history begun later faults quiet per_record keeps = record {
    start = keeps.start;
    is_opened = refl;
    is_quiet = λ i. keeps.is_quiet i && (quiet i && quiet_of pair.lost);
    per_record = per_record;
    crashes = keeps.crashes;
    faults = omega (arith, keeps.faults, faults);
    stop = keeps.stop;
    calls = keeps.calls;
    is_spent = live;
  }

-- ---- what it has shipped

from_lowered : (n left : ℕ) (before after : Option ℕ) → before ≡ Some left → Lowered n before after → (rest : ℕ) × ((after ≡ Some rest) × (left ≡ rest + n))
from_lowered n left None after is lowered = absurd (let e : ◌≡◌ {A = Option ℕ} None (Some left) = is in let none : ⊥ = cc in none)
from_lowered n left (Some before) None is lowered = absurd lowered
from_lowered n left (Some before) (Some after) is lowered =
    let e : ◌≡◌ {A = Option ℕ} (Some before) (Some left) = is in
    let same : before ≡ left = cc in
    (after, (refl, sym same ∙ lowered))

no_more : (records : List Record) → length records ≡ 0 → records ≡ []
no_more [] none = refl
no_more (one ∷ records) none = absurd (omega (arith, none))

-- Under a stop a record was added only where the stop lets its device calls through, on both disks.
module _ (pair : Twin) (mid : Within) (grew : GrewBy pair.primary mid) (up : is_some pair.primary.core ≡ true) (kept : IsSoundPair pair) where
  pub more_count : count_in mid ≡ count_in pair.primary + length grew.records
  more_count = added_count pair.primary.disk.now.seen grew.records mid.disk.now.seen (begins_up pair.primary up kept.primary) grew.gained.added

  lets_second : (new : Within) (before after : Option Second) (left : ℕ) → IsBesideSome pair before → HasShippedSome mid new before after → pair.primary.disk.stop ≡ Some left → (length grew.records ≡ 0 → ⊥) → per_record_in before ≤ left
  lets_second new None after left beside shipped stop some =
      let first = from_lowered (4 * length grew.records) left pair.primary.disk.stop mid.disk.stop stop grew.gained.stop in
      let enough : 4 ≤ left = omega (arith, first.1.1, some) in
      enough
  lets_second new (Some before) None left beside shipped stop some = absurd shipped
  lets_second new (Some before) (Some after) left beside shipped stop some =
      let even = beside.even (kept.opened up) (settled_up pair.primary up kept.primary) in
      let lacks : lacked_in mid before ≡ length grew.records = omega (arith, more_count, ap record_count even.records) in
      let first = from_lowered (4 * length grew.records) left pair.primary.disk.stop mid.disk.stop stop grew.gained.stop in
      let second = from_lowered (4 * lacked_in mid before) first.0 mid.disk.stop after.disk.stop first.1.0 (shipped.under (λ none. some (sym lacks ∙ none))) in
      let enough : 8 ≤ left = omega (arith, first.1.1, second.1.1, lacks, some) in
      enough

  pub lets_through : (new : Within) (after : Option Second) (left : ℕ) → HasShippedSome mid new pair.second after → pair.primary.disk.stop ≡ Some left → store_of mid.disk.now.seen ≢ store_of pair.primary.disk.now.seen → per_record_in pair.second ≤ left
  lets_through new after left shipped stop differ =
      lets_second new pair.second after left kept.second shipped stop
      (λ none. differ (none_added pair.primary.disk.now.seen grew.records mid.disk.now.seen (no_more grew.records none) grew.gained.added))
