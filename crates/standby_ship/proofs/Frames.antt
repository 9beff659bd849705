-- A frame, served on both stores.
use Rattle.std.proofs.Common.{◌≡◌, ◌≢◌, ◌∙◌, ◌+◌, ◌*◌, ◌<◌, ◌≤◌, ◌^◌, ℕ, Bool, true, false, refl, sym, ap, List, length, arith}
use Rattle.std.specs.Prelude.{Option, Some, None, is_some}
use Rattle.disk_model.specs.Disk.{DiskState}
use Rattle.svc_values.specs.declared.frame.Down.{Down}
use Rattle.svc_values.specs.declared.frame.Up.{Up}
use Rattle.svc_values.specs.declared.frame.Up.TheVariants as up
use Rattle.svc_values.specs.meaning.Calls.{sequences_in}
use Rattle.server_model.specs.meaning.Base.{Base}
use Rattle.server_model.specs.meaning.Outcomes.{Telling, Silent, Says, Stopped, telling_of}
use Rattle.server_model.specs.Runs.{Happened}
use Rattle.server_model.specs.Seen.{Store}
use Rattle.server_model.specs.ServiceCalls.{HoldsBehind, ServedOne, StoresTold, TellsByTable, may_store}
use Rattle.server_session.specs.declared.shared.Core.{Core}
use Rattle.service_calls.specs.Kept.{Goes}
use Rattle.service_core.specs.Held.{Held, living_of}
use Rattle.service_core.specs.Seeing.{LeavesIn, SeesIn, store_of}
use Rattle.service_core.specs.Shipping.{Broke, GrewBy, halted, taken}
use Rattle.service_core.specs.Sound.{IsSoundWithin}
use Rattle.service_core.specs.Unanswered.{HaltedFrame, IsHaltedAs, StandsBetween}
use Rattle.service_core.specs.Within.{Within}
use Rattle.standby_ship.specs.Lagging.{lacked_some}
use Rattle.standby_ship.specs.Seeing.{LeavesPair, SeesPair}
use Rattle.standby_ship.specs.Shipped.{HasBrokenSome, HasShippedSome, with_reads}
use Rattle.standby_ship.specs.Sound.{IsSoundPair}
use Rattle.standby_ship.specs.Twins.{Second, Twin, disk_in, faults_of, per_record_in}
use Rattle.standby_ship.proofs.Answering.{came_along, caught_up, keeps_answered, lets_through, more_count, with_both}
use Rattle.standby_ship.proofs.Beginnings.{added_begins, begins_up, count_stored}
use Rattle.standby_ship.proofs.Breaking.{halts_own, halts_shipping, is_down, some_more, counted, reached_shipping}
use Rattle.standby_ship.proofs.Going.{seen_in, seen_of}
use Rattle.standby_ship.proofs.Halting.{IsHalted, Reached, between_left, between_now, cause_halted, keeps_halted}
use Rattle.standby_ship.proofs.Throughout.{answers, stops}

-- ---- what is told

not_stopped : (told : Option Down) → telling_of told ≢ Stopped
not_stopped None stopped = absurd (let e : ◌≡◌ {A = Telling} Silent Stopped = stopped in let none : ⊥ = cc in none)
not_stopped (Some frame) stopped = absurd (let e : ◌≡◌ {A = Telling} (Says frame) Stopped = stopped in let none : ⊥ = cc in none)

none_left : (told : Option Down) (leaves Holds : Store → Type 0) → HoldsBehind (telling_of told) leaves Holds
none_left None leaves Holds = tt
none_left (Some frame) leaves Holds = tt

-- where a connection lives the service is up
pub lives_up : (pair : Twin) (connection : ℕ) → IsSoundPair pair → living_of pair.primary.held connection ≢ None → is_some pair.primary.core ≡ true
lives_up pair connection kept lives = by_core pair.primary.core kept.primary lives
  where
    by_core : (core : Option Core) → IsSoundWithin (record pair.primary { core = core }) → living_of pair.primary.held connection ≢ None → is_some core ≡ true
    by_core None down lives = absurd (lives (ap (λ (h : Held). living_of h connection) down.none))
    by_core (Some core) up lives = refl

-- ---- device calls

-- those of one disk, on both
pub on_both : (second : Option Second) (n records : ℕ) → n < 4 * records → n < per_record_in second * records
on_both None n records few = few
on_both (Some second) n records few = let wide : n < 8 * records = omega (arith, few) in wide

-- those of more records
pub of_more : (second : Option Second) (n few many : ℕ) → few ≤ many → n < per_record_in second * few → n < per_record_in second * many
of_more None n few many more within = let is : n < 4 * few = within in let wide : n < 4 * many = omega (arith, more, is) in wide
of_more (Some second) n few many more within = let is : n < 8 * few = within in let wide : n < 8 * many = omega (arith, more, is) in wide

-- ---- an answer

module _ (pair : Twin) (live : pair.is_spent ≡ false) (kept : IsSoundPair pair) (is_up : is_some pair.primary.core ≡ true) (connection now : ℕ) (frame : Up) where
  module _ (told : Option Down) (mid : Within) (grew : GrewBy pair.primary mid) (after : Option Second) where
    module _ (reads : ℕ) (shipped : HasShippedSome mid (with_reads reads mid) pair.second after) (start : Base) (history : List Happened) (begun : Base) (later : List Happened) where
      serves_does : ServedOne (seen_of pair.primary start history) connection now frame (telling_of told) (LeavesIn mid) (seen_of mid begun later)
          → ServedOne (seen_in pair start history) connection now frame (telling_of told) (LeavesPair (with_both pair (with_reads reads mid) after)) (seen_in (with_both pair (with_reads reads mid) after) begun later)
      serves_does one =
          let along = came_along mid (with_reads reads mid) pair.second after (caught_up mid (with_reads reads mid) pair.second after shipped) in
          let same : mid.disk.faults + faults_of (disk_in after) + faults_of pair.lost ≡ pair.primary.disk.faults + faults_of (disk_in pair.second) + faults_of pair.lost = omega (arith, grew.gained.faults, along.faults) in
          record {
            keeps = keeps_answered pair live mid reads after start history begun later along.faults along.quiet along.per_record one.keeps;
            session = one.session;
            of_connection = one.of_connection;
            history = one.history;
            living = one.living;
            is_up = one.is_up;
            kept = one.kept;
            outcome = one.outcome;
            adds = one.adds;
            left = none_left told _ _;
            stored = one.stored;
            blocks = one.blocks;
            cause = record {
              rose = λ stopped. absurd (not_stopped told stopped);
              quiet = λ is_quiet changed. absurd (changed same);
              reached = λ n stop differ _. lets_through pair mid grew is_up kept (with_reads reads mid) after n shipped stop (λ alike. differ (ap (λ (s : Store). s.records) alike));
            };
            silent = λ quiet. let is = one.silent quiet in (is.0, same, is.2);
          }

    pub serves : (new : Within) → IsSoundWithin new → HasShippedSome mid new pair.second after → Goes (SeesIn pair.primary) (SeesIn mid) (λ before next. ServedOne before connection now frame (telling_of told) (LeavesIn mid) next)
        → Goes (SeesPair pair) (SeesPair (with_both pair new after)) (λ before next. ServedOne before connection now frame (telling_of told) (LeavesPair (with_both pair new after)) next)
    serves new sound shipped goes =
        answers pair live kept is_up mid grew new after sound shipped (λ before next. ServedOne before connection now frame (telling_of told) (LeavesIn mid) next)
        (λ w before next. ServedOne before connection now frame (telling_of told) (LeavesPair (with_both pair w after)) next) goes serves_does

  -- ---- a stop

  by_table : (store : Store) → TellsByTable store frame Stopped
  by_table store = cases frame
    where
      cases : (one : Up) → TellsByTable store one Stopped
      cases (up.Outcome x) = tt
      cases one = tt

  told_none : (old new : Store) → StoresTold old frame Stopped new
  told_none old new = cases frame
    where
      cases : (one : Up) → StoresTold old one Stopped new
      cases (up.Outcome x) = tt
      cases one = tt

  module _ (told : Telling) (mid : Within) (reads : ℕ) (disk : DiskState) (after : Option Second) (stopped : IsHalted pair (taken (with_reads reads mid) disk) after) (now_is : disk.now ≡ mid.disk.now) (quiet_is : disk.quiet ≡ mid.disk.quiet)
      (stop_is : disk.stop ≡ mid.disk.stop) where
    abbrev behind : Twin
    behind = with_both pair (taken (with_reads reads mid) disk) after

    stops_does : (start : Base) (history : List Happened) (begun : Base) (later : List Happened) (first : Base) (gone : List Happened) → Reached pair (1 + sequences_in frame) → (may_store frame ≡ false → ⊥)
        → ServedOne (seen_of pair.primary start history) connection now frame told (LeavesIn mid) (seen_of mid first gone)
        → HaltedFrame (seen_of pair.primary start history) connection now frame (StandsBetween pair.primary mid) (seen_of (halted mid) begun later)
        → ServedOne (seen_in pair start history) connection now frame Stopped (LeavesPair behind) (seen_in behind begun later)
    stops_does start history begun later first gone reached never one none = record {
      keeps = keeps_halted pair live mid reads disk after stopped now_is start history begun later first gone none.start quiet_is stop_is one.keeps;
      session = none.session;
      of_connection = none.of_connection;
      history = none.history;
      living = λ other. refl;
      is_up = refl;
      kept = one.kept;
      outcome = by_table (store_of pair.primary.disk.now.seen);
      adds = none.adds (store_of disk.now.seen) (between_now pair live mid reads disk after stopped now_is);
      left = λ store leaves. none.adds store (between_left pair live mid reads disk after stopped now_is store leaves);
      stored = told_none (store_of pair.primary.disk.now.seen) (store_of disk.now.seen);
      blocks = λ clash. absurd (let e : ◌≡◌ {A = Bool} true false = clash in let none : ⊥ = cc in none);
      cause = cause_halted pair live mid reads disk after stopped now_is start history begun later (1 + sequences_in frame) reached;
      silent = λ quiet. absurd (never quiet);
    }

  -- the first store's disk failed
  pub stops_own : pair.primary.notes.calls < 2 ^ 48 → (new : Within) → Broke pair.primary new → IsSoundWithin new → Goes (SeesIn pair.primary) (SeesIn new) (λ before next. ServedOne before connection now frame Stopped (LeavesIn new) next)
      → Goes (SeesIn pair.primary) (IsHaltedAs pair.primary new) (λ before next. HaltedFrame before connection now frame (StandsBetween pair.primary new) next)
      → Goes (SeesPair pair) (SeesPair (with_both pair new pair.second)) (λ before next. ServedOne before connection now frame Stopped (LeavesPair (with_both pair new pair.second)) next)
  stops_own few new broke sound goes halts =
      stops pair live new new pair.second new.notes.reads (is_down new broke.down broke.settled sound) (halts_own pair is_up few kept new broke sound) sound broke.counts.live refl
      (λ before next. ServedOne before connection now frame Stopped (LeavesIn new) next) (λ before next. HaltedFrame before connection now frame (StandsBetween pair.primary new) next)
      (λ w before next. ServedOne before connection now frame Stopped (LeavesPair (with_both pair w pair.second)) next) goes halts
      (λ stopped start history begun later first gone one none.
      stops_does Stopped new new.notes.reads new.disk pair.second stopped refl refl refl start history begun later first gone
      (λ quiet second.
      let at = one.cause.quiet quiet (λ alike. omega (arith, one.cause.rose refl, alike)) in
      (at.0, at.1, on_both pair.second at.0 (1 + sequences_in frame) at.2))
      (λ quiet. (one.silent quiet).0 refl) one none)

  -- a disk failed as it was shipped
  pub stops_shipping : (told : Telling) (mid : Within) → GrewBy pair.primary mid → IsSoundWithin mid → (new : Within) (after : Option Second) → HasBrokenSome (lacked_some mid pair.second) mid new pair.second after → IsSoundWithin new
      → Goes (SeesIn pair.primary) (SeesIn mid) (λ before next. ServedOne before connection now frame told (LeavesIn mid) next)
      → Goes (SeesIn pair.primary) (IsHaltedAs pair.primary mid) (λ before next. HaltedFrame before connection now frame (StandsBetween pair.primary mid) next)
      → Goes (SeesPair pair) (SeesPair (with_both pair new after)) (λ before next. ServedOne before connection now frame Stopped (LeavesPair (with_both pair new after)) next)
  stops_shipping told mid grew sound_mid new after broken sound goes halts =
      let counts = counted pair mid grew is_up kept sound_mid new sound after broken in
      let old_begun = begins_up pair.primary is_up kept.primary in
      let old_count = count_stored pair.primary.disk.now.seen old_begun in
      let new_count = count_stored mid.disk.now.seen (added_begins pair.primary.disk.now.seen grew.records mid.disk.now.seen old_begun grew.gained.added) in
      let more = more_count pair mid grew is_up kept in
      let differ = some_more pair mid grew is_up kept sound_mid new sound after broken in
      stops pair live mid new after counts.reads counts.down (halts_shipping pair mid grew is_up kept sound_mid new sound after broken) sound grew.counts.live counts.bytes
      (λ before next. ServedOne before connection now frame told (LeavesIn mid) next) (λ before next. HaltedFrame before connection now frame (StandsBetween pair.primary mid) next)
      (λ w before next. ServedOne before connection now frame Stopped (LeavesPair (with_both pair w after)) next) goes halts
      (λ stopped start history begun later first gone one none.
      stops_does told mid counts.reads new.disk after stopped counts.bytes counts.first_quiet counts.stop start history begun later first gone
      (λ quiet second.
      let at = reached_shipping pair mid grew is_up kept sound_mid new sound after broken quiet second in
      (at.0, at.1, of_more pair.second at.0 (length grew.records) (1 + sequences_in frame) (omega (arith, one.adds.records.1, old_count, new_count, more)) at.2))
      (λ quiet. differ (sym new_count ∙ ap (λ (s : Store). s.records) (one.silent quiet).2 ∙ old_count)) one none)
