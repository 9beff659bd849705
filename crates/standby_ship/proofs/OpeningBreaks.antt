-- An opening that was stopped: in the first store's call, and as the second one was walked or
-- shipped to.
use Rattle.std.proofs.Common.{◌≡◌, ◌≢◌, ◌∙◌, ◌+◌, ◌*◌, ◌<◌, ◌^◌, ℕ, true, false, refl, sym, ap, subst, List, [], ◌∷◌, length, arith}
use Rattle.std.specs.Prelude.{Option, Some, None, is_some}
use Rattle.disk_model.specs.Moment.{DiskMoment, MayLeave}
use Rattle.disk_model.specs.Disk.{Lowered}
use Rattle.redo_store.specs.meaning.Records.{records_of}
use Rattle.commit_log.specs.declared.records.Record.{Record}
use Rattle.server_model.specs.meaning.Base.{Base}
use Rattle.server_model.specs.Runs.{Happened}
use Rattle.server_model.specs.Seen.{Store}
use Rattle.server_model.specs.ServiceCalls.{Opened, StoppedOpening, StopsOnly}
use Rattle.service_calls.specs.Kept.{Goes}
use Rattle.service_core.specs.Seeing.{LeavesIn, SeesIn}
use Rattle.service_core.specs.Shipping.{Broke, GrewBy, count_in, taken}
use Rattle.service_core.specs.Sound.{IsKept, IsSoundWithin}
use Rattle.service_core.specs.Unanswered.{HaltedOpening, IsHaltedAs, LiesBetween, StandsBetween}
use Rattle.service_core.specs.Within.{Within}
use Rattle.service_core.proofs.Offered.{settled_in}
use Rattle.standby_ship.specs.Seeing.{LeavesPair, SeesPair}
use Rattle.standby_ship.specs.Shipped.{HasBrokenSome, with_reads}
use Rattle.standby_ship.specs.Sound.{IsBeside, IsBesideSome, IsFrontOf, IsSoundPair}
use Rattle.standby_ship.specs.Twins.{Second, Twin, disk_in, faults_of, per_record_in, quiet_of}
use Rattle.standby_ship.proofs.Answering.{room_in, with_both}
use Rattle.standby_ship.proofs.Beginnings.{Begins, added_count, added_lies, begins, lies_alike, lies_front, none_added, none_lies}
use Rattle.standby_ship.proofs.Breaking.{is_down, reads_down}
use Rattle.standby_ship.proofs.Fronts.{front_reads}
use Rattle.standby_ship.proofs.Going.{seen_of}
use Rattle.standby_ship.proofs.Halting.{WasSet}
use Rattle.standby_ship.proofs.Lacking.{more_faults}
use Rattle.standby_ship.proofs.OpeningBoth.{begins_down, down_of, front_down, front_more}
use Rattle.standby_ship.proofs.OpeningStops.{IsStopped, LeftOpeningSome, goes_stopped, stopped_opening, stops_soundly}

-- ---- in the first store's call

module _ (pair : Twin) (live : pair.is_spent ≡ false) (off : is_some pair.primary.core ≡ false) (settled : pair.primary.notes.is_settled ≡ true) (kept : IsSoundPair pair) where
  begun_down : Begins pair.primary.disk.now.seen
  begun_down = begins_down pair.primary off kept.primary

  module _ (new : Within) (few : pair.primary.notes.calls < 2 ^ 48) (broke : Broke pair.primary new) (is_kept : IsKept new) where
    sound_own : IsSoundWithin new
    sound_own = is_kept broke.counts.live

    left_own : (second : Option Second) → IsBesideSome pair second → LeftOpeningSome pair new second
    left_own None beside = tt
    left_own (Some second) beside = record {
      fronts = λ image whole here there.
          let has = broke.left whole there in
          subst (λ (i : List ℕ). IsFrontOf i whole) (sym (beside.settled settled image here))
          (front_more second.disk.now.seen pair.primary.disk.now.seen whole has.0 (front_down pair off settled kept second beside) has.1);
      lies = λ opened image whole here there.
          let has = broke.left whole there in
          let even = beside.even opened settled in
          none_lies pair.primary.disk.now.seen has.0 whole image (ap records_of (even.settled image here) ∙ even.records) begun_down has.1;
      reads_now = beside.reads_now;
      room = (omega (arith, beside.faults.0, broke.counts.calls, broke.counts.reads), omega (arith, beside.faults.1, broke.counts.calls, broke.counts.reads));
      none_lost = beside.none_lost;
    }

    stops_own : IsStopped pair new pair.second
    stops_own =
        let room = room_in pair.primary.grants pair.primary.disk pair.primary.core pair.primary.held pair.primary.notes kept.primary in
        let rose = more_faults pair.primary.disk.faults new.disk.faults pair.primary.notes.calls pair.primary.notes.reads room.0 room.1 (omega (arith, few)) broke.faults in
        record {
          first = λ whole there. let has = broke.left whole there in added_lies pair.primary.disk.now.seen has.0 whole begun_down has.1;
          second = left_own pair.second kept.second;
          reads_now = reads_down new broke.down sound_own;
          rose = omega (arith, rose);
          quiet = refl;
          per_record = refl;
        }

    same_own : new ≡ taken (with_reads new.notes.reads new) new.disk
    same_own = is_down new broke.down broke.settled sound_own

    stopped_own : IsStopped pair (taken (with_reads new.notes.reads new) new.disk) pair.second
    stopped_own = subst (λ (w : Within). IsStopped pair w pair.second) {x = new} same_own stops_own

    pub stops_own_soundly : IsSoundPair (with_both pair new pair.second)
    stops_own_soundly =
        subst (λ (w : Within). IsSoundPair (with_both pair w pair.second)) {x = taken (with_reads new.notes.reads new) new.disk} (sym same_own)
        (stops_soundly pair live new new.notes.reads new.disk pair.second (subst IsSoundWithin {x = new} same_own sound_own) broke.counts.live stopped_own)

    set_own : (start : Base) (history : List Happened) (begun : Base) (later : List Happened) → StopsOnly (seen_of pair.primary start history) (seen_of new begun later) true → WasSet pair
    set_own start history begun later cause quiet _ = cause.quiet quiet (λ same. omega (arith, same, cause.rose refl))

    pub opening_stops : (horizon : ℕ) → Goes (SeesIn pair.primary) (SeesIn new) (λ before next. StoppedOpening before horizon (LeavesIn new) next) → Goes (SeesIn pair.primary) (IsHaltedAs pair.primary new) (λ before next. HaltedOpening before horizon (StandsBetween pair.primary new) next)
        → Goes (SeesPair pair) (SeesPair (with_both pair new pair.second)) (λ before next. StoppedOpening before horizon (LeavesPair (with_both pair new pair.second)) next)
    opening_stops horizon goes halts =
        let held = (down_of pair.primary off kept.primary).none in
        let reads = new.notes.reads in
        let sound = subst (λ (w : Within). IsSoundPair (with_both pair w pair.second)) {x = new} same_own stops_own_soundly in
        subst (λ (w : Within). Goes (SeesPair pair) (SeesPair (with_both pair w pair.second)) (λ before next. StoppedOpening before horizon (LeavesPair (with_both pair w pair.second)) next)) {x = taken (with_reads reads new) new.disk} (sym same_own)
        (goes_stopped pair live new reads new.disk pair.second stopped_own refl (λ before next. StoppedOpening before horizon (LeavesIn new) next) (λ before next. HaltedOpening before horizon (StandsBetween pair.primary new) next)
        (λ before next. StoppedOpening before horizon (LeavesPair (with_both pair (taken (with_reads reads new) new.disk) pair.second)) next) sound goes
        (λ start history first told one. halts)
        (λ start history begun later first told one none. stopped_opening pair live new reads new.disk pair.second stopped_own refl horizon start history begun later first told held refl refl (set_own start history first told one.cause) one.keeps none))

-- ---- as the second store was brought up

no_records : (records : List Record) → length records ≡ 0 → records ≡ []
no_records [] none = refl
no_records (one ∷ records) none = absurd (omega (arith, none))

none_set : (n : ℕ) (before after : Option ℕ) → Lowered n before after → before ≡ None → after ≡ None
none_set n None None lowered none = refl
none_set n None (Some after) lowered none = absurd lowered
none_set n (Some before) after lowered none = absurd (let e : ◌≡◌ {A = Option ℕ} (Some before) None = none in let no : ⊥ = cc in no)

-- what both disks count
record Counts (most : ℕ) (mid new : Within) (before after : Option Second) : Type 0 where
  reads : ℕ
  down : new ≡ taken (with_reads reads mid) new.disk
  bytes : new.disk.now ≡ mid.disk.now
  stop : new.disk.stop ≡ mid.disk.stop
  first_quiet : new.disk.quiet ≡ mid.disk.quiet
  rose : mid.disk.faults + faults_of (disk_in before) < new.disk.faults + faults_of (disk_in after)
  quiet : quiet_of (disk_in after) ≡ quiet_of (disk_in before)
  per_record : per_record_in after ≡ per_record_in before
  reached : mid.disk.quiet ≡ true → quiet_of (disk_in before) ≡ true → (n : ℕ) × ((mid.disk.stop ≡ Some n) × (n < 4 * most))

counts : (most : ℕ) (mid new : Within) (before after : Option Second) → HasBrokenSome most mid new before after → Counts most mid new before after
counts most mid new None after broken = absurd broken
counts most mid new (Some before) None broken = absurd broken
counts most mid new (Some before) (Some after) broken = record {
  reads = broken.reads;
  down = broken.down;
  bytes = broken.bytes;
  stop = broken.stop;
  first_quiet = broken.quiet.0;
  rose = broken.rose;
  quiet = broken.quiet.1;
  per_record = refl;
  reached = broken.reached;
}

module _ (pair : Twin) (live : pair.is_spent ≡ false) (off : is_some pair.primary.core ≡ false) (settled : pair.primary.notes.is_settled ≡ true) (kept : IsSoundPair pair) (mid : Within) (grew : GrewBy pair.primary mid) (sound_mid : IsSoundWithin mid) where
  begun : Begins pair.primary.disk.now.seen
  begun = begins_down pair.primary off kept.primary

  settled_mid : (whole : List ℕ) → MayLeave mid.disk.now whole → whole ≡ mid.disk.now.seen
  settled_mid = settled_in mid.grants mid.disk mid.core mid.held mid.notes sound_mid grew.settled

  -- what the second store held reads as a journal
  second_begins : (second : Second) → IsBeside pair second → Begins second.disk.now.seen
  second_begins second beside =
      let down = down_of pair.primary off kept.primary in
      let read = front_reads down.base pair.primary.notes second.disk.now.seen pair.primary.disk.now.seen (front_down pair off settled kept second beside) (down.leaves pair.primary.disk.now.seen down.reads_now) in
      begins second.disk.now.seen read.journal read.reads

  -- an opening adds a record
  pub some_more : (horizon : ℕ) (start : Base) (history : List Happened) (first : Base) (told : List Happened) → Opened (seen_of pair.primary start history) horizon (seen_of mid first told) → count_in mid ≢ count_in pair.primary
  some_more horizon start history first told one same =
      let more = added_count pair.primary.disk.now.seen grew.records mid.disk.now.seen begun grew.gained.added in
      let none = no_records grew.records (omega (arith, same, more)) in
      let stays = ap (λ (s : Store). s.incarnation) (none_added pair.primary.disk.now.seen grew.records mid.disk.now.seen none grew.gained.added) in
      omega (arith, one.incarnation, stays)

  module _ (most : ℕ) (new : Within) (after : Option Second) (broken : HasBrokenSome most mid new pair.second after) (is_kept : IsKept new) where
    counted : Counts most mid new pair.second after
    counted = counts most mid new pair.second after broken

    sound_new : IsSoundWithin new
    sound_new = is_kept (ap (λ (w : Within). w.notes.is_spent) counted.down ∙ grew.counts.live)

    whole_mid : (whole : List ℕ) → MayLeave new.disk.now whole → whole ≡ mid.disk.now.seen
    whole_mid whole there = settled_mid whole (subst (λ (m : DiskMoment). MayLeave m whole) counted.bytes there)

    left_shipping : (before later : Option Second) → IsBesideSome pair before → HasBrokenSome most mid new before later → LeftOpeningSome pair new later
    left_shipping None later beside was = absurd was
    left_shipping (Some before) None beside was = absurd was
    left_shipping (Some before) (Some later) beside was =
        let room = room_in new.grants new.disk new.core new.held new.notes sound_new in
        let reads = ap (λ (w : Within). w.notes.reads) was.down in
        let calls = ap (λ (w : Within). w.notes.calls) was.down in
        record {
          fronts = λ image whole here there. subst (IsFrontOf image) (sym (whole_mid whole there)) (lies_front before.disk.now.seen image mid.disk.now.seen (second_begins before beside) (was.between image here));
          lies = λ opened image whole here there.
              subst (λ (w : List ℕ). LiesBetween pair.primary.disk.now.seen image w) (sym (whole_mid whole there))
              (lies_alike before.disk.now.seen pair.primary.disk.now.seen image mid.disk.now.seen (beside.even opened settled).records (was.between image here));
          reads_now = was.reads_now;
          room = (omega (arith, beside.faults.0, was.faults.1, calls, reads, was.more_reads, grew.counts.calls, grew.counts.reads), room.1);
          none_lost = beside.none_lost;
        }

    stops_shipping : IsStopped pair new after
    stops_shipping = record {
      first = λ whole there.
          subst (λ (w : List ℕ). LiesBetween pair.primary.disk.now.seen w w) (sym (whole_mid whole there)) (added_lies pair.primary.disk.now.seen grew.records mid.disk.now.seen begun grew.gained.added);
      second = left_shipping pair.second after kept.second broken;
      reads_now = reads_down new (ap (λ (w : Within). is_some w.core) counted.down) sound_new;
      rose = omega (arith, counted.rose, grew.gained.faults);
      quiet = counted.quiet;
      per_record = counted.per_record;
    }

    stopped_shipping : IsStopped pair (taken (with_reads counted.reads mid) new.disk) after
    stopped_shipping = subst (λ (w : Within). IsStopped pair w after) {x = new} counted.down stops_shipping

    pub stops_shipping_soundly : IsSoundPair (with_both pair new after)
    stops_shipping_soundly =
        subst (λ (w : Within). IsSoundPair (with_both pair w after)) {x = taken (with_reads counted.reads mid) new.disk} (sym counted.down)
        (stops_soundly pair live mid counted.reads new.disk after (subst IsSoundWithin {x = new} counted.down sound_new) grew.counts.live stopped_shipping)

    -- a stop was set
    set_shipping : WasSet pair
    set_shipping quiet second none =
        let at = counted.reached (grew.gained.quiet ∙ quiet) second in
        let e : ◌≡◌ {A = Option ℕ} None (Some at.0) = sym (none_set (4 * length grew.records) pair.primary.disk.stop mid.disk.stop grew.gained.stop none) ∙ at.1.0 in
        let clash : ⊥ = cc in
        clash

    pub shipping_stops : (horizon : ℕ) → Goes (SeesIn pair.primary) (SeesIn mid) (λ before next. Opened before horizon next)
        → (count_in mid ≢ count_in pair.primary → Goes (SeesIn pair.primary) (IsHaltedAs pair.primary mid) (λ before next. HaltedOpening before horizon (StandsBetween pair.primary mid) next))
        → Goes (SeesPair pair) (SeesPair (with_both pair new after)) (λ before next. StoppedOpening before horizon (LeavesPair (with_both pair new after)) next)
    shipping_stops horizon goes halts =
        let held = (down_of pair.primary off kept.primary).none in
        let sound = subst (λ (w : Within). IsSoundPair (with_both pair w after)) {x = new} counted.down stops_shipping_soundly in
        subst (λ (w : Within). Goes (SeesPair pair) (SeesPair (with_both pair w after)) (λ before next. StoppedOpening before horizon (LeavesPair (with_both pair w after)) next)) {x = taken (with_reads counted.reads mid) new.disk} (sym counted.down)
        (goes_stopped pair live mid counted.reads new.disk after stopped_shipping counted.bytes (λ before next. Opened before horizon next) (λ before next. HaltedOpening before horizon (StandsBetween pair.primary mid) next)
        (λ before next. StoppedOpening before horizon (LeavesPair (with_both pair (taken (with_reads counted.reads mid) new.disk) after)) next) sound goes
        (λ start history first told one. halts (some_more horizon start history first told one))
        (λ start history begun later first told one none. stopped_opening pair live mid counted.reads new.disk after stopped_shipping counted.bytes horizon start history begun later first told held counted.first_quiet counted.stop set_shipping one.keeps none))
