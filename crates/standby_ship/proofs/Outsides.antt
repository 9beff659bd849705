-- Calls that were run from outside, on both stores.
use Rattle.std.proofs.Common.{◌≡◌, ◌<◌, ◌^◌, ℕ, true, false, refl, List, length, arith}
use Rattle.std.specs.Prelude.{Option, is_some}
use Rattle.disk_model.specs.Disk.{DiskState}
use Rattle.svc_values.specs.declared.answer.Answer.{Answer}
use Rattle.svc_values.specs.declared.call.Call.{Call}
use Rattle.svc_values.specs.declared.draw.Draw.{Draw}
use Rattle.svc_values.specs.declared.entry.Ltxid.{Ltxid}
use Rattle.server_model.specs.meaning.Base.{Base}
use Rattle.server_model.specs.Runs.{Happened}
use Rattle.server_model.specs.Seen.{Keeps}
use Rattle.server_model.specs.ServiceCalls.{RanOutside, StoppedOutside}
use Rattle.service_calls.specs.Kept.{Goes}
use Rattle.service_core.specs.Seeing.{LeavesIn, SeesIn, store_of}
use Rattle.service_core.specs.Shipping.{Broke, GrewBy, halted, taken}
use Rattle.service_core.specs.Sound.{IsSoundWithin}
use Rattle.service_core.specs.Unanswered.{HaltedCalls, IsHaltedAs, StandsBetween}
use Rattle.service_core.specs.Within.{Within}
use Rattle.standby_ship.specs.Lagging.{lacked_some}
use Rattle.standby_ship.specs.Seeing.{LeavesPair, SeesPair}
use Rattle.standby_ship.specs.Shipped.{HasBrokenSome, HasShippedSome, with_reads}
use Rattle.standby_ship.specs.Sound.{IsSoundPair}
use Rattle.standby_ship.specs.Twins.{Second, Twin}
use Rattle.standby_ship.proofs.Answering.{came_along, caught_up, keeps_answered, with_both}
use Rattle.standby_ship.proofs.Askings.{only_answered, own_set}
use Rattle.standby_ship.proofs.Breaking.{counted, halts_own, halts_shipping, is_down, reached_shipping, was_set}
use Rattle.standby_ship.proofs.Going.{seen_in, seen_of}
use Rattle.standby_ship.proofs.Halting.{IsHalted, WasSet, between_left, between_now, keeps_halted, only_halted}
use Rattle.standby_ship.proofs.Throughout.{answers, stops}

module _ (pair : Twin) (live : pair.is_spent ≡ false) (kept : IsSoundPair pair) (is_up : is_some pair.primary.core ≡ true) where
  module _ (calls : List Call) (now : ℕ) (x : Ltxid) (runs : List (List Answer × List Draw)) (mid : Within) (grew : GrewBy pair.primary mid) where
    pub runs_outside : (new : Within) (after : Option Second) → IsSoundWithin new → HasShippedSome mid new pair.second after → Goes (SeesIn pair.primary) (SeesIn mid) (λ before next. RanOutside before calls now x runs next)
        → Goes (SeesPair pair) (SeesPair (with_both pair new after)) (λ before next. RanOutside before calls now x runs next)
    runs_outside new after sound shipped goes =
        answers pair live kept is_up mid grew new after sound shipped (λ before next. RanOutside before calls now x runs next) (λ w before next. RanOutside before calls now x runs next) goes
        (λ reads did start history begun later one.
        let along = came_along mid (with_reads reads mid) pair.second after (caught_up mid (with_reads reads mid) pair.second after did) in
        record {
          keeps = keeps_answered pair live mid reads after start history begun later along.faults along.quiet along.per_record one.keeps;
          of_session = one.of_session;
          more = one.more;
          ran = one.ran;
          history = one.history;
          others = one.others;
          gains = one.gains;
          cause = only_answered (seen_in pair start history) (seen_in (with_both pair (with_reads reads mid) after) begun later) (omega (arith, grew.gained.faults, along.faults));
        })

  module _ (mid : Within) (reads : ℕ) (disk : DiskState) (after : Option Second) (stopped : IsHalted pair (taken (with_reads reads mid) disk) after) (now_is : disk.now ≡ mid.disk.now) (quiet_is : disk.quiet ≡ mid.disk.quiet)
      (stop_is : disk.stop ≡ mid.disk.stop) where
    runs_none : (start : Base) (history : List Happened) (begun : Base) (later : List Happened) (first : Base) (gone : List Happened) → WasSet pair → mid.notes.kept ≡ pair.primary.notes.kept
        → Keeps (seen_of pair.primary start history) (seen_of mid first gone) → HaltedCalls (seen_of pair.primary start history) (StandsBetween pair.primary mid) (seen_of (halted mid) begun later)
        → StoppedOutside (seen_in pair start history) (LeavesPair (with_both pair (taken (with_reads reads mid) disk) after)) (seen_in (with_both pair (taken (with_reads reads mid) disk) after) begun later)
    runs_none start history begun later first gone set kept_is keeps none = record {
      keeps = keeps_halted pair live mid reads disk after stopped now_is start history begun later first gone none.start quiet_is stop_is keeps;
      more = none.more;
      served = none.served;
      history = none.history;
      others = (λ other. refl, refl, kept_is);
      gains = none.gains (store_of disk.now.seen) (between_now pair live mid reads disk after stopped now_is);
      left = λ store leaves. none.gains store (between_left pair live mid reads disk after stopped now_is store leaves);
      cause = only_halted pair live mid reads disk after stopped now_is start history begun later set;
    }

  pub runs_own : pair.primary.notes.calls < 2 ^ 48 → (new : Within) → Broke pair.primary new → IsSoundWithin new → Goes (SeesIn pair.primary) (SeesIn new) (λ before next. StoppedOutside before (LeavesIn new) next)
      → Goes (SeesIn pair.primary) (IsHaltedAs pair.primary new) (λ before next. HaltedCalls before (StandsBetween pair.primary new) next)
      → Goes (SeesPair pair) (SeesPair (with_both pair new pair.second)) (λ before next. StoppedOutside before (LeavesPair (with_both pair new pair.second)) next)
  runs_own few new broke sound goes halts =
      stops pair live new new pair.second new.notes.reads (is_down new broke.down broke.settled sound) (halts_own pair is_up few kept new broke sound) sound broke.counts.live refl
      (λ before next. StoppedOutside before (LeavesIn new) next) (λ before next. HaltedCalls before (StandsBetween pair.primary new) next)
      (λ w before next. StoppedOutside before (LeavesPair (with_both pair w pair.second)) next) goes halts
      (λ stopped start history begun later first gone one none.
      runs_none new new.notes.reads new.disk pair.second stopped refl refl refl start history begun later first gone
      (own_set pair (seen_of pair.primary start history) (seen_of new first gone) refl refl one.cause) one.others.2 one.keeps none)

  pub runs_shipping : (calls : List Call) (now : ℕ) (x : Ltxid) (runs : List (List Answer × List Draw)) (mid : Within) → GrewBy pair.primary mid → IsSoundWithin mid → (new : Within) (after : Option Second) → HasBrokenSome (lacked_some mid pair.second) mid new pair.second after → IsSoundWithin new
      → Goes (SeesIn pair.primary) (SeesIn mid) (λ before next. RanOutside before calls now x runs next) → Goes (SeesIn pair.primary) (IsHaltedAs pair.primary mid) (λ before next. HaltedCalls before (StandsBetween pair.primary mid) next)
      → Goes (SeesPair pair) (SeesPair (with_both pair new after)) (λ before next. StoppedOutside before (LeavesPair (with_both pair new after)) next)
  runs_shipping calls now x runs mid grew sound_mid new after broken sound goes halts =
      let counts = counted pair mid grew is_up kept sound_mid new sound after broken in
      stops pair live mid new after counts.reads counts.down (halts_shipping pair mid grew is_up kept sound_mid new sound after broken) sound grew.counts.live counts.bytes
      (λ before next. RanOutside before calls now x runs next) (λ before next. HaltedCalls before (StandsBetween pair.primary mid) next)
      (λ w before next. StoppedOutside before (LeavesPair (with_both pair w after)) next) goes halts
      (λ stopped start history begun later first gone one none.
      runs_none mid counts.reads new.disk after stopped counts.bytes counts.first_quiet counts.stop start history begun later first gone
      (was_set pair (length grew.records) (reached_shipping pair mid grew is_up kept sound_mid new sound after broken)) one.others.2 one.keeps none)
