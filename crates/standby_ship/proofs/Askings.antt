-- An identifier that was asked for, and blocked in both stores.
use Rattle.std.proofs.Common.{◌≡◌, ◌∙◌, ◌<◌, ◌^◌, ℕ, Bool, true, false, refl, List, length, arith}
use Rattle.std.specs.Prelude.{Option, is_some}
use Rattle.disk_model.specs.Disk.{DiskState}
use Rattle.svc_values.specs.declared.entry.Ltxid.{Ltxid}
use Rattle.ltxid_book.specs.declared.verdict.Verdict.{Verdict}
use Rattle.server_model.specs.meaning.Base.{Base}
use Rattle.server_model.specs.Runs.{Happened}
use Rattle.server_model.specs.Seen.{Keeps, Seen}
use Rattle.server_model.specs.ServiceCalls.{AskedOne, StoppedAsk, StopsOnly}
use Rattle.service_calls.specs.Kept.{Goes}
use Rattle.service_core.specs.Seeing.{LeavesIn, SeesIn, store_of}
use Rattle.service_core.specs.Shipping.{Broke, GrewBy, halted, taken}
use Rattle.service_core.specs.Sound.{IsSoundWithin}
use Rattle.service_core.specs.Unanswered.{HaltedAsk, IsHaltedAs, StandsBetween}
use Rattle.service_core.specs.Within.{Within}
use Rattle.standby_ship.specs.Lagging.{lacked_some}
use Rattle.standby_ship.specs.Seeing.{LeavesPair, SeesPair}
use Rattle.standby_ship.specs.Shipped.{HasBrokenSome, HasShippedSome, with_reads}
use Rattle.standby_ship.specs.Sound.{IsSoundPair}
use Rattle.standby_ship.specs.Twins.{Second, Twin}
use Rattle.standby_ship.proofs.Answering.{came_along, caught_up, keeps_answered, with_both}
use Rattle.standby_ship.proofs.Breaking.{counted, halts_own, halts_shipping, is_down, reached_shipping, was_set}
use Rattle.standby_ship.proofs.Going.{seen_in, seen_of}
use Rattle.standby_ship.proofs.Halting.{IsHalted, WasSet, between_left, between_now, keeps_halted, only_halted}
use Rattle.standby_ship.proofs.Throughout.{answers, stops}

-- an answer has no fault
pub only_answered : (before next : Seen) → next.state.faults ≡ before.state.faults → StopsOnly before next false
only_answered before next same = record { rose = λ clash. absurd (let e : ◌≡◌ {A = Bool} false true = clash in let none : ⊥ = cc in none); quiet = λ is_quiet changed. absurd (changed same) }

-- in the first store's call a stop was set where its own was
pub own_set : (pair : Twin) (before next : Seen) → before.state.is_quiet ≡ pair.primary.disk.quiet → before.state.stop ≡ pair.primary.disk.stop → StopsOnly before next true → WasSet pair
own_set pair before next quiet_is stop_is only quiet second none = only.quiet (quiet_is ∙ quiet) (λ alike. omega (arith, only.rose refl, alike)) (stop_is ∙ none)

module _ (pair : Twin) (live : pair.is_spent ≡ false) (kept : IsSoundPair pair) (is_up : is_some pair.primary.core ≡ true) (x : Ltxid) where
  pub asks : (told : Verdict) (mid : Within) (grew : GrewBy pair.primary mid) (new : Within) (after : Option Second) → IsSoundWithin new → HasShippedSome mid new pair.second after → Goes (SeesIn pair.primary) (SeesIn mid) (λ before next. AskedOne before x told next)
      → Goes (SeesPair pair) (SeesPair (with_both pair new after)) (λ before next. AskedOne before x told next)
  asks told mid grew new after sound shipped goes =
      answers pair live kept is_up mid grew new after sound shipped (λ before next. AskedOne before x told next) (λ w before next. AskedOne before x told next) goes
      (λ reads did start history begun later one.
      let along = came_along mid (with_reads reads mid) pair.second after (caught_up mid (with_reads reads mid) pair.second after did) in
      record {
        keeps = keeps_answered pair live mid reads after start history begun later along.faults along.quiet along.per_record one.keeps;
        verdict = one.verdict;
        outcome = one.outcome;
        history = one.history;
        others = one.others;
        adds = one.adds;
        blocks = one.blocks;
        cause = only_answered (seen_in pair start history) (seen_in (with_both pair (with_reads reads mid) after) begun later) (omega (arith, grew.gained.faults, along.faults));
      })

  module _ (mid : Within) (reads : ℕ) (disk : DiskState) (after : Option Second) (stopped : IsHalted pair (taken (with_reads reads mid) disk) after) (now_is : disk.now ≡ mid.disk.now) (quiet_is : disk.quiet ≡ mid.disk.quiet)
      (stop_is : disk.stop ≡ mid.disk.stop) where
    asks_none : (start : Base) (history : List Happened) (begun : Base) (later : List Happened) (first : Base) (gone : List Happened) → WasSet pair → mid.notes.kept ≡ pair.primary.notes.kept
        → Keeps (seen_of pair.primary start history) (seen_of mid first gone) → HaltedAsk (seen_of pair.primary start history) x (StandsBetween pair.primary mid) (seen_of (halted mid) begun later)
        → StoppedAsk (seen_in pair start history) x (LeavesPair (with_both pair (taken (with_reads reads mid) disk) after)) (seen_in (with_both pair (taken (with_reads reads mid) disk) after) begun later)
    asks_none start history begun later first gone set kept_is keeps none = record {
      keeps = keeps_halted pair live mid reads disk after stopped now_is start history begun later first gone none.start quiet_is stop_is keeps;
      history = none.history;
      others = (λ other. refl, refl, kept_is);
      adds = none.adds (store_of disk.now.seen) (between_now pair live mid reads disk after stopped now_is);
      left = λ store leaves. none.adds store (between_left pair live mid reads disk after stopped now_is store leaves);
      cause = only_halted pair live mid reads disk after stopped now_is start history begun later set;
    }

  pub asks_own : pair.primary.notes.calls < 2 ^ 48 → (new : Within) → Broke pair.primary new → IsSoundWithin new → Goes (SeesIn pair.primary) (SeesIn new) (λ before next. StoppedAsk before x (LeavesIn new) next)
      → Goes (SeesIn pair.primary) (IsHaltedAs pair.primary new) (λ before next. HaltedAsk before x (StandsBetween pair.primary new) next)
      → Goes (SeesPair pair) (SeesPair (with_both pair new pair.second)) (λ before next. StoppedAsk before x (LeavesPair (with_both pair new pair.second)) next)
  asks_own few new broke sound goes halts =
      stops pair live new new pair.second new.notes.reads (is_down new broke.down broke.settled sound) (halts_own pair is_up few kept new broke sound) sound broke.counts.live refl
      (λ before next. StoppedAsk before x (LeavesIn new) next) (λ before next. HaltedAsk before x (StandsBetween pair.primary new) next)
      (λ w before next. StoppedAsk before x (LeavesPair (with_both pair w pair.second)) next) goes halts
      (λ stopped start history begun later first gone one none.
      asks_none new new.notes.reads new.disk pair.second stopped refl refl refl start history begun later first gone
      (own_set pair (seen_of pair.primary start history) (seen_of new first gone) refl refl one.cause) one.others.2 one.keeps none)

  pub asks_shipping : (told : Verdict) (mid : Within) → GrewBy pair.primary mid → IsSoundWithin mid → (new : Within) (after : Option Second) → HasBrokenSome (lacked_some mid pair.second) mid new pair.second after → IsSoundWithin new
      → Goes (SeesIn pair.primary) (SeesIn mid) (λ before next. AskedOne before x told next) → Goes (SeesIn pair.primary) (IsHaltedAs pair.primary mid) (λ before next. HaltedAsk before x (StandsBetween pair.primary mid) next)
      → Goes (SeesPair pair) (SeesPair (with_both pair new after)) (λ before next. StoppedAsk before x (LeavesPair (with_both pair new after)) next)
  asks_shipping told mid grew sound_mid new after broken sound goes halts =
      let counts = counted pair mid grew is_up kept sound_mid new sound after broken in
      stops pair live mid new after counts.reads counts.down (halts_shipping pair mid grew is_up kept sound_mid new sound after broken) sound grew.counts.live counts.bytes
      (λ before next. AskedOne before x told next) (λ before next. HaltedAsk before x (StandsBetween pair.primary mid) next)
      (λ w before next. StoppedAsk before x (LeavesPair (with_both pair w after)) next) goes halts
      (λ stopped start history begun later first gone one none.
      asks_none mid counts.reads new.disk after stopped counts.bytes counts.first_quiet counts.stop start history begun later first gone
      (was_set pair (length grew.records) (reached_shipping pair mid grew is_up kept sound_mid new sound after broken)) one.others.2 one.keeps none)
