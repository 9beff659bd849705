-- An outcome whose asking counts as stopped before its answer.
use Rattle.std.proofs.Common.{◌≡◌, ◌≤◌, false, refl, sym, subst, List, [], ◌∷◌, ◌++◌, length, arith}
use Rattle.std.specs.Prelude.{◌≢◌, ℕ, Option, Some}
use Rattle.disk_model.specs.Moment.{MayLeave}
use Rattle.svc_values.specs.declared.entry.Ltxid.{Ltxid}
use Rattle.ltxid_book.specs.declared.verdict.Verdict.{Verdict}
use Rattle.commit_log.specs.declared.records.Record.{Record}
use Rattle.commit_log.specs.declared.records.Record.TheVariants as kept
use Rattle.commit_log.specs.Growth.{IsGrown}
use Rattle.server_model.specs.meaning.Base.{Base}
use Rattle.server_model.specs.meaning.Outcomes.{Stopped}
use Rattle.server_model.specs.Runs.{Happened, Asked}
use Rattle.server_model.specs.Seen.{Store}
use Rattle.server_model.specs.ServiceCalls.{AddsBlock}
use Rattle.server_session.specs.declared.shared.Core.{Core}
use Rattle.server_session.specs.Storing.{HasStoppedTelling, HasTold, StopsTelling}
use Rattle.server_session.proofs.Offered.{left_grown}
use Rattle.service_calls.specs.Kept.{Goes}
use Rattle.service_core.specs.Seeing.{Came, SeesIn, StandsDown, StandsIn, StandsUp, Stands, store_of}
use Rattle.service_core.specs.Shipping.{count_in}
use Rattle.service_core.specs.Sound.{IsSound, IsSoundWithin, IsUp}
use Rattle.service_core.specs.Unanswered.{HaltedAsk, IsHaltedAs, LiesBetween, StandsBetween}
use Rattle.service_core.specs.Within.{Within}
use Rattle.service_core.proofs.halts.AskFronts.{ask_adds, ask_came}
use Rattle.service_core.proofs.halts.Unanswering.{Halts, goes_halted, grown_between, some_added, whole_grown}

module _ (old : Within) (core : Core) (is_up : old.core ≡ Some core) (sound : IsSoundWithin old) (x : Ltxid) (new : Within) (live : new.notes.is_spent ≡ false) (granted : new.grants ≡ old.grants) where
  up : IsUp old.grants old.disk core old.held old.notes
  up = subst (λ (c : Option Core). IsSound old.grants old.disk c old.held old.notes) is_up sound

  module _ (records : List Record) (few : length records ≤ 1) (fronts : StopsTelling x core old.disk records) (leaves : (left : List ℕ) → MayLeave new.disk.now left → IsGrown old.disk.now.seen records left) where
    grown : (image left : List ℕ) → MayLeave new.disk.now left → LiesBetween old.disk.now.seen image left → IsGrown old.disk.now.seen records image
    grown image left may lies = grown_between old.disk.now.seen image left records up.fits.journal up.fits.reads (leaves left may) lies

    module _ (start : Base) (history : List Happened) (stands : StandsIn old start history) where
      came_up : Came start history (StandsUp old.disk core old.held old.notes.sessions)
      came_up = subst (λ (c : Option Core). Stands old.grants old.disk c old.held old.notes start history) is_up stands

      adds_at : (store : Store) → StandsBetween old new store → AddsBlock x (store_of old.disk.now.seen) store
      adds_at store at =
          subst (AddsBlock x (store_of old.disk.now.seen)) (sym at.store_is)
          (ask_adds old.grants old.disk core old.held old.notes x up records few fronts start history came_up at.image (grown at.image at.left at.leaves at.lies))

      asks_at : Halts old new (λ before after. HaltedAsk before x (StandsBetween old new) after) start history
      asks_at = record {
        later = history ++ Asked x Stopped ∷ [];
        came = λ image left may lies.
            subst (λ g. Came start (history ++ Asked x Stopped ∷ []) (StandsDown g false image)) (sym granted)
            (ask_came old.grants old.disk core old.held old.notes x up records few fronts start history came_up image (grown image left may lies));
        does = record { start = refl; history = refl; adds = adds_at };
      }

    ask_halts : Goes (SeesIn old) (IsHaltedAs old new) (λ before after. HaltedAsk before x (StandsBetween old new) after)
    ask_halts = goes_halted old new (λ before after. HaltedAsk before x (StandsBetween old new) after) live (λ start history stands. asks_at start history stands)

  -- an answer that reaches nobody
  pub told_halts : (judged : Verdict) (later : Core) → HasTold x judged core old.disk later new.disk → count_in new ≢ count_in old → Goes (SeesIn old) (IsHaltedAs old new) (λ before after. HaltedAsk before x (StandsBetween old new) after)
  told_halts judged later told differ =
      ask_halts told.records told.few (told.fronts (some_added old.disk.now.seen new.disk.now.seen told.records up.fits.journal up.fits.reads told.gained.added differ))
      (λ left leaves. whole_grown old.disk.now.seen new.disk.now.seen left told.records told.gained.added (told.fits.log.append.settled left leaves))

  pub stopped_telling_halts : HasStoppedTelling x core old.disk new.disk → Goes (SeesIn old) (IsHaltedAs old new) (λ before after. HaltedAsk before x (StandsBetween old new) after)
  stopped_telling_halts stopped =
      ask_halts (kept.Blocked x ∷ []) (omega arith) stopped.steps (λ left leaves. left_grown old.disk.now.seen [] (kept.Blocked x) left (stopped.halted.left left leaves))
