-- An opening that counts as stopped before its answer.
use Rattle.std.proofs.Common.{◌≡◌, ◌<◌, ◌^◌, ℕ, true, false, refl, sym, subst, List}
use Rattle.std.specs.Prelude.{is_some}
use Rattle.disk_model.specs.Moment.{MayLeave}
use Rattle.commit_log.specs.Growth.{IsGrown, opening_of}
use Rattle.commit_log.specs.Laws.{RaisesHorizon}
use Rattle.commit_log.specs.meaning.Journals.{so_far_of}
use Rattle.server_model.specs.meaning.Base.{Base}
use Rattle.server_model.specs.Runs.{Happened}
use Rattle.server_model.specs.Seen.{Store}
use Rattle.server_model.specs.ServiceCalls.{MayForget, OpenedSoFar}
use Rattle.server_session.specs.declared.shared.Core.{Core}
use Rattle.service_calls.specs.Kept.{Goes}
use Rattle.service_core.specs.Opening.{HasOpened}
use Rattle.service_core.specs.Seeing.{Came, SeesIn, StandsDown, StandsIn, state_in, store_of}
use Rattle.service_core.specs.Sound.{IsDown, IsSoundWithin, Reads}
use Rattle.service_core.specs.Unanswered.{HaltedOpening, IsHaltedAs, LiesBetween, StandsBetween}
use Rattle.service_core.specs.Within.{Within}
use Rattle.service_core.proofs.halts.Halted.{IsHalted, reached_came, so_far_stored}
use Rattle.service_core.proofs.Opened.{down_of}
use Rattle.service_core.proofs.Reaching.{Reaches, grows_now, reaches}
use Rattle.service_core.proofs.halts.Unanswering.{Halts, goes_halted, grown_between, whole_grown}

module _ (old : Within) (below : ℕ) (raises : RaisesHorizon) (few : old.notes.calls < 2 ^ 48) (off : is_some old.core ≡ false) (settled : old.notes.is_settled ≡ true) (sound : IsSoundWithin old) (may : MayForget (state_in old) below) (new : Within) (live : new.notes.is_spent ≡ false)
    (granted : new.grants ≡ old.grants) where
  down : IsDown old.disk old.held old.notes
  down = down_of old off sound

  read : Reads down.base old.notes old.disk.now.seen
  read = down.leaves old.disk.now.seen down.reads_now

  module _ (leaves : (left : List ℕ) → MayLeave new.disk.now left → IsGrown old.disk.now.seen (opening_of below (so_far_of old.disk.now.seen)) left) where
    reached : (image left : List ℕ) → MayLeave new.disk.now left → LiesBetween old.disk.now.seen image left → Reaches read.journal below image
    reached image left can lies =
        reaches read.journal below old.disk.now.seen image raises read.reads (grown_between old.disk.now.seen image left (opening_of below (so_far_of old.disk.now.seen)) read.journal read.reads (leaves left can) lies)

    so_far_at : (store : Store) → StandsBetween old new store → OpenedSoFar below (store_of old.disk.now.seen) store
    so_far_at store at =
        subst (OpenedSoFar below (store_of old.disk.now.seen)) (sym at.store_is)
        (so_far_stored read.journal below old.disk.now.seen at.image read.reads (reached at.image at.left at.leaves at.lies))

    opening_at : (start : Base) (history : List Happened) → StandsIn old start history → Halts old new (λ before after. HaltedOpening before below (StandsBetween old new) after) start history
    unfolding read down
    opening_at start history stands = record {
      later = history;
      came = λ image left can lies.
          subst (λ g. Came start history (StandsDown g false image)) (sym granted)
          (reached_came old below start history few off settled sound may stands image (reached image left can lies));
      does = record { start = refl; history = refl; so_far = so_far_at };
    }

    opening_halts : Goes (SeesIn old) (IsHaltedAs old new) (λ before after. HaltedOpening before below (StandsBetween old new) after)
    opening_halts = goes_halted old new (λ before after. HaltedOpening before below (StandsBetween old new) after) live opening_at

  -- an answer that reaches nobody
  pub opened_halts : (core : Core) → HasOpened below old.grants old.disk core new.disk → Goes (SeesIn old) (IsHaltedAs old new) (λ before after. HaltedOpening before below (StandsBetween old new) after)
  opened_halts core opened =
      opening_halts
      (λ left leaves. whole_grown old.disk.now.seen new.disk.now.seen left (opening_of below (so_far_of old.disk.now.seen)) opened.added (opened.fits.log.append.settled left leaves))

  pub stopped_opening_halts : (calls : ℕ) → IsHalted below calls old.disk new.disk → Goes (SeesIn old) (IsHaltedAs old new) (λ before after. HaltedOpening before below (StandsBetween old new) after)
  stopped_opening_halts calls halted = opening_halts (λ left leaves. grows_now below old.disk new.disk (down.settled settled) halted.run left leaves)
