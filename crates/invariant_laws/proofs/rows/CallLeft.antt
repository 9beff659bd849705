-- A request that steps has a call left.
use Rattle.std.proofs.Common.{◌≡◌, refl, sym, ap, ◌∙◌, Bool, true, false, length, Some, None, ℕ}
use Rattle.std.specs.Prelude.{◌==◌, not, slice_get, is_some}
use Rattle.std.proofs.lemmas.Bool.{and_parts}
use Rattle.svc_values.specs.declared.call.Call.{Call}
use Rattle.client_model.specs.meaning.Terms.{Phase, Idle, Unbegun, Queued, Seeking, Greeting, Asked, Running, Replaying}
use Rattle.client_model.specs.declared.track.Track.{Track}
use Rattle.client_model.specs.meaning.Account.{Account}
use Rattle.client_model.specs.meaning.Talk.{next_call}
use Rattle.client_model.proofs.Offered.{Fits, Tracked, next_left}
use Rattle.world_model.specs.Orderly.{Orderly}
use Rattle.world_model.specs.meaning.Machines.{Machine}
use Rattle.world_model.specs.Parts.{implies}
use Rattle.world_model.specs.records.Ready.{is_unbegun}
use Rattle.world_model.specs.Traced.{Traced}
use Rattle.world_model.proofs.Offered.{HasStepped, at_event, implied, left_some, account_now, before_talks, doing_ready}
use Rattle.invariant_laws.proofs.losses.KeptFailed.{idle_wants}
use Rattle.invariant_laws.proofs.losses.KeptTold.{talk_is}
use Rattle.invariant_laws.proofs.losses.LostSteps.{is_doing, wanted}
use Rattle.invariant_laws.proofs.rows.RowSteps.{before_fits}
use Rattle.invariant_laws.proofs.talks.TalkRuns.{is_idle}

module _ (t : Traced) (inv : Orderly t) (who : ℕ) (n : Machine) (step : HasStepped t.setting (at_event t.machine) who n) where
  abbrev m : Machine
  m = at_event t.machine

  abbrev account : Account
  account = account_now t.setting.terms step.before

  -- before the first Begin
  fresh_left : is_unbegun step.before.talk.phase ≡ true → is_some (next_call step.before.talk) ≡ true
  fresh_left fresh =
      left_some step.before.talk.left
      (implied (is_unbegun step.before.talk.phase) (not (length step.before.talk.left == 0)) fresh
      (and_parts (implies (is_unbegun step.before.talk.phase) (not (length step.before.talk.left == 0))) _ (doing_ready t.setting m who step.before _ inv.script.ready (is_doing t inv who n step))).0)

  pub call_left : is_some (next_call step.before.talk) ≡ true
  call_left = by (before_fits t.setting m inv.script.talks who n step).gone step.before.talk.phase refl (before_fits t.setting m inv.script.talks who n step).fits
    where
      busy : is_idle step.before.talk.phase ≡ false
      busy = idle_wants t.setting.terms step.before.talk step.before.talk.phase m.tick step.input (wanted t inv who n step)

      tracks : (track : Track) (one : Call) → Tracked t.setting.terms step.before.request.calls account track → slice_get step.before.request.calls track.call ≡ Some one → is_some (next_call step.before.talk) ≡ true
      tracks track one tracked is =
          ap is_some (sym (next_left t.setting.terms step.before.request.settings step.before.request.calls account step.before.talk track (talk_is t.setting.terms step.before (before_talks t.setting m inv.script.talks who n step) busy) tracked) ∙ is)

      by : (gone : Bool) (p : Phase) → step.before.talk.phase ≡ p → Fits t.setting.terms step.before.request.calls account gone p → is_some (next_call step.before.talk) ≡ true
      by gone (Running state) is fits = tracks state.track fits.0.left.one fits.0.tracked fits.0.left.is
      by gone (Asked asking) is fits = tracks asking.track fits.0.left.one fits.0.tracked fits.0.left.is
      by gone (Replaying state) is fits = tracks state.track fits.0.left.one fits.0.tracked fits.0.left.is
      by gone (Seeking (Some lost)) is fits = tracks lost.track fits.left.one fits.tracked fits.left.is
      by gone (Greeting (Some lost)) is fits = tracks lost.track fits.0.left.one fits.0.tracked fits.0.left.is
      by gone Unbegun is fits = fresh_left (ap is_unbegun is)
      by gone (Queued from) is fits = fresh_left (ap is_unbegun is)
      by gone (Seeking None) is fits = fresh_left (ap is_unbegun is)
      by gone (Greeting None) is fits = fresh_left (ap is_unbegun is)
      by gone Idle is fits = absurd (let never : true ≡ false = sym (ap is_idle is) ∙ busy in let none : ⊥ = cc in none)
