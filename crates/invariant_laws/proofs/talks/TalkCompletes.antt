-- Where an outcome says committed and completed, the lost call is shown with that one answer.
use Rattle.std.proofs.Common.{◌≡◌, ap, ◌∙◌, Bool, true, ℕ, [], ◌∷◌, Option, Some}
use Rattle.svc_values.specs.declared.answer.Answer.TheVariants as answer
use Rattle.svc_values.specs.declared.call.Call.{Call}
use Rattle.svc_values.specs.declared.frame.Down.TheVariants as down
use Rattle.client_model.specs.declared.act.Shown.{Shown}
use Rattle.client_model.specs.declared.input.Input.TheVariants.{Took}
use Rattle.client_model.specs.meaning.States.{Asking, Living, resumed}
use Rattle.client_model.specs.meaning.Talk.{talk_shown, with_shown, on_completed, takes, next_call, talk_step}
use Rattle.client_model.specs.meaning.Terms.{Terms, Talk, Phase, Asked}
use Rattle.client_model.specs.meaning.Told.{completed_on}
use Rattle.invariant_laws.proofs.talks.TalkShows.{behind_shows}

-- that it is committed is all that is known of its answers
abbrev pub completed_as : Asking → Shown
completed_as asking = record { answers = answer.Committed ∷ []; draws = []; ltxid = asking.fresh }

pub completed_shows : (terms : Terms) (talk : Talk) (asking : Asking) (alive : Bool) (now : ℕ) (call : Call) → talk.phase ≡ Asked asking → next_call talk ≡ Some call
    → (talk_step terms talk (Took (down.OutcomeIs true true) alive) now).1.shown ≡ Some (completed_as asking)
completed_shows terms talk asking alive now call phase next =
    let state : Living = resumed (completed_on asking) in
    let after : Talk = talk_shown terms talk call (answer.Committed ∷ []) in
    ap (λ (p : Phase). (takes terms talk p (down.OutcomeIs true true) alive now).1.shown) phase
    ∙ (ap (λ (one : Option Call). (on_completed terms talk state asking.event alive now one).1.shown) next
    ∙ behind_shows terms after (record state { track = with_shown terms state.track call (answer.Committed ∷ []) [] }) asking.event alive (completed_as asking) now (next_call after))
