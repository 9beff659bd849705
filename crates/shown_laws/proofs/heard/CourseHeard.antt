-- Where a request in course stands, and the frame that it sent last.
use Rattle.std.proofs.Common.{◌≡◌, refl, sym, ap, subst, ◌∙◌, Bool, true, false, ℕ, ◌&&◌, ◌||◌, List, [], ◌∷◌, Option, Some, None}
use Rattle.std.specs.Prelude.{not, fold, slice_get}
use Rattle.svc_values.specs.declared.call.Call.{Call}
use Rattle.svc_values.specs.declared.frame.Down.TheVariants as down
use Rattle.svc_values.specs.declared.frame.Up.{Up}
use Rattle.svc_values.specs.declared.frame.Up.TheVariants as up
use Rattle.client_model.specs.declared.act.Shown.{Shown}
use Rattle.client_model.specs.declared.input.Input.{Input}
use Rattle.client_model.specs.declared.input.Input.TheVariants.{Start, Waiting, Lent, Opened, TryFailed, Took, Gone}
use Rattle.client_model.specs.meaning.Account.{Account, hears, hears_outcome, shows, shows_found, sends, before_sends, after_step}
use Rattle.client_model.specs.meaning.Conversation.{Timed, Done, done_at, talk_at}
use Rattle.client_model.specs.Conversation.{steps_of, talk_after, is_gone, is_gone_next, is_wanted, MayCome}
use Rattle.client_model.specs.meaning.Talk.{wants_of}
use Rattle.client_model.specs.meaning.Terms.{Terms, Talk}
use Rattle.world_model.specs.records.Conversing.{gone_due}
use Rattle.shown_laws.proofs.heard.LastSent.{last_sent, AwaitsIn, step_awaits}

-- THE LAST FRAME ----------------------------------------------------------------------------------

module _ (terms : Terms) (calls : List Call) where
  outcome_last : (a : Account) (committed completed : Bool) (last : Option Up) → (hears_outcome a committed completed last).last ≡ a.last
  outcome_last a committed completed None = refl
  outcome_last a committed completed (Some (up.Outcome x)) = refl
  outcome_last a committed completed (Some up.Connect) = refl
  outcome_last a committed completed (Some (up.Begin settings)) = refl
  outcome_last a committed completed (Some (up.Call mark kept call)) = refl
  outcome_last a committed completed (Some up.End) = refl
  outcome_last a committed completed (Some up.Close) = refl

  hears_last : (a : Account) (input : Input) (now : ℕ) (shown : Option Shown) → (hears terms a input now shown).last ≡ a.last
  hears_last a Start now shown = refl
  hears_last a Waiting now shown = refl
  hears_last a (Lent connection x) now shown = refl
  hears_last a (Opened connection) now shown = refl
  hears_last a TryFailed now shown = refl
  hears_last a (Took (down.Hello x) alive) now shown = refl
  hears_last a (Took (down.OutcomeIs committed completed) alive) now shown = outcome_last a committed completed a.last
  hears_last a (Took (down.OutcomeRefused why next) alive) now shown = refl
  hears_last a (Took (down.Reply answers draws x) alive) now None = refl
  hears_last a (Took (down.Reply answers draws x) alive) now (Some one) = refl
  hears_last a (Took down.Blocked alive) now shown = refl
  hears_last a (Took (down.Refused cause) alive) now shown = refl
  hears_last a (Gone event) now shown = refl

  shows_last : (a : Account) (shown : Option Shown) → (shows terms calls a shown).last ≡ a.last
  shows_last a None = refl
  shows_last a (Some one) = by (slice_get calls _)
    where
      by : (call : Option Call) → (shows_found terms a one call).last ≡ a.last
      by None = refl
      by (Some call) = refl

  sends_last : (now : ℕ) (frames : List Up) (a : Account) → (fold (sends terms now) a frames).last ≡ last_sent a.last frames
  sends_last now [] a = refl
  sends_last now (frame ∷ frames) a = sends_last now frames (sends terms now a frame)

  after_last : (a : Account) (done : Done) → (after_step terms calls a done).last ≡ last_sent a.last done.act.send
  after_last a done =
      sends_last done.now done.act.send (before_sends terms calls a done)
      ∙ ap (λ (last : Option Up). last_sent last done.act.send) (shows_last (hears terms a done.input done.now done.act.shown) done.act.shown ∙ hears_last a done.input done.now done.act.shown)

  -- WHAT IS AWAITED -------------------------------------------------------------------------------

  on_time : (due gone wanted : Bool) → (wanted && (gone || not due)) ≡ true → gone ≡ false → due ≡ false
  on_time due gone true may none = by due gone may none
    where
      by : (due gone : Bool) → (gone || not due) ≡ true → gone ≡ false → due ≡ false
      by false gone may none = refl
      by true true may none = absurd (let no : ⊥ = cc in no)
      by true false may none = absurd (let no : ⊥ = cc in no)
  on_time due gone false may none = absurd (let no : ⊥ = cc in no)

  -- Behind inputs each of which may come, a frame that is awaited answers the one that was sent
  -- last.
  pub awaits_behind : (inputs : List Timed) (a : Account) (due : Bool) (talk : Talk) → (due ≡ false → AwaitsIn talk a.last talk.phase) → MayCome terms talk due inputs → gone_due terms talk due inputs ≡ false
      → AwaitsIn (talk_after terms talk inputs) (fold (after_step terms calls) a (steps_of terms talk inputs)).last (talk_after terms talk inputs).phase
  awaits_behind [] a due talk was may none = was none
  awaits_behind (one ∷ inputs) a due talk was may none =
      awaits_behind inputs (after_step terms calls a (done_at terms talk one)) (is_gone_next one.0 (done_at terms talk one).act.hold) (talk_at terms talk one)
      (λ left. subst (λ (last : Option Up). AwaitsIn (talk_at terms talk one) last (talk_at terms talk one).phase) (sym (after_last a (done_at terms talk one)))
      (step_awaits terms talk one.0 one.1 a.last (λ stays. was (on_time due (is_gone one.0) (is_wanted (wants_of terms talk one.1) one.0) may.0 stays)) left))
      may.1 none
