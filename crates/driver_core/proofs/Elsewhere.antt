-- What a frame does in each phase.
use Rattle.std.proofs.Common.{◌≡◌, ℕ, Bool, List, Option, Result, Ok, Err, IfOk, refl, sym, ap, ◌∙◌}
use Rattle.svc_values.specs.declared.answer.Answer.{Answer}
use Rattle.svc_values.specs.declared.draw.Draw.{Draw}
use Rattle.svc_values.specs.declared.entry.Ltxid.{Ltxid}
use Rattle.svc_values.specs.declared.frame.Ahead.{Ahead}
use Rattle.svc_values.specs.declared.frame.Ahead.TheVariants as ahead
use Rattle.svc_values.specs.declared.frame.Down.{Down}
use Rattle.svc_values.specs.declared.frame.Down.TheVariants as down
use Rattle.svc_values.specs.declared.memory.NoMemory.{NoMemory}
use Rattle.client_model.specs.meaning.Terms.{Terms, Talk}
use Rattle.client_model.specs.meaning.Terms as plain
use Rattle.client_model.specs.meaning.States.{next_of}
use Rattle.client_model.specs.meaning.Talk.{Step, next_call, on_reply, on_repeated, bad_peer, takes}
use Rattle.replay_core.specs.declared.asked.Asked.{Asked}
use Rattle.replay_core.specs.declared.live.Live.{Live}
use Rattle.replay_core.specs.declared.lost.Lost.{Lost}
use Rattle.replay_core.specs.declared.replaying.Replaying.{Replaying}
use Rattle.driver_core.specs.declared.phase.Phase.{Phase}
use Rattle.driver_core.specs.declared.phase.Phase.TheVariants as phase
use Rattle.driver_core.specs.declared.request.Request.{Request}
use Rattle.driver_core.specs.declared.turn.Turn.{Turn}
use Rattle.driver_core.specs.Talking.{phase_of, talk_of, rest_of, step_in}

-- what a turn is, told in other words
pub told_as : (result : Result Turn NoMemory) (talk : Talk) (a b : Step) → b ≡ a → IfOk result (λ turn. step_in talk turn ≡ a) → IfOk result (λ turn. step_in talk turn ≡ b)
told_as (Ok turn) talk a b e is = is ∙ sym e
told_as (Err fault) talk a b e is = tt

module _ (terms : Terms) (request : Request) (alive : Bool) (now : ℕ) where
  -- the arms, in their phases; what the conversation's phase was does not count
  pub running_takes : (here : Phase) (live : Live) (frame : Down) (answers : List Answer) (draws : List Draw) (ltxid : Ltxid)
      → here ≡ phase.Running live → frame ≡ down.Reply answers draws ltxid
      → takes terms (talk_of request (phase_of here)) (phase_of here) frame alive now ≡ on_reply terms (rest_of request) live answers draws ltxid alive now (next_call (rest_of request))
  running_takes here live frame answers draws ltxid is-phase is-frame =
      ap (λ p. takes terms (talk_of request (phase_of p)) (phase_of p) frame alive now) is-phase
      ∙ ap (λ f. takes terms (talk_of request (plain.Running live)) (plain.Running live) f alive now) is-frame

  pub replaying_takes : (here : Phase) (replaying : Replaying) (frame : Down) (answers : List Answer) (draws : List Draw) (ltxid : Ltxid)
      → here ≡ phase.Replaying replaying → frame ≡ down.Reply answers draws ltxid
      → takes terms (talk_of request (phase_of here)) (phase_of here) frame alive now ≡ on_repeated terms (rest_of request) replaying answers draws ltxid alive now (next_of replaying)
  replaying_takes here replaying frame answers draws ltxid is-phase is-frame =
      ap (λ p. takes terms (talk_of request (phase_of p)) (phase_of p) frame alive now) is-phase
      ∙ ap (λ f. takes terms (talk_of request (plain.Replaying replaying)) (plain.Replaying replaying) f alive now) is-frame

  -- and what fails elsewhere
  pub hello_elsewhere : (here : Phase) (frame : Down) (ltxid : Ltxid) → ((lost : Option Lost) → here ≡ phase.Greeting lost → ⊥) → frame ≡ down.Hello ltxid
      → takes terms (talk_of request (phase_of here)) (phase_of here) frame alive now ≡ bad_peer (rest_of request) alive frame
  hello_elsewhere here frame ltxid never is = ap (λ f. takes terms (talk_of request (phase_of here)) (phase_of here) f alive now) is ∙ by here never ∙ ap (bad_peer (rest_of request) alive) (sym is)
    where
      by : (here : Phase) → ((lost : Option Lost) → here ≡ phase.Greeting lost → ⊥)
          → takes terms (talk_of request (phase_of here)) (phase_of here) (down.Hello ltxid) alive now ≡ bad_peer (rest_of request) alive (down.Hello ltxid)
      by phase.Idle never = refl
      by phase.Unbegun never = refl
      by (phase.Queued from) never = refl
      by (phase.Seeking lost) never = refl
      by (phase.Greeting lost) never = absurd (never lost refl)
      by (phase.Asked asked) never = refl
      by (phase.Running live) never = refl
      by (phase.Replaying replaying) never = refl

  pub outcome_elsewhere : (here : Phase) (frame : Down) (committed completed : Bool) → ((asked : Asked) → here ≡ phase.Asked asked → ⊥) → frame ≡ down.OutcomeIs committed completed
      → takes terms (talk_of request (phase_of here)) (phase_of here) frame alive now ≡ bad_peer (rest_of request) alive frame
  outcome_elsewhere here frame committed completed never is = ap (λ f. takes terms (talk_of request (phase_of here)) (phase_of here) f alive now) is ∙ by here never ∙ ap (bad_peer (rest_of request) alive) (sym is)
    where
      by : (here : Phase) → ((asked : Asked) → here ≡ phase.Asked asked → ⊥)
          → takes terms (talk_of request (phase_of here)) (phase_of here) (down.OutcomeIs committed completed) alive now ≡ bad_peer (rest_of request) alive (down.OutcomeIs committed completed)
      by phase.Idle never = refl
      by phase.Unbegun never = refl
      by (phase.Queued from) never = refl
      by (phase.Seeking lost) never = refl
      by (phase.Greeting lost) never = refl
      by (phase.Asked asked) never = absurd (never asked refl)
      by (phase.Running live) never = refl
      by (phase.Replaying replaying) never = refl

  pub reply_elsewhere : (here : Phase) (frame : Down) (answers : List Answer) (draws : List Draw) (ltxid : Ltxid)
      → ((live : Live) → here ≡ phase.Running live → ⊥) → ((replaying : Replaying) → here ≡ phase.Replaying replaying → ⊥) → frame ≡ down.Reply answers draws ltxid
      → takes terms (talk_of request (phase_of here)) (phase_of here) frame alive now ≡ bad_peer (rest_of request) alive frame
  reply_elsewhere here frame answers draws ltxid not_running not_replaying is =
      ap (λ f. takes terms (talk_of request (phase_of here)) (phase_of here) f alive now) is ∙ by here not_running not_replaying ∙ ap (bad_peer (rest_of request) alive) (sym is)
    where
      by : (here : Phase) → ((live : Live) → here ≡ phase.Running live → ⊥) → ((replaying : Replaying) → here ≡ phase.Replaying replaying → ⊥)
          → takes terms (talk_of request (phase_of here)) (phase_of here) (down.Reply answers draws ltxid) alive now ≡ bad_peer (rest_of request) alive (down.Reply answers draws ltxid)
      by phase.Idle p q = refl
      by phase.Unbegun p q = refl
      by (phase.Queued from) p q = refl
      by (phase.Seeking lost) p q = refl
      by (phase.Greeting lost) p q = refl
      by (phase.Asked asked) p q = refl
      by (phase.Running live) p q = absurd (p live refl)
      by (phase.Replaying replaying) p q = absurd (q replaying refl)

  pub refusal_elsewhere : (here : Phase) (frame : Down) (who : Ahead) (next : ℕ) → ((asked : Asked) → here ≡ phase.Asked asked → ⊥) → frame ≡ down.OutcomeRefused who next
      → takes terms (talk_of request (phase_of here)) (phase_of here) frame alive now ≡ bad_peer (rest_of request) alive frame
  refusal_elsewhere here frame who next never is = ap (λ f. takes terms (talk_of request (phase_of here)) (phase_of here) f alive now) is ∙ by here never ∙ ap (bad_peer (rest_of request) alive) (sym is)
    where
      by : (here : Phase) → ((asked : Asked) → here ≡ phase.Asked asked → ⊥)
          → takes terms (talk_of request (phase_of here)) (phase_of here) (down.OutcomeRefused who next) alive now ≡ bad_peer (rest_of request) alive (down.OutcomeRefused who next)
      by phase.Idle never = refl
      by phase.Unbegun never = refl
      by (phase.Queued from) never = refl
      by (phase.Seeking lost) never = refl
      by (phase.Greeting lost) never = refl
      by (phase.Asked asked) never = absurd (never asked refl)
      by (phase.Running live) never = refl
      by (phase.Replaying replaying) never = refl

  -- the outcome is refused
  pub refused_takes : (here : Phase) (asked : Asked) (frame : Down) → here ≡ phase.Asked asked
      → takes terms (talk_of request (phase_of here)) (phase_of here) frame alive now ≡ takes terms (talk_of request (phase_of here)) (plain.Asked asked) frame alive now
  refused_takes here asked frame is-phase = ap (λ p. takes terms (talk_of request (phase_of here)) (phase_of p) frame alive now) is-phase

-- the server and the client are not at one
pub apart_takes : (terms : Terms) (talk : Talk) (asked : Asked) (frame : Down) (alive : Bool) (now : ℕ) (who : Ahead) (next : ℕ) → (who ≡ ahead.Forgotten → ⊥) → frame ≡ down.OutcomeRefused who next
    → takes terms talk (plain.Asked asked) frame alive now ≡ bad_peer talk alive frame
apart_takes terms talk asked frame alive now who next never is = ap (λ f. takes terms talk (plain.Asked asked) f alive now) is ∙ by who never ∙ ap (bad_peer talk alive) (sym is)
  where
    by : (who : Ahead) → (who ≡ ahead.Forgotten → ⊥) → takes terms talk (plain.Asked asked) (down.OutcomeRefused who next) alive now ≡ bad_peer talk alive (down.OutcomeRefused who next)
    by ahead.Server never = refl
    by ahead.Client never = refl
    by ahead.Forgotten never = absurd (never refl)
