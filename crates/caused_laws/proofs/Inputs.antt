-- Each input that a request may get, in each phase.
use Rattle.std.proofs.Common.{◌≡◌, ◌≢◌, ℕ, ◌+◌, ◌≤◌, Bool, true, false, List, [], ◌∷◌, length, Option, Some, None, if◌then◌else◌, refl, sym, ap, subst, ◌∙◌, nat_le}
use Rattle.std.specs.Prelude.{slice_get}
use Rattle.svc_values.specs.declared.answer.Answer.{Answer}
use Rattle.svc_values.specs.declared.call.Call.{Call}
use Rattle.svc_values.specs.declared.entry.Ltxid.{Ltxid}
use Rattle.svc_values.specs.declared.frame.Up.TheVariants as up
use Rattle.request_bounds.specs.meaning.Limits.{has_waited}
use Rattle.request_bounds.specs.meaning.Rules.{Rules}
use Rattle.outage_schedule.specs.declared.document.Request.{Request}
use Rattle.outage_schedule.specs.declared.document.ServiceOf.{ServiceOf}
use Rattle.outage_schedule.specs.declared.note.GoNote.TheVariants as go
use Rattle.outage_schedule.specs.declared.request.RequestReport.{RequestReport}
use Rattle.client_model.specs.meaning.States.{Losing}
use Rattle.client_model.specs.declared.act.Failed.TheVariants as failed
use Rattle.client_model.specs.declared.input.Input.{Input}
use Rattle.client_model.specs.declared.input.Input.TheVariants.{Start, Waiting, Lent, Opened, TryFailed, Took, Gone}
use Rattle.client_model.specs.declared.input.Wants.{Wants}
use Rattle.client_model.specs.declared.input.Wants.TheVariants as wants
use Rattle.client_model.specs.meaning.Terms.{Terms, Talk, Phase, Idle, Unbegun, Queued, Seeking, Greeting, Asked, Running, Replaying}
use Rattle.client_model.specs.meaning.Talk.{stands as with_phase, quiet, sending, fails, lost_of, on_waiting, talk_step, waits_from, wants_in, with_tried}
use Rattle.client_model.specs.Conversation.{is_wanted}
use Rattle.client_model.specs.meaning.Account.{Account}
use Rattle.client_model.specs.Reasons.{rules_of}
use Rattle.client_model.proofs.Offered.{Fits, IsTalk}
use Rattle.shown_clauses.specs.meaning.Steps.{Step}
use Rattle.caused_laws.specs.ServiceTerms.{kind_of}
use Rattle.caused_laws.proofs.FactsKnown.{terms_by}
use Rattle.caused_laws.proofs.Frames.{first_of}
use Rattle.caused_laws.proofs.Losing.{is_connected, early_comes}
use Rattle.caused_laws.proofs.Replying.{slice-drop}
use Rattle.caused_laws.proofs.Slots.{made, waiting_comes, lent_comes, opened_comes, tried_comes}
use Rattle.caused_laws.proofs.Standing.{SoFar, IsAt, Stands, Comes, ComesBy}

-- what a request that seeks a connection may be given
abbrev is_try : Input → Bool
is_try (Opened connection) = true
is_try TryFailed = true
is_try _ = false

seeks : (b : Bool) (input : Input) → is_wanted (if b then wants.Try else wants.Early) input ≡ true → is_try input ≡ true
seeks true Start w = w
seeks true Waiting w = w
seeks true (Lent connection x) w = w
seeks true (Opened connection) w = refl
seeks true TryFailed w = refl
seeks true (Took frame alive) w = w
seeks true (Gone event) w = w
seeks false input w = absurd (let none : ⊥ = cc in none)

abbrev is_frame : Wants → Bool
is_frame wants.Frame = true
is_frame _ = false

abbrev is_early : Wants → Bool
is_early wants.Early = true
is_early _ = false

never_frame : (b : Bool) → is_frame (if b then wants.Try else wants.Early) ≡ false
never_frame true = refl
never_frame false = refl

module _ (service : ServiceOf) (rules : Rules) (told : List Answer → List ℕ) (ruled : rules ≡ rules_of (kind_of service.failover service.consistency)) (request : Request) (copy : RequestReport) (some : request.calls ≢ []) (tried : 1 ≤ service.retries) where
  abbrev terms : Terms
  terms = terms_by service rules told

  module _ (s : SoFar) (step : Step) (a : Account) (talk : Talk) where
    -- CONNECTED
    -- a request that awaits a frame has a connection
    frame_at : (phase : Phase) → is_frame (wants_in terms talk phase step.tick) ≡ true → is_connected phase ≡ true
    frame_at Idle w = absurd (let none : ⊥ = cc in none)
    frame_at Unbegun w = absurd (let none : ⊥ = cc in none)
    frame_at (Queued from) w = absurd (let none : ⊥ = cc in none)
    frame_at (Seeking lost) w = absurd (let never : is_frame (if has_waited talk.last_try step.tick service.delay then wants.Try else wants.Early) ≡ false = never_frame (has_waited talk.last_try step.tick service.delay) in let none : ⊥ = cc in none)
    frame_at (Greeting lost) w = refl
    frame_at (Asked state) w = refl
    frame_at (Running state) w = refl
    frame_at (Replaying state) w = refl

    pub frame_wanted : wants_in terms talk talk.phase step.tick ≡ wants.Frame → is_connected talk.phase ≡ true
    frame_wanted is = frame_at talk.phase (ap is_frame is)

    -- a frame comes, or the loss
    pub taken_at : (input : Input) → is_try input ≡ false → (phase : Phase) → is_wanted (wants_in terms talk phase step.tick) input ≡ true → (is_wanted wants.Frame input ≡ true) → is_connected phase ≡ true
    taken_at input not_try Idle w is = absurd (let none : ⊥ = cc in none)
    taken_at input not_try Unbegun w is = absurd (only_start input w is)
      where
        only_start : (i : Input) → is_wanted wants.Request i ≡ true → is_wanted wants.Frame i ≡ true → ⊥
        only_start Start v u = let none : ⊥ = cc in none
        only_start Waiting v u = let none : ⊥ = cc in none
        only_start (Lent connection x) v u = let none : ⊥ = cc in none
        only_start (Opened connection) v u = let none : ⊥ = cc in none
        only_start TryFailed v u = let none : ⊥ = cc in none
        only_start (Took frame alive) v u = let none : ⊥ = cc in none
        only_start (Gone event) v u = let none : ⊥ = cc in none
    taken_at input not_try (Queued from) w is = absurd (no_slot input w is)
      where
        no_slot : (i : Input) → is_wanted wants.Slot i ≡ true → is_wanted wants.Frame i ≡ true → ⊥
        no_slot Start v u = let none : ⊥ = cc in none
        no_slot Waiting v u = let none : ⊥ = cc in none
        no_slot (Lent connection x) v u = let none : ⊥ = cc in none
        no_slot (Opened connection) v u = let none : ⊥ = cc in none
        no_slot TryFailed v u = let none : ⊥ = cc in none
        no_slot (Took frame alive) v u = let none : ⊥ = cc in none
        no_slot (Gone event) v u = let none : ⊥ = cc in none
    taken_at input not_try (Seeking lost) w is = absurd (let never : is_try input ≡ true = seeks (has_waited talk.last_try step.tick service.delay) input w in let none : ⊥ = cc in none)
    taken_at input not_try (Greeting lost) w is = refl
    taken_at input not_try (Asked state) w is = refl
    taken_at input not_try (Running state) w is = refl
    taken_at input not_try (Replaying state) w is = refl

    -- EARLY
    module _ (due : Bool) where
      early_by : (phase : Phase) → is_early (wants_in terms talk phase step.tick) ≡ true → Stands service rules told ruled request copy a phase due s → Comes service rules told ruled request copy a phase due s (made step go.Early None)
      early_by (Seeking lost) w stands = early_comes service rules told ruled request copy a s step lost due stands
      early_by _ w stands = absurd (let none : ⊥ = cc in none)

      pub early_wanted : wants_in terms talk talk.phase step.tick ≡ wants.Early → Stands service rules told ruled request copy a talk.phase due s → Comes service rules told ruled request copy a talk.phase due s (made step go.Early None)
      early_wanted is stands = early_by talk.phase (ap is_early is) stands

      -- SLOTS AND TRIES
      module _ (stands : Stands service rules told ruled request copy a talk.phase due s) (g : Bool) (fits : Fits terms request.calls a g talk.phase) (talks : IsTalk terms request.settings request.calls a talk) where
        at_phase : (phase : Phase) → talk.phase ≡ phase → IsAt service phase a.reason a.tries s
        at_phase phase is = subst (λ p. IsAt service p a.reason a.tries s) is stands.at

        fits_phase : (phase : Phase) → talk.phase ≡ phase → Fits terms request.calls a g phase
        fits_phase phase is = subst (λ p. Fits terms request.calls a g p) is fits

        waiting_by : (phase : Phase) → talk.phase ≡ phase → is_wanted (wants_in terms talk phase step.tick) Waiting ≡ true
            → ComesBy service rules told ruled request copy a Waiting s (made step go.Wait None) (talk_step terms talk Waiting step.tick)
        waiting_by (Queued from) is w answered =
            subst (λ n. ComesBy service rules told ruled request copy a Waiting s (made step go.Wait None) (on_waiting terms talk n step.tick)) (sym (ap (λ p. waits_from p step.tick) is))
            (waiting_comes service rules told ruled request copy s step a talk stands.knows from (at_phase (Queued from) is)) answered
        waiting_by (Seeking lost) is w answered = absurd (let never : is_try Waiting ≡ true = seeks (has_waited talk.last_try step.tick service.delay) Waiting w in let none : ⊥ = cc in none)
        waiting_by _ is w answered = absurd (let none : ⊥ = cc in none)

        pub waiting_wanted : is_wanted (wants_in terms talk talk.phase step.tick) Waiting ≡ true → ComesBy service rules told ruled request copy a Waiting s (made step go.Wait None) (talk_step terms talk Waiting step.tick)
        waiting_wanted w = waiting_by talk.phase refl w

        lent_by : (connection : ℕ) (x : Ltxid) (phase : Phase) → talk.phase ≡ phase → is_wanted (wants_in terms talk phase step.tick) (Lent connection x) ≡ true
            → ComesBy service rules told ruled request copy a (Lent connection x) s (made step (go.Lent connection) None) (talk_step terms talk (Lent connection x) step.tick)
        lent_by connection x (Queued from) is w answered =
            let none_shown : a.shown ≡ [] = (fits_phase (Queued from) is).0.shown in
            let first : (one : Call) × (slice_get request.calls 0 ≡ Some one) = first_of request.calls some in
            let there : slice_get request.calls (length a.shown) ≡ Some first.0 = ap (slice_get request.calls) (ap length none_shown) ∙ first.1 in
            lent_comes service rules told ruled request copy s step a talk stands.knows from (at_phase (Queued from) is) connection x first.0 none_shown there
            (ap (λ l. slice_get l 0) talks.left_are ∙ slice-drop request.calls (length a.shown) ∙ there) answered
        lent_by connection x (Seeking lost) is w answered = absurd (let never : is_try (Lent connection x) ≡ true = seeks (has_waited talk.last_try step.tick service.delay) (Lent connection x) w in let none : ⊥ = cc in none)
        lent_by connection x _ is w answered = absurd (let none : ⊥ = cc in none)

        pub lent_wanted : (connection : ℕ) (x : Ltxid) → is_wanted (wants_in terms talk talk.phase step.tick) (Lent connection x) ≡ true
            → ComesBy service rules told ruled request copy a (Lent connection x) s (made step (go.Lent connection) None) (talk_step terms talk (Lent connection x) step.tick)
        lent_wanted connection x w = lent_by connection x talk.phase refl w

        opened_so : (connection : ℕ) (lost : Option Losing) → lost_of talk.phase ≡ lost → IsAt service (Seeking lost) a.reason a.tries s
            → ComesBy service rules told ruled request copy a (Opened connection) s (made step (go.Open connection) None) (talk_step terms talk (Opened connection) step.tick)
        opened_so connection lost is at =
            subst (λ l. ComesBy service rules told ruled request copy a (Opened connection) s (made step (go.Open connection) None) (record talk { tries = 0; phase = Greeting l }, sending (up.Connect ∷ []))) (sym is)
            (opened_comes service rules told ruled request copy s step a talk stands.knows connection lost at)

        opened_by : (connection : ℕ) (phase : Phase) → talk.phase ≡ phase → is_wanted (wants_in terms talk phase step.tick) (Opened connection) ≡ true
            → ComesBy service rules told ruled request copy a (Opened connection) s (made step (go.Open connection) None) (talk_step terms talk (Opened connection) step.tick)
        opened_by connection (Queued from) is w answered = opened_so connection None (ap lost_of is) (at_phase (Queued from) is).2 answered
        opened_by connection (Seeking lost) is w answered = opened_so connection lost (ap lost_of is) (at_phase (Seeking lost) is) answered
        opened_by connection _ is w answered = absurd (let none : ⊥ = cc in none)

        pub opened_wanted : (connection : ℕ) → is_wanted (wants_in terms talk talk.phase step.tick) (Opened connection) ≡ true
            → ComesBy service rules told ruled request copy a (Opened connection) s (made step (go.Open connection) None) (talk_step terms talk (Opened connection) step.tick)
        opened_wanted connection w = opened_by connection talk.phase refl w

        tried_so : (lost : Option Losing) → lost_of talk.phase ≡ lost → IsAt service (Seeking lost) a.reason a.tries s
            → ComesBy service rules told ruled request copy a TryFailed s (made step go.Down None) (talk_step terms talk TryFailed step.tick)
        tried_so lost is at =
            subst (λ l. ComesBy service rules told ruled request copy a TryFailed s (made step go.Down None)
            (if nat_le service.retries (talk.tries + 1) then fails (with_tried talk step.tick) false None (failed.Retries (talk.tries + 1)) else (with_phase (with_tried talk step.tick) (Seeking l), quiet))) (sym is)
            (tried_comes service rules told ruled request copy s step a talk stands.knows lost at talks.tries_are (talks.few_tries tried))

        tried_by : (phase : Phase) → talk.phase ≡ phase → is_wanted (wants_in terms talk phase step.tick) TryFailed ≡ true
            → ComesBy service rules told ruled request copy a TryFailed s (made step go.Down None) (talk_step terms talk TryFailed step.tick)
        tried_by (Queued from) is w answered = tried_so None (ap lost_of is) (at_phase (Queued from) is).2 answered
        tried_by (Seeking lost) is w answered = tried_so lost (ap lost_of is) (at_phase (Seeking lost) is) answered
        tried_by _ is w answered = absurd (let none : ⊥ = cc in none)

        pub tried_wanted : is_wanted (wants_in terms talk talk.phase step.tick) TryFailed ≡ true → ComesBy service rules told ruled request copy a TryFailed s (made step go.Down None) (talk_step terms talk TryFailed step.tick)
        tried_wanted w = tried_by talk.phase refl w
