-- A request in course has not failed: a step with an error leaves it idle.
use Rattle.std.proofs.Common.{◌≡◌, refl, ap, ◌∙◌, Bool, true, false, ℕ, ◌+◌, ◌-◌, List, [], ◌∷◌, Option, Some, None, if◌then◌else◌}
use Rattle.std.specs.Prelude.{nat_le, option_and_then}
use Rattle.std.specs.List.{last_or}
use Rattle.svc_values.specs.declared.frame.Up.{Up}
use Rattle.run_clauses.specs.meaning.Reports.{failed_in}
use Rattle.client_model.specs.declared.act.Failed.TheVariants.{Retries, PoolWait}
use Rattle.client_model.specs.declared.act.Hold.{Hold}
use Rattle.client_model.specs.declared.act.Hold.TheVariants as hold
use Rattle.client_model.specs.declared.input.Input.{Input}
use Rattle.client_model.specs.declared.input.Input.TheVariants.{Start, Waiting, Lent, Opened, TryFailed, Took, Gone}
use Rattle.client_model.specs.meaning.Conversation.{Done, Timed, done_at, talk_at}
use Rattle.client_model.specs.Conversation.{talk_after, steps_of}
use Rattle.client_model.specs.meaning.Terms.{Terms, Talk, Phase, Idle, Queued, Seeking, Greeting}
use Rattle.client_model.specs.meaning.Talk.{Step, stands, quiet, fails, with_tried, lost_of, on_hello, on_waiting, waits_from, on_try_failed, takes, talk_step}
use Rattle.world_model.specs.meaning.Clients.{Doing}
use Rattle.world_model.specs.records.Conversing.{Talks, inputs_of, first_talk}
use Rattle.world_model.specs.Words.{dones_of}
use Rattle.invariant_laws.proofs.losses.KeptEvents.{kept_unfailed}
use Rattle.world_model.proofs.Offered.{Spoken, Quiet, SayingFails as Fails, Ends, SayingAsks as Asks, Calls, Marks, has_next, said, said_lent, is_hushed}

abbrev pub is_idle : Phase → Bool
is_idle Idle = true
is_idle _ = false

-- ONE STEP ----------------------------------------------------------------------------------------

spoken_keeps : (before : Phase) (left alive hushed : Bool) (phase : Phase) (send : List Up) (held : Hold) → Spoken before left alive hushed phase send held → is_idle phase ≡ false → held ≡ hold.Keep
spoken_keeps before left alive hushed phase _ _ (Quiet _ hush stays) runs = refl
spoken_keeps before left alive hushed _ _ _ Fails runs = absurd (let none : ⊥ = cc in none)
spoken_keeps before left alive hushed _ _ _ (Ends may) runs = absurd (let none : ⊥ = cc in none)
spoken_keeps before left alive hushed _ _ _ (Asks opens may asking) runs = refl
spoken_keeps before left alive hushed _ _ _ (Calls opens settings call state) runs = refl
spoken_keeps before left alive hushed _ _ _ (Marks opens may settings one state is plain) runs = refl

waited_keeps : (terms : Terms) (talk : Talk) (from now : ℕ) → is_idle (on_waiting terms talk from now).0.phase ≡ false → (on_waiting terms talk from now).1.hold ≡ hold.Keep
waited_keeps terms talk from now = by (nat_le terms.limits.wait (now - from))
  where
    by : (long : Bool) → is_idle (if long then fails talk false None (PoolWait from now) else (stands talk (Queued (Some from)), quiet)).0.phase ≡ false
        → (if long then fails talk false None (PoolWait from now) else (stands talk (Queued (Some from)), quiet)).1.hold ≡ hold.Keep
    by true runs = absurd (let none : ⊥ = cc in none)
    by false runs = refl

tried_keeps : (terms : Terms) (talk : Talk) (now : ℕ) → is_idle (on_try_failed terms talk now).0.phase ≡ false → (on_try_failed terms talk now).1.hold ≡ hold.Keep
tried_keeps terms talk now = by (nat_le terms.limits.retries (talk.tries + 1))
  where
    by : (many : Bool) → is_idle (if many then fails (with_tried talk now) false None (Retries (talk.tries + 1)) else (stands (with_tried talk now) (Seeking (lost_of talk.phase)), quiet)).0.phase ≡ false
        → (if many then fails (with_tried talk now) false None (Retries (talk.tries + 1)) else (stands (with_tried talk now) (Seeking (lost_of talk.phase)), quiet)).1.hold ≡ hold.Keep
    by true runs = absurd (let none : ⊥ = cc in none)
    by false runs = refl

runs_keeps : (terms : Terms) (talk : Talk) (input : Input) (now : ℕ) → is_idle (talk_step terms talk input now).0.phase ≡ false → (talk_step terms talk input now).1.hold ≡ hold.Keep
runs_keeps terms talk Start now runs = refl
runs_keeps terms talk Waiting now runs = waited_keeps terms talk (waits_from talk.phase now) now runs
runs_keeps terms talk (Lent connection x) now runs =
    let step : Step = on_hello terms talk None x true now in spoken_keeps (Greeting None) (has_next talk) true false step.0.phase step.1.send step.1.hold (said_lent terms talk x now) runs
runs_keeps terms talk (Opened connection) now runs = refl
runs_keeps terms talk TryFailed now runs = tried_keeps terms talk now runs
runs_keeps terms talk (Took frame alive) now runs =
    let step : Step = takes terms talk talk.phase frame alive now in
    spoken_keeps talk.phase (has_next talk) alive (is_hushed frame) step.0.phase step.1.send step.1.hold (said terms talk talk.phase frame alive now refl) runs
runs_keeps terms talk (Gone event) now runs = refl

-- ALL STEPS ---------------------------------------------------------------------------------------

unfailed : (terms : Terms) (inputs : List Timed) (talk : Talk) (found : Option Done) → (is_idle talk.phase ≡ false → option_and_then (λ (done : Done). done.act.failed) found ≡ None) → is_idle (talk_after terms talk inputs).phase ≡ false
    → option_and_then (λ (done : Done). done.act.failed) (last_or found (steps_of terms talk inputs)) ≡ None
unfailed terms [] talk found so running = so running
unfailed terms (one ∷ inputs) talk found so running =
    unfailed terms inputs (talk_at terms talk one) (Some (done_at terms talk one)) (λ runs. kept_unfailed terms talk one.0 one.1 (runs_keeps terms talk one.0 one.1 runs)) running

pub running_unfailed : (terms : Terms) (due : Bool) (doing : Doing) → Talks terms due doing → is_idle doing.talk.phase ≡ false → failed_in (dones_of doing.steps) ≡ None
running_unfailed terms due doing talks running =
    ap failed_in talks.converses.acts
    ∙ unfailed terms (inputs_of doing.steps) (first_talk doing.request) None (λ runs. refl) (ap (λ (talk : Talk). is_idle talk.phase) talks.stands ∙ running)
