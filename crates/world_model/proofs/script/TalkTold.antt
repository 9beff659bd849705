-- A request that sent a Begin, or asks for an outcome, was told an identifier; and what the scan of
-- its steps says of it.
use Rattle.std.proofs.Common.{◌≡◌, refl, sym, ap, subst, ◌∙◌, Bool, true, false, ℕ, ◌+◌, ◌-◌, cond, fold, List, [], ◌∷◌, Option, Some, None, if◌then◌else◌}
use Rattle.std.specs.Prelude.{nat_le, not, ◌||◌, is_some}
use Rattle.std.specs.Option.{option_or, option_map_or}
use Rattle.std.proofs.lemmas.Bool.{and_parts, or_right}
use Rattle.svc_values.specs.declared.entry.Ltxid.{Ltxid}
use Rattle.svc_values.specs.declared.frame.Down.{Down}
use Rattle.svc_values.specs.declared.frame.Down.TheVariants as down
use Rattle.client_model.specs.declared.act.Failed.TheVariants.{Retries, PoolWait}
use Rattle.client_model.specs.declared.input.Input.{Input}
use Rattle.client_model.specs.declared.input.Input.TheVariants.{Start, Waiting, Lent, Opened, TryFailed, Took, Gone}
use Rattle.client_model.specs.meaning.Conversation.{Done, talk_at, done_at}
use Rattle.client_model.specs.Conversation.{MayCome, steps_of, talk_after, is_wanted, is_gone, is_gone_next}
use Rattle.client_model.specs.meaning.Terms.{Terms, Talk, Phase, Idle, Unbegun, Queued, Seeking, Greeting, Asked, Running, Replaying}
use Rattle.client_model.specs.meaning.Talk.{stands, quiet, fails, with_tried, lost_of, loses, takes, on_waiting, waits_from, on_try_failed, talk_step, wants_of}
use Rattle.world_model.specs.meaning.Clients.{Step as Stepped}
use Rattle.world_model.specs.records.Conversing.{timed, inputs_of, connected}
use Rattle.world_model.specs.meaning.Links.{told_by}
use Rattle.world_model.specs.Parts.{Scan, scanned, implies}
use Rattle.world_model.specs.Words.{brought, dones_of}
use Rattle.world_model.proofs.script.Keeping.{second_some}
use Rattle.world_model.proofs.script.TalkCounts.{counts_so, step_counted}

abbrev is_told : Phase → Bool
is_told (Asked asking) = true
is_told (Running state) = true
is_told (Replaying state) = true
is_told _ = false

-- an identifier was told
abbrev pub told_so : Option Ltxid → Phase → Bool
told_so held phase = implies (is_told phase) (is_some held)

module _ (held : Option Ltxid) where
  still_told : (one : Option Ltxid) (phase : Phase) → is_some held ≡ true → told_so (option_or one held) phase ≡ true
  still_told one phase is = or_right (not (is_told phase)) (is_some (option_or one held)) (second_some one held is)

  now_told : (ltxid : Ltxid) (phase : Phase) → told_so (Some ltxid) phase ≡ true
  now_told ltxid phase = or_right (not (is_told phase)) true refl

  taken_told : (terms : Terms) (talk : Talk) (phase : Phase) (frame : Down) (alive : Bool) (now : ℕ) → talk.phase ≡ phase → told_so held phase ≡ true
      → told_so (option_or (told_by (Took frame alive)) held) (takes terms talk phase frame alive now).0.phase ≡ true
  taken_told terms talk phase down.Blocked alive now same here = ap (told_so held) same ∙ here
  taken_told terms talk phase (down.Refused cause) alive now same here = ap (told_so held) same ∙ here
  taken_told terms talk (Greeting lost) (down.Hello ltxid) alive now same here = now_told ltxid (takes terms talk (Greeting lost) (down.Hello ltxid) alive now).0.phase
  taken_told terms talk (Asked asking) frame alive now same here = still_told (told_by (Took frame alive)) (takes terms talk (Asked asking) frame alive now).0.phase here
  taken_told terms talk (Running state) frame alive now same here = still_told (told_by (Took frame alive)) (takes terms talk (Running state) frame alive now).0.phase here
  taken_told terms talk (Replaying state) frame alive now same here = still_told (told_by (Took frame alive)) (takes terms talk (Replaying state) frame alive now).0.phase here
  taken_told terms talk phase frame alive now same here = refl

  waited_told : (terms : Terms) (talk : Talk) (from now : ℕ) → told_so held (on_waiting terms talk from now).0.phase ≡ true
  waited_told terms talk from now = by (nat_le terms.limits.wait (now - from))
    where
      by : (long : Bool) → told_so held (if long then fails talk false None (PoolWait from now) else (stands talk (Queued (Some from)), quiet)).0.phase ≡ true
      by true = refl
      by false = refl

  tried_told : (terms : Terms) (talk : Talk) (now : ℕ) → told_so held (on_try_failed terms talk now).0.phase ≡ true
  tried_told terms talk now = by (nat_le terms.limits.retries (talk.tries + 1))
    where
      by : (many : Bool) → told_so held (if many then fails (with_tried talk now) false None (Retries (talk.tries + 1)) else (stands (with_tried talk now) (Seeking (lost_of talk.phase)), quiet)).0.phase ≡ true
      by true = refl
      by false = refl

  gone_told : (phase : Phase) (event : ℕ) → told_so held (loses phase event) ≡ true
  gone_told (Greeting lost) event = refl
  gone_told (Asked asking) event = refl
  gone_told (Running state) event = refl
  gone_told (Replaying state) event = refl
  gone_told Idle event = refl
  gone_told Unbegun event = refl
  gone_told (Queued from) event = refl
  gone_told (Seeking lost) event = refl

  step_told : (terms : Terms) (talk : Talk) (input : Input) (now : ℕ) → told_so held talk.phase ≡ true → told_so (option_or (told_by input) held) (talk_step terms talk input now).0.phase ≡ true
  step_told terms talk Start now here = refl
  step_told terms talk Waiting now here = waited_told terms talk (waits_from talk.phase now) now
  step_told terms talk (Lent connection ltxid) now here = now_told ltxid (talk_step terms talk (Lent connection ltxid) now).0.phase
  step_told terms talk (Opened connection) now here = refl
  step_told terms talk TryFailed now here = tried_told terms talk now
  step_told terms talk (Took frame alive) now here = taken_told terms talk talk.phase frame alive now refl here
  step_told terms talk (Gone event) now here = gone_told talk.phase event

-- SCANS -------------------------------------------------------------------------------------------

-- the scan of the steps is at the talk that they lead to
pub record IsAt (scan : Scan) (phase : Phase) : Type 0 where
  pub shown : counts_so scan.shown phase ≡ true
  pub held : told_so scan.held phase ≡ true

-- one step more
pub scan_step : (terms : Terms) (talk : Talk) (scan : Scan) (step : Stepped) → step.done ≡ done_at terms talk (timed step) → is_wanted (wants_of terms talk step.done.now) step.done.input ≡ true → IsAt scan talk.phase
    → IsAt (scanned scan step) (talk_at terms talk (timed step)).phase
scan_step terms talk scan step same wanted at = record {
  shown = subst (λ (done : Done). counts_so (scan.shown + cond (is_some done.act.shown) 1 0) (talk_at terms talk (timed step)).phase ≡ true) (sym same)
      (step_counted terms scan.shown talk step.done.input step.done.now wanted at.shown);
  held = step_told scan.held terms talk step.done.input step.done.now at.held;
}

pub scan_steps : (terms : Terms) (talk : Talk) (due : Bool) (scan : Scan) (steps : List Stepped) → dones_of steps ≡ steps_of terms talk (inputs_of steps) → MayCome terms talk due (inputs_of steps) → IsAt scan talk.phase
    → IsAt (fold scanned scan steps) (talk_after terms talk (inputs_of steps)).phase
scan_steps terms talk due scan [] same may at = at
scan_steps terms talk due scan (step ∷ steps) same may at =
    let first : step.done ≡ done_at terms talk (timed step) = cc in
    let later : dones_of steps ≡ steps_of terms (talk_at terms talk (timed step)) (inputs_of steps) = cc in
    scan_steps terms (talk_at terms talk (timed step)) (is_gone_next step.done.input (done_at terms talk (timed step)).act.hold) (scanned scan step) steps later may.1
    (scan_step terms talk scan step first (and_parts (is_wanted (wants_of terms talk step.done.now) step.done.input) (is_gone step.done.input || not due) may.0).0 at)

-- its connection is the one that the inputs left, where they left one
abbrev Leads : Option ℕ → Scan → Type 0
Leads had scan = (number : ℕ) → had ≡ Some number → scan.connection ≡ number

led_by : (had : Option ℕ) (connection number : ℕ) (input : Input) → ((one : ℕ) → had ≡ Some one → connection ≡ one) → connected had input ≡ Some number → option_map_or (λ one. one) (brought input) connection ≡ number
led_by had connection number Start leads is = leads number is
led_by had connection number Waiting leads is = leads number is
led_by had connection number (Lent other ltxid) leads is = let same : other ≡ number = cc in same
led_by had connection number (Opened other) leads is = let same : other ≡ number = cc in same
led_by had connection number TryFailed leads is = leads number is
led_by had connection number (Took frame alive) leads is = leads number is
led_by had connection number (Gone event) leads is = absurd (let none : ⊥ = cc in none)

pub scan_leads : (had : Option ℕ) (scan : Scan) (steps : List Stepped) → ((number : ℕ) → had ≡ Some number → scan.connection ≡ number)
    → (number : ℕ) → fold (λ (had : Option ℕ) (step : Stepped). connected had step.done.input) had steps ≡ Some number → (fold scanned scan steps).connection ≡ number
scan_leads had scan [] leads number is = leads number is
scan_leads had scan (step ∷ steps) leads number is =
    scan_leads (connected had step.done.input) (scanned scan step) steps (λ one same. led_by had scan.connection one step.done.input leads same) number is
