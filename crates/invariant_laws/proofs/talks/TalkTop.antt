-- Where a request runs, its last sending is on the connection on which it speaks, and no reply was
-- taken to it.
use Rattle.std.proofs.Common.{◌≡◌, refl, sym, ap, subst, ◌∙◌, Bool, true, false, ℕ, ◌-◌, ◌+◌, ◌&&◌, cond, fold, List, [], ◌∷◌, ◌++◌, Option, Some, None, if◌then◌else◌}
use Rattle.std.specs.Prelude.{◌==◌, ◌||◌, not, nat_le, is_some, is_none}
use Rattle.std.specs.Option.{option_or, option_map_or}
use Rattle.std.proofs.lemmas.Bool.{and_parts, and_from, not-true}
use Rattle.svc_values.specs.declared.call.Call.{Call}
use Rattle.svc_values.specs.declared.entry.Ltxid.{Ltxid}
use Rattle.svc_values.specs.declared.frame.Down.{Down}
use Rattle.svc_values.specs.declared.frame.Down.TheVariants as down
use Rattle.svc_values.specs.declared.frame.Up.{Up}
use Rattle.svc_values.specs.declared.frame.Up.TheVariants as up
use Rattle.svc_values.specs.declared.value.Value.{Value}
use Rattle.client_model.specs.declared.act.Act.{Act}
use Rattle.client_model.specs.declared.act.Failed.TheVariants.{PoolWait, Retries}
use Rattle.client_model.specs.declared.act.Hold.{Hold}
use Rattle.client_model.specs.declared.act.Hold.TheVariants.{Keep}
use Rattle.client_model.specs.declared.input.Input.{Input}
use Rattle.client_model.specs.declared.input.Input.TheVariants.{Start, Waiting, Lent, Opened, TryFailed, Took, Gone}
use Rattle.client_model.specs.meaning.Conversation.{Done, talk_at, done_at}
use Rattle.client_model.specs.Conversation.{MayCome, steps_of, talk_after, is_wanted, is_gone, is_gone_next}
use Rattle.client_model.specs.meaning.Talk.{Step, stands, quiet, fails, with_tried, lost_of, loses, on_hello, on_waiting, waits_from, on_try_failed, takes, talk_step, wants_of}
use Rattle.client_model.specs.meaning.Terms.{Terms, Talk, Phase, Idle, Unbegun, Queued, Seeking, Greeting, Asked, Running, Replaying}
use Rattle.world_model.specs.meaning.Clients.{Step as Stepped}
use Rattle.world_model.specs.records.Conversing.{timed, inputs_of, gone_due}
use Rattle.world_model.specs.meaning.Links.{told_by}
use Rattle.world_model.specs.Parts.{Sending, Scan, scanned, answered, sent_on}
use Rattle.world_model.specs.Words.{brought, dones_of}
use Rattle.world_model.proofs.Offered.{Spoken, Quiet, SayingFails as Fails, Ends, SayingAsks as Asks, Calls, Marks, begun_in, opening, has_next, said, said_lent, is_hushed, is_running, IsAt, told_so, scan_step, eq_to, not_both}

-- the last sending is on this connection, and was not answered
abbrev pub top_open : ℕ → List Sending → Bool
top_open connection [] = false
top_open connection (sending ∷ earlier) = (sending.connection == connection) && is_none sending.taken

-- unless a loss is due
abbrev pub TopSo : Bool → Scan → Phase → Type 0
TopSo due scan phase = due ≡ false → is_running phase ≡ true → top_open scan.connection scan.sendings ≡ true

-- the scan behind an input and what is done at it
abbrev heard_by : Scan → Input → Act → Scan
heard_by scan input act = record {
  owner = scan.owner;
  connection = option_map_or (λ number. number) (brought input) scan.connection;
  held = option_or (told_by input) scan.held;
  shown = scan.shown + cond (is_some act.shown) 1 0;
  sendings = answered input act.shown scan.sendings;
}

abbrev behind_by : Scan → Input → Act → Scan
behind_by scan input act = record (heard_by scan input act) { sendings = fold (sent_on (heard_by scan input act)) (heard_by scan input act).sendings act.send }

-- WHAT IS SENT ------------------------------------------------------------------------------------

pub running_keeps : (before : Phase) (left alive hushed : Bool) (phase : Phase) (send : List Up) (held : Hold) → Spoken before left alive hushed phase send held → is_running phase ≡ true → held ≡ Keep
running_keeps before left alive hushed phase _ _ (Quiet _ hush stays) runs = refl
running_keeps before left alive hushed _ _ _ Fails runs = absurd (let none : ⊥ = cc in none)
running_keeps before left alive hushed _ _ _ (Ends may) runs = absurd (let none : ⊥ = cc in none)
running_keeps before left alive hushed _ _ _ (Asks opens may asking) runs = refl
running_keeps before left alive hushed _ _ _ (Calls opens settings call state) runs = refl
running_keeps before left alive hushed _ _ _ (Marks opens may settings one state next plain) runs = refl

called_top : (now : Scan) (begun : Bool) (settings : List (List ℕ × Value)) (call : Call) → is_some now.held ≡ true → top_open now.connection (fold (sent_on now) now.sendings (opening begun settings ++ up.Call false [] call ∷ [])) ≡ true
called_top now begun settings call told = by begun
  where
    made_top : (held : Option Ltxid) → is_some held ≡ true
        → top_open now.connection (option_map_or (λ x. record { owner = now.owner; connection = now.connection; ltxid = x; at = now.shown; call = call; taken = None } ∷ now.sendings) held now.sendings) ≡ true
    made_top None is = absurd (let none : ⊥ = cc in none)
    made_top (Some x) is = and_from (now.connection == now.connection) true (eq_to now.connection now.connection refl) refl

    by : (begun : Bool) → top_open now.connection (fold (sent_on now) now.sendings (opening begun settings ++ up.Call false [] call ∷ [])) ≡ true
    by true = made_top now.held told
    by false = made_top now.held told

spoken_top : (now : Scan) (before : Phase) (left alive hushed : Bool) (phase : Phase) (send : List Up) (held : Hold) → Spoken before left alive hushed phase send held → (hushed || not alive) ≡ false → is_running phase ≡ true
    → is_some now.held ≡ true → top_open now.connection (fold (sent_on now) now.sendings send) ≡ true
spoken_top now before left alive hushed phase _ _ (Quiet _ hush stays) loud runs told = absurd (not_both (hushed || not alive) hush loud)
spoken_top now before left alive hushed _ _ _ Fails loud runs told = absurd (let none : ⊥ = cc in none)
spoken_top now before left alive hushed _ _ _ (Ends may) loud runs told = absurd (let none : ⊥ = cc in none)
spoken_top now before left alive hushed _ _ _ (Asks opens may asking) loud runs told = absurd (let none : ⊥ = cc in none)
spoken_top now before left alive hushed _ _ _ (Calls opens settings call state) loud runs told = called_top now (begun_in before) settings call told
spoken_top now before left alive hushed _ _ _ (Marks opens may settings one state next plain) loud runs told = absurd (let none : ⊥ = cc in none)

-- STEPS -------------------------------------------------------------------------------------------

running_told : (held : Option Ltxid) (phase : Phase) → is_running phase ≡ true → told_so held phase ≡ true → is_some held ≡ true
running_told held (Running state) runs told = told
running_told held Idle runs told = absurd (let none : ⊥ = cc in none)
running_told held Unbegun runs told = absurd (let none : ⊥ = cc in none)
running_told held (Queued from) runs told = absurd (let none : ⊥ = cc in none)
running_told held (Seeking lost) runs told = absurd (let none : ⊥ = cc in none)
running_told held (Greeting lost) runs told = absurd (let none : ⊥ = cc in none)
running_told held (Asked asking) runs told = absurd (let none : ⊥ = cc in none)
running_told held (Replaying state) runs told = absurd (let none : ⊥ = cc in none)

gone_runs : (phase : Phase) (event : ℕ) → is_running (loses phase event) ≡ false
gone_runs (Greeting lost) event = refl
gone_runs (Asked asking) event = refl
gone_runs (Running state) event = refl
gone_runs (Replaying state) event = refl
gone_runs Idle event = refl
gone_runs Unbegun event = refl
gone_runs (Queued from) event = refl
gone_runs (Seeking lost) event = refl

waited_runs : (terms : Terms) (talk : Talk) (from now : ℕ) → is_running (on_waiting terms talk from now).0.phase ≡ false
waited_runs terms talk from now = by (nat_le terms.limits.wait (now - from))
  where
    by : (long : Bool) → is_running (if long then fails talk false None (PoolWait from now) else (stands talk (Queued (Some from)), quiet)).0.phase ≡ false
    by true = refl
    by false = refl

tried_runs : (terms : Terms) (talk : Talk) (now : ℕ) → is_running (on_try_failed terms talk now).0.phase ≡ false
tried_runs terms talk now = by (nat_le terms.limits.retries (talk.tries + 1))
  where
    by : (many : Bool) → is_running (if many then fails (with_tried talk now) false None (Retries (talk.tries + 1)) else (stands (with_tried talk now) (Seeking (lost_of talk.phase)), quiet)).0.phase ≡ false
    by true = refl
    by false = refl

module _ (terms : Terms) (talk : Talk) (scan : Scan) (now : ℕ) where
  abbrev Behind : Input → Type 0
  Behind input =
      let step : Step = talk_step terms talk input now in
      told_so (behind_by scan input step.1).held step.0.phase ≡ true → TopSo (is_gone_next input step.1.hold) (behind_by scan input step.1) step.0.phase

  -- another frame than one that ends the connection
  loud_top : (frame : Down) → is_hushed frame ≡ false → Behind (Took frame true)
  loud_top frame loud told due runs =
      let step : Step = takes terms talk talk.phase frame true now in
      spoken_top (heard_by scan (Took frame true) step.1) talk.phase (has_next talk) true (is_hushed frame) step.0.phase step.1.send step.1.hold (said terms talk talk.phase frame true now refl)
      (ap (λ (hushed : Bool). hushed || false) loud) runs (running_told (heard_by scan (Took frame true) step.1).held step.0.phase runs told)

  taken_top : (frame : Down) → TopSo false scan talk.phase → Behind (Took frame true)
  taken_top down.Blocked top told due runs = top refl runs
  taken_top (down.Refused cause) top told due runs = top refl runs
  taken_top (down.Hello x) top told due runs = loud_top (down.Hello x) refl told due runs
  taken_top (down.Reply answers draws x) top told due runs = loud_top (down.Reply answers draws x) refl told due runs
  taken_top (down.OutcomeIs committed completed) top told due runs = loud_top (down.OutcomeIs committed completed) refl told due runs
  taken_top (down.OutcomeRefused ahead horizon) top told due runs = loud_top (down.OutcomeRefused ahead horizon) refl told due runs

  -- from a connection that is not open: the loss is due where the request goes on
  dead_top : (frame : Down) → Behind (Took frame false)
  dead_top frame told due runs =
      let step : Step = takes terms talk talk.phase frame false now in
      let keeps : step.1.hold ≡ Keep = running_keeps talk.phase (has_next talk) false (is_hushed frame) step.0.phase step.1.send step.1.hold (said terms talk talk.phase frame false now refl) runs in
      absurd (let never : true ≡ false = sym (ap (is_gone_next (Took frame false)) keeps) ∙ due in let none : ⊥ = cc in none)

  lent_top : (connection : ℕ) (x : Ltxid) → Behind (Lent connection x)
  lent_top connection x told due runs =
      let step : Step = on_hello terms talk None x true now in
      spoken_top (heard_by scan (Lent connection x) step.1) (Greeting None) (has_next talk) true false step.0.phase step.1.send step.1.hold (said_lent terms talk x now) refl runs
      (running_told (heard_by scan (Lent connection x) step.1).held step.0.phase runs told)

  -- what comes next
  pub next_top : (due : Bool) (input : Input) → (is_gone input || not due) ≡ true → TopSo due scan talk.phase → Behind input
  next_top due Start may top told after runs = absurd (let none : ⊥ = cc in none)
  next_top due Waiting may top told after runs = absurd (not_both _ runs (waited_runs terms talk (waits_from talk.phase now) now))
  next_top due (Lent connection x) may top told after runs = lent_top connection x told after runs
  next_top due (Opened connection) may top told after runs = absurd (let none : ⊥ = cc in none)
  next_top due TryFailed may top told after runs = absurd (not_both _ runs (tried_runs terms talk now))
  next_top due (Took frame true) may top told after runs = taken_top frame (subst (λ (d : Bool). TopSo d scan talk.phase) (not-true due may) top) told after runs
  next_top due (Took frame false) may top told after runs = dead_top frame told after runs
  next_top due (Gone event) may top told after runs = absurd (not_both _ runs (gone_runs talk.phase event))

-- by the scan of its steps
pub scan_top : (terms : Terms) (talk : Talk) (due : Bool) (scan : Scan) (steps : List Stepped) → dones_of steps ≡ steps_of terms talk (inputs_of steps) → MayCome terms talk due (inputs_of steps) → IsAt scan talk.phase → TopSo due scan talk.phase
    → TopSo (gone_due terms talk due (inputs_of steps)) (fold scanned scan steps) (talk_after terms talk (inputs_of steps)).phase
scan_top terms talk due scan [] same may at top = top
scan_top terms talk due scan (step ∷ steps) same may at top =
    let first : step.done ≡ done_at terms talk (timed step) = cc in
    let later : dones_of steps ≡ steps_of terms (talk_at terms talk (timed step)) (inputs_of steps) = cc in
    let parts = and_parts (is_wanted (wants_of terms talk step.done.now) step.done.input) (is_gone step.done.input || not due) may.0 in
    let now = scan_step terms talk scan step first parts.0 at in
    let behind : TopSo (is_gone_next step.done.input (done_at terms talk (timed step)).act.hold) (scanned scan step) (talk_at terms talk (timed step)).phase =
    subst (λ (act : Act). TopSo (is_gone_next step.done.input (done_at terms talk (timed step)).act.hold) (behind_by scan step.done.input act) (talk_at terms talk (timed step)).phase) (sym (ap (λ (done : Done). done.act) first))
    (next_top terms talk scan step.done.now due step.done.input parts.1 top now.held) in
    scan_top terms (talk_at terms talk (timed step)) (is_gone_next step.done.input (done_at terms talk (timed step)).act.hold) (scanned scan step) steps later may.1 now behind
