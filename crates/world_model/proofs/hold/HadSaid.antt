-- Whether a step of a client closes its connection, and who has one then.
use Rattle.std.proofs.Common.{◌≡◌, ◌≢◌, refl, ap, ◌∙◌, Bool, true, false, ℕ, ◌+◌, cond, List, [], ◌∷◌, ◌++◌, map, count_by, Option, Some, None, if◌then◌else◌, arith}
use Rattle.std.specs.Prelude.{◌==◌}
use Rattle.std.specs.Option.{option_map_or}
use Rattle.std.proofs.lemmas.List.Sums.{sum_by-cons, sum_by-append}
use Rattle.svc_values.specs.declared.value.Value.{Value}
use Rattle.svc_values.specs.declared.call.Call.{Call}
use Rattle.svc_values.specs.declared.draw.Draw.{Draw}
use Rattle.svc_values.specs.declared.frame.Up.{Up}
use Rattle.svc_values.specs.declared.frame.Up.TheVariants as up
use Rattle.pool_core.specs.declared.answers.Back.{Back}
use Rattle.pool_core.specs.declared.answers.Back.TheVariants as back
use Rattle.client_model.specs.declared.act.Hold.{Hold}
use Rattle.client_model.specs.declared.act.Hold.TheVariants as hold
use Rattle.client_model.specs.meaning.Terms.{Phase}
use Rattle.world_model.specs.meaning.Settings.{Setting}
use Rattle.world_model.specs.meaning.Frames.{Owner, Sent}
use Rattle.world_model.specs.meaning.Links.{Link, ends, sends}
use Rattle.world_model.specs.meaning.Clients.{Doing, Client, after_hold}
use Rattle.world_model.specs.meaning.Acting.{sent_by, closing}
use Rattle.world_model.proofs.events.Tests.{eq_from, eq_to}
use Rattle.world_model.proofs.basic.Ends.{with_frames, has_close, ends_case}
use Rattle.world_model.proofs.finish.Counts.{goes_so}
use Rattle.world_model.proofs.wire.Saying.{Spoken, Quiet, Fails as FailsNow, Ends, Asks, Calls, Marks, begun_in, opening}
use Rattle.world_model.proofs.hold.HadKept.{has_connection}

-- WHETHER IT CLOSES -------------------------------------------------------------------------------

-- a Close is among the frames
abbrev closes : Bool → Hold → Back → Bool
closes alive hold.Keep how = false
closes alive hold.Drop how = alive
closes alive hold.GiveBack back.Closed = true
closes alive hold.GiveBack back.Idle = false

opened_call : (owner : Owner) (at : ℕ) (begun : Bool) (settings : List (List ℕ × Value)) (marked : Bool) (kept : List Draw) (call : Call)
    → has_close (map (sent_by owner at) ((opening begun settings ++ up.Call marked kept call ∷ []) ++ [])) ≡ false
opened_call owner at true settings marked kept call = refl
opened_call owner at false settings marked kept call = refl

said_closes : (owner : Owner) (at : ℕ) (before : Phase) (left alive hushed : Bool) (phase : Phase) (send : List Up) (held : Hold) (how : Back) → Spoken before left alive hushed phase send held
    → has_close (map (sent_by owner at) (send ++ closing held how)) ≡ closes alive held how
said_closes owner at before left alive hushed phase _ _ how (Quiet _ hush stays) = refl
said_closes owner at before left true hushed _ _ _ how FailsNow = refl
said_closes owner at before left false hushed _ _ _ how FailsNow = refl
said_closes owner at before left true hushed _ _ _ back.Idle (Ends may) = refl
said_closes owner at before left true hushed _ _ _ back.Closed (Ends may) = refl
said_closes owner at before left false hushed _ _ _ how (Ends may) = refl
said_closes owner at before left alive hushed _ _ _ how (Asks opens may asking) = refl
said_closes owner at before left alive hushed _ _ _ how (Calls opens settings one state) = opened_call owner at (begun_in before) settings false [] one
said_closes owner at before left alive hushed _ _ _ how (Marks opens may settings one state next plain) = opened_call owner at (begun_in before) settings true one.draws one.call

unclosed : (event : ℕ) (frames : List Sent) (link : Link) → has_close frames ≡ false → (sends event frames link).is_open ≡ link.is_open
unclosed event frames link none = by (has_close frames) none
  where
    by : (test : Bool) → test ≡ false → (if test then ends event (with_frames frames link) else with_frames frames link).is_open ≡ link.is_open
    by true is = absurd (let never : ⊥ = cc in never)
    by false is = refl

ended : (event : ℕ) (link : Link) → (ends event link).is_open ≡ false
ended event link = ends_case (λ (one : Link). one.is_open ≡ false) event link (λ opens. refl) (λ closed. closed)

-- with a Close
pub with_close : (event : ℕ) (frames : List Sent) (link : Link) → has_close frames ≡ true → (sends event frames link).is_open ≡ false
with_close event frames link some = by (has_close frames) some
  where
    by : (test : Bool) → test ≡ true → (if test then ends event (with_frames frames link) else with_frames frames link).is_open ≡ false
    by true is = ended event (with_frames frames link)
    by false is = absurd (let never : ⊥ = cc in never)

-- with a Close, or where it was closed
closed_now : (event : ℕ) (frames : List Sent) (link : Link) (alive : Bool) → link.is_open ≡ alive → has_close frames ≡ alive → (sends event frames link).is_open ≡ false
closed_now event frames link true opens some = with_close event frames link some
closed_now event frames link false opens none = unclosed event frames link none ∙ opens

module _ (event : ℕ) (owner : Owner) (at : ℕ) (before : Phase) (left alive hushed : Bool) (phase : Phase) (send : List Up) (held : Hold) (how : Back) (link : Link) (spoken : Spoken before left alive hushed phase send held)
    (opens : link.is_open ≡ alive) where
  abbrev link_now : Link
  link_now = sends event (map (sent_by owner at) (send ++ closing held how)) link

  as_said : (keep : Hold) (is : Back) → held ≡ keep → how ≡ is → has_close (map (sent_by owner at) (send ++ closing held how)) ≡ closes alive keep is
  as_said keep is held_is how_is = said_closes owner at before left alive hushed phase send held how spoken ∙ (ap (λ (h : Hold). closes alive h how) held_is ∙ ap (λ (b : Back). closes alive keep b) how_is)

  pub says_open : held ≡ hold.Keep → link_now.is_open ≡ link.is_open
  says_open keep = unclosed event (map (sent_by owner at) (send ++ closing held how)) link (as_said hold.Keep how keep refl)

  pub says_shut : held ≡ hold.Drop → link_now.is_open ≡ false
  says_shut drop = closed_now event (map (sent_by owner at) (send ++ closing held how)) link alive opens (as_said hold.Drop how drop refl)

  pub gives_open : held ≡ hold.GiveBack → how ≡ back.Idle → link_now.is_open ≡ link.is_open
  gives_open gives is = unclosed event (map (sent_by owner at) (send ++ closing held how)) link (as_said hold.GiveBack back.Idle gives is)

  pub gives_shut : alive ≡ true → held ≡ hold.GiveBack → how ≡ back.Closed → link_now.is_open ≡ false
  gives_shut lives gives is = closed_now event (map (sent_by owner at) (send ++ closing held how)) link true (opens ∙ lives) (as_said hold.GiveBack back.Closed gives is)

-- WHO HAS IT --------------------------------------------------------------------------------------

module _ (setting : Setting) (number who : ℕ) (client : Client) (next : Doing) where
  -- a request without a connection
  pub after_none : (held : Hold) → next.connection ≡ None → goes_so (has_connection number) (after_hold setting who client next held) ≡ false
  after_none hold.Keep none = ap (λ (c : Option ℕ). option_map_or (λ other. other == number) c false) none
  after_none hold.GiveBack none = refl
  after_none hold.Drop none = refl

  pub after_other : (held : Hold) (connection : ℕ) → next.connection ≡ Some connection → (connection == number) ≡ false → goes_so (has_connection number) (after_hold setting who client next held) ≡ false
  after_other hold.Keep connection has differs = ap (λ (c : Option ℕ). option_map_or (λ other. other == number) c false) has ∙ differs
  after_other hold.GiveBack connection has differs = refl
  after_other hold.Drop connection has differs = refl

  pub after_own : (held : Hold) → held ≡ hold.Keep → next.connection ≡ Some number → goes_so (has_connection number) (after_hold setting who client next held) ≡ true
  after_own hold.Keep keep has = ap (λ (c : Option ℕ). option_map_or (λ other. other == number) c false) has ∙ eq_to number number refl
  after_own hold.GiveBack keep has = absurd (let never : ⊥ = cc in never)
  after_own hold.Drop keep has = absurd (let never : ⊥ = cc in never)

  pub after_over : (held : Hold) → (held ≡ hold.Keep → ⊥) → goes_so (has_connection number) (after_hold setting who client next held) ≡ false
  after_over hold.Keep over = absurd (over refl)
  after_over hold.GiveBack over = refl
  after_over hold.Drop over = refl

pub not_same : (a b : ℕ) → a ≢ b → (a == b) ≡ false
not_same a b differ = by (a == b) refl
  where
    by : (test : Bool) → (a == b) ≡ test → test ≡ false
    by false is = refl
    by true is = absurd (differ (eq_from a b is))

pub first_idle : (first number : ℕ) (idle later : List ℕ) → idle ≡ first ∷ later → count_by (λ other. other == number) idle ≡ cond (first == number) 1 0 + count_by (λ other. other == number) later
first_idle first number idle later is = ap (count_by (λ other. other == number)) is ∙ sum_by-cons (λ (other : ℕ). cond (other == number) 1 0) first later

pub pushed_idle : (idle : List ℕ) (one number : ℕ) → count_by (λ other. other == number) (idle ++ one ∷ []) ≡ count_by (λ other. other == number) idle + cond (one == number) 1 0
pushed_idle idle one number =
    let split : count_by (λ (other : ℕ). other == number) (idle ++ one ∷ []) ≡ count_by (λ (other : ℕ). other == number) idle + count_by (λ (other : ℕ). other == number) (one ∷ []) = sum_by-append (λ (other : ℕ). cond (other == number) 1 0) idle (one ∷ []) in
    let last : count_by (λ (other : ℕ). other == number) (one ∷ []) ≡ cond (one == number) 1 0 + count_by (λ (other : ℕ). other == number) [] = sum_by-cons (λ (other : ℕ). cond (other == number) 1 0) one [] in
    let none : count_by (λ (other : ℕ). other == number) [] ≡ 0 = refl in
    omega arith
