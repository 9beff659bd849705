-- What a client asks for where it hears an input: the outcome of the identifier that it wants.
use Rattle.std.proofs.Common.{◌≡◌, refl, Bool, true, false, ℕ, ◌+◌, ◌-◌, List, [], ◌∷◌, ◌++◌, Option, Some, None, if◌then◌else◌}
use Rattle.std.specs.Prelude.{nat_le}
use Rattle.std.specs.List.{list_all}
use Rattle.std.specs.Option.{option_map_or}
use Rattle.svc_values.specs.declared.frame.Up.{Up}
use Rattle.svc_values.specs.declared.frame.Up.TheVariants as up
use Rattle.svc_values.specs.declared.frame.Down.{Down}
use Rattle.svc_values.specs.declared.frame.Down.TheVariants as down
use Rattle.svc_values.specs.declared.value.Value.{Value}
use Rattle.svc_values.specs.meaning.Identifiers.{same_ltxid}
use Rattle.svc_values.specs.SameLaws.{same_ltxid_decides}
use Rattle.pool_core.specs.declared.answers.Back.{Back}
use Rattle.pool_core.specs.declared.answers.Back.TheVariants as back
use Rattle.pool_core.specs.meaning.Slots.{Slots, give_back_answer}
use Rattle.client_model.specs.declared.act.Failed.TheVariants.{Retries, PoolWait}
use Rattle.client_model.specs.declared.act.Hold.{Hold}
use Rattle.client_model.specs.declared.act.Hold.TheVariants as hold
use Rattle.client_model.specs.declared.input.Input.{Input}
use Rattle.client_model.specs.declared.input.Input.TheVariants.{Start, Waiting, Lent, Opened, TryFailed, Took, Gone}
use Rattle.client_model.specs.meaning.States.{Losing}
use Rattle.client_model.specs.meaning.Terms.{Terms, Talk, Phase, Idle, Unbegun, Queued, Seeking, Greeting, Asked, Running, Replaying}
use Rattle.client_model.specs.meaning.Talk.{Step, stands, quiet, fails, with_tried, lost_of, on_hello, on_waiting, waits_from, on_try_failed, takes, talk_step}
use Rattle.std.proofs.lemmas.Bool.{and_from}
use Rattle.world_model.specs.meaning.Acting.{closing, frames_of}
use Rattle.world_model.specs.Wanted.{Wanted, wanted_in}
use Rattle.world_model.proofs.Offered.{append_all, Spoken, Quiet, SayingFails as Fails, Ends, SayingAsks as Asks, Calls, Marks, begun_in, opening, may_ask, has_next, said, said_lent, is_hushed}

-- an outcome that is asked is of what is wanted
abbrev pub is_asking : Option Wanted → Up → Bool
is_asking wanted (up.Outcome x) = option_map_or (λ one. same_ltxid one.ltxid x) wanted false
is_asking wanted _ = true

-- where no outcome may be asked
spoken_asks : (wanted : Option Wanted) (before : Phase) (left alive hushed : Bool) (phase : Phase) (send : List Up) (held : Hold) → may_ask before ≡ false → Spoken before left alive hushed phase send held → list_all (is_asking wanted) send ≡ true
spoken_asks wanted before left alive hushed phase _ _ none (Quiet _ hush stays) = refl
spoken_asks wanted before left true hushed _ _ _ none Fails = refl
spoken_asks wanted before left false hushed _ _ _ none Fails = refl
spoken_asks wanted before left true hushed _ _ _ none (Ends may) = refl
spoken_asks wanted before left false hushed _ _ _ none (Ends may) = refl
spoken_asks wanted before left alive hushed _ _ _ none (Asks opens may asking) = absurd (let never : ⊥ = cc in never)
spoken_asks wanted before left alive hushed _ _ _ none (Calls opens settings call state) = called (begun_in before) settings
  where
    called : (begun : Bool) (settings : List (List ℕ × Value)) → list_all (is_asking wanted) (opening begun settings ++ up.Call false [] call ∷ []) ≡ true
    called true settings = refl
    called false settings = refl
spoken_asks wanted before left alive hushed _ _ _ none (Marks opens may settings one state next plain) = marked (begun_in before) settings
  where
    marked : (begun : Bool) (settings : List (List ℕ × Value)) → list_all (is_asking wanted) (opening begun settings ++ up.Call true one.draws one.call ∷ []) ≡ true
    marked true settings = refl
    marked false settings = refl

waited_asks : (wanted : Option Wanted) (terms : Terms) (talk : Talk) (from now : ℕ) → list_all (is_asking wanted) (on_waiting terms talk from now).1.send ≡ true
waited_asks wanted terms talk from now = by (nat_le terms.limits.wait (now - from))
  where
    by : (long : Bool) → list_all (is_asking wanted) (if long then fails talk false None (PoolWait from now) else (stands talk (Queued (Some from)), quiet)).1.send ≡ true
    by true = refl
    by false = refl

tried_asks : (wanted : Option Wanted) (terms : Terms) (talk : Talk) (now : ℕ) → list_all (is_asking wanted) (on_try_failed terms talk now).1.send ≡ true
tried_asks wanted terms talk now = by (nat_le terms.limits.retries (talk.tries + 1))
  where
    by : (many : Bool) → list_all (is_asking wanted) (if many then fails (with_tried talk now) false None (Retries (talk.tries + 1)) else (stands (with_tried talk now) (Seeking (lost_of talk.phase)), quiet)).1.send ≡ true
    by true = refl
    by false = refl

-- behind Hello, the outcome of what was lost
hello_asks : (terms : Terms) (talk : Talk) (lost : Losing) (frame : Down) (alive : Bool) (now : ℕ) → list_all (is_asking (wanted_in (Greeting (Some lost)))) (takes terms talk (Greeting (Some lost)) frame alive now).1.send ≡ true
hello_asks terms talk lost (down.Hello x) true now = and_from (same_ltxid lost.ltxid lost.ltxid) true ((same_ltxid_decides lost.ltxid lost.ltxid).1 refl) refl
hello_asks terms talk lost (down.Hello x) false now = refl
hello_asks terms talk lost down.Blocked alive now = refl
hello_asks terms talk lost (down.Refused cause) alive now = refl
hello_asks terms talk lost frame true now = refl
hello_asks terms talk lost frame false now = refl

taken_asks : (terms : Terms) (talk : Talk) (phase : Phase) (frame : Down) (alive : Bool) (now : ℕ) → talk.phase ≡ phase → list_all (is_asking (wanted_in phase)) (takes terms talk phase frame alive now).1.send ≡ true
taken_asks terms talk phase frame alive now same = by phase same
  where
    other : (phase : Phase) → talk.phase ≡ phase → may_ask phase ≡ false → list_all (is_asking (wanted_in phase)) (takes terms talk phase frame alive now).1.send ≡ true
    other phase same none =
        let step : Step = takes terms talk phase frame alive now in
        spoken_asks (wanted_in phase) phase (has_next talk) alive (is_hushed frame) step.0.phase step.1.send step.1.hold none (said terms talk phase frame alive now same)

    by : (phase : Phase) → talk.phase ≡ phase → list_all (is_asking (wanted_in phase)) (takes terms talk phase frame alive now).1.send ≡ true
    by (Greeting (Some lost)) same = hello_asks terms talk lost frame alive now
    by (Greeting None) same = other (Greeting None) same refl
    by Idle same = other Idle same refl
    by Unbegun same = other Unbegun same refl
    by (Queued from) same = other (Queued from) same refl
    by (Seeking lost) same = other (Seeking lost) same refl
    by (Asked asking) same = other (Asked asking) same refl
    by (Running state) same = other (Running state) same refl
    by (Replaying state) same = other (Replaying state) same refl

send_asks : (terms : Terms) (talk : Talk) (input : Input) (now : ℕ) → list_all (is_asking (wanted_in talk.phase)) (talk_step terms talk input now).1.send ≡ true
send_asks terms talk Start now = refl
send_asks terms talk Waiting now = waited_asks (wanted_in talk.phase) terms talk (waits_from talk.phase now) now
send_asks terms talk (Lent connection x) now =
    let step : Step = on_hello terms talk None x true now in spoken_asks (wanted_in talk.phase) (Greeting None) (has_next talk) true false step.0.phase step.1.send step.1.hold refl (said_lent terms talk x now)
send_asks terms talk (Opened connection) now = refl
send_asks terms talk TryFailed now = tried_asks (wanted_in talk.phase) terms talk now
send_asks terms talk (Took frame alive) now = taken_asks terms talk talk.phase frame alive now refl
send_asks terms talk (Gone event) now = refl

closing_asks : (wanted : Option Wanted) (held : Hold) (how : Back) → list_all (is_asking wanted) (closing held how) ≡ true
closing_asks wanted hold.Keep how = refl
closing_asks wanted hold.Drop how = refl
closing_asks wanted hold.GiveBack back.Closed = refl
closing_asks wanted hold.GiveBack back.Idle = refl

-- all frames of a step
pub frames_ask : (terms : Terms) (talk : Talk) (input : Input) (now : ℕ) (pool : Slots) (connection : ℕ) → list_all (is_asking (wanted_in talk.phase)) (frames_of pool connection (talk_step terms talk input now).1) ≡ true
frames_ask terms talk input now pool connection =
    let step : Step = talk_step terms talk input now in
    append_all (is_asking (wanted_in talk.phase)) step.1.send (closing step.1.hold (give_back_answer pool connection)) (send_asks terms talk input now) (closing_asks (wanted_in talk.phase) step.1.hold (give_back_answer pool connection))
