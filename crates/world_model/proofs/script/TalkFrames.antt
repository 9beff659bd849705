-- What a step of a client may send: a call without the mark where it runs then, and one with the
-- mark where it is the next that is repeated.
use Rattle.std.proofs.Common.{◌≡◌, refl, subst, Bool, true, false, ℕ, ◌-◌, ◌+◌, ◌&&◌, length, List, [], ◌∷◌, ◌++◌, Option, Some, None, if◌then◌else◌}
use Rattle.std.specs.Prelude.{◌==◌, nat_le}
use Rattle.std.specs.List.{list_all}
use Rattle.std.specs.Option.{option_map_or}
use Rattle.std.proofs.lemmas.Bool.{and_from}
use Rattle.svc_values.specs.declared.call.Call.{Call}
use Rattle.svc_values.specs.declared.draw.Draw.{Draw}
use Rattle.svc_values.specs.declared.value.Value.{Value}
use Rattle.svc_values.specs.declared.frame.Up.{Up}
use Rattle.svc_values.specs.declared.frame.Up.TheVariants as up
use Rattle.svc_values.specs.meaning.Same.{same_call, same_draws}
use Rattle.svc_values.specs.SameLaws.{same_call_decides}
use Rattle.call_recorder.specs.declared.recorded.Recorded.{Recorded}
use Rattle.pool_core.specs.declared.answers.Back.{Back}
use Rattle.pool_core.specs.declared.answers.Back.TheVariants as back
use Rattle.pool_core.specs.meaning.Slots.{Slots, give_back_answer}
use Rattle.client_model.specs.declared.act.Failed.TheVariants.{Retries, PoolWait}
use Rattle.client_model.specs.declared.act.Hold.{Hold}
use Rattle.client_model.specs.declared.act.Hold.TheVariants as hold
use Rattle.client_model.specs.declared.input.Input.{Input}
use Rattle.client_model.specs.declared.input.Input.TheVariants.{Start, Waiting, Lent, Opened, TryFailed, Took, Gone}
use Rattle.client_model.specs.meaning.States.{next_of}
use Rattle.client_model.specs.meaning.Terms.{Terms, Talk, Phase, Queued, Seeking, Greeting, Running, Replaying}
use Rattle.client_model.specs.meaning.Talk.{Step, stands, quiet, fails, with_tried, lost_of, on_hello, on_waiting, waits_from, on_try_failed, takes, talk_step}
use Rattle.world_model.specs.meaning.Acting.{closing, frames_of}
use Rattle.world_model.proofs.events.AllLists.{append_all}
use Rattle.world_model.proofs.wire.SameSelf.{each_self, draw_self}
use Rattle.world_model.proofs.wire.Saying.{Spoken, Quiet, Fails, Ends, Asks, Calls, Marks, begun_in, opening, has_next, said, said_lent, is_hushed}

abbrev pub is_running : Phase → Bool
is_running (Running state) = true
is_running _ = false

-- the recorded call that is repeated next, with its draws
abbrev pub is_next : Phase → List Draw → Call → Bool
is_next (Replaying state) kept call = option_map_or (λ one. same_draws kept one.draws && same_call one.call call) (next_of state) false
is_next _ kept call = false

-- the request stands in this phase behind it
abbrev pub frame_fits : Phase → Up → Bool
frame_fits phase (up.Call true kept call) = is_next phase kept call
frame_fits phase (up.Call false kept call) = (length kept == 0) && is_running phase
frame_fits phase _ = true

opened_fits : (phase : Phase) (begun : Bool) (settings : List (List ℕ × Value)) (frame : Up) → frame_fits phase frame ≡ true → list_all (frame_fits phase) (opening begun settings ++ frame ∷ []) ≡ true
opened_fits phase true settings frame here = and_from (frame_fits phase frame) true here refl
opened_fits phase false settings frame here = and_from (frame_fits phase frame) true here refl

next_fits : (phase : Phase) (one : Recorded) (found : Option Recorded) → found ≡ Some one → option_map_or (λ (other : Recorded). same_draws one.draws other.draws && same_call other.call one.call) found false ≡ true
next_fits phase one None is = absurd (let none : ⊥ = cc in none)
next_fits phase one (Some other) is =
    let same : one ≡ other = cc in
    subst (λ (r : Recorded). (same_draws one.draws r.draws && same_call r.call one.call) ≡ true) same
    (and_from (same_draws one.draws one.draws) (same_call one.call one.call) (each_self _ draw_self one.draws) ((same_call_decides one.call one.call).1 refl))

spoken_fits : (before : Phase) (left alive hushed : Bool) (phase : Phase) (send : List Up) (held : Hold) → Spoken before left alive hushed phase send held → list_all (frame_fits phase) send ≡ true
spoken_fits before left alive hushed phase _ _ (Quiet _ hush stays) = refl
spoken_fits before left true hushed _ _ _ Fails = refl
spoken_fits before left false hushed _ _ _ Fails = refl
spoken_fits before left true hushed _ _ _ (Ends may) = refl
spoken_fits before left false hushed _ _ _ (Ends may) = refl
spoken_fits before left alive hushed _ _ _ (Asks opens may asking) = refl
spoken_fits before left alive hushed _ _ _ (Calls opens settings call state) = opened_fits (Running state) (begun_in before) settings (up.Call false [] call) refl
spoken_fits before left alive hushed _ _ _ (Marks opens may settings one state next plain) =
    opened_fits (Replaying state) (begun_in before) settings (up.Call true one.draws one.call) (next_fits (Replaying state) one (next_of state) next)

waited_fits : (terms : Terms) (talk : Talk) (from now : ℕ) → let step : Step = on_waiting terms talk from now in list_all (frame_fits step.0.phase) step.1.send ≡ true
waited_fits terms talk from now = by (nat_le terms.limits.wait (now - from))
  where
    by : (long : Bool) → let step : Step = if long then fails talk false None (PoolWait from now) else (stands talk (Queued (Some from)), quiet) in list_all (frame_fits step.0.phase) step.1.send ≡ true
    by true = refl
    by false = refl

tried_fits : (terms : Terms) (talk : Talk) (now : ℕ) → let step : Step = on_try_failed terms talk now in list_all (frame_fits step.0.phase) step.1.send ≡ true
tried_fits terms talk now = by (nat_le terms.limits.retries (talk.tries + 1))
  where
    by : (many : Bool) → let step : Step = if many then fails (with_tried talk now) false None (Retries (talk.tries + 1)) else (stands (with_tried talk now) (Seeking (lost_of talk.phase)), quiet) in
        list_all (frame_fits step.0.phase) step.1.send ≡ true
    by true = refl
    by false = refl

pub send_fits : (terms : Terms) (talk : Talk) (input : Input) (now : ℕ) → list_all (frame_fits (talk_step terms talk input now).0.phase) (talk_step terms talk input now).1.send ≡ true
send_fits terms talk Start now = refl
send_fits terms talk Waiting now = waited_fits terms talk (waits_from talk.phase now) now
send_fits terms talk (Lent connection ltxid) now =
    let step : Step = on_hello terms talk None ltxid true now in spoken_fits (Greeting None) (has_next talk) true false step.0.phase step.1.send step.1.hold (said_lent terms talk ltxid now)
send_fits terms talk (Opened connection) now = refl
send_fits terms talk TryFailed now = tried_fits terms talk now
send_fits terms talk (Took frame alive) now =
    let step : Step = takes terms talk talk.phase frame alive now in spoken_fits talk.phase (has_next talk) alive (is_hushed frame) step.0.phase step.1.send step.1.hold (said terms talk talk.phase frame alive now refl)
send_fits terms talk (Gone event) now = refl

closing_fits : (phase : Phase) (held : Hold) (how : Back) → list_all (frame_fits phase) (closing held how) ≡ true
closing_fits phase hold.Keep how = refl
closing_fits phase hold.Drop how = refl
closing_fits phase hold.GiveBack back.Closed = refl
closing_fits phase hold.GiveBack back.Idle = refl

-- all frames of a step
pub frames_fit : (terms : Terms) (talk : Talk) (input : Input) (now : ℕ) (pool : Slots) (connection : ℕ) → list_all (frame_fits (talk_step terms talk input now).0.phase) (frames_of pool connection (talk_step terms talk input now).1) ≡ true
frames_fit terms talk input now pool connection =
    let step : Step = talk_step terms talk input now in
    append_all (frame_fits step.0.phase) step.1.send (closing step.1.hold (give_back_answer pool connection)) (send_fits terms talk input now) (closing_fits step.0.phase step.1.hold (give_back_answer pool connection))
