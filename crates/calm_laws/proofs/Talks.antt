-- What a client says, and how its request may end, while no connection of it is lost and no try
-- fails.
use Rattle.std.proofs.Common.{◌≡◌, refl, ◌∙◌, Bool, true, false, ℕ, ◌&&◌, List, [], ◌∷◌, Option, Some, None, if◌then◌else◌}
use Rattle.std.specs.Prelude.{nat_le, ◌-◌}
use Rattle.std.specs.List.{list_all}
use Rattle.std.proofs.lemmas.Bool.{and_from}
use Rattle.std.proofs.lemmas.List.Folds.{list_all-append}
use Rattle.svc_values.specs.declared.answer.Answer.{Answer}
use Rattle.svc_values.specs.declared.call.Call.{Call}
use Rattle.svc_values.specs.declared.draw.Draw.{Draw}
use Rattle.svc_values.specs.declared.entry.Ltxid.{Ltxid}
use Rattle.svc_values.specs.declared.frame.Up.{Up}
use Rattle.svc_values.specs.declared.frame.Up.TheVariants as up
use Rattle.svc_values.specs.declared.frame.Down.{Down}
use Rattle.svc_values.specs.declared.frame.Down.TheVariants as down
use Rattle.client_model.specs.declared.act.Failed.{Failed}
use Rattle.client_model.specs.declared.act.Failed.TheVariants.{PoolWait, BadPeer}
use Rattle.client_model.specs.declared.act.Shown.{Shown}
use Rattle.client_model.specs.declared.input.Input.{Input}
use Rattle.client_model.specs.declared.input.Input.TheVariants.{Start, Waiting, Lent, Opened, TryFailed, Took, Gone}
use Rattle.client_model.specs.meaning.States.{Living}
use Rattle.client_model.specs.meaning.Talk.{Step, fails, sends_or_ends, next_call, begin_of, on_hello, on_reply, tag_of, takes, lost_of, waits_from, talk_step, talk_shown, with_shown, stands, quiet}
use Rattle.client_model.specs.meaning.Terms.{Terms, Talk, Phase, Queued, Seeking, Greeting, Asked, Running, Replaying, unsubmitted}

-- the request lost no session after its first Begin
abbrev pub is_plain : Phase → Bool
is_plain (Seeking (Some lost)) = false
is_plain (Greeting (Some lost)) = false
is_plain (Asked asking) = false
is_plain (Replaying state) = false
is_plain _ = true

-- it goes on, or waited too long, or met a frame that no service sends
abbrev pub is_fair : Option Failed → Bool
is_fair None = true
is_fair (Some (PoolWait first now)) = true
is_fair (Some (BadPeer tag)) = true
is_fair _ = false

-- the frame asks for no outcome
abbrev pub asks_none : Up → Bool
asks_none (up.Outcome x) = false
asks_none _ = true

-- no try failed, and no connection is gone
abbrev pub is_calm_input : Input → Bool
is_calm_input TryFailed = false
is_calm_input (Gone event) = false
is_calm_input _ = true

abbrev pub is_calm_step : Step → Bool
is_calm_step step = is_plain step.0.phase && (is_fair step.1.failed && list_all asks_none step.1.send)

-- ENDS --------------------------------------------------------------------------------------------

fails_calm : (talk : Talk) (alive : Bool) (failed : Failed) → is_fair (Some failed) ≡ true → is_calm_step (fails talk alive None failed) ≡ true
fails_calm talk true failed fair = and_from (is_fair (Some failed)) true fair refl
fails_calm talk false failed fair = and_from (is_fair (Some failed)) true fair refl

sends_calm : (terms : Terms) (talk : Talk) (state : Living) (alive : Bool) (before : List Up) (shown : Option Shown) (now : ℕ) (next : Option Call) → list_all asks_none before ≡ true
    → is_calm_step (sends_or_ends terms talk state alive before shown now next) ≡ true
sends_calm terms talk state true before shown now None calm = refl
sends_calm terms talk state false before shown now None calm = refl
sends_calm terms talk state true before shown now (Some call) calm =
    list_all-append asks_none before (up.Call false [] call ∷ []) ∙ and_from (list_all asks_none before) true calm refl
sends_calm terms talk state false before shown now (Some call) calm = refl

-- FRAMES ------------------------------------------------------------------------------------------

hello_calm : (terms : Terms) (talk : Talk) (x : Ltxid) (alive : Bool) (now : ℕ) → is_calm_step (on_hello terms talk None x alive now) ≡ true
hello_calm terms talk x true now = sends_calm terms talk (record { track = unsubmitted terms; ltxid = x }) true (begin_of talk ∷ []) None now (next_call talk) refl
hello_calm terms talk x false now = refl

reply_calm : (terms : Terms) (talk : Talk) (state : Living) (answers : List Answer) (draws : List Draw) (x : Ltxid) (alive : Bool) (now : ℕ) (next : Option Call)
    → is_calm_step (on_reply terms talk state answers draws x alive now next) ≡ true
reply_calm terms talk state answers draws x alive now None = fails_calm talk alive (BadPeer (tag_of (down.Reply answers draws x))) refl
reply_calm terms talk state answers draws x alive now (Some call) =
    let later : Talk = talk_shown terms talk call answers in
    sends_calm terms later (record { track = with_shown terms state.track call answers draws; ltxid = x }) alive [] (Some (record { answers = answers; draws = draws; ltxid = x })) now (next_call later) refl

takes_calm : (terms : Terms) (talk : Talk) (phase : Phase) (frame : Down) (alive : Bool) (now : ℕ) → is_plain talk.phase ≡ true → is_plain phase ≡ true → is_calm_step (takes terms talk phase frame alive now) ≡ true
takes_calm terms talk phase down.Blocked alive now so plain = and_from (is_plain talk.phase) true so refl
takes_calm terms talk phase (down.Refused cause) alive now so plain = and_from (is_plain talk.phase) true so refl
takes_calm terms talk (Greeting None) (down.Hello x) alive now so plain = hello_calm terms talk x alive now
takes_calm terms talk (Running state) (down.Reply answers draws x) alive now so plain = reply_calm terms talk state answers draws x alive now (next_call talk)
takes_calm terms talk (Greeting (Some lost)) frame alive now so plain = absurd (let none : ⊥ = cc in none)
takes_calm terms talk (Asked asking) frame alive now so plain = absurd (let none : ⊥ = cc in none)
takes_calm terms talk (Replaying state) frame alive now so plain = absurd (let none : ⊥ = cc in none)
takes_calm terms talk phase frame alive now so plain = fails_calm talk alive (BadPeer (tag_of frame)) refl

-- STEPS -------------------------------------------------------------------------------------------

greets_plain : (phase : Phase) → is_plain phase ≡ true → is_plain (Greeting (lost_of phase)) ≡ true
greets_plain (Seeking None) plain = refl
greets_plain (Greeting None) plain = refl
greets_plain (Seeking (Some lost)) plain = absurd (let none : ⊥ = cc in none)
greets_plain (Greeting (Some lost)) plain = absurd (let none : ⊥ = cc in none)
greets_plain phase plain = refl

waits_calm : (terms : Terms) (talk : Talk) (from now : ℕ) (long : Bool) → is_calm_step (if long then fails talk false None (PoolWait from now) else (stands talk (Queued (Some from)), quiet)) ≡ true
waits_calm terms talk from now true = refl
waits_calm terms talk from now false = refl

-- A request that lost no session goes on so, and ends without an outcome to ask for.
pub steps_calm : (terms : Terms) (talk : Talk) (input : Input) (now : ℕ) → is_plain talk.phase ≡ true → is_calm_input input ≡ true → is_calm_step (talk_step terms talk input now) ≡ true
steps_calm terms talk Start now plain calm = refl
steps_calm terms talk Waiting now plain calm = waits_calm terms talk (waits_from talk.phase now) now (nat_le terms.limits.wait (now - waits_from talk.phase now))
steps_calm terms talk (Lent connection x) now plain calm = hello_calm terms talk x true now
steps_calm terms talk (Opened connection) now plain calm = and_from (is_plain (Greeting (lost_of talk.phase))) true (greets_plain talk.phase plain) refl
steps_calm terms talk (Took frame alive) now plain calm = takes_calm terms talk talk.phase frame alive now plain plain
steps_calm terms talk TryFailed now plain calm = absurd (let none : ⊥ = cc in none)
steps_calm terms talk (Gone event) now plain calm = absurd (let none : ⊥ = cc in none)
