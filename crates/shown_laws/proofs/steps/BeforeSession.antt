-- Before its first session a request takes no reply, and asks for no outcome.
use Rattle.std.proofs.Common.{◌≡◌, refl, ap, subst, Bool, true, false, ℕ, zero, suc, List, [], ◌∷◌, Option, Some, None, if◌then◌else◌}
use Rattle.std.specs.Prelude.{slice_get, nat_le, ◌-◌, ◌+◌}
use Rattle.std.specs.List.{cons_option}
use Rattle.std.proofs.lemmas.Bool.{and_parts}
use Rattle.svc_values.specs.declared.entry.SessionId.{SessionId}
use Rattle.svc_values.specs.declared.frame.Down.{Down}
use Rattle.svc_values.specs.declared.frame.Down.TheVariants as down
use Rattle.svc_values.specs.declared.frame.Up.{Up}
use Rattle.svc_values.specs.declared.frame.Up.TheVariants as up
use Rattle.client_model.specs.declared.act.Failed.TheVariants.{PoolWait, Retries}
use Rattle.client_model.specs.declared.input.Input.{Input}
use Rattle.client_model.specs.declared.input.Input.TheVariants.{Start, Waiting, Lent, Opened, TryFailed, Took, Gone}
use Rattle.client_model.specs.meaning.Conversation.{talk_at}
use Rattle.client_model.specs.Conversation.{talk_after}
use Rattle.client_model.specs.meaning.States.{Losing}
use Rattle.client_model.specs.meaning.Talk.{Step as TalkStep, talk_step, takes, lost_of, loses, waits_from, stands, fails, quiet, with_tried}
use Rattle.client_model.specs.meaning.Terms.{Terms, Talk, Phase, Idle, Unbegun, Queued, Seeking, Greeting, Asked, Running, Replaying}
use Rattle.run_clauses.specs.meaning.Reports.{reached}
use Rattle.outage_schedule.specs.declared.item.Item.{Item}
use Rattle.outage_schedule.specs.declared.item.Item.TheVariants as item
use Rattle.world_model.specs.meaning.Clients.{Step, Doing, Client, client_at}
use Rattle.world_model.specs.records.Conversing.{inputs_of, first_talk, Talks, IsTalking, AreThrough, AllTalk}
use Rattle.world_model.specs.meaning.Frames.{Sent}
use Rattle.world_model.specs.records.Hold.{is_awaited}
use Rattle.world_model.specs.Sames.{same_up, same_sent}
use Rattle.world_model.specs.meaning.Serving.{is_item_of}
use Rattle.shown_laws.proofs.steps.SessionsReached.{sessions_reached}
use Rattle.shown_laws.proofs.steps.TakenAs.{connect_waits}

-- PHASES ------------------------------------------------------------------------------------------

-- the phases of a request that had no session yet, and of one that is over
abbrev pub is_unmet : Phase → Bool
is_unmet Idle = true
is_unmet Unbegun = true
is_unmet (Queued from) = true
is_unmet (Seeking None) = true
is_unmet (Greeting None) = true
is_unmet _ = false

loses_none : (phase : Phase) → is_unmet phase ≡ true → lost_of phase ≡ None
loses_none (Seeking None) is = refl
loses_none (Seeking (Some lost)) is = absurd (let none : ⊥ = cc in none)
loses_none (Greeting None) is = refl
loses_none (Greeting (Some lost)) is = absurd (let none : ⊥ = cc in none)
loses_none _ is = refl

still_unmet : (phase : Phase) (event : ℕ) → is_unmet phase ≡ true → is_unmet (loses phase event) ≡ true
still_unmet (Greeting None) event is = refl
still_unmet (Greeting (Some lost)) event is = absurd (let none : ⊥ = cc in none)
still_unmet (Asked asking) event is = absurd (let none : ⊥ = cc in none)
still_unmet (Running state) event is = absurd (let none : ⊥ = cc in none)
still_unmet (Replaying state) event is = absurd (let none : ⊥ = cc in none)
still_unmet _ event is = is

-- no frame but a Hello brings it further
takes_unmet : (terms : Terms) (talk : Talk) (phase : Phase) (frame : Down) (alive : Bool) (now : ℕ) → is_unmet talk.phase ≡ true → is_unmet phase ≡ true → reached (Took frame alive) ≡ None
    → is_unmet (takes terms talk phase frame alive now).0.phase ≡ true
takes_unmet terms talk phase down.Blocked alive now own is none = own
takes_unmet terms talk phase (down.Refused cause) alive now own is none = own
takes_unmet terms talk phase (down.Hello x) alive now own is none = absurd (let never : ⊥ = cc in never)
takes_unmet terms talk (Asked asking) frame alive now own is none = absurd (let never : ⊥ = cc in never)
takes_unmet terms talk (Running state) frame alive now own is none = absurd (let never : ⊥ = cc in never)
takes_unmet terms talk (Replaying state) frame alive now own is none = absurd (let never : ⊥ = cc in never)
takes_unmet terms talk _ _ alive now own is none = refl

either_unmet : (test : Bool) (one other : TalkStep) → is_unmet one.0.phase ≡ true → is_unmet other.0.phase ≡ true → is_unmet (if test then one else other).0.phase ≡ true
either_unmet true one other is also = is
either_unmet false one other is also = also

step_unmet : (terms : Terms) (talk : Talk) (input : Input) (now : ℕ) → is_unmet talk.phase ≡ true → reached input ≡ None → is_unmet (talk_step terms talk input now).0.phase ≡ true
step_unmet terms talk Start now is none = refl
step_unmet terms talk Waiting now is none =
    either_unmet (nat_le terms.limits.wait (now - waits_from talk.phase now)) (fails talk false None (PoolWait (waits_from talk.phase now) now)) (stands talk (Queued (Some (waits_from talk.phase now))), quiet) refl refl
step_unmet terms talk (Lent connection ltxid) now is none = absurd (let never : ⊥ = cc in never)
step_unmet terms talk (Opened connection) now is none = ap (λ (lost : Option Losing). is_unmet (Greeting lost)) (loses_none talk.phase is)
step_unmet terms talk TryFailed now is none =
    either_unmet (nat_le terms.limits.retries (talk.tries + 1)) (fails (with_tried talk now) false None (Retries (talk.tries + 1))) (stands (with_tried talk now) (Seeking (lost_of talk.phase)), quiet) refl
    (ap (λ (lost : Option Losing). is_unmet (Seeking lost)) (loses_none talk.phase is))
step_unmet terms talk (Took frame alive) now is none = takes_unmet terms talk talk.phase frame alive now is is none
step_unmet terms talk (Gone event) now is none = still_unmet talk.phase event is

after_unmet : (terms : Terms) (talk : Talk) (steps : List Step) → is_unmet talk.phase ≡ true → sessions_reached steps ≡ [] → is_unmet (talk_after terms talk (inputs_of steps)).phase ≡ true
after_unmet terms talk [] is none = is
after_unmet terms talk (step ∷ steps) is none = by (reached step.done.input) refl none (after_unmet terms (talk_at terms talk (step.done.input, step.done.now)) steps)
  where
    by : (found : Option SessionId) → reached step.done.input ≡ found → cons_option found (sessions_reached steps) ≡ []
        → (is_unmet (talk_at terms talk (step.done.input, step.done.now)).phase ≡ true → sessions_reached steps ≡ [] → is_unmet (talk_after terms talk (inputs_of (step ∷ steps))).phase ≡ true)
        → is_unmet (talk_after terms talk (inputs_of (step ∷ steps))).phase ≡ true
    by (Some session) has none rest = absurd (let never : ⊥ = cc in never)
    by None has none rest = rest (step_unmet terms talk step.done.input step.done.now is has) none

-- a request in course that had no session
pub doing_unmet : (terms : Terms) (due : Bool) (doing : Doing) → Talks terms due doing → sessions_reached doing.steps ≡ [] → is_unmet doing.talk.phase ≡ true
doing_unmet terms due doing talks none =
    subst (λ (talk : Talk). is_unmet talk.phase ≡ true) talks.stands (after_unmet terms (first_talk doing.request) doing.steps refl none)

-- WHAT IT TAKES -----------------------------------------------------------------------------------

same_connect : (a b : Up) → same_up a b ≡ true → b ≡ up.Connect → a ≡ up.Connect
same_connect up.Connect b same is = refl
same_connect (up.Begin settings) up.Connect same is = absurd (let never : ⊥ = cc in never)
same_connect (up.Call replay kept call) up.Connect same is = absurd (let never : ⊥ = cc in never)
same_connect (up.Outcome x) up.Connect same is = absurd (let never : ⊥ = cc in never)
same_connect up.End up.Connect same is = absurd (let never : ⊥ = cc in never)
same_connect up.Close up.Connect same is = absurd (let never : ⊥ = cc in never)
same_connect _ _ same is = absurd (let never : ⊥ = cc in never)

item_of_connect : (one : Item) → is_item_of up.Connect one ≡ true → one ≡ item.Connect
item_of_connect item.Connect is = refl
item_of_connect _ is = absurd (let never : ⊥ = cc in never)

awaits_connect : (phase : Phase) (sent : Sent) → is_unmet phase ≡ true → is_awaited phase sent ≡ true → sent.frame ≡ up.Connect
awaits_connect (Greeting None) sent is awaited = connect_waits sent.frame awaited
awaits_connect _ sent is awaited = absurd (let never : ⊥ = cc in never)

-- the item of what it takes is a Connect
pub takes_connect : (phase : Phase) (answered sent : Sent) (one : Item) → is_unmet phase ≡ true → is_awaited phase sent ≡ true → same_sent answered sent ≡ true → is_item_of answered.frame one ≡ true → one ≡ item.Connect
takes_connect phase answered sent one is awaited same its =
    let frames : same_up answered.frame sent.frame ≡ true = (and_parts _ (same_up answered.frame sent.frame) (and_parts _ _ same).1).1 in
    let connect : answered.frame ≡ up.Connect = same_connect answered.frame sent.frame frames (awaits_connect phase sent is awaited) in
    item_of_connect one (subst (λ (frame : Up). is_item_of frame one ≡ true) connect its)

-- CLIENTS -----------------------------------------------------------------------------------------

talks_index : (terms : Terms) (clients : List Client) (index : ℕ) (client : Client) → AllTalk terms clients → slice_get clients index ≡ Some client → AreThrough terms client.past × IsTalking terms client.now
talks_index terms [] index client all is = absurd (let none : ⊥ = cc in none)
talks_index terms (first ∷ clients) zero client all is =
    let same : first ≡ client = cc in
    subst (λ (one : Client). AreThrough terms one.past × IsTalking terms one.now) same all.0
talks_index terms (first ∷ clients) (suc index) client all is = talks_index terms clients index client all.1 is

pub talks_at : (terms : Terms) (clients : List Client) (number : ℕ) (client : Client) → AllTalk terms clients → client_at clients number ≡ Some client → AreThrough terms client.past × IsTalking terms client.now
talks_at terms clients zero client all is = absurd (let none : ⊥ = cc in none)
talks_at terms clients (suc index) client all is = talks_index terms clients index client all is
