-- A request that awaits a Hello opened its connection, and was shown nothing since.
use Rattle.std.proofs.Common.{◌≡◌, refl, sym, ap, subst, ◌∙◌, append-nil, append_assoc, Bool, true, false, ℕ, ◌&&◌, List, [], ◌∷◌, ◌++◌, Option, Some, None, ◌⊎◌, inl, inr, if◌then◌else◌}
use Rattle.std.specs.Prelude.{nat_le, not, ◌-◌, ◌+◌, is_none, Result, Ok, Err}
use Rattle.std.specs.List.{list_all}
use Rattle.std.proofs.lemmas.Bool.{and_parts, and_from}
use Rattle.std.proofs.lemmas.List.Sums.{fold-append}
use Rattle.svc_values.specs.declared.answer.Answer.{Answer}
use Rattle.svc_values.specs.declared.answer.Answer.TheVariants as answer
use Rattle.svc_values.specs.declared.call.Call.{Call}
use Rattle.svc_values.specs.declared.draw.Draw.{Draw}
use Rattle.svc_values.specs.declared.entry.Ltxid.{Ltxid}
use Rattle.svc_values.specs.declared.frame.Ahead.TheVariants as ahead
use Rattle.svc_values.specs.declared.frame.Down.{Down}
use Rattle.svc_values.specs.declared.frame.Down.TheVariants as down
use Rattle.svc_values.specs.declared.frame.Up.{Up}
use Rattle.call_recorder.specs.declared.recorded.Recorded.{Recorded}
use Rattle.client_model.specs.meaning.Conversation.{Done, talk_at, done_at}
use Rattle.client_model.specs.Conversation.{steps_of, talk_after}
use Rattle.client_model.specs.declared.act.Shown.{Shown}
use Rattle.client_model.specs.declared.track.Mismatch.{Mismatch}
use Rattle.client_model.specs.declared.track.Over.{Over}
use Rattle.client_model.specs.meaning.States.{Living, Losing, Asking, Repeating, next_of, resumed}
use Rattle.client_model.specs.meaning.Talk.{Step as TalkStep, talk_step, takes, on_hello, goes_on, sends_or_ends, next_call, on_reply, on_completed, after_completed, on_told, on_repeated, on_compared, sends_marked, waits_from, begin_of, talk_shown, with_shown, loses}
use Rattle.client_model.specs.meaning.Terms.{Terms, Talk, Phase, Idle, Unbegun, Queued, Seeking, Greeting, Asked, Running, Replaying, unsubmitted}
use Rattle.client_model.specs.meaning.Told.{Told, told_of}
use Rattle.client_model.specs.meaning.Told as told_as
use Rattle.client_model.specs.meaning.Verifying.{compared}
use Rattle.client_model.specs.declared.input.Input.{Input}
use Rattle.client_model.specs.declared.input.Input.TheVariants.{Start, Waiting, Lent, Opened, TryFailed, Took, Gone}
use Rattle.world_model.specs.meaning.Clients.{Step, Doing}
use Rattle.world_model.specs.records.Conversing.{timed, inputs_of, first_talk, connected, connection_after, Talks}
use Rattle.world_model.specs.Words.{dones_of}

abbrev pub is_greeting : Phase → Bool
is_greeting (Greeting lost) = true
is_greeting _ = false

-- it awaits no Hello
abbrev Not : TalkStep → Type 0
Not step = is_greeting step.0.phase ≡ false

-- WHERE IT GOES ON --------------------------------------------------------------------------------

either_not : (test : Bool) (one other : TalkStep) → Not one → Not other → Not (if test then one else other)
either_not true one other is also = is
either_not false one other is also = also

on_not : (terms : Terms) (talk : Talk) (state : Living) (alive : Bool) (before : List Up) (shown : Option Shown) (now : ℕ) (next : Option Call) → Not (sends_or_ends terms talk state alive before shown now next)
on_not terms talk state alive before shown now None = refl
on_not terms talk state true before shown now (Some call) = refl
on_not terms talk state false before shown now (Some call) = refl

goes_not : (terms : Terms) (talk : Talk) (state : Living) (alive : Bool) (before : List Up) (shown : Option Shown) (now : ℕ) → Not (goes_on terms talk state alive before shown now)
goes_not terms talk state alive before shown now = on_not terms talk state alive before shown now (next_call talk)

marked_not : (terms : Terms) (talk : Talk) (state : Repeating) (alive : Bool) (before : List Up) (now : ℕ) (next : Option Recorded) → Not (sends_marked terms talk state alive before now next)
marked_not terms talk state alive before now None = goes_not terms talk _ alive before None now
marked_not terms talk state alive before now (Some one) = refl

compared_not : (terms : Terms) (talk : Talk) (alive : Bool) (now : ℕ) (found : Result Repeating (Over × Mismatch)) → Not (on_compared terms talk alive now found)
compared_not terms talk alive now (Ok state) = marked_not terms talk state alive [] now (next_of state)
compared_not terms talk alive now (Err fault) = refl

repeated_not : (terms : Terms) (talk : Talk) (state : Repeating) (answers : List Answer) (draws : List Draw) (ltxid : Ltxid) (alive : Bool) (now : ℕ) (next : Option Recorded) → Not (on_repeated terms talk state answers draws ltxid alive now next)
repeated_not terms talk state answers draws ltxid alive now None = refl
repeated_not terms talk state answers draws ltxid alive now (Some one) = compared_not terms talk alive now (compared one state (terms.digest answers))

reply_not : (terms : Terms) (talk : Talk) (state : Living) (answers : List Answer) (draws : List Draw) (ltxid : Ltxid) (alive : Bool) (now : ℕ) (next : Option Call) → Not (on_reply terms talk state answers draws ltxid alive now next)
reply_not terms talk state answers draws ltxid alive now None = refl
reply_not terms talk state answers draws ltxid alive now (Some one) = goes_not terms (talk_shown terms talk one answers) _ alive [] _ now

behind_not : (terms : Terms) (talk : Talk) (state : Living) (event : ℕ) (alive : Bool) (shown : Shown) (now : ℕ) (next : Option Call) → Not (after_completed terms talk state event alive shown now next)
behind_not terms talk state event alive shown now None = refl
behind_not terms talk state event alive shown now (Some call) =
    either_not (state.track.set_shown && not terms.rules.keeps) _ _ refl (on_not terms talk state alive (begin_of talk ∷ []) (Some shown) now (Some call))

completed_not : (terms : Terms) (talk : Talk) (state : Living) (event : ℕ) (alive : Bool) (now : ℕ) (next : Option Call) → Not (on_completed terms talk state event alive now next)
completed_not terms talk state event alive now None = refl
completed_not terms talk state event alive now (Some one) =
    behind_not terms (talk_shown terms talk one (answer.Committed ∷ [])) (record state { track = with_shown terms state.track one (answer.Committed ∷ []) [] }) event alive (record { answers = answer.Committed ∷ []; draws = []; ltxid = state.ltxid }) now
    (next_call (talk_shown terms talk one (answer.Committed ∷ [])))

told_not : (terms : Terms) (talk : Talk) (asking : Asking) (alive : Bool) (now : ℕ) (found : Told) → Not (on_told terms talk asking alive now found)
told_not terms talk asking alive now (told_as.Committed state) = completed_not terms talk (resumed state) state.event alive now (next_call talk)
told_not terms talk asking alive now (told_as.Incomplete over) = refl
told_not terms talk asking alive now (told_as.Disabled over reason) = refl
told_not terms talk asking alive now (told_as.Replays over) = refl
told_not terms talk asking alive now (told_as.Late over) = refl
told_not terms talk asking alive now (told_as.Replay state) = marked_not terms talk state alive (begin_of talk ∷ []) now (next_of state)

-- BY THE INPUT ------------------------------------------------------------------------------------

-- It awaits no Hello, or it stands as before, and was shown nothing.
abbrev Rests : Phase → TalkStep → Type 0
Rests phase step = Not step ⊎ ((step.0.phase ≡ phase) × (step.1.shown ≡ None))

hello_rests : (terms : Terms) (talk : Talk) (lost : Option Losing) (ltxid : Ltxid) (alive : Bool) (now : ℕ) → Rests (Greeting lost) (on_hello terms talk lost ltxid alive now)
hello_rests terms talk lost ltxid false now = inr (refl, refl)
hello_rests terms talk None ltxid true now = inl (goes_not terms talk (record { track = unsubmitted terms; ltxid = ltxid }) true (begin_of talk ∷ []) None now)
hello_rests terms talk (Some lost) ltxid true now = inl refl

takes_rests : (terms : Terms) (talk : Talk) (phase : Phase) (frame : Down) (alive : Bool) (now : ℕ) → talk.phase ≡ phase → Rests phase (takes terms talk phase frame alive now)
takes_rests terms talk phase down.Blocked alive now same = inr (same, refl)
takes_rests terms talk phase (down.Refused cause) alive now same = inr (same, refl)
takes_rests terms talk (Greeting lost) (down.Hello ltxid) alive now same = hello_rests terms talk lost ltxid alive now
takes_rests terms talk (Asked asking) (down.OutcomeIs committed completed) alive now same = inl (told_not terms talk asking alive now (told_of asking committed completed terms.limits now))
takes_rests terms talk (Asked asking) (down.OutcomeRefused ahead.Forgotten horizon) alive now same = inl refl
takes_rests terms talk (Running state) (down.Reply answers draws ltxid) alive now same = inl (reply_not terms talk state answers draws ltxid alive now (next_call talk))
takes_rests terms talk (Replaying state) (down.Reply answers draws ltxid) alive now same = inl (repeated_not terms talk state answers draws ltxid alive now (next_of state))
takes_rests terms talk phase frame alive now same = inl refl

lost_not : (phase : Phase) (event : ℕ) → is_greeting (loses phase event) ≡ false
lost_not (Greeting lost) event = refl
lost_not (Asked asking) event = refl
lost_not (Running state) event = refl
lost_not (Replaying state) event = refl
lost_not Idle event = refl
lost_not Unbegun event = refl
lost_not (Queued from) event = refl
lost_not (Seeking lost) event = refl

-- what a step does to a request that awaits a Hello behind it
data Greets (phase : Phase) (step : TalkStep) : Input → Type 0 where
  Opens : (connection : ℕ) → step.1.shown ≡ None → Greets phase step (Opened connection)
  Stays : (frame : Down) (alive : Bool) → step.0.phase ≡ phase → step.1.shown ≡ None → Greets phase step (Took frame alive)

step_greets : (terms : Terms) (talk : Talk) (input : Input) (now : ℕ) → is_greeting (talk_step terms talk input now).0.phase ≡ true → Greets talk.phase (talk_step terms talk input now) input
step_greets terms talk Start now is = absurd (let none : ⊥ = cc in none)
step_greets terms talk Waiting now is =
    let not : is_greeting (talk_step terms talk Waiting now).0.phase ≡ false = either_not (nat_le terms.limits.wait (now - waits_from talk.phase now)) _ _ refl refl in
    absurd (let none : ⊥ = cc in none)
step_greets terms talk (Lent connection ltxid) now is =
    let not : is_greeting (talk_step terms talk (Lent connection ltxid) now).0.phase ≡ false = goes_not terms talk (record { track = unsubmitted terms; ltxid = ltxid }) true (begin_of talk ∷ []) None now in
    absurd (let none : ⊥ = cc in none)
step_greets terms talk (Opened connection) now is = Opens connection refl
step_greets terms talk TryFailed now is =
    let not : is_greeting (talk_step terms talk TryFailed now).0.phase ≡ false = either_not (nat_le terms.limits.retries (talk.tries + 1)) _ _ refl refl in
    absurd (let none : ⊥ = cc in none)
step_greets terms talk (Gone event) now is =
    let not : is_greeting (talk_step terms talk (Gone event) now).0.phase ≡ false = lost_not talk.phase event in
    absurd (let none : ⊥ = cc in none)
step_greets terms talk (Took frame alive) now is = by (takes_rests terms talk talk.phase frame alive now refl)
  where
    by : Rests talk.phase (talk_step terms talk (Took frame alive) now) → Greets talk.phase (talk_step terms talk (Took frame alive) now) (Took frame alive)
    by (inl not) = absurd (let none : ⊥ = cc in none)
    by (inr stays) = Stays frame alive stays.0 stays.1

-- CONVERSATIONS -----------------------------------------------------------------------------------

abbrev pub shows_none : Step → Bool
shows_none step = is_none step.done.act.shown

-- It opened the connection of this number, has it since, and was shown nothing since.
pub record Since (steps : List Step) : Type 0 where
  pub before : List Step
  pub opening : Step
  pub later : List Step
  pub all : steps ≡ before ++ opening ∷ later
  pub number : ℕ
  pub opens : opening.done.input ≡ Opened number
  pub silent : list_all shows_none (opening ∷ later) ≡ true
  pub has : connection_after steps ≡ Some number

abbrev after_input : Option ℕ → Step → Option ℕ
after_input had step = connected had step.done.input

longer_has : (steps : List Step) (step : Step) → connection_after (steps ++ step ∷ []) ≡ connected (connection_after steps) step.done.input
longer_has steps step = fold-append after_input None steps (step ∷ [])

all_more : (steps : List Step) (step : Step) → list_all shows_none steps ≡ true → shows_none step ≡ true → list_all shows_none (steps ++ step ∷ []) ≡ true
all_more [] step all is = and_from (shows_none step) true is refl
all_more (first ∷ steps) step all is =
    let parts = and_parts (shows_none first) (list_all shows_none steps) all in
    and_from (shows_none first) (list_all shows_none (steps ++ step ∷ [])) parts.0 (all_more steps step parts.1 is)

module _ (steps : List Step) (step : Step) where
  opened_since : (connection : ℕ) → step.done.input ≡ Opened connection → shows_none step ≡ true → Since (steps ++ step ∷ [])
  opened_since connection is silent = record {
    before = steps;
    opening = step;
    later = [];
    all = refl;
    number = connection;
    opens = is;
    silent = and_from (shows_none step) true silent refl;
    has = longer_has steps step ∙ ap (connected (connection_after steps)) is;
  }

  took_since : (frame : Down) (alive : Bool) → step.done.input ≡ Took frame alive → shows_none step ≡ true → Since steps → Since (steps ++ step ∷ [])
  took_since frame alive is silent was = record {
    before = was.before;
    opening = was.opening;
    later = was.later ++ step ∷ [];
    all = ap (λ (l : List Step). l ++ step ∷ []) was.all ∙ append_assoc was.before (was.opening ∷ was.later) (step ∷ []);
    number = was.number;
    opens = was.opens;
    silent = all_more (was.opening ∷ was.later) step was.silent silent;
    has = longer_has steps step ∙ (ap (connected (connection_after steps)) is ∙ was.has);
  }

greets_on : (terms : Terms) (talk : Talk) (before steps : List Step) → dones_of steps ≡ steps_of terms talk (inputs_of steps) → (is_greeting talk.phase ≡ true → Since before) → is_greeting (talk_after terms talk (inputs_of steps)).phase ≡ true → Since (before ++ steps)
greets_on terms talk before [] acts was now = subst Since (sym (append-nil before)) (was now)
greets_on terms talk before (step ∷ steps) acts was now =
    subst Since (append_assoc before (step ∷ []) steps) (greets_on terms (talk_at terms talk (timed step)) (before ++ step ∷ []) steps rest next now)
  where
    own : step.done ≡ done_at terms talk (timed step)
    own = cc

    rest : dones_of steps ≡ steps_of terms (talk_at terms talk (timed step)) (inputs_of steps)
    rest = cc

    silent : (talk_step terms talk step.done.input step.done.now).1.shown ≡ None → shows_none step ≡ true
    silent none = ap (λ (d : Done). is_none d.act.shown) own ∙ ap is_none none

    by : (input : Input) → step.done.input ≡ input → Greets talk.phase (talk_step terms talk step.done.input step.done.now) input → is_greeting (talk_step terms talk step.done.input step.done.now).0.phase ≡ true → Since (before ++ step ∷ [])
    by _ is (Opens connection none) greets = opened_since before step connection is (silent none)
    by _ is (Stays frame alive same none) greets = took_since before step frame alive is (silent none) (was (ap is_greeting (sym same) ∙ greets))

    next : is_greeting (talk_at terms talk (timed step)).phase ≡ true → Since (before ++ step ∷ [])
    next greets = by step.done.input refl (step_greets terms talk step.done.input step.done.now greets) greets

-- of a request in course
pub greeted_since : (terms : Terms) (due : Bool) (doing : Doing) → Talks terms due doing → is_greeting doing.talk.phase ≡ true → Since doing.steps
greeted_since terms due doing talks greets =
    greets_on terms (first_talk doing.request) [] doing.steps talks.converses.acts (λ never. absurd (let none : ⊥ = cc in none)) (ap (λ (talk : Talk). is_greeting talk.phase) talks.stands ∙ greets)
