-- What a client sends where it takes a frame or is lent a connection, by cases: nothing, a Close,
-- an End, or one answered frame last.
use Rattle.std.proofs.Common.{◌≡◌, refl, sym, ap, subst, ◌∙◌, Bool, true, false, ℕ, List, [], ◌∷◌, ◌++◌, Option, Some, None, if◌then◌else◌}
use Rattle.std.specs.Prelude.{◌&&◌, ◌||◌, not, nat_le, is_some, is_none, Ok, Err}
use Rattle.std.specs.Str.{bytes_eq}
use Rattle.std.proofs.lemmas.Bool.{or_right}
use Rattle.svc_values.specs.declared.value.Value.{Value}
use Rattle.svc_values.specs.declared.call.Call.{Call}
use Rattle.svc_values.specs.declared.answer.Answer.{Answer}
use Rattle.svc_values.specs.declared.answer.Answer.TheVariants as answer
use Rattle.svc_values.specs.declared.draw.Draw.{Draw}
use Rattle.svc_values.specs.declared.entry.Ltxid.{Ltxid}
use Rattle.svc_values.specs.declared.frame.Up.{Up}
use Rattle.svc_values.specs.declared.frame.Up.TheVariants as up
use Rattle.svc_values.specs.declared.frame.Ahead.TheVariants as ahead
use Rattle.svc_values.specs.declared.frame.Down.{Down}
use Rattle.svc_values.specs.declared.frame.Down.TheVariants as down
use Rattle.call_recorder.specs.declared.recorded.Recorded.{Recorded}
use Rattle.pool_core.specs.declared.answers.Back.{Back}
use Rattle.request_bounds.specs.declared.rule.Why.{Why}
use Rattle.request_bounds.specs.declared.rule.Why.TheVariants as why
use Rattle.client_model.specs.declared.act.Failed.TheVariants.{Disabled}
use Rattle.client_model.specs.declared.act.Shown.{Shown}
use Rattle.client_model.specs.declared.act.Hold.{Hold}
use Rattle.client_model.specs.declared.act.Hold.TheVariants.{Keep, GiveBack, Drop}
use Rattle.client_model.specs.meaning.Told.{over, completed_on, repeated, is_late, uncommitted, told_of}
use Rattle.client_model.specs.meaning.Told as told
use Rattle.client_model.specs.meaning.States.{Living, Losing, Asking, Repeating, asked_on, resumed, next_of}
use Rattle.client_model.specs.meaning.Verifying.{verified_more, mismatch, submitted}
use Rattle.client_model.specs.meaning.Terms.{Terms, Talk, Phase, Idle, Unbegun, Queued, Greeting, Asked, Running, Replaying, unsubmitted}
use Rattle.client_model.specs.meaning.Talk.{Step, if_alive, fails, talk_shown, with_shown, sends_call, sends_or_ends, next_call, begin_of, on_hello, on_reply, sends_marked, on_compared, on_repeated, after_completed, on_completed, on_told, takes}
use Rattle.client_model.specs.Released.{has_slot}
use Rattle.world_model.specs.meaning.Acting.{closing}
use Rattle.world_model.specs.Parts.{implies}
use Rattle.world_model.specs.records.Ready.{is_waiting, alters_none}

-- a Begin was sent on the connection of a request in this phase
abbrev pub begun_in : Phase → Bool
begun_in (Running state) = true
begun_in (Replaying state) = true
begun_in _ = false

-- where none was, it comes first
abbrev pub opening : Bool → List (List ℕ × Value) → List Up
opening true settings = []
opening false settings = up.Begin settings ∷ []

-- it may ask for an outcome, and repeat calls
abbrev pub may_ask : Phase → Bool
may_ask (Greeting (Some lost)) = true
may_ask _ = false

abbrev pub may_mark : Phase → Bool
may_mark (Asked asking) = true
may_mark (Replaying state) = true
may_mark _ = false

-- Behind Hello it ends only where no call is left, and not where it has an outcome to ask.
abbrev pub may_end : Phase → Bool → Bool
may_end (Greeting None) left = not left
may_end (Greeting (Some lost)) left = false
may_end _ left = true

-- no call that alters the service is among those that are repeated, where some may be
abbrev pub repeats_in : Phase → Bool
repeats_in (Replaying state) = alters_none state.track.recorder.calls
repeats_in (Asked asking) = implies (is_none asking.track.why) (alters_none asking.track.recorder.calls)
repeats_in _ = true

-- What is sent in a phase, with the phase that it leads to, and what becomes of the connection.
-- `left`: a call is left; `alive`: the connection is open; `hushed`: the frame that was taken ends
-- the connection, and asks for nothing.
pub data Spoken (before : Phase) (left alive hushed : Bool) : Phase → List Up → Hold → Type 0 where
  Quiet : (phase : Phase) → (hushed || not alive) ≡ true → (has_slot before ≡ true → has_slot phase ≡ true) → Spoken before left alive hushed phase [] Keep
  Fails : Spoken before left alive hushed Idle (if_alive alive (up.Close ∷ [])) Drop
  Ends : may_end before left ≡ true → Spoken before left alive hushed Idle (if_alive alive (up.End ∷ [])) (if alive then GiveBack else Drop)
  Asks : alive ≡ true → may_ask before ≡ true → (asking : Asking) → Spoken before left alive hushed (Asked asking) (up.Outcome asking.ltxid ∷ []) Keep
  Calls : alive ≡ true → (settings : List (List ℕ × Value)) (call : Call) (state : Living) → Spoken before left alive hushed (Running state) (opening (begun_in before) settings ++ up.Call false [] call ∷ []) Keep
  Marks : alive ≡ true → may_mark before ≡ true → (settings : List (List ℕ × Value)) (one : Recorded) (state : Repeating) → next_of state ≡ Some one
      → (repeats_in before ≡ true → alters_none state.track.recorder.calls ≡ true)
      → Spoken before left alive hushed (Replaying state) (opening (begun_in before) settings ++ up.Call true one.draws one.call ∷ []) Keep

abbrev pub IsSpoken : Phase → Bool → Bool → Bool → Step → Type 0
IsSpoken before left alive hushed step = Spoken before left alive hushed step.0.phase step.1.send step.1.hold

abbrev pub has_next : Talk → Bool
has_next talk = is_some (next_call talk)

-- STEPS -------------------------------------------------------------------------------------------

module _ (before : Phase) (left alive hushed : Bool) where
  said_call : (terms : Terms) (talk : Talk) (state : Living) (live : Bool) → live ≡ alive → (settings : List (List ℕ × Value)) (shown : Option Shown) (now : ℕ) (call : Call)
      → IsSpoken before left alive hushed (sends_call terms talk state live (opening (begun_in before) settings) shown now call)
  said_call terms talk state true is settings shown now call = Calls (sym is) settings call _
  said_call terms talk state false is settings shown now call = Quiet (Running state) (or_right hushed (not alive) (ap not (sym is))) (λ out. refl)

  said_next : (terms : Terms) (talk : Talk) (state : Living) (settings : List (List ℕ × Value)) (shown : Option Shown) (now : ℕ) (next : Option Call) → (is_none next ≡ true → may_end before left ≡ true)
      → IsSpoken before left alive hushed (sends_or_ends terms talk state alive (opening (begun_in before) settings) shown now next)
  said_next terms talk state settings shown now None ends = Ends (ends refl)
  said_next terms talk state settings shown now (Some call) ends = said_call terms talk state alive refl settings shown now call

  said_marked : (terms : Terms) (talk : Talk) (state : Repeating) → may_mark before ≡ true → may_end before left ≡ true → (repeats_in before ≡ true → alters_none state.track.recorder.calls ≡ true) → (live : Bool) → live ≡ alive → (settings : List (List ℕ × Value)) (now : ℕ) (one : Option Recorded) → next_of state ≡ one
      → IsSpoken before left alive hushed (sends_marked terms talk state live (opening (begun_in before) settings) now one)
  said_marked terms talk state marks ends plain live is settings now None none =
      subst (λ (one : Bool). IsSpoken before left alive hushed (sends_marked terms talk state one (opening (begun_in before) settings) now None)) (sym is) (said_next terms talk (submitted state) settings None now (next_call talk) (λ last. ends))
  said_marked terms talk state marks ends plain true is settings now (Some one) next = Marks (sym is) marks settings one state next plain
  said_marked terms talk state marks ends plain false is settings now (Some one) next = Quiet (Replaying state) (or_right hushed (not alive) (ap not (sym is))) (λ out. refl)

said_hello : (terms : Terms) (talk : Talk) (lost : Option Losing) (ltxid : Ltxid) (alive : Bool) (now : ℕ) → IsSpoken (Greeting lost) (has_next talk) alive false (on_hello terms talk lost ltxid alive now)
said_hello terms talk None ltxid true now =
    said_next (Greeting None) (has_next talk) true false terms talk (record { track = unsubmitted terms; ltxid = ltxid }) talk.settings None now (next_call talk) (λ last. none_left (next_call talk) last)
  where
    none_left : (next : Option Call) → is_none next ≡ true → not (is_some next) ≡ true
    none_left None last = refl
    none_left (Some call) last = absurd (let none : ⊥ = cc in none)
said_hello terms talk (Some lost) ltxid true now = Asks refl refl (asked_on lost ltxid)
said_hello terms talk None ltxid false now = Quiet (Greeting None) refl (λ out. refl)
said_hello terms talk (Some lost) ltxid false now = Quiet (Greeting (Some lost)) refl (λ out. refl)

-- on a connection that is lent
pub said_lent : (terms : Terms) (talk : Talk) (ltxid : Ltxid) (now : ℕ) → IsSpoken (Greeting None) (has_next talk) true false (on_hello terms talk None ltxid true now)
said_lent terms talk ltxid now = said_hello terms talk None ltxid true now

said_reply : (terms : Terms) (talk : Talk) (state : Living) (left : Bool) (answers : List Answer) (draws : List Draw) (ltxid : Ltxid) (alive : Bool) (now : ℕ) (call : Option Call)
    → IsSpoken (Running state) left alive false (on_reply terms talk state answers draws ltxid alive now call)
said_reply terms talk state left answers draws ltxid alive now None = Fails
said_reply terms talk state left answers draws ltxid alive now (Some call) =
    let after : Talk = talk_shown terms talk call answers in
    said_next (Running state) left alive false terms after (record { track = with_shown terms state.track call answers draws; ltxid = ltxid }) talk.settings
    (Some (record { answers = answers; draws = draws; ltxid = ltxid })) now (next_call after) (λ last. refl)

said_compared : (terms : Terms) (talk : Talk) (state : Repeating) (seen : List ℕ) (left alive : Bool) (answers : List ℕ) (now : ℕ) (test : Bool)
    → IsSpoken (Replaying state) left alive false (on_compared terms talk alive now (if test then Ok (verified_more state) else Err (mismatch state seen answers)))
said_compared terms talk state seen left alive answers now true =
    said_marked (Replaying state) left alive false terms talk (verified_more state) refl refl (λ plain. plain) alive refl talk.settings now (next_of (verified_more state)) refl
said_compared terms talk state seen left alive answers now false = Fails

said_repeated : (terms : Terms) (talk : Talk) (state : Repeating) (left : Bool) (answers : List Answer) (draws : List Draw) (ltxid : Ltxid) (alive : Bool) (now : ℕ) (one : Option Recorded)
    → IsSpoken (Replaying state) left alive false (on_repeated terms talk state answers draws ltxid alive now one)
said_repeated terms talk state left answers draws ltxid alive now None = Fails
said_repeated terms talk state left answers draws ltxid alive now (Some one) =
    said_compared terms talk state one.seen.digest left alive (terms.digest answers) now (bytes_eq one.seen.digest (terms.digest answers))

module _ (asking : Asking) (left alive hushed : Bool) where
  said_behind : (terms : Terms) (talk : Talk) (state : Living) (event : ℕ) (shown : Shown) (now : ℕ) (next : Option Call) → IsSpoken (Asked asking) left alive hushed (after_completed terms talk state event alive shown now next)
  said_behind terms talk state event shown now None = Ends refl
  said_behind terms talk state event shown now (Some call) = by (state.track.set_shown && not terms.rules.keeps)
    where
      by : (gone : Bool) → IsSpoken (Asked asking) left alive hushed
          (if gone then fails talk alive (Some shown) (Disabled (why.StateLost state.track.call) event) else sends_call terms talk state alive (begin_of talk ∷ []) (Some shown) now call)
      by true = Fails
      by false = said_call (Asked asking) left alive hushed terms talk state alive refl talk.settings (Some shown) now call

  said_completed : (terms : Terms) (talk : Talk) (state : Living) (event now : ℕ) (call : Option Call) → IsSpoken (Asked asking) left alive hushed (on_completed terms talk state event alive now call)
  said_completed terms talk state event now None = Fails
  said_completed terms talk state event now (Some call) =
      let after : Talk = talk_shown terms talk call (answer.Committed ∷ []) in
      let next : Living = record state { track = with_shown terms state.track call (answer.Committed ∷ []) [] } in
      said_behind terms after next event (record { answers = answer.Committed ∷ []; draws = []; ltxid = state.ltxid }) now (next_call after)

  said_uncommitted : (terms : Terms) (talk : Talk) (now : ℕ) (reason : Option Why) → asking.track.why ≡ reason → IsSpoken (Asked asking) left alive hushed (on_told terms talk asking alive now (uncommitted reason asking terms.limits now))
  said_uncommitted terms talk now (Some reason) is = Fails
  said_uncommitted terms talk now None is = by (nat_le terms.limits.replays asking.track.replays) (is_late terms.limits.timeout asking.track.first now)
    where
      plain : repeats_in (Asked asking) ≡ true → alters_none asking.track.recorder.calls ≡ true
      plain here = subst (λ (one : Option Why). implies (is_none one) (alters_none asking.track.recorder.calls) ≡ true) is here

      by : (many late : Bool) → IsSpoken (Asked asking) left alive hushed
          (on_told terms talk asking alive now (if many then told.Replays (over asking) else (if late then told.Late (over asking) else told.Replay (repeated asking))))
      by true late = Fails
      by false true = Fails
      by false false = said_marked (Asked asking) left alive hushed terms talk (repeated asking) refl refl plain alive refl talk.settings now (next_of (repeated asking)) refl

  said_told : (terms : Terms) (talk : Talk) (now : ℕ) (committed completed : Bool) → IsSpoken (Asked asking) left alive hushed (on_told terms talk asking alive now (told_of asking committed completed terms.limits now))
  said_told terms talk now true true = said_completed terms talk (resumed (completed_on asking)) asking.event now (next_call talk)
  said_told terms talk now true false = Fails
  said_told terms talk now false completed = said_uncommitted terms talk now asking.track.why refl

-- by these a server ends a connection
abbrev pub is_hushed : Down → Bool
is_hushed down.Blocked = true
is_hushed (down.Refused cause) = true
is_hushed _ = false

-- at each frame that is taken
pub said : (terms : Terms) (talk : Talk) (phase : Phase) (frame : Down) (alive : Bool) (now : ℕ) → talk.phase ≡ phase → IsSpoken phase (has_next talk) alive (is_hushed frame) (takes terms talk phase frame alive now)
said terms talk phase down.Blocked alive now same = Quiet talk.phase refl (λ slot. ap has_slot same ∙ slot)
said terms talk phase (down.Refused cause) alive now same = Quiet talk.phase refl (λ slot. ap has_slot same ∙ slot)
said terms talk (Greeting lost) (down.Hello ltxid) alive now same = said_hello terms talk lost ltxid alive now
said terms talk (Asked asking) (down.OutcomeIs committed completed) alive now same = said_told asking (has_next talk) alive false terms talk now committed completed
said terms talk (Asked asking) (down.OutcomeRefused ahead.Forgotten horizon) alive now same = Fails
said terms talk (Running state) (down.Reply answers draws ltxid) alive now same = said_reply terms talk state (has_next talk) answers draws ltxid alive now (next_call talk)
said terms talk (Replaying state) (down.Reply answers draws ltxid) alive now same = said_repeated terms talk state (has_next talk) answers draws ltxid alive now (next_of state)
said terms talk phase frame alive now same = Fails

-- one with a slot does not wait for one
slot_out : (phase : Phase) → has_slot phase ≡ true → is_waiting phase ≡ false
slot_out Unbegun slot = absurd (let none : ⊥ = cc in none)
slot_out (Queued from) slot = absurd (let none : ⊥ = cc in none)
slot_out phase slot = refl

-- a request that has a slot keeps one, or is over
pub stays_out : (before : Phase) (left alive hushed : Bool) (phase : Phase) (send : List Up) (held : Hold) → Spoken before left alive hushed phase send held → has_slot before ≡ true → is_waiting phase ≡ false
stays_out before left alive hushed phase _ _ (Quiet _ hush stays) out = slot_out phase (stays out)
stays_out before left alive hushed _ _ _ Fails out = refl
stays_out before left alive hushed _ _ _ (Ends may) out = refl
stays_out before left alive hushed _ _ _ (Asks opens may asking) out = refl
stays_out before left alive hushed _ _ _ (Calls opens settings call state) out = refl
stays_out before left alive hushed _ _ _ (Marks opens may settings one state is plain) out = refl

pub stays_slot : (before : Phase) (left alive hushed : Bool) (phase : Phase) (send : List Up) (held : Hold) → Spoken before left alive hushed phase send held → has_slot before ≡ true → held ≡ Keep → has_slot phase ≡ true
stays_slot before left alive hushed phase _ _ (Quiet _ hush stays) slot keep = stays slot
stays_slot before left alive hushed _ _ _ Fails slot keep = absurd (let none : ⊥ = cc in none)
stays_slot before left true hushed _ _ _ (Ends may) slot keep = absurd (let none : ⊥ = cc in none)
stays_slot before left false hushed _ _ _ (Ends may) slot keep = absurd (let none : ⊥ = cc in none)
stays_slot before left alive hushed _ _ _ (Asks opens may asking) slot keep = refl
stays_slot before left alive hushed _ _ _ (Calls opens settings call state) slot keep = refl
stays_slot before left alive hushed _ _ _ (Marks opens may settings one state is plain) slot keep = refl

-- ON A DEAD CONNECTION ----------------------------------------------------------------------------

-- nothing is sent on one that is not open
pub dead_silent : (before : Phase) (left alive hushed : Bool) (phase : Phase) (send : List Up) (held : Hold) (back : Back) → Spoken before left alive hushed phase send held → alive ≡ false → send ++ closing held back ≡ []
dead_silent before left true hushed phase send held back spoken dead = absurd (let none : ⊥ = cc in none)
dead_silent before left false hushed phase _ _ back (Quiet _ hush stays) dead = refl
dead_silent before left false hushed _ _ _ back Fails dead = refl
dead_silent before left false hushed _ _ _ back (Ends may) dead = refl
dead_silent before left false hushed _ _ _ back (Asks alive may asking) dead = absurd (let none : ⊥ = cc in none)
dead_silent before left false hushed _ _ _ back (Calls alive settings call state) dead = absurd (let none : ⊥ = cc in none)
dead_silent before left false hushed _ _ _ back (Marks alive may settings one state is plain) dead = absurd (let none : ⊥ = cc in none)
