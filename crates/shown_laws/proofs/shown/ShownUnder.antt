-- Under which identifier a call is shown: that of the reply, or that of the session which says that
-- it was committed and completed.
use Rattle.std.proofs.Common.{◌≡◌, refl, ap, ◌∙◌, Bool, true, false, ℕ, List, [], ◌∷◌, ◌&&◌, Option, Some, None, if◌then◌else◌}
use Rattle.std.specs.Prelude.{not, nat_le, Result, Ok, Err}
use Rattle.std.specs.Option.{option_map_or}
use Rattle.svc_values.specs.declared.answer.Answer.{Answer}
use Rattle.svc_values.specs.declared.answer.Answer.TheVariants as answer
use Rattle.svc_values.specs.declared.call.Call.{Call}
use Rattle.svc_values.specs.declared.draw.Draw.{Draw}
use Rattle.svc_values.specs.declared.entry.Ltxid.{Ltxid}
use Rattle.svc_values.specs.declared.frame.Ahead.TheVariants as ahead
use Rattle.svc_values.specs.declared.frame.Down.{Down}
use Rattle.svc_values.specs.declared.frame.Down.TheVariants as down
use Rattle.svc_values.specs.declared.frame.Up.{Up}
use Rattle.svc_values.specs.meaning.Identifiers.{same_ltxid}
use Rattle.call_recorder.specs.declared.recorded.Recorded.{Recorded}
use Rattle.request_bounds.specs.declared.rule.Why.{Why}
use Rattle.request_bounds.specs.declared.rule.Why.TheVariants as why
use Rattle.client_model.specs.declared.act.Failed.TheVariants.{Disabled}
use Rattle.client_model.specs.declared.act.Shown.{Shown}
use Rattle.client_model.specs.declared.track.Mismatch.{Mismatch}
use Rattle.client_model.specs.declared.track.Over.{Over}
use Rattle.client_model.specs.meaning.States.{Living, Losing, Asking, Repeating, resumed, next_of}
use Rattle.client_model.specs.meaning.Talk.{fails, begin_of, sends_call, sends_or_ends, next_call, goes_on, talk_shown, with_shown, on_hello, on_reply, sends_marked, repeats, on_compared, on_repeated, after_completed, on_completed, on_told, takes}
use Rattle.client_model.specs.meaning.Terms.{Terms, Talk, Phase, Greeting, Asked, Running, Replaying, unsubmitted}
use Rattle.client_model.specs.meaning.Told as told
use Rattle.client_model.specs.meaning.Told.{completed_on, is_late, uncommitted, told_of, over, repeated}
use Rattle.client_model.specs.meaning.Verifying.{compared, submitted}

-- a call that is shown, if one is, has this identifier
abbrev pub is_under : Ltxid → Option Shown → Bool
is_under x found = option_map_or (λ shown. same_ltxid shown.ltxid x) found true

-- WHAT GOES ON ------------------------------------------------------------------------------------

goes_shown : (terms : Terms) (talk : Talk) (state : Living) (alive : Bool) (before : List Up) (shown : Option Shown) (now : ℕ) → (goes_on terms talk state alive before shown now).1.shown ≡ shown
goes_shown terms talk state alive before shown now = by (next_call talk) alive
  where
    by : (next : Option Call) (alive : Bool) → (sends_or_ends terms talk state alive before shown now next).1.shown ≡ shown
    by None alive = refl
    by (Some call) true = refl
    by (Some call) false = refl

hello_shown : (terms : Terms) (talk : Talk) (lost : Option Losing) (x : Ltxid) (alive : Bool) (now : ℕ) → (on_hello terms talk lost x alive now).1.shown ≡ None
hello_shown terms talk lost x false now = refl
hello_shown terms talk None x true now = goes_shown terms talk (record { track = unsubmitted terms; ltxid = x }) true (begin_of talk ∷ []) None now
hello_shown terms talk (Some lost) x true now = refl

repeats_shown : (terms : Terms) (talk : Talk) (state : Repeating) (alive : Bool) (before : List Up) (now : ℕ) → (repeats terms talk state alive before now).1.shown ≡ None
repeats_shown terms talk state alive before now = by (next_of state)
  where
    by : (next : Option Recorded) → (sends_marked terms talk state alive before now next).1.shown ≡ None
    by None = goes_shown terms talk (submitted state) alive before None now
    by (Some one) = refl

repeated_shown : (terms : Terms) (talk : Talk) (state : Repeating) (answers : List Answer) (draws : List Draw) (x : Ltxid) (alive : Bool) (now : ℕ) (next : Option Recorded) → (on_repeated terms talk state answers draws x alive now next).1.shown ≡ None
repeated_shown terms talk state answers draws x alive now None = refl
repeated_shown terms talk state answers draws x alive now (Some one) = by (compared one state (terms.digest answers))
  where
    by : (result : Result Repeating (Over × Mismatch)) → (on_compared terms talk alive now result).1.shown ≡ None
    by (Ok next) = repeats_shown terms talk next alive [] now
    by (Err fault) = refl

-- A REPLY -----------------------------------------------------------------------------------------

reply_under : (x : Ltxid) (terms : Terms) (talk : Talk) (state : Living) (answers : List Answer) (draws : List Draw) (y : Ltxid) (alive : Bool) (now : ℕ) (next : Option Call) → same_ltxid y x ≡ true
    → is_under x (on_reply terms talk state answers draws y alive now next).1.shown ≡ true
reply_under x terms talk state answers draws y alive now None same = refl
reply_under x terms talk state answers draws y alive now (Some call) same =
    ap (is_under x) (goes_shown terms (talk_shown terms talk call answers) (record { track = with_shown terms state.track call answers draws; ltxid = y }) alive [] (Some (record { answers = answers; draws = draws; ltxid = y })) now) ∙ same

-- AN OUTCOME --------------------------------------------------------------------------------------

behind_shown : (terms : Terms) (talk : Talk) (state : Living) (event : ℕ) (alive : Bool) (shown : Shown) (now : ℕ) (next : Option Call) → (after_completed terms talk state event alive shown now next).1.shown ≡ Some shown
behind_shown terms talk state event alive shown now None = refl
behind_shown terms talk state event alive shown now (Some call) = by (state.track.set_shown && not terms.rules.keeps) alive
  where
    by : (gone live : Bool) → (if gone then fails talk live (Some shown) (Disabled (why.StateLost state.track.call) event) else sends_call terms talk state live (begin_of talk ∷ []) (Some shown) now call).1.shown ≡ Some shown
    by true live = refl
    by false true = refl
    by false false = refl

completed_under : (x : Ltxid) (terms : Terms) (talk : Talk) (state : Living) (event : ℕ) (alive : Bool) (now : ℕ) (next : Option Call) → same_ltxid state.ltxid x ≡ true → is_under x (on_completed terms talk state event alive now next).1.shown ≡ true
completed_under x terms talk state event alive now None same = refl
completed_under x terms talk state event alive now (Some call) same =
    ap (is_under x)
    (behind_shown terms (talk_shown terms talk call (answer.Committed ∷ [])) (record state { track = with_shown terms state.track call (answer.Committed ∷ []) [] }) event alive
    (record { answers = answer.Committed ∷ []; draws = []; ltxid = state.ltxid }) now (next_call (talk_shown terms talk call (answer.Committed ∷ []))))
    ∙ same

uncommitted_shown : (terms : Terms) (talk : Talk) (asking : Asking) (alive : Bool) (now : ℕ) (reason : Option Why) → (on_told terms talk asking alive now (uncommitted reason asking terms.limits now)).1.shown ≡ None
uncommitted_shown terms talk asking alive now (Some reason) = refl
uncommitted_shown terms talk asking alive now None = by (nat_le terms.limits.replays asking.track.replays) (is_late terms.limits.timeout asking.track.first now)
  where
    by : (all late : Bool) → (on_told terms talk asking alive now (if all then told.Replays (over asking) else (if late then told.Late (over asking) else told.Replay (repeated asking)))).1.shown ≡ None
    by true late = refl
    by false true = refl
    by false false = repeats_shown terms talk (repeated asking) alive (begin_of talk ∷ []) now

outcome_under : (x : Ltxid) (terms : Terms) (talk : Talk) (asking : Asking) (committed completed alive : Bool) (now : ℕ) → same_ltxid asking.fresh x ≡ true
    → is_under x (on_told terms talk asking alive now (told_of asking committed completed terms.limits now)).1.shown ≡ true
outcome_under x terms talk asking true true alive now same = completed_under x terms talk (resumed (completed_on asking)) asking.event alive now (next_call talk) same
outcome_under x terms talk asking true false alive now same = refl
outcome_under x terms talk asking false completed alive now same = ap (is_under x) (uncommitted_shown terms talk asking alive now asking.track.why)

-- A FRAME -----------------------------------------------------------------------------------------

-- the identifier of a reply is this one, and where an outcome is taken so is that of the session
-- which tells it
pub data GoesUnder (x : Ltxid) : Phase → Down → Type 0 where
  ByReply : (phase : Phase) (answers : List Answer) (draws : List Draw) (y : Ltxid) → same_ltxid y x ≡ true → GoesUnder x phase (down.Reply answers draws y)
  ByOutcome : (asking : Asking) (committed completed : Bool) → same_ltxid asking.fresh x ≡ true → GoesUnder x (Asked asking) (down.OutcomeIs committed completed)
  ByOther : (phase : Phase) (frame : Down) → ((answers : List Answer) (draws : List Draw) (y : Ltxid) → frame ≡ down.Reply answers draws y → ⊥) → ((asking : Asking) (committed completed : Bool) → phase ≡ Asked asking → frame ≡ down.OutcomeIs committed completed → ⊥)
      → GoesUnder x phase frame

other_shown : (terms : Terms) (talk : Talk) (phase : Phase) (frame : Down) (alive : Bool) (now : ℕ) → ((answers : List Answer) (draws : List Draw) (y : Ltxid) → frame ≡ down.Reply answers draws y → ⊥)
    → ((asking : Asking) (committed completed : Bool) → phase ≡ Asked asking → frame ≡ down.OutcomeIs committed completed → ⊥) → (takes terms talk phase frame alive now).1.shown ≡ None
other_shown terms talk phase (down.Reply answers draws y) alive now no_reply no_outcome = absurd (no_reply answers draws y refl)
other_shown terms talk phase down.Blocked alive now no_reply no_outcome = refl
other_shown terms talk phase (down.Refused cause) alive now no_reply no_outcome = refl
other_shown terms talk (Greeting lost) (down.Hello x) alive now no_reply no_outcome = hello_shown terms talk lost x alive now
other_shown terms talk (Asked asking) (down.OutcomeIs committed completed) alive now no_reply no_outcome = absurd (no_outcome asking committed completed refl refl)
other_shown terms talk (Asked asking) (down.OutcomeRefused ahead.Forgotten horizon) alive now no_reply no_outcome = refl
other_shown terms talk phase frame alive now no_reply no_outcome = refl

pub takes_under : (x : Ltxid) (terms : Terms) (talk : Talk) (phase : Phase) (frame : Down) (alive : Bool) (now : ℕ) → GoesUnder x phase frame → is_under x (takes terms talk phase frame alive now).1.shown ≡ true
takes_under x terms talk _ _ alive now (ByReply phase answers draws y same) = by phase
  where
    by : (phase : Phase) → is_under x (takes terms talk phase (down.Reply answers draws y) alive now).1.shown ≡ true
    by (Running state) = reply_under x terms talk state answers draws y alive now (next_call talk) same
    by (Replaying state) = ap (is_under x) (repeated_shown terms talk state answers draws y alive now (next_of state))
    by _ = refl
takes_under x terms talk _ _ alive now (ByOutcome asking committed completed same) = outcome_under x terms talk asking committed completed alive now same
takes_under x terms talk _ _ alive now (ByOther phase frame no_reply no_outcome) = ap (is_under x) (other_shown terms talk phase frame alive now no_reply no_outcome)
