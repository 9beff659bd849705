-- How a request ends: without an error it has no call left, and with one it has; and it shows
-- Incomplete at an outcome that says committed and not completed.
use Rattle.std.proofs.Common.{◌≡◌, refl, sym, ap, subst, ◌∙◌, Bool, true, false, ℕ, ◌+◌, ◌-◌, ◌||◌, cond, drop, List, [], ◌∷◌, Option, Some, None, if◌then◌else◌}
use Rattle.std.specs.Prelude.{◌&&◌, not, nat_le, slice_get, is_some, is_none, Ok, Err}
use Rattle.std.specs.Option.{option_map_or}
use Rattle.std.specs.Str.{bytes_eq}
use Rattle.svc_values.specs.declared.answer.Answer.{Answer}
use Rattle.svc_values.specs.declared.answer.Answer.TheVariants as answer
use Rattle.svc_values.specs.declared.call.Call.{Call}
use Rattle.svc_values.specs.declared.draw.Draw.{Draw}
use Rattle.svc_values.specs.declared.entry.Ltxid.{Ltxid}
use Rattle.svc_values.specs.declared.frame.Ahead.TheVariants as ahead
use Rattle.svc_values.specs.declared.frame.Down.{Down}
use Rattle.svc_values.specs.declared.frame.Down.TheVariants as down
use Rattle.svc_values.specs.declared.frame.Up.{Up}
use Rattle.svc_values.specs.meaning.Identifiers.{same_ltxid}
use Rattle.call_recorder.specs.declared.recorded.Recorded.{Recorded}
use Rattle.request_bounds.specs.declared.rule.Why.{Why}
use Rattle.request_bounds.specs.declared.rule.Why.TheVariants as why
use Rattle.client_model.specs.declared.act.Failed.{Failed}
use Rattle.client_model.specs.declared.act.Failed.TheVariants as failed
use Rattle.client_model.specs.declared.act.Hold.{Hold}
use Rattle.client_model.specs.declared.act.Hold.TheVariants as hold
use Rattle.client_model.specs.declared.act.Shown.{Shown}
use Rattle.client_model.specs.declared.input.Input.{Input}
use Rattle.client_model.specs.declared.input.Input.TheVariants.{Start, Waiting, Lent, Opened, TryFailed, Took, Gone}
use Rattle.client_model.specs.meaning.States.{Living, Losing, Asking, Repeating, resumed, next_of}
use Rattle.client_model.specs.meaning.Talk.{Step, stands, quiet, fails, with_tried, lost_of, begin_of, talk_shown, with_shown, next_call, sends_call, sends_or_ends, on_hello, on_reply, sends_marked, on_compared, on_repeated, after_completed, on_completed, on_told, takes, waits_from, talk_step}
use Rattle.client_model.specs.meaning.Terms.{Terms, Talk, Phase, Queued, Seeking, Greeting, Asked, Running, Replaying, unsubmitted}
use Rattle.client_model.specs.meaning.Told.{over, completed_on, repeated, is_late, uncommitted, told_of}
use Rattle.client_model.specs.meaning.Told as told
use Rattle.client_model.specs.meaning.Verifying.{verified_more, mismatch, submitted}
use Rattle.invariant_laws.proofs.talks.TalkFails.{lets_may, may_fail, no_hello, taken_fails, told_to}
use Rattle.invariant_laws.proofs.losses.OutcomesTold.{fits_input}
use Rattle.invariant_laws.proofs.losses.ReplyFits.{is_expected}
use Rattle.invariant_laws.proofs.talks.TalkPending.{no_ahead}
use Rattle.world_model.proofs.Offered.{not_both}

abbrev keeps_on : Hold → Bool
keeps_on hold.Keep = true
keeps_on hold.GiveBack = false
keeps_on hold.Drop = false

-- where it fails one of these is left behind what it shows, and where it ends without an error none
-- is
abbrev ends_by : List Call → Option Shown → Hold → Option Failed → Bool
ends_by left shown held None = keeps_on held || is_none (slice_get left (cond (is_some shown) 1 0))
ends_by left shown held (Some fault) = is_some (slice_get left (cond (is_some shown) 1 0))

abbrev EndsSo : List Call → Step → Type 0
EndsSo left step = ends_by left step.1.shown step.1.hold step.1.failed ≡ true

behind_first : (left : List Call) → slice_get (drop 1 left) 0 ≡ slice_get left 1
behind_first [] = refl
behind_first (call ∷ left) = refl

module _ (left : List Call) where
  ends_call : (terms : Terms) (talk : Talk) (state : Living) (alive : Bool) (before : List Up) (shown : Option Shown) (now : ℕ) (call : Call) → EndsSo left (sends_call terms talk state alive before shown now call)
  ends_call terms talk state true before shown now call = refl
  ends_call terms talk state false before shown now call = refl

  ends_next : (terms : Terms) (talk : Talk) (state : Living) (alive : Bool) (before : List Up) (shown : Option Shown) (now : ℕ) (next : Option Call) → (next ≡ None → is_none (slice_get left (cond (is_some shown) 1 0)) ≡ true) → EndsSo left (sends_or_ends terms talk state alive before shown now next)
  ends_next terms talk state true before shown now None none = none refl
  ends_next terms talk state false before shown now None none = none refl
  ends_next terms talk state alive before shown now (Some call) none = ends_call terms talk state alive before shown now call

module _ (terms : Terms) (talk : Talk) (some : is_some (next_call talk) ≡ true) where
  -- where no call was shown
  last_call : next_call talk ≡ None → is_none (slice_get talk.left 0) ≡ true
  last_call none = ap is_none none

  -- and where one was
  last_shown : (call : Call) (answers : List Answer) → next_call (talk_shown terms talk call answers) ≡ None → is_none (slice_get talk.left 1) ≡ true
  last_shown call answers none = ap is_none (sym (behind_first talk.left) ∙ none)

  ends_hello : (lost : Option Losing) (x : Ltxid) (alive : Bool) (now : ℕ) → EndsSo talk.left (on_hello terms talk lost x alive now)
  ends_hello lost x false now = refl
  ends_hello None x true now = ends_next talk.left terms talk (record { track = unsubmitted terms; ltxid = x }) true (begin_of talk ∷ []) None now (next_call talk) last_call
  ends_hello (Some lost) x true now = refl

  ends_reply : (state : Living) (answers : List Answer) (draws : List Draw) (x : Ltxid) (alive : Bool) (now : ℕ) (call : Option Call) → EndsSo talk.left (on_reply terms talk state answers draws x alive now call)
  ends_reply state answers draws x alive now None = some
  ends_reply state answers draws x alive now (Some call) =
      let after : Talk = talk_shown terms talk call answers in
      ends_next talk.left terms after (record { track = with_shown terms state.track call answers draws; ltxid = x }) alive [] (Some (record { answers = answers; draws = draws; ltxid = x })) now (next_call after) (last_shown call answers)

  ends_marked : (state : Repeating) (alive : Bool) (before : List Up) (now : ℕ) (next : Option Recorded) → EndsSo talk.left (sends_marked terms talk state alive before now next)
  ends_marked state alive before now None = ends_next talk.left terms talk (submitted state) alive before None now (next_call talk) last_call
  ends_marked state alive before now (Some one) = refl

  ends_compared : (state : Repeating) (alive : Bool) (seen answers : List ℕ) (now : ℕ) (test : Bool) → EndsSo talk.left (on_compared terms talk alive now (if test then Ok (verified_more state) else Err (mismatch state seen answers)))
  ends_compared state alive seen answers now true = ends_marked (verified_more state) alive [] now (next_of (verified_more state))
  ends_compared state alive seen answers now false = some

  ends_repeated : (state : Repeating) (answers : List Answer) (draws : List Draw) (x : Ltxid) (alive : Bool) (now : ℕ) (one : Option Recorded) → EndsSo talk.left (on_repeated terms talk state answers draws x alive now one)
  ends_repeated state answers draws x alive now None = some
  ends_repeated state answers draws x alive now (Some one) = ends_compared state alive one.seen.digest (terms.digest answers) now (bytes_eq one.seen.digest (terms.digest answers))

  ends_behind : (call : Call) (state : Living) (event : ℕ) (alive : Bool) (shown : Shown) (now : ℕ) (next : Option Call) → next_call (talk_shown terms talk call (answer.Committed ∷ [])) ≡ next
      → EndsSo talk.left (after_completed terms (talk_shown terms talk call (answer.Committed ∷ [])) state event alive shown now next)
  ends_behind call state event true shown now None none = last_shown call (answer.Committed ∷ []) none
  ends_behind call state event false shown now None none = last_shown call (answer.Committed ∷ []) none
  ends_behind call state event alive shown now (Some next) follows = by (state.track.set_shown && not terms.rules.keeps)
    where
      by : (gone : Bool) → EndsSo talk.left (if gone then fails (talk_shown terms talk call (answer.Committed ∷ [])) alive (Some shown) (failed.Disabled (why.StateLost state.track.call) event) else sends_call terms (talk_shown terms talk call (answer.Committed ∷ [])) state alive (begin_of (talk_shown terms talk call (answer.Committed ∷ [])) ∷ []) (Some shown) now next)
      by true = ap is_some (sym (behind_first talk.left) ∙ follows)
      by false = ends_call talk.left terms (talk_shown terms talk call (answer.Committed ∷ [])) state alive (begin_of (talk_shown terms talk call (answer.Committed ∷ [])) ∷ []) (Some shown) now next

  ends_completed : (state : Living) (event : ℕ) (alive : Bool) (now : ℕ) (call : Option Call) → EndsSo talk.left (on_completed terms talk state event alive now call)
  ends_completed state event alive now None = some
  ends_completed state event alive now (Some call) =
      ends_behind call (record state { track = with_shown terms state.track call (answer.Committed ∷ []) [] }) event alive (record { answers = answer.Committed ∷ []; draws = []; ltxid = state.ltxid }) now (next_call (talk_shown terms talk call (answer.Committed ∷ []))) refl

  ends_uncommitted : (asking : Asking) (alive : Bool) (now : ℕ) (reason : Option Why) → EndsSo talk.left (on_told terms talk asking alive now (uncommitted reason asking terms.limits now))
  ends_uncommitted asking alive now (Some reason) = some
  ends_uncommitted asking alive now None = by (nat_le terms.limits.replays asking.track.replays) (is_late terms.limits.timeout asking.track.first now)
    where
      by : (many late : Bool) → EndsSo talk.left (on_told terms talk asking alive now (if many then told.Replays (over asking) else (if late then told.Late (over asking) else told.Replay (repeated asking))))
      by true late = some
      by false true = some
      by false false = ends_marked (repeated asking) alive (begin_of talk ∷ []) now (next_of (repeated asking))

  ends_told : (asking : Asking) (alive : Bool) (now : ℕ) (committed completed : Bool) → EndsSo talk.left (on_told terms talk asking alive now (told_of asking committed completed terms.limits now))
  ends_told asking alive now true true = ends_completed (resumed (completed_on asking)) asking.event alive now (next_call talk)
  ends_told asking alive now true false = some
  ends_told asking alive now false completed = ends_uncommitted asking alive now asking.track.why

  ends_taken : (phase : Phase) (frame : Down) (alive : Bool) (now : ℕ) → EndsSo talk.left (takes terms talk phase frame alive now)
  ends_taken phase down.Blocked alive now = refl
  ends_taken phase (down.Refused cause) alive now = refl
  ends_taken (Greeting lost) (down.Hello x) alive now = ends_hello lost x alive now
  ends_taken (Asked asking) (down.OutcomeIs committed completed) alive now = ends_told asking alive now committed completed
  ends_taken (Asked asking) (down.OutcomeRefused ahead.Forgotten horizon) alive now = some
  ends_taken (Running state) (down.Reply answers draws x) alive now = ends_reply state answers draws x alive now (next_call talk)
  ends_taken (Replaying state) (down.Reply answers draws x) alive now = ends_repeated state answers draws x alive now (next_of state)
  ends_taken phase frame alive now = some

  pub ends_at : (input : Input) (now : ℕ) → EndsSo talk.left (talk_step terms talk input now)
  ends_at Start now = refl
  ends_at Waiting now = by (nat_le terms.limits.wait (now - waits_from talk.phase now))
    where
      by : (long : Bool) → EndsSo talk.left (if long then fails talk false None (failed.PoolWait (waits_from talk.phase now) now) else (stands talk (Queued (Some (waits_from talk.phase now))), quiet))
      by true = some
      by false = refl
  ends_at (Lent connection x) now = ends_hello None x true now
  ends_at (Opened connection) now = refl
  ends_at TryFailed now = by (nat_le terms.limits.retries (talk.tries + 1))
    where
      by : (many : Bool) → EndsSo talk.left (if many then fails (with_tried talk now) false None (failed.Retries (talk.tries + 1)) else (stands (with_tried talk now) (Seeking (lost_of talk.phase)), quiet))
      by true = some
      by false = refl
  ends_at (Took frame alive) now = ends_taken talk.phase frame alive now
  ends_at (Gone event) now = refl

pub none_left : (terms : Terms) (talk : Talk) → is_some (next_call talk) ≡ true → (input : Input) (now : ℕ) → ((talk_step terms talk input now).1.hold ≡ hold.Keep → ⊥) → (talk_step terms talk input now).1.failed ≡ None
    → is_none (slice_get talk.left (cond (is_some (talk_step terms talk input now).1.shown) 1 0)) ≡ true
none_left terms talk some input now lets plain =
    by (talk_step terms talk input now).1.hold lets (ap (ends_by talk.left (talk_step terms talk input now).1.shown (talk_step terms talk input now).1.hold) (sym plain) ∙ ends_at terms talk some input now)
  where
    by : (held : Hold) → (held ≡ hold.Keep → ⊥) → (keeps_on held || is_none (slice_get talk.left (cond (is_some (talk_step terms talk input now).1.shown) 1 0))) ≡ true → is_none (slice_get talk.left (cond (is_some (talk_step terms talk input now).1.shown) 1 0)) ≡ true
    by hold.Keep lets here = absurd (lets refl)
    by hold.GiveBack lets here = here
    by hold.Drop lets here = here

pub some_left : (terms : Terms) (talk : Talk) → is_some (next_call talk) ≡ true → (input : Input) (now : ℕ) (fault : Failed) → (talk_step terms talk input now).1.failed ≡ Some fault
    → is_some (slice_get talk.left (cond (is_some (talk_step terms talk input now).1.shown) 1 0)) ≡ true
some_left terms talk some input now fault fails_so =
    ap (ends_by talk.left (talk_step terms talk input now).1.shown (talk_step terms talk input now).1.hold) (sym fails_so) ∙ ends_at terms talk some input now

-- ERRORS ------------------------------------------------------------------------------------------

-- a kind of error that is none of those of an outcome, nor of a reply that differs
module _ (kind : Failed → Bool) (disabled : (reason : Why) (event : ℕ) → kind (failed.Disabled reason event) ≡ false) (replays : (limit event : ℕ) → kind (failed.Replays limit event) ≡ false) (late : (since ready : ℕ) → kind (failed.ReplayTimeout since ready) ≡ false) where
  abbrev Whole : Step → Type 0
  Whole step = option_map_or kind step.1.failed false ≡ false

  whole_call : (terms : Terms) (talk : Talk) (state : Living) (alive : Bool) (before : List Up) (shown : Option Shown) (now : ℕ) (call : Call) → Whole (sends_call terms talk state alive before shown now call)
  whole_call terms talk state true before shown now call = refl
  whole_call terms talk state false before shown now call = refl

  whole_next : (terms : Terms) (talk : Talk) (state : Living) (alive : Bool) (before : List Up) (shown : Option Shown) (now : ℕ) (next : Option Call) → Whole (sends_or_ends terms talk state alive before shown now next)
  whole_next terms talk state alive before shown now None = refl
  whole_next terms talk state alive before shown now (Some call) = whole_call terms talk state alive before shown now call

  whole_marked : (terms : Terms) (talk : Talk) (state : Repeating) (alive : Bool) (before : List Up) (now : ℕ) (next : Option Recorded) → Whole (sends_marked terms talk state alive before now next)
  whole_marked terms talk state alive before now None = whole_next terms talk (submitted state) alive before None now (next_call talk)
  whole_marked terms talk state alive before now (Some one) = refl

  whole_behind : (terms : Terms) (talk : Talk) (state : Living) (event : ℕ) (alive : Bool) (shown : Shown) (now : ℕ) (next : Option Call) → Whole (after_completed terms talk state event alive shown now next)
  whole_behind terms talk state event alive shown now None = refl
  whole_behind terms talk state event alive shown now (Some call) = by (state.track.set_shown && not terms.rules.keeps)
    where
      by : (gone : Bool) → Whole (if gone then fails talk alive (Some shown) (failed.Disabled (why.StateLost state.track.call) event) else sends_call terms talk state alive (begin_of talk ∷ []) (Some shown) now call)
      by true = disabled (why.StateLost state.track.call) event
      by false = whole_call terms talk state alive (begin_of talk ∷ []) (Some shown) now call

  whole_completed : (terms : Terms) (talk : Talk) (state : Living) (event : ℕ) (alive : Bool) (now : ℕ) (call : Call) → Whole (on_completed terms talk state event alive now (Some call))
  whole_completed terms talk state event alive now call =
      let after : Talk = talk_shown terms talk call (answer.Committed ∷ []) in
      whole_behind terms after (record state { track = with_shown terms state.track call (answer.Committed ∷ []) [] }) event alive (record { answers = answer.Committed ∷ []; draws = []; ltxid = state.ltxid }) now (next_call after)

  whole_uncommitted : (terms : Terms) (talk : Talk) (asking : Asking) (alive : Bool) (now : ℕ) (reason : Option Why) → Whole (on_told terms talk asking alive now (uncommitted reason asking terms.limits now))
  whole_uncommitted terms talk asking alive now (Some reason) = disabled reason asking.event
  whole_uncommitted terms talk asking alive now None = by (nat_le terms.limits.replays asking.track.replays) (is_late terms.limits.timeout asking.track.first now)
    where
      by : (many lately : Bool) → Whole (on_told terms talk asking alive now (if many then told.Replays (over asking) else (if lately then told.Late (over asking) else told.Replay (repeated asking))))
      by true lately = replays terms.limits.replays asking.event
      by false true = late _ now
      by false false = whole_marked terms talk (repeated asking) alive (begin_of talk ∷ []) now (next_of (repeated asking))

-- INCOMPLETE --------------------------------------------------------------------------------------

abbrev is_incomplete_one : Failed → Bool
is_incomplete_one (failed.Incomplete x) = true
is_incomplete_one fault = false

abbrev is_incomplete : Option Failed → Bool
is_incomplete fault = option_map_or is_incomplete_one fault false

incomplete_not : (terms : Terms) (talk : Talk) (state : Living) (event : ℕ) (alive : Bool) (now : ℕ) (call : Option Call) → is_incomplete (on_completed terms talk state event alive now call).1.failed ≡ false
incomplete_not terms talk state event alive now None = refl
incomplete_not terms talk state event alive now (Some call) = whole_completed is_incomplete_one (λ reason event. refl) (λ limit event. refl) (λ since ready. refl) terms talk state event alive now call

-- where it shows Incomplete it is told so
pub told_incomplete : (terms : Terms) (talk : Talk) (asking : Asking) (alive : Bool) (now : ℕ) (x : Ltxid) (committed completed : Bool) → (on_told terms talk asking alive now (told_of asking committed completed terms.limits now)).1.failed ≡ Some (failed.Incomplete x)
    → (committed ≡ true) × (completed ≡ false)
told_incomplete terms talk asking alive now x true false is = (refl, refl)
told_incomplete terms talk asking alive now x true true is =
    absurd (let never : false ≡ true = sym (incomplete_not terms talk (resumed (completed_on asking)) asking.event alive now (next_call talk)) ∙ ap is_incomplete is in let none : ⊥ = cc in none)
told_incomplete terms talk asking alive now x false completed is = absurd (let never : false ≡ true = sym (whole_uncommitted is_incomplete_one (λ reason event. refl) (λ limit event. refl) (λ since ready. refl) terms talk asking alive now asking.track.why) ∙ ap is_incomplete is in let none : ⊥ = cc in none)

-- the outcome that is told then
pub record ToldSo (talk : Talk) (input : Input) (x : Ltxid) : Type 0 where
  pub asking : Asking
  pub alive : Bool
  pub phase : talk.phase ≡ Asked asking
  pub heard : input ≡ Took (down.OutcomeIs true false) alive
  pub names : asking.ltxid ≡ x

some_told : (phase : Phase) (frame : Down) (x : Ltxid) → option_map_or (λ asking. same_ltxid asking.ltxid x) (told_to phase frame) false ≡ true → (asking : Asking) × (committed : Bool) × (completed : Bool) × ((phase ≡ Asked asking) × (frame ≡ down.OutcomeIs committed completed))
some_told (Asked asking) (down.OutcomeIs committed completed) x here = (asking, committed, completed, (refl, refl))
some_told phase frame x here = absurd (let none : ⊥ = cc in none)

pub incomplete_told : (terms : Terms) (talk : Talk) (input : Input) (now : ℕ) (x : Ltxid) → (talk_step terms talk input now).1.failed ≡ Some (failed.Incomplete x) → ToldSo talk input x
incomplete_told terms talk input now x is = by input refl is
  where
    plain : {A : Type 0} (fault : Option Failed) → is_incomplete fault ≡ false → fault ≡ Some (failed.Incomplete x) → A
    plain fault whole same = absurd (let never : false ≡ true = sym whole ∙ ap is_incomplete same in let none : ⊥ = cc in none)

    waits : (long : Bool) (from : ℕ) → is_incomplete (if long then fails talk false None (failed.PoolWait from now) else (stands talk (Queued (Some from)), quiet)).1.failed ≡ false
    waits true from = refl
    waits false from = refl

    tries : (many : Bool) → is_incomplete (if many then fails (with_tried talk now) false None (failed.Retries (talk.tries + 1)) else (stands (with_tried talk now) (Seeking (lost_of talk.phase)), quiet)).1.failed ≡ false
    tries true = refl
    tries false = refl

    told_at : (frame : Down) (alive : Bool) → (takes terms talk talk.phase frame alive now).1.failed ≡ Some (failed.Incomplete x) → ToldSo talk (Took frame alive) x
    told_at frame alive same =
        let may : may_fail (Some (failed.Incomplete x)) (told_to talk.phase frame) ≡ true =
        subst (λ (fault : Option Failed). may_fail fault (told_to talk.phase frame) ≡ true) same
        (lets_may (takes terms talk talk.phase frame alive now).1.hold (takes terms talk talk.phase frame alive now).1.failed (told_to talk.phase frame) (taken_fails terms talk talk.phase frame alive now)) in
        let found = some_told talk.phase frame x may in
        let fault : (on_told terms talk found.0 alive now (told_of found.0 found.1 found.2 terms.limits now)).1.failed ≡ Some (failed.Incomplete x) =
        sym (ap (λ (f : Down). (takes terms talk (Asked found.0) f alive now).1.failed) found.3.1) ∙ (sym (ap (λ (p : Phase). (takes terms talk p frame alive now).1.failed) found.3.0) ∙ same) in
        let says = told_incomplete terms talk found.0 alive now x found.1 found.2 fault in
        let heard : frame ≡ down.OutcomeIs true false = found.3.1 ∙ (ap (λ (c : Bool). down.OutcomeIs c found.2) says.0 ∙ ap (down.OutcomeIs true) says.1) in
        let named : Some (failed.Incomplete found.0.ltxid) ≡ Some (failed.Incomplete x) =
        sym (ap (λ (c : Bool). (on_told terms talk found.0 alive now (told_of found.0 c false terms.limits now)).1.failed) says.0 ∙ refl) ∙ (sym (ap (λ (d : Bool). (on_told terms talk found.0 alive now (told_of found.0 found.1 d terms.limits now)).1.failed) says.1) ∙ fault) in
        record { asking = found.0; alive = alive; phase = found.3.0; heard = ap (λ (f : Down). Took f alive) heard; names = let same_x : found.0.ltxid ≡ x = cc in same_x }

    by : (one : Input) → input ≡ one → (talk_step terms talk input now).1.failed ≡ Some (failed.Incomplete x) → ToldSo talk input x
    by one heard same = subst (λ (i : Input). ToldSo talk i x) (sym heard) (at one (ap (λ (i : Input). (talk_step terms talk i now).1.failed) (sym heard) ∙ same))
      where
        at : (i : Input) → (talk_step terms talk i now).1.failed ≡ Some (failed.Incomplete x) → ToldSo talk i x
        at Start same = absurd (let none : ⊥ = cc in none)
        at (Opened connection) same = absurd (let none : ⊥ = cc in none)
        at (Gone event) same = absurd (let none : ⊥ = cc in none)
        at Waiting same = plain _ (waits (nat_le terms.limits.wait (now - waits_from talk.phase now)) (waits_from talk.phase now)) same
        at TryFailed same = plain _ (tries (nat_le terms.limits.retries (talk.tries + 1))) same
        at (Lent connection y) same = absurd (not_both false (subst (λ (fault : Option Failed). may_fail fault None ≡ true) same
            (lets_may (on_hello terms talk None y true now).1.hold (on_hello terms talk None y true now).1.failed None (no_hello None terms talk None y true now))) refl)
        at (Took frame alive) same = told_at frame alive same

-- A FRAME THAT NO SERVER SENDS THERE --------------------------------------------------------------

abbrev is_bad : Failed → Bool
is_bad (failed.BadPeer tag) = true
is_bad fault = false

-- where a frame is taken from
abbrev alive_in : Input → Bool
alive_in (Took frame alive) = alive
alive_in _ = true

-- a call is left where one is awaited
abbrev pub has_left : Talk → Phase → Bool
has_left talk (Running state) = is_some (next_call talk)
has_left talk (Asked asking) = is_some (next_call talk)
has_left talk (Replaying state) = is_some (next_of state)
has_left talk _ = true

module _ (terms : Terms) (talk : Talk) (alive : Bool) (now : ℕ) where
  abbrev NotBad : Step → Type 0
  NotBad step = option_map_or is_bad step.1.failed false ≡ false

  fair_next : (other : Talk) (state : Living) (live : Bool) (before : List Up) (shown : Option Shown) (next : Option Call) → NotBad (sends_or_ends terms other state live before shown now next)
  fair_next other state live before shown next = whole_next is_bad (λ reason event. refl) (λ limit event. refl) (λ since ready. refl) terms other state live before shown now next

  fair_hello : (lost : Option Losing) (x : Ltxid) (live : Bool) → NotBad (on_hello terms talk lost x live now)
  fair_hello lost x false = refl
  fair_hello None x true = fair_next talk (record { track = unsubmitted terms; ltxid = x }) true (begin_of talk ∷ []) None (next_call talk)
  fair_hello (Some lost) x true = refl

  fair_reply : (state : Living) (answers : List Answer) (draws : List Draw) (x : Ltxid) (call : Option Call) → is_some call ≡ true → NotBad (on_reply terms talk state answers draws x alive now call)
  fair_reply state answers draws x None some = absurd (let none : ⊥ = cc in none)
  fair_reply state answers draws x (Some call) some =
      let after : Talk = talk_shown terms talk call answers in
      fair_next after (record { track = with_shown terms state.track call answers draws; ltxid = x }) alive [] (Some (record { answers = answers; draws = draws; ltxid = x })) (next_call after)

  fair_compared : (state : Repeating) (seen answers : List ℕ) (test : Bool) → NotBad (on_compared terms talk alive now (if test then Ok (verified_more state) else Err (mismatch state seen answers)))
  fair_compared state seen answers true = whole_marked is_bad (λ reason event. refl) (λ limit event. refl) (λ since ready. refl) terms talk (verified_more state) alive [] now (next_of (verified_more state))
  fair_compared state seen answers false = refl

  fair_repeated : (state : Repeating) (answers : List Answer) (draws : List Draw) (x : Ltxid) (one : Option Recorded) → is_some one ≡ true → NotBad (on_repeated terms talk state answers draws x alive now one)
  fair_repeated state answers draws x None some = absurd (let none : ⊥ = cc in none)
  fair_repeated state answers draws x (Some one) some = fair_compared state one.seen.digest (terms.digest answers) (bytes_eq one.seen.digest (terms.digest answers))

  fair_completed : (state : Living) (event : ℕ) (call : Option Call) → is_some call ≡ true → NotBad (on_completed terms talk state event alive now call)
  fair_completed state event None some = absurd (let none : ⊥ = cc in none)
  fair_completed state event (Some call) some = whole_completed is_bad (λ reason event. refl) (λ limit event. refl) (λ since ready. refl) terms talk state event alive now call

  fair_told : (asking : Asking) (committed completed : Bool) → is_some (next_call talk) ≡ true → NotBad (on_told terms talk asking alive now (told_of asking committed completed terms.limits now))
  fair_told asking true true some = fair_completed (resumed (completed_on asking)) asking.event (next_call talk) some
  fair_told asking true false some = refl
  fair_told asking false completed some = whole_uncommitted is_bad (λ reason event. refl) (λ limit event. refl) (λ since ready. refl) terms talk asking alive now asking.track.why

  fair_taken : (phase : Phase) (frame : Down) → is_expected phase frame ≡ true → no_ahead (Took frame alive) ≡ true → has_left talk phase ≡ true → NotBad (takes terms talk phase frame alive now)
  fair_taken (Greeting lost) (down.Hello x) expected plain left = fair_hello lost x alive
  fair_taken (Asked asking) (down.OutcomeIs committed completed) expected plain left = fair_told asking committed completed left
  fair_taken (Asked asking) (down.OutcomeRefused ahead.Forgotten horizon) expected plain left = refl
  fair_taken (Asked asking) (down.OutcomeRefused ahead.Server horizon) expected plain left = absurd (let none : ⊥ = cc in none)
  fair_taken (Asked asking) (down.OutcomeRefused ahead.Client horizon) expected plain left = absurd (let none : ⊥ = cc in none)
  fair_taken (Running state) (down.Reply answers draws x) expected plain left = fair_reply state answers draws x (next_call talk) left
  fair_taken (Running state) down.Blocked expected plain left = refl
  fair_taken (Replaying state) (down.Reply answers draws x) expected plain left = fair_repeated state answers draws x (next_of state) left
  fair_taken (Replaying state) down.Blocked expected plain left = refl
  fair_taken phase frame expected plain left = absurd (let none : ⊥ = cc in none)

  -- it never comes
  bad_not : (input : Input) (tag : ℕ) → fits_input talk.phase input ≡ true → no_ahead input ≡ true → has_left talk talk.phase ≡ true → (talk_step terms talk input now).1.failed ≡ Some (failed.BadPeer tag) → alive_in input ≡ alive → ⊥
  bad_not input tag fits plain left is same = by input fits plain is same
    where
      clash : (fault : Option Failed) → option_map_or is_bad fault false ≡ false → fault ≡ Some (failed.BadPeer tag) → ⊥
      clash fault fair same = let never : false ≡ true = sym fair ∙ ap (λ (f : Option Failed). option_map_or is_bad f false) same in let none : ⊥ = cc in none

      waits : (long : Bool) (from : ℕ) → option_map_or is_bad (if long then fails talk false None (failed.PoolWait from now) else (stands talk (Queued (Some from)), quiet)).1.failed false ≡ false
      waits true from = refl
      waits false from = refl

      tries : (many : Bool) → option_map_or is_bad (if many then fails (with_tried talk now) false None (failed.Retries (talk.tries + 1)) else (stands (with_tried talk now) (Seeking (lost_of talk.phase)), quiet)).1.failed false ≡ false
      tries true = refl
      tries false = refl

      by : (i : Input) → fits_input talk.phase i ≡ true → no_ahead i ≡ true → (talk_step terms talk i now).1.failed ≡ Some (failed.BadPeer tag) → alive_in i ≡ alive → ⊥
      by Start fits plain is same = let none : ⊥ = cc in none
      by (Opened connection) fits plain is same = let none : ⊥ = cc in none
      by (Gone event) fits plain is same = let none : ⊥ = cc in none
      by Waiting fits plain is same = clash _ (waits (nat_le terms.limits.wait (now - waits_from talk.phase now)) (waits_from talk.phase now)) is
      by TryFailed fits plain is same = clash _ (tries (nat_le terms.limits.retries (talk.tries + 1))) is
      by (Lent connection y) fits plain is same = clash _ (fair_hello None y true) is
      by (Took frame live) fits plain is same =
          clash (takes terms talk talk.phase frame alive now).1.failed (fair_taken talk.phase frame fits (subst (λ (b : Bool). no_ahead (Took frame b) ≡ true) same plain) left)
          (ap (λ (b : Bool). (takes terms talk talk.phase frame b now).1.failed) (sym same) ∙ is)

pub never_bad : (terms : Terms) (talk : Talk) (now : ℕ) (input : Input) (tag : ℕ) → fits_input talk.phase input ≡ true → no_ahead input ≡ true → has_left talk talk.phase ≡ true → (talk_step terms talk input now).1.failed ≡ Some (failed.BadPeer tag) → ⊥
never_bad terms talk now input tag fits plain left is = bad_not terms talk (alive_in input) now input tag fits plain left is refl
