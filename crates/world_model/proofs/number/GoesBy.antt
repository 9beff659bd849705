-- What a client goes by where it takes a frame or is lent a connection: the identifier that is held
-- there then.
use Rattle.std.proofs.Common.{◌≡◌, refl, sym, ap, ◌∙◌, Bool, true, false, ℕ, ◌&&◌, List, [], ◌∷◌, Option, Some, None, if◌then◌else◌}
use Rattle.std.specs.Prelude.{not, nat_le, Ok, Err}
use Rattle.std.specs.Option.{option_or, option_map_or}
use Rattle.std.specs.Str.{bytes_eq}
use Rattle.svc_values.specs.declared.answer.Answer.{Answer}
use Rattle.svc_values.specs.declared.answer.Answer.TheVariants as answer
use Rattle.svc_values.specs.declared.call.Call.{Call}
use Rattle.svc_values.specs.declared.draw.Draw.{Draw}
use Rattle.svc_values.specs.declared.entry.Ltxid.{Ltxid}
use Rattle.svc_values.specs.declared.frame.Up.{Up}
use Rattle.svc_values.specs.declared.frame.Ahead.TheVariants as ahead
use Rattle.svc_values.specs.declared.frame.Down.{Down}
use Rattle.svc_values.specs.declared.frame.Down.TheVariants as down
use Rattle.svc_values.specs.SameLaws.{same_ltxid_decides}
use Rattle.call_recorder.specs.declared.recorded.Recorded.{Recorded}
use Rattle.request_bounds.specs.declared.rule.Why.{Why}
use Rattle.request_bounds.specs.declared.rule.Why.TheVariants as why
use Rattle.client_model.specs.declared.act.Failed.TheVariants.{Disabled}
use Rattle.client_model.specs.declared.act.Shown.{Shown}
use Rattle.client_model.specs.declared.act.Hold.TheVariants.{Keep}
use Rattle.client_model.specs.declared.input.Input.TheVariants.{Took}
use Rattle.client_model.specs.meaning.Told as told
use Rattle.client_model.specs.meaning.Told.{over, completed_on, repeated, is_late, uncommitted, told_of}
use Rattle.client_model.specs.meaning.States.{Living, Losing, Asking, Repeating, resumed, next_of}
use Rattle.client_model.specs.meaning.Verifying.{verified_more, mismatch, submitted}
use Rattle.client_model.specs.meaning.Terms.{Terms, Talk, Phase, Greeting, Asked, Running, Replaying, unsubmitted}
use Rattle.client_model.specs.meaning.Talk.{Step, fails, talk_shown, with_shown, sends_call, sends_or_ends, next_call, begin_of, on_hello, on_reply, sends_marked, on_compared, on_repeated, after_completed, on_completed, on_told, takes}
use Rattle.world_model.specs.meaning.Links.{Link, link_at, told_by}
use Rattle.world_model.specs.meaning.Clients.{Doing}
use Rattle.world_model.specs.records.Hold.{goes_by, same_held}
use Rattle.world_model.proofs.wire.Saying.{is_hushed}

-- STEPS -------------------------------------------------------------------------------------------

-- a request that goes on goes by this identifier
abbrev pub IsBy : Ltxid → Step → Type 0
IsBy x step = step.1.hold ≡ Keep → goes_by step.0.phase ≡ Some x

by_call : (terms : Terms) (talk : Talk) (state : Living) (alive : Bool) (before : List Up) (shown : Option Shown) (now : ℕ) (call : Call) → IsBy state.ltxid (sends_call terms talk state alive before shown now call)
by_call terms talk state true before shown now call kept = refl
by_call terms talk state false before shown now call kept = refl

by_next : (terms : Terms) (talk : Talk) (state : Living) (alive : Bool) (before : List Up) (shown : Option Shown) (now : ℕ) (next : Option Call) → IsBy state.ltxid (sends_or_ends terms talk state alive before shown now next)
by_next terms talk state true before shown now None kept = absurd (let none : ⊥ = cc in none)
by_next terms talk state false before shown now None kept = absurd (let none : ⊥ = cc in none)
by_next terms talk state alive before shown now (Some call) kept = by_call terms talk state alive before shown now call kept

pub by_hello : (terms : Terms) (talk : Talk) (lost : Option Losing) (x : Ltxid) (now : ℕ) → IsBy x (on_hello terms talk lost x true now)
by_hello terms talk None x now kept = by_next terms talk (record { track = unsubmitted terms; ltxid = x }) true (begin_of talk ∷ []) None now (next_call talk) kept
by_hello terms talk (Some lost) x now kept = refl

pub by_reply : (terms : Terms) (talk : Talk) (state : Living) (answers : List Answer) (draws : List Draw) (x : Ltxid) (alive : Bool) (now : ℕ) (call : Option Call) → IsBy x (on_reply terms talk state answers draws x alive now call)
by_reply terms talk state answers draws x alive now None kept = absurd (let none : ⊥ = cc in none)
by_reply terms talk state answers draws x alive now (Some call) kept =
    let after : Talk = talk_shown terms talk call answers in
    by_next terms after (record { track = with_shown terms state.track call answers draws; ltxid = x }) alive [] (Some (record { answers = answers; draws = draws; ltxid = x })) now (next_call after) kept

by_marked : (terms : Terms) (talk : Talk) (state : Repeating) (alive : Bool) (before : List Up) (now : ℕ) (next : Option Recorded) → IsBy state.ltxid (sends_marked terms talk state alive before now next)
by_marked terms talk state alive before now None kept = by_next terms talk (submitted state) alive before None now (next_call talk) kept
by_marked terms talk state alive before now (Some one) kept = refl

by_compared : (terms : Terms) (talk : Talk) (state : Repeating) (alive : Bool) (seen answers : List ℕ) (now : ℕ) (test : Bool) → IsBy state.ltxid (on_compared terms talk alive now (if test then Ok (verified_more state) else Err (mismatch state seen answers)))
by_compared terms talk state alive seen answers now true kept = by_marked terms talk (verified_more state) alive [] now (next_of (verified_more state)) kept
by_compared terms talk state alive seen answers now false kept = absurd (let none : ⊥ = cc in none)

pub by_repeated : (terms : Terms) (talk : Talk) (state : Repeating) (answers : List Answer) (draws : List Draw) (x : Ltxid) (alive : Bool) (now : ℕ) (one : Option Recorded) → IsBy state.ltxid (on_repeated terms talk state answers draws x alive now one)
by_repeated terms talk state answers draws x alive now None kept = absurd (let none : ⊥ = cc in none)
by_repeated terms talk state answers draws x alive now (Some one) kept = by_compared terms talk state alive one.seen.digest (terms.digest answers) now (bytes_eq one.seen.digest (terms.digest answers)) kept

-- OUTCOMES ----------------------------------------------------------------------------------------

by_behind : (terms : Terms) (talk : Talk) (state : Living) (event : ℕ) (alive : Bool) (shown : Shown) (now : ℕ) (next : Option Call) → IsBy state.ltxid (after_completed terms talk state event alive shown now next)
by_behind terms talk state event true shown now None kept = absurd (let none : ⊥ = cc in none)
by_behind terms talk state event false shown now None kept = absurd (let none : ⊥ = cc in none)
by_behind terms talk state event alive shown now (Some call) kept = by (state.track.set_shown && not terms.rules.keeps) kept
  where
    by : (gone : Bool) → IsBy state.ltxid (if gone then fails talk alive (Some shown) (Disabled (why.StateLost state.track.call) event) else sends_call terms talk state alive (begin_of talk ∷ []) (Some shown) now call)
    by true kept = absurd (let none : ⊥ = cc in none)
    by false kept = by_call terms talk state alive (begin_of talk ∷ []) (Some shown) now call kept

by_completed : (terms : Terms) (talk : Talk) (state : Living) (event : ℕ) (alive : Bool) (now : ℕ) (call : Option Call) → IsBy state.ltxid (on_completed terms talk state event alive now call)
by_completed terms talk state event alive now None kept = absurd (let none : ⊥ = cc in none)
by_completed terms talk state event alive now (Some call) kept =
    let after : Talk = talk_shown terms talk call (answer.Committed ∷ []) in
    by_behind terms after (record state { track = with_shown terms state.track call (answer.Committed ∷ []) [] }) event alive (record { answers = answer.Committed ∷ []; draws = []; ltxid = state.ltxid }) now (next_call after) kept

by_uncommitted : (terms : Terms) (talk : Talk) (asking : Asking) (alive : Bool) (now : ℕ) (reason : Option Why) → IsBy asking.fresh (on_told terms talk asking alive now (uncommitted reason asking terms.limits now))
by_uncommitted terms talk asking alive now (Some reason) kept = absurd (let none : ⊥ = cc in none)
by_uncommitted terms talk asking alive now None kept = by (nat_le terms.limits.replays asking.track.replays) (is_late terms.limits.timeout asking.track.first now) kept
  where
    by : (many late : Bool) → IsBy asking.fresh (on_told terms talk asking alive now (if many then told.Replays (over asking) else (if late then told.Late (over asking) else told.Replay (repeated asking))))
    by true late kept = absurd (let none : ⊥ = cc in none)
    by false true kept = absurd (let none : ⊥ = cc in none)
    by false false kept = by_marked terms talk (repeated asking) alive (begin_of talk ∷ []) now (next_of (repeated asking)) kept

by_told : (terms : Terms) (talk : Talk) (asking : Asking) (alive : Bool) (now : ℕ) (committed completed : Bool) → IsBy asking.fresh (on_told terms talk asking alive now (told_of asking committed completed terms.limits now))
by_told terms talk asking alive now true true kept = by_completed terms talk (resumed (completed_on asking)) asking.event alive now (next_call talk) kept
by_told terms talk asking alive now true false kept = absurd (let none : ⊥ = cc in none)
by_told terms talk asking alive now false completed kept = by_uncommitted terms talk asking alive now asking.track.why kept

-- FRAMES ------------------------------------------------------------------------------------------

same_by : (phase : Phase) (x y : Ltxid) → goes_by phase ≡ Some x → same_held (Some x) (Some y) ≡ true → same_held (goes_by phase) (Some y) ≡ true
same_by phase x y is same = ap (λ (one : Option Ltxid). same_held one (Some y)) is ∙ same

same_self : (x : Ltxid) → same_held (Some x) (Some x) ≡ true
same_self x = (same_ltxid_decides x x).1 refl

-- It goes by what is held behind the frame, where a reply to a repeated call brings the identifier
-- that is held.
pub by_taken : (terms : Terms) (talk : Talk) (phase : Phase) (frame : Down) (alive : Bool) (now : ℕ) (held : Option Ltxid) → talk.phase ≡ phase → alive ≡ true → is_hushed frame ≡ false → same_held (goes_by phase) held ≡ true
    → ((state : Repeating) → phase ≡ Replaying state → (x : Ltxid) → told_by (Took frame true) ≡ Some x → same_held (Some state.ltxid) (Some x) ≡ true)
    → (takes terms talk phase frame alive now).1.hold ≡ Keep → same_held (goes_by (takes terms talk phase frame alive now).0.phase) (option_or (told_by (Took frame alive)) held) ≡ true
by_taken terms talk phase down.Blocked alive now held same opens loud here again kept = absurd (let none : ⊥ = cc in none)
by_taken terms talk phase (down.Refused cause) alive now held same opens loud here again kept = absurd (let none : ⊥ = cc in none)
by_taken terms talk (Greeting lost) (down.Hello x) true now held same opens loud here again kept = same_by (on_hello terms talk lost x true now).0.phase x x (by_hello terms talk lost x now kept) (same_self x)
by_taken terms talk (Greeting lost) (down.Hello x) false now held same opens loud here again kept = absurd (let none : ⊥ = cc in none)
by_taken terms talk (Asked asking) (down.OutcomeIs committed completed) alive now held same opens loud here again kept =
    ap (λ (one : Option Ltxid). same_held one held) (by_told terms talk asking alive now committed completed kept) ∙ here
by_taken terms talk (Asked asking) (down.OutcomeRefused ahead.Forgotten horizon) alive now held same opens loud here again kept = absurd (let none : ⊥ = cc in none)
by_taken terms talk (Running state) (down.Reply answers draws x) alive now held same opens loud here again kept =
    same_by (on_reply terms talk state answers draws x alive now (next_call talk)).0.phase x x (by_reply terms talk state answers draws x alive now (next_call talk) kept) (same_self x)
by_taken terms talk (Replaying state) (down.Reply answers draws x) alive now held same opens loud here again kept =
    same_by (on_repeated terms talk state answers draws x alive now (next_of state)).0.phase state.ltxid x (by_repeated terms talk state answers draws x alive now (next_of state) kept) (again state refl x refl)
by_taken terms talk phase frame alive now held same opens loud here again kept = absurd (let none : ⊥ = cc in none)

goes_same : (phase : Phase) (x y : Ltxid) (held : Option Ltxid) → goes_by phase ≡ Some x → goes_by phase ≡ Some y → same_held (Some y) held ≡ true → same_held (Some x) held ≡ true
goes_same phase x y held one other here = ap (λ (found : Option Ltxid). same_held found held) (sym one ∙ other) ∙ here

-- And so on a connection that is not open, where it goes by one.
pub taken_goes : (terms : Terms) (talk : Talk) (phase : Phase) (frame : Down) (alive : Bool) (now : ℕ) (held : Option Ltxid) (x : Ltxid) → talk.phase ≡ phase → same_held (goes_by phase) held ≡ true
    → ((state : Repeating) → phase ≡ Replaying state → (y : Ltxid) → told_by (Took frame true) ≡ Some y → same_held (Some state.ltxid) (Some y) ≡ true)
    → (takes terms talk phase frame alive now).1.hold ≡ Keep → goes_by (takes terms talk phase frame alive now).0.phase ≡ Some x → same_held (Some x) (option_or (told_by (Took frame alive)) held) ≡ true
taken_goes terms talk phase down.Blocked alive now held x same here again kept is = ap (λ (found : Option Ltxid). same_held found held) (sym is ∙ ap goes_by same) ∙ here
taken_goes terms talk phase (down.Refused cause) alive now held x same here again kept is = ap (λ (found : Option Ltxid). same_held found held) (sym is ∙ ap goes_by same) ∙ here
taken_goes terms talk (Greeting lost) (down.Hello y) true now held x same here again kept is =
    goes_same (on_hello terms talk lost y true now).0.phase x y (Some y) is (by_hello terms talk lost y now kept) (same_self y)
taken_goes terms talk (Greeting lost) (down.Hello y) false now held x same here again kept is = absurd (let none : ⊥ = cc in none)
taken_goes terms talk (Asked asking) (down.OutcomeIs committed completed) alive now held x same here again kept is =
    goes_same (on_told terms talk asking alive now (told_of asking committed completed terms.limits now)).0.phase x asking.fresh held is (by_told terms talk asking alive now committed completed kept) here
taken_goes terms talk (Asked asking) (down.OutcomeRefused ahead.Forgotten horizon) alive now held x same here again kept is = absurd (let none : ⊥ = cc in none)
taken_goes terms talk (Running state) (down.Reply answers draws y) alive now held x same here again kept is =
    goes_same (on_reply terms talk state answers draws y alive now (next_call talk)).0.phase x y (Some y) is (by_reply terms talk state answers draws y alive now (next_call talk) kept) (same_self y)
taken_goes terms talk (Replaying state) (down.Reply answers draws y) alive now held x same here again kept is =
    goes_same (on_repeated terms talk state answers draws y alive now (next_of state)).0.phase x state.ltxid (Some y) is (by_repeated terms talk state answers draws y alive now (next_of state) kept) (again state refl y refl)
taken_goes terms talk phase frame alive now held x same here again kept is = absurd (let none : ⊥ = cc in none)

-- THE TEST ----------------------------------------------------------------------------------------

-- what the request goes by is held on its connection
abbrev pub goes_rightly : List Link → Doing → Bool
goes_rightly links doing = option_map_or (λ number. option_map_or (λ link. same_held (goes_by doing.talk.phase) link.held) (link_at links number) false) doing.connection true

pub by_none : (links : List Link) (doing : Doing) → doing.connection ≡ None → goes_rightly links doing ≡ true
by_none links doing none = ap (λ (one : Option ℕ). option_map_or (λ number. option_map_or (λ link. same_held (goes_by doing.talk.phase) link.held) (link_at links number) false) one true) none

pub by_one : (links : List Link) (doing : Doing) (number : ℕ) (link : Link) → doing.connection ≡ Some number → link_at links number ≡ Some link → same_held (goes_by doing.talk.phase) link.held ≡ true → goes_rightly links doing ≡ true
by_one links doing number link has there here =
    ap (λ (one : Option ℕ). option_map_or (λ n. option_map_or (λ l. same_held (goes_by doing.talk.phase) l.held) (link_at links n) false) one true) has
    ∙ (ap (λ (found : Option Link). option_map_or (λ l. same_held (goes_by doing.talk.phase) l.held) found false) there ∙ here)

pub by_its : (links : List Link) (doing : Doing) (number : ℕ) (link : Link) → doing.connection ≡ Some number → link_at links number ≡ Some link → goes_rightly links doing ≡ true → same_held (goes_by doing.talk.phase) link.held ≡ true
by_its links doing number link has there here =
    sym (ap (λ (one : Option ℕ). option_map_or (λ n. option_map_or (λ l. same_held (goes_by doing.talk.phase) l.held) (link_at links n) false) one true) has
    ∙ ap (λ (found : Option Link). option_map_or (λ l. same_held (goes_by doing.talk.phase) l.held) found false) there) ∙ here

-- where what is held on its connection is as before
pub by_still : (links later : List Link) (doing : Doing) → goes_rightly links doing ≡ true
    → ((number : ℕ) (link : Link) → doing.connection ≡ Some number → link_at links number ≡ Some link → (next : Link) × ((link_at later number ≡ Some next) × (next.held ≡ link.held))) → goes_rightly later doing ≡ true
by_still links later doing here keeps = by doing.connection refl
  where
    at : (number : ℕ) (found : Option Link) → doing.connection ≡ Some number → link_at links number ≡ found → option_map_or (λ link. same_held (goes_by doing.talk.phase) link.held) found false ≡ true → goes_rightly later doing ≡ true
    at number None has is same = absurd (let none : ⊥ = cc in none)
    at number (Some link) has is same =
        let next = keeps number link has is in by_one later doing number next.0 has next.1.0 (ap (same_held (goes_by doing.talk.phase)) next.1.1 ∙ same)

    by : (found : Option ℕ) → doing.connection ≡ found → goes_rightly later doing ≡ true
    by None none = by_none later doing none
    by (Some number) has =
        at number (link_at links number) has refl
        (sym (ap (λ (one : Option ℕ). option_map_or (λ n. option_map_or (λ l. same_held (goes_by doing.talk.phase) l.held) (link_at links n) false) one true) has) ∙ here)
