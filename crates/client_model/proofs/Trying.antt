-- A call is noted as tried under the identifier that the request holds.
use Rattle.std.proofs.Common.{◌≡◌, ◌⊎◌, inl, inr, ℕ, ◌-◌, ◌+◌, ◌&&◌, Bool, true, false, not, List, [], ◌∷◌, ◌++◌, map, Option, Some, None, Ok, Err, if◌then◌else◌, refl, sym, ap, subst, ◌∙◌, nat_le}
use Rattle.std.specs.Prelude.{fold, unwrap_or}
use Rattle.std.specs.Str.{bytes_eq}
use Rattle.std.specs.Option.{option_or}
use Rattle.svc_values.specs.declared.value.Value.{Value}
use Rattle.svc_values.specs.declared.answer.Answer.{Answer}
use Rattle.svc_values.specs.declared.answer.Answer.TheVariants as answer
use Rattle.svc_values.specs.declared.draw.Draw.{Draw}
use Rattle.svc_values.specs.declared.call.Call.{Call}
use Rattle.svc_values.specs.declared.entry.Ltxid.{Ltxid}
use Rattle.svc_values.specs.declared.frame.Up.{Up}
use Rattle.svc_values.specs.declared.frame.Up.TheVariants as up
use Rattle.svc_values.specs.declared.frame.Ahead.TheVariants as ahead
use Rattle.svc_values.specs.declared.frame.Down.{Down}
use Rattle.svc_values.specs.declared.frame.Down.TheVariants as down
use Rattle.request_bounds.specs.declared.rule.Why.{Why}
use Rattle.request_bounds.specs.declared.rule.Why.TheVariants as why
use Rattle.call_recorder.specs.declared.recorded.Recorded.{Recorded}
use Rattle.client_model.specs.meaning.States.{Losing, Living, Asking, Repeating, next_of, resumed}
use Rattle.client_model.specs.meaning.Told as told
use Rattle.client_model.specs.meaning.Told.{uncommitted, told_of, is_late, over, repeated, completed_on}
use Rattle.client_model.specs.meaning.Verifying.{submitted, verified_more, mismatch}
use Rattle.client_model.specs.declared.input.Input.{Input}
use Rattle.client_model.specs.declared.input.Input.TheVariants.{Start, Waiting, Lent, Opened, TryFailed, Took, Gone}
use Rattle.client_model.specs.declared.act.Shown.{Shown}
use Rattle.client_model.specs.declared.act.Failed.{Failed}
use Rattle.client_model.specs.declared.act.Failed.TheVariants.{Disabled, Mismatch as Differs, Incomplete, Retries, ReplayTimeout, Replays, PoolWait, Unknown, BadPeer}
use Rattle.client_model.specs.meaning.Terms.{Terms, Talk, Phase, Idle, Unbegun, Queued, Seeking, Greeting, Asked, Running, Replaying, requested, unsubmitted}
use Rattle.client_model.specs.meaning.Talk.{Step, fails, ends, sends_call, sends_or_ends, goes_on, next_call, begin_of, sends_marked, repeats, on_hello, on_reply, on_repeated, on_compared, on_told, on_completed, after_completed, takes, loses, talk_step, waits_from, stands, quiet, bad_peer, tag_of, with_shown, talk_shown, with_tried, lost_of}
use Rattle.client_model.specs.meaning.Conversation.{Timed, Done, done_at}
use Rattle.client_model.specs.Conversation.{steps_of, is_gone_next, MayCome}
use Rattle.client_model.specs.meaning.Account.{Account, unheard, after_step}
use Rattle.client_model.specs.meaning.Tried.{Sending, Trying, told_ltxid, replied, with_answer, sent_under, tries_on}
use Rattle.client_model.specs.Tried.{sent_with, sent_in}
use Rattle.client_model.specs.Laws.{TriesUnderHeld}
use Rattle.client_model.proofs.Fits.{Fits, IsTalk, is_idle}
use Rattle.client_model.proofs.Stepped.{Stepped}
use Rattle.client_model.proofs.Steps.{step_stepped, next_fits, next_talks, first_talks}

-- no call is sent without the mark
abbrev NoneSent : List Up → Type 0
NoneSent [] = Unit {0}
NoneSent (up.Call false kept call ∷ frames) = ⊥
NoneSent (_ ∷ frames) = NoneSent frames

-- the identifier of the session on which the request stands
abbrev Linked : Option Ltxid → Phase → Type 0
Linked held (Asked state) = held ≡ Some state.fresh
Linked held (Running state) = held ≡ Some state.ltxid
Linked held (Replaying state) = held ≡ Some state.ltxid
Linked held _ = Unit {0}

abbrev IsRunning : Phase → Type 0
IsRunning (Running state) = Unit {0}
IsRunning _ = ⊥

-- what a step leaves that shows this, where this identifier was told last
record Links (held : Option Ltxid) (shown : Option Shown) (step : Step) : Type 0 where
  linked : Linked held step.0.phase
  sent : NoneSent step.1.send ⊎ IsRunning step.0.phase
  shows : step.1.shown ≡ shown

module _ (terms : Terms) (talk : Talk) (now : ℕ) (held : Option Ltxid) (shown : Option Shown) where
  fails_links : (alive : Bool) (failed : Failed) → Links held shown (fails talk alive shown failed)
  fails_links true failed = record { linked = tt; sent = inl tt; shows = refl }
  fails_links false failed = record { linked = tt; sent = inl tt; shows = refl }

  ends_links : (alive : Bool) → Links held shown (ends talk alive shown)
  ends_links true = record { linked = tt; sent = inl tt; shows = refl }
  ends_links false = record { linked = tt; sent = inl tt; shows = refl }

  call_links : (state : Living) (alive : Bool) (before : List Up) (call : Call) → held ≡ Some state.ltxid → Links held shown (sends_call terms talk state alive before shown now call)
  call_links state true before call is = record { linked = is; sent = inr tt; shows = refl }
  call_links state false before call is = record { linked = is; sent = inl tt; shows = refl }

  or_ends_links : (state : Living) (alive : Bool) (before : List Up) (found : Option Call) → held ≡ Some state.ltxid → Links held shown (sends_or_ends terms talk state alive before shown now found)
  or_ends_links state alive before None is = ends_links alive
  or_ends_links state alive before (Some call) is = call_links state alive before call is

  goes_links : (state : Living) (alive : Bool) (before : List Up) → held ≡ Some state.ltxid → Links held shown (goes_on terms talk state alive before shown now)
  goes_links state alive before is = or_ends_links state alive before (next_call talk) is

-- frames before a marked call
none_marked : (before : List Up) (kept : List Draw) (call : Call) → NoneSent before → NoneSent (before ++ up.Call true kept call ∷ [])
none_marked [] kept call none = tt
none_marked (up.Connect ∷ before) kept call none = none_marked before kept call none
none_marked (up.Begin settings ∷ before) kept call none = none_marked before kept call none
none_marked (up.Call true k c ∷ before) kept call none = none_marked before kept call none
none_marked (up.Call false k c ∷ before) kept call none = absurd none
none_marked (up.Outcome x ∷ before) kept call none = none_marked before kept call none
none_marked (up.End ∷ before) kept call none = none_marked before kept call none
none_marked (up.Close ∷ before) kept call none = none_marked before kept call none

module _ (terms : Terms) (talk : Talk) (now : ℕ) (held : Option Ltxid) where
  marked_links : (state : Repeating) (alive : Bool) (before : List Up) (found : Option Recorded) → NoneSent before → held ≡ Some state.ltxid → Links held None (sends_marked terms talk state alive before now found)
  marked_links state alive before None none is = goes_links terms talk now held None (submitted state) alive before is
  marked_links state true before (Some one) none is = record { linked = is; sent = inl (none_marked before one.draws one.call none); shows = refl }
  marked_links state false before (Some one) none is = record { linked = is; sent = inl tt; shows = refl }

  repeats_links : (state : Repeating) (alive : Bool) (before : List Up) → NoneSent before → held ≡ Some state.ltxid → Links held None (repeats terms talk state alive before now)
  repeats_links state alive before none is = marked_links state alive before (next_of state) none is

  compared_links : (state : Repeating) (one : Recorded) (digest : List ℕ) (alive : Bool) (same : Bool) → held ≡ Some state.ltxid
      → Links held None (on_compared terms talk alive now (if same then Ok (verified_more state) else Err (mismatch state one.seen.digest digest)))
  compared_links state one digest alive true is = repeats_links (verified_more state) alive [] tt is
  compared_links state one digest alive false is = fails_links terms talk now held None alive (Differs (mismatch state one.seen.digest digest).1.call one.seen.digest digest)

  repeated_links : (state : Repeating) (answers : List Answer) (draws : List Draw) (ltxid : Ltxid) (alive : Bool) (found : Option Recorded) → held ≡ Some state.ltxid
      → Links held None (on_repeated terms talk state answers draws ltxid alive now found)
  repeated_links state answers draws ltxid alive None is = fails_links terms talk now held None alive (BadPeer (tag_of (down.Reply answers draws ltxid)))
  repeated_links state answers draws ltxid alive (Some one) is = compared_links state one (terms.digest answers) alive (bytes_eq one.seen.digest (terms.digest answers)) is

  lost_links : (state : Living) (event : ℕ) (alive : Bool) (shown : Shown) (call : Call) (lost : Bool) → held ≡ Some state.ltxid
      → Links held (Some shown) (if lost then fails talk alive (Some shown) (Disabled (why.StateLost state.track.call) event)
      else sends_call terms talk state alive (begin_of talk ∷ []) (Some shown) now call)
  lost_links state event alive shown call true is = fails_links terms talk now held (Some shown) alive (Disabled (why.StateLost state.track.call) event)
  lost_links state event alive shown call false is = call_links terms talk now held (Some shown) state alive (begin_of talk ∷ []) call is

  after_links : (state : Living) (event : ℕ) (alive : Bool) (shown : Shown) (found : Option Call) → held ≡ Some state.ltxid
      → Links held (Some shown) (after_completed terms talk state event alive shown now found)
  after_links state event alive shown None is = ends_links terms talk now held (Some shown) alive
  after_links state event alive shown (Some call) is = lost_links state event alive shown call (state.track.set_shown && not terms.rules.keeps) is

-- a step that shows something, or nothing
abbrev LinksSome : Option Ltxid → Input → Step → Type 0
LinksSome held input step = (shown : Option Shown) × Links (option_or (told_ltxid input shown) held) shown step

module _ (terms : Terms) (talk : Talk) (now : ℕ) (held : Option Ltxid) where
  completed_links : (state : Living) (event : ℕ) (alive : Bool) (found : Option Call) → held ≡ Some state.ltxid
      → (shown : Option Shown) × Links held shown (on_completed terms talk state event alive now found)
  completed_links state event alive None is = (None, fails_links terms talk now held None alive (BadPeer (tag_of (down.OutcomeIs true true))))
  completed_links state event alive (Some call) is =
      let after : Talk = talk_shown terms talk call (answer.Committed ∷ []) in
      let next : Living = record state { track = with_shown terms state.track call (answer.Committed ∷ []) [] } in
      let shown : Shown = record { answers = answer.Committed ∷ []; draws = []; ltxid = state.ltxid } in
      (Some shown, after_links terms after now held next event alive shown (next_call after) is)

  late_links : (asking : Asking) (alive : Bool) (late : Bool) → held ≡ Some asking.fresh
      → Links held None (on_told terms talk asking alive now (if late then told.Late (over asking) else told.Replay (repeated asking)))
  late_links asking alive true is = fails_links terms talk now held None alive (ReplayTimeout (unwrap_or asking.track.first 0) now)
  late_links asking alive false is = repeats_links terms talk now held (repeated asking) alive (begin_of talk ∷ []) tt is

  many_links : (asking : Asking) (alive : Bool) (many : Bool) → held ≡ Some asking.fresh
      → Links held None (on_told terms talk asking alive now (if many then told.Replays (over asking)
      else (if is_late terms.limits.timeout asking.track.first now then told.Late (over asking) else told.Replay (repeated asking))))
  many_links asking alive true is = fails_links terms talk now held None alive (Replays terms.limits.replays asking.event)
  many_links asking alive false is = late_links asking alive (is_late terms.limits.timeout asking.track.first now) is

  reason_links : (asking : Asking) (alive : Bool) (reason : Option Why) → held ≡ Some asking.fresh → Links held None (on_told terms talk asking alive now (uncommitted reason asking terms.limits now))
  reason_links asking alive (Some reason) is = fails_links terms talk now held None alive (Disabled reason asking.event)
  reason_links asking alive None is = many_links asking alive (nat_le terms.limits.replays asking.track.replays) is

  told_links : (asking : Asking) (alive committed completed : Bool) → held ≡ Some asking.fresh
      → (shown : Option Shown) × Links held shown (on_told terms talk asking alive now (told_of asking committed completed terms.limits now))
  told_links asking alive true true is = completed_links (resumed (completed_on asking)) asking.event alive (next_call talk) is
  told_links asking alive true false is = (None, fails_links terms talk now held None alive (Incomplete asking.ltxid))
  told_links asking alive false completed is = (None, reason_links asking alive asking.track.why is)

  hello_links : (lost : Option Losing) (ltxid : Ltxid) (alive : Bool) → Links (Some ltxid) None (on_hello terms talk lost ltxid alive now)
  hello_links lost ltxid false = record { linked = tt; sent = inl tt; shows = refl }
  hello_links None ltxid true = goes_links terms talk now (Some ltxid) None (record { track = unsubmitted terms; ltxid = ltxid }) true (begin_of talk ∷ []) refl
  hello_links (Some lost) ltxid true = record { linked = refl; sent = inl tt; shows = refl }

  reply_links : (state : Living) (answers : List Answer) (draws : List Draw) (ltxid : Ltxid) (alive : Bool) (found : Option Call)
      → LinksSome held (Took (down.Reply answers draws ltxid) alive) (on_reply terms talk state answers draws ltxid alive now found)
  reply_links state answers draws ltxid alive None = (None, fails_links terms talk now held None alive (BadPeer (tag_of (down.Reply answers draws ltxid))))
  reply_links state answers draws ltxid alive (Some call) =
      let shown : Shown = record { answers = answers; draws = draws; ltxid = ltxid } in
      let next : Living = record { track = with_shown terms state.track call answers draws; ltxid = ltxid } in
      (Some shown, goes_links terms (talk_shown terms talk call answers) now (Some ltxid) (Some shown) next alive [] refl)

  bad_links : (frame : Down) (alive : Bool) (other : Option Ltxid) → Links other None (bad_peer talk alive frame)
  bad_links frame alive other = fails_links terms talk now other None alive (BadPeer (tag_of frame))

  quiet_links : (phase : Phase) → talk.phase ≡ phase → Linked held phase → Links held None (talk, quiet)
  quiet_links phase is linked = record { linked = subst (Linked held) (sym is) linked; sent = inl tt; shows = refl }

  took_links : (phase : Phase) → talk.phase ≡ phase → Linked held phase → (frame : Down) (alive : Bool) → LinksSome held (Took frame alive) (takes terms talk phase frame alive now)
  took_links phase is linked down.Blocked alive = (None, quiet_links phase is linked)
  took_links phase is linked (down.Refused cause) alive = (None, quiet_links phase is linked)
  took_links (Greeting lost) is linked (down.Hello ltxid) alive = (None, hello_links lost ltxid alive)
  took_links (Asked asking) is linked (down.OutcomeIs committed completed) alive = told_links asking alive committed completed linked
  took_links (Asked asking) is linked (down.OutcomeRefused ahead.Forgotten next) alive = (None, fails_links terms talk now held None alive (Unknown asking.ltxid))
  took_links (Running state) is linked (down.Reply answers draws ltxid) alive = reply_links state answers draws ltxid alive (next_call talk)
  took_links (Replaying state) is linked (down.Reply answers draws ltxid) alive = (None, repeated_links terms talk now held state answers draws ltxid alive (next_of state) linked)
  took_links phase is linked frame alive = (None, bad_links frame alive _)

  waiting_links : (from : ℕ) (long : Bool) → Links held None (if long then fails talk false None (PoolWait from now) else (stands talk (Queued (Some from)), quiet))
  waiting_links from true = fails_links terms talk now held None false (PoolWait from now)
  waiting_links from false = record { linked = tt; sent = inl tt; shows = refl }

  tried_links : (many : Bool) → Links held None (if many then fails (with_tried talk now) false None (Retries (talk.tries + 1)) else (stands (with_tried talk now) (Seeking (lost_of talk.phase)), quiet))
  tried_links true = fails_links terms (with_tried talk now) now held None false (Retries (talk.tries + 1))
  tried_links false = record { linked = tt; sent = inl tt; shows = refl }

  loses_links : (phase : Phase) (event : ℕ) → Linked held phase → Linked held (loses phase event)
  loses_links Idle event linked = tt
  loses_links Unbegun event linked = tt
  loses_links (Queued from) event linked = tt
  loses_links (Seeking lost) event linked = tt
  loses_links (Greeting lost) event linked = tt
  loses_links (Asked asking) event linked = tt
  loses_links (Running state) event linked = tt
  loses_links (Replaying state) event linked = tt

  step_links : (input : Input) → Linked held talk.phase → LinksSome held input (talk_step terms talk input now)
  step_links Start linked = (None, record { linked = tt; sent = inl tt; shows = refl })
  step_links Waiting linked = (None, waiting_links (waits_from talk.phase now) (nat_le terms.limits.wait (now - waits_from talk.phase now)))
  step_links (Lent connection ltxid) linked = (None, hello_links None ltxid true)
  step_links (Opened connection) linked = (None, record { linked = tt; sent = inl tt; shows = refl })
  step_links TryFailed linked = (None, tried_links (nat_le terms.limits.retries (talk.tries + 1)))
  step_links (Took frame alive) linked = took_links talk.phase refl linked frame alive
  step_links (Gone event) linked = (None, record { linked = loses_links talk.phase event linked; sent = inl tt; shows = refl })

-- ---- what is noted

abbrev noted : Sending → Call × Option Ltxid
noted one = (one.call, Some one.ltxid)

answered_same : (answers : List Answer) (sendings : List Sending) → map noted (with_answer answers sendings) ≡ map noted sendings
answered_same answers [] = refl
answered_same answers (one ∷ earlier) = refl

replied_same : (input : Input) (shown : Option Shown) (sendings : List Sending) → map noted (replied input shown sendings) ≡ map noted sendings
replied_same (Took (down.Reply answers draws ltxid) alive) (Some shown) sendings = answered_same answers sendings
replied_same _ _ sendings = refl

-- frames without such a call leave both
none_noted : (held other : Option Ltxid) (over : ℕ) (frames : List Up) (sendings : List Sending) → NoneSent frames
    → map noted (fold (sent_under held over) sendings frames) ≡ fold (sent_with other) (map noted sendings) frames
none_noted held other over [] sendings none = refl
none_noted (Some x) other over (up.Connect ∷ frames) sendings none = none_noted (Some x) other over frames sendings none
none_noted (Some x) other over (up.Begin settings ∷ frames) sendings none = none_noted (Some x) other over frames sendings none
none_noted (Some x) other over (up.Call true kept call ∷ frames) sendings none = none_noted (Some x) other over frames sendings none
none_noted held other over (up.Call false kept call ∷ frames) sendings none = absurd none
none_noted (Some x) other over (up.Outcome y ∷ frames) sendings none = none_noted (Some x) other over frames sendings none
none_noted (Some x) other over (up.End ∷ frames) sendings none = none_noted (Some x) other over frames sendings none
none_noted (Some x) other over (up.Close ∷ frames) sendings none = none_noted (Some x) other over frames sendings none
none_noted None other over (up.Connect ∷ frames) sendings none = none_noted None other over frames sendings none
none_noted None other over (up.Begin settings ∷ frames) sendings none = none_noted None other over frames sendings none
none_noted None other over (up.Call true kept call ∷ frames) sendings none = none_noted None other over frames sendings none
none_noted None other over (up.Outcome y ∷ frames) sendings none = none_noted None other over frames sendings none
none_noted None other over (up.End ∷ frames) sendings none = none_noted None other over frames sendings none
none_noted None other over (up.Close ∷ frames) sendings none = none_noted None other over frames sendings none

-- each is noted under the identifier that is held
all_noted : (x : Ltxid) (over : ℕ) (frames : List Up) (sendings : List Sending) → map noted (fold (sent_under (Some x) over) sendings frames) ≡ fold (sent_with (Some x)) (map noted sendings) frames
all_noted x over [] sendings = refl
all_noted x over (up.Connect ∷ frames) sendings = all_noted x over frames sendings
all_noted x over (up.Begin settings ∷ frames) sendings = all_noted x over frames sendings
all_noted x over (up.Call true kept call ∷ frames) sendings = all_noted x over frames sendings
all_noted x over (up.Call false kept call ∷ frames) sendings = all_noted x over frames (record { call = call; transaction = over; ltxid = x; reply = None } ∷ sendings)
all_noted x over (up.Outcome y ∷ frames) sendings = all_noted x over frames sendings
all_noted x over (up.End ∷ frames) sendings = all_noted x over frames sendings
all_noted x over (up.Close ∷ frames) sendings = all_noted x over frames sendings

module _ (terms : Terms) (settings : List (List ℕ × Value)) (calls : List Call) where
  -- one step: what it notes, and where it stands
  noted_by : (held other : Option Ltxid) (over : ℕ) (frames : List Up) (sendings : List Sending) (a : Account) (gone : Bool) (phase : Phase) → Linked held phase → Fits terms calls a gone phase → a.held ≡ other
      → NoneSent frames ⊎ IsRunning phase → map noted (fold (sent_under held over) sendings frames) ≡ fold (sent_with other) (map noted sendings) frames
  noted_by held other over frames sendings a gone phase linked fits is (inl none) = none_noted held other over frames sendings none
  noted_by held other over frames sendings a gone (Running state) linked fits is (inr runs) =
      ap (λ h. map noted (fold (sent_under h over) sendings frames)) linked
      ∙ all_noted state.ltxid over frames sendings
      ∙ ap (λ h. fold (sent_with h) (map noted sendings) frames) (sym fits.0.held ∙ is)
  noted_by held other over frames sendings a gone _ linked fits is (inr runs) = absurd runs

  tries_from : (inputs : List Timed) (a : Account) (gone : Bool) (talk : Talk) (trying : Trying) (sent : List (Call × Option Ltxid))
      → (is_idle talk.phase ≡ false → IsTalk terms settings calls a talk) → Fits terms calls a gone talk.phase → MayCome terms talk gone inputs
      → Linked trying.held talk.phase → map noted trying.sendings ≡ sent
      → map noted (fold tries_on trying (steps_of terms talk inputs)).sendings ≡ sent_in terms calls a sent (steps_of terms talk inputs)
  tries_from [] a gone talk trying sent talks fits may linked same = same
  tries_from (one ∷ inputs) a gone talk trying sent talks fits may linked same =
      let step : Step = talk_step terms talk one.0 one.1 in
      let s : Stepped terms settings calls a one.0 one.1 step = step_stepped terms settings calls a gone one.1 talk talks one.0 fits may.0 in
      let done : Done = done_at terms talk one in
      let after : Account = after_step terms calls a done in
      let fits_after : Fits terms calls after (is_gone_next one.0 step.1.hold) step.0.phase = next_fits terms settings calls a one.0 one.1 step s in
      let l : LinksSome trying.held one.0 step = step_links terms talk one.1 trying.held one.0 linked in
      let next : Trying = tries_on trying done in
      let linked_after : Linked next.held step.0.phase = subst (λ o. Linked (option_or (told_ltxid one.0 o) trying.held) step.0.phase) (sym l.1.shows) l.1.linked in
      tries_from inputs after (is_gone_next one.0 step.1.hold) step.0 next (fold (sent_with after.held) sent step.1.send)
      (next_talks terms settings calls a one.0 one.1 step s) fits_after may.1 linked_after
      (noted_by next.held after.held next.over step.1.send (replied one.0 step.1.shown trying.sendings) after (is_gone_next one.0 step.1.hold) step.0.phase linked_after fits_after refl l.1.sent
      ∙ ap (λ m. fold (sent_with after.held) m step.1.send) (replied_same one.0 step.1.shown trying.sendings ∙ same))

pub tries_under_held : TriesUnderHeld
tries_under_held terms settings calls inputs may =
    tries_from terms settings calls inputs unheard false (requested settings calls) (record { held = None; over = 0; sendings = [] }) [] (λ e. first_talks terms settings calls) refl may tt refl
