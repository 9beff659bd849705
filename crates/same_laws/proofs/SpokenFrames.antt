-- Which frames of a request go on with it, at which inputs it sends them, and what a connection
-- holds and was sent behind an event.
use Rattle.std.proofs.Common.{◌≡◌, refl, ap, ◌∙◌, Bool, true, false, ℕ, ◌+◌, ◌-◌, ◌&&◌, ◌||◌, map, List, [], ◌∷◌, ◌++◌, Option, Some, None, ◌⊎◌, inl, inr, if◌then◌else◌}
use Rattle.std.specs.Prelude.{nat_le}
use Rattle.std.specs.List.{list_any, last_or}
use Rattle.std.proofs.lemmas.Bool.{or_left, or_right}
use Rattle.svc_values.specs.declared.entry.Ltxid.{Ltxid}
use Rattle.svc_values.specs.declared.frame.Up.{Up}
use Rattle.svc_values.specs.declared.frame.Up.TheVariants as up
use Rattle.svc_values.specs.declared.frame.Down.{Down}
use Rattle.svc_values.specs.declared.frame.Down.TheVariants as down
use Rattle.pool_core.specs.declared.answers.Back.{Back}
use Rattle.pool_core.specs.declared.answers.Back.TheVariants as back
use Rattle.outage_schedule.specs.declared.item.Served.{Served}
use Rattle.client_model.specs.declared.act.Failed.TheVariants.{Retries, PoolWait}
use Rattle.client_model.specs.declared.act.Hold.{Hold}
use Rattle.client_model.specs.declared.act.Hold.TheVariants as hold
use Rattle.client_model.specs.declared.input.Input.{Input}
use Rattle.client_model.specs.declared.input.Input.TheVariants.{Start, Waiting, Lent, Opened, TryFailed, Took, Gone}
use Rattle.client_model.specs.meaning.Talk.{stands, quiet, fails, with_tried, lost_of, if_alive, on_waiting, waits_from, on_try_failed, takes, talk_step}
use Rattle.client_model.specs.meaning.States.{Losing}
use Rattle.client_model.specs.meaning.Terms.{Terms, Talk, Queued, Seeking, Greeting}
use Rattle.world_model.specs.meaning.Acting.{closing, sent_by}
use Rattle.world_model.specs.meaning.Clients.{Doing}
use Rattle.world_model.specs.meaning.Frames.{Owner, Sent, Reply}
use Rattle.world_model.specs.records.Hold.{is_ask, is_call as is_awaited_call}
use Rattle.world_model.specs.meaning.Links.{Link, link_at, sends, takes as takes_reply}
use Rattle.world_model.specs.meaning.Machines.{Machine}
use Rattle.world_model.specs.meaning.Matching.{Noted}
use Rattle.world_model.specs.Sames.{same_owner}
use Rattle.world_model.specs.meaning.Serving.{after_front, handled}
use Rattle.world_model.specs.meaning.Settings.{Setting}
use Rattle.world_model.proofs.Offered.{HeardOn, OfNone, OfIdle, OfNew, OfReply, OfEnded, is_frame, sends_alike, cut_said, fallen_said, handled_said, Turns, Stays, TurningIsSaid as TurnSaid, IsTaken, IsServed, IsCut, IsReaped, HasFallen, WasStopped, WasServed}
use Rattle.same_laws.proofs.SessionsTold.{Holding, AsHeld, Says, has_spoken, is_talk, taken_holding}

-- FRAMES ------------------------------------------------------------------------------------------

abbrev pub talking : List Up → Bool
talking send = list_any is_talk send

closes_only : {A : Type 0} (alive : Bool) → talking (if_alive alive (up.Close ∷ [])) ≡ true → A
closes_only true says = absurd (let none : ⊥ = cc in none)
closes_only false says = absurd (let none : ⊥ = cc in none)

-- frames of another request
pub others_silent : (owner other : Owner) (call : ℕ) (frames : List Up) → same_owner owner other ≡ false → has_spoken owner (map (sent_by other call) frames) ≡ false
others_silent owner other call [] differs = refl
others_silent owner other call (frame ∷ frames) differs =
    ap (λ (test : Bool). (test && is_talk frame) || has_spoken owner (map (sent_by other call) frames)) differs ∙ others_silent owner other call frames differs

-- its own that do not go on
pub own_silent : (owner other : Owner) (call : ℕ) (frames : List Up) → talking frames ≡ false → has_spoken owner (map (sent_by other call) frames) ≡ false
own_silent owner other call [] silent = refl
own_silent owner other call (frame ∷ frames) silent = by (same_owner owner other) (is_talk frame) silent (own_silent owner other call frames)
  where
    by : (mine talk : Bool) → (talk || talking frames) ≡ false → (talking frames ≡ false → has_spoken owner (map (sent_by other call) frames) ≡ false) → ((mine && talk) || has_spoken owner (map (sent_by other call) frames)) ≡ false
    by mine true silent rest = absurd (let none : ⊥ = cc in none)
    by true false silent rest = rest silent
    by false false silent rest = rest silent

pub closing_silent : (held : Hold) (how : Back) → talking (closing held how) ≡ false
closing_silent hold.Keep how = refl
closing_silent hold.Drop how = refl
closing_silent hold.GiveBack back.Closed = refl
closing_silent hold.GiveBack back.Idle = refl

pub last_any : {A : Type 0} (test : A → Bool) (found : Option A) (xs : List A) (last : A) → last_or found xs ≡ Some last → test last ≡ true → (found ≡ Some last) ⊎ (list_any test xs ≡ true)
last_any test found [] last is here = inl is
last_any {A} test found (x ∷ xs) last is here = by (last_any test (Some x) xs last is here)
  where
    by : (Some x ≡ Some last) ⊎ (list_any test xs ≡ true) → (found ≡ Some last) ⊎ (list_any test (x ∷ xs) ≡ true)
    by (inl same) = let e : x ≡ last = cc in inr (or_left (test x) (list_any test xs) (ap test e ∙ here))
    by (inr rest) = inr (or_right (test x) (list_any test xs) rest)

-- what waits for such a frame has spoken
pub ask_talks : (x : Ltxid) (frame : Up) → is_ask x frame ≡ true → is_talk frame ≡ true
ask_talks x (up.Outcome asked) is = refl
ask_talks x frame is = absurd (let none : ⊥ = cc in none)

pub call_talks : (mark : Bool) (index : ℕ) (sent : Sent) (frame : Up) → is_awaited_call mark index sent frame ≡ true → is_talk frame ≡ true
call_talks mark index sent (up.Call replay kept call) is = refl
call_talks mark index sent frame is = absurd (let none : ⊥ = cc in none)

-- INPUTS ------------------------------------------------------------------------------------------

pub data TalksAt : Input → Type 0 where
  AtFrame : (frame : Down) (alive : Bool) → TalksAt (Took frame alive)
  AtLent : (connection : ℕ) (x : Ltxid) → TalksAt (Lent connection x)

waited_silent : {A : Type 0} (terms : Terms) (talk : Talk) (from now : ℕ) → talking (on_waiting terms talk from now).1.send ≡ true → A
waited_silent {A = A} terms talk from now = by (nat_le terms.limits.wait (now - from))
  where
    by : (long : Bool) → talking (if long then fails talk false None (PoolWait from now) else (stands talk (Queued (Some from)), quiet)).1.send ≡ true → A
    by true says = absurd (let none : ⊥ = cc in none)
    by false says = absurd (let none : ⊥ = cc in none)

tried_silent : {A : Type 0} (terms : Terms) (talk : Talk) (now : ℕ) → talking (on_try_failed terms talk now).1.send ≡ true → A
tried_silent {A = A} terms talk now = by (nat_le terms.limits.retries (talk.tries + 1))
  where
    by : (many : Bool) → talking (if many then fails (with_tried talk now) false None (Retries (talk.tries + 1)) else (stands (with_tried talk now) (Seeking (lost_of talk.phase)), quiet)).1.send ≡ true → A
    by true says = absurd (let none : ⊥ = cc in none)
    by false says = absurd (let none : ⊥ = cc in none)

pub input_talks : (terms : Terms) (talk : Talk) (input : Input) (now : ℕ) → talking (talk_step terms talk input now).1.send ≡ true → TalksAt input
input_talks terms talk (Took frame alive) now says = AtFrame frame alive
input_talks terms talk (Lent connection x) now says = AtLent connection x
input_talks terms talk Start now says = absurd (let none : ⊥ = cc in none)
input_talks terms talk Waiting now says = waited_silent terms talk (waits_from talk.phase now) now says
input_talks terms talk (Opened connection) now says = absurd (let none : ⊥ = cc in none)
input_talks terms talk TryFailed now says = tried_silent terms talk now says
input_talks terms talk (Gone event) now says = absurd (let none : ⊥ = cc in none)

-- behind Connect it goes on at Hello alone
pub greeted_hello : (terms : Terms) (talk : Talk) (lost : Option Losing) (frame : Down) (alive : Bool) (now : ℕ) → talking (takes terms talk (Greeting lost) frame alive now).1.send ≡ true → (x : Ltxid) × (frame ≡ down.Hello x)
greeted_hello terms talk lost (down.Hello x) alive now says = (x, refl)
greeted_hello terms talk lost down.Blocked alive now says = absurd (let none : ⊥ = cc in none)
greeted_hello terms talk lost (down.Refused cause) alive now says = absurd (let none : ⊥ = cc in none)
greeted_hello terms talk lost (down.Reply answers draws x) alive now says = closes_only alive says
greeted_hello terms talk lost (down.OutcomeIs committed completed) alive now says = closes_only alive says
greeted_hello terms talk lost (down.OutcomeRefused way horizon) alive now says = closes_only alive says

-- WHAT IS HELD ------------------------------------------------------------------------------------

pub turn_holding : (m : Machine) (items left : List Served) (kind : Noted) (number : ℕ) (link next : Link) → Turns m items left kind number link next → Holding link next
turn_holding m items left kind number link _ (Stays _) = AsHeld refl refl
turn_holding m items left kind number link _ (TurnSaid frames _ idle) = Says frames (sends_alike (λ l. l.held ≡ link.held) m.event frames link refl refl) (sends_alike (λ l. l.sent ≡ link.sent ++ frames) m.event frames link refl refl)
turn_holding m items left kind number link _ (IsTaken frames reply later _ out down) = taken_holding m.event frames reply later link
turn_holding m items left kind number _ _ (IsServed frame front served is at ordinary same) = let said = handled_said m.event front served in AsHeld said.held said.sent
turn_holding m items left kind number link _ (IsCut ups downs _ opens) = let said = cut_said m.event ups downs link opens in AsHeld said.held said.sent
turn_holding m items left kind number link _ (IsReaped other reaped _ is) = AsHeld refl refl
turn_holding m items left kind number link _ (HasFallen other after failover down _ is apart) = let said = fallen_said m.event link in AsHeld said.held said.sent
turn_holding m items left kind number _ _ (WasStopped after failover down front served is at stopped same) = let said = fallen_said m.event (after_front front served None) in AsHeld said.held said.sent
turn_holding m items left kind number _ _ (WasServed after failover down front served is at over same) =
    let said = fallen_said m.event (handled m.event front served) in
    let first = handled_said m.event front served in
    AsHeld (said.held ∙ first.held) (said.sent ∙ first.sent)

-- the reply that is taken, and its connection then
pub record TakenHere (m n : Machine) (said : List Sent) (had : Option ℕ) (frame : Down) : Type 0 where
  pub number : ℕ
  pub has : had ≡ Some number
  pub link : Link
  pub there : link_at m.links number ≡ Some link
  pub reply : Reply
  pub later : List Reply
  pub is : reply.frame ≡ frame
  pub next : link_at n.links number ≡ Some (sends m.event said (takes_reply (Took reply.frame link.is_open) reply later link))

pub taken_here : (setting : Setting) (m n : Machine) (who : ℕ) (first : Doing) (held : Hold) (said : List Sent) (after : Doing) (had : Option ℕ) (input : Input) → HeardOn setting m n who first held said after had input
    → (frame : Down) (alive : Bool) → input ≡ Took frame alive → TakenHere m n said had frame
taken_here setting m n who first held said after _ _ (OfNone had input none plain same) frame alive is = absurd (let e : is_frame input ≡ true = ap is_frame is in let never : ⊥ = cc in never)
taken_here setting m n who first held said after _ _ (OfIdle had connection ltxid answer same) frame alive is = absurd (let never : ⊥ = cc in never)
taken_here setting m n who first held said after _ _ (OfNew had same) frame alive is = absurd (let never : ⊥ = cc in never)
taken_here setting m n who first held said after _ _ (OfReply had connection link reply left has there down now behind) frame alive is =
    record { number = connection; has = has; link = link; there = there; reply = reply; later = left; is = let e : Took reply.frame link.is_open ≡ Took frame alive = is in cc; next = now }
taken_here setting m n who first held said after _ _ (OfEnded had connection link has there closed now same) frame alive is = absurd (let never : ⊥ = cc in never)
