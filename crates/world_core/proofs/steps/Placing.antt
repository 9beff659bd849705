-- What may be handed to a client that stands for the machine's, and what becomes of it.
use Rattle.std.proofs.Common.{◌≡◌, inl, inr, ℕ, zero, suc, ◌<◌, ◌≤◌, Bool, true, false, IsTrue, List, [], ◌∷◌, Option, Some, None, refl, sym, ap, subst, ◌∙◌}
use Rattle.std.specs.Prelude.{IfSome, is_none, slice_get, unwrap_or}
use Rattle.std.specs.Option.{option_map_or}
use Rattle.svc_values.specs.Identifiers.{IsLtxid}
use Rattle.svc_values.specs.declared.entry.Ltxid.{Ltxid}
use Rattle.svc_values.specs.declared.frame.Up.{Up}
use Rattle.pool_core.specs.meaning.Slots.{Slots, is_among}
use Rattle.request_bounds.specs.meaning.Rules.{Rules}
use Rattle.outage_schedule.specs.declared.document.Request.{Request}
use Rattle.client_model.specs.declared.act.Hold.{Hold}
use Rattle.client_model.specs.declared.act.Hold.TheVariants.{Keep, GiveBack, Drop}
use Rattle.client_model.specs.declared.input.Input.{Input}
use Rattle.client_model.specs.declared.input.Wants.{Wants}
use Rattle.client_model.specs.Conversation.{may_come, is_gone_next}
use Rattle.client_model.specs.meaning.Talk.{talk_step, wants_of}
use Rattle.client_model.specs.meaning.Terms.{Terms, Talk}
use Rattle.driver_core.specs.Driving.{ArePast}
use Rattle.world_model.specs.meaning.Acting.{act_at, steps}
use Rattle.world_model.specs.meaning.Clients.{Doing, Client, client_at, with_client, heard, after_hold, after_step}
use Rattle.world_model.specs.meaning.Links.{Link, link_at}
use Rattle.world_model.specs.meaning.Machines.{Machine}
use Rattle.world_model.specs.meaning.Settings.{Setting}
use Rattle.world_core.specs.declared.client.Course.{Course}
use Rattle.world_core.specs.declared.connection.Connection.{Connection}
use Rattle.world_core.specs.declared.traffic.Traffic.{Traffic}
use Rattle.world_core.specs.Coursing.{Held, terms_in, step_of, IsNow, IsClient, with_connection}
use Rattle.world_core.specs.Linked.{IsLink, AreLinks, connection_at, MaySend, IsOpenAt}
use Rattle.world_core.specs.Stepping.{connection_in, is_going, IsGoing, IsPlaced, IsHis, Acts, Goes}
use Rattle.world_core.specs.Underway.{IsUnderway, MayRelease}
use Rattle.world_core.proofs.Places.{slice_same, slice_other}
use Rattle.world_core.proofs.steps.Stepped.{same_connection}

-- CONNECTIONS -------------------------------------------------------------------------------------

-- one of the machine stands for the one that is held under its number
abbrev pub HeldAt : List Connection → ℕ → Link → Type 0
HeldAt all number link = (one : Connection) × (connection_at all number ≡ Some one) × IsLink one link

some_link : (a b : Link) → ◌≡◌ {A = Option Link} (Some a) (Some b) → a ≡ b
some_link a b e = cc

held_by : (all : List Connection) (links : List Link) (index : ℕ) (link : Link) → AreLinks all links → slice_get links index ≡ Some link → HeldAt all (suc index) link
held_by [] [] index link are is = absurd (let none : ⊥ = cc in none)
held_by [] (l ∷ links) index link are is = absurd are
held_by (c ∷ all) [] index link are is = absurd are
held_by (c ∷ all) (l ∷ links) zero link are is = (c, refl, subst (IsLink c) (some_link l link is) are.0)
held_by (c ∷ all) (l ∷ links) (suc index) link are is = held_by all links index link are.1 is

pub held_at : (all : List Connection) (links : List Link) (number : ℕ) (link : Link) → AreLinks all links → link_at links number ≡ Some link → HeldAt all number link
held_at all links zero link are is = absurd (let none : ⊥ = cc in none)
held_at all links (suc index) link are is = held_by all links index link are is

not_ended : (ended : Option ℕ) → is_none ended ≡ true → ended ≡ None
not_ended None is = refl
not_ended (Some event) is = absurd (let none : ⊥ = cc in none)

pub open_there : (all : List Connection) (links : List Link) (number : ℕ) (link : Link) → AreLinks all links → link_at links number ≡ Some link → link.is_open ≡ true → IsOpenAt all number
open_there all links number link are is opens =
    let found = held_at all links number link are is in
    let unended : found.0.ended ≡ None = not_ended found.0.ended (sym found.2.is_open ∙ opens) in
    λ frames. subst (λ (one : Option Connection). MaySend one frames) (sym found.1) (inr unended)

-- nothing may always be sent
pub may_nothing : (found : Option Connection) → MaySend found []
may_nothing None = tt
may_nothing (Some held) = inl refl

release_any : (pool : Slots) (connection : ℕ) (hold : Hold) → 0 < pool.lent → connection ≤ pool.opened → is_among connection pool.idle ≡ false → MayRelease pool connection true hold
release_any pool connection Keep lent opened busy = tt
release_any pool connection GiveBack lent opened busy = (lent, opened, busy)
release_any pool connection Drop lent opened busy = lent

-- CLIENTS -----------------------------------------------------------------------------------------

pub client_there : (clients : List Client) (number : ℕ) (old new : Client) → client_at clients number ≡ Some old → client_at (with_client clients number new) number ≡ Some new
client_there clients zero old new is = absurd (let none : ⊥ = cc in none)
client_there clients (suc index) old new is = slice_same clients index old new is

pub client_other : (clients : List Client) (number other : ℕ) (new : Client) → (other ≡ number → ⊥) → client_at (with_client clients number new) other ≡ client_at clients other
client_other clients zero other new apart = refl
client_other clients (suc index) zero new apart = refl
client_other clients (suc index) (suc other) new apart = slice_other clients index other new (λ same. apart (ap suc same))

pub same_hold : (setting : Setting) (number : ℕ) (client : Client) (now : Option Doing) (doing : Doing) (hold : Hold) → after_hold setting number (record client { now = now }) doing hold ≡ after_hold setting number client doing hold
same_hold setting number client now doing Keep = refl
same_hold setting number client now doing GiveBack = refl
same_hold setting number client now doing Drop = refl

-- behind a step the client stands there, and the others as before
pub record IsStepped (clients : List Client) (number : ℕ) (next : List Client) (client : Client) : Type 0 where
  pub placed : client_at next number ≡ Some client
  pub others : (other : ℕ) → (other ≡ number → ⊥) → client_at next other ≡ client_at clients other

pub stepped_so : (setting : Setting) (clients : List Client) (number : ℕ) (client : Client) (doing : Doing) (hold : Hold) → client_at clients number ≡ Some client
    → IsStepped clients number (after_step setting clients number doing hold) (after_hold setting number client doing hold)
stepped_so setting clients number client doing hold there =
    let next : Client = after_hold setting number client doing hold in
    subst (λ (found : Option Client). IsStepped clients number (option_map_or (λ (c : Client). with_client clients number (after_hold setting number c doing hold)) found clients) next) (sym there)
    record { placed = client_there clients number client next there; others = λ other apart. client_other clients number other next apart }

pub still_going : (setting : Setting) (number : ℕ) (client : Client) (doing : Doing) (hold : Hold) → (hold ≡ Keep → is_going doing.talk.phase ≡ true) → IsGoing (after_hold setting number client doing hold).now
still_going setting number client doing Keep going = going refl
still_going setting number client doing GiveBack going = refl
still_going setting number client doing Drop going = refl

-- WHERE IT IS PLACED ------------------------------------------------------------------------------

module _ (R : Type 0) (rules : R → Rules) (script : List Request) (number : ℕ) (wanted : Wants) (is_lost : Bool) (traffic : Traffic) (held : Held R) (setting : Setting) (m : Machine) (client : Client) (doing : Doing) where
  abbrev Placed : Type 0
  Placed = IsPlaced R rules script number wanted is_lost traffic held setting m client doing

  talk_by : (course : Option Course) → IsNow setting.terms held.driver.talk course (Some doing) → held.driver.talk ≡ doing.talk
  talk_by None stands = absurd stands
  talk_by (Some course) stands = stands.talk

  pub talk_is : Placed → held.driver.talk ≡ doing.talk
  talk_is at = talk_by held.course at.stands.now

  pub wants_are : Placed → wants_of (terms_in R rules held) held.driver.talk traffic.tick ≡ wanted
  wants_are at =
      ap (λ (terms : Terms). wants_of terms held.driver.talk traffic.tick) at.stands.beside.terms
      ∙ (ap (λ (talk : Talk). wants_of setting.terms talk traffic.tick) (talk_is at)
      ∙ (ap (λ (tick : ℕ). wants_of setting.terms doing.talk tick) (sym at.underway.tick) ∙ at.wants))

  -- what is wanted may come
  pub may_hear : (input : Input) → Placed → may_come is_lost wanted input ≡ true → IsTrue (may_come held.driver.gone_next (wants_of (terms_in R rules held) held.driver.talk traffic.tick) input)
  may_hear input at may =
      subst (λ (lost : Bool). may_come lost (wants_of (terms_in R rules held) held.driver.talk traffic.tick) input ≡ true) (sym at.stands.beside.gone)
      (subst (λ (w : Wants). may_come is_lost w input ≡ true) (sym (wants_are at)) may)

  pub ticks_past : Placed → ArePast held.driver.talk traffic.tick
  ticks_past at = subst (λ (tick : ℕ). ArePast held.driver.talk tick) at.underway.tick at.stands.beside.ticks

  pub step_is : (input : Input) → Placed → step_of R rules held input traffic.tick ≡ talk_step setting.terms doing.talk input m.tick
  step_is input at =
      ap (λ (terms : Terms). talk_step terms held.driver.talk input traffic.tick) at.stands.beside.terms
      ∙ (ap (λ (talk : Talk). talk_step setting.terms talk input traffic.tick) (talk_is at) ∙ ap (λ (tick : ℕ). talk_step setting.terms doing.talk input tick) (sym at.underway.tick))

  pub connection_is : (connection : ℕ) → Placed → doing.connection ≡ Some connection → connection_in held.course ≡ connection
  connection_is connection at has = same_connection setting.terms held.driver.talk held.course (Some doing) doing refl at.stands.now ∙ ap (λ (one : Option ℕ). unwrap_or one 0) has

  -- whatever becomes of a connection that is its own
  pub his_release : (connection : ℕ) (link : Link) (hold : Hold) → Placed → doing.connection ≡ Some connection → IsHis m connection link → MayRelease traffic.pool (connection_in held.course) true hold
  his_release connection link hold at has his =
      subst (λ (n : ℕ). MayRelease traffic.pool n true hold) (sym (connection_is connection at has))
      (subst (λ (pool : Slots). MayRelease pool connection true hold) at.underway.pool (release_any m.pool connection hold his.lent his.opened his.busy))

  -- whatever is sent on one that is open
  pub his_may : (connection : ℕ) (link : Link) (frames : List Up) → Placed → doing.connection ≡ Some connection → IsHis m connection link → link.is_open ≡ true → MaySend (connection_at traffic.connections.all.items (connection_in held.course)) frames
  his_may connection link frames at has his opens =
      subst (λ (n : ℕ). MaySend (connection_at traffic.connections.all.items n) frames) (sym (connection_is connection at has))
      (open_there traffic.connections.all.items m.links connection link at.underway.links.are his.found opens frames)

  pub known_there : (connection : ℕ) (link : Link) (ltxid : Ltxid) → Placed → IsHis m connection link → link.held ≡ Some ltxid → IsLtxid ltxid
  known_there connection link ltxid at his has =
      let found = held_at traffic.connections.all.items m.links connection link at.underway.links.are his.found in
      subst (λ (one : Option Ltxid). IfSome one IsLtxid) (sym found.2.ltxid ∙ has) found.2.known

  -- whether its connection is open
  pub opens_as : (connection : ℕ) (link : Link) → Placed → IsHis m connection link → link.ended ≡ None → link.is_open ≡ true
  opens_as connection link at his unended =
      let found = held_at traffic.connections.all.items m.links connection link at.underway.links.are his.found in
      found.2.is_open ∙ ap (λ (ended : Option ℕ). is_none ended) (sym found.2.ended ∙ unended)

  -- anything may be sent on one that is open
  pub opened_may : (connection : ℕ) (frames : List Up) → Placed → doing.connection ≡ Some connection → IsOpenAt traffic.connections.all.items connection → MaySend (connection_at traffic.connections.all.items (connection_in held.course)) frames
  opened_may connection frames at has opens = subst (λ (n : ℕ). MaySend (connection_at traffic.connections.all.items n) frames) (sym (connection_is connection at has)) (opens frames)

  by_course : (connection : Option ℕ) (course : Option Course) → IsNow setting.terms held.driver.talk course (Some doing) → IsNow setting.terms held.driver.talk (with_connection course connection) (Some (record doing { connection = connection }))
  by_course connection None stands = absurd stands
  by_course connection (Some course) stands = record { talk = stands.talk; connection = refl; draft = stands.draft }

  -- with another connection
  pub connected : (connection : Option ℕ) → Placed → IsPlaced R rules script number wanted is_lost traffic (record held { course = with_connection held.course connection }) setting m client (record doing { connection = connection })
  connected connection at = record {
    scripted = at.scripted;
    there = at.there;
    underway = at.underway;
    stands = record {
      beside = record { terms = at.stands.beside.terms; past = at.stands.beside.past; following = at.stands.beside.following; next = at.stands.beside.next; ticks = at.stands.beside.ticks; gone = at.stands.beside.gone };
      now = by_course connection held.course at.stands.now;
    };
    wants = at.wants;
  }

-- the same, as a call says it
module _ (R : Type 0) (rules : R → Rules) (script : List Request) (number : ℕ) (wanted : Wants) (is_lost : Bool) (traffic : Traffic) (held after : Held R) (setting : Setting) (m : Machine) (client : Client) (doing : Doing) where
  pub joined : (connection : Option ℕ) → after ≡ record held { course = with_connection held.course connection } → IsPlaced R rules script number wanted is_lost traffic held setting m client doing
      → IsPlaced R rules script number wanted is_lost traffic after setting m client (record doing { connection = connection })
  joined connection same at =
      subst (λ (one : Held R). IsPlaced R rules script number wanted is_lost traffic one setting m client (record doing { connection = connection })) (sym same)
      (connected R rules script number wanted is_lost traffic held setting m client doing connection at)

-- where the machine went on beside the clients, at the same tick
module _ (R : Type 0) (rules : R → Rules) (script : List Request) (number : ℕ) (wanted : Wants) (is_lost : Bool) (traffic later : Traffic) (held : Held R) (setting : Setting) (m next : Machine) (client : Client) (doing : Doing) where
  pub moved : next.clients ≡ m.clients → next.tick ≡ m.tick → IsUnderway later next → IsPlaced R rules script number wanted is_lost traffic held setting m client doing → IsPlaced R rules script number wanted is_lost later held setting next client doing
  moved clients tick is at = record {
    scripted = at.scripted;
    there = ap (λ (all : List Client). client_at all number) clients ∙ at.there;
    underway = is;
    stands = subst (λ (t : ℕ). IsClient R rules setting number t is_lost held (record client { now = Some doing })) (sym tick) at.stands;
    wants = ap (λ (t : ℕ). wants_of setting.terms doing.talk t) tick ∙ at.wants;
  }

-- A STEP ------------------------------------------------------------------------------------------

-- the machine from which it is taken has the clients, the clock and the server of the one before
pub record IsAlike (before m : Machine) : Type 0 where
  pub clients : m.clients ≡ before.clients
  pub event : m.event ≡ before.event
  pub tick : m.tick ≡ before.tick
  pub server : m.server ≡ before.server

module _ (R : Type 0) (rules : R → Rules) (setting : Setting) (number : ℕ) where
  pub goes_by_step : (before m : Machine) (client : Client) (doing : Doing) (holds_slot : Bool) (input : Input) (many : ℕ) (next : Option Machine) (traffic : Traffic) (held : Held R) → IsAlike before m → client_at before.clients number ≡ Some client
      → is_gone_next input (act_at setting m doing input).hold ≡ false → next ≡ Some (steps setting m number doing holds_slot input)
      → ((act_at setting m doing input).hold ≡ Keep → is_going (talk_step setting.terms doing.talk input m.tick).0.phase ≡ true)
      → Acts R rules setting m number (record client { now = Some doing }) doing holds_slot input many traffic held → Goes R rules setting before number next traffic held
  goes_by_step before m client doing holds_slot input many next traffic held alike there calm follows going acts =
      let hold : Hold = (act_at setting m doing input).hold in
      let then : Doing = heard setting.terms m.event m.tick doing input in
      let stepped : IsStepped m.clients number (after_step setting m.clients number then hold) (after_hold setting number client then hold) =
      stepped_so setting m.clients number client then hold (ap (λ (clients : List Client). client_at clients number) alike.clients ∙ there) in
      record {
        after = steps setting m number doing holds_slot input;
        client = after_hold setting number client then hold;
        followed = follows;
        underway = acts.underway;
        placed = stepped.placed;
        others = λ other apart. stepped.others other apart ∙ ap (λ (clients : List Client). client_at clients other) alike.clients;
        same = (alike.event, alike.tick, alike.server);
        stands =
            subst (λ (t : ℕ). IsClient R rules setting number t false held (after_hold setting number client then hold)) alike.tick
            (subst (λ (c : Client). IsClient R rules setting number m.tick false held c) (same_hold setting number client (Some doing) then hold)
            (subst (λ (b : Bool). IsClient R rules setting number m.tick b held (after_hold setting number (record client { now = Some doing }) then hold)) calm acts.stands));
        going = still_going setting number client then hold going;
      }

  -- the note is told of what is there then
  pub goes_as : (m : Machine) (next other : Option Machine) (traffic : Traffic) (held : Held R) → other ≡ next → Goes R rules setting m number next traffic held → Goes R rules setting m number other traffic held
  goes_as m next other traffic held same goes = record {
    after = goes.after;
    client = goes.client;
    followed = same ∙ goes.followed;
    underway = goes.underway;
    placed = goes.placed;
    others = goes.others;
    same = goes.same;
    stands = goes.stands;
    going = goes.going;
  }
