-- What an event does to the clients and to what was sent: nothing, or one client steps and sends,
-- or idle connections are closed.
use Rattle.std.proofs.Common.{◌≡◌, refl, sym, ap, subst, ◌∙◌, Bool, true, false, ℕ, ◌+◌, ◌-◌, fold, List, [], ◌∷◌, ◌++◌, map, Option, Some, None, ◌⊎◌, inl, inr, suc, zero, if◌then◌else◌}
use Rattle.std.specs.Prelude.{nat_le, unwrap_or, option_and_then}
use Rattle.std.proofs.lemmas.List.{map-append}
use Rattle.svc_values.specs.declared.entry.Ltxid.{Ltxid}
use Rattle.svc_values.specs.declared.frame.Up.{Up}
use Rattle.outage_schedule.specs.declared.item.Served.{Served}
use Rattle.pool_core.specs.declared.answers.Take.TheVariants as take
use Rattle.pool_core.specs.meaning.Slots.{Slots, take_answer, after_take}
use Rattle.client_model.specs.declared.act.Act.{Act}
use Rattle.client_model.specs.declared.act.Hold.{Hold}
use Rattle.client_model.specs.declared.act.Hold.TheVariants as hold
use Rattle.client_model.specs.declared.input.Input.{Input}
use Rattle.client_model.specs.declared.input.Input.TheVariants.{Waiting, Lent, Opened, TryFailed, Took, Gone}
use Rattle.client_model.specs.declared.input.Wants.{Wants}
use Rattle.client_model.specs.declared.input.Wants.TheVariants as wants
use Rattle.client_model.specs.declared.act.Failed.TheVariants.{Retries, PoolWait}
use Rattle.client_model.specs.Conversation.{may_come}
use Rattle.client_model.specs.meaning.Talk.{wants_of, stands, quiet, fails, with_tried, lost_of, on_waiting, waits_from, on_try_failed}
use Rattle.client_model.specs.meaning.Terms.{Talk, Queued, Seeking}
use Rattle.world_model.specs.meaning.Settings.{Setting}
use Rattle.world_model.specs.meaning.Frames.{Sent, Reply}
use Rattle.world_model.specs.meaning.Links.{Link, new_link, link_at, with_link, changed, sends, takes, told_by}
use Rattle.world_model.specs.meaning.Clients.{Doing, Client, client_at, with_client, doing_at, doing_of, heard, step_at, after_hold, after_step}
use Rattle.world_model.specs.records.Conversing.{connected}
use Rattle.world_model.specs.Words.{brought}
use Rattle.world_model.specs.meaning.Machines.{Machine}
use Rattle.world_model.specs.meaning.Matching.{Noted}
use Rattle.world_model.specs.meaning.Acting.{frames_of, call_in, sent_by, owner_at}
use Rattle.world_model.specs.meaning.Going.{lost_at_once}
use Rattle.world_model.specs.meaning.Crashing.{falls, fallen_link}
use Rattle.world_model.specs.meaning.Cutting.{cut_link, reaped_link}
use Rattle.world_model.specs.meaning.Outside.{closed_by_drain}
use Rattle.world_model.specs.meaning.Serving.{handled, after_front}
use Rattle.world_model.proofs.events.AllClients.{stepped_client, client_set, client_twice}
use Rattle.world_model.proofs.events.AllLinks.{front_is, open_is}
use Rattle.world_model.proofs.events.Lookups.{handled_said, fallen_said, cut_said, with_others, with_own, changed_own, further}
use Rattle.world_model.proofs.events.Moves.{Tries, FromQueue, Again, IsDoing, IsOn, next_number, with_new, takes_one, Goes, Rests, Waits, Lends, Opens, Fails, Takes, Loses, ServesLast, LastNone, LastStopped, LastServed, Happens, Nothing, IsStep, Serves, Cuts, Reaps, Crashes, OpensUp, StopsOpening, Ticks, RunsOutside, Asks, Drains}
use Rattle.world_model.proofs.wire.SentLists.{sent_lists, spoken, with_same, changed_same, mapped_same, changed_more, sends_more, each_more}

-- the loss of the connection may be heard in the same event
pub data GoesOn (setting : Setting) (first : Doing) (held : Hold) : Doing → Hold → Type 0 where
  AtOnce : GoesOn setting first held first held
  LostToo : (event tick ended : ℕ) → held ≡ hold.Keep → GoesOn setting first held (heard setting.terms event tick (record first { connection = None }) (Gone ended)) hold.Keep

-- a connection may be opened first
pub data Grows (lists : List (List Sent)) : List (List Sent) → Type 0 where
  AsBefore : Grows lists lists
  OneMore : Grows lists (lists ++ [] ∷ [])

-- it is of the connection that the request has
abbrev pub is_frame : Input → Bool
is_frame (Took frame alive) = true
is_frame (Gone event) = true
is_frame _ = false

-- a connection that an input brings
pub data Brings (m : Machine) (lists : List (List Sent)) : Input → Type 0 where
  NoneNew : (input : Input) → brought input ≡ None → Brings m lists input
  IdleOne : (connection : ℕ) (ltxid : Ltxid) (link : Link) → link_at m.links connection ≡ Some link → Brings m lists (Lent connection ltxid)
  NewOne : lists ≡ sent_lists m.links ++ [] ∷ [] → Brings m lists (Opened (next_number m))

-- before its frames are sent every other connection is as it was, and one that is lent has the
-- identifier that comes with it
pub record LeftAlone (m : Machine) (links : List Link) (connection : Option ℕ) (input : Input) : Type 0 where
  pub others : (number : ℕ) (link : Link) → link_at m.links number ≡ Some link → (connection ≡ Some number → ⊥) → link_at links number ≡ Some link
  pub lent : (number : ℕ) (ltxid : Ltxid) → input ≡ Lent number ltxid → (link : Link) × ((link_at m.links number ≡ Some link) × ((link_at links number ≡ Some link) × (link.held ≡ Some ltxid)))

-- behind a step: the loss of its connection is heard exactly where the request goes on and the
-- connection is not open
pub data Behind (setting : Setting) (first : Doing) (held : Hold) (opens : Bool) (ended : Option ℕ) : Doing → Type 0 where
  AsFirst : (opens ≡ false → held ≡ hold.Keep → ⊥) → Behind setting first held opens ended first
  LostBehind : (event tick : ℕ) → opens ≡ false → held ≡ hold.Keep → Behind setting first held opens ended (heard setting.terms event tick (record first { connection = None }) (Gone (unwrap_or ended 0)))

-- which connection the input is of, and what becomes of it
pub data HeardOn (setting : Setting) (m n : Machine) (who : ℕ) (first : Doing) (held : Hold) (said : List Sent) (after : Doing) : Option ℕ → Input → Type 0 where
  OfNone : (had : Option ℕ) (input : Input) → brought input ≡ None → is_frame input ≡ false → after ≡ first → HeardOn setting m n who first held said after had input
  OfIdle : (had : Option ℕ) (connection : ℕ) (ltxid : Ltxid) → take_answer m.pool who ≡ take.Lent connection → after ≡ first → HeardOn setting m n who first held said after had (Lent connection ltxid)
  OfNew : (had : Option ℕ) → after ≡ first → HeardOn setting m n who first held said after had (Opened (next_number m))
  OfReply : (had : Option ℕ) (connection : ℕ) (link : Link) (reply : Reply) (left : List Reply) → had ≡ Some connection → link_at m.links connection ≡ Some link → link.down ≡ reply ∷ left
      → link_at n.links connection ≡ Some (sends m.event said (takes (Took reply.frame link.is_open) reply left link)) → Behind setting first held link.is_open link.ended after
      → HeardOn setting m n who first held said after had (Took reply.frame link.is_open)
  OfEnded : (had : Option ℕ) (connection : ℕ) (link : Link) → had ≡ Some connection → link_at m.links connection ≡ Some link → link.is_open ≡ false → link_at n.links connection ≡ Some link → after ≡ first
      → HeardOn setting m n who first held said after had (Gone (unwrap_or link.ended 0))

-- Of this client: what its request hears on which connection, and where it stands then; and what it
-- sends there.
pub record HasStepped (setting : Setting) (m : Machine) (number : ℕ) (n : Machine) : Type 0 where
  pub client : Client
  pub here : client_at m.clients number ≡ Some client
  pub before : Doing
  pub does : doing_of setting.terms m.event m.tick client ≡ Some before
  pub connection : Option ℕ
  pub input : Input
  pub connects : connected before.connection input ≡ connection
  pub may : may_come false (wants_of setting.terms before.talk m.tick) input ≡ true
  pub silent : connection ≡ None → (step_at setting.terms m.event m.tick (record before { connection = connection }) input).done.act.send ≡ []
  pub after : Doing
  pub held : Hold
  pub goes_on : GoesOn setting (heard setting.terms m.event m.tick (record before { connection = connection }) input) (step_at setting.terms m.event m.tick (record before { connection = connection }) input).done.act.hold after held
  pub clients_are : n.clients ≡ with_client m.clients number (after_hold setting number client after held)
  pub pool : Slots
  pub heard_on : HeardOn setting m n number (heard setting.terms m.event m.tick (record before { connection = connection }) input) (step_at setting.terms m.event m.tick (record before { connection = connection }) input).done.act.hold
      (map (sent_by (owner_at m number) (call_in (heard setting.terms m.event m.tick (record before { connection = connection }) input).talk.phase))
      (frames_of pool (unwrap_or connection 0) (step_at setting.terms m.event m.tick (record before { connection = connection }) input).done.act)) after before.connection input
  pub links : List Link
  pub links_are : n.links ≡ changed (sends m.event
      (map (sent_by (owner_at m number) (call_in (heard setting.terms m.event m.tick (record before { connection = connection }) input).talk.phase))
      (frames_of pool (unwrap_or connection 0) (step_at setting.terms m.event m.tick (record before { connection = connection }) input).done.act))) links (unwrap_or connection 0)
  pub alone : LeftAlone m links connection input
  pub lists : List (List Sent)
  pub grows : Grows (sent_lists m.links) lists
  pub brings : Brings m lists input
  pub sent_are : sent_lists n.links ≡ spoken lists (unwrap_or connection 0)
      (map (sent_by (owner_at m number) (call_in (heard setting.terms m.event m.tick (record before { connection = connection }) input).talk.phase))
      (frames_of pool (unwrap_or connection 0) (step_at setting.terms m.event m.tick (record before { connection = connection }) input).done.act))

pub data MayStep (setting : Setting) (m : Machine) (n : Machine) : Type 0 where
  Still : n.clients ≡ m.clients → sent_lists n.links ≡ sent_lists m.links → MayStep setting m n
  Closed : n.clients ≡ m.clients → sent_lists n.links ≡ fold (λ (lists : List (List Sent)) (number : ℕ). spoken lists number (closed_by_drain ∷ [])) (sent_lists m.links) m.pool.idle → MayStep setting m n
  Stepped : (number : ℕ) → HasStepped setting m number n → MayStep setting m n

module _ (setting : Setting) (m : Machine) (number : ℕ) where
  abbrev FirstOf : Doing → Option ℕ → Input → Doing
  FirstOf before connection input = heard setting.terms m.event m.tick (record before { connection = connection }) input

  abbrev ActOf : Doing → Option ℕ → Input → Act
  ActOf before connection input = (step_at setting.terms m.event m.tick (record before { connection = connection }) input).done.act

  -- the frames of the step
  abbrev SaidOf : Slots → Doing → Option ℕ → Input → List Sent
  SaidOf pool before connection input = map (sent_by (owner_at m number) (call_in (FirstOf before connection input).talk.phase)) (frames_of pool (unwrap_or connection 0) (ActOf before connection input))

  -- the input may come, and where there is no connection nothing is said
  abbrev Heard : Doing → Option ℕ → Input → Type 0
  Heard before connection input = (may_come false (wants_of setting.terms before.talk m.tick) input ≡ true) × (connection ≡ None → (ActOf before connection input).send ≡ [])

  one_step : (n : Machine) (client : Client) (before : Doing) (connection : Option ℕ) (input : Input) (pool : Slots) (links : List Link) → client_at m.clients number ≡ Some client
      → doing_of setting.terms m.event m.tick client ≡ Some before → connected before.connection input ≡ connection → Heard before connection input → Grows (sent_lists m.links) (sent_lists links) → Brings m (sent_lists links) input → LeftAlone m links connection input
      → n.clients ≡ after_step setting m.clients number (FirstOf before connection input) (ActOf before connection input).hold
      → n.links ≡ changed (sends m.event (SaidOf pool before connection input)) links (unwrap_or connection 0)
      → HeardOn setting m n number (FirstOf before connection input) (ActOf before connection input).hold (SaidOf pool before connection input) (FirstOf before connection input) before.connection input → HasStepped setting m number n
  one_step n client before connection input pool links here does connects hears grows brings alone clients said on = record {
    client = client;
    here = here;
    before = before;
    does = does;
    connection = connection;
    input = input;
    connects = connects;
    may = hears.0;
    silent = hears.1;
    after = FirstOf before connection input;
    held = (ActOf before connection input).hold;
    goes_on = AtOnce;
    heard_on = on;
    clients_are = clients ∙ stepped_client setting m.clients number client (FirstOf before connection input) (ActOf before connection input).hold here;
    pool = pool;
    links = links;
    links_are = said;
    alone = alone;
    lists = sent_lists links;
    grows = grows;
    brings = brings;
    sent_are = ap sent_lists said
        ∙ changed_more (sends m.event (SaidOf pool before connection input)) (SaidOf pool before connection input) links (unwrap_or connection 0) (sends_more m.event (SaidOf pool before connection input));
  }

  -- THE CONNECTION IS GONE TOO --------------------------------------------------------------------

  lost_links : (a : Machine) (ended : Option ℕ) (doing : Option Doing) → (lost_at_once setting a number ended doing).links ≡ a.links
  lost_links a ended None = refl
  lost_links a ended (Some doing) = refl

  unless_step : (a : Machine) (ended : Option ℕ) (alive : Bool) (client : Client) (before : Doing) (connection : Option ℕ) (input : Input) (pool : Slots) (links : List Link) → client_at m.clients number ≡ Some client
      → doing_of setting.terms m.event m.tick client ≡ Some before → connected before.connection input ≡ connection → Heard before connection input → Grows (sent_lists m.links) (sent_lists links) → Brings m (sent_lists links) input → LeftAlone m links connection input
      → a.clients ≡ after_step setting m.clients number (FirstOf before connection input) (ActOf before connection input).hold
      → a.links ≡ changed (sends m.event (SaidOf pool before connection input)) links (unwrap_or connection 0)
      → ((n : Machine) (after : Doing) → n.links ≡ a.links → Behind setting (FirstOf before connection input) (ActOf before connection input).hold alive ended after
      → HeardOn setting m n number (FirstOf before connection input) (ActOf before connection input).hold (SaidOf pool before connection input) after before.connection input)
      → HasStepped setting m number (if alive then a else lost_at_once setting a number ended (doing_at a.clients number))
  unless_step a ended true client before connection input pool links here does connects hears grows brings alone clients said on =
      one_step a client before connection input pool links here does connects hears grows brings alone clients said (on a (FirstOf before connection input) refl (AsFirst (λ shut keep. let none : ⊥ = cc in none)))
  unless_step a ended false client before connection input pool links here does connects hears grows brings alone clients said on = by (ActOf before connection input).hold refl
    where
      first : Doing
      first = FirstOf before connection input

      set : a.clients ≡ with_client m.clients number (after_hold setting number client first (ActOf before connection input).hold)
      set = clients ∙ stepped_client setting m.clients number client first (ActOf before connection input).hold here

      doing_now : (held : Hold) → (ActOf before connection input).hold ≡ held → doing_at a.clients number ≡ (after_hold setting number client first held).now
      doing_now held is =
          ap (λ (one : Option Client). option_and_then (λ (c : Client). c.now) one)
          (ap (λ (all : List Client). client_at all number) (set ∙ ap (λ (h : Hold). with_client m.clients number (after_hold setting number client first h)) is)
          ∙ client_set m.clients number client (after_hold setting number client first held) here)

      over : (held : Hold) → (ActOf before connection input).hold ≡ held → (held ≡ hold.Keep → ⊥) → (after_hold setting number client first held).now ≡ None
          → HasStepped setting m number (lost_at_once setting a number ended (doing_at a.clients number))
      over held is lets none =
          subst (λ (one : Option Doing). HasStepped setting m number (lost_at_once setting a number ended one)) (sym (doing_now held is ∙ none))
          (one_step a client before connection input pool links here does connects hears grows brings alone clients said (on a first refl (AsFirst (λ shut keep. lets (sym is ∙ keep)))))

      gone : Doing
      gone = heard setting.terms a.event a.tick (record first { connection = None }) (Gone (unwrap_or ended 0))

      kept : (ActOf before connection input).hold ≡ hold.Keep → HasStepped setting m number (lost_at_once setting a number ended (Some first))
      kept is =
          let one : Client = record client { now = Some first } in
          let next : Client = record client { now = Some gone } in
          let so_far : a.clients ≡ with_client m.clients number one = set ∙ ap (λ (h : Hold). with_client m.clients number (after_hold setting number client first h)) is in
          let found : client_at a.clients number ≡ Some one = ap (λ (all : List Client). client_at all number) so_far ∙ client_set m.clients number client one here in
          record {
            client = client;
            here = here;
            before = before;
            does = does;
            connection = connection;
            input = input;
            connects = connects;
            may = hears.0;
            silent = hears.1;
            after = gone;
            held = hold.Keep;
            goes_on = LostToo a.event a.tick (unwrap_or ended 0) is;
            heard_on = on (lost_at_once setting a number ended (Some first)) gone refl (LostBehind a.event a.tick refl is);
            clients_are = stepped_client setting a.clients number one gone hold.Keep found ∙ (ap (λ (c : List Client). with_client c number next) so_far ∙ client_twice m.clients number one next);
            pool = pool;
            links = links;
            links_are = said;
            alone = alone;
            lists = sent_lists links;
            grows = grows;
            brings = brings;
            sent_are = ap sent_lists said
                ∙ changed_more (sends m.event (SaidOf pool before connection input)) (SaidOf pool before connection input) links (unwrap_or connection 0) (sends_more m.event (SaidOf pool before connection input));
          }

      by : (held : Hold) → (ActOf before connection input).hold ≡ held → HasStepped setting m number (lost_at_once setting a number ended (doing_at a.clients number))
      by hold.Keep is = subst (λ (one : Option Doing). HasStepped setting m number (lost_at_once setting a number ended one)) (sym (doing_now hold.Keep is)) (kept is)
      by hold.GiveBack is = over hold.GiveBack is (λ keep. let none : ⊥ = cc in none) refl
      by hold.Drop is = over hold.Drop is (λ keep. let none : ⊥ = cc in none) refl

-- EVENTS ------------------------------------------------------------------------------------------

module _ (setting : Setting) (m : Machine) where
  grown : (links : List Link) → sent_lists links ≡ sent_lists m.links → Grows (sent_lists m.links) (sent_lists links)
  grown links same = subst (λ (lists : List (List Sent)). Grows (sent_lists m.links) lists) (sym same) AsBefore

  -- it is wanted
  may_so : (doing : Doing) (wanted : Wants) (input : Input) → wants_of setting.terms doing.talk m.tick ≡ wanted → may_come false wanted input ≡ true → may_come false (wants_of setting.terms doing.talk m.tick) input ≡ true
  may_so doing wanted input wants may = subst (λ (w : Wants). may_come false w input ≡ true) (sym wants) may

  tries_may : (number connection : ℕ) (doing : Doing) (wanted : Wants) (pool : Slots) → IsDoing setting m number doing wanted → Tries m number wanted pool
      → (may_come false (wants_of setting.terms doing.talk m.tick) (Opened connection) ≡ true) × (may_come false (wants_of setting.terms doing.talk m.tick) TryFailed ≡ true)
  tries_may number connection doing _ _ is (FromQueue answer) = (may_so doing wants.Slot (Opened connection) is.wants refl, may_so doing wants.Slot TryFailed is.wants refl)
  tries_may number connection doing _ _ is Again = (may_so doing wants.Try (Opened connection) is.wants refl, may_so doing wants.Try TryFailed is.wants refl)

  waited_silent : (talk : Talk) (from now : ℕ) → (on_waiting setting.terms talk from now).1.send ≡ []
  waited_silent talk from now = by (nat_le setting.terms.limits.wait (now - from))
    where
      by : (long : Bool) → (if long then fails talk false None (PoolWait from now) else (stands talk (Queued (Some from)), quiet)).1.send ≡ []
      by true = refl
      by false = refl

  tried_silent : (talk : Talk) (now : ℕ) → (on_try_failed setting.terms talk now).1.send ≡ []
  tried_silent talk now = by (nat_le setting.terms.limits.retries (talk.tries + 1))
    where
      by : (many : Bool) → (if many then fails (with_tried talk now) false None (Retries (talk.tries + 1)) else (stands (with_tried talk now) (Seeking (lost_of talk.phase)), quiet)).1.send ≡ []
      by true = refl
      by false = refl

  some_none : (connection : Option ℕ) (number : ℕ) (send : List Up) → connection ≡ Some number → connection ≡ None → send ≡ []
  some_none connection number send has none = absurd (let never : ⊥ = cc in never)

  -- the connection of a reply that is taken, with what is sent behind it
  taken_there : (frames : List Sent) (connection : ℕ) (doing : Doing) (link taken : Link) → IsOn m doing connection link
      → link_at (changed (sends m.event frames) (with_link m.links connection taken) (unwrap_or doing.connection 0)) connection ≡ Some (sends m.event frames taken)
  taken_there frames connection doing link taken on =
      ap (λ (had : Option ℕ). link_at (changed (sends m.event frames) (with_link m.links connection taken) (unwrap_or had 0)) connection) on.has
      ∙ changed_own (sends m.event frames) (with_link m.links connection taken) connection taken (with_own m.links connection link taken on.there)

  left_alone : (connection : Option ℕ) (input : Input) → ((number : ℕ) (ltxid : Ltxid) → input ≡ Lent number ltxid → ⊥) → LeftAlone m m.links connection input
  left_alone connection input none = record { others = λ number link there apart. there; lent = λ number ltxid heard. absurd (none number ltxid heard) }

  lent_one : (connection number : ℕ) (link : Link) (ltxid x : Ltxid) → link_at m.links connection ≡ Some link → link.held ≡ Some ltxid → Lent connection ltxid ≡ Lent number x
      → (link : Link) × ((link_at m.links number ≡ Some link) × ((link_at m.links number ≡ Some link) × (link.held ≡ Some x)))
  lent_one connection number link ltxid x there held same =
      let at : connection ≡ number = ap (λ (input : Input). unwrap_or (brought input) 0) same in
      let here : link_at m.links number ≡ Some link = subst (λ (k : ℕ). link_at m.links k ≡ Some link) at there in
      (link, (here, (here, held ∙ ap told_by same)))

  more_links : (more : List Link) (number : ℕ) (link : Link) → link_at m.links number ≡ Some link → link_at (m.links ++ more) number ≡ Some link
  more_links more zero link there = absurd (let never : ⊥ = cc in never)
  more_links more (suc index) link there = further m.links more index link there

  pub goes_steps : (number : ℕ) (a : Machine) → Goes setting m number a → (a ≡ m) ⊎ HasStepped setting m number a
  goes_steps number _ Rests = inl refl
  goes_steps number _ (Waits doing is answer) =
      inr (one_step setting m number _ is.client doing doing.connection Waiting (after_take m.pool number) m.links is.here is.does refl
      (may_so doing wants.Slot Waiting is.wants refl, λ none. waited_silent doing.talk (waits_from doing.talk.phase m.tick) m.tick) AsBefore (NoneNew Waiting refl) (left_alone doing.connection Waiting (λ connection ltxid heard. let never : ⊥ = cc in never)) refl refl (OfNone doing.connection Waiting refl refl refl))
  goes_steps number _ (Lends doing connection link ltxid is answer there held) =
      inr (one_step setting m number _ is.client doing (Some connection) (Lent connection ltxid) (after_take m.pool number) m.links is.here is.does refl
      (may_so doing wants.Slot (Lent connection ltxid) is.wants refl, some_none (Some connection) connection _ refl) AsBefore (IdleOne connection ltxid link there)
      (record { others = λ other one at apart. at; lent = λ other x heard. lent_one connection other link ltxid x there held heard }) refl refl (OfIdle doing.connection connection ltxid answer refl))
  goes_steps number _ (Opens doing wanted pool is tries runs) =
      inr (one_step setting m number _ is.client doing (Some (next_number m)) (Opened (next_number m)) (with_new m pool).pool (m.links ++ new_link ∷ []) is.here is.does refl
      ((tries_may number (next_number m) doing wanted pool is tries).0, some_none (Some (next_number m)) (next_number m) _ refl)
      (subst (λ (lists : List (List Sent)). Grows (sent_lists m.links) lists) (sym (map-append (λ (link : Link). link.sent) m.links (new_link ∷ []))) OneMore) (NewOne (map-append (λ (link : Link). link.sent) m.links (new_link ∷ [])))
      (record { others = λ other one at apart. more_links (new_link ∷ []) other one at; lent = λ other x heard. absurd (let never : ⊥ = cc in never) }) refl refl (OfNew doing.connection refl))
  goes_steps number _ (Fails doing wanted pool is tries down) =
      inr (one_step setting m number _ is.client doing doing.connection TryFailed pool m.links is.here is.does refl
      ((tries_may number 0 doing wanted pool is tries).1, λ none. tried_silent doing.talk m.tick) AsBefore (NoneNew TryFailed refl) (left_alone doing.connection TryFailed (λ connection ltxid heard. let never : ⊥ = cc in never)) refl refl (OfNone doing.connection TryFailed refl refl refl))
  goes_steps number _ (Takes doing connection link reply left is on down) =
      let taken : Link = takes (Took reply.frame link.is_open) reply left link in
      inr (unless_step setting m number (takes_one setting m number doing connection link reply left) link.ended link.is_open is.client doing doing.connection (Took reply.frame link.is_open) m.pool
      (with_link m.links connection taken) is.here is.does refl (may_so doing wants.Frame (Took reply.frame link.is_open) is.wants refl, some_none doing.connection connection _ on.has)
      (grown (with_link m.links connection taken) (with_same m.links connection link taken on.there refl)) (NoneNew (Took reply.frame link.is_open) refl)
      (record { others = λ other one at apart. with_others m.links connection other taken (λ same. apart (on.has ∙ ap Some (sym same))) ∙ at; lent = λ other x heard. absurd (let never : ⊥ = cc in never) }) refl refl
      (λ n after same behind. OfReply doing.connection connection link reply left on.has on.there down
      (ap (λ (all : List Link). link_at all connection) same ∙ taken_there (SaidOf setting m number m.pool doing doing.connection (Took reply.frame link.is_open)) connection doing link taken on) behind))
  goes_steps number _ (Loses doing connection link is on none closed) =
      inr (one_step setting m number _ is.client doing None (Gone (unwrap_or link.ended 0)) m.pool m.links is.here is.does refl
      (may_so doing wants.Frame (Gone (unwrap_or link.ended 0)) is.wants refl, λ never. refl) AsBefore (NoneNew (Gone (unwrap_or link.ended 0)) refl) (left_alone None (Gone (unwrap_or link.ended 0)) (λ connection ltxid heard. let never : ⊥ = cc in never)) refl refl
      (OfEnded doing.connection connection link on.has on.there closed on.there refl))

  goes_step : (number : ℕ) (a : Machine) → Goes setting m number a → MayStep setting m a
  goes_step number a moves = by (goes_steps number a moves)
    where
      by : (a ≡ m) ⊎ HasStepped setting m number a → MayStep setting m a
      by (inl same) = Still (ap (λ (one : Machine). one.clients) same) (ap (λ (one : Machine). sent_lists one.links) same)
      by (inr step) = Stepped number step

  fallen_same : (links : List Link) → sent_lists (map (fallen_link m.event) links) ≡ sent_lists links
  fallen_same links = mapped_same (fallen_link m.event) links (λ link. (fallen_said m.event link).sent)

  last_step : (number after : ℕ) (failover : Bool) (items left : List Served) (a : Machine) → ServesLast m number after items left a → MayStep setting m (falls failover a)
  last_step number after failover items left _ (LastNone same) = Still refl (fallen_same m.links)
  last_step number after failover items left _ (LastStopped front served is stopped same) =
      let next : Link = after_front front served None in
      Still refl (fallen_same (with_link m.links number next) ∙ with_same m.links number front.link next (front_is m.links number front is).there refl)
  last_step number after failover items left _ (LastServed front served is over same) =
      let next : Link = handled m.event front served in
      Still refl (fallen_same (with_link m.links number next) ∙ with_same m.links number front.link next (front_is m.links number front is).there (handled_said m.event front served).sent)

  pub happens_step : (items left : List Served) (happened : Noted) (n : Machine) → Happens setting m items left happened n → MayStep setting m n
  happens_step items left happened _ (Nothing kind other) = Still refl refl
  happens_step items left happened _ (IsStep number did n moves) = goes_step number n moves
  happens_step items left happened _ (Serves number frame front served is ordinary same) =
      Still refl (with_same m.links number front.link (handled m.event front served) (front_is m.links number front is).there (handled_said m.event front served).sent)
  happens_step items left happened _ (Cuts number up down reached link is) =
      let at = open_is m.links number link is in
      Still refl (with_same m.links number link (cut_link m.event up down link) at.there (cut_said m.event up down link at.open_now).sent)
  happens_step items left happened _ (Reaps number reaped orphan) = Still refl (changed_same reaped_link m.links number (λ link. refl))
  happens_step items left happened _ (Crashes number after failover down a runs last) = last_step number after failover items left a last
  happens_step items left happened _ (OpensUp incarnation down may) = Still refl refl
  happens_step items left happened _ (StopsOpening made down) = Still refl refl
  happens_step items left happened _ Ticks = Still refl refl
  happens_step items left happened _ (RunsOutside ran runs) = Still refl refl
  happens_step items left happened _ (Asks ltxid result runs) = Still refl refl
  happens_step items left happened _ (Drains closed) = Closed refl (each_more m.event (closed_by_drain ∷ []) m.links m.pool.idle)

-- THE REQUEST -------------------------------------------------------------------------------------

pub same_request_after : (setting : Setting) (first after : Doing) (held kept : Hold) → GoesOn setting first held after kept → after.request ≡ first.request
same_request_after setting first _ held _ AtOnce = refl
same_request_after setting first _ held _ (LostToo event tick ended is) = refl
