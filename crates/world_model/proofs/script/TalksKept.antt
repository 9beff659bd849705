-- The conversations of all requests go on in each event, to the letter.
use Rattle.std.proofs.Common.{◌≡◌, refl, sym, ap, subst, ◌∙◌, Bool, true, false, ℕ, suc, zero, List, [], ◌∷◌, ◌++◌, map, Option, Some, None, if◌then◌else◌}
use Rattle.std.proofs.lemmas.Bool.{and_from, or_right}
use Rattle.std.specs.Prelude.{◌||◌, not, slice_get, slice_set, unwrap_or, option_map, option_and_then}
use Rattle.std.specs.Option.{option_or}
use Rattle.svc_values.specs.declared.frame.Down.{Down}
use Rattle.outage_schedule.specs.declared.document.Request.{Request}
use Rattle.outage_schedule.specs.declared.item.Served.{Served}
use Rattle.pool_core.specs.meaning.Slots.{Slots}
use Rattle.client_model.specs.declared.act.Hold.{Hold}
use Rattle.client_model.specs.declared.act.Hold.TheVariants as hold
use Rattle.client_model.specs.declared.input.Input.{Input}
use Rattle.client_model.specs.declared.input.Input.TheVariants.{Waiting, Lent, Opened, TryFailed, Took, Gone}
use Rattle.client_model.specs.declared.input.Wants.{Wants}
use Rattle.client_model.specs.declared.input.Wants.TheVariants as wants
use Rattle.client_model.specs.meaning.Terms.{Terms, Idle}
use Rattle.client_model.specs.meaning.Talk.{wants_of}
use Rattle.client_model.specs.Conversation.{may_come, is_wanted, is_gone, is_gone_next}
use Rattle.world_model.specs.meaning.Settings.{Setting}
use Rattle.world_model.specs.meaning.Clients.{Doing, Past, Client, client_at, with_client, resting, doing_at, heard, begun, step_at, after_hold, after_step, past_of}
use Rattle.world_model.specs.meaning.Machines.{Machine}
use Rattle.world_model.specs.meaning.Matching.{Noted}
use Rattle.world_model.specs.meaning.Going.{lost_at_once}
use Rattle.world_model.specs.records.Conversing.{connected, Talks, IsThrough, AreThrough, IsTalking, AllTalk}
use Rattle.world_model.proofs.events.AllClients.{stepped_client, client_set, client_twice}
use Rattle.world_model.proofs.events.Moves.{IsDoing, next_number, Tries, FromQueue, Again, takes_one, Goes, Rests, Waits, Lends, Opens, Fails, Takes, Loses, ServesLast, LastNone, LastStopped, LastServed, Happens, Nothing, IsStep, Serves, Cuts, Reaps, Crashes, OpensUp, StopsOpening, Ticks, RunsOutside, Asks, Drains}
use Rattle.world_model.proofs.script.Talking.{talk_hears, begun_talks}
use Rattle.world_model.proofs.script.TalkRests.{is_awaiting, idle_after, awaits_after}

-- LISTS -------------------------------------------------------------------------------------------

abbrev ClientTalks : Terms → Client → Type 0
ClientTalks terms client = AreThrough terms client.past × IsTalking terms client.now

module _ (terms : Terms) where
  talks_get : (clients : List Client) (index : ℕ) (client : Client) → AllTalk terms clients → slice_get clients index ≡ Some client → ClientTalks terms client
  talks_get [] index client all is = absurd (let none : ⊥ = cc in none)
  talks_get (first ∷ clients) zero client all is = let same : first ≡ client = cc in subst (λ (c : Client). ClientTalks terms c) same all.0
  talks_get (first ∷ clients) (suc index) client all is = talks_get clients index client all.1 is

  -- of the client of this number
  pub talks_at : (clients : List Client) (number : ℕ) (client : Client) → AllTalk terms clients → client_at clients number ≡ Some client → AreThrough terms client.past × IsTalking terms client.now
  talks_at clients zero client all is = absurd (let none : ⊥ = cc in none)
  talks_at clients (suc index) client all is = talks_get clients index client all is

  talks_set : (clients : List Client) (index : ℕ) (client : Client) → AllTalk terms clients → ClientTalks terms client → AllTalk terms (slice_set clients index client)
  talks_set [] index client all here = all
  talks_set (first ∷ clients) zero client all here = (here, all.1)
  talks_set (first ∷ clients) (suc index) client all here = (all.0, talks_set clients index client all.1 here)

  talks_with : (clients : List Client) (number : ℕ) (client : Client) → AllTalk terms clients → ClientTalks terms client → AllTalk terms (with_client clients number client)
  talks_with clients zero client all here = all
  talks_with clients (suc index) client all here = talks_set clients index client all here

  through_more : (past : List Past) (one : Past) → AreThrough terms past → IsThrough terms one → AreThrough terms (past ++ one ∷ [])
  through_more [] one all here = (here, tt)
  through_more (first ∷ past) one all here = (all.0, through_more past one all.1 here)

  -- the one in course, or the one that begins
  pub does_talk : (event tick : ℕ) (now : Option Doing) (next : Option Request) (doing : Doing) → option_or now (option_map (begun terms event tick) next) ≡ Some doing → IsTalking terms now → Talks terms false doing
  does_talk event tick (Some one) next doing is talks = let same : one ≡ doing = cc in subst (λ (d : Doing). Talks terms false d) same talks
  does_talk event tick None (Some request) doing is talks =
      let same : begun terms event tick request ≡ doing = cc in subst (λ (d : Doing). Talks terms false d) same (begun_talks terms event tick request)
  does_talk event tick None None doing is talks = absurd (let none : ⊥ = cc in none)

-- CLIENTS -----------------------------------------------------------------------------------------

module _ (setting : Setting) where
  abbrev AllSo : List Client → Type 0
  AllSo clients = AllTalk setting.terms clients

  over_talks : (doing : Doing) (due : Bool) → Talks setting.terms due doing → doing.talk.phase ≡ Idle → IsThrough setting.terms (past_of setting.terms doing)
  over_talks doing due talks idle = record { converses = talks.converses; ended = ap (λ talk. talk.phase) talks.stands ∙ idle; reported = refl }

  held_talks : (number : ℕ) (client : Client) (doing : Doing) (held : Hold) (due : Bool) → ClientTalks setting.terms client → Talks setting.terms due doing → (held ≡ hold.Keep → due ≡ false)
      → ((held ≡ hold.Keep → ⊥) → doing.talk.phase ≡ Idle) → ClientTalks setting.terms (after_hold setting number client doing held)
  held_talks number client doing hold.Keep due here talks calm idle = (here.0, subst (λ (d : Bool). Talks setting.terms d doing) (calm refl) talks)
  held_talks number client doing hold.GiveBack due here talks calm idle =
      (through_more setting.terms client.past (past_of setting.terms doing) here.0 (over_talks doing due talks (idle (λ is. let never : ⊥ = cc in never))), tt)
  held_talks number client doing hold.Drop due here talks calm idle =
      (through_more setting.terms client.past (past_of setting.terms doing) here.0 (over_talks doing due talks (idle (λ is. let never : ⊥ = cc in never))), tt)

  step_talks : (clients : List Client) (number : ℕ) (client : Client) (doing : Doing) (held : Hold) (due : Bool) → client_at clients number ≡ Some client → AllSo clients → Talks setting.terms due doing
      → (held ≡ hold.Keep → due ≡ false) → ((held ≡ hold.Keep → ⊥) → doing.talk.phase ≡ Idle) → AllSo (after_step setting clients number doing held)
  step_talks clients number client doing held due here all talks calm idle =
      subst AllSo (sym (stepped_client setting clients number client doing held here))
      (talks_with setting.terms clients number (after_hold setting number client doing held) all
      (held_talks number client doing held due (talks_at setting.terms clients number client all here) talks calm idle))

  -- the client hears an input that it wants
  hears_talks : (clients : List Client) (number event tick : ℕ) (client : Client) (doing : Doing) (had : Option ℕ) (input : Input) (wanted : Wants) → client_at clients number ≡ Some client → AllSo clients
      → Talks setting.terms false (record doing { connection = had }) → connected had input ≡ doing.connection → wants_of setting.terms doing.talk tick ≡ wanted → is_wanted wanted input ≡ true
      → ((held : Hold) → is_gone_next input held ≡ false) → is_awaiting input (wants_of setting.terms doing.talk tick)
      → AllSo (after_step setting clients number (heard setting.terms event tick doing input) (step_at setting.terms event tick doing input).done.act.hold)
  hears_talks clients number event tick client doing had input wanted here all talks has wants_so serves calm awaits =
      step_talks clients number client (heard setting.terms event tick doing input) (step_at setting.terms event tick doing input).done.act.hold _ here all
      (talk_hears setting.terms false event tick doing had input talks has (subst (λ (w : Wants). may_come false w input ≡ true) (sym wants_so) (wanted_may input wanted serves)))
      (λ keep. calm (step_at setting.terms event tick doing input).done.act.hold) (idle_after setting.terms doing.talk input tick awaits)
    where
      wanted_may : (input : Input) (wanted : Wants) → is_wanted wanted input ≡ true → may_come false wanted input ≡ true
      wanted_may input wanted serves = and_from (is_wanted wanted input) (is_gone input || not false) serves (or_right (is_gone input) (not false) refl)

  -- the connection of the request is gone in the same event
  lost_talks : (a : Machine) (clients : List Client) (number : ℕ) (ended : Option ℕ) (client : Client) (doing : Doing) (frame : Down) (held : Hold) → a.clients ≡ after_step setting clients number doing held
      → client_at clients number ≡ Some client → AllSo clients → Talks setting.terms (is_gone_next (Took frame false) held) doing → ((held ≡ hold.Keep → ⊥) → doing.talk.phase ≡ Idle)
      → (held ≡ hold.Keep → wants_of setting.terms doing.talk a.tick ≡ wants.Frame) → AllSo (lost_at_once setting a number ended (doing_at a.clients number)).clients
  lost_talks a clients number ended client doing frame held now here all talks idle awaits = by held now talks idle awaits
    where
      set : (held : Hold) → a.clients ≡ after_step setting clients number doing held → a.clients ≡ with_client clients number (after_hold setting number client doing held)
      set held now = now ∙ stepped_client setting clients number client doing held here

      found : (held : Hold) → a.clients ≡ after_step setting clients number doing held → client_at a.clients number ≡ Some (after_hold setting number client doing held)
      found held now = ap (λ (all : List Client). client_at all number) (set held now) ∙ client_set clients number client (after_hold setting number client doing held) here

      doing_now : (held : Hold) → a.clients ≡ after_step setting clients number doing held → doing_at a.clients number ≡ (after_hold setting number client doing held).now
      doing_now held now = ap (λ (one : Option Client). option_and_then (λ (c : Client). c.now) one) (found held now)

      over : (held : Hold) → a.clients ≡ after_step setting clients number doing held → AllSo (after_step setting clients number doing held) → (after_hold setting number client doing held).now ≡ None
          → AllSo (lost_at_once setting a number ended (doing_at a.clients number)).clients
      over held now stepped none = subst (λ (one : Option Doing). AllSo (lost_at_once setting a number ended one).clients) (sym (doing_now held now ∙ none)) (subst AllSo (sym now) stepped)

      gone : Doing
      gone = heard setting.terms a.event a.tick (record doing { connection = None }) (Gone (unwrap_or ended 0))

      kept : a.clients ≡ after_step setting clients number doing hold.Keep → Talks setting.terms true doing → wants_of setting.terms doing.talk a.tick ≡ wants.Frame
          → AllSo (lost_at_once setting a number ended (doing_at a.clients number)).clients
      kept now talks awaits =
          let one : Client = record client { now = Some doing } in
          let next : Client = record client { now = Some gone } in
          let goes : Talks setting.terms false gone =
          talk_hears setting.terms true a.event a.tick (record doing { connection = None }) doing.connection (Gone (unwrap_or ended 0)) talks refl
          (subst (λ (w : Wants). may_come true w (Gone (unwrap_or ended 0)) ≡ true) (sym awaits) refl) in
          let last : after_step setting a.clients number gone hold.Keep ≡ with_client clients number next =
          stepped_client setting a.clients number one gone hold.Keep (found hold.Keep now) ∙ (ap (λ (c : List Client). with_client c number next) (set hold.Keep now) ∙ client_twice clients number one next) in
          subst (λ (lost : Option Doing). AllSo (lost_at_once setting a number ended lost).clients) (sym (doing_now hold.Keep now))
          (subst AllSo (sym last) (talks_with setting.terms clients number next all ((talks_at setting.terms clients number client all here).0, goes)))

      by : (held : Hold) → a.clients ≡ after_step setting clients number doing held → Talks setting.terms (is_gone_next (Took frame false) held) doing → ((held ≡ hold.Keep → ⊥) → doing.talk.phase ≡ Idle)
          → (held ≡ hold.Keep → wants_of setting.terms doing.talk a.tick ≡ wants.Frame) → AllSo (lost_at_once setting a number ended (doing_at a.clients number)).clients
      by hold.Keep now talks idle awaits = kept now talks (awaits refl)
      by hold.GiveBack now talks idle awaits = over hold.GiveBack now (step_talks clients number client doing hold.GiveBack false here all talks (λ keep. refl) idle) refl
      by hold.Drop now talks idle awaits = over hold.Drop now (step_talks clients number client doing hold.Drop false here all talks (λ keep. refl) idle) refl

  unless_talks : (a : Machine) (clients : List Client) (number : ℕ) (ended : Option ℕ) (client : Client) (doing : Doing) (frame : Down) (alive : Bool) (held : Hold) → a.clients ≡ after_step setting clients number doing held
      → client_at clients number ≡ Some client → AllSo clients → Talks setting.terms (is_gone_next (Took frame alive) held) doing → ((held ≡ hold.Keep → ⊥) → doing.talk.phase ≡ Idle)
      → (held ≡ hold.Keep → wants_of setting.terms doing.talk a.tick ≡ wants.Frame) → AllSo (if alive then a else lost_at_once setting a number ended (doing_at a.clients number)).clients
  unless_talks a clients number ended client doing frame true held now here all talks idle awaits =
      subst AllSo (sym now) (step_talks clients number client doing held (is_gone_next (Took frame true) held) here all talks (λ keep. refl) idle)
  unless_talks a clients number ended client doing frame false held now here all talks idle awaits = lost_talks a clients number ended client doing frame held now here all talks idle awaits

  -- EVENTS ----------------------------------------------------------------------------------------

  module _ (m : Machine) (all : AllSo m.clients) where
    is_now : (number : ℕ) (doing : Doing) (wanted : Wants) → IsDoing setting m number doing wanted → Talks setting.terms false doing
    is_now number doing wanted is = does_talk setting.terms m.event m.tick is.client.now is.client.next doing is.does (talks_at setting.terms m.clients number is.client all is.here).1

    opened_wanted : (number connection : ℕ) (wanted : Wants) (pool : Slots) → Tries m number wanted pool → is_wanted wanted (Opened connection) ≡ true
    opened_wanted number connection _ _ (FromQueue answer) = refl
    opened_wanted number connection _ _ Again = refl

    failed_wanted : (number : ℕ) (wanted : Wants) (pool : Slots) → Tries m number wanted pool → is_wanted wanted TryFailed ≡ true
    failed_wanted number _ _ (FromQueue answer) = refl
    failed_wanted number _ _ Again = refl

    goes_talks : (number : ℕ) (a : Machine) → Goes setting m number a → AllSo a.clients
    goes_talks number _ Rests = all
    goes_talks number _ (Waits doing is answer) =
        hears_talks m.clients number m.event m.tick is.client doing doing.connection Waiting wants.Slot is.here all (is_now number doing wants.Slot is) refl is.wants refl (λ held. refl) tt
    goes_talks number _ (Lends doing connection link ltxid is answer there held) =
        hears_talks m.clients number m.event m.tick is.client (record doing { connection = Some connection }) doing.connection (Lent connection ltxid) wants.Slot is.here all (is_now number doing wants.Slot is) refl is.wants refl (λ held. refl) tt
    goes_talks number _ (Opens doing wanted pool is tries runs) =
        hears_talks m.clients number m.event m.tick is.client (record doing { connection = Some (next_number m) }) doing.connection (Opened (next_number m)) wanted is.here all (is_now number doing wanted is) refl is.wants
        (opened_wanted number (next_number m) wanted pool tries) (λ held. refl) tt
    goes_talks number _ (Fails doing wanted pool is tries down) =
        hears_talks m.clients number m.event m.tick is.client doing doing.connection TryFailed wanted is.here all (is_now number doing wanted is) refl is.wants (failed_wanted number wanted pool tries) (λ held. refl) tt
    goes_talks number _ (Takes doing connection link reply left is on down) =
        let a : Machine = takes_one setting m number doing connection link reply left in
        let input : Input = Took reply.frame link.is_open in
        unless_talks a m.clients number link.ended is.client (heard setting.terms m.event m.tick doing input) reply.frame link.is_open (step_at setting.terms m.event m.tick doing input).done.act.hold refl is.here all
        (talk_hears setting.terms false m.event m.tick doing doing.connection input (is_now number doing wants.Frame is) refl (subst (λ (w : Wants). may_come false w input ≡ true) (sym is.wants) refl))
        (idle_after setting.terms doing.talk input m.tick is.wants) (awaits_after setting.terms doing.talk reply.frame link.is_open m.tick is.wants)
    goes_talks number _ (Loses doing connection link is on none closed) =
        hears_talks m.clients number m.event m.tick is.client (record doing { connection = None }) doing.connection (Gone (unwrap_or link.ended 0)) wants.Frame is.here all (is_now number doing wants.Frame is) refl is.wants refl (λ held. refl) tt

    last_talks : (number after : ℕ) (items left : List Served) (a : Machine) → ServesLast m number after items left a → AllSo a.clients
    last_talks number after items left _ (LastNone same) = all
    last_talks number after items left _ (LastStopped front served is stopped same) = all
    last_talks number after items left _ (LastServed front served is over same) = all

    pub happens_talks : (items left : List Served) (happened : Noted) (n : Machine) → Happens setting m items left happened n → AllTalk setting.terms n.clients
    happens_talks items left happened _ (Nothing kind other) = all
    happens_talks items left happened _ (IsStep number did n moves) = goes_talks number n moves
    happens_talks items left happened _ (Serves number frame front served is ordinary same) = all
    happens_talks items left happened _ (Cuts number up down reached link is) = all
    happens_talks items left happened _ (Reaps number reaped orphan) = all
    happens_talks items left happened _ (Crashes number after failover down a runs last) = last_talks number after items left a last
    happens_talks items left happened _ (OpensUp incarnation down may) = all
    happens_talks items left happened _ (StopsOpening made down) = all
    happens_talks items left happened _ Ticks = all
    happens_talks items left happened _ (RunsOutside ran runs) = all
    happens_talks items left happened _ (Asks ltxid result runs) = all
    happens_talks items left happened _ (Drains closed) = all

-- THE START ---------------------------------------------------------------------------------------

pub none_talks : {A : Type 0} (terms : Terms) (script : A → List Request) (all : List A) → AllTalk terms (map (λ one. resting (script one) []) all)
none_talks terms script [] = tt
none_talks terms script (one ∷ all) = ((tt, tt), none_talks terms script all)
