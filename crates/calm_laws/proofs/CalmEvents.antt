-- Behind each calm event the service is up in its incarnation, no connection was lost, no request
-- lost a session, and nothing was blocked.
use Rattle.std.proofs.Common.{◌≡◌, refl, sym, ap, subst, ◌∙◌, Bool, true, false, ℕ, ◌+◌, ◌&&◌, ◌||◌, List, [], ◌∷◌, ◌++◌, map, Option, Some, None, ◌⊎◌, inl, inr, if◌then◌else◌, ap₂, arith}
use Rattle.std.specs.Prelude.{◌==◌, ◌≤◌, nat_le}
use Rattle.std.specs.List.{list_all, list_any}
use Rattle.std.specs.Option.{option_map_or}
use Rattle.std.proofs.lemmas.Bool.{and_parts, and_from, or_cases}
use Rattle.std.proofs.lemmas.List.Folds.{list_all-append}
use Rattle.svc_values.specs.declared.entry.Ltxid.{Ltxid}
use Rattle.svc_values.specs.declared.entry.SessionId.{SessionId}
use Rattle.svc_values.specs.declared.frame.Down.TheVariants as down
use Rattle.svc_values.specs.declared.frame.Up.{Up}
use Rattle.svc_values.specs.declared.frame.Up.TheVariants as up
use Rattle.svc_values.specs.meaning.Identifiers.{same_ltxid, same_session}
use Rattle.pool_core.specs.declared.answers.Back.{Back}
use Rattle.pool_core.specs.declared.answers.Back.TheVariants as back
use Rattle.pool_core.specs.meaning.Slots.{after_take, give_back_answer}
use Rattle.client_model.specs.declared.act.Act.{Act}
use Rattle.client_model.specs.declared.act.Hold.{Hold}
use Rattle.client_model.specs.declared.act.Hold.TheVariants as hold
use Rattle.client_model.specs.declared.input.Input.{Input}
use Rattle.client_model.specs.declared.input.Input.TheVariants.{Waiting, Lent, Opened, Took}
use Rattle.client_model.specs.declared.input.Wants.{Wants}
use Rattle.client_model.specs.declared.input.Wants.TheVariants as wants
use Rattle.outage_schedule.specs.declared.document.Document.{Document}
use Rattle.outage_schedule.specs.declared.event.Event.{Event}
use Rattle.outage_schedule.specs.declared.item.Item.{Item}
use Rattle.outage_schedule.specs.declared.item.Item.TheVariants as item
use Rattle.outage_schedule.specs.declared.item.Served.{Served}
use Rattle.outage_schedule.specs.declared.note.FrameName.{FrameName}
use Rattle.outage_schedule.specs.declared.note.Note.{Note}
use Rattle.ltxid_book.specs.meaning.Journal.{is_blocked as stands_blocked}
use Rattle.run_clauses.specs.meaning.Before.{journal_before}
use Rattle.run_clauses.specs.meaning.Outcomes.{is_uncommitted}
use Rattle.run_clauses.specs.meaning.ServiceBase.{service_base}
use Rattle.server_model.specs.meaning.Base.{Base}
use Rattle.server_model.specs.Laws.{RunsLast}
use Rattle.server_model.specs.meaning.Outcomes.{Says}
use Rattle.server_model.specs.Runs.{Happened, Served as ServedFrame, Runs}
use Rattle.server_model.specs.Seen.{Seen}
use Rattle.invariant_laws.specs.Invariant.{Invariant}
use Rattle.shown_laws.specs.Closing.{AllUnclosed}
use Rattle.world_model.specs.meaning.Acting.{act_at, closing, connection_of, frames_of, owner_at, call_in, sent_by, steps}
use Rattle.world_model.specs.meaning.Clients.{Doing, doing_at, heard, step_at}
use Rattle.world_model.specs.meaning.Cutting.{reaped_link}
use Rattle.world_model.specs.meaning.Frames.{Sent}
use Rattle.world_model.specs.meaning.Going.{lost_at_once, unless_open}
use Rattle.world_model.specs.meaning.Links.{Link, new_link, link_at, takes, sends}
use Rattle.world_model.specs.meaning.Machines.{Server, Machine}
use Rattle.world_model.specs.meaning.Matching.{Noted, matched, ServedOn}
use Rattle.world_model.specs.OneEvent.{OneEvent}
use Rattle.world_model.specs.meaning.Outside.{closed_by_drain}
use Rattle.world_model.specs.Parts.{implies, is_closed}
use Rattle.world_model.specs.meaning.ServiceDid.{item_telling}
use Rattle.world_model.specs.ServiceDid.{ServiceDid, front_served}
use Rattle.world_model.specs.meaning.Serving.{Front, front_at, is_of_front, is_ordinary, is_item_of, is_served_by, is_blocked, handled, commits_after, server_after}
use Rattle.world_model.specs.meaning.Settings.{Setting}
use Rattle.world_model.specs.Traced.{Traced}
use Rattle.world_model.specs.records.Conversing.{Talks, IsTalking}
use Rattle.world_model.specs.Words.{held_in}
use Rattle.world_model.proofs.Offered.{IsFront, front_is, at_link, at_event, Followed, follow_happens, append_all, one_all, map_all, weaker_all, eq_from, le_from, same_session_is, talks_at, left_held, Goes, Rests, Waits, Lends, Opens, MovesFails as Fails, Takes, Loses, Happens, Nothing, IsStep, Serves, Cuts, Reaps, Crashes, OpensUp, StopsOpening, Ticks, RunsOutside, MovesAsks as Asks, Drains, IsDoing, moves_next_number as next_number, takes_one, with_pool}
use Rattle.shown_laws.proofs.Offered.{was_there}
use Rattle.calm_laws.specs.meaning.Calm.{is_calm_event, blocks_past}
use Rattle.calm_laws.proofs.Blocks.{is_quiet, MeetsBlock, met_before}
use Rattle.calm_laws.proofs.CalmClients.{is_calm_client, is_calm_doing, client_calm, doing_calm, step_calm}
use Rattle.calm_laws.proofs.CalmLinks.{is_kept_link, is_calm_link, with_calm, changed_calm, each_calm, sends_calm, takes_calm, handled_calm}
use Rattle.calm_laws.proofs.Quiet.{sends_quietly, is_quiet_link, front_quiet, adds_quietly, is_calm_kind, kind_calm, kind_serves}
use Rattle.calm_laws.proofs.Talks.{is_plain, is_fair, asks_none, is_calm_input, steps_calm}

-- of the machine, whose service has this incarnation
pub record IsCalm (incarnation : ℕ) (m : Machine) : Type 0 where
  pub is_up : m.server.is_up ≡ true
  pub same : m.server.incarnation ≡ incarnation
  pub links : list_all is_calm_link m.links ≡ true
  pub clients : list_all is_calm_client m.clients ≡ true

up_not_down : {A : Type 0} (up : Bool) → up ≡ true → up ≡ false → A
up_not_down up is not = absurd (let both : true ≡ false = sym is ∙ not in let none : ⊥ = cc in none)

-- A STEP OF A CLIENT ------------------------------------------------------------------------------

closing_quiet : (held : Hold) (back : Back) → list_all asks_none (closing held back) ≡ true
closing_quiet hold.GiveBack back.Closed = refl
closing_quiet held back = refl

module _ (incarnation : ℕ) (setting : Setting) where
  -- the request hears a calm input, and acts
  hears_calm : (a : Machine) (number : ℕ) (doing : Doing) (holds_slot : Bool) (input : Input) → IsCalm incarnation a → is_calm_doing doing ≡ true → is_calm_input input ≡ true → IsCalm incarnation (steps setting a number doing holds_slot input)
  hears_calm a number doing holds_slot input calm plain quiet = record {
    is_up = calm.is_up;
    same = calm.same;
    links = changed_calm (sends a.event frames) a.links (connection_of doing) calm.links (λ link there here. sends_calm a.event frames link sent here);
    clients = step_calm setting a.clients number doing after (step_at setting.terms a.event a.tick doing input) act.hold refl told.0 parts.0 calm.clients;
  }
    where
      act : Act
      act = act_at setting a doing input

      after : Doing
      after = heard setting.terms a.event a.tick doing input

      frames : List Sent
      frames = map (sent_by (owner_at a number) (call_in after.talk.phase)) (frames_of a.pool (connection_of doing) act)

      parts : (is_plain after.talk.phase ≡ true) × ((is_fair act.failed && list_all asks_none act.send) ≡ true)
      parts = and_parts (is_plain after.talk.phase) (is_fair act.failed && list_all asks_none act.send) (steps_calm setting.terms doing.talk input a.tick plain quiet)

      told : (is_fair act.failed ≡ true) × (list_all asks_none act.send ≡ true)
      told = and_parts (is_fair act.failed) (list_all asks_none act.send) parts.1

      sent : list_all sends_quietly frames ≡ true
      sent =
          map_all asks_none sends_quietly (sent_by (owner_at a number) (call_in after.talk.phase)) (frames_of a.pool (connection_of doing) act) (λ frame one. one)
          (append_all asks_none act.send (closing act.hold (give_back_answer a.pool (connection_of doing))) told.1 (closing_quiet act.hold (give_back_answer a.pool (connection_of doing))))

  module _ (m : Machine) (calm : IsCalm incarnation m) (number : ℕ) where
    plain_now : (doing : Doing) (wanted : Wants) → IsDoing setting m number doing wanted → is_calm_doing doing ≡ true
    plain_now doing wanted is = doing_calm setting.terms m.event m.tick is.client doing (client_calm m.clients number is.client calm.clients is.here) is.does

    unless_calm : (a : Machine) (link : Link) → link.is_open ≡ true → IsCalm incarnation a → IsCalm incarnation (unless_open setting a number link)
    unless_calm a link opens here = subst (λ (test : Bool). IsCalm incarnation (if test then a else lost_at_once setting a number link.ended (doing_at a.clients number))) (sym opens) here

    goes_calm : ((doing : Doing) (connection : ℕ) (link : Link) → IsDoing setting m number doing wants.Frame → doing.connection ≡ Some connection → link_at m.links connection ≡ Some link → link.is_open ≡ true)
        → (n : Machine) → Goes setting m number n → IsCalm incarnation n
    goes_calm opens _ Rests = calm
    goes_calm opens _ (Waits doing is answer) =
        hears_calm (with_pool m (after_take m.pool number)) number doing false Waiting (record { is_up = calm.is_up; same = calm.same; links = calm.links; clients = calm.clients }) (plain_now doing wants.Slot is) refl
    goes_calm opens _ (Lends doing connection link x is answer there held) =
        hears_calm (with_pool m (after_take m.pool number)) number (record doing { connection = Some connection }) true (Lent connection x)
        (record { is_up = calm.is_up; same = calm.same; links = calm.links; clients = calm.clients }) (plain_now doing wants.Slot is) refl
    goes_calm opens _ (Opens doing wanted pool is tries up) =
        hears_calm _ number (record doing { connection = Some (next_number m) }) true (Opened (next_number m))
        (record { is_up = calm.is_up; same = calm.same; links = append_all is_calm_link m.links (new_link ∷ []) calm.links (one_all is_calm_link new_link refl); clients = calm.clients }) (plain_now doing wanted is) refl
    goes_calm opens _ (Fails doing wanted pool is tries down) = up_not_down m.server.is_up calm.is_up down
    goes_calm opens _ (Takes doing connection link reply left is on down) =
        let open_now : link.is_open ≡ true = opens doing connection link is on.has on.there in
        let input : Input = Took reply.frame link.is_open in
        unless_calm (takes_one setting m number doing connection link reply left) link open_now
        (hears_calm _ number doing true input
        (record { is_up = calm.is_up; same = calm.same; links = with_calm m.links connection (takes input reply left link) calm.links (takes_calm input reply left link (at_link is_calm_link m.links connection link calm.links on.there)); clients = calm.clients })
        (plain_now doing wants.Frame is) refl)
    goes_calm opens _ (Loses doing connection link is on none shut) = up_not_down link.is_open (opens doing connection link is on.has on.there) shut

-- EVENTS ------------------------------------------------------------------------------------------

server_same : (incarnation : ℕ) (server : Server) (one : Item) → server.is_up ≡ true → server.incarnation ≡ incarnation → ((server_after server one).is_up ≡ true) × ((server_after server one).incarnation ≡ incarnation)
server_same incarnation server item.Connect up same = (up, same)
server_same incarnation server (item.Outcome asked result) up same = by (is_uncommitted result)
  where
    by : (test : Bool) → ((if test then record server { blocked = asked ∷ server.blocked } else server).is_up ≡ true) × ((if test then record server { blocked = asked ∷ server.blocked } else server).incarnation ≡ incarnation)
    by true = (up, same)
    by false = (up, same)
server_same incarnation server one up same = (up, same)

happens_calm : (incarnation : ℕ) (setting : Setting) (m : Machine) (items left : List Served) (kind : Noted) (n : Machine) → IsCalm incarnation m → Happens setting m items left kind n → is_calm_kind kind ≡ true
    → ((number : ℕ) (frame : Option FrameName) (front : Front) (served : Served) → kind ≡ ServedOn number frame → front_at m.links number ≡ Some front → is_ordinary m front served ≡ true → items ≡ served ∷ left → is_blocked served.item ≡ false)
    → ((number : ℕ) (doing : Doing) (connection : ℕ) (link : Link) → IsDoing setting m number doing wants.Frame → doing.connection ≡ Some connection → link_at m.links connection ≡ Some link → link.is_open ≡ true)
    → IsCalm incarnation n
happens_calm incarnation setting m items left _ _ calm (Nothing kind quiet) so free opens = calm
happens_calm incarnation setting m items left _ _ calm (IsStep number did n goes) so free opens = goes_calm incarnation setting m calm number (opens number) n goes
happens_calm incarnation setting m items left _ _ calm (Serves number frame front served at ordinary same) so free opens =
    let is : IsFront m.links number front = front_is m.links number front at in
    let server = server_same incarnation m.server served.item calm.is_up calm.same in
    record {
      is_up = server.0;
      same = server.1;
      links = with_calm m.links number (handled m.event front served) calm.links (handled_calm m.event front served is.up (free number frame front served refl at ordinary same) (at_link is_calm_link m.links number front.link calm.links is.there));
      clients = calm.clients;
    }
happens_calm incarnation setting m items left _ _ calm (Cuts number up down reached link at) so free opens = absurd (let none : ⊥ = cc in none)
happens_calm incarnation setting m items left _ _ calm (Reaps number reaped orphan) so free opens =
    record { is_up = calm.is_up; same = calm.same; links = changed_calm reaped_link m.links number calm.links (λ link there here. here); clients = calm.clients }
happens_calm incarnation setting m items left _ _ calm (Crashes number after failover down a up last) so free opens = absurd (let none : ⊥ = cc in none)
happens_calm incarnation setting m items left _ _ calm (OpensUp opened down may) so free opens = up_not_down m.server.is_up calm.is_up down
happens_calm incarnation setting m items left _ _ calm (StopsOpening made down) so free opens = absurd (let none : ⊥ = cc in none)
happens_calm incarnation setting m items left _ _ calm Ticks so free opens = record { is_up = calm.is_up; same = calm.same; links = calm.links; clients = calm.clients }
happens_calm incarnation setting m items left _ _ calm (RunsOutside ran up) so free opens = record { is_up = calm.is_up; same = calm.same; links = calm.links; clients = calm.clients }
happens_calm incarnation setting m items left _ _ calm (Asks x result up) so free opens = absurd (let none : ⊥ = cc in none)
happens_calm incarnation setting m items left _ _ calm (Drains closed) so free opens = record {
  is_up = calm.is_up;
  same = calm.same;
  links = each_calm (sends m.event (closed_by_drain ∷ [])) m.links m.pool.idle calm.links (λ link here. sends_calm m.event (closed_by_drain ∷ []) link refl here);
  clients = calm.clients;
}

-- WHAT IS OPEN ------------------------------------------------------------------------------------

-- The connection of a request in course was not closed, so it is open.
open_now : (t : Traced) → Invariant t → AllUnclosed t.machine → list_all is_calm_link t.machine.links ≡ true → (number : ℕ) (doing : Doing) (connection : ℕ) (link : Link) → IsDoing t.setting (at_event t.machine) number doing wants.Frame
    → doing.connection ≡ Some connection → link_at t.machine.links connection ≡ Some link → link.is_open ≡ true
open_now t inv unclosed calm number doing connection link is has there = by link.is_open refl
  where
    now : is.client.now ≡ Some doing
    now = was_there t.setting.terms (t.machine.event + 1) t.machine.tick wants.Frame is.client.now is.client.next doing is.does is.wants (λ same. let none : ⊥ = cc in none)

    talks : Talks t.setting.terms false doing
    talks = subst (IsTalking t.setting.terms) now (talks_at t.setting.terms t.machine.clients number is.client inv.orderly.script.talks is.here).1

    among : list_any (λ other. other == connection) (held_in doing.steps) ≡ true
    among = left_held None connection doing.steps (λ one never same. let none : ⊥ = cc in none) (talks.has ∙ has)

    by : (opens : Bool) → link.is_open ≡ opens → link.is_open ≡ true
    by true opens = opens
    by false shut =
        let one = unclosed number is.client doing is.here now connection among in
        let both : Some one.link ≡ Some link = sym one.there ∙ there in
        let same : one.link ≡ link = cc in
        let never : is_closed link ≡ false = ap is_closed (sym same) ∙ one.never in
        let kept : is_kept_link link ≡ true = (and_parts (is_kept_link link) (is_quiet_link link) (at_link is_calm_link t.machine.links connection link calm there)).0 in
        absurd (let met : (false || false) ≡ true = sym (ap₂ (λ (a b : Bool). a || b) shut never) ∙ kept in let none : ⊥ = cc in none)

-- WHAT IS BLOCKED ---------------------------------------------------------------------------------

block_past : (limit : ℕ) (blocks : List Ltxid) (x : Ltxid) → list_all (λ y. nat_le y.incarnation limit) blocks ≡ true → stands_blocked blocks x ≡ true → nat_le x.incarnation limit ≡ true
block_past limit [] x past stands = absurd (let none : ⊥ = cc in none)
block_past limit (y ∷ blocks) x past stands = by (or_cases (same_ltxid y x) (stands_blocked blocks x) stands) (block_past limit blocks x parts.1)
  where
    parts : (nat_le y.incarnation limit ≡ true) × (list_all (λ z. nat_le z.incarnation limit) blocks ≡ true)
    parts = and_parts (nat_le y.incarnation limit) (list_all (λ z. nat_le z.incarnation limit) blocks) past

    by : (same_ltxid y x ≡ true) ⊎ (stands_blocked blocks x ≡ true) → (stands_blocked blocks x ≡ true → nat_le x.incarnation limit ≡ true) → nat_le x.incarnation limit ≡ true
    by (inl same) rest =
        let of = and_parts ((y.incarnation == x.incarnation) && (y.session == x.session)) (y.number == x.number) same in
        ap (λ (k : ℕ). nat_le k limit) (sym (eq_from y.incarnation x.incarnation (and_parts (y.incarnation == x.incarnation) (y.session == x.session) of.0).0)) ∙ parts.0
    by (inr later) rest = rest later

-- a call is served by the session of its connection, which is of this incarnation where it lives
served_now : (incarnation : ℕ) (server : Server) (link : Link) (frame : Up) (called : Item) (session : SessionId) → (found : Option SessionId) → is_item_of frame called ≡ true → is_blocked called ≡ true
    → option_map_or (λ one. implies true (one.incarnation == incarnation)) found true ≡ true → link.session ≡ found → is_served_by server link frame session ≡ true → session.incarnation ≡ incarnation
served_now incarnation server link (up.Call replay kept call) called session None of blocked living is by = absurd (let none : option_map_or (same_session session) None false ≡ true = ap (λ (one : Option SessionId). option_map_or (same_session session) one false) (sym is) ∙ by in let never : ⊥ = cc in never)
served_now incarnation server link (up.Call replay kept call) called session (Some one) of blocked living is by =
    let same : same_session session one ≡ true = ap (λ (found : Option SessionId). option_map_or (same_session session) found false) (sym is) ∙ by in
    ap (λ (s : SessionId). s.incarnation) (same_session_is session one same) ∙ eq_from one.incarnation incarnation living
served_now incarnation server link frame (item.Blocked call) session found of blocked living is by = absurd (let none : ⊥ = cc in none)
served_now incarnation server link frame called session found of blocked living is by = absurd (let none : ⊥ = cc in none)

-- The history tells of each frame that is served what its item does.
told_block : (m : Machine) (number : ℕ) (front : Front) (served : Served) (items : List Served) (more : List Happened) (called : Item) → front_at m.links number ≡ Some front → items ≡ served ∷ [] → served.item ≡ called → is_blocked called ≡ true
    → more ≡ front_served m.tick (front_at m.links number) items → more ≡ ServedFrame served.session m.tick front.first.frame (Says down.Blocked) ∷ []
told_block m number front served items more (item.Blocked call) at same is blocked did =
    did
    ∙ (ap₂ (front_served m.tick) at same
    ∙ ap (λ (one : Item). ServedFrame served.session m.tick front.first.frame (item_telling served.session (commits_after front.link one) one) ∷ []) is)
told_block m number front served items more called at same is blocked did = absurd (let none : ⊥ = cc in none)

module _ (document : Document) (last : RunsLast) (before after : Seen) (old new : Traced) (event : Event) (note : Note) (items : List Served) (one : OneEvent before old event note items [] after new) where
  abbrev Incarnation : ℕ
  Incarnation = (journal_before document).incarnation + 1

  -- no call that is served meets a block
  free : Invariant old → IsCalm Incarnation old.machine → list_all is_quiet before.history ≡ true → after.start ≡ service_base document → blocks_past (journal_before document) ≡ true → is_calm_event event ≡ true
      → (kind : Noted) → matched event note ≡ Some kind → (number : ℕ) (frame : Option FrameName) (front : Front) (served : Served) → kind ≡ ServedOn number frame → front_at old.machine.links number ≡ Some front
      → is_ordinary (at_event old.machine) front served ≡ true → items ≡ served ∷ [] → is_blocked served.item ≡ false
  free inv calm quiet start past calmly kind is_kind number frame front served kind_is at ordinary same = by (is_blocked served.item) refl
    where
      links_quiet : list_all is_quiet_link old.machine.links ≡ true
      links_quiet = weaker_all is_calm_link is_quiet_link old.machine.links (λ link here. (and_parts (is_kept_link link) (is_quiet_link link) here).1) calm.links

      plain : asks_none front.first.frame ≡ true
      plain = front_quiet old.machine.links number front links_quiet at

      did : one.happened ≡ front_served old.machine.tick (front_at old.machine.links number) items
      did = subst (λ (made : Event). ServiceDid old.machine made note items one.happened) (kind_serves event note number frame (is_kind ∙ ap Some kind_is)) one.did

      parts : (is_of_front (at_event old.machine) front served ≡ true) × (is_item_of front.first.frame served.item ≡ true)
      parts = and_parts (is_of_front (at_event old.machine) front served) (is_item_of front.first.frame served.item) ordinary

      by : (test : Bool) → is_blocked served.item ≡ test → is_blocked served.item ≡ false
      by false is = is
      by true is =
          let told = told_block old.machine number front served items one.happened served.item at same refl is did in
          let history : after.history ≡ before.history ++ ServedFrame served.session old.machine.tick front.first.frame (Says down.Blocked) ∷ [] = one.history ∙ ap (λ (more : List Happened). before.history ++ more) told in
          let seen = one.coupled_after.history in
          let met : MeetsBlock after.start.blocked served.session =
          met_before last after.start before.history seen.server served.session old.machine.tick front.first.frame (subst (λ (all : List Happened). Runs after.start all seen.server) history seen.runs) quiet plain in
          let past_x : nat_le met.x.incarnation (journal_before document).incarnation ≡ true =
          block_past (journal_before document).incarnation (journal_before document).blocked met.x past (ap (λ (base : Base). stands_blocked base.blocked met.x) (sym start) ∙ met.stands) in
          let link_is : IsFront old.machine.links number front = front_is old.machine.links number front at in
          let living = at_link (λ link. option_map_or (λ session. implies link.is_living (session.incarnation == old.machine.server.incarnation)) link.session true) old.machine.links number front.link inv.orderly.basic.now link_is.there in
          let lives : option_map_or (λ session. implies true (session.incarnation == old.machine.server.incarnation)) front.link.session true ≡ true =
          subst (λ (lives : Bool). option_map_or (λ session. implies lives (session.incarnation == old.machine.server.incarnation)) front.link.session true ≡ true) link_is.living living in
          let of : served.session.incarnation ≡ old.machine.server.incarnation =
          served_now old.machine.server.incarnation old.machine.server front.link front.first.frame served.item served.session front.link.session parts.1 is lives refl
          (and_parts (served.event == old.machine.event + 1) (is_served_by old.machine.server front.link front.first.frame served.session) parts.0).1 in
          let x_is : met.x.incarnation ≡ (journal_before document).incarnation + 1 = ap (λ (session : SessionId). session.incarnation) met.own ∙ (of ∙ calm.same) in
          let most : met.x.incarnation ≤ (journal_before document).incarnation = le_from met.x.incarnation (journal_before document).incarnation past_x in
          absurd (let none : ⊥ = omega arith in none)

  -- Behind a calm event all is calm.
  pub event_calm : Invariant old → AllUnclosed old.machine → IsCalm Incarnation old.machine → list_all is_quiet before.history ≡ true → after.start ≡ service_base document → blocks_past (journal_before document) ≡ true → is_calm_event event ≡ true
      → IsCalm Incarnation new.machine × (list_all is_quiet after.history ≡ true)
  event_calm inv unclosed calm quiet start past calmly =
      let followed : Followed old.setting old.machine event note items [] new.machine = follow_happens old.setting old.machine event note items [] new.machine one.follows in (
        happens_calm Incarnation old.setting (at_event old.machine) items [] followed.kind new.machine (record { is_up = calm.is_up; same = calm.same; links = calm.links; clients = calm.clients }) followed.happens (kind_calm event note followed.kind calmly followed.is_kind)
            (free inv calm quiet start past calmly followed.kind followed.is_kind) (open_now old inv unclosed calm.links),
        ap (list_all is_quiet) one.history ∙ (list_all-append is_quiet before.history one.happened
            ∙ and_from (list_all is_quiet before.history) (list_all is_quiet one.happened) quiet (adds_quietly old.machine event note items one.happened links_quiet calmly one.did)),
      )
    where
      links_quiet : list_all is_quiet_link old.machine.links ≡ true
      links_quiet = weaker_all is_calm_link is_quiet_link old.machine.links (λ link here. (and_parts (is_kept_link link) (is_quiet_link link) here).1) calm.links
