-- The finish of a run ends: each of its events leaves less of it.
use Rattle.std.proofs.Common.{◌≡◌, ◌≢◌, refl, sym, ap, subst, ◌∙◌, Bool, true, false, ℕ, suc, zero, ◌+◌, ◌-◌, ◌*◌, ◌≤◌, ◌<◌, ◌&&◌, ◌||◌, length, List, [], ◌∷◌, Option, Some, None, if◌then◌else◌, arith, inr}
use Rattle.std.specs.Prelude.{◌==◌, not, nat_le, is_some, slice_get, slice_set, option_map, option_and_then}
use Rattle.std.specs.List.{list_any}
use Rattle.std.specs.Option.{option_or, option_map_or}
use Rattle.std.proofs.lemmas.Bool.Decides.{nat_tests}
use Rattle.std.proofs.lemmas.Option.{slice_get_within}
use Rattle.outage_schedule.specs.declared.document.Request.{Request}
use Rattle.outage_schedule.specs.declared.event.Event.{Event}
use Rattle.outage_schedule.specs.declared.event.Event.TheVariants as event
use Rattle.outage_schedule.specs.declared.note.Note.{Note}
use Rattle.outage_schedule.specs.declared.note.Note.TheVariants as note
use Rattle.outage_schedule.specs.declared.item.Served.{Served}
use Rattle.client_model.specs.declared.input.Wants.TheVariants as wants
use Rattle.client_model.specs.meaning.Terms.{Terms, Phase}
use Rattle.client_model.specs.meaning.Talk.{wants_of, wants_in}
use Rattle.world_model.specs.meaning.Settings.{Setting}
use Rattle.world_model.specs.meaning.Frames.{Sent}
use Rattle.world_model.specs.meaning.Links.{Link, link_at, is_orphan}
use Rattle.world_model.specs.meaning.Clients.{Doing, Client, client_at, with_client, begun, script_at, is_unfinished}
use Rattle.world_model.specs.meaning.Machines.{Machine}
use Rattle.world_model.specs.meaning.Noting.{only_if}
use Rattle.world_model.specs.meaning.Matching.{Went as StepOf}
use Rattle.world_model.specs.meaning.Walking.{by_kind, follow}
use Rattle.world_model.specs.meaning.Cutting.{has_orphan}
use Rattle.world_model.specs.meaning.Serving.{Front, first_of, front_of, front_at}
use Rattle.world_model.specs.Orderly.{Orderly}
use Rattle.world_model.specs.meaning.Finishing.{Place, AtServer, AtOrphans, AtRound, AtClients, AtLinks, first_behind, serves_or_ticks, goes_or_serves, next_round, reaps_or_goes, next_finish}
use Rattle.world_model.specs.FinishEnds.{is_at_server, FinishFalls}
use Rattle.world_model.specs.RoundsLeft.{awaits_tick}
use Rattle.world_model.specs.Remaining.{once_if, may_serve, doing_rounds, rounds_with, client_rounds, requests_left, has_stepped, rounds_from, links_work, round_work, remaining}
use Rattle.world_model.specs.Traced.{Traced}
use Rattle.world_model.proofs.events.AllClients.{client_set, client_others}
use Rattle.world_model.proofs.events.AllLinks.{at_link}
use Rattle.world_model.proofs.events.ClientsLong.{with_long}
use Rattle.world_model.proofs.finish.ClientRounds.{like_itself, doing_like, with_less}
use Rattle.world_model.proofs.events.Courses.{clients_apart, held_busy}
use Rattle.world_model.proofs.finish.FinishFalls.{has_now, client_by, AllStepped, opening_falls, reap_falls, serve_falls, tick_falls}
use Rattle.world_model.proofs.finish.FinishGoes.{seeking_phase, early_waits}
use Rattle.world_model.proofs.finish.FinishLinks.{falls_so, leaves_is}
use Rattle.world_model.proofs.finish.FinishMoves.{waits, lends, opens}
use Rattle.world_model.proofs.finish.FinishSteps.{Went}
use Rattle.world_model.proofs.finish.FinishTakes.{loses_one, takes_it}
use Rattle.world_model.proofs.finish.FirstBehind.{IsFirst, NoneBehind, first_is, none_is}
use Rattle.world_model.proofs.events.Happened.{at_event}
use Rattle.world_model.proofs.hold.Held.{held_now}
use Rattle.world_model.proofs.wire.KeptWire.{all_orderly}
use Rattle.world_model.proofs.basic.LinkEnds.{ends_at}
use Rattle.world_model.proofs.wire.LinkOrder.{is_orderly}
use Rattle.world_model.proofs.wire.LinkOut.{awaits_out}
use Rattle.world_model.proofs.wire.LinkSent.{open_living}
use Rattle.world_model.proofs.number.LinkSettled.{reply_came}
use Rattle.world_model.proofs.events.Moves.{IsDoing}
use Rattle.world_model.proofs.events.Resting.{Going, IsFinished, IsEarly, NoneCame, Waits, Lends, Opens, Fails, Takes, Loses, going_by}
use Rattle.world_model.proofs.finish.RoundSums.{rounds_at, rounds_most}
use Rattle.world_model.proofs.script.Strangers.{frame_now}
use Rattle.world_model.proofs.events.Tests.{eq_from, eq_to, le_from, le_to}

-- CLIENTS -----------------------------------------------------------------------------------------

set_same : (clients : List Client) (index : ℕ) (client : Client) → slice_get clients index ≡ Some client → slice_set clients index client ≡ clients
set_same [] index client is = refl
set_same (first ∷ clients) zero client is = ap (λ (c : Client). c ∷ clients) (let same : client ≡ first = cc in same)
set_same (first ∷ clients) (suc index) client is = ap (λ (rest : List Client). first ∷ rest) (set_same clients index client is)

with_itself : (clients : List Client) (number : ℕ) (client : Client) → client_at clients number ≡ Some client → with_client clients number client ≡ clients
with_itself clients zero client is = refl
with_itself clients (suc index) client is = set_same clients index client is

at_least : (index last : ℕ) → nat_le (suc index) last ≡ false → last ≤ index
at_least index last passed = grind (arith, nat_tests)

smaller : (a b : ℕ) → a ≤ b → a ≢ b → a < b
smaller a b most apart = by (a == b) refl
  where
    by : (same : Bool) → (a == b) ≡ same → a < b
    by true same = absurd (apart (eq_from a b same))
    by false same = grind (arith, nat_tests)

-- A STEP THAT CHANGES NOTHING ---------------------------------------------------------------------

rests_with : (setting : Setting) (m n : Machine) (script : List Request) (s : ℕ) (now : Option Doing) (next : Option Request) (doing : Doing) → now ≡ Some doing → doing_rounds setting n true doing ≤ doing_rounds setting m false doing
    → rounds_with setting n true script s now next ≤ rounds_with setting m false script s now next
rests_with setting m n script s None next doing is less = absurd (let none : ⊥ = cc in none)
rests_with setting m n script s (Some one) next doing is less =
    let same : one ≡ doing = cc in
    let here : doing_rounds setting n true one ≤ doing_rounds setting m false one = subst (λ (d : Doing). doing_rounds setting n true d ≤ doing_rounds setting m false d) (sym same) less in
    omega arith

-- a request that began now wants a slot
early_now : (setting : Setting) (m : Machine) (doing : Doing) (now : Option Doing) (next : Option Request) → option_or now (option_map (begun setting.terms m.event m.tick) next) ≡ Some doing → wants_of setting.terms doing.talk m.tick ≡ wants.Early → now ≡ Some doing
early_now setting m doing (Some one) next does wanted = does
early_now setting m doing None (Some request) does wanted =
    let same : begun setting.terms m.event m.tick request ≡ doing = cc in
    absurd (let slot : wants.Slot ≡ wants.Early = ap (λ (one : Doing). wants_of setting.terms one.talk m.tick) same ∙ wanted in let none : ⊥ = cc in none)
early_now setting m doing None None does wanted = absurd (let none : ⊥ = cc in none)

no_request : (terms : Terms) (event tick : ℕ) (now : Option Doing) (next : Option Request) → option_or now (option_map (begun terms event tick) next) ≡ None → (is_some now || is_some next) ≡ true → ⊥
no_request terms event tick None None does any = let none : ⊥ = cc in none
no_request terms event tick None (Some request) does any = let none : ⊥ = cc in none
no_request terms event tick (Some doing) next does any = let none : ⊥ = cc in none

once_none : (awaits a b : Bool) → awaits ≡ true → once_if (not awaits && a) ≡ once_if (not awaits && b)
once_none true a b is = refl
once_none false a b is = absurd (let none : ⊥ = cc in none)

module _ (t : Traced) (inv : Orderly t) (who : ℕ) where
  rested : (client : Client) (doing : Doing) → client_at t.machine.clients who ≡ Some client → client.now ≡ Some doing → doing_rounds t.setting (at_event t.machine) true doing ≤ doing_rounds t.setting t.machine false doing → Went t who (at_event t.machine)
  rested client doing here is less = record {
    client = client;
    here = here;
    next = client;
    clients = sym (with_itself t.machine.clients who client here);
    tick = refl;
    up = refl;
    work = omega arith;
    others = λ number link there count other. there;
    own = rests_with t.setting t.machine (at_event t.machine) (script_at t.setting who) (requests_left (script_at t.setting who) client.past) client.now client.next doing is less;
  }

  early_rests : (doing : Doing) → IsDoing t.setting (at_event t.machine) who doing wants.Early → Went t who (at_event t.machine)
  early_rests doing is =
      let phase = seeking_phase t.setting.terms doing.talk doing.talk.phase t.machine.tick (inr is.wants) in
      let waits_on : awaits_tick t.setting.terms t.machine.tick doing.talk doing.talk.phase ≡ true =
      subst (λ (p : Phase). awaits_tick t.setting.terms t.machine.tick doing.talk p ≡ true) (sym phase.1)
      (early_waits t.setting.terms doing.talk phase.0 t.machine.tick (ap (λ (p : Phase). wants_in t.setting.terms doing.talk p t.machine.tick) (sym phase.1) ∙ is.wants)) in
      let same : once_if (not (awaits_tick t.setting.terms t.machine.tick doing.talk doing.talk.phase) && true) ≡ once_if (not (awaits_tick t.setting.terms t.machine.tick doing.talk doing.talk.phase) && may_serve t.machine.links doing.connection) =
      once_none (awaits_tick t.setting.terms t.machine.tick doing.talk doing.talk.phase) true (may_serve t.machine.links doing.connection) waits_on in
      rested is.client doing is.here (early_now t.setting (at_event t.machine) doing is.client.now is.client.next is.does is.wants) (omega (arith, same))

  none_rests : (doing : Doing) (connection : ℕ) (link : Link) → IsDoing t.setting (at_event t.machine) who doing wants.Frame → doing.connection ≡ Some connection → link_at t.machine.links connection ≡ Some link → link.down ≡ [] → link.is_open ≡ true → Went t who (at_event t.machine)
  none_rests doing connection link is has there none opens =
      rested is.client doing is.here now_is
      (let same : once_if (not (awaits_tick t.setting.terms t.machine.tick doing.talk doing.talk.phase) && true) ≡ once_if (not (awaits_tick t.setting.terms t.machine.tick doing.talk doing.talk.phase) && may_serve t.machine.links doing.connection) =
      ap (λ (b : Bool). once_if (not (awaits_tick t.setting.terms t.machine.tick doing.talk doing.talk.phase) && b)) (sym serves) in
      omega (arith, same))
    where
      now_is : is.client.now ≡ Some doing
      now_is = frame_now t.setting (at_event t.machine) who doing is

      ended : ends_at t.machine.event link ≡ true
      ended = at_link (ends_at t.machine.event) t.machine.links connection link inv.basic.ended there

      front : (ups : List Sent) → link.up ≡ ups → is_some (front_of link) ≡ true
      front [] empty =
          absurd (reply_came t.machine.event link (at_link is_orderly t.machine.links connection link (all_orderly t.machine.links inv.wire.sent inv.wire.replies inv.wire.handled inv.basic.life) there) ended opens
          (awaits_out (record { client = who; place = length is.client.past }) doing.talk.phase link ((held_now t inv).out who is.client doing connection link is.here now_is has there)) empty none)
      front (first ∷ later) some =
          ap (λ (living : Bool). is_some (if living then first_of link link.up else None)) (open_living t.machine.event link ended opens) ∙ ap (λ (ups : List Sent). is_some (first_of link ups)) some

      serves : may_serve t.machine.links doing.connection ≡ true
      serves = ap (may_serve t.machine.links) has ∙ (ap (λ (found : Option Link). is_some (option_and_then front_of found)) there ∙ front link.up refl)

  going_went : t.machine.server.is_up ≡ true → ((client : Client) → client_at t.machine.clients who ≡ Some client → is_unfinished client ≡ true) → (n : Machine) → Going t.setting (at_event t.machine) who n → Went t who n
  going_went is_up unfinished _ (IsFinished client here does) = absurd (no_request t.setting.terms (t.machine.event + 1) t.machine.tick client.now client.next does (unfinished client here))
  going_went is_up unfinished _ (IsEarly doing is) = early_rests doing is
  going_went is_up unfinished _ (NoneCame doing connection link is on none opens) = none_rests doing connection link is on.has on.there none opens
  going_went is_up unfinished _ (Waits doing is answer) = waits t inv who doing is
  going_went is_up unfinished _ (Lends doing connection link ltxid is answer there held) = lends t inv who doing connection link ltxid is answer there held
  going_went is_up unfinished _ (Opens doing wanted pool is tries runs) = opens t inv who doing wanted pool is tries
  going_went is_up unfinished _ (Fails doing wanted pool is tries down) = absurd (let never : true ≡ false = sym is_up ∙ down in let none : ⊥ = cc in none)
  going_went is_up unfinished _ (Takes doing connection link reply left is on down) = takes_it t inv who doing connection link reply left is on.has on.there down
  going_went is_up unfinished _ (Loses doing connection link is on none closed) = loses_one t inv who doing connection link link.ended is on.has on.there closed

  -- A STEP ----------------------------------------------------------------------------------------

  went_falls : (place : Place) (n : Machine) → Went t who n → has_stepped place who ≡ false
      → ((k : ℕ) (client : Client) → client_at t.machine.clients k ≡ Some client → k ≢ who → is_unfinished client ≡ true → nat_le k who ≡ true → has_stepped place k ≡ true)
      → 3 * (length t.machine.clients - who) + 5 ≤ round_work t.machine place → remaining t.setting n (AtClients who) < remaining t.setting t.machine place
  went_falls place n went this before works =
      subst (λ (k : ℕ). rounds_from t.setting n (AtClients who) 1 n.clients * (3 * k + 4) + ((3 * (k - who) + 2) + (links_work n.links + once_if (not n.server.is_up))) < remaining t.setting t.machine place) (sym long)
      (falls_so (rounds_from t.setting t.machine place 1 t.machine.clients) (rounds_from t.setting n (AtClients who) 1 n.clients) (3 * length t.machine.clients + 4)
      (round_work t.machine place + (links_work t.machine.links + once_if (not t.machine.server.is_up))) ((3 * (length t.machine.clients - who) + 2) + (links_work n.links + once_if (not n.server.is_up)))
      (rounds_most t.setting t.machine n place (AtClients who) 1 t.machine.clients n.clients long each)
      (let sent : links_work n.links ≤ links_work t.machine.links + 2 = went.work in
      let server : once_if (not n.server.is_up) ≡ once_if (not t.machine.server.is_up) = ap (λ (b : Bool). once_if (not b)) went.up in
      omega (arith, sent, server, works)))
    where
      long : length n.clients ≡ length t.machine.clients
      long = ap length went.clients ∙ with_long t.machine.clients who went.next

      self_le : nat_le who who ≡ true
      self_le = grind (arith, nat_tests)

      each : (index k : ℕ) (x y : Client) → k ≡ 1 + index → slice_get t.machine.clients index ≡ Some x → slice_get n.clients index ≡ Some y → rounds_at t.setting n (AtClients who) k y ≤ rounds_at t.setting t.machine place k x
      each index k x y same got bt = by (k == who) refl
        where
          here : client_at t.machine.clients k ≡ Some x
          here = client_by t.machine.clients index k x same got

          there : client_at n.clients k ≡ Some y
          there = client_by n.clients index k y same bt

          by : (one : Bool) → (k == who) ≡ one → rounds_at t.setting n (AtClients who) k y ≤ rounds_at t.setting t.machine place k x
          by true equal =
              let k_is : k ≡ who = eq_from k who equal in
              let x_same : Some x ≡ Some went.client = sym here ∙ (ap (client_at t.machine.clients) k_is ∙ went.here) in
              let x_is : went.client ≡ x = cc in
              let y_same : Some y ≡ Some went.next = sym there ∙ (ap (client_at n.clients) k_is ∙ (ap (λ (all : List Client). client_at all who) went.clients ∙ client_set t.machine.clients who went.client went.next went.here)) in
              let y_is : went.next ≡ y = cc in
              subst (λ (j : ℕ). rounds_at t.setting n (AtClients who) j y ≤ rounds_at t.setting t.machine place j x) (sym k_is)
              (subst (λ (b : Bool). client_rounds t.setting n b (script_at t.setting who) y ≤ rounds_at t.setting t.machine place who x) (sym self_le)
              (subst (λ (b : Bool). client_rounds t.setting n true (script_at t.setting who) y ≤ client_rounds t.setting t.machine b (script_at t.setting who) x) (sym this)
              (subst (λ (c : Client). client_rounds t.setting n true (script_at t.setting who) c ≤ client_rounds t.setting t.machine false (script_at t.setting who) x) y_is
              (subst (λ (c : Client). client_rounds t.setting n true (script_at t.setting who) went.next ≤ client_rounds t.setting t.machine false (script_at t.setting who) c) x_is went.own))))
          by false other =
              let apart : k ≢ who = λ e. let yes_is : (k == who) ≡ true = eq_to k who e in let never : ⊥ = cc in never in
              let y_same : Some y ≡ Some x = sym there ∙ (ap (λ (all : List Client). client_at all k) went.clients ∙ (client_others t.machine.clients who k went.next apart ∙ here)) in
              let x_is : x ≡ y = cc in
              subst (λ (c : Client). rounds_at t.setting n (AtClients who) k c ≤ rounds_at t.setting t.machine place k x) x_is
              (with_less t.setting t.machine n went.tick (script_at t.setting k) (requests_left (script_at t.setting k) x.past) (has_stepped place k) (nat_le k who) x.now x.next
              (λ doing is. doing_like t.setting t.machine n went.tick (has_stepped place k) (nat_le k who) (record { client = k; place = length x.past }) doing (before k x here apart (ap (λ (d : Option Doing). is_some d || is_some x.next) is)) (has_now t inv k x doing here is)
              (λ j link has at. like_itself n.links j link (went.others j link at (held_busy t j link k x doing inv.hold.had at here is has)
              (λ one mine its. clients_apart t j link k who x went.client doing one inv.hold.had at apart here went.here is mine has its))))
              (before k x here apart))

-- EVENTS ------------------------------------------------------------------------------------------

go_is : (setting : Setting) (m : Machine) (items left : List Served) (n : Machine) (number : ℕ) (one : Note) → follow setting m (event.Go number) one items ≡ Some (n, left) → Going setting (at_event m) number n
go_is setting m items left n number (note.Go named did) e = by (named == number) e
  where
    by : (same : Bool) → option_and_then (by_kind setting (at_event m) items) (only_if same (StepOf number did)) ≡ Some (n, left) → Going setting (at_event m) number n
    by true e = going_by setting (at_event m) number did n (leaves_is items left _ n e)
    by false e = absurd (let none : ⊥ = cc in none)
go_is setting m items left n number one e = absurd (let none : ⊥ = cc in none)

module _ (t : Traced) (inv : Orderly t) (items left : List Served) (one : Note) (n : Machine) (is_up : t.machine.server.is_up ≡ true) where
  -- what is to be shown of an event, and of the place behind it
  abbrev Lowers : Place → Event × Place → Type 0
  Lowers place made = follow t.setting t.machine made.0 one items ≡ Some (n, left) → remaining t.setting n made.1 < remaining t.setting t.machine place

  by_made : (place : Place) (made given : Event × Place) → Some made ≡ Some given → Lowers place made → Lowers place given
  by_made place made given e lowers = subst (Lowers place) (ap (λ (found : Option (Event × Place)). option_map_or (λ (p : Event × Place). p) found made) e) lowers

  serves_lowers : (place : Place) → AllStepped t.machine place → 1 ≤ round_work t.machine place → (made : Event × Place) → serves_or_ticks t.machine ≡ Some made → Lowers place made
  serves_lowers place stepped works made e = by (first_behind (λ link. is_some (front_of link)) 0 t.machine.links) refl e
    where
      front_there : (number index : ℕ) (link : Link) → number ≡ suc index → slice_get t.machine.links index ≡ Some link → (found : Option Front) → front_of link ≡ found → is_some found ≡ true → (front : Front) × (front_at t.machine.links number ≡ Some front)
      front_there number index link same got None is some = absurd (let none : ⊥ = cc in none)
      front_there number index link same got (Some front) is some = (front, ap (front_at t.machine.links) same ∙ (ap (option_and_then front_of) got ∙ is))

      by : (found : Option ℕ) → first_behind (λ link. is_some (front_of link)) 0 t.machine.links ≡ found → option_map_or (λ number. Some (event.Serve number, AtLinks)) found (Some (event.Tick, AtRound)) ≡ Some made → Lowers place made
      by (Some number) is e =
          let first = first_is (λ link. is_some (front_of link)) 0 t.machine.links number is in
          let front = front_there number first.index first.item first.is_number first.there (front_of first.item) refl first.meets in
          by_made place (event.Serve number, AtLinks) made e (λ follows. serve_falls t inv items left one n number front.0 place front.1 stepped works follows)
      by None is e = by_made place (event.Tick, AtRound) made e (λ follows. tick_falls t inv items left one n place (none_is (λ link. is_some (front_of link)) 0 t.machine.links is) stepped works follows)

  -- the clients behind the last one that stepped
  goes_lowers : (place : Place) (last : ℕ) → ((k : ℕ) → nat_le k last ≡ false → has_stepped place k ≡ false) → ((k : ℕ) → 1 ≤ k → k ≤ last → has_stepped place k ≡ true)
      → ((who : ℕ) → last < who → who ≤ length t.machine.clients → 3 * (length t.machine.clients - who) + 5 ≤ round_work t.machine place)
      → (NoneBehind is_unfinished last t.machine.clients → 1 ≤ round_work t.machine place) → (made : Event × Place) → goes_or_serves t.machine last ≡ Some made → Lowers place made
  goes_lowers place last ahead behind works rest made e = by (first_behind is_unfinished last t.machine.clients) refl e
    where
      by : (found : Option ℕ) → first_behind is_unfinished last t.machine.clients ≡ found → option_map_or (λ number. Some (event.Go number, AtClients number)) found (serves_or_ticks t.machine) ≡ Some made → Lowers place made
      by (Some who) is e =
          let first = first_is is_unfinished last t.machine.clients who is in
          by_made place (event.Go who, AtClients who) made e (λ follows. went_falls t inv who place n
          (going_went t inv who is_up (unfinished first) n (go_is t.setting t.machine items left n who one follows)) (ahead who (this first)) (before first)
          (works who (let same : who ≡ suc first.index = first.is_number in let below : last ≤ first.index = first.behind in omega arith)
          (let same : who ≡ suc first.index = first.is_number in let within : first.index < length t.machine.clients = slice_get_within t.machine.clients first.index first.item first.there in omega arith)))
        where
          at_who : (first : IsFirst is_unfinished last t.machine.clients who) → client_at t.machine.clients who ≡ Some first.item
          at_who first = ap (client_at t.machine.clients) first.is_number ∙ first.there

          unfinished : (first : IsFirst is_unfinished last t.machine.clients who) (client : Client) → client_at t.machine.clients who ≡ Some client → is_unfinished client ≡ true
          unfinished first client here =
              let same : Some first.item ≡ Some client = sym (at_who first) ∙ here in
              let item_is : first.item ≡ client = cc in
              ap is_unfinished (sym item_is) ∙ first.meets

          this : (first : IsFirst is_unfinished last t.machine.clients who) → nat_le who last ≡ false
          this first = let same : who ≡ suc first.index = first.is_number in let below : last ≤ first.index = first.behind in grind (arith, nat_tests)

          before : (first : IsFirst is_unfinished last t.machine.clients who) (k : ℕ) (client : Client) → client_at t.machine.clients k ≡ Some client → k ≢ who → is_unfinished client ≡ true → nat_le k who ≡ true → has_stepped place k ≡ true
          before first zero client here apart going below = absurd (let none : ⊥ = cc in none)
          before first (suc index) client here apart going below = test (nat_le (suc index) last) refl
            where
              test : (passed : Bool) → nat_le (suc index) last ≡ passed → has_stepped place (suc index) ≡ true
              test true passed = behind (suc index) (omega arith) (let small : suc index ≤ last = le_from (suc index) last passed in small)
              test false passed =
                  let same : who ≡ suc first.index = first.is_number in
                  let most : suc index ≤ who = le_from (suc index) who below in
                  let least : last ≤ index = at_least index last passed in
                  let differ : suc index ≢ suc first.index = λ e. apart (e ∙ sym same) in
                  let less : index < first.index = smaller index first.index (omega arith) (λ e. differ (ap suc e)) in
                  absurd (let never : false ≡ true = sym (first.before index client least less here) ∙ going in let none : ⊥ = cc in none)
      by None is e =
          let none = none_is is_unfinished last t.machine.clients is in
          serves_lowers place (stepped none) (rest none) made e
        where
          stepped : NoneBehind is_unfinished last t.machine.clients → AllStepped t.machine place
          stepped none index client got going = test (nat_le (suc index) last) refl
            where
              test : (passed : Bool) → nat_le (suc index) last ≡ passed → has_stepped place (suc index) ≡ true
              test true passed = behind (suc index) (omega arith) (le_from (suc index) last passed)
              test false passed = absurd (let never : false ≡ true = sym (none index client (at_least index last passed) got) ∙ going in let no : ⊥ = cc in no)

  -- a round, where one is to come
  round_lowers : (place : Place) → ((k : ℕ) → has_stepped place k ≡ false) → round_work t.machine place ≡ round_work t.machine AtRound → (made : Event × Place) → next_round t.machine ≡ Some made → Lowers place made
  round_lowers place none works made e = by (list_any is_unfinished t.machine.clients) refl e
    where
      by : (any : Bool) → list_any is_unfinished t.machine.clients ≡ any → (if any then goes_or_serves t.machine 0 else None) ≡ Some made → Lowers place made
      by false any e = absurd (let never : ⊥ = cc in never)
      by true any e =
          let full : round_work t.machine place ≡ 3 * length t.machine.clients + 3 = works ∙ ap (λ (b : Bool). if b then 3 * length t.machine.clients + 3 else 0) any in
          goes_lowers place 0 (λ k ahead. none k) (λ k least most. absurd (let never : ⊥ = omega arith in never)) (λ who above within. omega (arith, full, above, within))
          (λ nobody. omega (arith, full)) made e

  reaps_lowers : (place : Place) → ((k : ℕ) → has_stepped place k ≡ false) → round_work t.machine place ≡ round_work t.machine AtRound → (made : Event × Place) → reaps_or_goes t.machine ≡ Some made → Lowers place made
  reaps_lowers place none works made e = by (first_behind is_orphan 0 t.machine.links) refl e
    where
      by : (found : Option ℕ) → first_behind is_orphan 0 t.machine.links ≡ found → option_map_or (λ number. Some (event.Reap number, AtOrphans)) found (next_round t.machine) ≡ Some made → Lowers place made
      by (Some number) is e =
          let first = first_is is_orphan 0 t.machine.links number is in
          let orphan : has_orphan t.machine.links number ≡ true = ap (has_orphan t.machine.links) first.is_number ∙ (ap (λ (found : Option Link). option_map_or is_orphan found false) first.there ∙ first.meets) in
          by_made place (event.Reap number, AtOrphans) made e (λ follows. reap_falls t inv items left one n number place orphan none works follows)
      by None is e = round_lowers place none works made e

  finish_lowers : (place : Place) (made : Event × Place) → next_finish t.machine place ≡ Some made → Lowers place made
  finish_lowers AtServer made e = reaps_lowers AtServer (λ k. refl) refl made (sym (ap (λ (b : Bool). if b then reaps_or_goes t.machine else Some (event.Up, AtOrphans)) is_up) ∙ e)
  finish_lowers AtOrphans made e = reaps_lowers AtOrphans (λ k. refl) refl made e
  finish_lowers AtRound made e = round_lowers AtRound (λ k. refl) refl made e
  finish_lowers (AtClients last) made e =
      goes_lowers (AtClients last) last (λ k ahead. ahead) (λ k least most. le_to k last most) (λ who above within. omega arith) (λ nobody. omega arith) made e
  finish_lowers AtLinks made e = serves_lowers AtLinks (λ index client got going. refl) (omega arith) made e

opens_lowers : (t : Traced) → Orderly t → (items left : List Served) (one : Note) (n : Machine) → t.machine.server.is_up ≡ false → (made : Event × Place) → next_finish t.machine AtServer ≡ Some made
    → follow t.setting t.machine made.0 one items ≡ Some (n, left) → remaining t.setting n made.1 < remaining t.setting t.machine AtServer
opens_lowers t inv items left one n down made e =
    let first : Some (event.Up, AtOrphans) ≡ Some made = sym (ap (λ (b : Bool). if b then reaps_or_goes t.machine else Some (event.Up, AtOrphans)) down) ∙ e in
    subst (λ (p : Event × Place). follow t.setting t.machine p.0 one items ≡ Some (n, left) → remaining t.setting n p.1 < remaining t.setting t.machine AtServer)
    (ap (λ (found : Option (Event × Place)). option_map_or (λ (p : Event × Place). p) found (event.Up, AtOrphans)) first) (opening_falls t inv items left one n down)

pub finish_falls : FinishFalls
finish_falls before after old new event note items left place next one can is =
    subst (λ (s : Setting). remaining s new.machine next < remaining old.setting old.machine place) (sym one.setting) (by place can.up is)
  where
    server : (up : Bool) → old.machine.server.is_up ≡ up → next_finish old.machine AtServer ≡ Some (event, next) → remaining old.setting new.machine next < remaining old.setting old.machine AtServer
    server true up is = finish_lowers old can.orderly items left note new.machine up AtServer (event, next) is one.follows
    server false up is = opens_lowers old can.orderly items left note new.machine up (event, next) is one.follows

    by : (place : Place) → (is_at_server place ≡ false → old.machine.server.is_up ≡ true) → next_finish old.machine place ≡ Some (event, next) → remaining old.setting new.machine next < remaining old.setting old.machine place
    by AtServer up is = server old.machine.server.is_up refl is
    by place up is = finish_lowers old can.orderly items left note new.machine (up refl) place (event, next) is one.follows
