-- Each event of the finish that no client makes leaves less of it.
use Rattle.std.proofs.Common.{◌≡◌, ◌≢◌, refl, sym, ap, subst, ◌∙◌, Bool, true, false, ℕ, suc, zero, ◌+◌, ◌*◌, ◌≤◌, ◌<◌, ◌&&◌, ◌||◌, length, List, ◌∷◌, Option, Some, None, if◌then◌else◌, arith, le_refl}
use Rattle.std.specs.Prelude.{◌==◌, not, is_some, slice_get, option_and_then}
use Rattle.std.specs.List.{list_any}
use Rattle.std.specs.Option.{option_map_or}
use Rattle.std.proofs.lemmas.Bool.{and_parts}
use Rattle.outage_schedule.specs.declared.event.Event.TheVariants as event
use Rattle.outage_schedule.specs.declared.note.Note.{Note}
use Rattle.outage_schedule.specs.declared.item.Served.{Served}
use Rattle.client_model.specs.meaning.Terms.{Phase}
use Rattle.world_model.specs.meaning.Frames.{Owner}
use Rattle.world_model.specs.meaning.Links.{Link, link_at, with_link, changed, is_orphan}
use Rattle.world_model.specs.meaning.Clients.{Doing, Client, client_at, script_at, is_unfinished}
use Rattle.outage_schedule.specs.declared.document.Request.{Request}
use Rattle.outage_schedule.specs.declared.item.Item.{Item}
use Rattle.outage_schedule.specs.declared.item.Item.TheVariants as item
use Rattle.run_clauses.specs.meaning.Outcomes.{is_uncommitted}
use Rattle.world_model.specs.meaning.Machines.{Server, Machine}
use Rattle.world_model.specs.meaning.Walking.{follow}
use Rattle.world_model.specs.meaning.Opening.{opened}
use Rattle.world_model.specs.meaning.Cutting.{has_orphan, reaped_link}
use Rattle.world_model.specs.meaning.Serving.{Front, front_of, front_at, is_of_front, is_item_of, handled, server_after, after_served}
use Rattle.world_model.specs.meaning.Outside.{ticked}
use Rattle.world_model.specs.records.Basic.{keeps_ticks, at_most, waits_from}
use Rattle.world_model.specs.meaning.Finishing.{Place, AtServer, AtOrphans, AtRound, AtLinks}
use Rattle.world_model.specs.Orderly.{Orderly}
use Rattle.world_model.specs.RoundsLeft.{awaits_tick, talk_rounds}
use Rattle.world_model.specs.Remaining.{requests_left, once_if, on_open, may_serve, doing_rounds, rounds_with, has_stepped, rounds_from, link_work, links_work, round_work, remaining}
use Rattle.world_model.specs.records.Hold.{is_held}
use Rattle.world_model.specs.Traced.{Traced}
use Rattle.world_model.proofs.events.AllLinks.{IsFront, front_is}
use Rattle.world_model.proofs.events.AllClients.{at_client}
use Rattle.world_model.proofs.basic.Ends.{handled_case}
use Rattle.world_model.proofs.finish.FirstBehind.{NoneBehind, any_found}
use Rattle.world_model.proofs.events.Happened.{at_event}
use Rattle.world_model.proofs.hold.Held.{doing_course}
use Rattle.world_model.proofs.hold.HeldKept.{HasIt, HasNone, HasOne, has_it}
use Rattle.world_model.proofs.number.KnownLinks.{known_of}
use Rattle.world_model.proofs.number.LinkSettled.{none_blocked, awaits_no_call}
use Rattle.world_model.proofs.finish.LinksWork.{with_work, handled_work}
use Rattle.world_model.proofs.events.Lookups.{with_own, with_others, changed_own}
use Rattle.world_model.proofs.events.Others.{changed_others}
use Rattle.world_model.proofs.finish.ClientRounds.{IsLike, like_itself, doing_like, with_less, ends_same, doing_tick}
use Rattle.world_model.proofs.finish.RoundSums.{rounds_at, rounds_most, rounds_less}
use Rattle.world_model.proofs.wire.SentLinks.{awaits}
use Rattle.world_model.proofs.events.Tests.{eq_from, eq_to}
use Rattle.world_model.proofs.finish.FinishLinks.{falls_so, falls_round, up_is, reap_is, tick_is, WasServed, serve_is}

-- WHAT IS HELD ------------------------------------------------------------------------------------

-- the connection of a request in course
pub has_now : (t : Traced) → Orderly t → (number : ℕ) (client : Client) (doing : Doing) → client_at t.machine.clients number ≡ Some client → client.now ≡ Some doing
    → HasIt t.machine.links (record { client = number; place = length client.past }) doing
has_now t inv number client doing here is =
    has_it t.machine.links (record { client = number; place = length client.past }) doing (doing_course (is_held t) t number client doing inv.hold.held here is)

pub client_by : (clients : List Client) (index number : ℕ) (client : Client) → number ≡ 1 + index → slice_get clients index ≡ Some client → client_at clients number ≡ Some client
client_by clients index number client same at = subst (λ (k : ℕ). client_at clients k ≡ Some client) (let is : suc index ≡ number = omega arith in is) at

pub one_client : (clients : List Client) (index : ℕ) (x y : Client) → slice_get clients index ≡ Some x → slice_get clients index ≡ Some y → x ≡ y
one_client clients index x y a b = let same : Some x ≡ Some y = sym a ∙ b in let is : x ≡ y = cc in is

abbrev up_of_server : Server → Bool
up_of_server server = server.is_up

-- the step of each client that is not finished is done
abbrev pub AllStepped : Machine → Place → Type 0
AllStepped m place = (index : ℕ) (client : Client) → slice_get m.clients index ≡ Some client → is_unfinished client ≡ true → has_stepped place (suc index) ≡ true

module _ (t : Traced) (inv : Orderly t) (items left : List Served) (one : Note) (n : Machine) where
  abbrev m : Machine
  m = t.machine

  -- THE OPENING -----------------------------------------------------------------------------------

  pub opening_falls : m.server.is_up ≡ false → follow t.setting m event.Up one items ≡ Some (n, left) → remaining t.setting n AtOrphans < remaining t.setting m AtServer
  opening_falls down e =
      let is = up_is t.setting m items left n one down e in
      subst (λ (a : Machine). remaining t.setting a AtOrphans < remaining t.setting m AtServer) is.1
      (subst (λ (b : Bool). remaining t.setting (record (at_event m) { server = opened m.server is.0 }) AtOrphans < rounds_from t.setting m AtServer 1 m.clients * (3 * length m.clients + 4) + (round_work m AtServer + (links_work m.links + once_if (not b)))) (sym down)
      (falls_so (rounds_from t.setting m AtServer 1 m.clients) (rounds_from t.setting (record (at_event m) { server = opened m.server is.0 }) AtOrphans 1 m.clients) (3 * length m.clients + 4) _ _
      (rounds_most t.setting m (record (at_event m) { server = opened m.server is.0 }) AtServer AtOrphans 1 m.clients m.clients refl
      (λ index number x y same a b. let equal : x ≡ y = one_client m.clients index x y a b in subst (λ (c : Client). rounds_at t.setting m AtServer number c ≤ rounds_at t.setting m AtServer number x) equal (le_refl (rounds_at t.setting m AtServer number x))))
      (let less : (round_work m AtServer + (links_work m.links + 0)) + 1 ≤ round_work m AtServer + (links_work m.links + 1) = omega arith in less)))

  -- A REAP ----------------------------------------------------------------------------------------

  -- the connection of a request, behind a change of one connection
  changed_like : (change : Link → Link) (number other : ℕ) (link : Link) → ((one : Link) → ((change one).is_open ≡ one.is_open) × (is_some (front_of (change one)) ≡ true → is_some (front_of one) ≡ true)) → link_at m.links other ≡ Some link → IsLike (changed change m.links number) other link
  changed_like change number other link alike there = by (other == number) refl
    where
      by : (same : Bool) → (other == number) ≡ same → IsLike (changed change m.links number) other link
      by true same =
          let is : other ≡ number = eq_from other number same in
          let at : link_at m.links number ≡ Some link = ap (link_at m.links) (sym is) ∙ there in
          record { now = change link; there = ap (link_at (changed change m.links number)) is ∙ changed_own change m.links number link at; opens = (alike link).0; serves = (alike link).1 }
      by false same =
          like_itself (changed change m.links number) other link (changed_others change m.links number other (λ is. let yes_is : (other == number) ≡ true = eq_to other number is in let never : ⊥ = cc in never) ∙ there)

  orphan_less : (number : ℕ) (found : Option Link) → link_at m.links number ≡ found → option_map_or is_orphan found false ≡ true → links_work (changed reaped_link m.links number) + 1 ≤ links_work m.links
  orphan_less number None is orphan = absurd (let none : ⊥ = cc in none)
  orphan_less number (Some link) is orphan =
      let set : changed reaped_link m.links number ≡ with_link m.links number (reaped_link link) = ap (λ (found : Option Link). option_map_or (λ l. with_link m.links number (reaped_link l)) found m.links) is in
      let same : links_work (changed reaped_link m.links number) ≡ links_work (with_link m.links number (reaped_link link)) = ap links_work set in
      let sum : links_work (with_link m.links number (reaped_link link)) + link_work link ≡ links_work m.links + link_work (reaped_link link) = with_work m.links number link (reaped_link link) is in
      let some : once_if (is_orphan link) ≡ 1 = ap once_if orphan in
      omega (arith, same, sum, some)

  -- Places where no client has stepped.
  pub reap_falls : (number : ℕ) (place : Place) → has_orphan m.links number ≡ true → ((k : ℕ) → has_stepped place k ≡ false) → round_work m place ≡ round_work m AtOrphans → follow t.setting m (event.Reap number) one items ≡ Some (n, left)
      → remaining t.setting n AtOrphans < remaining t.setting m place
  reap_falls number place orphan none works e =
      let a : Machine = record (at_event m) { links = changed reaped_link m.links number } in
      let less : links_work (changed reaped_link m.links number) + 1 ≤ links_work m.links = orphan_less number (link_at m.links number) refl orphan in
      subst (λ (b : Machine). remaining t.setting b AtOrphans < remaining t.setting m place) (reap_is t.setting m items left n number one orphan e)
      (falls_so (rounds_from t.setting m place 1 m.clients) (rounds_from t.setting a AtOrphans 1 m.clients) (3 * length m.clients + 4) _ _
      (rounds_most t.setting m a place AtOrphans 1 m.clients m.clients refl each)
      (let sum : (round_work m AtOrphans + (links_work (changed reaped_link m.links number) + once_if (not m.server.is_up))) + 1 ≤ round_work m place + (links_work m.links + once_if (not m.server.is_up)) = omega (arith, less, works) in sum))
    where
      a_now : Machine
      a_now = record (at_event m) { links = changed reaped_link m.links number }

      each : (index k : ℕ) (x y : Client) → k ≡ 1 + index → slice_get m.clients index ≡ Some x → slice_get m.clients index ≡ Some y → rounds_at t.setting a_now AtOrphans k y ≤ rounds_at t.setting m place k x
      each index k x y same at bt =
          let equal : x ≡ y = one_client m.clients index x y at bt in
          let here : client_at m.clients k ≡ Some x = client_by m.clients index k x same at in
          subst (λ (c : Client). rounds_at t.setting a_now AtOrphans k c ≤ rounds_at t.setting m place k x) equal
          (with_less t.setting m a_now refl (script_at t.setting k) (requests_left (script_at t.setting k) x.past) (has_stepped place k) false x.now x.next
          (λ doing is. doing_like t.setting m a_now refl (has_stepped place k) false (record { client = k; place = length x.past }) doing (λ never. absurd (let no : ⊥ = cc in no)) (has_now t inv k x doing here is)
          (λ other link has there. changed_like reaped_link number other link (λ l. (refl, λ never. absurd (let no : ⊥ = cc in no))) there))
          (λ any never. absurd (let no : ⊥ = cc in no)))

  -- A FRAME THAT IS SERVED ------------------------------------------------------------------------

  -- a request that awaits Hello or an outcome keeps its connection
  served_open : (number : ℕ) (front : Front) (served : Served) (owner : Owner) (phase : Phase) → IsFront m.links number front → is_item_of front.first.frame served.item ≡ true → awaits owner phase front.link ≡ true
      → awaits_no_call phase ≡ true → (handled (m.event + 1) front served).is_open ≡ front.link.is_open
  served_open number front served owner phase at item out none =
      handled_case (λ l. l.is_open ≡ front.link.is_open) (m.event + 1) front served
      (λ reply blocked. absurd (none_blocked front.link front.first front.later served.item owner phase (known_of t inv number front.link at.there) at.up item out none blocked)) (λ reply other. refl)

  pub serve_falls : (number : ℕ) (front : Front) (place : Place) → front_at m.links number ≡ Some front → AllStepped m place → 1 ≤ round_work m place → follow t.setting m (event.Serve number) one items ≡ Some (n, left)
      → remaining t.setting n AtLinks < remaining t.setting m place
  serve_falls number front place is stepped works e =
      subst (λ (b : Machine). remaining t.setting b AtLinks < remaining t.setting m place) was.becomes
      (falls_so (rounds_from t.setting m place 1 m.clients) (rounds_from t.setting a_now AtLinks 1 m.clients) (3 * length m.clients + 4) _ _
      (rounds_most t.setting m a_now place AtLinks 1 m.clients m.clients refl each)
      (let sum : links_work (with_link m.links number (handled (m.event + 1) front was.served)) + link_work front.link ≡ links_work m.links + link_work (handled (m.event + 1) front was.served) =
      with_work m.links number front.link (handled (m.event + 1) front was.served) at.there in
      let less : link_work (handled (m.event + 1) front was.served) + 1 ≤ link_work front.link = handled_work (m.event + 1) front was.served at.living at.up in
      let server : once_if (not a_now.server.is_up) ≡ once_if (not m.server.is_up) = server_up was.served.item in
      let total : (1 + (links_work (with_link m.links number (handled (m.event + 1) front was.served)) + once_if (not a_now.server.is_up))) + 1 ≤ round_work m place + (links_work m.links + once_if (not m.server.is_up)) = omega (arith, sum, less, server, works) in
      total))
    where
      was : WasServed t.setting m items left n number front
      was = serve_is t.setting m items left n number one front is e

      at : IsFront m.links number front
      at = front_is m.links number front is

      a_now : Machine
      a_now = after_served (at_event m) number front was.served

      item_is : is_item_of front.first.frame was.served.item ≡ true
      item_is = (and_parts (is_of_front (at_event m) front was.served) (is_item_of front.first.frame was.served.item) was.ordinary).1

      server_up : (one : Item) → once_if (not (server_after m.server one).is_up) ≡ once_if (not m.server.is_up)
      server_up item.Connect = refl
      server_up (item.Outcome asked result) = by (is_uncommitted result)
        where
          by : (test : Bool) → once_if (not (up_of_server (if test then record m.server { blocked = asked ∷ m.server.blocked } else m.server))) ≡ once_if (not m.server.is_up)
          by true = refl
          by false = refl
      server_up one = refl

      own : (k : ℕ) (x : Client) (doing : Doing) → client_at m.clients k ≡ Some x → x.now ≡ Some doing → has_stepped place k ≡ true → HasIt m.links (record { client = k; place = length x.past }) doing
          → doing_rounds t.setting a_now true doing ≤ doing_rounds t.setting m (has_stepped place k) doing
      own k x doing here now done (HasNone none) = doing_like t.setting m a_now refl (has_stepped place k) true (record { client = k; place = length x.past }) doing (λ so. done) (HasNone none) (λ other link has there. absurd (let no : Some other ≡ None = sym has ∙ none in let never : ⊥ = cc in never))
      own k x doing here now done (HasOne other link has there out) = by (other == number) refl
        where
          by : (same : Bool) → (other == number) ≡ same → doing_rounds t.setting a_now true doing ≤ doing_rounds t.setting m (has_stepped place k) doing
          by true same =
              let number_is : other ≡ number = eq_from other number same in
              let found : Some link ≡ Some front.link = sym there ∙ (ap (link_at m.links) number_is ∙ at.there) in
              let link_is : link ≡ front.link = cc in
              let awaited : awaits (record { client = k; place = length x.past }) doing.talk.phase front.link ≡ true = subst (λ (l : Link). awaits (record { client = k; place = length x.past }) doing.talk.phase l ≡ true) link_is out in
              let old_open : on_open m.links doing.connection ≡ front.link.is_open =
              ap (on_open m.links) has ∙ (ap (λ (j : ℕ). on_open m.links (Some j)) number_is ∙ ap (λ (f : Option Link). option_map_or (λ l. l.is_open) f true) at.there) in
              let new_open : on_open a_now.links doing.connection ≡ (handled (m.event + 1) front was.served).is_open =
              ap (on_open a_now.links) has ∙ (ap (λ (j : ℕ). on_open a_now.links (Some j)) number_is ∙ ap (λ (f : Option Link). option_map_or (λ l. l.is_open) f true) (with_own m.links number front.link (handled (m.event + 1) front was.served) at.there)) in
              let talk : talk_rounds t.setting.terms m.tick (on_open a_now.links doing.connection) doing.talk ≤ talk_rounds t.setting.terms m.tick (on_open m.links doing.connection) doing.talk =
              ends_same t.setting.terms m.tick (on_open a_now.links doing.connection) (on_open m.links doing.connection) doing.talk
              (λ none. new_open ∙ (served_open number front was.served (record { client = k; place = length x.past }) doing.talk.phase at item_is awaited none ∙ sym old_open)) in
              subst (λ (b : Bool). doing_rounds t.setting a_now true doing ≤ talk_rounds t.setting.terms m.tick (on_open m.links doing.connection) doing.talk + once_if (not (awaits_tick t.setting.terms m.tick doing.talk doing.talk.phase) && (b || may_serve m.links doing.connection))) (sym done)
              (let sum : talk_rounds t.setting.terms m.tick (on_open a_now.links doing.connection) doing.talk + once_if (not (awaits_tick t.setting.terms m.tick doing.talk doing.talk.phase) && true)
              ≤ talk_rounds t.setting.terms m.tick (on_open m.links doing.connection) doing.talk + once_if (not (awaits_tick t.setting.terms m.tick doing.talk doing.talk.phase) && true) = omega (arith, talk) in sum)
          by false same =
              let apart : other ≢ number = λ is. let yes_is : (other == number) ≡ true = eq_to other number is in let never : ⊥ = cc in never in
              doing_like t.setting m a_now refl (has_stepped place k) true (record { client = k; place = length x.past }) doing (λ so. done) (HasOne other link has there out)
              (λ j l its found. let same_number : Some j ≡ Some other = sym its ∙ has in let j_is : j ≡ other = cc in
              like_itself a_now.links j l (with_others m.links number j (handled (m.event + 1) front was.served) (λ is. apart (sym j_is ∙ is)) ∙ found))

      each : (index k : ℕ) (x y : Client) → k ≡ 1 + index → slice_get m.clients index ≡ Some x → slice_get m.clients index ≡ Some y → rounds_at t.setting a_now AtLinks k y ≤ rounds_at t.setting m place k x
      each index k x y same got bt =
          let equal : x ≡ y = one_client m.clients index x y got bt in
          let here : client_at m.clients k ≡ Some x = client_by m.clients index k x same got in
          let done : is_unfinished x ≡ true → has_stepped place k ≡ true = λ unfinished. subst (λ (j : ℕ). has_stepped place j ≡ true) (let is : suc index ≡ k = omega arith in is) (stepped index x got unfinished) in
          subst (λ (c : Client). rounds_at t.setting a_now AtLinks k c ≤ rounds_at t.setting m place k x) equal
          (with_less t.setting m a_now refl (script_at t.setting k) (requests_left (script_at t.setting k) x.past) (has_stepped place k) true x.now x.next
          (λ doing is. own k x doing here is (done (ap (λ (d : Option Doing). is_some d || is_some x.next) is)) (has_now t inv k x doing here is))
          (λ any so. done any))

  -- THE TICK --------------------------------------------------------------------------------------

  pub tick_falls : (place : Place) → NoneBehind (λ link. is_some (front_of link)) 0 m.links → AllStepped m place → 1 ≤ round_work m place → follow t.setting m event.Tick one items ≡ Some (n, left)
      → remaining t.setting n AtRound < remaining t.setting m place
  tick_falls place none stepped works e =
      subst (λ (b : Machine). remaining t.setting b AtRound < remaining t.setting m place) (tick_is t.setting m items left n one e)
      (by (list_any is_unfinished m.clients) refl)
    where
      a_now : Machine
      a_now = ticked (at_event m)

      work : ℕ
      work = links_work m.links + once_if (not m.server.is_up)

      ticks_at : (k : ℕ) (x : Client) (doing : Doing) → client_at m.clients k ≡ Some x → x.now ≡ Some doing → keeps_ticks t doing ≡ true
      ticks_at k x doing here now = subst (λ (d : Option Doing). option_map_or (keeps_ticks t) d true ≡ true) now (at_client (λ c. option_map_or (keeps_ticks t) c.now true) m.clients k x inv.basic.ticks here)

      no_front : (connection : Option ℕ) → may_serve m.links connection ≡ false
      no_front None = refl
      no_front (Some zero) = refl
      no_front (Some (suc index)) = found (slice_get m.links index) refl
        where
          found : (one : Option Link) → slice_get m.links index ≡ one → is_some (option_and_then front_of one) ≡ false
          found None is = refl
          found (Some link) is = none index link (omega arith) is

      tick_doing : (k : ℕ) (x : Client) (doing : Doing) → client_at m.clients k ≡ Some x → x.now ≡ Some doing → doing_rounds t.setting a_now false doing + 1 ≤ doing_rounds t.setting m true doing
      tick_doing k x doing here now =
          let first = and_parts (at_most m.tick doing.talk.last_try) _ (ticks_at k x doing here now) in
          let second = and_parts (at_most m.tick (waits_from doing.talk.phase)) _ first.1 in
          doing_tick t.setting m a_now doing refl refl (no_front doing.connection) first.0 second.0

      less_with : (k : ℕ) (x : Client) (script : List Request) (s : ℕ) (now : Option Doing) (next : Option Request) → client_at m.clients k ≡ Some x → x.now ≡ now → (is_some now || is_some next) ≡ true
          → rounds_with t.setting a_now false script s now next + 1 ≤ rounds_with t.setting m true script s now next
      less_with k x script s None None here now any = absurd (let never : ⊥ = cc in never)
      less_with k x script s None (Some request) here now any = omega arith
      less_with k x script s (Some doing) next here now any = let less : doing_rounds t.setting a_now false doing + 1 ≤ doing_rounds t.setting m true doing = tick_doing k x doing here now in omega arith

      -- of one that is not finished
      strict : (index k : ℕ) (x : Client) → k ≡ 1 + index → slice_get m.clients index ≡ Some x → is_unfinished x ≡ true → rounds_at t.setting a_now AtRound k x + 1 ≤ rounds_at t.setting m place k x
      strict index k x same got unfinished =
          let done : has_stepped place k ≡ true = subst (λ (j : ℕ). has_stepped place j ≡ true) (let is : suc index ≡ k = omega arith in is) (stepped index x got unfinished) in
          subst (λ (b : Bool). rounds_at t.setting a_now AtRound k x + 1 ≤ rounds_with t.setting m b (script_at t.setting k) (requests_left (script_at t.setting k) x.past) x.now x.next) (sym done)
          (less_with k x (script_at t.setting k) (requests_left (script_at t.setting k) x.past) x.now x.next (client_by m.clients index k x same got) refl unfinished)

      finished : (b : Bool) (script : List Request) (s : ℕ) (now : Option Doing) (next : Option Request) → (is_some now || is_some next) ≡ false → rounds_with t.setting a_now false script s now next ≤ rounds_with t.setting m b script s now next
      finished b script s None None none = omega arith
      finished b script s None (Some request) none = absurd (let never : ⊥ = cc in never)
      finished b script s (Some doing) next none = absurd (let never : ⊥ = cc in never)

      each : (index k : ℕ) (x y : Client) → k ≡ 1 + index → slice_get m.clients index ≡ Some x → slice_get m.clients index ≡ Some y → rounds_at t.setting a_now AtRound k y ≤ rounds_at t.setting m place k x
      each index k x y same got bt =
          subst (λ (c : Client). rounds_at t.setting a_now AtRound k c ≤ rounds_at t.setting m place k x) (one_client m.clients index x y got bt) (test (is_unfinished x) refl)
        where
          test : (b : Bool) → is_unfinished x ≡ b → rounds_at t.setting a_now AtRound k x ≤ rounds_at t.setting m place k x
          test true is = let less : rounds_at t.setting a_now AtRound k x + 1 ≤ rounds_at t.setting m place k x = strict index k x same got is in omega arith
          test false is = finished (has_stepped place k) (script_at t.setting k) (requests_left (script_at t.setting k) x.past) x.now x.next is

      by : (any : Bool) → list_any is_unfinished m.clients ≡ any → rounds_from t.setting a_now AtRound 1 m.clients * (3 * length m.clients + 4) + ((if any then 3 * length m.clients + 3 else 0) + work) < remaining t.setting m place
      by true any =
          let found = any_found is_unfinished m.clients any in
          falls_round (rounds_from t.setting m place 1 m.clients) (rounds_from t.setting a_now AtRound 1 m.clients) (length m.clients) work (round_work m place)
          (rounds_less t.setting m a_now place AtRound 1 m.clients m.clients found.0 (1 + found.0) found.1 found.1 refl each refl found.2.0 found.2.0 (strict found.0 (1 + found.0) found.1 refl found.2.0 found.2.1)) works
      by false any =
          falls_so (rounds_from t.setting m place 1 m.clients) (rounds_from t.setting a_now AtRound 1 m.clients) (3 * length m.clients + 4) (round_work m place + work) (0 + work) (rounds_most t.setting m a_now place AtRound 1 m.clients m.clients refl each) (omega arith)
