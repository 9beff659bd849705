-- Of each connection: its items are in the order of their events, which are past.
use Rattle.std.proofs.Common.{◌≡◌, refl, sym, subst, Bool, true, ℕ, ◌+◌, ◌≤◌, ◌&&◌, List, [], ◌∷◌, ◌++◌, Option, None, arith}
use Rattle.std.specs.Prelude.{◌==◌, nat_le, nat_lt}
use Rattle.std.specs.List.{list_all}
use Rattle.std.proofs.lemmas.Bool.{and_parts, and_from}
use Rattle.std.proofs.lemmas.List.{map-append}
use Rattle.svc_values.specs.declared.frame.Down.{Down}
use Rattle.outage_schedule.specs.declared.item.Served.{Served}
use Rattle.world_model.specs.meaning.Frames.{Handled}
use Rattle.world_model.specs.meaning.Links.{Link}
use Rattle.world_model.specs.meaning.Machines.{Machine}
use Rattle.world_model.specs.meaning.Serving.{Front, is_of_front, is_served_by, is_item_of, after_front}
use Rattle.world_model.specs.records.Basic.{item_events}
use Rattle.world_model.specs.Sames.{each_pair}
use Rattle.world_model.proofs.events.Tests.{eq_from, le_from, le_to, lt_to, pair_more}
use Rattle.world_model.proofs.events.AllLists.{weaker_all, append_all, one_all}
use Rattle.world_model.proofs.basic.Ends.{sends_alike, handled_alike, cut_case, fallen_case}
use Rattle.world_model.proofs.events.AllLinks.{Keeps}

abbrev pub items_at : ℕ → Link → Bool
items_at event link = each_pair nat_lt (item_events link) && list_all (λ one. nat_le one event) (item_events link)

-- later events come behind them
pub items_later : (last event : ℕ) → event ≡ last + 1 → (link : Link) → items_at last link ≡ true → items_at event link ≡ true
items_later last event next link here =
    let parts = and_parts (each_pair nat_lt (item_events link)) (list_all (λ one. nat_le one last) (item_events link)) here in
    and_from (each_pair nat_lt (item_events link)) (list_all (λ one. nat_le one event) (item_events link)) parts.0
    (weaker_all (λ one. nat_le one last) (λ one. nat_le one event) (item_events link) (λ one below. let bound : one ≤ last = le_from one last below in le_to one event (omega arith)) parts.1)

-- the item is of this event
pub event_of_item : (m : Machine) (front : Front) (served : Served) → is_of_front m front served ≡ true → served.event ≡ m.event
event_of_item m front served is = eq_from served.event m.event (and_parts (served.event == m.event) (is_served_by m.server front.link front.first.frame served.session) is).0

more_items : (last event now : ℕ) (events : List ℕ) → now ≡ last + 1 → event ≡ now → (each_pair nat_lt events && list_all (λ one. nat_le one last) events) ≡ true
    → (each_pair nat_lt (events ++ event ∷ []) && list_all (λ one. nat_le one now) (events ++ event ∷ [])) ≡ true
more_items last event now events next same here =
    let parts = and_parts (each_pair nat_lt events) (list_all (λ one. nat_le one last) events) here in
    and_from (each_pair nat_lt (events ++ event ∷ [])) (list_all (λ one. nat_le one now) (events ++ event ∷ []))
    (pair_more nat_lt events event parts.0 (weaker_all (λ one. nat_le one last) (λ one. nat_lt one event) events (λ one below. let bound : one ≤ last = le_from one last below in lt_to one event (omega arith)) parts.1))
    (append_all (λ one. nat_le one now) events (event ∷ [])
    (weaker_all (λ one. nat_le one last) (λ one. nat_le one now) events (λ one below. let bound : one ≤ last = le_from one last below in le_to one now (omega arith)) parts.1)
    (one_all (λ one. nat_le one now) event (le_to event now (omega arith))))

served_items : (m : Machine) (last : ℕ) (front : Front) (served : Served) (reply : Option Down) → m.event ≡ last + 1 → is_of_front m front served ≡ true → items_at last front.link ≡ true
    → items_at m.event (after_front front served reply) ≡ true
served_items m last front served reply next is here =
    let events = map-append (λ (one : Handled). one.served.event) front.link.served (record { sent = front.first; served = served; reply = reply } ∷ []) in
    subst (λ (all : List ℕ). (each_pair nat_lt all && list_all (λ one. nat_le one m.event) all) ≡ true) (sym events)
    (more_items last served.event m.event (item_events front.link) next (event_of_item m front served is) here)

pub items_keep : (m : Machine) (last : ℕ) → m.event ≡ last + 1 → Keeps m (items_at last) (items_at m.event)
items_keep m last next = record {
  at_new = λ up. refl;
  at_sends = λ frames link here. sends_alike (λ one. items_at m.event one ≡ true) m.event frames link here here;
  at_takes = λ reply left link old here down. here;
  at_serves = λ number front served at ordinary old here.
      let is : is_of_front m front served ≡ true = (and_parts (is_of_front m front served) (is_item_of front.first.frame served.item) ordinary).0 in
      handled_alike (λ one. items_at m.event one ≡ true) m.event front served (λ reply. served_items m last front served reply next is old) (λ reply. served_items m last front served reply next is old);
  at_stops = λ number after front served at stopped old here.
      let is : is_of_front m front served ≡ true = (and_parts (is_of_front m front served) _ stopped).0 in
      fallen_case (λ one. items_at m.event one ≡ true) m.event (after_front front served None) (λ opens. served_items m last front served None next is old) (λ opens. served_items m last front served None next is old);
  at_cuts = λ up down link opens here. cut_case (λ one. items_at m.event one ≡ true) m.event up down link opens here;
  at_reaps = λ link orphan here. here;
  at_falls = λ link here. fallen_case (λ one. items_at m.event one ≡ true) m.event link (λ is. here) (λ is. here);
}
