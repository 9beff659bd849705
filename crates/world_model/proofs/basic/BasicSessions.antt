-- What Basic says of the sessions of all connections is kept.
use Rattle.std.proofs.Common.{◌≡◌, refl, true, ◌+◌, ◌&&◌, List, [], ◌∷◌, ◌++◌}
use Rattle.std.specs.List.{list_all}
use Rattle.std.proofs.lemmas.Bool.{and_parts, and_from}
use Rattle.svc_values.specs.declared.entry.SessionId.{SessionId}
use Rattle.outage_schedule.specs.declared.item.Served.{Served}
use Rattle.world_model.specs.meaning.Settings.{Setting}
use Rattle.world_model.specs.meaning.Links.{Link}
use Rattle.world_model.specs.meaning.Machines.{Machine}
use Rattle.world_model.specs.meaning.Matching.{Noted}
use Rattle.world_model.specs.records.Basic.{is_named}
use Rattle.world_model.specs.Sames.{each_pair}
use Rattle.world_model.specs.records.Wire.{is_sent_front, is_reply_front, handled_from, stage_of, is_right}
use Rattle.world_model.proofs.events.Moves.{Happens}
use Rattle.world_model.proofs.events.Happened.{at_event}
use Rattle.world_model.proofs.events.AllLinks.{links_keep}
use Rattle.world_model.proofs.basic.Census.{IsRight, grows_right}
use Rattle.world_model.proofs.basic.LinkItems.{items_at}
use Rattle.world_model.proofs.basic.NamesKept.{is_wired, named_keep}
use Rattle.world_model.proofs.basic.SessionViews.{events_in}
use Rattle.world_model.proofs.basic.SessionsGrow.{census, made_by}
use Rattle.world_model.proofs.basic.SessionsKept.{happens_grows}
use Rattle.world_model.proofs.basic.EventsKept.{other_events, past_events, events_differ, happens_comes}

-- what Wire says, connection by connection
pub all_wired : (links : List Link) → list_all is_sent_front links ≡ true → list_all (λ link. is_right (stage_of link)) links ≡ true → list_all is_reply_front links ≡ true
    → list_all (λ link. handled_from 0 link.served) links ≡ true → list_all is_wired links ≡ true
all_wired [] sent grammar replies handled = refl
all_wired (link ∷ links) sent grammar replies handled =
    let one = and_parts (is_sent_front link) (list_all is_sent_front links) sent in
    let two = and_parts (is_right (stage_of link)) (list_all (λ l. is_right (stage_of l)) links) grammar in
    let three = and_parts (is_reply_front link) (list_all is_reply_front links) replies in
    let four = and_parts (handled_from 0 link.served) (list_all (λ l. handled_from 0 l.served) links) handled in
    and_from (is_wired link) (list_all is_wired links)
    (and_from (is_sent_front link) (is_right (stage_of link) && (is_reply_front link && handled_from 0 link.served)) one.0
    (and_from (is_right (stage_of link)) (is_reply_front link && handled_from 0 link.served) two.0 (and_from (is_reply_front link) (handled_from 0 link.served) three.0 four.0)))
    (all_wired links one.1 two.1 three.1 four.1)

module _ (setting : Setting) (m : Machine) (items left : List Served) (happened : Noted) (n : Machine) (happens : Happens setting (at_event m) items left happened n) where
  pub named_kept : list_all is_wired m.links ≡ true → list_all is_named m.links ≡ true → list_all is_named n.links ≡ true
  named_kept wired old = links_keep setting (at_event m) is_wired is_named (named_keep (at_event m)) items left happened n happens wired old

  pub census_kept : (outside later : List SessionId) → list_all is_wired m.links ≡ true → list_all is_named m.links ≡ true → later ≡ outside ++ made_by m.server happened
      → IsRight (census m outside) → IsRight (census n later)
  census_kept outside later wired named out right = grows_right (census m outside) (census n later) (happens_grows setting (at_event m) outside later wired named items left happened n happens out) right

  pub one_item_kept : list_all (items_at m.event) m.links ≡ true → each_pair other_events (events_in m.links) ≡ true → each_pair other_events (events_in n.links) ≡ true
  one_item_kept past differ =
      events_differ m.event (m.event + 1) (events_in m.links) (events_in n.links) refl (past_events m.event m.links past) (happens_comes setting (at_event m) items left happened n happens) differ
