-- What Basic says of each connection by itself is kept.
use Rattle.std.proofs.Common.{◌≡◌, refl, sym, subst, Bool, true, false, ℕ, ◌+◌, ◌||◌, List}
use Rattle.std.specs.List.{list_all}
use Rattle.std.proofs.lemmas.Bool.{or_left, or_right}
use Rattle.outage_schedule.specs.declared.item.Served.{Served}
use Rattle.world_model.specs.meaning.Settings.{Setting}
use Rattle.world_model.specs.meaning.Links.{Link}
use Rattle.world_model.specs.meaning.Machines.{Machine}
use Rattle.world_model.specs.meaning.Matching.{Noted}
use Rattle.world_model.specs.records.Basic.{lives_rightly}
use Rattle.world_model.specs.records.Wire.{is_sent_front}
use Rattle.world_model.proofs.events.Tests.{or_second}
use Rattle.world_model.proofs.events.AllLists.{weaker_all, every_all}
use Rattle.world_model.proofs.events.Moves.{Happens}
use Rattle.world_model.proofs.events.Happened.{at_event}
use Rattle.world_model.proofs.events.AllLinks.{links_keep}
use Rattle.world_model.proofs.basic.LinkLives.{no_test, counts_commits, commits_keep, life_keeps}
use Rattle.world_model.proofs.basic.LinkItems.{items_at, items_later, items_keep}
use Rattle.world_model.proofs.basic.LinkEnds.{ends_at, ends_later, ends_keep}
use Rattle.world_model.proofs.basic.LinkNow.{now_at, now_keep, is_down_link, up_or_down, down_keep, all_fallen, down_now}
use Rattle.world_model.proofs.basic.Servers.{Stands, AsBefore, Fell, Opened, happens_stands, event_kept}

module _ (setting : Setting) (m : Machine) (items left : List Served) (happened : Noted) (n : Machine) (happens : Happens setting (at_event m) items left happened n) where
  no_tests : list_all no_test m.links ≡ true
  no_tests = every_all no_test m.links (λ link. refl)

  pub items_kept : list_all (items_at m.event) m.links ≡ true → list_all (items_at n.event) n.links ≡ true
  items_kept old =
      subst (λ (event : ℕ). list_all (items_at event) n.links ≡ true) (sym (event_kept setting (at_event m) items left happened n happens))
      (links_keep setting (at_event m) (items_at m.event) (items_at (m.event + 1)) (items_keep (at_event m) m.event refl) items left happened n happens old
      (weaker_all (items_at m.event) (items_at (m.event + 1)) m.links (items_later m.event (m.event + 1) refl) old))

  pub ends_kept : list_all is_sent_front m.links ≡ true → list_all (ends_at m.event) m.links ≡ true → list_all (ends_at n.event) n.links ≡ true
  ends_kept wire old =
      subst (λ (event : ℕ). list_all (ends_at event) n.links ≡ true) (sym (event_kept setting (at_event m) items left happened n happens))
      (links_keep setting (at_event m) is_sent_front (ends_at (m.event + 1)) (ends_keep (at_event m)) items left happened n happens wire
      (weaker_all (ends_at m.event) (ends_at (m.event + 1)) m.links (ends_later m.event (m.event + 1) refl) old))

  pub commits_kept : list_all counts_commits m.links ≡ true → list_all counts_commits n.links ≡ true
  commits_kept old = links_keep setting (at_event m) no_test counts_commits (commits_keep (at_event m)) items left happened n happens no_tests old

  pub life_kept : list_all lives_rightly m.links ≡ true → list_all lives_rightly n.links ≡ true
  life_kept old = links_keep setting (at_event m) no_test lives_rightly (life_keeps (at_event m)) items left happened n happens no_tests old

  -- DOWN ------------------------------------------------------------------------------------------

  all_up_or_down : (up : Bool) (links : List Link) → (up || list_all is_down_link links) ≡ true → list_all (up_or_down up) links ≡ true
  all_up_or_down true links old = every_all (up_or_down true) links (λ link. refl)
  all_up_or_down false links old = old

  down_again : (up : Bool) (links : List Link) → list_all (up_or_down up) links ≡ true → (up || list_all is_down_link links) ≡ true
  down_again true links all = refl
  down_again false links all = all

  down_by : Stands (at_event m) n → (m.server.is_up || list_all is_down_link m.links) ≡ true → (n.server.is_up || list_all is_down_link n.links) ≡ true
  down_by (AsBefore same) old =
      subst (λ (up : Bool). (up || list_all is_down_link n.links) ≡ true) (sym same.is_up)
      (down_again m.server.is_up n.links
      (links_keep setting (at_event m) no_test (up_or_down m.server.is_up) (down_keep (at_event m)) items left happened n happens no_tests (all_up_or_down m.server.is_up m.links old)))
  down_by (Fell links same down incarnation) old =
      or_right n.server.is_up (list_all is_down_link n.links) (subst (λ (all : List Link). list_all is_down_link all ≡ true) (sym same) (all_fallen (m.event + 1) links))
  down_by (Opened links down up later none) old = or_left n.server.is_up (list_all is_down_link n.links) up

  pub down_kept : (m.server.is_up || list_all is_down_link m.links) ≡ true → (n.server.is_up || list_all is_down_link n.links) ≡ true
  down_kept old = down_by (happens_stands setting (at_event m) items left happened n happens) old

  same_now : (n.server.incarnation ≡ m.server.incarnation) → list_all (now_at m.server.incarnation) m.links ≡ true → list_all (now_at n.server.incarnation) n.links ≡ true
  same_now same old =
      subst (λ (incarnation : ℕ). list_all (now_at incarnation) n.links ≡ true) (sym same)
      (links_keep setting (at_event m) no_test (now_at m.server.incarnation) (now_keep (at_event m)) items left happened n happens no_tests old)

  now_by : Stands (at_event m) n → (m.server.is_up || list_all is_down_link m.links) ≡ true → list_all (now_at m.server.incarnation) m.links ≡ true → list_all (now_at n.server.incarnation) n.links ≡ true
  now_by (AsBefore same) down old = same_now same.incarnation old
  now_by (Fell links same off incarnation) down old = same_now incarnation old
  now_by (Opened links off up later none) down old =
      subst (λ (all : List Link). list_all (now_at n.server.incarnation) all ≡ true) (sym links)
      (down_now n.server.incarnation m.links (or_second m.server.is_up (list_all is_down_link m.links) off down))

  pub now_kept : (m.server.is_up || list_all is_down_link m.links) ≡ true → list_all (now_at m.server.incarnation) m.links ≡ true → list_all (now_at n.server.incarnation) n.links ≡ true
  now_kept down old = now_by (happens_stands setting (at_event m) items left happened n happens) down old
