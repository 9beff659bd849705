-- What holds of each call of the scripts holds of each call that was served.
use Rattle.std.proofs.Common.{◌≡◌, ◌∙◌, ℕ, Bool, true, List, [], ◌∷◌, map, Some, refl, sym, ap, inl, inr}
use Rattle.std.specs.List.{list_all}
use Rattle.std.proofs.lemmas.Bool.{and_parts, and_from}
use Rattle.svc_values.specs.declared.call.Call.{Call}
use Rattle.svc_values.specs.declared.frame.Up.{Up}
use Rattle.svc_values.specs.declared.frame.Up.TheVariants as up
use Rattle.svc_values.specs.meaning.Same.{same_bool, same_call}
use Rattle.svc_values.specs.SameLaws.{same_call_decides}
use Rattle.outage_schedule.specs.declared.document.Client.{Client as Script}
use Rattle.outage_schedule.specs.declared.document.Document.{Document}
use Rattle.outage_schedule.specs.declared.event.Event.{Event}
use Rattle.outage_schedule.specs.declared.item.Item.{Item}
use Rattle.outage_schedule.specs.declared.item.Item.TheVariants as item
use Rattle.outage_schedule.specs.declared.item.Served.{Served}
use Rattle.outage_schedule.specs.declared.note.Note.{Note}
use Rattle.told_reports.specs.meaning.Places.{may_stand}
use Rattle.world_model.specs.meaning.Crashing.{is_crashed_item}
use Rattle.world_model.specs.meaning.Links.{Link}
use Rattle.world_model.specs.meaning.Machines.{Machine, start_of}
use Rattle.world_model.specs.meaning.Serving.{Front, front_at, is_item_of}
use Rattle.world_model.specs.meaning.Settings.{Setting, setting_of}
use Rattle.world_model.specs.meaning.Walking.{follow}
use Rattle.world_model.proofs.Offered.{IsFront, at_event, at_link, every_all, follow_happens, front_is, happens_step, links_keep, met, sent_lists}
use Rattle.form_laws.specs.Laws.{item_passes, scripts_pass, ServedCallsPass}
use Rattle.form_laws.proofs.Clients.{SaysOn, lists_pass, may_step_so, request_passes, scripts_pass_in, sent_passes, starts_so}
use Rattle.form_laws.proofs.Fronts.{front_passes, fronts_keep}
use Rattle.form_laws.proofs.Takes.{IsOf, Took, NoItem, OneItem, follow_takes}
use Rattle.form_laws.proofs.Talks.{frame_passes}
use Rattle.form_laws.proofs.Walks.{EachTells, followed_tells}

module _ (test : Call → Bool) where
  -- ---- an item and its frame

  same_passes : (a b : Call) → same_call a b ≡ true → test b ≡ true → test a ≡ true
  same_passes a b same here = ap test ((same_call_decides a b).0 same) ∙ here

  item_so : (frame : Up) (one : Item) → is_item_of frame one ≡ true → frame_passes test frame ≡ true → item_passes test one ≡ true
  item_so up.Connect item.Connect is here = refl
  item_so (up.Begin settings) (item.Begin begun) is here = refl
  item_so (up.Call replay kept call) (item.Call marked served answers draws) is here = same_passes served call (and_parts (same_bool marked replay) (same_call served call) is).1 here
  item_so (up.Call replay kept call) (item.Blocked served) is here = same_passes served call is here
  item_so (up.Outcome ltxid) (item.Outcome asked result) is here = refl
  item_so up.End item.End is here = refl
  item_so up.Close item.Close is here = refl
  item_so frame one is here = absurd (let none : ⊥ = cc in none)

  crashed_so : (frame : Up) (one : Item) → is_crashed_item frame one ≡ true → frame_passes test frame ≡ true → item_passes test one ≡ true
  crashed_so (up.Call replay kept call) (item.CrashedCall marked served) is here = same_passes served call (and_parts (same_bool marked replay) (same_call served call) is).1 here
  crashed_so (up.Outcome ltxid) (item.CrashedOutcome asked) is here = refl
  crashed_so frame one is here = absurd (let none : ⊥ = cc in none)

  either_so : (frame : Up) (one : Item) → IsOf frame one → frame_passes test frame ≡ true → item_passes test one ≡ true
  either_so frame one (inl is) here = item_so frame one is here
  either_so frame one (inr is) here = crashed_so frame one is here

  -- ---- a state, and the items behind it

  -- clients and frames, and what may still be served
  record Speaks (setting : Setting) (m : Machine) : Type 0 where
    scripts : scripts_pass_in test setting ≡ true
    says : SaysOn test m
    fronts : list_all (front_passes (sent_passes test)) m.links ≡ true

  abbrev Pass : Machine → List Served → Type 0
  Pass m items = list_all (λ one. item_passes test one.item) items ≡ true

  sent_of : (links : List Link) → lists_pass test (sent_lists links) ≡ true → list_all (λ (link : Link). list_all (sent_passes test) link.sent) links ≡ true
  sent_of [] all = refl
  sent_of (link ∷ links) all =
      let parts = and_parts (list_all (sent_passes test) link.sent) (lists_pass test (sent_lists links)) all in
      and_from (list_all (sent_passes test) link.sent) (list_all (λ (one : Link). list_all (sent_passes test) one.sent) links) parts.0 (sent_of links parts.1)

  -- the frame that may be served now was sent
  front_so : (setting : Setting) (m : Machine) (number : ℕ) (front : Front) → Speaks setting m → front_at m.links number ≡ Some front → frame_passes test front.first.frame ≡ true
  front_so setting m number front speaks there =
      let at : IsFront m.links number front = front_is m.links number front there in
      let sent : list_all (sent_passes test) front.link.sent ≡ true = at_link (λ (link : Link). list_all (sent_passes test) link.sent) m.links number front.link (sent_of m.links speaks.says.sent) at.there in
      let ups : list_all (sent_passes test) front.link.up ≡ true =
      met (list_all (sent_passes test) front.link.sent) (list_all (sent_passes test) front.link.up) (at_link (front_passes (sent_passes test)) m.links number front.link speaks.fronts at.there) sent in
      (and_parts (sent_passes test front.first) (list_all (sent_passes test) front.later) (ap (list_all (sent_passes test)) (sym at.up) ∙ ups)).0

  begins : (setting : Setting) (m : Machine) → Speaks setting m → Speaks setting (at_event m)
  begins setting m speaks = record { scripts = speaks.scripts; says = record { clients = speaks.says.clients; sent = speaks.says.sent }; fronts = speaks.fronts }

  stands_on : (setting : Setting) (m n : Machine) (event : Event) (noted : Note) (items left : List Served) → follow setting m event noted items ≡ Some (n, left) → Speaks setting m → Speaks setting n
  stands_on setting m n event noted items left e speaks =
      let followed = follow_happens setting m event noted items left n e in
      let now : Speaks setting (at_event m) = begins setting m speaks in
      record {
        scripts = speaks.scripts;
        says = may_step_so test setting (at_event m) n speaks.scripts now.says (happens_step setting (at_event m) items left followed.kind n followed.happens);
        fronts = links_keep setting (at_event m) (λ link. true) (front_passes (sent_passes test)) (fronts_keep (sent_passes test) (at_event m)) items left followed.kind n followed.happens
            (every_all (λ link. true) m.links (λ link. refl)) now.fronts;
      }

  took_so : (setting : Setting) (m n : Machine) (noted : Note) (items left : List Served) → Speaks setting m → Took (at_event m) (may_stand noted) items left → Pass n left → Pass m items
  took_so setting m n noted items left speaks (NoItem same) later = ap (list_all (λ one. item_passes test one.item)) same ∙ later
  took_so setting m n noted items left speaks (OneItem number front served there is of passes same) later =
      ap (list_all (λ one. item_passes test one.item)) same
      ∙ and_from (item_passes test served.item) (list_all (λ one. item_passes test one.item) left) (either_so front.first.frame served.item is (front_so setting (at_event m) number front (begins setting m speaks) there)) later

  each_passes : (setting : Setting) → EachTells setting (λ m notes. Speaks setting m) Pass
  each_passes setting = record {
    stands = λ m n event noted notes items left e speaks. stands_on setting m n event noted items left e speaks;
    tells = λ m n event noted notes items left e speaks later. took_so setting m n noted items left speaks (follow_takes setting m event noted items left n e) later;
    none = λ m. refl;
  }

  -- ---- the start

  scripts_so : (scripts : List Script) → list_all (λ client. list_all (request_passes test) client.requests) scripts ≡ true → list_all (list_all (request_passes test)) (map (λ client. client.requests) scripts) ≡ true
  scripts_so [] all = refl
  scripts_so (script ∷ scripts) all =
      let parts = and_parts (list_all (request_passes test) script.requests) (list_all (λ client. list_all (request_passes test) client.requests) scripts) all in
      and_from (list_all (request_passes test) script.requests) (list_all (list_all (request_passes test)) (map (λ client. client.requests) scripts)) parts.0 (scripts_so scripts parts.1)

  starts : (document : Document) → scripts_pass test document ≡ true → Speaks (setting_of document) (start_of document)
  starts document all = record { scripts = scripts_so document.clients all; says = record { clients = starts_so test document.clients all; sent = refl }; fronts = refl }

pub served_calls_pass : ServedCallsPass
served_calls_pass test document report all is =
    followed_tells document report (λ m notes. Speaks test (setting_of document) m) (Pass test) (each_passes test (setting_of document)) (starts test document all) is
