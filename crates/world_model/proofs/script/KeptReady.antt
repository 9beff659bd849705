-- Of Script: each request in course is ready, at the start and behind each event.
use Rattle.std.proofs.Common.{◌≡◌, refl, sym, subst, true, List, [], inl, inr}
use Rattle.std.specs.List.{list_all}
use Rattle.std.proofs.lemmas.Bool.{and_parts}
use Rattle.outage_schedule.specs.declared.document.Failover.{Failover}
use Rattle.outage_schedule.specs.declared.document.Failover.TheVariants as failover
use Rattle.outage_schedule.specs.declared.document.Consistency.{Consistency}
use Rattle.outage_schedule.specs.declared.document.Consistency.TheVariants as consistency
use Rattle.outage_schedule.specs.declared.document.Client.{Client as Scripted}
use Rattle.outage_schedule.specs.declared.document.Document.{Document}
use Rattle.outage_schedule.specs.declared.document.Request.{Request}
use Rattle.world_model.specs.meaning.Settings.{Setting, rules_of, setting_of}
use Rattle.world_model.specs.meaning.Clients.{resting}
use Rattle.world_model.specs.OrderlyLaws.{IsKeptOfCalls}
use Rattle.world_model.specs.records.Ready.{has_calls, is_rightly_repeated, is_right_request, all_requests_right, is_ready_client, are_ready}
use Rattle.world_model.proofs.events.AllLists.{map_all, weaker_all}
use Rattle.world_model.proofs.events.Happened.{Followed, follow_happens, at_event}
use Rattle.world_model.proofs.script.TalkReady.{AreRight}
use Rattle.world_model.proofs.script.ClientsReady.{next_calls, clients_ready}

right_rules : (mode : Failover) (settings : Consistency) → AreRight (rules_of mode settings)
right_rules failover.Transaction consistency.Dynamic = record { alters = λ line index. refl; commits = inl refl }
right_rules failover.Transaction consistency.Static = record { alters = λ line index. refl; commits = inl refl }
right_rules failover.Off settings = record { alters = λ line index. refl; commits = inr (λ one index. refl) }
right_rules failover.Auto settings = record { alters = λ line index. refl; commits = inl refl }

-- what a document says of all its runs
pub record HasRightCalls (setting : Setting) : Type 0 where
  pub right : AreRight setting.terms.rules
  pub scripts : list_all (list_all is_right_request) setting.scripts ≡ true

pub of_document : (document : Document) → all_requests_right document ≡ true → HasRightCalls (setting_of document)
of_document document calls = record {
  right = right_rules document.service.failover document.service.consistency;
  scripts = map_all (λ (client : Scripted). list_all is_right_request client.requests) (list_all is_right_request) (λ (client : Scripted). client.requests) document.clients (λ client here. here) calls;
}

pub have_calls : (script : List Request) → list_all is_right_request script ≡ true → list_all has_calls script ≡ true
have_calls script all = weaker_all is_right_request has_calls script (λ request here. (and_parts (has_calls request) (is_rightly_repeated request) here).0) all

pub rightly_repeated : (script : List Request) → list_all is_right_request script ≡ true → list_all is_rightly_repeated script ≡ true
rightly_repeated script all = weaker_all is_right_request is_rightly_repeated script (λ request here. (and_parts (has_calls request) (is_rightly_repeated request) here).1) all

pub ready_law : IsKeptOfCalls are_ready
ready_law = record {
  at_start = λ document calls.
      map_all (λ (client : Scripted). list_all is_right_request client.requests) (is_ready_client (setting_of document).terms) (λ (client : Scripted). resting client.requests []) document.clients
      (λ client here. next_calls client.requests [] (have_calls client.requests here)) calls;
  at_event = λ before after old new event note items left one inv.
      let by : Followed old.setting old.machine event note items left new.machine = follow_happens old.setting old.machine event note items left new.machine one.follows in
      let of : HasRightCalls old.setting = subst HasRightCalls (sym inv.setting.same) (of_document inv.setting.document inv.setting.calls) in
      subst (λ (setting : Setting). list_all (is_ready_client setting.terms) new.machine.clients ≡ true) (sym one.setting)
      (clients_ready old.setting of.right (weaker_all (list_all is_right_request) (list_all has_calls) old.setting.scripts have_calls of.scripts) (at_event old.machine) inv.script.ready items left by.kind new.machine by.happens);
}
