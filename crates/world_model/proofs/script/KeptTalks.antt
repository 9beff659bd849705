-- Of Script: the conversations of all requests, and their reports, at the start and behind each
-- event.
use Rattle.std.proofs.Common.{sym, subst}
use Rattle.world_model.specs.meaning.Settings.{Setting, setting_of}
use Rattle.world_model.specs.records.Conversing.{AllTalk}
use Rattle.world_model.specs.Reached.{traced_start}
use Rattle.world_model.specs.OrderlyLaws.{IsKept, TalksBegin, TalksAreKept}
use Rattle.world_model.specs.records.Script.{are_conversations, report_rightly}
use Rattle.world_model.proofs.events.Happened.{Followed, follow_happens, at_event}
use Rattle.world_model.proofs.script.TalksKept.{happens_talks, none_talks}
use Rattle.world_model.proofs.script.TalkTests.{talks_converse, talks_report}

pub talks_begin : TalksBegin
talks_begin document = none_talks (setting_of document).terms (λ client. client.requests) document.clients

pub talks_are_kept : TalksAreKept
talks_are_kept before after old new event note items left one inv =
    let by : Followed old.setting old.machine event note items left new.machine = follow_happens old.setting old.machine event note items left new.machine one.follows in
    subst (λ (setting : Setting). AllTalk setting.terms new.machine.clients) (sym one.setting) (happens_talks old.setting (at_event old.machine) inv.script.talks items left by.kind new.machine by.happens)

pub conversations_law : IsKept are_conversations
conversations_law = record {
  at_start = λ document. talks_converse (traced_start document) (talks_begin document);
  at_event = λ before after old new event note items left one inv. talks_converse new (talks_are_kept before after old new event note items left one inv);
}

pub reports_law : IsKept report_rightly
reports_law = record {
  at_start = λ document. talks_report (traced_start document) (talks_begin document);
  at_event = λ before after old new event note items left one inv. talks_report new (talks_are_kept before after old new event note items left one inv);
}
