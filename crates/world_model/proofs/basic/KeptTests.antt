-- The tests of Basic that speak of each connection by itself, at the start and behind each event.
use Rattle.std.proofs.Common.{refl, List}
use Rattle.server_model.specs.Seen.{Seen}
use Rattle.outage_schedule.specs.declared.event.Event.{Event}
use Rattle.outage_schedule.specs.declared.note.Note.{Note}
use Rattle.outage_schedule.specs.declared.item.Served.{Served}
use Rattle.world_model.specs.Traced.{Traced}
use Rattle.world_model.specs.OneEvent.{OneEvent}
use Rattle.world_model.specs.records.Basic.{items_rise, is_down, are_ended, living_now, commits_counted, lives}
use Rattle.world_model.specs.OrderlyLaws.{IsKept}
use Rattle.world_model.proofs.events.Happened.{Followed, follow_happens}
use Rattle.world_model.proofs.basic.BasicLinks.{items_kept, ends_kept, commits_kept, life_kept, down_kept, now_kept}

abbrev followed : (before after : Seen) (old new : Traced) (event : Event) (note : Note) (items left : List Served) → OneEvent before old event note items left after new
    → Followed old.setting old.machine event note items left new.machine
followed before after old new event note items left one = follow_happens old.setting old.machine event note items left new.machine one.follows

pub items_law : IsKept items_rise
items_law = record {
  at_start = λ document. refl;
  at_event = λ before after old new event note items left one inv.
      let by : Followed old.setting old.machine event note items left new.machine = followed before after old new event note items left one in
      items_kept old.setting old.machine items left by.kind new.machine by.happens inv.basic.items;
}

pub ended_law : IsKept are_ended
ended_law = record {
  at_start = λ document. refl;
  at_event = λ before after old new event note items left one inv.
      let by : Followed old.setting old.machine event note items left new.machine = followed before after old new event note items left one in
      ends_kept old.setting old.machine items left by.kind new.machine by.happens inv.wire.sent inv.basic.ended;
}

pub commits_law : IsKept commits_counted
commits_law = record {
  at_start = λ document. refl;
  at_event = λ before after old new event note items left one inv.
      let by : Followed old.setting old.machine event note items left new.machine = followed before after old new event note items left one in
      commits_kept old.setting old.machine items left by.kind new.machine by.happens inv.basic.commits;
}

pub life_law : IsKept lives
life_law = record {
  at_start = λ document. refl;
  at_event = λ before after old new event note items left one inv.
      let by : Followed old.setting old.machine event note items left new.machine = followed before after old new event note items left one in
      life_kept old.setting old.machine items left by.kind new.machine by.happens inv.basic.life;
}

pub down_law : IsKept is_down
down_law = record {
  at_start = λ document. refl;
  at_event = λ before after old new event note items left one inv.
      let by : Followed old.setting old.machine event note items left new.machine = followed before after old new event note items left one in
      down_kept old.setting old.machine items left by.kind new.machine by.happens inv.basic.down;
}

pub now_law : IsKept living_now
now_law = record {
  at_start = λ document. refl;
  at_event = λ before after old new event note items left one inv.
      let by : Followed old.setting old.machine event note items left new.machine = followed before after old new event note items left one in
      now_kept old.setting old.machine items left by.kind new.machine by.happens inv.basic.down inv.basic.now;
}
