-- Hold as a whole, at the start and behind each event.
use Rattle.world_model.specs.OrderlyLaws.{HoldBegins, HoldIsKept}
use Rattle.world_model.proofs.hold.KeptHold.{had_law, idle_law, lent_law, opened_law, held_law, by_held_law}
use Rattle.world_model.proofs.hold.KeptQueue.{queue_law}

pub hold_begins : HoldBegins
hold_begins document = record {
  had = had_law.at_start document;
  idle = idle_law.at_start document;
  lent = lent_law.at_start document;
  queue = queue_law.at_start document;
  opened = opened_law.at_start document;
  held = held_law.at_start document;
  by_held = by_held_law.at_start document;
}

pub hold_is_kept : HoldIsKept
hold_is_kept before after old new event note items left one inv = record {
  had = had_law.at_event before after old new event note items left one inv;
  idle = idle_law.at_event before after old new event note items left one inv;
  lent = lent_law.at_event before after old new event note items left one inv;
  queue = queue_law.at_event before after old new event note items left one inv;
  opened = opened_law.at_event before after old new event note items left one inv;
  held = held_law.at_event before after old new event note items left one inv;
  by_held = by_held_law.at_event before after old new event note items left one inv;
}
