-- Basic as a whole, at the start and behind each event.
use Rattle.world_model.specs.OrderlyLaws.{BasicBegins, BasicIsKept}
use Rattle.world_model.proofs.basic.KeptSteps.{steps_law, ticks_law}
use Rattle.world_model.proofs.basic.KeptTests.{items_law, ended_law, commits_law, life_law, down_law, now_law}
use Rattle.world_model.proofs.basic.KeptSessions.{apart_law, made_law, counted_law, named_law, one_item_law}

pub basic_begins : BasicBegins
basic_begins document = record {
  steps = steps_law.at_start document;
  ticks = ticks_law.at_start document;
  items = items_law.at_start document;
  one_item = one_item_law.at_start document;
  down = down_law.at_start document;
  ended = ended_law.at_start document;
  apart = apart_law.at_start document;
  made = made_law.at_start document;
  counted = counted_law.at_start document;
  now = now_law.at_start document;
  named = named_law.at_start document;
  commits = commits_law.at_start document;
  life = life_law.at_start document;
}

pub basic_is_kept : BasicIsKept
basic_is_kept before after old new event note items left one inv = record {
  steps = steps_law.at_event before after old new event note items left one inv;
  ticks = ticks_law.at_event before after old new event note items left one inv;
  items = items_law.at_event before after old new event note items left one inv;
  one_item = one_item_law.at_event before after old new event note items left one inv;
  down = down_law.at_event before after old new event note items left one inv;
  ended = ended_law.at_event before after old new event note items left one inv;
  apart = apart_law.at_event before after old new event note items left one inv;
  made = made_law.at_event before after old new event note items left one inv;
  counted = counted_law.at_event before after old new event note items left one inv;
  now = now_law.at_event before after old new event note items left one inv;
  named = named_law.at_event before after old new event note items left one inv;
  commits = commits_law.at_event before after old new event note items left one inv;
  life = life_law.at_event before after old new event note items left one inv;
}
