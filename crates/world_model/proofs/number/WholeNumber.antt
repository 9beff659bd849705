-- Number as a whole, at the start and behind each event.
use Rattle.std.proofs.Common.{refl}
use Rattle.commit_log.specs.Keeping.{EachKeeps}
use Rattle.server_model.specs.Laws.{EntryNumbers}
use Rattle.world_model.specs.OrderlyLaws.{NumberBegins, NumberIsKept}
use Rattle.world_model.proofs.number.Blocks.{blocks_law}
use Rattle.world_model.proofs.number.KeptAhead.{near_law, counted_law, ahead_law}
use Rattle.world_model.proofs.number.KeptEntries.{entries_law, unblocked_law, blocks_begin}
use Rattle.world_model.proofs.number.KeptNumber.{near_law as served_law, told_law}
use Rattle.world_model.proofs.number.KnownSessions.{known_law}

pub number_begins : EachKeeps → NumberBegins
number_begins keeps document = record {
  near = refl;
  counted = refl;
  told = told_law.at_start document;
  served = served_law.at_start document;
  ahead = refl;
  blocks = blocks_begin keeps document;
  entries = (entries_law keeps).at_start document;
  known = (known_law keeps).at_start document;
  unblocked = (unblocked_law keeps).at_start document;
}

pub number_is_kept : EachKeeps → EntryNumbers → NumberIsKept
number_is_kept keeps numbers before after old new event note items left one inv = record {
  near = (near_law numbers).at_event before after old new event note items left one inv;
  counted = (counted_law numbers).at_event before after old new event note items left one inv;
  told = told_law.at_event before after old new event note items left one inv;
  served = served_law.at_event before after old new event note items left one inv;
  ahead = (ahead_law numbers).at_event before after old new event note items left one inv;
  blocks = blocks_law after new one.coupled_after;
  entries = (entries_law keeps).at_event before after old new event note items left one inv;
  known = (known_law keeps).at_event before after old new event note items left one inv;
  unblocked = (unblocked_law keeps).at_event before after old new event note items left one inv;
}
