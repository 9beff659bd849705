-- Of Number, test by test, at the start and behind each event.
use Rattle.std.proofs.Common.{refl}
use Rattle.world_model.proofs.events.AllLists.{every_all}
use Rattle.world_model.proofs.events.AllLinks.{links_keep}
use Rattle.world_model.proofs.events.Happened.{Followed, follow_happens, at_event}
use Rattle.world_model.proofs.basic.LinkLives.{no_test}
use Rattle.world_model.proofs.number.LinkHeld.{told_keep}
use Rattle.world_model.specs.OrderlyLaws.{IsKept}
use Rattle.world_model.specs.records.Wire.{Wire}
use Rattle.world_model.specs.records.Number.{is_told, are_told, are_served_near}
use Rattle.world_model.proofs.wire.KeptWire.{wire_is_kept}
use Rattle.world_model.proofs.number.ServedNear.{all_near}

pub near_law : IsKept are_served_near
near_law = record {
  at_start = λ document. refl;
  at_event = λ before after old new event note items left one inv.
      let wire : Wire new = wire_is_kept before after old new event note items left one inv in
      all_near new.machine.links wire.sent wire.replies wire.handled wire.out;
}

pub told_law : IsKept are_told
told_law = record {
  at_start = λ document. refl;
  at_event = λ before after old new event note items left one inv.
      let by : Followed old.setting old.machine event note items left new.machine = follow_happens old.setting old.machine event note items left new.machine one.follows in
      links_keep old.setting (at_event old.machine) no_test is_told (told_keep (at_event old.machine)) items left by.kind new.machine by.happens (every_all no_test old.machine.links (λ link. refl)) inv.number.told;
}
