-- What is orderly as a whole, at the start and behind each event.
use Rattle.std.proofs.Common.{refl, ◌∙◌}
use Rattle.commit_log.specs.Keeping.{EachKeeps}
use Rattle.server_model.specs.Laws.{EntryNumbers}
use Rattle.world_model.specs.OrderlyLaws.{OrderlyIsKept}
use Rattle.world_model.proofs.basic.KeptBasic.{basic_begins, basic_is_kept}
use Rattle.world_model.proofs.script.KeptDraws.{draws_law}
use Rattle.world_model.proofs.script.KeptReady.{ready_law}
use Rattle.world_model.proofs.script.KeptSendings.{sendings_law}
use Rattle.world_model.proofs.script.KeptTalks.{talks_begin, talks_are_kept, conversations_law, reports_law}
use Rattle.world_model.proofs.script.KeptTracks.{tracks_law}
use Rattle.world_model.proofs.wire.KeptWire.{wire_begins, wire_is_kept}
use Rattle.world_model.proofs.script.OwnedKept.{owned_law}
use Rattle.world_model.proofs.script.ScriptsKept.{scripts_law}
use Rattle.world_model.proofs.hold.WholeHold.{hold_begins, hold_is_kept}
use Rattle.world_model.proofs.number.WholeNumber.{number_begins, number_is_kept}

pub orderly_is_kept : EachKeeps → EntryNumbers → OrderlyIsKept
orderly_is_kept keeps numbers = record {
  at_start = λ document calls. record {
    setting = record { document = document; same = refl; calls = calls };
    basic = basic_begins document;
    wire = wire_begins document;
    hold = hold_begins document;
    script = record {
      talks = talks_begin document;
      conversations = conversations_law.at_start document;
      kept = tracks_law.at_start document calls;
      scripts = scripts_law.at_start document;
      reports = reports_law.at_start document;
      owned = owned_law.at_start document;
      sent = sendings_law.at_start document;
      marks = draws_law.at_start document;
      ready = ready_law.at_start document calls;
    };
    number = number_begins keeps document;
  };
  at_event = λ before after old new event note items left one inv. record {
    setting = record { document = inv.setting.document; same = one.setting ∙ inv.setting.same; calls = inv.setting.calls };
    basic = basic_is_kept before after old new event note items left one inv;
    wire = wire_is_kept before after old new event note items left one inv;
    hold = hold_is_kept before after old new event note items left one inv;
    script = record {
      talks = talks_are_kept before after old new event note items left one inv;
      conversations = conversations_law.at_event before after old new event note items left one inv;
      kept = tracks_law.at_event before after old new event note items left one inv;
      scripts = scripts_law.at_event before after old new event note items left one inv;
      reports = reports_law.at_event before after old new event note items left one inv;
      owned = owned_law.at_event before after old new event note items left one inv;
      sent = sendings_law.at_event before after old new event note items left one inv;
      marks = draws_law.at_event before after old new event note items left one inv;
      ready = ready_law.at_event before after old new event note items left one inv;
    };
    number = number_is_kept keeps numbers before after old new event note items left one inv;
  };
}
