-- The steps of all requests rise, and what they keep is past, at the start and behind each event.
use Rattle.std.proofs.Common.{sym, ◌∙◌}
use Rattle.world_model.specs.meaning.Settings.{setting_of}
use Rattle.world_model.specs.Reached.{traced_start}
use Rattle.world_model.specs.records.Basic.{have_risen, kept_ticks}
use Rattle.world_model.specs.OrderlyLaws.{IsKept}
use Rattle.world_model.proofs.events.AllClients.{all_courses, past_steps, doing_steps, none_yet}
use Rattle.world_model.proofs.basic.StepsRise.{rises_at}
use Rattle.world_model.proofs.events.Happened.{Followed, follow_happens}
use Rattle.world_model.proofs.basic.BasicSteps.{steps_kept}
use Rattle.world_model.proofs.basic.BasicTicks.{keeps_at, ticks_kept, none_now}

pub steps_law : IsKept have_risen
steps_law = record {
  at_start = λ document.
      all_courses (rises_at 0 0) (setting_of document) 1 (traced_start document).machine.clients
      ∙ none_yet (past_steps (rises_at 0 0)) (doing_steps (rises_at 0 0)) (λ client. client.requests) document.clients;
  at_event = λ before after old new event note items left one inv.
      let by : Followed old.setting old.machine event note items left new.machine = follow_happens old.setting old.machine event note items left new.machine one.follows in
      all_courses (rises_at new.machine.event new.machine.tick) new.setting 1 new.machine.clients
      ∙ steps_kept old.setting old.machine items left by.kind new.machine by.happens inv.basic.ended
      (sym (all_courses (rises_at old.machine.event old.machine.tick) old.setting 1 old.machine.clients) ∙ inv.basic.steps);
}

pub ticks_law : IsKept kept_ticks
ticks_law = record {
  at_start = λ document. none_now (keeps_at 0 0) (λ client. client.requests) document.clients;
  at_event = λ before after old new event note items left one inv.
      let by : Followed old.setting old.machine event note items left new.machine = follow_happens old.setting old.machine event note items left new.machine one.follows in
      ticks_kept old.setting old.machine items left by.kind new.machine by.happens inv.basic.ended inv.basic.ticks;
}
