-- Of Shown: each outcome that a request took stands, at the start and behind each event.
use Rattle.std.proofs.Common.{◌≡◌, sym, subst, true}
use Rattle.std.specs.List.{list_all}
use Rattle.outage_schedule.specs.declared.item.Item.TheVariants as item
use Rattle.invariant_laws.specs.KeptLaws.{IsKeptOfAll}
use Rattle.world_model.specs.Reached.{traced_start}
use Rattle.world_model.specs.meaning.Settings.{Setting, setting_of}
use Rattle.invariant_laws.specs.Shown.{told_as, outcome_stands, outcomes_stand}
use Rattle.world_model.specs.Traced.{courses_of_clients}
use Rattle.invariant_laws.proofs.losses.AnswersStand.{stands_still}
use Rattle.invariant_laws.proofs.losses.AskedAnswers.{told_now}
use Rattle.world_model.proofs.Offered.{happens_step, Followed, follow_happens, at_event, resting_none}
use Rattle.invariant_laws.proofs.losses.OutcomesPass.{outcomes_pass, may_pass}

pub stands_law : IsKeptOfAll outcomes_stand
stands_law = record {
  at_start = λ document. resting_none (setting_of document) 1 (outcomes_pass (outcome_stands (traced_start document))) document.clients;
  at_event = λ before after old new event note items left one inv.
      let by : Followed old.setting old.machine event note items left new.machine = follow_happens old.setting old.machine event note items left new.machine one.follows in
      let still = stands_still old new one.more_entries one.more_blocked one.entries one.blocked in
      subst (λ (setting : Setting). list_all (outcomes_pass (outcome_stands new)) (courses_of_clients setting 1 new.machine.clients) ≡ true) (sym one.setting)
      (may_pass old new.machine inv.orderly (outcome_stands old) (outcome_stands new) inv.shown.outcomes (λ outcome. still (item.Outcome outcome.ltxid (told_as outcome)))
      (λ number step asking committed completed alive input phase.
      still (item.Outcome asking.ltxid (told_as (record { ltxid = asking.ltxid; committed = committed; completed = completed }))) (told_now old inv.orderly inv.shown.answers number new.machine step asking committed completed alive input phase))
      (happens_step old.setting (at_event old.machine) items left by.kind new.machine by.happens));
}
