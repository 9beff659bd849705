use Rattle.std.proofs.Common.{ap, sym, subst, ◌∙◌}
use Rattle.std.proofs.lemmas.Result.{IfOk-weaker}
use Rattle.stmt_meaning.specs.PlainRuns.{IsMeaning}
use Rattle.svc_values.specs.declared.answer.Answer.TheVariants as answer
use Rattle.svc_values.specs.meaning.SettingsList.{put_setting}
use Rattle.stmt_meaning.specs.meaning.Meaning.{mean, worked, statements_done}
use Rattle.stmt_meaning.proofs.Working.{command_gives}
use Rattle.stmt_meaning.proofs.TablesFit.{run-base}
use Rattle.stmt_meaning.proofs.plain.plain_call.Goals as goal

pub returns-in_ok-run_alone-in-Set-clause-ok : goal.returns-in_ok-run_alone-in-Set-clause-ok
returns-in_ok-run_alone-in-Set-clause-ok c =
    let means = ap (λ k. mean c.args.shape.now c.args.tables.now c.args.settings.now k c.args.draws.now) c.in-Set.is in
    command_gives c.args.shape.now c.args.tables.now c.args.settings.now (put_setting c.args.settings.now c.in-Set.name c.in-Set.value) c.args.call.now c.args.draws.now (answer.Done 1) means c.in_ok-run_alone-in-Set.field-0 _ c.in_ok-run_alone-in-Set.ensures c.in_ok-after-in-Set.ensures

pub returns-in_ok-run_alone-in-Alter-clause-ok : goal.returns-in_ok-run_alone-in-Alter-clause-ok
returns-in_ok-run_alone-in-Alter-clause-ok c =
    let means = ap (λ k. mean c.args.shape.now c.args.tables.now c.args.settings.now k c.args.draws.now) c.in-Alter.is in
    command_gives c.args.shape.now c.args.tables.now c.args.settings.now c.args.settings.now c.args.call.now c.args.draws.now (answer.Done 1) means c.in_ok-run_alone-in-Alter.field-0 _ c.in_ok-run_alone-in-Alter.ensures c.in_ok-settings-in-Alter.ensures

pub returns-in_ok-run_alone-in-Disable-clause-ok : goal.returns-in_ok-run_alone-in-Disable-clause-ok
returns-in_ok-run_alone-in-Disable-clause-ok c =
    let means = ap (λ k. mean c.args.shape.now c.args.tables.now c.args.settings.now k c.args.draws.now) c.in-Disable.is in
    command_gives c.args.shape.now c.args.tables.now c.args.settings.now c.args.settings.now c.args.call.now c.args.draws.now (answer.Done 0) means c.in_ok-run_alone-in-Disable.field-0 _ c.in_ok-run_alone-in-Disable.ensures c.in_ok-settings-in-Disable.ensures

pub returns-in_ok-run_alone-in-Rollback-clause-ok : goal.returns-in_ok-run_alone-in-Rollback-clause-ok
returns-in_ok-run_alone-in-Rollback-clause-ok c =
    let means = ap (λ k. mean c.args.shape.now c.args.tables.now c.args.settings.now k c.args.draws.now) c.in-Rollback.is in
    command_gives c.args.shape.now c.args.tables.now c.args.settings.now c.args.settings.now c.args.call.now c.args.draws.now answer.RolledBack means c.in_ok-run_alone-in-Rollback.field-0 _ c.in_ok-run_alone-in-Rollback.ensures c.in_ok-settings-in-Rollback.ensures

pub returns-in_ok-run_alone-in-Set-clause-base : goal.returns-in_ok-run_alone-in-Set-clause-base
returns-in_ok-run_alone-in-Set-clause-base c = run-base c.args.shape.now c.args.tables.now c.args.settings.now c.args.call.now c.args.draws.now c.in_ok-run_alone-in-Set.field-0 (returns-in_ok-run_alone-in-Set-clause-ok c)

pub returns-in_ok-run_alone-in-Alter-clause-base : goal.returns-in_ok-run_alone-in-Alter-clause-base
returns-in_ok-run_alone-in-Alter-clause-base c = run-base c.args.shape.now c.args.tables.now c.args.settings.now c.args.call.now c.args.draws.now c.in_ok-run_alone-in-Alter.field-0 (returns-in_ok-run_alone-in-Alter-clause-ok c)

pub returns-in_ok-run_alone-in-Disable-clause-base : goal.returns-in_ok-run_alone-in-Disable-clause-base
returns-in_ok-run_alone-in-Disable-clause-base c = run-base c.args.shape.now c.args.tables.now c.args.settings.now c.args.call.now c.args.draws.now c.in_ok-run_alone-in-Disable.field-0 (returns-in_ok-run_alone-in-Disable-clause-ok c)

pub returns-in_ok-run_alone-in-Rollback-clause-base : goal.returns-in_ok-run_alone-in-Rollback-clause-base
returns-in_ok-run_alone-in-Rollback-clause-base c = run-base c.args.shape.now c.args.tables.now c.args.settings.now c.args.call.now c.args.draws.now c.in_ok-run_alone-in-Rollback.field-0 (returns-in_ok-run_alone-in-Rollback-clause-ok c)

pub returns-in-Work-clause-base : goal.returns-in-Work-clause-base
returns-in-Work-clause-base c =
    let asked = ap (λ k. mean c.args.shape.now c.args.tables.now c.args.settings.now k c.args.draws.now) c.in-Work.is in
    let same = ap (λ s. worked c.args.tables.now c.args.settings.now c.in-Work.commit (statements_done c.args.shape.now c.args.tables.now c.args.settings.now s c.args.draws.now)) c.as_slice-statements.ensures.items in
    IfOk-weaker c.run_work.result _ _ (λ run means. run-base c.args.shape.now c.args.tables.now c.args.settings.now c.args.call.now c.args.draws.now run (subst (λ o. IsMeaning o c.args.draws.now run) (same ∙ sym asked) means)) c.run_work.ensures.ok
