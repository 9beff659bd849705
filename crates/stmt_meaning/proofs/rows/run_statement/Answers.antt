use Rattle.std.specs.Prelude.{option_to_list}
use Rattle.stmt_meaning.specs.Listed.{TakesFirst}
use Rattle.stmt_meaning.specs.meaning.Plans.{place_of}
use Rattle.stmt_meaning.proofs.OneRun.{ran_plan}
use Rattle.stmt_meaning.proofs.rows.run_statement.Goals as goal

pub returns-in_ok-effect_on-in-Ok-clause-done : goal.returns-in_ok-effect_on-in-Ok-clause-done
returns-in_ok-effect_on-in-Ok-clause-done c =
    let effected = c.in_ok-effect_on-in-Ok.field-0 in (
      option_to_list (place_of c.in-Ok.plan),
      ran_plan TakesFirst (record { schemas = c.args.schemas.now; sequences = c.args.source.now.names }) c.args.rows.now c.args.settings.now c.args.statement.now c.args.source.now c.args.drawn.now.items c.in-Ok.plan c.plan_of.new.source c.plan_of.new.drawn.items c.in-Ok.ensures.read effected c.in_ok-effect_on-in-Ok.ensures,
    )
