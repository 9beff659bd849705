use Rattle.std.proofs.Common.{◌∙◌, sym}
use Rattle.std.specs.Prelude.{◌==◌}
use Rattle.shown_clauses.specs.meaning.Steps.{Step}
use Rattle.report_parts.proofs.Searches.{any_mapped}
use Rattle.report_parts.proofs.looking.has_step.Goals as goal

pub returns : goal.returns
returns c = c.has_event.ensures ∙ sym (any_mapped (λ (step : Step). step.event == c.args.event) c.args.steps.now)
