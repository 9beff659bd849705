use Rattle.std.proofs.Common.{◌∙◌, sym}
use Rattle.std.specs.Prelude.{◌&&◌, is_some, nat_lt}
use Rattle.shown_clauses.specs.meaning.Showings.{showing_at}
use Rattle.shown_clauses.specs.meaning.Steps.{Step}
use Rattle.report_parts.proofs.Searches.{counted_mapped}
use Rattle.report_parts.proofs.looking.shown_before.Goals as goal

pub returns : goal.returns
returns c = c.count_before.ensures ∙ sym (counted_mapped (λ (step : Step). is_some (showing_at step) && nat_lt step.event c.args.event) c.args.steps.now)
