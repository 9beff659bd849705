use Rattle.std.proofs.Common.{◌≡◌, drop, map}
use Rattle.shown_clauses.specs.meaning.Fronts.{first_of}
use Rattle.shown_clauses.specs.meaning.KeptDraws.{is_step_of}
use Rattle.report_parts.specs.PartViews.{part_as}
use Rattle.report_parts.proofs.looking.part_with.Given as goal

abbrev pub invariant-loop-part : goal.invariant-loop-part
invariant-loop-part l = first_of (is_step_of l.event) (map part_as (drop l.part-index l.parts)) ≡ first_of (is_step_of l.event) (map part_as l.parts)
