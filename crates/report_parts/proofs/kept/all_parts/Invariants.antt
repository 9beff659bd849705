use Rattle.std.proofs.Common.{◌≡◌, ◌+◌, ◌++◌, map, drop}
use Rattle.shown_clauses.specs.meaning.KeptDraws.{parts_from}
use Rattle.report_parts.specs.PartViews.{part_as}
use Rattle.report_story.specs.Views.{step_as}
use Rattle.report_parts.proofs.ClientParts.{submissions_in}
use Rattle.report_parts.proofs.kept.all_parts.Given as goal

abbrev pub invariant-loop-place : goal.invariant-loop-place
invariant-loop-place l =
    map part_as l.parts.items ++ parts_from (l.place + 1) (map step_as l.steps) (submissions_in (drop l.place l.clients) (drop l.place l.transcripts))
    ≡ parts_from 1 (map step_as l.steps) (submissions_in l.clients l.transcripts)
