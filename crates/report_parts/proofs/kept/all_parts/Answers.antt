use Rattle.std.proofs.Common.{◌∙◌, ◌+◌, map, refl}
use Rattle.report_parts.specs.PartViews.{part_as}
use Rattle.report_story.specs.Views.{step_as}
use Rattle.report_parts.proofs.ClientParts.{client_next}
use Rattle.report_parts.proofs.kept.all_parts.Goals as goal

pub loop-place-preserved : goal.loop-place-preserved
loop-place-preserved c =
    client_next (map step_as c.args.steps.now) c.args.clients.now c.args.transcripts.now c.loop-place.place (c.loop-place.place + 1) c.index-clients-place.result c.reports_at-reports.result.now
    (map part_as c.loop-place.parts.items) (map part_as c.put_client_at.new.parts.items)
    c.loop-place-test.true c.index-clients-place.is refl c.reports_at-reports.ensures c.in_ok-put_client_at.ensures
    ∙ c.loop-place.invariant
