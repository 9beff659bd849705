use Rattle.std.proofs.Common.{◌∙◌, ◌+◌, List, length, min, map, take, subst, ap, arith}
use Rattle.std.proofs.lemmas.List.{map_push}
use Rattle.svc_values.specs.declared.entry.SessionId.{SessionId}
use Rattle.report_story.specs.declared.steps.Step.{Step as StepAt}
use Rattle.report_parts.specs.Cutting.{IsReach}
use Rattle.report_parts.specs.PartViews.{part_as}
use Rattle.report_parts.specs.SubmissionViews.{submission_as}
use Rattle.report_story.specs.Views.{step_as}
use Rattle.report_parts.proofs.Putting.{put_next, left_len}
use Rattle.report_parts.proofs.parts.put_parts.Goals as goal

pub loop-submission-preserved : goal.loop-submission-preserved
loop-submission-preserved c =
    let subs = c.args.submissions.now in
    let mine = c.args.mine.now in
    let from = c.loop-submission.from in
    let acquired = c.loop-submission.acquired in
    let one = c.submission-item.result in
    let upto = c.further-upto.result in
    let here = c.reach-here.result in
    let inv = c.loop-submission.invariant in
    let reach = subst (λ (steps : List StepAt). IsReach (map step_as steps) acquired upto here.len here.acquired) c.behind-rest.ensures c.reach-here.ensures in
    let capped = c.further-upto.ensures ∙ ap (λ (sessions : List SessionId). min (c.loop-submission.upto + length sessions) (length mine)) c.as_slice-sessions.ensures in
    let part = c.in_ok-part.ensures ∙ (λ i. record { submission = submission_as one; steps = map step_as ((c.front.ensures ∙ ap (take here.len) c.behind-rest.ensures) i) }) in
    let more = ap (map part_as) c.in_ok-push.ensures.items ∙ map_push part_as c.loop-submission.parts.items c.in_ok-part.part in
    let count = left_len mine from inv.from in
    let within = reach.within in
    let most = reach.most in
    let few = inv.acquired in
    record {
      made = put_next subs mine c.loop-submission.submission-index from acquired c.loop-submission.upto upto here.len here.acquired one
          (map part_as c.loop-submission.parts.items) (map part_as c.push.new.self.items) _ (part_as c.in_ok-part.part)
          c.loop-submission-test.true c.submission-item.is capped inv.acquired inv.from reach part more inv.made;
      from = omega (arith, count, within);
      acquired = omega (arith, most, few);
      upto = omega (arith, c.further-upto.ensures);
    }
