use Rattle.std.proofs.Common.{◌∙◌, ◌+◌, List, length, min, ap, sym, arith}
use Rattle.svc_values.specs.declared.entry.SessionId.{SessionId}
use Rattle.report_parts.proofs.Lefts.{sessions_more, sessions_all}
use Rattle.report_parts.proofs.parts.sessions_up_to.Goals as goal

pub loop-submission-preserved : goal.loop-submission-preserved
loop-submission-preserved c =
    let next = c.further-upto.ensures ∙ ap (λ (sessions : List SessionId). min (c.loop-submission.upto + length sessions) c.args.most) c.as_slice.ensures in
    record {
      total = sessions_more c.args.submissions.now c.loop-submission.submission-index c.loop-submission.upto c.further-upto.result c.args.most c.submission-item.result
          c.loop-submission-test.true c.submission-item.is next ∙ c.loop-submission.invariant.total;
      upto = omega (arith, next);
    }

pub returns : goal.returns
returns c = sym (sessions_all c.args.submissions.now c.loop-submission.submission-index c.loop-submission.upto c.args.most c.loop-submission-test.false c.loop-submission.invariant.upto) ∙ c.loop-submission.invariant.total
