use Rattle.std.proofs.Common.{◌∙◌, ap}
use Rattle.load_document.specs.Ends.{shown_ends, plus}
use Rattle.load_document.proofs.Counting.{request_counted}
use Rattle.load_document.proofs.counts.with_request.Goals as goal

pub returns : goal.returns
returns c =
    request_counted c.args.report.now c.args.before c.in_ok-shown.shown c.in_ok-ends.ends (c.in_ok-shown.ensures ∙ ap (λ calls. plus c.args.before (shown_ends calls)) c.as_slice.ensures)
    (c.in_ok-ends.ensures ∙ ap (λ own. plus c.in_ok-shown.shown own) c.failure_of.ensures)
