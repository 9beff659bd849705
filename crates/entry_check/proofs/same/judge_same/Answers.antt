use Rattle.std.proofs.Common.{◌∙◌, ap}
use Rattle.std.proofs.lemmas.Result.{IfOk-weaker}
use Rattle.commit_log.specs.declared.journal.Journal.{Journal}
use Rattle.entry_check.proofs.SameLaw.{same_as}
use Rattle.entry_check.proofs.same.judge_same.Goals as goal

pub returns : goal.returns
returns c =
    let sequences = c.as_slice.ensures.items ∙ ap (λ (journal : Journal). journal.base.sequences) c.in_ok-journal.ensures.is in
    let same = same_as c.args.document.now c.args.report.now c.as_slice.result.now c.in_ok-new.field-0 c.as_slice-scripts.result.now c.as_slice-3.result.now
    sequences (c.in_ok-new.ensures ∙ c.as_slice-2.ensures) c.as_slice-scripts.ensures c.as_slice-3.ensures in
    IfOk-weaker c.pointer_to.result _ _ (λ pointer is. is ∙ c.in_ok-place.ensures ∙ same) c.pointer_to.ensures
