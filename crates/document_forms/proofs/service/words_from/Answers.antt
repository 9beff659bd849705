use Rattle.std.proofs.Common.{ap, ◌∙◌, codes}
use Rattle.std.proofs.lemmas.Result.{err_from_is_err_and}
use Rattle.json_form.specs.Objects.{members_at, without}
use Rattle.document_forms.proofs.Parts.{words_given, words_fail}
use Rattle.document_forms.proofs.service.words_from.Goals as goal

pub returns-in_err-consistency-clause-read : goal.returns-in_err-consistency-clause-read
returns-in_err-consistency-clause-read c =
    let p = err_from_is_err_and c.from_residual-in_err-consistency.result c.from_residual-in_err-consistency.ensures.1 in
    rw (p.1, p.2) (words_fail (members_at c.args.members.now) (members_at c.optional.new.self) c.in_ok-failover.failover c.in_err-consistency.field-0.0 c.in_ok-failover.ensures.left c.in_ok-failover.ensures.read c.in_err-consistency.ensures.read)

pub returns-clause-read : goal.returns-clause-read
returns-clause-read c =
    words_given (members_at c.args.members.now) (members_at c.optional.new.self) c.in_ok-failover.failover c.in_ok-consistency.consistency c.in_ok-failover.ensures.left c.in_ok-failover.ensures.read c.in_ok-consistency.ensures.read

pub returns-clause-left : goal.returns-clause-left
returns-clause-left c = c.in_ok-consistency.ensures.left ∙ ap (without (codes "consistency")) c.in_ok-failover.ensures.left
