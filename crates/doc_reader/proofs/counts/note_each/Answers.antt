use Rattle.std.proofs.Common.{List, ℕ, Result, subst, ◌∙◌}
use Rattle.std.proofs.lemmas.Result.{err_from_is_err_and}
use Rattle.json_form.specs.meaning.Faults.{Fault}
use Rattle.json_form.specs.Faults.{Fails}
use Rattle.doc_reader.proofs.Naming.{next_noted, fault_noted}
use Rattle.doc_reader.proofs.counts.note_each.Goals as goal

pub loop-item-preserved : goal.loop-item-preserved
loop-item-preserved g c =
    next_noted g.T.Naming.names c.args.items.now c.loop-item.item-index c.item-item.result c.loop-item.names c.in_ok-names.names c.loop-item-test.true c.item-item.is c.in_ok-names.ensures ∙ c.loop-item.invariant

pub returns-in_err-names : goal.returns-in_err-names
returns-in_err-names g c =
    let p = err_from_is_err_and c.from_residual.result c.from_residual.ensures.1 in
    let e = c.in_err-names.field-0.0 in
    rw (p.1, p.2) (subst (λ (read : Result (List (List ℕ)) Fault). Fails e read) c.loop-item.invariant
    (fault_noted g.T.Naming.names c.args.items.now c.loop-item.item-index c.item-item.result c.loop-item.names e c.loop-item-test.true c.item-item.is c.in_err-names.ensures))
