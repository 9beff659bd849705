use Rattle.std.proofs.Common.{◌∙◌, ap, sym, arith}
use Rattle.std.specs.List.{filter}
use Rattle.std.specs.Prelude.{length}
use Rattle.std.proofs.lemmas.Bool.{eq-eqb, ne_eqb}
use Rattle.std.proofs.lemmas.List.Sums.{length-filter, count_by-le-length}
use Rattle.outage_schedule.specs.declared.request.ShownCall.{ShownCall}
use Rattle.entry_check.specs.Once.{is_end}
use Rattle.entry_check.proofs.Ends.{lists_counted}
use Rattle.entry_check.proofs.tried.HasListsJudgesRequest.fault.Goals as goal
use Rattle.std.proofs.Common.{List}

pub overflow_add-ended : goal.overflow_add-ended
overflow_add-ended c =
    let ended = c.ended_calls-ended.ensures in
    let counted = length-filter is_end c.as_slice.result.now in
    let few = count_by-le-length is_end c.as_slice.result.now in
    omega (arith, ended, counted, few)

pub returns-then-len-ended : goal.returns-then-len-ended
returns-then-len-ended c =
    sym (eq-eqb c.len.result _ c.if-len-ended.true)
    ∙ lists_counted c.args.request.now c.ended_calls-ended.result c.len.result (c.ended_calls-ended.ensures ∙ ap (λ (calls : List ShownCall). length (filter is_end calls)) c.as_slice.ensures) c.len.ensures

pub returns : goal.returns
returns c =
    sym (ne_eqb c.len.result _ c.if-len-ended.false)
    ∙ lists_counted c.args.request.now c.ended_calls-ended.result c.len.result (c.ended_calls-ended.ensures ∙ ap (λ (calls : List ShownCall). length (filter is_end calls)) c.as_slice.ensures) c.len.ensures
