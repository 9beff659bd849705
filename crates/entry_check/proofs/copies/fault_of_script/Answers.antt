use Rattle.std.proofs.Common.{◌∙◌, ◌&&◌, ◌+◌, List, sym, ap, arith, take, drop, length}
use Rattle.std.specs.Prelude.{is_none}
use Rattle.std.specs.List.{list_all}
use Rattle.std.proofs.Common.{length-drop}
use Rattle.run_clauses.specs.meaning.Copies.{copies_of}
use Rattle.outage_schedule.specs.declared.request.RequestReport.{RequestReport}
use Rattle.entry_check.specs.Copying.{copies_len}
use Rattle.entry_check.proofs.CopiesCut.{script_step}
use Rattle.entry_check.proofs.copies.fault_of_script.Goals as goal

pub returns-in-Some : goal.returns-in-Some
returns-in-Some g c =
    let test = g.J.JudgesCopies.test c.args.judge.now in
    let script = c.args.script.now in
    let reports = c.args.reports.now in
    let step = script_step test script reports c.loop-request.request-index c.loop-request.from c.copies_len-count.result c.request-item.result c.loop-request-test.true c.request-item.is (c.copies_len-count.ensures.is ∙ ap (copies_len c.request-item.result.again) c.behind-rest.ensures) in
    let later = list_all test (copies_of (drop (c.loop-request.request-index + 1) script) (drop (c.loop-request.from + c.copies_len-count.result) reports)) in
    let wrong = sym (ap is_none c.in-Some.is) ∙ c.in_ok-fault.ensures ∙ ap (λ (now : List RequestReport). test (record { request = c.request-item.result; reports = now })) (c.front.ensures ∙ ap (take c.copies_len-count.result) c.behind-rest.ensures) in
    ap (λ b. b && later) wrong ∙ sym step ∙ c.loop-request.invariant.rest

pub loop-request-preserved : goal.loop-request-preserved
loop-request-preserved g c =
    let test = g.J.JudgesCopies.test c.args.judge.now in
    let script = c.args.script.now in
    let reports = c.args.reports.now in
    let step = script_step test script reports c.loop-request.request-index c.loop-request.from c.copies_len-count.result c.request-item.result c.loop-request-test.true c.request-item.is (c.copies_len-count.ensures.is ∙ ap (copies_len c.request-item.result.again) c.behind-rest.ensures) in
    let later = list_all test (copies_of (drop (c.loop-request.request-index + 1) script) (drop (c.loop-request.from + c.copies_len-count.result) reports)) in
    let right = sym (ap is_none c.in-None.is) ∙ c.in_ok-fault.ensures ∙ ap (λ (now : List RequestReport). test (record { request = c.request-item.result; reports = now })) (c.front.ensures ∙ ap (take c.copies_len-count.result) c.behind-rest.ensures) in
    let count = c.copies_len-count.ensures.within in
    let long = ap (λ (rest : List RequestReport). length rest) c.behind-rest.ensures in
    let left = length-drop c.loop-request.from reports in
    let from = c.loop-request.invariant.within in
    record { rest = ap (λ b. b && later) right ∙ sym step ∙ c.loop-request.invariant.rest; within = omega (arith, count, long, left, from) }
