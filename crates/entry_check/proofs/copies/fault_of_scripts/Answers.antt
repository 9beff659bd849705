use Rattle.std.proofs.Common.{◌∙◌, ◌&&◌, ◌+◌, sym, ap, drop}
use Rattle.std.specs.Prelude.{is_none}
use Rattle.std.specs.List.{list_all}
use Rattle.run_clauses.specs.meaning.Copies.{copies_by_client}
use Rattle.entry_check.proofs.CopiesCut.{clients_step}
use Rattle.entry_check.proofs.OnceLaw.{none_of, some_of}
use Rattle.entry_check.proofs.copies.fault_of_scripts.Goals as goal

pub returns-then-is_some : goal.returns-then-is_some
returns-then-is_some g c =
    let test = g.J.JudgesCopies.test c.args.judge.now in
    let clients = c.args.clients.now in
    let transcripts = c.args.transcripts.now in
    let step = clients_step test clients transcripts c.loop-place.place c.index-clients-place.result c.loop-place-test.true c.index-clients-place.is c.as_slice-script.result.now c.as_slice-script.ensures c.reports_at-reports.result.now c.reports_at-reports.ensures in
    let later = list_all (list_all test) (copies_by_client (drop (c.loop-place.place + 1) clients) (drop (c.loop-place.place + 1) transcripts)) in
    let some = some_of c.in_ok-fault.fault (sym c.is_some.ensures ∙ c.if-is_some.true) in
    let wrong = sym some ∙ c.in_ok-fault.ensures in
    some ∙ ap (λ b. b && later) wrong ∙ sym step ∙ c.loop-place.invariant

pub loop-place-preserved : goal.loop-place-preserved
loop-place-preserved g c =
    let test = g.J.JudgesCopies.test c.args.judge.now in
    let clients = c.args.clients.now in
    let transcripts = c.args.transcripts.now in
    let step = clients_step test clients transcripts c.loop-place.place c.index-clients-place.result c.loop-place-test.true c.index-clients-place.is c.as_slice-script.result.now c.as_slice-script.ensures c.reports_at-reports.result.now c.reports_at-reports.ensures in
    let later = list_all (list_all test) (copies_by_client (drop (c.loop-place.place + 1) clients) (drop (c.loop-place.place + 1) transcripts)) in
    let none = none_of c.in_ok-fault.fault (sym c.is_some.ensures ∙ c.if-is_some.false) in
    let right = sym (ap is_none none) ∙ c.in_ok-fault.ensures in
    ap (λ b. b && later) right ∙ sym step ∙ c.loop-place.invariant
