use Rattle.std.proofs.Common.{◌+◌, ◌∙◌, sym, ap, arith}
use Rattle.std.specs.Prelude.{Option}
use Rattle.std.proofs.lemmas.Bool.{eqb-true, eqb-false}
use Rattle.outage_schedule.specs.declared.note.AskResult.{AskResult}
use Rattle.run_clauses.specs.meaning.Outcomes.{is_told}
use Rattle.stored_check.proofs.ToldIn.{told_next, told_above, told_last, told_below, below_other, uncommitted_same}
use Rattle.stored_check.proofs.told.is_told_in.Goals as goal

pub returns-then-number-next : goal.returns-then-number-next
returns-then-number-next c =
    let answer = c.args.answer.now in
    c.is_uncommitted.ensures ∙ (uncommitted_same answer ∙ sym (ap (λ (o : Option AskResult). is_told o answer) (told_next c.args.next c.args.mark c.args.number c.if-number-next.true)))

pub returns-then-number-next-2 : goal.returns-then-number-next-2
returns-then-number-next-2 c =
    let answer = c.args.answer.now in
    c.says_client_ahead.ensures ∙ sym (ap (λ (o : Option AskResult). is_told o answer) (told_above c.args.next c.args.mark c.args.number c.if-number-next-2.true))

pub returns-then-is_last : goal.returns-then-is_last
returns-then-is_last c =
    let answer = c.args.answer.now in
    let last = eqb-true (c.args.number + 1) c.args.next (sym c.is_last.ensures ∙ c.if-is_last.true) in
    c.says_committed.ensures ∙ sym (ap (λ (o : Option AskResult). is_told o answer) (told_last c.args.next c.args.mark c.args.number last))

pub returns : goal.returns
returns c =
    let answer = c.args.answer.now in
    let other = eqb-false (c.args.number + 1) c.args.next (sym c.is_last.ensures ∙ c.if-is_last.false) in
    c.says_server_ahead.ensures ∙ sym (ap (λ (o : Option AskResult). is_told o answer) (told_below c.args.next c.args.mark c.args.number (below_other c.args.number c.args.next (omega (arith, c.if-number-next.false, c.if-number-next-2.false)) other)))
