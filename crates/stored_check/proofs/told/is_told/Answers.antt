use Rattle.std.proofs.Common.{◌∙◌, sym, ap}
use Rattle.std.specs.Prelude.{Option}
use Rattle.outage_schedule.specs.declared.note.AskResult.{AskResult}
use Rattle.run_clauses.specs.meaning.Outcomes.{is_told}
use Rattle.stored_check.proofs.ToldIn.{outcome_forgotten, outcome_kept, forgotten_same}
use Rattle.stored_check.proofs.told.is_told.Goals as goal

pub returns-then-is_below : goal.returns-then-is_below
returns-then-is_below c =
    let answer = c.args.answer.now in
    c.says_forgotten.ensures
    ∙ (forgotten_same answer c.args.horizon
    ∙ sym (ap (λ (o : Option AskResult). is_told o answer) (outcome_forgotten c.args.horizon c.args.next c.args.mark c.args.ltxid.now (sym c.is_below.ensures ∙ c.if-is_below.true))))

pub returns : goal.returns
returns c =
    let answer = c.args.answer.now in
    c.is_told_in.ensures ∙ sym (ap (λ (o : Option AskResult). is_told o answer) (outcome_kept c.args.horizon c.args.next c.args.mark c.args.ltxid.now (sym c.is_below.ensures ∙ c.if-is_below.false)))
