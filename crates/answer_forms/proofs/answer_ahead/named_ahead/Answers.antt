use Rattle.std.proofs.Common.{◌≡◌, Ok, codes, rules}
use Rattle.serde_json.specs.View.{view}
use Rattle.json_form.specs.Streams.{value_ahead}
use Rattle.svc_values.specs.declared.answer.Answer.TheVariants as answer
use Rattle.json_form.proofs.Offered.{begins_with}
use Rattle.call_forms.proofs.Offered.{begins_alike}
use Rattle.answer_forms.specs.meaning.Answers.{rows_in, answer_named}
use Rattle.answer_forms.proofs.AnswersAhead.{rows_named}
use Rattle.answer_forms.proofs.answer_ahead.named_ahead.Goals as goal

pub returns-then-eq-clause-begins : goal.returns-then-eq-clause-begins
returns-then-eq-clause-begins c =
    let same : c.args.name.now ≡ codes "rows" = search rules in
    let rows = c.in_ok-rows.rows in
    rw same (begins_alike rows_in (answer_named (codes "rows")) (value_ahead c.args.depth c.args.tokens.now) rows (answer.Rows rows) c.ahead.new.tokens (λ d h. rows_named d rows h) (search rules))

pub returns-clause-begins : goal.returns-clause-begins
returns-clause-begins c =
    let gives : answer_named c.args.name.now (view c.in_ok-inner.inner) ≡ Ok c.in_ok-one.one = search rules in
    begins_with (answer_named c.args.name.now) c.args.depth c.args.tokens.now c.value_from.new.tokens (view c.in_ok-inner.inner) c.in_ok-one.one (search rules) gives
