use Rattle.std.proofs.Common.{List, ◌∷◌, ◌++◌, ap, ◌∙◌}
use Rattle.std.specs.List.{flat_map}
use Rattle.json.specs.Token.{Token, begin_array}
use Rattle.json_form.specs.Tokens.{tokens_of}
use Rattle.report_text.specs.Tokens.{ending}
use Rattle.report_text.specs.meaning.Calls.{statement_value, commit_values, call_value}
use Rattle.report_text.proofs.PartsWritten.{ahead, on_ok, items_ending}
use Rattle.report_text.proofs.call.work_written.Goals as goal

pub returns : goal.returns
unfolding call_value
returns c =
    let statements = c.args.statements.now in
    let commits : List Token = ending (commit_values c.args.commit) in
    let told : List Token = flat_map (λ one. tokens_of (statement_value one)) statements ++ commits in
    on_ok c.work_ended.result (λ last. last ∙ ahead _ _ commits c.in_ok-each.ensures ∙ ahead _ _ told c.in_ok-begin_array.ensures
    ∙ ap (λ (ts : List Token). c.args.out.now ++ begin_array ∷ ts) (items_ending statement_value statements (commit_values c.args.commit))) c.work_ended.ensures
