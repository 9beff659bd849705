use Rattle.std.proofs.Common.{List, [], ◌∷◌, ◌++◌, ◌∙◌}
use Rattle.json.specs.Token.{Token, end_array}
use Rattle.json_form.specs.Tokens.{tokens_of}
use Rattle.json_form.specs.meaning.Writing.{whole}
use Rattle.report_text.specs.meaning.Failures.{reason_value, failure_value}
use Rattle.report_text.proofs.PartsWritten.{ahead, on_ok}
use Rattle.report_text.proofs.failure.disabled_written.Goals as goal

pub returns : goal.returns
unfolding failure_value
returns c =
    let end : List Token = end_array ∷ [] in
    let event : List Token = tokens_of (whole c.args.event) ++ end in
    let why : List Token = tokens_of (reason_value c.args.why) ++ event in
    on_ok c.end_array.result (λ last. last ∙ ahead _ _ end c.in_ok-whole.ensures ∙ ahead _ _ event c.in_ok-reason_written.ensures ∙ ahead _ _ why c.in_ok-begin_word.ensures) c.end_array.ensures
