use Rattle.std.proofs.Common.{List, [], ◌∷◌, ◌++◌, ◌∙◌}
use Rattle.json.specs.Token.{Token, end_array}
use Rattle.json_form.specs.Tokens.{tokens_of}
use Rattle.json_form.specs.meaning.Writing.{whole}
use Rattle.report_text.specs.meaning.Values.{digits}
use Rattle.report_text.specs.meaning.Failures.{failure_value}
use Rattle.report_text.proofs.PartsWritten.{ahead, on_ok}
use Rattle.report_text.proofs.failure.mismatch_written.Goals as goal

pub returns : goal.returns
unfolding failure_value
returns c =
    let end : List Token = end_array ∷ [] in
    let now : List Token = tokens_of (digits c.args.now.now) ++ end in
    let seen : List Token = tokens_of (digits c.args.seen.now) ++ now in
    let call : List Token = tokens_of (whole c.args.call) ++ seen in
    on_ok c.end_array.result (λ last. last ∙ ahead _ _ end c.in_ok-octets-2.ensures ∙ ahead _ _ now c.in_ok-octets.ensures ∙ ahead _ _ seen c.in_ok-whole.ensures ∙ ahead _ _ call c.in_ok-begin_word.ensures) c.end_array.ensures
