use Rattle.std.proofs.Common.{List, [], ◌∷◌, ◌++◌, ◌∙◌}
use Rattle.json.specs.Token.{Token, end_array}
use Rattle.json_form.specs.Tokens.{tokens_of}
use Rattle.report_text.specs.meaning.Values.{identifier_value}
use Rattle.report_text.specs.meaning.Items.{item_value}
use Rattle.report_text.proofs.PartsWritten.{ahead, on_ok}
use Rattle.report_text.proofs.item.crashed_outcome_written.Goals as goal

pub returns : goal.returns
unfolding item_value
returns c =
    let end : List Token = end_array ∷ [] in
    let ltxid : List Token = tokens_of (identifier_value c.args.ltxid.now) ++ end in
    on_ok c.end_array.result (λ last. last ∙ ahead _ _ end c.in_ok-write.ensures ∙ ahead _ _ ltxid c.in_ok-begin_item.ensures) c.end_array.ensures
