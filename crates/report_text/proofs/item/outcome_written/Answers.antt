use Rattle.std.proofs.Common.{List, ◌++◌, ◌∙◌}
use Rattle.json.specs.Token.{Token}
use Rattle.json_form.specs.Tokens.{tokens_of}
use Rattle.report_text.specs.Tokens.{ending}
use Rattle.report_text.specs.meaning.Values.{identifier_value}
use Rattle.report_text.specs.meaning.Notes.{told_values}
use Rattle.report_text.specs.meaning.Items.{item_value}
use Rattle.report_text.proofs.PartsWritten.{ahead, on_ok}
use Rattle.report_text.proofs.item.outcome_written.Goals as goal

pub returns : goal.returns
unfolding item_value
returns c =
    let told : List Token = ending (told_values c.args.told) in
    let ltxid : List Token = tokens_of (identifier_value c.args.ltxid.now) ++ told in
    on_ok c.told_ended.result (λ last. last ∙ ahead _ _ told c.in_ok-write.ensures ∙ ahead _ _ ltxid c.in_ok-begin_item.ensures) c.told_ended.ensures
