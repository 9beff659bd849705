use Rattle.std.proofs.Common.{List, [], ◌∷◌, ◌++◌, codes, ◌∙◌}
use Rattle.json.specs.Token.{Token, end_object, key}
use Rattle.json_form.specs.Tokens.{tokens_of}
use Rattle.json_form.specs.meaning.Writing.{flag, list_by}
use Rattle.report_text.specs.meaning.Values.{identifier_value, settings_value}
use Rattle.report_text.specs.meaning.Entries.{piece_value, entry_value}
use Rattle.report_text.proofs.PartsWritten.{ahead, on_ok}
use Rattle.report_text.proofs.entry.EntryWriterWriterEntry.write.Goals as goal

pub returns : goal.returns
unfolding entry_value
returns c =
    let entry = c.args.item.now in
    let end : List Token = end_object ∷ [] in
    let settings : List Token = tokens_of (settings_value entry.settings) ++ end in
    let from_settings : List Token = key (codes "settings") ∷ settings in
    let pieces : List Token = key (codes "pieces") ∷ (tokens_of (list_by piece_value entry.pieces) ++ from_settings) in
    let ltxid : List Token = tokens_of (identifier_value entry.ltxid) ++ pieces in
    let from_ltxid : List Token = key (codes "ltxid") ∷ ltxid in
    let completed : List Token = tokens_of (flag entry.completed) ++ from_ltxid in
    let from_completed : List Token = key (codes "completed") ∷ completed in
    on_ok c.end_object.result (λ last. last ∙ ahead _ _ end c.in_ok-settings_written.ensures ∙ ahead _ _ settings c.in_ok-name-3.ensures ∙ ahead _ _ from_settings c.in_ok-list_member.ensures ∙ ahead _ _ pieces c.in_ok-write.ensures
    ∙ ahead _ _ ltxid c.in_ok-name-2.ensures ∙ ahead _ _ from_ltxid c.in_ok-flag.ensures ∙ ahead _ _ completed c.in_ok-name.ensures ∙ ahead _ _ from_completed c.in_ok-begin_object.ensures) c.end_object.ensures
