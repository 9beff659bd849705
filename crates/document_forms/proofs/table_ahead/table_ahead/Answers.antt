use Rattle.std.proofs.Common.{◌≡◌, [], Some, Ok, sym, ap, ◌∙◌, rules}
use Rattle.std.specs.Str.{bytes_eq}
use Rattle.std.specs.Option.{unwrap_or}
use Rattle.json.specs.Json.{parse_map}
use Rattle.serde_json.specs.Data.{object}
use Rattle.json_form.specs.meaning.Arrays.{is_key}
use Rattle.document_forms.specs.meaning.Tables.{table_of}
use Rattle.document_forms.proofs.TablesAhead.{made, table_joined}
use Rattle.document_forms.proofs.table_ahead.table_ahead.Goals as goal

pub returns-clause-begins : goal.returns-clause-begins
returns-clause-begins c =
    let ahead = c.in_ok-name.field-0 in
    let x = c.in_ok-name.ensures.read in
    let taken = is_key bytes_eq c.args.taken.now in
    let rest = c.members_ahead.new.tokens in
    let name = c.in_ok-name-2.field-0 in
    let columns = c.in_ok-columns.field-0 in
    let named : ahead.name ≡ Some name = search rules in
    let declared : ahead.columns ≡ Some columns = search rules in
    let rows : c.unwrap_or.result ≡ unwrap_or ahead.rows [] = search rules in
    let index : c.unwrap_or-2.result ≡ unwrap_or ahead.index [] = search rules in
    let read = table_joined taken x.0 ahead name columns x.2 named declared x.3 in
    ap (parse_map (table_of taken)) (c.in_ok-inside.ensures.object.1 ∙ ap (parse_map object) x.1) ∙ ap (λ table. Some (table, rest)) read
    ∙ ap (λ rs. Some (Ok (made name columns rs (unwrap_or ahead.index [])), rest)) (sym rows) ∙ ap (λ index. Some (Ok (made name columns c.unwrap_or.result index), rest)) (sym index)
