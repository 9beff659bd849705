use Rattle.std.proofs.Common.{◌≡◌, ◌≤◌, [], length, Some, Ok, sym, subst, ap, ◌∙◌}
use Rattle.json.specs.Json.{parse_map}
use Rattle.json_form.specs.meaning.Arrays.{each_after}
use Rattle.json_form.specs.Streams.{items_ahead}
use Rattle.answer_forms.specs.Beside.{items_told}
use Rattle.answer_forms.specs.meaning.Parts.{value_in}
use Rattle.answer_forms.proofs.KnownItems.{row_joined}
use Rattle.answer_forms.proofs.rows_ahead.RowReaderBesideReaderRow.beside.Goals as goal

pub returns-in-Same-clause-begins : goal.returns-in-Same-clause-begins
returns-in-Same-clause-begins c =
    let known = c.as_slice.result.now in
    let s = c.items_beside.new.tokens in
    let read = subst (λ b. parse_map (each_after (λ _. value_in) []) (items_ahead c.in_ok-inside.inside c.array_begins.new.tokens) ≡ Some (Ok (items_told (λ v. v.items) known b), s)) c.in-Same.is c.in_ok-items_beside.ensures.read in
    row_joined c.args.depth c.in_ok-inside.inside c.args.tokens.now c.array_begins.new.tokens s known c.in_ok-inside.ensures.array read c.as_slice.ensures.within ∙ ap (λ xs. Some (Ok xs, s)) c.as_slice.ensures.items

pub returns-in-Other-clause-begins : goal.returns-in-Other-clause-begins
returns-in-Other-clause-begins c =
    let known = c.as_slice.result.now in
    let s = c.items_beside.new.tokens in
    let others = c.in-Other.values.items in
    let read = subst (λ b. parse_map (each_after (λ _. value_in) []) (items_ahead c.in_ok-inside.inside c.array_begins.new.tokens) ≡ Some (Ok (items_told (λ v. v.items) known b), s)) c.in-Other.is c.in_ok-items_beside.ensures.read in
    let few = subst (λ b. length (items_told (λ v. v.items) known b) ≤ 8) c.in-Other.is c.in_ok-items_beside.ensures.count in
    row_joined c.args.depth c.in_ok-inside.inside c.args.tokens.now c.array_begins.new.tokens s others c.in_ok-inside.ensures.array read few ∙ ap (λ xs. Some (Ok xs, s)) (sym c.from_vec.ensures)
