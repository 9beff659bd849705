use Rattle.std.proofs.Common.{◌≡◌, ◌≤◌, [], ◌∷◌, length, take, None, Some, Ok, sym, subst, ap, ◌∙◌, arith, rules}
use Rattle.json.specs.Json.{parse_map, after_end_array}
use Rattle.json_form.specs.meaning.Arrays.{each_after}
use Rattle.json_form.specs.Streams.{items_ahead, Begins}
use Rattle.answer_forms.specs.Beside.{items_told}
use Rattle.answer_forms.specs.meaning.Parts.{row_in}
use Rattle.answer_forms.proofs.KnownItems.{no_rows, rows_joined}
use Rattle.answer_forms.proofs.rows_ahead.rows_ahead.Goals as goal

pub returns-then-take_end_array-clause-begins : goal.returns-then-take_end_array-clause-begins
returns-then-take_end_array-clause-begins c =
    let r = c.take_end_array.new.self in
    let ends : after_end_array c.array_begins.new.tokens ≡ Some r = grind arith in
    let same : c.in_ok-none.none ≡ [] = search rules in
    no_rows c.args.depth c.in_ok-inside.inside c.args.tokens.now c.array_begins.new.tokens r c.in_ok-inside.ensures.array ends ∙ ap (λ xs. Some (Ok xs, r)) (sym same)

pub returns-in_default-clause-begins : goal.returns-in_default-clause-begins
returns-in_default-clause-begins c =
    let inside = c.in_ok-inside.inside in
    let begin = c.array_begins.new.tokens in
    let first = c.in_ok-first.first in
    let r = c.ahead.new.tokens in
    let s = c.rest_ahead.new.tokens in
    let all = c.in_ok-unknown.unknown.items in
    let going : (after_end_array begin ≡ None) × (c.take_end_array.new.self ≡ begin) = grind arith in
    let begins : Begins row_in inside begin first r = rw (← going.1) c.in_ok-first.ensures.begins in
    let one : c.in_ok-found.found.items ≡ first ∷ [] = search rules in
    let behind = subst (λ before. parse_map (each_after (λ _. row_in) before) (items_ahead inside r) ≡ Some (Ok all, s)) one c.in_ok-unknown.ensures.read in
    let same : c.in_ok-rows.rows ≡ all = search rules in
    rows_joined c.args.depth inside c.args.tokens.now begin r s first all c.in_ok-inside.ensures.array begins behind c.in_ok-unknown.ensures.count ∙ ap (λ xs. Some (Ok xs, s)) (sym same)

pub returns-in-Same-clause-begins : goal.returns-in-Same-clause-begins
returns-in-Same-clause-begins c =
    let inside = c.in_ok-inside.inside in
    let begin = c.array_begins.new.tokens in
    let first = c.in_ok-first.first in
    let r = c.ahead.new.tokens in
    let s = c.items_beside.new.tokens in
    let known = c.as_slice.result.now in
    let going : (after_end_array begin ≡ None) × (c.take_end_array.new.self ≡ begin) = grind arith in
    let begins : Begins row_in inside begin first r = rw (← going.1) c.in_ok-first.ensures.begins in
    let told = subst (λ b. parse_map (each_after (λ _. row_in) (take 1 known)) (items_ahead inside r) ≡ Some (Ok (items_told (λ v. v.items) known b), s)) c.in-Same.is c.in_ok-items_beside.ensures.read in
    let one : take 1 known ≡ first ∷ [] = ap (take 1) c.as_slice.ensures.items ∙ c.in-Some.ensures in
    let behind = subst (λ before. parse_map (each_after (λ _. row_in) before) (items_ahead inside r) ≡ Some (Ok known, s)) one told in
    let same : c.in_ok-same-in-Same.same ≡ known = search rules in
    rows_joined c.args.depth inside c.args.tokens.now begin r s first known c.in_ok-inside.ensures.array begins behind c.as_slice.ensures.within ∙ ap (λ xs. Some (Ok xs, s)) (sym same)

pub returns-clause-begins : goal.returns-clause-begins
returns-clause-begins c =
    let inside = c.in_ok-inside.inside in
    let begin = c.array_begins.new.tokens in
    let first = c.in_ok-first.first in
    let r = c.ahead.new.tokens in
    let s = c.items_beside.new.tokens in
    let known = c.as_slice.result.now in
    let others = c.in-Other.others.items in
    let going : (after_end_array begin ≡ None) × (c.take_end_array.new.self ≡ begin) = grind arith in
    let begins : Begins row_in inside begin first r = rw (← going.1) c.in_ok-first.ensures.begins in
    let told = subst (λ b. parse_map (each_after (λ _. row_in) (take 1 known)) (items_ahead inside r) ≡ Some (Ok (items_told (λ v. v.items) known b), s)) c.in-Other.is c.in_ok-items_beside.ensures.read in
    let few = subst (λ b. length (items_told (λ v. v.items) known b) ≤ 32) c.in-Other.is c.in_ok-items_beside.ensures.count in
    let one : take 1 known ≡ first ∷ [] = ap (take 1) c.as_slice.ensures.items ∙ c.in-Some.ensures in
    let behind = subst (λ before. parse_map (each_after (λ _. row_in) before) (items_ahead inside r) ≡ Some (Ok others, s)) one told in
    let same : c.once.result ≡ others = search rules in
    rows_joined c.args.depth inside c.args.tokens.now begin r s first others c.in_ok-inside.ensures.array begins behind few ∙ ap (λ xs. Some (Ok xs, s)) (sym same)
