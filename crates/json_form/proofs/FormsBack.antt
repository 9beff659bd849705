-- A value of the form, whose tokens are short, is read back from them.
use Rattle.std.proofs.Common.{◌≡◌, ℕ, zero, suc, ◌≤◌, List, [], ◌++◌, Option, Some, option_map, option_and_then, refl, sym, subst, ap, ◌∙◌, arith, append_assoc, append-nil}
use Rattle.json.specs.Token.{Token}
use Rattle.json.specs.Lex.{tokens}
use Rattle.json.specs.Json as json
use Rattle.json.specs.Tree.{json_tokens, items_tokens, members_tokens, depth, items_depth, members_depth}
use Rattle.json.proofs.Printed.Trees.{value-json_tokens}
use Rattle.serde_json.specs.Data.{Data, null, boolean, number, string, array, object, Items, no_items, item, Members, no_members, member, put}
use Rattle.serde_json.specs.Read.{number_of, of_json, of_items, of_members, max_depth, read}
use Rattle.serde_json.specs.Written.{number_text, outline, items_outline, members_outline}
use Rattle.json_form.specs.Forms.{IsForm, AreItems, AreMembers, put_each}
use Rattle.json_form.specs.Numbers.{AreShort}
use Rattle.json_form.specs.Tokens.{tokens_of}
use Rattle.json_form.proofs.ShortNumbers.{number_back, same_number}

mutual
  shallow : (d : Data) (deep : ℕ) → IsForm deep d → depth (outline d) ≤ deep
  shallow null deep form = omega arith
  shallow (boolean b) deep form = omega arith
  shallow (number n) deep form = omega arith
  shallow (string s) deep form = omega arith
  shallow (array ds) zero form = elim form [ ]
  shallow (array ds) (suc deep) form = omega (arith, shallow_items ds deep form)
  shallow (object ms) zero form = elim form [ ]
  shallow (object ms) (suc deep) form = omega (arith, shallow_members ms deep form.1)

  shallow_items : (ds : Items) (deep : ℕ) → AreItems deep ds → items_depth (items_outline ds) ≤ deep
  shallow_items no_items deep form = omega arith
  shallow_items (item d ds) deep form = omega (arith, shallow d deep form.0, shallow_items ds deep form.1)

  shallow_members : (ms : Members) (deep : ℕ) → AreMembers deep ms → members_depth (members_outline ms) ≤ deep
  shallow_members no_members deep form = omega arith
  shallow_members (member k d ms) deep form = omega (arith, shallow d deep form.0, shallow_members ms deep form.1)

-- what the tokens of a value say, and that those behind them are short too
mutual
  back : (d : Data) (deep : ℕ) (rest : List Token) → IsForm deep d → AreShort (json_tokens (outline d) ++ rest) → (of_json (outline d) ≡ Some d) × AreShort rest
  back null deep rest form short = (refl, short.1)
  back (boolean b) deep rest form short = (refl, short.1)
  back (number n) deep rest form short =
      let same = same_number n short.0.0 form short.0.1 short.0.2 in
      (ap (option_map number) (subst (λ m. number_of (number_text m) ≡ Some m) (sym same) (number_back short.0.0 short.0.1)), short.1)
  back (string s) deep rest form short = (refl, short.1)
  back (array ds) zero rest form short = elim form [ ]
  back (array ds) (suc deep) rest form short = let inside = back_items ds deep rest form short.1 in (ap (option_map array) inside.0, inside.1)
  back (object ms) zero rest form short = elim form [ ]
  back (object ms) (suc deep) rest form short =
      let inside = back_members ms no_members deep rest form.1 short.1 in
      (ap (option_map object) (inside.0 ∙ ap Some form.0), inside.1)

  back_items : (ds : Items) (deep : ℕ) (rest : List Token) → AreItems deep ds → AreShort (items_tokens (items_outline ds) ++ rest) → (of_items (items_outline ds) ≡ Some ds) × AreShort rest
  back_items no_items deep rest form short = (refl, short.1)
  back_items (item d ds) deep rest form short =
      let first = back d deep (items_tokens (items_outline ds) ++ rest) form.0 (subst AreShort (append_assoc (json_tokens (outline d)) (items_tokens (items_outline ds)) rest) short) in
      let others = back_items ds deep rest form.1 first.1 in
      (ap (option_and_then (λ e. option_map (item e) (of_items (items_outline ds)))) first.0 ∙ ap (option_map (item d)) others.0, others.1)

  back_members : (ms found : Members) (deep : ℕ) (rest : List Token) → AreMembers deep ms → AreShort (members_tokens (members_outline ms) ++ rest) → (of_members (members_outline ms) found ≡ Some (put_each found ms)) × AreShort rest
  back_members no_members found deep rest form short = (refl, short.1)
  back_members (member k d ms) found deep rest form short =
      let first = back d deep (members_tokens (members_outline ms) ++ rest) form.0 (subst AreShort (append_assoc (json_tokens (outline d)) (members_tokens (members_outline ms)) rest) short.1) in
      let others = back_members ms (put k d found) deep rest form.1 first.1 in
      (ap (option_and_then (λ e. of_members (members_outline ms) (put k e found))) first.0 ∙ others.0, others.1)

abbrev told : Option (json.Json × List Token) → Option Data
told read = option_and_then of_json (option_and_then (λ p. json.if_last p.0 p.1) read)

-- the bytes of these tokens are read as the value
pub form_back : (d : Data) (ts : List Token) (bytes : List ℕ) → IsForm max_depth d → AreShort ts → ts ≡ tokens_of d → tokens bytes ≡ ts → read bytes ≡ Some d
form_back d ts bytes form short same written =
    let all = sym (append-nil (tokens_of d)) in
    ap told (ap (json.value max_depth) (written ∙ same ∙ all) ∙ value-json_tokens (outline d) max_depth [] (shallow d max_depth form))
    ∙ (back d max_depth [] form (subst AreShort (same ∙ all) short)).0
