use Rattle.std.proofs.Common.{◌≡◌, ◌-◌, ◌<◌, [], ◌∷◌, ◌++◌, length, Some, None, string_bytes, string_cmp, sym, ap, ◌∙◌, arith, rules}
use Rattle.std.specs.BTreeMap.{insert_entry}
use Rattle.json.specs.Token.{Token}
use Rattle.json.specs.Json.{parse_map, after_end_array, read_key, items, members, value}
use Rattle.json.specs.Reads.{token_of}
use Rattle.json.proofs.Grammar.{value_is, read_key-shorter}
use Rattle.serde_json.specs.Data.{null, boolean, number, string, array, object, put}
use Rattle.serde_json.specs.Read.{of_json, of_items, of_members, converted}
use Rattle.serde_json.specs.View.{view, number_view, members_view}
use Rattle.serde_json.specs.declared.value.Value.{String, Number, Bool, Null, the_lemmas}
use Rattle.serde_json.proofs.Views.{view-Array, view-Object, members_view-insert_entry}
use Rattle.json_form.specs.Streams.{value_ahead}
use Rattle.json_form.proofs.Ahead.{array_ahead, object_ahead, item_turn, items_over, member_turn, members_over, items_before, items_before-no_items, one_more_item, none_before}
use Rattle.json_form.proofs.stream.+ahead.Goals as goal

pub value_from-returns-in_ok-ok-in-String-clause-read : goal.value_from-returns-in_ok-ok-in-String-clause-read
value_from-returns-in_ok-ok-in-String-clause-read t c =
    let first : c.args.tokens.now ≡ token_of c.in_ok-token.token ∷ c.next.new.self = grind arith in
    let is : c.args.tokens.now ≡ Token.string c.in-String.text.now ∷ c.next.new.self = grind (arith, first) in
    let seen : view (String c.in_ok-ok-in-String.field-0) ≡ string c.in-String.text.now = search (rules, the_lemmas) in
    ap (converted of_json) (ap (value c.args.depth) is ∙ value_is c.args.depth _) ∙ ap (λ d. Some (d, c.next.new.self)) (sym seen)

pub value_from-returns-in-Bool-clause-read : goal.value_from-returns-in-Bool-clause-read
value_from-returns-in-Bool-clause-read t c =
    let first : c.args.tokens.now ≡ token_of c.in_ok-token.token ∷ c.next.new.self = grind arith in
    let is : c.args.tokens.now ≡ Token.boolean c.in-Bool.flag ∷ c.next.new.self = grind (arith, first) in
    let seen : view (Bool c.in-Bool.flag) ≡ boolean c.in-Bool.flag = search (rules, the_lemmas) in
    ap (converted of_json) (ap (value c.args.depth) is ∙ value_is c.args.depth _) ∙ ap (λ d. Some (d, c.next.new.self)) (sym seen)

pub value_from-returns-in-Null-clause-read : goal.value_from-returns-in-Null-clause-read
value_from-returns-in-Null-clause-read t c =
    let first : c.args.tokens.now ≡ token_of c.in_ok-token.token ∷ c.next.new.self = grind arith in
    let is : c.args.tokens.now ≡ Token.null ∷ c.next.new.self = grind (arith, first) in
    let seen : view (Null) ≡ null = search (rules, the_lemmas) in
    ap (converted of_json) (ap (value c.args.depth) is ∙ value_is c.args.depth _) ∙ ap (λ d. Some (d, c.next.new.self)) (sym seen)

pub value_from-returns-in_ok-number_in-in-Number-clause-read : goal.value_from-returns-in_ok-number_in-in-Number-clause-read
value_from-returns-in_ok-number_in-in-Number-clause-read t c =
    let first : c.args.tokens.now ≡ token_of c.in_ok-token.token ∷ c.next.new.self = grind arith in
    let is : c.args.tokens.now ≡ Token.number c.in-Number.text.now ∷ c.next.new.self = grind (arith, first) in
    let seen : view (Number c.in_ok-number_in-in-Number.field-0) ≡ number (number_view c.in_ok-number_in-in-Number.field-0) = search (rules, the_lemmas) in
    ap (converted of_json) (ap (value c.args.depth) is ∙ value_is c.args.depth _) ∙ rw (c.in_ok-number_in-in-Number.ensures, seen)

pub value_from-returns-in_ok-items_from-in-BeginArray-clause-read : goal.value_from-returns-in_ok-items_from-in-BeginArray-clause-read
value_from-returns-in_ok-items_from-in-BeginArray-clause-read t c =
    let first : c.args.tokens.now ≡ token_of c.in_ok-token.token ∷ c.next.new.self = grind arith in
    let opened = ap (value_ahead c.args.depth) (first ∙ ap (λ k. token_of k ∷ c.next.new.self) c.in-BeginArray.is) ∙ array_ahead c.args.depth c.next.new.self (omega arith) in
    let found = c.in_ok-items_from-in-BeginArray in
    opened ∙ ap (parse_map array) found.ensures.read ∙ ap (λ d. Some (d, c.items_from.new.tokens)) (sym (view-Array found.field-0))

pub value_from-returns-in-BeginObject-clause-read : goal.value_from-returns-in-BeginObject-clause-read
value_from-returns-in-BeginObject-clause-read t c =
    let first : c.args.tokens.now ≡ token_of c.in_ok-token.token ∷ c.next.new.self = grind arith in
    let opened : Token.begin_object ∷ c.next.new.self ≡ c.args.tokens.now = sym (first ∙ ap (λ k. token_of k ∷ c.next.new.self) c.in-BeginObject.is) in
    rw (← opened) c.object_from.ensures.read

pub object_from-returns-clause-read : goal.object_from-returns-clause-read
object_from-returns-clause-read t c =
    let found = c.in_ok-members_from in
    object_ahead c.args.depth c.args.tokens.now (omega arith) ∙ ap (parse_map object) found.ensures.read ∙ ap (λ d. Some (d, c.members_from.new.tokens)) (sym (view-Object found.field-0))

pub items_from-items-init : goal.items_from-items-init
items_from-items-init t c =
    let all = converted of_items (items (value c.args.depth) (length c.args.tokens.now) c.args.tokens.now) in
    (length c.args.tokens.now, omega arith, none_before all ∙ ap (λ vs. parse_map (items_before vs) all) (sym c.new-found.ensures.items), omega arith)

pub items_from-items-preserved : goal.items_from-items-preserved
items_from-items-preserved t c =
    let p = value c.args.depth in
    let l = c.items in
    let n = l.invariant.0 in
    let going : (after_end_array l.tokens ≡ None) × (c.take_end_array.new.self ≡ l.tokens) = grind arith in
    let done = c.in_ok-item.ensures in
    let v = c.in_ok-item.item in
    let r = c.value_from.new.tokens in
    let less : length r < length l.tokens = rw (← going.1) done.shorter in
    let grown : c.push.new.self.items ≡ l.found.items ++ v ∷ [] = search rules in
    let turn = item_turn p n l.tokens r (view v) (omega (arith, l.invariant.1)) going.0 (rw (← going.1) done.read) in (
      n - 1,
      omega (arith, l.invariant.1),
      l.invariant.2 ∙ ap (parse_map (items_before l.found.items)) turn ∙ one_more_item l.found.items v _
          ∙ ap (λ vs. parse_map (items_before vs) (converted of_items (items p (n - 1) r))) (sym grown),
      omega (arith, l.invariant.3),
    )

pub items_from-returns-clause-read : goal.items_from-returns-clause-read
items_from-returns-clause-read t c =
    let p = value c.args.depth in
    let l = c.items in
    let n = l.invariant.0 in
    let r = c.take_end_array.new.self in
    l.invariant.2 ∙ ap (parse_map (items_before l.found.items)) (items_over p n l.tokens r l.invariant.1 (grind arith)) ∙ ap (λ ds. Some (ds, r)) (items_before-no_items l.found.items)

pub members_from-members-init : goal.members_from-members-init
members_from-members-init t c =
    let all = members (value c.args.depth) (length c.args.tokens.now) c.args.tokens.now in
    (length c.args.tokens.now, omega arith, ap (λ es. converted (λ ms. of_members ms (members_view es)) all) (sym c.new-found.ensures.empty), omega arith)

pub members_from-members-preserved : goal.members_from-members-preserved
members_from-members-preserved t c =
    let p = value c.args.depth in
    let l = c.members in
    let n = l.invariant.0 in
    let old = members_view l.found.entries in
    let k = c.in-Some.name.now in
    let s = c.next_key.new.self in
    let named : read_key l.tokens ≡ Some (Some k, s) = grind arith in
    let done = c.in_ok-member.ensures in
    let v = c.in_ok-member.member in
    let r = c.value_from.new.tokens in
    let less = read_key-shorter l.tokens (Some k) s named in
    let lesser = done.shorter in
    let copied : string_bytes c.in_ok-key.key ≡ k = search rules in
    let entries : c.insert.new.self.entries ≡ insert_entry string_cmp l.found.entries c.in_ok-key.key v = search rules in
    let inserted : members_view c.insert.new.self.entries ≡ put k (view v) old =
    ap members_view entries ∙ members_view-insert_entry l.found.entries c.in_ok-key.key v ∙ ap (λ name. put name (view v) old) copied in (
      n - 1,
      omega (arith, l.invariant.1),
      l.invariant.2 ∙ member_turn p old n k l.tokens s r (view v) (omega (arith, l.invariant.1)) named done.read
          ∙ ap (λ found. converted (λ ms. of_members ms found) (members p (n - 1) r)) (sym inserted),
      omega (arith, l.invariant.3),
    )

pub members_from-returns-clause-read : goal.members_from-returns-clause-read
members_from-returns-clause-read t c =
    let p = value c.args.depth in
    let l = c.members in
    let n = l.invariant.0 in
    let old = members_view l.found.entries in
    l.invariant.2 ∙ members_over p old n l.tokens c.next_key.new.self l.invariant.1 (grind arith)
