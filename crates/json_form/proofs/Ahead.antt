-- Values, items and members one after the other, under the conversion to data.
use Rattle.std.proofs.Common.{◌≡◌, ℕ, zero, suc, ◌-◌, ◌<◌, ◌≤◌, ◌==◌, List, [], ◌∷◌, ◌++◌, length, nat_le, true, Option, Some, None, option_map, option_and_then, Result, Ok, Err, refl, sym, ap, ◌∙◌, eq-eqb, arith}
use Rattle.std.specs.Prelude.{if◌then◌else◌}
use Rattle.std.proofs.lemmas.Bool.{le-leb}
use Rattle.json.specs.Token.{Token}
use Rattle.json.specs.Json as json
use Rattle.json.specs.Json.{Parse, parse_map, after_end_array, read_key, items_step, items, members, value, if_last}
use Rattle.json.specs.Lex.{tokens}
use Rattle.json.proofs.Grammar.{left, items_end, items_more, members_end, members_more, value-begin_array, value-begin_object, value_is, closed_array, skip_value-shorter}
use Rattle.serde_json.specs.Data.{Data, array, string, object, Items, no_items, item, Members, no_members, put}
use Rattle.serde_json.specs.Events.{items_len}
use Rattle.serde_json.specs.Read.{of_json, of_items, of_members, converted, read as read_text, max_depth}
use Rattle.serde_json.specs.View.{view, items_view}
use Rattle.serde_json.specs.declared.value.Value.{Value}
use Rattle.json_form.specs.declared.fault.DocCode.TheVariants.{WrongKind}
use Rattle.json_form.specs.meaning.Faults.{Fault, ◌>>=◌, here, within_item}
use Rattle.json_form.specs.meaning.Arrays.{each_after, array_of, exact_of}
use Rattle.json_form.specs.Streams.{value_ahead, items_ahead, Begins}
use Rattle.json_form.proofs.Readings.{each_long}

abbrev or_else : {A : Type 0} → A → Option A → A
or_else x None = x
or_else x (Some y) = y

with_rest : {A B : Type 0} (a : A) (r s : List Token) (x : Option B) (b : B) → option_map {U = B × List Token} (λ y. (y, r)) x ≡ Some (b, s) → (r ≡ s) × (x ≡ Some b)
with_rest a r s None b e = absurd (cc)
with_rest a r s (Some y) b e = let same = ap (or_else (y, r)) e in (ap (λ p. p.1) same, ap (λ p. Some p.0) same)

-- what was converted was parsed
parsed : {A B : Type 0} (f : A → Option B) (o : Option (A × List Token)) (b : B) (r : List Token) → converted f o ≡ Some (b, r) → (a : A) × (o ≡ Some (a, r)) × (f a ≡ Some b)
parsed f None b r e = absurd (cc)
parsed f (Some p) b r e = let both = with_rest p.0 p.1 r (f p.0) b e in (p.0, ap (λ s. Some (p.0, s)) both.0, both.1)

under : {A B : Type 0} (g : A → B) (r : List Token) (x : Option A) → option_map (λ b. (b, r)) (option_map g x) ≡ parse_map g (option_map (λ a. (a, r)) x)
under g r None = refl
under g r (Some a) = refl

-- ---- what a bracket begins

as_array : (o : Option (json.Items × List Token)) → converted of_json (parse_map json.array o) ≡ parse_map array (converted of_items o)
as_array None = refl
as_array (Some p) = under array p.1 (of_items p.0)

pub array_ahead : (depth : ℕ) (ts : List Token) → 0 < depth → value_ahead depth (Token.begin_array ∷ ts) ≡ parse_map array (converted of_items (items (value (depth - 1)) (length ts) ts))
array_ahead depth ts some = ap (converted of_json) (value-begin_array depth ts some) ∙ as_array (items (value (depth - 1)) (length ts) ts)

as_object : (o : Option (json.Members × List Token)) → converted of_json (parse_map json.object o) ≡ parse_map object (converted (λ ms. of_members ms no_members) o)
as_object None = refl
as_object (Some p) = under object p.1 (of_members p.0 no_members)

pub object_ahead : (depth : ℕ) (ts : List Token) → 0 < depth → value_ahead depth (Token.begin_object ∷ ts) ≡ parse_map object (converted (λ ms. of_members ms no_members) (members (value (depth - 1)) (length ts) ts))
object_ahead depth ts some = ap (converted of_json) (value-begin_object depth ts some) ∙ as_object (members (value (depth - 1)) (length ts) ts)

-- ---- one more turn

with_item : (j : json.Json) (d : Data) → of_json j ≡ Some d → (o : Option (json.Items × List Token)) → converted of_items (parse_map (json.item j) o) ≡ parse_map (item d) (converted of_items o)
with_item j d e None = refl
with_item j d e (Some p) = rw e (under (item d) p.1 (of_items p.0))

with_member : (k : List ℕ) (j : json.Json) (d : Data) (old : Members) → of_json j ≡ Some d → (o : Option (json.Members × List Token))
    → converted (λ ms. of_members ms old) (parse_map (json.member k j) o) ≡ converted (λ ms. of_members ms (put k d old)) o
with_member k j d old e None = refl
with_member k j d old e (Some p) = rw e

module _ (p : Parse json.Json) where
  pub item_turn : (n : ℕ) (ts r : List Token) (d : Data) → 0 < n → after_end_array ts ≡ None → converted of_json (p ts) ≡ Some (d, r)
      → converted of_items (items p n ts) ≡ parse_map (item d) (converted of_items (items p (n - 1) r))
  item_turn n ts r d some going e = let j = parsed of_json (p ts) d r e in ap (converted of_items) (items_more p n ts r j.0 some going j.1) ∙ with_item j.0 d j.2 _

  pub items_over : (n : ℕ) (ts r : List Token) → length ts ≤ n → after_end_array ts ≡ Some r → converted of_items (items p n ts) ≡ Some (no_items, r)
  items_over n ts r enough e = ap (converted of_items) (items_end p n ts r enough e)

  module _ (old : Members) where
    pub member_turn : (n : ℕ) (k : List ℕ) (ts s r : List Token) (d : Data) → 0 < n → read_key ts ≡ Some (Some k, s) → converted of_json (p s) ≡ Some (d, r)
        → converted (λ ms. of_members ms old) (members p n ts) ≡ converted (λ ms. of_members ms (put k d old)) (members p (n - 1) r)
    member_turn n k ts s r d some key e =
        let j = parsed of_json (p s) d r e in
        ap (converted (λ ms. of_members ms old)) (members_more p n k ts s r j.0 some key j.1) ∙ with_member k j.0 d old j.2 _

    pub members_over : (n : ℕ) (ts r : List Token) → length ts ≤ n → read_key ts ≡ Some (None, r) → converted (λ ms. of_members ms old) (members p n ts) ≡ Some (old, r)
    members_over n ts r enough e = ap (converted (λ ms. of_members ms old)) (members_end p n ts r enough e)

-- ---- a list that grows at its end

abbrev pub items_before : List Value → Items → Items
items_before [] rest = rest
items_before (v ∷ vs) rest = item (view v) (items_before vs rest)

pub items_before-no_items : (vs : List Value) → items_before vs no_items ≡ items_view vs
items_before-no_items [] = refl
items_before-no_items (v ∷ vs) = ap (item (view v)) (items_before-no_items vs)

items_push : (vs : List Value) (v : Value) (rest : Items) → items_before vs (item (view v) rest) ≡ items_before (vs ++ v ∷ []) rest
items_push [] v rest = refl
items_push (w ∷ vs) v rest = ap (item (view w)) (items_push vs v rest)

pub one_more_item : (vs : List Value) (v : Value) (r : Option (Items × List Token)) → parse_map (items_before vs) (parse_map (item (view v)) r) ≡ parse_map (items_before (vs ++ v ∷ [])) r
one_more_item vs v None = refl
one_more_item vs v (Some p) = ap (λ ds. Some (ds, p.1)) (items_push vs v p.0)

pub none_before : (r : Option (Items × List Token)) → r ≡ parse_map (λ a. a) r
none_before None = refl
none_before (Some p) = refl

-- ---- each item read as soon as it was passed

module _ {A : Type 0} (read : List A → Data → Result A Fault) (found : List A) where
  with_one : (d : Data) (x : A) → within_item (length found) (read found d) ≡ Ok x → (o : Option (Items × List Token)) → parse_map (each_after read found) (parse_map (item d) o) ≡ parse_map (each_after read (found ++ x ∷ [])) o
  with_one d x e None = refl
  with_one d x e (Some p) = ap (λ (r : Result A Fault). Some (r >>= λ y. each_after read (found ++ y ∷ []) p.0, p.1)) e

  -- one more item was passed and read
  pub one_read : (p : Parse json.Json) (n : ℕ) (ts r : List Token) (d : Data) (x : A) → 0 < n → after_end_array ts ≡ None → converted of_json (p ts) ≡ Some (d, r) → within_item (length found) (read found d) ≡ Ok x
      → parse_map (each_after read found) (converted of_items (items p n ts)) ≡ parse_map (each_after read (found ++ x ∷ [])) (converted of_items (items p (n - 1) r))
  one_read p n ts r d x some going e one = ap (parse_map (each_after read found)) (item_turn p n ts r d some going e) ∙ with_one d x one (converted of_items (items p (n - 1) r))

  -- the bracket behind them was passed
  pub none_left : (p : Parse json.Json) (n : ℕ) (ts r : List Token) → length ts ≤ n → after_end_array ts ≡ Some r → parse_map (each_after read found) (converted of_items (items p n ts)) ≡ Some (Ok found, r)
  none_left p n ts r enough e = ap (parse_map (each_after read found)) (items_over p n ts r enough e)

few_read : {A : Type 0} (read : List A → Data → Result A Fault) (high : ℕ) (ds : Items) (xs : List A) → length xs ≤ high → each_after read [] ds ≡ Ok xs → array_of 0 high (each_after read []) (array ds) ≡ Ok xs
few_read read high ds xs few e =
    let long = each_long read [] ds xs e in
    let some : nat_le 0 (items_len ds) ≡ true = le-leb 0 (items_len ds) (omega arith) in
    let fits : nat_le (items_len ds) high ≡ true = le-leb (items_len ds) high (omega (arith, long)) in
    rw (some, fits) e

-- at most so many items were read, behind the bracket that begins their array
pub array_read : {A : Type 0} (read : List A → Data → Result A Fault) (high : ℕ) (o : Option (Items × List Token)) (xs : List A) (r : List Token) → length xs ≤ high → parse_map (each_after read []) o ≡ Some (Ok xs, r)
    → parse_map (array_of 0 high (each_after read [])) (parse_map array o) ≡ Some (Ok xs, r)
array_read read high None xs r few e = absurd (cc)
array_read read high (Some p) xs r few e =
    let same = ap (or_else (each_after read [] p.0, p.1)) e in
    ap (λ q. Some (q, p.1)) (few_read read high p.0 xs few (ap (λ q. q.0) same)) ∙ ap (λ s. Some (Ok xs, s)) (ap (λ q. q.1) same)

-- the value, or the items, that a reading began with
pub begun : {A D : Type 0} (f : D → Result A Fault) (o : Option (D × List Token)) (x : A) (r : List Token) → parse_map f o ≡ Some (Ok x, r) → (d : D) × (o ≡ Some (d, r)) × (f d ≡ Ok x)
begun f None x r e = absurd (cc)
begun f (Some p) x r e = let same = ap (or_else (f p.0, p.1)) e in (p.0, ap (λ s. Some (p.0, s)) (ap (λ q. q.1) same), ap (λ q. q.0) same)

-- exactly so many items were read, behind the bracket that begins their array
pub exact_read : {A : Type 0} (read : List A → Data → Result A Fault) (n : ℕ) (o : Option (Items × List Token)) (xs : List A) (r : List Token) → length xs ≡ n → parse_map (each_after read []) o ≡ Some (Ok xs, r)
    → parse_map (λ d. exact_of n d >>= each_after read []) (parse_map array o) ≡ Some (Ok xs, r)
exact_read read n None xs r long e = absurd (cc)
exact_read read n (Some p) xs r long e =
    let same = ap (or_else (each_after read [] p.0, p.1)) e in
    let gave : each_after read [] p.0 ≡ Ok xs = ap (λ q. q.0) same in
    let counted : (items_len p.0 == n) ≡ true = eq-eqb (items_len p.0) n (omega (arith, long, each_long read [] p.0 xs gave)) in
    ap (λ b. Some ((if b then Ok p.0 else Err (here WrongKind)) >>= each_after read [], p.1)) counted ∙ ap (λ q. Some (q, p.1)) gave ∙ ap (λ s. Some (Ok xs, s)) (ap (λ q. q.1) same)

-- ---- a few items, one after the other

pub string_ahead : (depth : ℕ) (word : List ℕ) (ts : List Token) → value_ahead depth (Token.string word ∷ ts) ≡ Some (string word, ts)
string_ahead depth word ts = ap (converted of_json) (value_is depth (Token.string word ∷ ts))

no_bracket : (depth : ℕ) (ts : List Token) (d : Data) (r : List Token) (o : Option (List Token)) → after_end_array ts ≡ o → value_ahead depth ts ≡ Some (d, r) → o ≡ None
no_bracket depth ts d r None e h = refl
no_bracket depth ts d r (Some s) e h =
    let never = sym h ∙ ap (value_ahead depth) (closed_array ts s e) ∙ ap (converted of_json) (value_is depth (Token.end_array ∷ s)) in
    absurd (cc)

module _ (more longer : Parse json.Items) (again : (ts : List Token) (js : json.Items) (r : List Token) → more ts ≡ Some (js, r) → longer ts ≡ Some (js, r)) (js : json.Items) (r : List Token) where
  tail_again : (j : json.Json) (ts : List Token) (o : Option (json.Items × List Token)) → more ts ≡ o → parse_map (json.item j) o ≡ Some (js, r) → parse_map (json.item j) (longer ts) ≡ Some (js, r)
  tail_again j ts None h e = absurd (cc)
  tail_again j ts (Some (ks, s)) h e = ap (parse_map (json.item j)) (again ts ks s h) ∙ e

  item_again : (o : Option (json.Json × List Token)) → option_and_then (λ q. parse_map (json.item q.0) (more q.1)) o ≡ Some (js, r) → option_and_then (λ q. parse_map (json.item q.0) (longer q.1)) o ≡ Some (js, r)
  item_again None e = absurd (cc)
  item_again (Some q) e = tail_again q.0 q.1 (more q.1) refl e

  turn_again : (p : Parse json.Json) (ts : List Token) (o : Option (List Token)) → items_step p more ts o ≡ Some (js, r) → items_step p longer ts o ≡ Some (js, r)
  turn_again p ts (Some s) e = e
  turn_again p ts None e = item_again (p ts) e

-- more turns change nothing
more_turns : (p : Parse json.Json) (m n : ℕ) → m ≤ n → (ts : List Token) (js : json.Items) (r : List Token) → items p m ts ≡ Some (js, r) → items p n ts ≡ Some (js, r)
unfolding items
more_turns p zero n few ts js r e = absurd (cc)
more_turns p (suc m) zero few ts js r e = let never : ⊥ = omega arith in absurd never
more_turns p (suc m) (suc n) few ts js r e = turn_again (items p m) (items p n) (more_turns p m n (omega arith)) js r p ts (after_end_array ts) e

-- one item, and those behind it
item_ahead : (depth : ℕ) (ts r rest : List Token) (d : Data) (ds : Items) → value_ahead depth ts ≡ Some (d, r) → items_ahead depth r ≡ Some (ds, rest) → items_ahead depth ts ≡ Some (item d ds, rest)
item_ahead depth ts r rest d ds e behind =
    let p = value depth in
    let one = parsed of_json (p ts) d r e in
    let less = skip_value-shorter depth ts r (ap left one.1) in
    let others = parsed of_items (items p (length r) r) ds rest behind in
    let longer = more_turns p (length r) (length ts - 1) (omega arith) r others.0 rest others.1 in
    item_turn p (length ts) ts r d (omega arith) (no_bracket depth ts d r (after_end_array ts) refl e) e
    ∙ ap (λ o. parse_map (item d) (converted of_items o)) longer ∙ ap (λ o. parse_map (item d) (option_map (λ es. (es, rest)) o)) others.2

pub bracket_ahead : (depth : ℕ) (ts rest : List Token) → after_end_array ts ≡ Some rest → items_ahead depth ts ≡ Some (no_items, rest)
bracket_ahead depth ts rest e = items_over (value depth) (length ts) ts rest (omega arith) e

-- one item that was read, and those behind it
pub read_ahead : {A : Type 0} (read : Data → Result A Fault) (depth : ℕ) (ts r rest : List Token) (x : A) (ds : Items) → Begins read depth ts x r → items_ahead depth r ≡ Some (ds, rest)
    → (d : Data) × (items_ahead depth ts ≡ Some (item d ds, rest)) × (read d ≡ Ok x)
read_ahead read depth ts r rest x ds begins more = let b = begun read (value_ahead depth ts) x r begins in (b.0, item_ahead depth ts r rest b.0 ds b.1 more, b.2)

-- a value that was passed and is read as this
pub begins_with : {A : Type 0} (read : Data → Result A Fault) (depth : ℕ) (ts r : List Token) (d : Data) (x : A) → value_ahead depth ts ≡ Some (d, r) → read d ≡ Ok x → Begins read depth ts x r
begins_with read depth ts r d x passed gives = ap (parse_map read) passed ∙ ap (λ q. Some (q, r)) gives

-- ---- the whole text

-- a value with no token behind it is what the text spells
pub whole_read : (text : List ℕ) (d : Data) → value_ahead max_depth (tokens text) ≡ Some (d, []) → read_text text ≡ Some d
whole_read text d e =
    let j = parsed of_json (value max_depth (tokens text)) d [] e in
    ap (λ o. option_and_then of_json (option_and_then (λ p. if_last p.0 p.1) o)) j.1 ∙ j.2
