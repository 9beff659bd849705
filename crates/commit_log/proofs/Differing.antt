-- Keys and names that stand once.
use Rattle.std.proofs.Common.{◌≡◌, ℕ, List, [], ◌∷◌, map, Bool, true, false, not, ◌&&◌, ◌||◌, refl, sym, ap, ◌∙◌}
use Rattle.std.proofs.Math.Path.{fun_ext}
use Rattle.std.specs.List.{list_any}
use Rattle.std.specs.Str.{bytes_eq}
use Rattle.svc_values.specs.declared.value.Value.{Value}
use Rattle.svc_values.specs.declared.value.Value.TheVariants as value
use Rattle.svc_values.specs.declared.schema.Column.{Column}
use Rattle.svc_values.specs.contracts.value.ValuePartialEq.TheImpl.{eq-value}
use Rattle.svc_values.specs.meaning.Kinds.{has_column, have_distinct_names}
use Rattle.svc_values.specs.meaning.Same.{same_value}
use Rattle.svc_values.specs.meaning.Names.{is_name_of, names_differ}
use Rattle.svc_values.specs.meaning.Schemas.{key_of}
use Rattle.commit_log.specs.meaning.Bases.{keys_differ}
use Rattle.commit_log.specs.Bases.{column_name}
use Rattle.svc_values.specs.Keys.{is_key}

-- ---- names

has_column_named : (columns : List Column) (name : List ℕ) → has_column columns name ≡ is_name_of (map column_name columns) name
has_column_named [] name = refl
has_column_named (column ∷ columns) name = ap (λ b. bytes_eq column.name name || b) (has_column_named columns name)

-- the names of columns differ as those of any items do
pub columns_differ : (columns : List Column) → have_distinct_names columns ≡ names_differ (map column_name columns)
columns_differ [] = refl
columns_differ (column ∷ columns) = ap (λ b. not b && have_distinct_names columns) (has_column_named columns column.name) ∙ ap (λ b. not (is_name_of (map column_name columns) column.name) && b) (columns_differ columns)

-- ---- rows whose keys differ

same_here : (a b : Value) → eq-value.it a b ≡ same_value a b
same_here (value.Int a) (value.Int b) = refl
same_here (value.Int a) (value.Text b) = refl
same_here (value.Int a) (value.Bytes b) = refl
same_here (value.Text a) (value.Int b) = refl
same_here (value.Text a) (value.Text b) = refl
same_here (value.Text a) (value.Bytes b) = refl
same_here (value.Bytes a) (value.Int b) = refl
same_here (value.Bytes a) (value.Text b) = refl
same_here (value.Bytes a) (value.Bytes b) = refl

-- of these rows none has a key that is taken, and no two have one key
abbrev pub differ_from : (Value → Bool) → List (List Value) → Bool
differ_from taken [] = true
differ_from taken (row ∷ rows) = not (taken (key_of row)) && differ_from (λ k. taken k || same_value k (key_of row)) rows

or_apart : (a b c d : Bool) → ((a || b) || (c || d)) ≡ ((a || c) || (b || d))
or_apart true b c d = refl
or_apart false true true d = refl
or_apart false true false d = refl
or_apart false false c d = refl

any_or : (p q : List Value → Bool) (rows : List (List Value)) → list_any (λ row. p row || q row) rows ≡ (list_any p rows || list_any q rows)
any_or p q [] = refl
any_or p q (row ∷ rows) = ap (λ b. (p row || q row) || b) (any_or p q rows) ∙ or_apart (p row) (q row) (list_any p rows) (list_any q rows)

not_apart : (a b c d : Bool) → (not a && (not (b || c) && d)) ≡ (not (a || b) && (not c && d))
not_apart true b c d = refl
not_apart false true c d = refl
not_apart false false c d = refl

differ_split : (taken : Value → Bool) (rows : List (List Value)) → differ_from taken rows ≡ (not (list_any (λ row. taken (key_of row)) rows) && keys_differ rows)
differ_split taken [] = refl
differ_split taken (row ∷ rows) =
    let same : List Value → Bool = λ other. same_value (key_of other) (key_of row) in
    let met : List Value → Bool = λ other. taken (key_of other) in
    ap (λ b. not (taken (key_of row)) && b) (differ_split (λ k. taken k || same_value k (key_of row)) rows ∙ ap (λ b. not b && keys_differ rows) (any_or met same rows))
    ∙ not_apart (taken (key_of row)) (list_any met rows) (list_any same rows) (keys_differ rows)

none_met : (rows : List (List Value)) → list_any (λ row. false) rows ≡ false
none_met [] = refl
none_met (row ∷ rows) = none_met rows

-- no key is taken at first
pub differ_at_first : (rows : List (List Value)) → differ_from (is_key eq-value.it []) rows ≡ keys_differ rows
differ_at_first rows = differ_split (λ k. false) rows ∙ ap (λ b. not b && keys_differ rows) (none_met rows)

-- a key that is not taken yet, and is taken from then on
pub differ_on : (old new : List Value) (row : List Value) (rows : List (List Value)) → is_key eq-value.it old (key_of row) ≡ false → ((k : Value) → is_key eq-value.it new k ≡ (is_key eq-value.it old k || eq-value.it k (key_of row)))
    → differ_from (is_key eq-value.it old) (row ∷ rows) ≡ differ_from (is_key eq-value.it new) rows
differ_on old new row rows fresh added =
    let here : (k : Value) → (is_key eq-value.it old k || same_value k (key_of row)) ≡ is_key eq-value.it new k = λ k. ap (λ b. is_key eq-value.it old k || b) (sym (same_here k (key_of row))) ∙ sym (added k) in
    ap (λ b. not b && differ_from (λ k. is_key eq-value.it old k || same_value k (key_of row)) rows) fresh
    ∙ ap (λ (taken : Value → Bool). differ_from taken rows) (fun_ext here)
