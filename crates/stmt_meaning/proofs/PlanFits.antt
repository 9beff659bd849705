-- A plan's writes fit the declared tables, where the rows that it is done on do.
use Rattle.std.proofs.Common.{◌≡◌, ℕ, suc, zero, Bool, true, false, List, [], ◌∷◌, refl, sym, ap, ◌∙◌, subst}
use Rattle.std.specs.Prelude.{ℤ, ◌+ℤ◌, Option, Some, None, Result, Ok, Err, ◌&&◌, ◌==◌, slice_get, slice_set}
use Rattle.svc_values.specs.declared.value.Value.{Value}
use Rattle.svc_values.specs.declared.value.Value.TheVariants as value
use Rattle.svc_values.specs.declared.value.Kind.TheVariants as kind
use Rattle.svc_values.specs.declared.schema.Column.{Column}
use Rattle.svc_values.specs.declared.schema.Schema.{Schema}
use Rattle.svc_values.specs.declared.statement.Change.{Change}
use Rattle.svc_values.specs.declared.statement.Change.TheVariants as change
use Rattle.svc_values.specs.declared.statement.Statement.{Statement}
use Rattle.svc_values.specs.declared.statement.Test.{Test}
use Rattle.svc_values.specs.declared.statement.Statement.TheVariants as statement
use Rattle.svc_values.specs.declared.answer.StatementFault.{StatementFault}
use Rattle.svc_values.specs.declared.entry.Write.{Write}
use Rattle.svc_values.specs.meaning.Kinds.{kind_of, same_kind, row_fits}
use Rattle.svc_values.specs.meaning.Same.{same_value}
use Rattle.svc_values.specs.SameLaws.{same_value_decides}
use Rattle.stmt_meaning.specs.declared.plan.Plan.{Plan}
use Rattle.stmt_meaning.specs.declared.plan.Plan.TheVariants as plan
use Rattle.stmt_meaning.specs.declared.plan.RowWork.{RowWork}
use Rattle.stmt_meaning.specs.declared.plan.RowWork.TheVariants as row_work
use Rattle.stmt_meaning.specs.meaning.Plans.{Aim, in_table, in_column, at_column, whole, but_key, aim_of, if_kinds_fit, key_plan, set_plan, add_plan, change_plan, select_plan, plan_for, show_plan}
use Rattle.svc_values.specs.meaning.Schemas.{schema_of, column_of, is_column_kind, key_fits, key_of}
use Rattle.stmt_meaning.specs.meaning.Effects.{fits_i64, number_at, added, row_effect}
use Rattle.svc_values.specs.meaning.Fitting.{is_row_of, has_fit, write_fits}

-- ---- tests

pub both : (a b : Bool) → a && b ≡ true → (a ≡ true) × (b ≡ true)
both true b h = (refl, h)
both false b h = cc

pub and-true : (a b : Bool) → a ≡ true → b ≡ true → a && b ≡ true
and-true a b h i = rw (h, i) refl

-- ---- where a statement works

-- the columns are those of the table
abbrev pub IsOf : List Schema → List ℕ → Aim → Type 0
IsOf schemas table aim = (schema : Schema) × ((schema_of schemas table ≡ Some schema) × (aim.columns ≡ schema.columns))

ok_same : (a b : Aim) → ◌≡◌ {A = Result Aim StatementFault} (Ok a) (Ok b) → a ≡ b
ok_same a b e = cc

whole_of : (schemas : List Schema) (table : List ℕ) (aim : Aim) (found : Option Schema) → schema_of schemas table ≡ found → in_table found whole ≡ Ok aim → IsOf schemas table aim
whole_of schemas table aim None is e = cc
whole_of schemas table aim (Some schema) is e = (schema, (is, sym (ap (λ (a : Aim). a.columns) (ok_same (record { columns = schema.columns; at = 0 }) aim e))))

placed_of : (columns : List Column) (at : Option ℕ) (aim : Aim) → at_column columns at ≡ Ok aim → aim.columns ≡ columns
placed_of columns None aim e = cc
placed_of columns (Some at) aim e = sym (ap (λ (a : Aim). a.columns) (ok_same (record { columns = columns; at = at }) aim e))

column_in : (schemas : List Schema) (table column : List ℕ) (aim : Aim) (found : Option Schema) → schema_of schemas table ≡ found → in_table found (in_column column) ≡ Ok aim → IsOf schemas table aim
column_in schemas table column aim None is e = cc
column_in schemas table column aim (Some schema) is e = (schema, (is, placed_of schema.columns (column_of schema.columns column) aim e))

not_key_at : (a aim : Aim) (b : Bool) → (a.at == 0) ≡ b → but_key (Ok a) ≡ Ok aim → (a ≡ aim) × ((aim.at == 0) ≡ false)
not_key_at a aim true e is = let is' = rw e at is in cc
not_key_at a aim false e is = let is' : ◌≡◌ {A = Result Aim StatementFault} (Ok a) (Ok aim) = rw e at is in let same = ok_same a aim is' in (same, ap (λ (x : Aim). x.at == 0) (sym same) ∙ e)

not_key : (r : Result Aim StatementFault) (aim : Aim) → but_key r ≡ Ok aim → (r ≡ Ok aim) × ((aim.at == 0) ≡ false)
not_key (Err refusal) aim is = cc
not_key (Ok a) aim is = let p = not_key_at a aim (a.at == 0) refl is in (ap (λ x. Ok x) p.0, p.1)

-- ---- plans

-- what is done to a row of a table leaves a row of the table
abbrev pub WorkFits : List Column → Value → RowWork → Type 0
WorkFits columns key (row_work.Insert row) = (row_fits columns row ≡ true) × (key_of row ≡ key)
WorkFits columns key (row_work.Set at to) = ((at == 0) ≡ false) × (is_column_kind columns at (kind_of to) ≡ true)
WorkFits columns key (row_work.Add at by) = ((at == 0) ≡ false) × (is_column_kind columns at kind.Int ≡ true)
WorkFits columns key row_work.Delete = key_fits columns key ≡ true
WorkFits columns key row_work.Get = Unit {0}

abbrev pub PlanFits : List Schema → Plan → Type 0
PlanFits schemas (plan.AtRow table key work) = (schema : Schema) × ((schema_of schemas table ≡ Some schema) × WorkFits schema.columns key work)
PlanFits schemas (plan.InTable table work) = Unit {0}
PlanFits schemas (plan.Show shown) = Unit {0}

plan_same : (a b : Plan) → ◌≡◌ {A = Result Plan StatementFault} (Ok a) (Ok b) → a ≡ b
plan_same a b e = cc

if_fits : (b : Bool) (asked made : Plan) → if_kinds_fit b asked ≡ Ok made → (b ≡ true) × (asked ≡ made)
if_fits true asked made e = (refl, plan_same asked made e)
if_fits false asked made e = cc

module _ (schemas : List Schema) (table : List ℕ) (aim : Aim) (schema : Schema) (found : schema_of schemas table ≡ Some schema) (columns : aim.columns ≡ schema.columns) where
  at_row : (key : Value) (work : RowWork) → WorkFits aim.columns key work → PlanFits schemas (plan.AtRow table key work)
  at_row key work fits = (schema, (found, subst (λ c. WorkFits c key work) columns fits))

  key_fitting : (work : RowWork) (made : Plan) → ((key : Value) → key_fits aim.columns key ≡ true → WorkFits aim.columns key work) → (key : Option Value) → key_plan aim table work key ≡ Ok made → PlanFits schemas made
  key_fitting work made fits None e = cc
  key_fitting work made fits (Some key) e = let p = if_fits (key_fits aim.columns key) (plan.AtRow table key work) made e in subst (PlanFits schemas) p.1 (at_row key work (fits key p.0))

  set_at : (made : Plan) (key : Option Value) (to : Value) → ((aim.at == 0) ≡ false) → (b : Bool) → is_column_kind aim.columns aim.at (kind_of to) ≡ b → set_plan aim table key (Some to) ≡ Ok made → PlanFits schemas made
  set_at made key to past true fits e = key_fitting (row_work.Set aim.at to) made (λ k of_key. (past, fits)) key (rw fits at e)
  set_at made key to past false fits e = let e' = rw fits at e in cc

  add_at : (made : Plan) (key : Option Value) (by : ℤ) → ((aim.at == 0) ≡ false) → (b : Bool) → is_column_kind aim.columns aim.at kind.Int ≡ b → add_plan aim table key (Some (value.Int by)) ≡ Ok made → PlanFits schemas made
  add_at made key by past true fits e = key_fitting (row_work.Add aim.at by) made (λ k of_key. (past, fits)) key (rw fits at e)
  add_at made key by past false fits e = let e' = rw fits at e in cc

  change_fitting : (made : Plan) (by : Change) (key to : Option Value) → ((aim.at == 0) ≡ false) → change_plan aim table by key to ≡ Ok made → PlanFits schemas made
  change_fitting made (change.To operand) key None past e = cc
  change_fitting made (change.To operand) key (Some to) past e = set_at made key to past (is_column_kind aim.columns aim.at (kind_of to)) refl e
  change_fitting made (change.Plus operand) key None past e = cc
  change_fitting made (change.Plus operand) key (Some (value.Int by)) past e = add_at made key by past (is_column_kind aim.columns aim.at kind.Int) refl e
  change_fitting made (change.Plus operand) key (Some (value.Text text)) past e = cc
  change_fitting made (change.Plus operand) key (Some (value.Bytes bytes)) past e = cc

  insert_fitting : (made : Plan) (values : List Value) → if_kinds_fit (row_fits aim.columns values) (plan.AtRow table (key_of values) (row_work.Insert values)) ≡ Ok made → PlanFits schemas made
  insert_fitting made values e = let p = if_fits (row_fits aim.columns values) (plan.AtRow table (key_of values) (row_work.Insert values)) made e in subst (PlanFits schemas) p.1 (at_row (key_of values) (row_work.Insert values) (p.0, refl))

select_fitting : (schemas : List Schema) (aim : Aim) (table : List ℕ) (test : Test) (made : Plan) (than : Option Value) → select_plan aim table test than ≡ Ok made → PlanFits schemas made
select_fitting schemas aim table test made None e = cc
select_fitting schemas aim table test made (Some than) e = let p = if_fits _ _ made e in subst (PlanFits schemas) p.1 tt

-- the plan of a statement fits the declared tables
pub PlanFits-for : (schemas : List Schema) (asked : Statement) (aim : Aim) (values : List Value) (made : Plan) → aim_of schemas asked ≡ Ok aim → plan_for aim asked values ≡ Ok made → PlanFits schemas made
PlanFits-for schemas (statement.Insert table operands) aim values made is e = let p = whole_of schemas table aim (schema_of schemas table) refl is in insert_fitting schemas table aim p.0 p.1.0 p.1.1 made values e
PlanFits-for schemas (statement.Update table key column by) aim values made is e =
    let q = not_key (in_table (schema_of schemas table) (in_column column)) aim is in
    let p = column_in schemas table column aim (schema_of schemas table) refl q.0 in
    change_fitting schemas table aim p.0 p.1.0 p.1.1 made by (slice_get values 0) (slice_get values 1) q.1 e
PlanFits-for schemas (statement.Delete table key) aim values made is e = let p = whole_of schemas table aim (schema_of schemas table) refl is in key_fitting schemas table aim p.0 p.1.0 p.1.1 row_work.Delete made (λ k fits. fits) (slice_get values 0) e
PlanFits-for schemas (statement.Get table key) aim values made is e = let p = whole_of schemas table aim (schema_of schemas table) refl is in key_fitting schemas table aim p.0 p.1.0 p.1.1 row_work.Get made (λ k fits. tt) (slice_get values 0) e
PlanFits-for schemas (statement.Select table column test operand) aim values made is e = select_fitting schemas aim table test made (slice_get values 0) e
PlanFits-for schemas (statement.Count table) aim values made is e = subst (PlanFits schemas) (plan_same _ made e) tt
PlanFits-for schemas (statement.Sum table column) aim values made is e = let p = if_fits _ _ made e in subst (PlanFits schemas) p.1 tt
PlanFits-for schemas (statement.Show operand) aim values made is e = shown (slice_get values 0) e
  where
    shown : (o : Option Value) → show_plan o ≡ Ok made → PlanFits schemas made
    shown None e = cc
    shown (Some x) e = subst (PlanFits schemas) (plan_same (plan.Show x) made e) tt

-- ---- rows

row_fits-set : (columns : List Column) (row : List Value) (at : ℕ) (to : Value) → row_fits columns row ≡ true → is_column_kind columns at (kind_of to) ≡ true → row_fits columns (slice_set row at to) ≡ true
row_fits-set [] [] at to fits here = refl
row_fits-set [] (x ∷ row) at to fits here = cc
row_fits-set (column ∷ columns) [] at to fits here = cc
row_fits-set (column ∷ columns) (x ∷ row) zero to fits here =
    let p = both (same_kind column.kind (kind_of x)) (row_fits columns row) fits in and-true (same_kind column.kind (kind_of to)) (row_fits columns row) here p.1
row_fits-set (column ∷ columns) (x ∷ row) (suc at) to fits here =
    let p = both (same_kind column.kind (kind_of x)) (row_fits columns row) fits in
    and-true (same_kind column.kind (kind_of x)) (row_fits columns (slice_set row at to)) p.0 (row_fits-set columns row at to p.1 here)

key_of-set : (row : List Value) (at : ℕ) (to : Value) → (at == 0) ≡ false → key_of (slice_set row at to) ≡ key_of row
key_of-set [] at to past = refl
key_of-set (x ∷ row) zero to past = cc
key_of-set (x ∷ row) (suc at) to past = refl

is_row_of-set : (schema : Schema) (key : Value) (row : List Value) (at : ℕ) (to : Value) → is_row_of (Some schema) key row ≡ true → (at == 0) ≡ false → is_column_kind schema.columns at (kind_of to) ≡ true → is_row_of (Some schema) key (slice_set row at to) ≡ true
is_row_of-set schema key row at to fits past here =
    let p = both (row_fits schema.columns row) (same_value (key_of row) key) fits in
    and-true (row_fits schema.columns (slice_set row at to)) (same_value (key_of (slice_set row at to)) key) (row_fits-set schema.columns row at to p.0 here) (ap (λ k. same_value k key) (key_of-set row at to past) ∙ p.1)

-- ---- writes

-- a write, if there is one, fits
abbrev pub OneFits : List Schema → Option Write → Type 0
OneFits schemas None = Unit {0}
OneFits schemas (Some write) = write_fits schemas write ≡ true

module _ (schemas : List Schema) (table : List ℕ) (schema : Schema) (found : schema_of schemas table ≡ Some schema) (key : Value) where
  fits_as : (row : Option (List Value)) → has_fit (Some schema) key row ≡ true → has_fit (schema_of schemas table) key row ≡ true
  fits_as row fits = ap (λ o. has_fit o key row) found ∙ fits

  add_fits : (at : ℕ) (there : List Value) (sum : ℤ) → is_row_of (Some schema) key there ≡ true → (at == 0) ≡ false → is_column_kind schema.columns at kind.Int ≡ true → (b : Bool) → fits_i64 sum ≡ b → OneFits schemas (added table key at there sum).write
  add_fits at there sum fits past here true e = rw e (fits_as (Some (slice_set there at (value.Int sum))) (is_row_of-set schema key there at (value.Int sum) fits past here))
  add_fits at there sum fits past here false e = rw e tt

  -- what is written at the row of a key is a row of the table and key, or takes one away
  pub OneFits-row_effect : (work : RowWork) → WorkFits schema.columns key work → (there : Option (List Value)) → ((row : List Value) → there ≡ Some row → is_row_of (Some schema) key row ≡ true) → OneFits schemas (row_effect table key work there).write
  OneFits-row_effect (row_work.Insert row) fits None ok = fits_as (Some row) (and-true (row_fits schema.columns row) (same_value (key_of row) key) fits.0 ((same_value_decides (key_of row) key).1 fits.1))
  OneFits-row_effect (row_work.Insert row) fits (Some there) ok = tt
  OneFits-row_effect (row_work.Set at to) fits None ok = tt
  OneFits-row_effect (row_work.Set at to) fits (Some there) ok = fits_as (Some (slice_set there at to)) (is_row_of-set schema key there at to (ok there refl) fits.0 fits.1)
  OneFits-row_effect (row_work.Add at by) fits None ok = tt
  OneFits-row_effect (row_work.Add at by) fits (Some there) ok = add_fits at there (number_at there at +ℤ by) (ok there refl) fits.0 fits.1 (fits_i64 (number_at there at +ℤ by)) refl
  OneFits-row_effect row_work.Delete fits None ok = tt
  OneFits-row_effect row_work.Delete fits (Some there) ok = fits_as None fits
  OneFits-row_effect row_work.Get fits None ok = tt
  OneFits-row_effect row_work.Get fits (Some there) ok = tt
