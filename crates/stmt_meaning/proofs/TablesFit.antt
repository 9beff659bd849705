-- Tables that fit what is declared of them still do after a call.
use Rattle.std.proofs.Common.{◌≡◌, ℕ, Bool, true, false, not, cond, List, [], ◌∷◌, ◌++◌, filter, refl, sym, ap, ◌∙◌, subst}
use Rattle.std.specs.Prelude.{Option, Some, None, Result, Ok, Err, option_to_list}
use Rattle.std.specs.List.{list_all}
use Rattle.svc_values.specs.declared.value.Value.{Value}
use Rattle.svc_values.specs.declared.schema.Schema.{Schema}
use Rattle.svc_values.specs.declared.schema.Shape.{Shape}
use Rattle.svc_values.specs.declared.draw.Draw.{Draw}
use Rattle.svc_values.specs.declared.statement.Statement.{Statement}
use Rattle.svc_values.specs.declared.answer.Answer.{Answer}
use Rattle.svc_values.specs.declared.answer.StatementFault.{StatementFault}
use Rattle.svc_values.specs.declared.call.Call.{Call}
use Rattle.svc_values.specs.declared.call.Call.TheVariants as call
use Rattle.svc_values.specs.declared.entry.Write.{Write}
use Rattle.stmt_meaning.specs.declared.plan.Plan.{Plan}
use Rattle.stmt_meaning.specs.declared.plan.Plan.TheVariants as plan
use Rattle.svc_values.specs.declared.tables.PlainRow.{PlainRow}
use Rattle.svc_values.specs.declared.tables.Place.TheVariants as place
use Rattle.stmt_meaning.specs.meaning.Operands.{Reading, ◌>>=◌, values_of}
use Rattle.stmt_meaning.specs.meaning.Plans.{Aim, aim_of, plan_for, plan_at, plan_of, place_of}
use Rattle.svc_values.specs.meaning.Calls.{operands_of}
use Rattle.svc_values.specs.meaning.Schemas.{schema_of}
use Rattle.stmt_meaning.specs.meaning.Effects.{effect, first_of}
use Rattle.svc_values.specs.meaning.Tables.{is_at, put_row, put_if_any, without, with_write, with_writes, comes_before}
use Rattle.stmt_meaning.specs.meaning.Meaning.{OneDone, AllDone, Meant, seen_at, done_at, mean1, statements_done, and_on, after_first, ended_by, is_refusal, worked, alone, mean, commit_answer}
use Rattle.svc_values.specs.meaning.Fitting.{is_row_of, has_fit, write_fits, writes_fit}
use Rattle.svc_values.specs.Fitting.{tables_fit, IsBase}
use Rattle.stmt_meaning.specs.PlainRuns.{IsMeaning}
use Rattle.stmt_meaning.specs.declared.plain.PlainRun.{PlainRun}
use Rattle.svc_values.proofs.Offered.{AreTables-with_writes, is_at-row}
use Rattle.stmt_meaning.proofs.MeanLocal.{mean-tables}
use Rattle.stmt_meaning.proofs.PlanFits.{both, and-true, PlanFits, PlanFits-for, OneFits, OneFits-row_effect}
use Rattle.svc_values.specs.meaning.SettingsList.{NamedValues}

-- ---- tests of all rows

kept_all : (p q : PlainRow → Bool) (row : PlainRow) (rest : List PlainRow) (b : Bool) → q row ≡ b → p row ≡ true → list_all p (filter q rest) ≡ true → list_all p (filter q (row ∷ rest)) ≡ true
kept_all p q row rest true e h more = rw e (and-true (p row) (list_all p (filter q rest)) h more)
kept_all p q row rest false e h more = rw e more

list_all-filter : (p q : PlainRow → Bool) (rows : List PlainRow) → list_all p rows ≡ true → list_all p (filter q rows) ≡ true
list_all-filter p q [] all = refl
list_all-filter p q (row ∷ rest) all = let h = both (p row) (list_all p rest) all in kept_all p q row rest (q row) refl h.0 (list_all-filter p q rest h.1)

put_all : (p : PlainRow → Bool) (row first : PlainRow) (rest : List PlainRow) (b : Bool) → comes_before row first ≡ b → p row ≡ true → list_all p (first ∷ rest) ≡ true → list_all p (put_row row rest) ≡ true → list_all p (put_row row (first ∷ rest)) ≡ true
put_all p row first rest true e h all more = rw e (and-true (p row) (list_all p (first ∷ rest)) h all)
put_all p row first rest false e h all more = rw e (and-true (p first) (list_all p (put_row row rest)) (both (p first) (list_all p rest) all).0 more)

list_all-put_row : (p : PlainRow → Bool) (row : PlainRow) (rows : List PlainRow) → p row ≡ true → list_all p rows ≡ true → list_all p (put_row row rows) ≡ true
list_all-put_row p row [] h all = and-true (p row) true h refl
list_all-put_row p row (first ∷ rest) h all = put_all p row first rest (comes_before row first) refl h all (list_all-put_row p row rest h (both (p first) (list_all p rest) all).1)

module _ (schemas : List Schema) where
  abbrev fits : PlainRow → Bool
  fits one = is_row_of (schema_of schemas one.table) one.key one.row

  row_from_write : (found : Option Schema) (key : Value) (row : List Value) → has_fit found key (Some row) ≡ true → is_row_of found key row ≡ true
  row_from_write None key row h = h
  row_from_write (Some schema) key row h = h

  put_fits : (tables : List PlainRow) (table : List ℕ) (key : Value) (row : Option (List Value)) → tables_fit schemas tables ≡ true → has_fit (schema_of schemas table) key row ≡ true → tables_fit schemas (put_if_any (without tables table key) table key row) ≡ true
  put_fits tables table key None all h = list_all-filter fits (λ row. not (is_at (place.Row table key) row)) tables all
  put_fits tables table key (Some row) all h =
      list_all-put_row fits (record { table = table; key = key; row = row }) (without tables table key) (row_from_write (schema_of schemas table) key row h) (list_all-filter fits (λ row. not (is_at (place.Row table key) row)) tables all)

  -- writes that fit keep tables that fit
  pub tables_fit-with_writes : (tables : List PlainRow) (writes : List Write) → tables_fit schemas tables ≡ true → writes_fit schemas writes ≡ true → tables_fit schemas (with_writes tables writes) ≡ true
  tables_fit-with_writes tables [] all h = all
  tables_fit-with_writes tables (write ∷ writes) all h =
      let p = both (write_fits schemas write) (writes_fit schemas writes) h in
      tables_fit-with_writes (with_write tables write) writes (put_fits tables write.table write.key write.row all p.0) p.1

  -- ---- the row at a place

  first_fits : (table : List ℕ) (key : Value) (there : List Value) (row : PlainRow) (rest : List PlainRow) → (first_of (seen_at rest (Some (place.Row table key))) ≡ Some there → is_row_of (schema_of schemas table) key there ≡ true)
      → (b : Bool) → is_at (place.Row table key) row ≡ b → fits row ≡ true → first_of (seen_at (row ∷ rest) (Some (place.Row table key))) ≡ Some there → is_row_of (schema_of schemas table) key there ≡ true
  first_fits table key there row rest ih true e h is =
      let own = is_at-row table key row e in
      let here : Some row.row ≡ Some there = rw e at is in
      let same : row.row ≡ there = cc in
      sym (ap (λ t. is_row_of (schema_of schemas t) key there) own.0) ∙ sym (ap (λ k. is_row_of (schema_of schemas row.table) k there) own.1) ∙ sym (ap (λ r. is_row_of (schema_of schemas row.table) row.key r) same) ∙ h
  first_fits table key there row rest ih false e h is = ih (rw e at is)

  there_fits : (tables : List PlainRow) (table : List ℕ) (key : Value) (there : List Value) → tables_fit schemas tables ≡ true → first_of (seen_at tables (Some (place.Row table key))) ≡ Some there → is_row_of (schema_of schemas table) key there ≡ true
  there_fits [] table key there all is = cc
  there_fits (row ∷ rest) table key there all is =
      let p = both (fits row) (tables_fit schemas rest) all in
      first_fits table key there row rest (λ more. there_fits rest table key there p.1 more) (is_at (place.Row table key) row) refl p.0 is

  -- ---- statements

  effect_fits : (tables : List PlainRow) (asked : Plan) → tables_fit schemas tables ≡ true → PlanFits schemas asked → OneFits schemas (effect asked (seen_at tables (place_of asked))).write
  effect_fits tables (plan.AtRow table key work) all (schema, (found, work_fits)) =
      OneFits-row_effect schemas table schema found key work work_fits (first_of (seen_at tables (Some (place.Row table key)))) (λ row is. ap (λ o. is_row_of o key row) (sym found) ∙ there_fits tables table key row all is)
  effect_fits tables (plan.InTable table work) all ok = tt
  effect_fits tables (plan.Show shown) all ok = tt

  one_fits : (write : Option Write) → OneFits schemas write → writes_fit schemas (option_to_list write) ≡ true
  one_fits None h = refl
  one_fits (Some write) h = and-true (write_fits schemas write) true h refl

  writes_fit-append : (writes more : List Write) → writes_fit schemas writes ≡ true → writes_fit schemas more ≡ true → writes_fit schemas (writes ++ more) ≡ true
  writes_fit-append [] more h i = i
  writes_fit-append (write ∷ writes) more h i = let p = both (write_fits schemas write) (writes_fit schemas writes) h in and-true (write_fits schemas write) (writes_fit schemas (writes ++ more)) p.0 (writes_fit-append writes more p.1 i)

  done_fits : (tables : List PlainRow) (read : Reading Plan) (one : OneDone) → tables_fit schemas tables ≡ true → ((asked : Plan) (left : List Draw) → read ≡ Some (Ok asked, left) → PlanFits schemas asked) → done_at tables read ≡ Some one → writes_fit schemas one.writes ≡ true
  done_fits tables None one all ok is = cc
  done_fits tables (Some (Err refusal, left)) one all ok is = let none : one.writes ≡ [] = cc in ap (writes_fit schemas) none
  done_fits tables (Some (Ok asked, left)) one all ok is =
      let write = (effect asked (seen_at tables (place_of asked))).write in
      let mine : one.writes ≡ option_to_list write = cc in
      ap (writes_fit schemas) mine ∙ one_fits write (effect_fits tables asked all (ok asked left refl))

same_plan : (x y : Result Plan StatementFault) (left over : List Draw) → ◌≡◌ {A = Reading Plan} (Some (x, left)) (Some (y, over)) → x ≡ y
same_plan x y left over e = let p : ◌≡◌ {A = Result Plan StatementFault × List Draw} (x, left) (y, over) = cc in ap (λ q. q.0) p

read_plan : (schemas : List Schema) (asked : Statement) (aim : Aim) → aim_of schemas asked ≡ Ok aim → (values : Reading (List Value)) (made : Plan) (left : List Draw) → (values >>= λ xs over. Some (plan_for aim asked xs, over)) ≡ Some (Ok made, left) → PlanFits schemas made
read_plan schemas asked aim is None made left e = cc
read_plan schemas asked aim is (Some (Err refusal, over)) made left e = let none = same_plan (Err refusal) (Ok made) over left e in cc
read_plan schemas asked aim is (Some (Ok values, over)) made left e = let planned = same_plan (plan_for aim asked values) (Ok made) over left e in PlanFits-for schemas asked aim values made is planned

module _ (shape : Shape) (settings : NamedValues) where
  plan_fits_at : (asked : Statement) (draws : List Draw) (aim : Result Aim StatementFault) → aim_of shape.schemas asked ≡ aim → (made : Plan) (left : List Draw) → plan_at shape settings asked draws aim ≡ Some (Ok made, left) → PlanFits shape.schemas made
  plan_fits_at asked draws (Err refusal) is made left e = let none = same_plan (Err refusal) (Ok made) draws left e in cc
  plan_fits_at asked draws (Ok aim) is made left e = read_plan shape.schemas asked aim is (values_of shape.sequences settings (operands_of asked) draws) made left e

  pub mean1-fits : (tables : List PlainRow) (asked : Statement) (draws : List Draw) (one : OneDone) → tables_fit shape.schemas tables ≡ true → mean1 shape tables settings asked draws ≡ Some one → writes_fit shape.schemas one.writes ≡ true
  mean1-fits tables asked draws one all is = done_fits shape.schemas tables (plan_of shape settings asked draws) one all (λ made left e. plan_fits_at asked draws (aim_of shape.schemas asked) refl made left e) is

  abbrev onward : List PlainRow → List Statement → OneDone → Option AllDone
  onward tables rest one = statements_done shape (with_writes tables one.writes) settings rest one.rest

  next_fits : (tables : List PlainRow) (rest : List Statement) (done : AllDone) (one : OneDone) → writes_fit shape.schemas one.writes ≡ true → ((more : AllDone) → onward tables rest one ≡ Some more → writes_fit shape.schemas more.writes ≡ true)
      → (refused : Bool) → is_refusal one.answer ≡ refused → (more : Option AllDone) → onward tables rest one ≡ more → and_on (Some one) (onward tables rest) ≡ Some done → writes_fit shape.schemas done.writes ≡ true
  next_fits tables rest done one first ih true gone more goes is =
      let ends : ended_by one ≡ Some done = ap (λ r. cond r (ended_by one) (after_first one (onward tables rest one))) (sym gone) ∙ is in
      let none : done.writes ≡ [] = cc in ap (writes_fit shape.schemas) none
  next_fits tables rest done one first ih false kept None goes is =
      let joined : after_first one (onward tables rest one) ≡ Some done = ap (λ r. cond r (ended_by one) (after_first one (onward tables rest one))) (sym kept) ∙ is in
      let joined' : after_first one None ≡ Some done = ap (after_first one) (sym goes) ∙ joined in cc
  next_fits tables rest done one first ih false kept (Some more) goes is =
      let joined : after_first one (onward tables rest one) ≡ Some done = ap (λ r. cond r (ended_by one) (after_first one (onward tables rest one))) (sym kept) ∙ is in
      let joined' : after_first one (Some more) ≡ Some done = ap (after_first one) (sym goes) ∙ joined in
      let writes : done.writes ≡ one.writes ++ more.writes = cc in
      ap (writes_fit shape.schemas) writes ∙ writes_fit-append shape.schemas one.writes more.writes first (ih more goes)

  begun_fits : (tables : List PlainRow) (first : Statement) (rest : List Statement) (draws : List Draw) (done : AllDone) → tables_fit shape.schemas tables ≡ true → ((one : OneDone) → writes_fit shape.schemas one.writes ≡ true → (more : AllDone) → onward tables rest one ≡ Some more → writes_fit shape.schemas more.writes ≡ true)
      → (here : Option OneDone) → mean1 shape tables settings first draws ≡ here → and_on here (onward tables rest) ≡ Some done → writes_fit shape.schemas done.writes ≡ true
  begun_fits tables first rest draws done all ih None means is = cc
  begun_fits tables first rest draws done all ih (Some one) means is =
      let fits = mean1-fits tables first draws one all means in
      next_fits tables rest done one fits (ih one fits) (is_refusal one.answer) refl (onward tables rest one) refl is

  pub statements-fit : (tables : List PlainRow) (asked : List Statement) (draws : List Draw) (done : AllDone) → tables_fit shape.schemas tables ≡ true → statements_done shape tables settings asked draws ≡ Some done → writes_fit shape.schemas done.writes ≡ true
  statements-fit tables [] draws done all is = let none : done.writes ≡ [] = cc in ap (writes_fit shape.schemas) none
  statements-fit tables (first ∷ rest) draws done all is =
      begun_fits tables first rest draws done all (λ one fits more goes. statements-fit (with_writes tables one.writes) rest one.rest more (tables_fit-with_writes shape.schemas tables one.writes all fits) goes) (mean1 shape tables settings first draws) refl is

-- ---- calls

work_fits_at : (schemas : List Schema) (tables : List PlainRow) (settings : NamedValues) (commit : Bool) (done : AllDone) (meant : Meant) → writes_fit schemas done.writes ≡ true → (refused : Bool) → done.refused ≡ refused → worked tables settings commit (Some done) ≡ Some meant → writes_fit schemas meant.writes ≡ true
work_fits_at schemas tables settings commit done meant fits true gone is =
    let here : Meant = record { answers = done.answers; tables = tables; settings = settings; writes = []; reads = done.reads; rest = done.rest } in
    let is' : Some here ≡ Some meant = rw gone at is in
    let none : meant.writes ≡ [] = cc in ap (writes_fit schemas) none
work_fits_at schemas tables settings commit done meant fits false kept is =
    let here : Meant = record { answers = done.answers ++ commit_answer commit; tables = with_writes tables done.writes; settings = settings; writes = done.writes; reads = done.reads; rest = done.rest } in
    let is' : Some here ≡ Some meant = rw kept at is in
    let same : meant.writes ≡ done.writes = cc in ap (writes_fit schemas) same ∙ fits

work_fits : (schemas : List Schema) (tables : List PlainRow) (settings : NamedValues) (commit : Bool) (all : Option AllDone) (meant : Meant) → ((done : AllDone) → all ≡ Some done → writes_fit schemas done.writes ≡ true) → worked tables settings commit all ≡ Some meant → writes_fit schemas meant.writes ≡ true
work_fits schemas tables settings commit None meant fits is = cc
work_fits schemas tables settings commit (Some done) meant fits is = work_fits_at schemas tables settings commit done meant (fits done refl) done.refused refl is

alone_fits : (schemas : List Schema) (tables : List PlainRow) (settings : NamedValues) (draws : List Draw) (answer : Answer) (meant : Meant) → alone tables settings draws answer ≡ Some meant → writes_fit schemas meant.writes ≡ true
alone_fits schemas tables settings draws answer meant is = let none : meant.writes ≡ [] = cc in ap (writes_fit schemas) none

-- the writes of a call fit the declared tables
pub mean-fits : (shape : Shape) (tables : List PlainRow) (settings : NamedValues) (asked : Call) (draws : List Draw) (meant : Meant) → tables_fit shape.schemas tables ≡ true → mean shape tables settings asked draws ≡ Some meant → writes_fit shape.schemas meant.writes ≡ true
mean-fits shape tables settings (call.Work statements commit) draws meant all is = work_fits shape.schemas tables settings commit (statements_done shape tables settings statements draws) meant (λ done e. statements-fit shape settings tables statements draws done all e) is
mean-fits shape tables settings (call.Set name x) draws meant all is = alone_fits shape.schemas tables _ draws _ meant is
mean-fits shape tables settings (call.Alter line) draws meant all is = alone_fits shape.schemas tables _ draws _ meant is
mean-fits shape tables settings call.Disable draws meant all is = alone_fits shape.schemas tables _ draws _ meant is
mean-fits shape tables settings call.Rollback draws meant all is = alone_fits shape.schemas tables _ draws _ meant is

-- tables of a shape are so again after a call
pub mean-base : (shape : Shape) (tables : List PlainRow) (settings : NamedValues) (asked : Call) (draws : List Draw) (meant : Meant) → mean shape tables settings asked draws ≡ Some meant → IsBase shape tables → IsBase shape meant.tables × (writes_fit shape.schemas meant.writes ≡ true)
mean-base shape tables settings asked draws meant is base =
    let writes = mean-fits shape tables settings asked draws meant base.fitting is in
    let left = sym (mean-tables shape tables settings asked draws meant is) in
    let after : IsBase shape (with_writes tables meant.writes) = record { ordered = AreTables-with_writes tables meant.writes base.ordered; fitting = tables_fit-with_writes shape.schemas tables meant.writes base.fitting writes } in
    (subst (IsBase shape) left after, writes)

-- and so after a run of it
pub run-base : (shape : Shape) (tables : List PlainRow) (settings : NamedValues) (asked : Call) (draws : List Draw) (run : PlainRun) → IsMeaning (mean shape tables settings asked draws) draws run → IsBase shape tables → IsBase shape run.tables
run-base shape tables settings asked draws run (meant, (is, gives)) base = subst (IsBase shape) (sym gives.tables) (mean-base shape tables settings asked draws meant is base).0
