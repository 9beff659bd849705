-- A table whose members were read one after the other.
use Rattle.std.proofs.Common.{◌≡◌, List, [], ℕ, Bool, Option, Some, None, option_map, Ok, codes, refl, sym, ap, ◌∙◌}
use Rattle.std.specs.Option.{unwrap_or}
use Rattle.serde_json.specs.Data.{Data, Members, object}
use Rattle.json_form.specs.meaning.Faults.{◌>>=◌, within}
use Rattle.json_form.specs.meaning.Objects.{Named, named, known, object_with, required, optional}
use Rattle.json_form.specs.Objects.{putting}
use Rattle.json_form.specs.meaning.Arrays.{array_of, distinct}
use Rattle.svc_values.specs.declared.value.Value.{Value}
use Rattle.svc_values.specs.declared.schema.Column.{Column}
use Rattle.svc_values.specs.contracts.value.ValuePartialEq.TheImpl.{eq-value}
use Rattle.svc_values.specs.meaning.Schemas.{key_of}
use Rattle.svc_values.proofs.Offered.{same_is_eq}
use Rattle.outage_schedule.specs.declared.document.DocTable.{DocTable}
use Rattle.document_forms.specs.declared.table_ahead.TableAhead.{TableAhead}
use Rattle.call_forms.specs.meaning.Values.{new_name}
use Rattle.document_forms.specs.meaning.Tables.{row_of, rows_of, columns_of, index_of, table_members, table_of}
use Rattle.document_forms.specs.TablesAhead.{columns_in, IsTableRead}
use Rattle.json_form.proofs.Offered.{given}
use Rattle.document_forms.proofs.Steps.{gives_after}
use Rattle.document_forms.proofs.OneByOne.{at_this, at_other, none_there, one_there, may_be_there, members_there, required_there}

pub rows_by_key : (columns : List Column) → rows_of columns ≡ array_of 0 10000 (distinct eq-value.it key_of (row_of columns))
rows_by_key columns = ap (λ same. array_of 0 10000 (distinct same key_of (row_of columns))) (sym same_is_eq)

module _ (taken : List ℕ → Bool) (old : TableAhead) (d : Data) (ms : Named) where
  pub name_put : (name : List ℕ) → new_name taken d ≡ Ok name → IsTableRead taken old ms → IsTableRead taken (record { name = Some name; columns = old.columns; rows = old.rows; index = old.index }) (putting (codes "name") d ms)
  name_put name e are = record {
    name = ap (option_map (new_name taken)) (at_this (codes "name") d ms refl) ∙ ap (λ r. Some r) e;
    columns = ap (option_map columns_of) (at_other (codes "columns") (codes "name") d ms refl) ∙ are.columns;
    rows = ap (option_map (rows_of (columns_in old.columns))) (at_other (codes "rows") (codes "name") d ms refl) ∙ are.rows;
    index = ap (option_map (index_of (columns_in old.columns))) (at_other (codes "index") (codes "name") d ms refl) ∙ are.index;
  }

  pub columns_put : (columns : List Column) → old.rows ≡ None → old.index ≡ None → columns_of d ≡ Ok columns → IsTableRead taken old ms → IsTableRead taken (record { name = old.name; columns = Some columns; rows = old.rows; index = old.index }) (putting (codes "columns") d ms)
  columns_put columns before behind e are =
      let none : option_map (given {A = List (List Value)}) old.rows ≡ None = ap (option_map (given {A = List (List Value)})) before in
      let unread : ms (codes "rows") ≡ None = none_there (rows_of (columns_in old.columns)) (ms (codes "rows")) (are.rows ∙ none) in
      let nowhere : option_map (given {A = List (List ℕ)}) old.index ≡ None = ap (option_map (given {A = List (List ℕ)})) behind in
      let unindexed : ms (codes "index") ≡ None = none_there (index_of (columns_in old.columns)) (ms (codes "index")) (are.index ∙ nowhere) in record {
        name = ap (option_map (new_name taken)) (at_other (codes "name") (codes "columns") d ms refl) ∙ are.name;
        columns = ap (option_map columns_of) (at_this (codes "columns") d ms refl) ∙ ap (λ r. Some r) e;
        rows = ap (option_map (rows_of columns)) (at_other (codes "rows") (codes "columns") d ms refl ∙ unread) ∙ sym none;
        index = ap (option_map (index_of columns)) (at_other (codes "index") (codes "columns") d ms refl ∙ unindexed) ∙ sym nowhere;
      }

  pub rows_put : (columns : List Column) (rows : List (List Value)) → old.columns ≡ Some columns → rows_of columns d ≡ Ok rows → IsTableRead taken old ms → IsTableRead taken (record { name = old.name; columns = old.columns; rows = Some rows; index = old.index }) (putting (codes "rows") d ms)
  rows_put columns rows there e are = record {
    name = ap (option_map (new_name taken)) (at_other (codes "name") (codes "rows") d ms refl) ∙ are.name;
    columns = ap (option_map columns_of) (at_other (codes "columns") (codes "rows") d ms refl) ∙ are.columns;
    rows = ap (option_map (rows_of (columns_in old.columns))) (at_this (codes "rows") d ms refl) ∙ ap (λ r. Some r) (ap (λ cs. rows_of (columns_in cs) d) there ∙ e);
    index = ap (option_map (index_of (columns_in old.columns))) (at_other (codes "index") (codes "rows") d ms refl) ∙ are.index;
  }

  pub index_put : (columns : List Column) (index : List (List ℕ)) → old.columns ≡ Some columns → index_of columns d ≡ Ok index → IsTableRead taken old ms → IsTableRead taken (record { name = old.name; columns = old.columns; rows = old.rows; index = Some index }) (putting (codes "index") d ms)
  index_put columns index there e are = record {
    name = ap (option_map (new_name taken)) (at_other (codes "name") (codes "index") d ms refl) ∙ are.name;
    columns = ap (option_map columns_of) (at_other (codes "columns") (codes "index") d ms refl) ∙ are.columns;
    rows = ap (option_map (rows_of (columns_in old.columns))) (at_other (codes "rows") (codes "index") d ms refl) ∙ are.rows;
    index = ap (option_map (index_of (columns_in old.columns))) (at_this (codes "index") d ms refl) ∙ ap (λ r. Some r) (ap (λ cs. index_of (columns_in cs) d) there ∙ e);
  }

-- ---- the whole table

read_index : (columns : List Column) (ms : Named) (index : Option (List (List ℕ))) → option_map (index_of columns) (ms (codes "index")) ≡ option_map (given {A = List (List ℕ)}) index → optional (codes "index") [] (index_of columns) ms ≡ Ok (unwrap_or index [])
unfolding optional
read_index columns ms index e = may_be_there (codes "index") [] (index_of columns) (ms (codes "index")) index e

read_rows : (columns : List Column) (ms : Named) (rows : Option (List (List Value))) → option_map (rows_of columns) (ms (codes "rows")) ≡ option_map (given {A = List (List Value)}) rows → optional (codes "rows") [] (rows_of columns) ms ≡ Ok (unwrap_or rows [])
unfolding optional
read_rows columns ms rows e = may_be_there (codes "rows") [] (rows_of columns) (ms (codes "rows")) rows e

abbrev pub made : List ℕ → List Column → List (List Value) → List (List ℕ) → DocTable
made name columns rows index = record { name = name; columns = columns; rows = rows; index = index }

pub table_joined : (taken : List ℕ → Bool) (ms : Members) (ahead : TableAhead) (name : List ℕ) (columns : List Column) → known table_members ms ≡ Ok tt → ahead.name ≡ Some name → ahead.columns ≡ Some columns → IsTableRead taken ahead (named ms)
    → table_of taken (object ms) ≡ Ok (made name columns (unwrap_or ahead.rows []) (unwrap_or ahead.index []))
unfolding table_of
table_joined taken ms ahead name columns all hn hc are =
    let rows = unwrap_or ahead.rows [] in
    let index = unwrap_or ahead.index [] in
    let table = made name columns rows index in
    let n = one_there (new_name taken) (named ms (codes "name")) name (are.name ∙ ap (option_map (given {A = List ℕ})) hn) in
    let c = one_there columns_of (named ms (codes "columns")) columns (are.columns ∙ ap (option_map (given {A = List Column})) hc) in
    let by : option_map (rows_of columns) (named ms (codes "rows")) ≡ option_map (given {A = List (List Value)}) ahead.rows = ap (λ cs. option_map (rows_of (columns_in cs)) (named ms (codes "rows"))) (sym hc) ∙ are.rows in
    let by_index : option_map (index_of columns) (named ms (codes "index")) ≡ option_map (given {A = List (List ℕ)}) ahead.index = ap (λ cs. option_map (index_of (columns_in cs)) (named ms (codes "index"))) (sym hc) ∙ are.index in
    gives_after (object_with table_members (object ms)) (named ms) (λ found. required (codes "name") found >>= λ d. required (codes "columns") found >>= λ e. within (codes "name") (new_name taken d) >>= λ x. within (codes "columns") (columns_of e) >>= λ cs.
    optional (codes "rows") [] (rows_of cs) found >>= λ rs. optional (codes "index") [] (index_of cs) found >>= λ index. Ok (made x cs rs index)) table (members_there table_members ms all)
    (gives_after (required (codes "name") (named ms)) n.0 (λ d. required (codes "columns") (named ms) >>= λ e. within (codes "name") (new_name taken d) >>= λ x. within (codes "columns") (columns_of e) >>= λ cs.
    optional (codes "rows") [] (rows_of cs) (named ms) >>= λ rs. optional (codes "index") [] (index_of cs) (named ms) >>= λ index. Ok (made x cs rs index)) table (required_there (codes "name") (named ms) n.0 n.1)
    (gives_after (required (codes "columns") (named ms)) c.0 (λ e. within (codes "name") (new_name taken n.0) >>= λ x. within (codes "columns") (columns_of e) >>= λ cs.
    optional (codes "rows") [] (rows_of cs) (named ms) >>= λ rs. optional (codes "index") [] (index_of cs) (named ms) >>= λ index. Ok (made x cs rs index)) table (required_there (codes "columns") (named ms) c.0 c.1)
    (gives_after (within (codes "name") (new_name taken n.0)) name (λ x. within (codes "columns") (columns_of c.0) >>= λ cs.
    optional (codes "rows") [] (rows_of cs) (named ms) >>= λ rs. optional (codes "index") [] (index_of cs) (named ms) >>= λ index. Ok (made x cs rs index)) table (ap (within (codes "name")) n.2)
    (gives_after (within (codes "columns") (columns_of c.0)) columns (λ cs.
    optional (codes "rows") [] (rows_of cs) (named ms) >>= λ rs. optional (codes "index") [] (index_of cs) (named ms) >>= λ index. Ok (made name cs rs index)) table (ap (within (codes "columns")) c.2)
    (gives_after (optional (codes "rows") [] (rows_of columns) (named ms)) rows (λ rs. optional (codes "index") [] (index_of columns) (named ms) >>= λ index. Ok (made name columns rs index)) table (read_rows columns (named ms) ahead.rows by)
    (gives_after (optional (codes "index") [] (index_of columns) (named ms)) index (λ i. Ok (made name columns rows i)) table (read_index columns (named ms) ahead.index by_index) refl))))))
