-- The number of rows of a table in which nothing was written.
use Rattle.std.proofs.Common.{◌≡◌, ℕ, suc, List, [], ◌∷◌, true, refl, sym, ap, ◌∙◌}
use Rattle.std.specs.Prelude.{Option, Some, None, filter, length, pos}
use Rattle.std.specs.Map.{values_of}
use Rattle.std.specs.declared.ops.Bound.TheVariants.{Unbounded}
use Rattle.svc_values.specs.declared.value.Value.{Value}
use Rattle.svc_values.specs.declared.entry.Write.{Write}
use Rattle.svc_values.specs.declared.answer.Answer.TheVariants as answer
use Rattle.svc_values.specs.declared.tables.PlainRow.{PlainRow}
use Rattle.svc_values.specs.declared.tables.Place.TheVariants as place
use Rattle.svc_values.specs.meaning.Tables.{rows_at, with_writes}
use Rattle.stmt_meaning.specs.declared.plan.TableWork.TheVariants as table_work
use Rattle.stmt_meaning.specs.meaning.Effects.{table_answer}
use Rattle.stmt_meaning.specs.meaning.Meaning.{seen_at}
use Rattle.table_store.specs.Rows.{Keyed, rows_if_any}
use Rattle.table_txn.specs.Found.{keyed_or_none}
use Rattle.table_txn.specs.Own.{last_at}
use Rattle.table_txn.proofs.Picks.{pick_all}
use Rattle.table_txn.proofs.ScanSteps.{rows_of, committed_part}

all_kept : (entries : Keyed) → filter (λ (e : Value × List Value). true) entries ≡ entries
all_kept [] = refl
all_kept (e ∷ rest) = ap (λ l. e ∷ l) (all_kept rest)

as_long : (entries : Keyed) → length (values_of entries) ≡ length entries
as_long [] = refl
as_long (e ∷ rest) = ap suc (as_long rest)

pub counted_is : (rows : List PlainRow) (writes : List Write) (table : List ℕ) (shelf : Option Keyed) → rows_at rows (place.Table table) ≡ rows_if_any table shelf → ((key : Value) → last_at writes table key ≡ None)
    → answer.Number (pos (length (keyed_or_none shelf))) ≡ table_answer table_work.Count (seen_at (with_writes rows writes) (Some (place.Table table)))
counted_is rows writes table shelf there none =
    let seen = rows_at (with_writes rows writes) (place.Table table) in
    let part : rows_of seen ≡ values_of (keyed_or_none shelf) =
    ap rows_of (sym (pick_all seen)) ∙ committed_part rows writes table shelf there Unbounded Unbounded (λ key h. none key) ∙ ap values_of (all_kept (keyed_or_none shelf)) in
    ap (λ n. answer.Number (pos n)) (sym (ap length part ∙ as_long (keyed_or_none shelf)))
