-- Where printed tables differ from those that were given back.
use Rattle.std.proofs.Common.{◌≡◌, ℕ, ◌+◌, ◌<◌, ◌≤◌, List, [], ◌∷◌, length, get_or, drop, map, Some, codes, refl, sym, ap, ◌∙◌, arith}
use Rattle.std.proofs.lemmas.List.{drop_all, drop_more}
use Rattle.svc_values.specs.declared.schema.Schema.{Schema}
use Rattle.svc_values.specs.declared.tables.PlainRow.{PlainRow}
use Rattle.svc_values.specs.declared.value.Value.{Value}
use Rattle.table_store.specs.Given.{named, named_in}
use Rattle.table_store.specs.declared.shelves.TableRows.{TableRows}
use Rattle.outage_schedule.specs.declared.report.ReportTable.{ReportTable}
use Rattle.serial_check.specs.meaning.Places.{table_place}
use Rattle.serial_check.specs.Printed.{print_given, print_in}
use Rattle.serial_check.proofs.Lists.{left_is}

-- a table is printed that is none of those
pub more_printed : (n : ℕ) (printed : List ReportTable) (tables : List TableRows) (one : ReportTable) → n < length printed → one ≡ get_or printed n one → length tables ≤ n
    → table_place n (drop n printed) (map print_given (drop n tables)) ≡ Some (codes "/tables")
more_printed n printed tables one within is over =
    ap (λ l. table_place n l (map print_given (drop n tables))) (left_is printed n one within is)
    ∙ ap (λ (l : List TableRows). table_place n (one ∷ drop (n + 1) printed) (map print_given l)) (drop_all n tables over)

-- one of those is not printed
pub fewer_printed : (n : ℕ) (printed : List ReportTable) (tables : List TableRows) → length printed ≤ n → n < length tables
    → table_place n (drop n printed) (map print_given (drop n tables)) ≡ Some (codes "/tables")
fewer_printed n printed [] over within = absurd (omega (arith, within))
fewer_printed n printed (first ∷ rest) over within =
    ap (λ l. table_place n l (map print_given (drop n (first ∷ rest)))) (drop_all n printed over)
    ∙ ap (λ (l : List TableRows). table_place n [] (map print_given l)) (drop_more (first ∷ rest) n first within)

printed_pair : List ℕ × List (List Value) → ReportTable
printed_pair pair = record { name = pair.0; rows = pair.1 }

of_given : (given : List TableRows) → map printed_pair (map named given) ≡ map print_given given
unfolding printed_pair
of_given [] = refl
of_given (one ∷ given) = ap (λ l. print_given one ∷ l) (of_given given)

of_schemas : (rows : List PlainRow) (schemas : List Schema) → map printed_pair (map (named_in rows) schemas) ≡ map (print_in rows) schemas
unfolding printed_pair
of_schemas rows [] = refl
of_schemas rows (schema ∷ schemas) = ap (λ l. print_in rows schema ∷ l) (of_schemas rows schemas)

pub given_is : (given : List TableRows) (rows : List PlainRow) (schemas : List Schema) → map named given ≡ map (named_in rows) schemas → map print_given given ≡ map (print_in rows) schemas
given_is given rows schemas same = sym (of_given given) ∙ ap (map printed_pair) same ∙ of_schemas rows schemas
