-- The total that the report of a load tells is that of the accounts behind the last entry.
use Rattle.std.proofs.Common.{◌≡◌, refl, ap, subst, ◌∙◌, ℕ, suc, map, List, [], ◌∷◌}
use Rattle.std.specs.Prelude.{ℤ, pos, ◌+ℤ◌, codes}
use Rattle.svc_values.specs.declared.value.Value.{Value}
use Rattle.svc_values.specs.declared.tables.PlainRow.{PlainRow}
use Rattle.svc_values.specs.declared.tables.Place.TheVariants as place
use Rattle.svc_values.specs.meaning.Tables.{rows_at}
use Rattle.stmt_meaning.specs.meaning.Effects.{total as column_total}
use Rattle.stmt_meaning.specs.meaning.Serial.{Serial}
use Rattle.outage_schedule.specs.declared.report.ReportTable.{ReportTable}
use Rattle.run_clauses.specs.meaning.Before.{journal_before, shape, start}
use Rattle.run_clauses.specs.meaning.Serial.{printed_tables}
use Rattle.load_document.specs.meaning.Loads.{accounts, first_rows, loaded}
use Rattle.load_laws.specs.Accounts.{AreAccounts, SerialRunsKeepAccounts, accounts_with, account_shape, sum_of}
use Rattle.load_laws.specs.Loads.{LoadsKeepTotal, LoadsRunTransfers}

thousands : List ℤ
thousands = pos 1000 ∷ pos 1000 ∷ pos 1000 ∷ pos 1000 ∷ pos 1000 ∷ pos 1000 ∷ pos 1000 ∷ pos 1000 ∷ pos 1000 ∷ pos 1000 ∷ pos 1000 ∷ pos 1000 ∷ pos 1000 ∷ pos 1000 ∷ pos 1000 ∷ pos 1000 ∷ []

-- what a load begins with
start_are : (seed clients requests : ℕ) → AreAccounts (pos 16000) (start (loaded seed clients requests))
unfolding accounts thousands
start_are seed clients requests = record { balances = thousands; rows = refl; sixteen = refl; sum = refl }

shape_is : (seed clients requests : ℕ) → shape (loaded seed clients requests) ≡ account_shape
unfolding accounts
shape_is seed clients requests = refl

-- ---- what is printed

abbrev rows_in : List PlainRow → List (List Value)
rows_in tables = map (λ one. one.row) (rows_at tables (place.Table (codes "acc")))

sum_there : (key : ℕ) (balances : List ℤ) → column_total 1 (rows_in (accounts_with key balances)) ≡ sum_of balances
sum_there key [] = refl
sum_there key (balance ∷ balances) = ap (λ n. balance +ℤ n) (sum_there (suc key) balances)

total_printed : (seed clients requests : ℕ) (after : List PlainRow) → column_total 1 (first_rows (printed_tables (journal_before (loaded seed clients requests)).base after)) ≡ column_total 1 (rows_in after)
unfolding accounts
total_printed seed clients requests after = refl

total_of : (after : List PlainRow) → AreAccounts (pos 16000) after → column_total 1 (rows_in after) ≡ pos 16000
total_of after are = ap (λ (rows : List PlainRow). column_total 1 (rows_in rows)) are.rows ∙ (sum_there 0 are.balances ∙ are.sum)

pub keep_total : LoadsRunTransfers → SerialRunsKeepAccounts → LoadsKeepTotal
keep_total run keeps seed clients requests report is =
    ap (λ (tables : List ReportTable). column_total 1 (first_rows tables)) is.serial.printed
    ∙ (total_printed seed clients requests is.serial.after
    ∙ total_of is.serial.after (keeps (pos 16000) (start (loaded seed clients requests)) report.entries is.serial.after (run seed clients requests report is) (start_are seed clients requests) ran))
  where
    ran : Serial account_shape (start (loaded seed clients requests)) report.entries is.serial.after
    ran = subst (λ kinds. Serial kinds (start (loaded seed clients requests)) report.entries is.serial.after) (shape_is seed clients requests) is.serial.runs
