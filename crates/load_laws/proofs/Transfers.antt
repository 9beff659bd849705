-- What the calls of a transfer leave of sixteen accounts.
use Rattle.std.proofs.Common.{◌≡◌, ℕ, ◌<◌, Bool, true, false, List, [], ◌∷◌, ◌++◌, length, map, refl, sym, ap, subst, ◌∙◌, arith}
use Rattle.std.specs.Prelude.{ℤ, pos, negsuc, ◌+ℤ◌, Option, Some, None, codes, option_to_list}
use Rattle.std.proofs.Math.IntN.{+ℤ_assoc, +ℤ_idr}
use Rattle.svc_values.specs.declared.value.Value.{Value}
use Rattle.svc_values.specs.declared.value.Value.TheVariants as value
use Rattle.svc_values.specs.declared.answer.Answer.TheVariants as answer
use Rattle.svc_values.specs.declared.answer.StatementFault.TheVariants as fault
use Rattle.svc_values.specs.declared.call.Call.{Call}
use Rattle.svc_values.specs.declared.draw.Draw.{Draw}
use Rattle.svc_values.specs.declared.entry.Write.{Write}
use Rattle.svc_values.specs.declared.tables.PlainRow.{PlainRow}
use Rattle.svc_values.specs.meaning.SettingsList.{NamedValues}
use Rattle.svc_values.specs.meaning.Tables.{rows_at, with_write, with_writes}
use Rattle.stmt_meaning.specs.declared.effect.Effect.{Effect}
use Rattle.stmt_meaning.specs.meaning.Effects.{fits_i64, added, row_effect, first_of}
use Rattle.stmt_meaning.specs.declared.plan.RowWork.TheVariants as row_work
use Rattle.stmt_meaning.specs.meaning.Meaning.{OneDone, AllDone, Meant, mean, mean1, and_on, worked, after_first, statements_done}
use Rattle.load_document.specs.meaning.Loads.{paid, pay}
use Rattle.load_laws.specs.Accounts.{AreAccounts, IsTransferCall, IsLook, IsMove, IsCommit, account_at, accounts_with, account_shape, sum_of, TransfersKeepAccounts}
use Rattle.load_laws.proofs.Accounts.{Split, place_at, row_there, same_length, split, sum_moved, written_there}

-- the tables that a call leaves
abbrev left_by : Option Meant → List PlainRow
left_by None = []
left_by (Some meant) = meant.tables

-- the balance is written, in place of the one that was there
abbrev write_of : ℕ → ℤ → Write
write_of n new = record { table = codes "acc"; key = value.Int (pos n); row = Some (value.Int (pos n) ∷ value.Int new ∷ []) }

-- ---- one payment

module _ (settings : NamedValues) (draws : List Draw) where
  -- it is written, where the sum fits, and else it is refused
  abbrev paid_at : ℕ → ℤ → Bool → OneDone
  paid_at n new true = record { answer = answer.Done 1; writes = write_of n new ∷ []; reads = place_at n ∷ []; rest = draws }
  paid_at n new false = record { answer = answer.Refused fault.SumRange; writes = []; reads = place_at n ∷ []; rest = draws }

  abbrev done_so : ℕ → Effect → Option OneDone
  done_so n done = Some (record { answer = done.answer; writes = option_to_list done.write; reads = place_at n ∷ []; rest = draws })

  by_sum : (n : ℕ) (balance by : ℤ) (fits : Bool) → fits_i64 (balance +ℤ by) ≡ fits
      → done_so n (added (codes "acc") (value.Int (pos n)) 1 (value.Int (pos n) ∷ value.Int balance ∷ []) (balance +ℤ by)) ≡ Some (paid_at n (balance +ℤ by) fits)
  by_sum n balance by true is = rw is refl
  by_sum n balance by false is = rw is refl

  paid_one : (tables : List PlainRow) (n : ℕ) (balance by : ℤ) → rows_at tables (place_at n) ≡ account_at n balance ∷ []
      → mean1 account_shape tables settings (paid n by) draws ≡ Some (paid_at n (balance +ℤ by) (fits_i64 (balance +ℤ by)))
  paid_one tables n balance by there =
      ap (λ (rows : List PlainRow). done_so n (row_effect (codes "acc") (value.Int (pos n)) (row_work.Add 1 by) (first_of (map (λ one. one.row) rows)))) there
      ∙ by_sum n balance by (fits_i64 (balance +ℤ by)) refl

  -- ---- the call of two payments

  module _ (tables : List PlainRow) (a b : ℕ) where
    -- it leaves the tables as they are, or with both balances written
    data Moved (from to : ℤ) : List PlainRow → Type 0 where
      Kept : Moved from to tables
      Wrote : Moved from to (with_write (with_write tables (write_of a from)) (write_of b to))

    abbrev second : OneDone → Option AllDone
    second one = statements_done account_shape (with_writes tables one.writes) settings (paid b (pos 1) ∷ []) one.rest

    abbrev third : ℤ → OneDone → Option AllDone
    third from one = statements_done account_shape (with_writes (with_write tables (write_of a from)) one.writes) settings [] one.rest

    then_paid : (from to : ℤ) (fits : Bool) → mean1 account_shape (with_write tables (write_of a from)) settings (paid b (pos 1)) draws ≡ Some (paid_at b to fits)
        → Moved from to (left_by (worked tables settings false (after_first (paid_at a from true) (second (paid_at a from true)))))
    then_paid from to true next = subst (λ (found : Option OneDone). Moved from to (left_by (worked tables settings false (after_first (paid_at a from true) (and_on found (third from)))))) (sym next) Wrote
    then_paid from to false next = subst (λ (found : Option OneDone). Moved from to (left_by (worked tables settings false (after_first (paid_at a from true) (and_on found (third from)))))) (sym next) Kept

    move_left : (from to : ℤ) (fits_from fits_to : Bool) → mean1 account_shape tables settings (paid a (negsuc 0)) draws ≡ Some (paid_at a from fits_from)
        → mean1 account_shape (with_write tables (write_of a from)) settings (paid b (pos 1)) draws ≡ Some (paid_at b to fits_to)
        → Moved from to (left_by (mean account_shape tables settings (pay a b) draws))
    move_left from to true fits first next = subst (λ (found : Option OneDone). Moved from to (left_by (worked tables settings false (and_on found second)))) (sym first) (then_paid from to fits next)
    move_left from to false fits first next = subst (λ (found : Option OneDone). Moved from to (left_by (worked tables settings false (and_on found second)))) (sym first) Kept

  -- ---- the others

  abbrev alone : List PlainRow → OneDone → Option AllDone
  alone tables one = statements_done account_shape (with_writes tables one.writes) settings [] one.rest

  looked : (tables : List PlainRow) (a : ℕ) (found : Option (List Value))
      → left_by (worked tables settings false (and_on (done_so a (row_effect (codes "acc") (value.Int (pos a)) row_work.Get found)) (alone tables))) ≡ tables
  looked tables a None = refl
  looked tables a (Some row) = refl

  -- ---- each of them

  module _ (total : ℤ) (tables : List PlainRow) (are : AreAccounts total tables) where
    module _ (a b : ℕ) (less_a : a < 16) (less_b : b < 16) where
      abbrev at_a : Split are.balances a
      at_a = split are.balances a (let sixteen = are.sixteen in omega arith)

      abbrev from : ℤ
      from = at_a.balance +ℤ negsuc 0

      abbrev between : List ℤ
      between = at_a.front ++ from ∷ at_a.back

      rows_are : tables ≡ accounts_with 0 (at_a.front ++ at_a.balance ∷ at_a.back)
      rows_are = are.rows ∙ ap (accounts_with 0) at_a.is

      as_many : length between ≡ 16
      as_many = same_length at_a.front from at_a.balance at_a.back ∙ (ap length (sym at_a.is) ∙ are.sixteen)

      written : with_write tables (write_of a from) ≡ accounts_with 0 between
      written = ap (λ (rows : List PlainRow). with_write rows (write_of a from)) rows_are ∙ written_there 0 at_a.front at_a.balance from at_a.back a (let at = at_a.at in omega arith)

      abbrev at_b : Split between b
      at_b = split between b (let sixteen = as_many in omega arith)

      abbrev to : ℤ
      to = at_b.balance +ℤ pos 1

      rows_then : with_write tables (write_of a from) ≡ accounts_with 0 (at_b.front ++ at_b.balance ∷ at_b.back)
      rows_then = written ∙ ap (accounts_with 0) at_b.is

      first_paid : mean1 account_shape tables settings (paid a (negsuc 0)) draws ≡ Some (paid_at a from (fits_i64 from))
      first_paid =
          paid_one tables a at_a.balance (negsuc 0)
          (ap (λ (rows : List PlainRow). rows_at rows (place_at a)) rows_are ∙ row_there 0 at_a.front at_a.balance at_a.back a (let at = at_a.at in omega arith))

      next_paid : mean1 account_shape (with_write tables (write_of a from)) settings (paid b (pos 1)) draws ≡ Some (paid_at b to (fits_i64 to))
      next_paid =
          paid_one (with_write tables (write_of a from)) b at_b.balance (pos 1)
          (ap (λ (rows : List PlainRow). rows_at rows (place_at b)) rows_then ∙ row_there 0 at_b.front at_b.balance at_b.back b (let at = at_b.at in omega arith))

      sum_is : sum_of (at_b.front ++ to ∷ at_b.back) ≡ total
      sum_is =
          sum_moved at_b.front at_b.balance (pos 1) at_b.back
          ∙ (ap (λ (all : List ℤ). sum_of all +ℤ pos 1) (sym at_b.is)
          ∙ (ap (λ (n : ℤ). n +ℤ pos 1) (sum_moved at_a.front at_a.balance (negsuc 0) at_a.back)
          ∙ (+ℤ_assoc (sum_of (at_a.front ++ at_a.balance ∷ at_a.back)) (negsuc 0) (pos 1)
          ∙ (+ℤ_idr (sum_of (at_a.front ++ at_a.balance ∷ at_a.back)) ∙ (ap sum_of (sym at_a.is) ∙ are.sum)))))

      by_moved : (left : List PlainRow) → Moved tables a b from to left → AreAccounts total left
      by_moved _ Kept = are
      by_moved _ Wrote = record {
        balances = at_b.front ++ to ∷ at_b.back;
        rows = ap (λ (rows : List PlainRow). with_write rows (write_of b to)) rows_then ∙ written_there 0 at_b.front at_b.balance to at_b.back b (let at = at_b.at in omega arith);
        sixteen = same_length at_b.front to at_b.balance at_b.back ∙ (ap length (sym at_b.is) ∙ as_many);
        sum = sum_is;
      }

      moved_keeps : AreAccounts total (left_by (mean account_shape tables settings (pay a b) draws))
      moved_keeps = by_moved (left_by (mean account_shape tables settings (pay a b) draws)) (move_left tables a b from to (fits_i64 from) (fits_i64 to) first_paid next_paid)

    left_so : (asked : Call) → IsTransferCall asked → AreAccounts total (left_by (mean account_shape tables settings asked draws))
    left_so _ (IsLook a less) = subst (AreAccounts total) (sym (looked tables a (first_of (map (λ one. one.row) (rows_at tables (place_at a)))))) are
    left_so _ (IsMove a b less_a less_b) = moved_keeps a b less_a less_b
    left_so _ IsCommit = are

pub call_keeps : TransfersKeepAccounts
call_keeps asked total tables settings draws meant is_one are is = subst (AreAccounts total) (ap left_by is) (left_so settings draws total tables are asked is_one)
