-- The rows of accounts with consecutive keys: what stands at a key, and what a write of one leaves.
use Rattle.std.proofs.Common.{◌≡◌, ℕ, zero, suc, ◌+◌, ◌<◌, true, false, List, [], ◌∷◌, ◌++◌, length, refl, sym, ap, ◌∙◌, arith}
use Rattle.std.specs.Prelude.{ℤ, pos, Some, ◌+ℤ◌, codes}
use Rattle.std.proofs.lemmas.Bool.{lt-ltb, le-ltb}
use Rattle.std.proofs.Math.IntN.{+ℤ_assoc, +ℤ_comm}
use Rattle.svc_values.specs.declared.value.Value.TheVariants as value
use Rattle.svc_values.specs.declared.tables.Place.{Place}
use Rattle.svc_values.specs.declared.tables.Place.TheVariants as place
use Rattle.svc_values.specs.SameLaws.{same_value_decides}
use Rattle.svc_values.specs.meaning.Tables.{is_at, rows_at, comes_before, put_row, without, with_write}
use Rattle.load_laws.specs.Accounts.{account_at, accounts_with, sum_of}

abbrev pub place_at : ℕ → Place
place_at n = place.Row (codes "acc") (value.Int (pos n))

-- ---- keys

same_key : (n k : ℕ) (balance : ℤ) → n ≡ k → is_at (place_at n) (account_at k balance) ≡ true
same_key n k balance same = (same_value_decides (value.Int (pos k)) (value.Int (pos n))).1 (ap (λ key. value.Int (pos key)) (sym same))

lower_key : (n k : ℕ) (balance : ℤ) → k < n → is_at (place_at n) (account_at k balance) ≡ false
lower_key n k balance less = rw (lt-ltb k n less) refl

higher_key : (n k : ℕ) (balance : ℤ) → n < k → is_at (place_at n) (account_at k balance) ≡ false
higher_key n k balance less = rw (le-ltb k n (omega arith), lt-ltb n k less) refl

earlier : (n k : ℕ) (a b : ℤ) → n < k → comes_before (account_at n a) (account_at k b) ≡ true
earlier n k a b less = rw (lt-ltb n k less) refl

later : (n k : ℕ) (a b : ℤ) → k < n → comes_before (account_at n a) (account_at k b) ≡ false
later n k a b less = rw (le-ltb n k (omega arith), lt-ltb k n less) refl

-- ---- no account has a key below the first one

none_at : (n k : ℕ) (balances : List ℤ) → n < k → rows_at (accounts_with k balances) (place_at n) ≡ []
none_at n k [] less = refl
none_at n k (balance ∷ balances) less = rw (higher_key n k balance less) (none_at n (suc k) balances (omega arith))

all_left : (n k : ℕ) (balances : List ℤ) → n < k → without (accounts_with k balances) (codes "acc") (value.Int (pos n)) ≡ accounts_with k balances
all_left n k [] less = refl
all_left n k (balance ∷ balances) less = rw (higher_key n k balance less) (ap (λ rows. account_at k balance ∷ rows) (all_left n (suc k) balances (omega arith)))

put_first : (n k : ℕ) (a : ℤ) (balances : List ℤ) → n < k → put_row (account_at n a) (accounts_with k balances) ≡ account_at n a ∷ accounts_with k balances
put_first n k a [] less = refl
put_first n k a (balance ∷ balances) less = rw (earlier n k a balance less) refl

-- ---- the account behind so many

pub row_there : (k : ℕ) (front : List ℤ) (balance : ℤ) (back : List ℤ) (n : ℕ) → n ≡ k + length front → rows_at (accounts_with k (front ++ balance ∷ back)) (place_at n) ≡ account_at n balance ∷ []
row_there k [] balance back n is =
    let same : n ≡ k = omega arith in
    rw (same_key n k balance same) (ap (λ rows. account_at k balance ∷ rows) (none_at n (suc k) back (omega arith)) ∙ ap (λ key. account_at key balance ∷ []) (sym same))
row_there k (first ∷ front) balance back n is =
    rw (lower_key n k first (omega arith)) (row_there (suc k) front balance back n (omega arith))

-- the balance of that account is another one
pub written_there : (k : ℕ) (front : List ℤ) (balance new : ℤ) (back : List ℤ) (n : ℕ) → n ≡ k + length front
    → with_write (accounts_with k (front ++ balance ∷ back)) (record { table = codes "acc"; key = value.Int (pos n); row = Some (value.Int (pos n) ∷ value.Int new ∷ []) }) ≡ accounts_with k (front ++ new ∷ back)
written_there k [] balance new back n is =
    let same : n ≡ k = omega arith in
    rw (same_key n k balance same)
    (ap (put_row (account_at n new)) (all_left n (suc k) back (omega arith)) ∙ (put_first n (suc k) new back (omega arith) ∙ ap (λ key. account_at key new ∷ accounts_with (suc k) back) same))
written_there k (first ∷ front) balance new back n is =
    rw (lower_key n k first (omega arith), later n k new first (omega arith)) (ap (λ rows. account_at k first ∷ rows) (written_there (suc k) front balance new back n (omega arith)))

-- ---- the sum

pub sum_moved : (front : List ℤ) (balance by : ℤ) (back : List ℤ) → sum_of (front ++ (balance +ℤ by) ∷ back) ≡ sum_of (front ++ balance ∷ back) +ℤ by
sum_moved [] balance by back = +ℤ_assoc balance by (sum_of back) ∙ (ap (λ n. balance +ℤ n) (+ℤ_comm by (sum_of back)) ∙ sym (+ℤ_assoc balance (sum_of back) by))
sum_moved (first ∷ front) balance by back = ap (λ n. first +ℤ n) (sum_moved front balance by back) ∙ sym (+ℤ_assoc first (sum_of (front ++ balance ∷ back)) by)

-- ---- the place of an account among sixteen

pub record Split (balances : List ℤ) (n : ℕ) : Type 0 where
  pub front : List ℤ
  pub balance : ℤ
  pub back : List ℤ
  pub is : balances ≡ front ++ balance ∷ back
  pub at : n ≡ length front

pub split : (balances : List ℤ) (n : ℕ) → n < length balances → Split balances n
split [] n less = absurd (omega arith)
split (first ∷ balances) zero less = record { front = []; balance = first; back = balances; is = refl; at = refl }
split (first ∷ balances) (suc n) less =
    let more : Split balances n = split balances n (omega arith) in
    record { front = first ∷ more.front; balance = more.balance; back = more.back; is = ap (λ all. first ∷ all) more.is; at = ap suc more.at }

pub same_length : (front : List ℤ) (balance new : ℤ) (back : List ℤ) → length (front ++ balance ∷ back) ≡ length (front ++ new ∷ back)
same_length [] balance new back = refl
same_length (first ∷ front) balance new back = ap suc (same_length front balance new back)
