-- A scan over committed rows with writes over them, one key after the other.
use Rattle.std.proofs.Common.{◌≡◌, ◌⊎◌, inl, inr, ℕ, zero, suc, ◌<◌, Bool, true, false, not, cond, List, [], ◌∷◌, ◌++◌, length, refl, sym, ap, ◌∙◌, subst, append-nil, arith}
use Rattle.std.specs.Prelude.{Option, Some, None, filter, map, fold, slice_get, option_and_then, option_to_list, ◌&&◌}
use Rattle.std.specs.List.{AllByRecursion}
use Rattle.std.specs.List.Sorted.{IsStrictlySortedBy}
use Rattle.std.specs.Map.{values_of, keys_of, lookup}
use Rattle.std.specs.BTreeMap.{is_at as is_key}
use Rattle.std.specs.BTreeMap.Range.{entries_between, range_contains, is_past_end}
use Rattle.std.specs.declared.cmp.Ordering.{Ordering}
use Rattle.std.specs.declared.cmp.Ordering.TheVariants.{Less, Equal, Greater}
use Rattle.std.specs.declared.ops.Bound.{Bound}
use Rattle.std.specs.declared.ops.Bound.TheVariants.{Excluded, Unbounded}
use Rattle.std.specs.Ordering.{is_eq, is_le, is_lt}
use Rattle.std.proofs.lemmas.Bool.{cases_Bool}
use Rattle.std.proofs.lemmas.List.{map-append}
use Rattle.svc_values.specs.declared.value.Value.{Value}
use Rattle.svc_values.specs.declared.entry.Write.{Write}
use Rattle.svc_values.specs.meaning.Order.{value_cmp}
use Rattle.svc_values.specs.contracts.value.ValueOrd.TheImpl.{cmp-value}
use Rattle.svc_values.proofs.Offered.{cmp_is}
use Rattle.svc_values.specs.meaning.Same.{same_value}
use Rattle.svc_values.specs.SameLaws.{bytes_decide}
use Rattle.stmt_meaning.specs.declared.plan.TableWork.{TableWork}
use Rattle.stmt_meaning.specs.declared.scan.Scan.{Scan}
use Rattle.svc_values.specs.declared.tables.PlainRow.{PlainRow}
use Rattle.svc_values.specs.declared.tables.Place.TheVariants as place
use Rattle.svc_values.specs.meaning.Tables.{is_at, rows_at, with_writes}
use Rattle.svc_values.specs.Tables.{AreTables}
use Rattle.stmt_meaning.specs.meaning.Effects.{table_answer}
use Rattle.stmt_meaning.specs.meaning.Meaning.{seen_at}
use Rattle.stmt_meaning.specs.InnerScans.{scanned, next_scan, last_answer}
use Rattle.svc_values.proofs.Offered.{AreTables-filter, AreTables-with_writes}
use Rattle.stmt_meaning.proofs.Offered.{scanned-append, last_answer-scanned}
use Rattle.table_store.specs.Rows.{Keyed, plain_row, plain_rows, rows_if_any, row_if_any}
use Rattle.table_store.specs.Shelves.{is_place}
use Rattle.table_store.proofs.Offered.{at_place, filter_with_write, with_writes-last}
use Rattle.table_txn.specs.Found.{keyed_or_none}
use Rattle.table_txn.specs.Own.{last_at, last_write}
use Rattle.table_txn.specs.Scanning.{AnswersAs}
use Rattle.table_txn.proofs.Same.{both}
use Rattle.table_txn.proofs.OwnLaws.{last_at-push, own_place as is_own}
use Rattle.table_txn.proofs.Over.{each_more, last_within, over_row, stands}
use Rattle.table_txn.proofs.Picks.{pick, filter_filter, pick_all, Up, up_of, from, from_up, flip, tied, three_parts, last_part}

-- ---- rows that no write touches

module _ (rows : List PlainRow) (table : List ℕ) (p : Value → Bool) where
  abbrev sees : PlainRow → Bool
  sees r = is_at (place.Table table) r && p r.key

  abbrev NoWrite : List Write → Type 0
  NoWrite writes = (key : Value) → p key ≡ true → last_at writes table key ≡ None

  here_none : (writes : List Write) (write : Write) → NoWrite (writes ++ write ∷ []) → (key : Value) → p key ≡ true → (is_place write.table write.key table key ≡ false) × (last_at writes table key ≡ None)
  here_none writes write none key h = by_place (is_place write.table write.key table key) refl (sym (last_at-push writes write table key) ∙ none key h)
    where
      by_place : (b : Bool) → is_place write.table write.key table key ≡ b → cond b (Some (length writes)) (last_at writes table key) ≡ None → (is_place write.table write.key table key ≡ false) × (last_at writes table key ≡ None)
      by_place true e g = cc
      by_place false e g = (e, g)

  unseen : (writes : List Write) (write : Write) → NoWrite (writes ++ write ∷ []) → (r : PlainRow) → is_at (place.Row write.table write.key) r ≡ true → sees r ≡ false
  unseen writes write none r here = by_test (cases_Bool (sees r))
    where
      by_test : (sees r ≡ true) ⊎ (sees r ≡ false) → sees r ≡ false
      by_test (inr away) = away
      by_test (inl seen) =
          let parts = both (is_at (place.Table table) r) (p r.key) seen in
          let own = at_place write.table write.key r here in
          let there : r.table ≡ table = (bytes_decide r.table table).0 parts.0 in
          let tables : write.table ≡ table = sym own.0 ∙ there in
          let away : is_place write.table write.key table r.key ≡ false = (here_none writes write none r.key parts.1).0 in
          let is : is_place write.table write.key table r.key ≡ true = subst (λ (t : List ℕ). is_place write.table write.key t r.key ≡ true) tables (subst (λ (k : Value). is_place write.table write.key write.table k ≡ true) (sym own.1) (is_own write.table write.key)) in
          let never : true ≡ false = sym is ∙ away in cc

  same_seen : (writes : List Write) → NoWrite writes → filter sees (with_writes rows writes) ≡ filter sees rows
  same_seen = each_more (λ writes. NoWrite writes → filter sees (with_writes rows writes) ≡ filter sees rows) (λ none. refl) step
    where
      step : (writes : List Write) (write : Write) → (NoWrite writes → filter sees (with_writes rows writes) ≡ filter sees rows) → NoWrite (writes ++ write ∷ []) → filter sees (with_writes rows (writes ++ write ∷ [])) ≡ filter sees rows
      step writes write before none =
          ap (filter sees) (with_writes-last rows writes write)
          ∙ filter_with_write sees (with_writes rows writes) write.table write.key write.row (unseen writes write none)
          ∙ before (λ key h. (here_none writes write none key h).1)

  pub untouched : (writes : List Write) → NoWrite writes → pick p (rows_at (with_writes rows writes) (place.Table table)) ≡ pick p (rows_at rows (place.Table table))
  untouched writes none =
      filter_filter (λ (r : PlainRow). p r.key) (is_at (place.Table table)) (with_writes rows writes) ∙ same_seen writes none ∙ sym (filter_filter (λ (r : PlainRow). p r.key) (is_at (place.Table table)) rows)

-- ---- the rows alone

abbrev pub rows_of : List PlainRow → List (List Value)
rows_of rows = map (λ one. one.row) rows

pick_plain : (p : Value → Bool) (table : List ℕ) (entries : Keyed) → rows_of (pick p (plain_rows table entries)) ≡ values_of (filter (λ e. p e.0) entries)
pick_plain p table [] = refl
pick_plain p table (e ∷ es) = by_test (p e.0) (pick_plain p table es)
  where
    by_test : (b : Bool) → rows_of (pick p (plain_rows table es)) ≡ values_of (filter (λ e. p e.0) es) → rows_of (cond b (plain_row table e ∷ pick p (plain_rows table es)) (pick p (plain_rows table es))) ≡ values_of (cond b (e ∷ filter (λ e. p e.0) es) (filter (λ e. p e.0) es))
    by_test true same = ap (λ l. e.1 ∷ l) same
    by_test false same = same

if_any_rows : (table : List ℕ) (shelf : Option Keyed) → rows_if_any table shelf ≡ plain_rows table (keyed_or_none shelf)
if_any_rows table None = refl
if_any_rows table (Some entries) = refl

module _ (rows : List PlainRow) (writes : List Write) (table : List ℕ) where
  abbrev seen : List PlainRow
  seen = rows_at (with_writes rows writes) (place.Table table)

  -- a part in which nothing was written
  pub committed_part : (shelf : Option Keyed) → rows_at rows (place.Table table) ≡ rows_if_any table shelf → (lo hi : Bound Value) → ((key : Value) → range_contains value_cmp lo hi key ≡ true → last_at writes table key ≡ None)
      → rows_of (pick (range_contains value_cmp lo hi) seen) ≡ values_of (entries_between value_cmp lo hi (keyed_or_none shelf))
  committed_part shelf there lo hi none =
      ap rows_of (untouched rows table (range_contains value_cmp lo hi) writes none ∙ ap (pick (range_contains value_cmp lo hi)) (there ∙ if_any_rows table shelf))
      ∙ pick_plain (range_contains value_cmp lo hi) table (keyed_or_none shelf)

  got : {A : Type 0} (xs : List A) (i : ℕ) → i < length xs → (x : A) × (slice_get xs i ≡ Some x)
  got [] i lt = absurd (omega arith)
  got (x ∷ xs) zero lt = (x, refl)
  got (x ∷ xs) (suc i) lt = got xs i (omega arith)

  written_row : (key : Value) (write : Write) → rows_of (row_if_any table key write.row) ≡ option_to_list write.row
  written_row key write = by_row write.row
    where
      by_row : (row : Option (List Value)) → rows_of (row_if_any table key row) ≡ option_to_list row
      by_row None = refl
      by_row (Some row) = refl

  -- the row of a key that was written
  pub own_part : (key : Value) (at : ℕ) → last_at writes table key ≡ Some at → (write : Option Write) → write ≡ slice_get writes at
      → rows_of (pick (λ q. same_value q key) seen) ≡ option_to_list (option_and_then (λ (w : Write). w.row) write)
  own_part key at last write is =
      let one = got writes at (last_within table key writes at last) in
      let written : last_write writes table key ≡ Some one.0 = ap (option_and_then (slice_get writes)) last ∙ one.1 in
      ap rows_of (filter_filter (λ (r : PlainRow). same_value r.key key) (is_at (place.Table table)) (with_writes rows writes) ∙ over_row rows table key writes ∙ ap (stands rows table key) written)
      ∙ written_row key one.0
      ∙ sym (ap (λ o. option_to_list (option_and_then (λ (w : Write). w.row) o)) (is ∙ one.1))

  up_seen : AreTables rows → Up seen
  up_seen ordered = up_of table (with_writes rows writes) (AreTables-filter (is_at (place.Table table)) (with_writes rows writes) (AreTables-with_writes rows writes ordered))

  -- ---- keys that are left

  abbrev Left : Type 0
  Left = List (Value × ℕ)

  abbrev looked : Left → Value → Option ℕ
  looked left q = lookup (is_key (value_cmp q)) left

  lookup_none : (q : Value) (left : Left) → AllByRecursion (λ k. value_cmp q k ≡ Less) (keys_of left) → looked left q ≡ None
  lookup_none q [] above = refl
  lookup_none q (e ∷ es) above = ap (λ o. cond (is_eq o) (Some e.1) (looked es q)) above.0 ∙ lookup_none q es above.1

  through : (a b : Value) (keys : List Value) → value_cmp a b ≡ Less → AllByRecursion (λ k. value_cmp b k ≡ Less) keys → AllByRecursion (λ k. value_cmp a k ≡ Less) keys
  through a b [] lt above = tt
  through a b (k ∷ keys) lt above = (less_trans, through a b keys lt above.1)
    where
      less_trans : value_cmp a k ≡ Less
      less_trans = less (value_cmp a k) (from_up (Excluded a) b k (ap is_lt lt) above.0)
        where
          less : (o : Ordering) → is_lt o ≡ true → o ≡ Less
          less Less e = refl
          less Equal e = cc
          less Greater e = cc

  -- The keys that are left are in order and from the bound on, and from there on they tell what was
  -- written.
  pub record AreLeft (lo : Bound Value) (left : Left) : Type 0 where
    pub rising : IsStrictlySortedBy value_cmp (keys_of left)
    pub above : AllByRecursion (λ k. from lo k ≡ true) (keys_of left)
    pub tells : (q : Value) → from lo q ≡ true → last_at writes table q ≡ looked left q

  all_open : (keys : List Value) → AllByRecursion (λ k. from Unbounded k ≡ true) keys
  all_open [] = tt
  all_open (k ∷ keys) = (refl, all_open keys)

  pub left_first : (left : Left) → IsStrictlySortedBy value_cmp (keys_of left) → ((q : Value) → looked left q ≡ last_at writes table q) → AreLeft Unbounded left
  left_first left rising tells = record { rising = rising; above = all_open (keys_of left); tells = λ q h. sym (tells q) }

  module _ (lo : Bound Value) (left rest : Left) (key : Value) (at : ℕ) (are : AreLeft lo left) (is : left ≡ (key, at) ∷ rest) where
    there_left : AreLeft lo ((key, at) ∷ rest)
    there_left = subst (AreLeft lo) is are

    pub key_from : from lo key ≡ true
    key_from = there_left.above.0

    key_rising : IsStrictlySortedBy value_cmp (key ∷ keys_of rest)
    key_rising = there_left.rising

    rest_above : AllByRecursion (λ k. value_cmp key k ≡ Less) (keys_of rest)
    unfolding IsStrictlySortedBy
    rest_above = key_rising.0

    pub key_last : last_at writes table key ≡ Some at
    key_last = there_left.tells key key_from ∙ ap (λ o. cond (is_eq o) (Some at) (looked rest key)) (tied key)

    -- nothing was written between
    pub none_between : (q : Value) → range_contains value_cmp lo (Excluded key) q ≡ true → last_at writes table q ≡ None
    none_between q h =
        let parts = both (from lo q) (not (is_past_end value_cmp (Excluded key) q)) h in
        let lt : value_cmp q key ≡ Less = below (value_cmp key q) refl parts.1 in
        there_left.tells q parts.0 ∙ lookup_none q ((key, at) ∷ rest) (lt, through q key (keys_of rest) lt rest_above)
      where
        below : (o : Ordering) → value_cmp key q ≡ o → not (is_le o) ≡ true → value_cmp q key ≡ Less
        below Less e g = cc
        below Equal e g = cc
        below Greater e g = flip key q Greater e

    are_above : (keys : List Value) → AllByRecursion (λ k. value_cmp key k ≡ Less) keys → AllByRecursion (λ k. from (Excluded key) k ≡ true) keys
    are_above [] above = tt
    are_above (k ∷ keys) above = (ap is_lt above.0, are_above keys above.1)

    pub left_next : AreLeft (Excluded key) rest
    unfolding IsStrictlySortedBy
    left_next = record {
      rising = key_rising.1;
      above = are_above (keys_of rest) rest_above;
      tells = λ q h.
          let lt : value_cmp key q ≡ Less = less (value_cmp key q) h in
          there_left.tells q (from_up lo key q key_from lt) ∙ ap (λ o. cond (is_eq o) (Some at) (looked rest q)) (flip key q Less lt);
    }
      where
        less : (o : Ordering) → is_lt o ≡ true → o ≡ Less
        less Less e = refl
        less Equal e = cc
        less Greater e = cc

  -- ---- a scan on its way

  module _ (first : Scan) where
    -- the scan answers with the rows from the bound on as the first one with all
    abbrev pub AnswersSo : Scan → Bound Value → Type 0
    AnswersSo scan lo = last_answer (fold next_scan scan (rows_of (pick (from lo) seen))) ≡ last_answer (fold next_scan first (rows_of seen))

    pub answers_first : AnswersSo first Unbounded
    answers_first = ap (λ l. last_answer (fold next_scan first (rows_of l))) (pick_all seen)

    own_then : (scan : Scan) (row : Option (List Value)) (more : List (List Value)) → fold next_scan (fold next_scan scan (option_to_list row)) more ≡ fold next_scan scan (option_to_list row ++ more)
    own_then scan None more = refl
    own_then scan (Some row) more = refl

    module _ (shelf : Option Keyed) (there : rows_at rows (place.Table table) ≡ rows_if_any table shelf) (ordered : AreTables rows) (lo : Bound Value) (left rest : Left) (key : Value) (at : ℕ) (are : AreLeft lo left) (is : left ≡ (key, at) ∷ rest) (scan : Scan) (so_far : AnswersSo scan lo) where
      pub answers_next : (between : Scan) → AnswersAs between scan (values_of (entries_between value_cmp lo (Excluded key) (keyed_or_none shelf)))
          → (write : Option Write) → write ≡ slice_get writes at → (next : Scan) → next ≡ fold next_scan between (option_to_list (option_and_then (λ (w : Write). w.row) write)) → AnswersSo next (Excluded key)
      answers_next between shown write found next written =
          let own = option_and_then (λ (w : Write). w.row) write in
          let behind = rows_of (pick (from (Excluded key)) seen) in
          let below = values_of (entries_between value_cmp lo (Excluded key) (keyed_or_none shelf)) in
          let parts : rows_of (pick (from lo) seen) ≡ below ++ (option_to_list own ++ behind) =
          ap rows_of (three_parts lo key (key_from lo left rest key at are is) seen (up_seen ordered))
          ∙ map-append (λ (r : PlainRow). r.row) (pick (range_contains value_cmp lo (Excluded key)) seen) (pick (λ q. same_value q key) seen ++ pick (from (Excluded key)) seen)
          ∙ ap (λ l. l ++ rows_of (pick (λ q. same_value q key) seen ++ pick (from (Excluded key)) seen)) (committed_part shelf there lo (Excluded key) (none_between lo left rest key at are is))
          ∙ ap (λ l. below ++ l)
          (map-append (λ (r : PlainRow). r.row) (pick (λ q. same_value q key) seen) (pick (from (Excluded key)) seen) ∙ ap (λ l. l ++ behind) (own_part key at (key_last lo left rest key at are is) write found)) in
          ap (λ s. last_answer (fold next_scan s behind)) written ∙ ap last_answer (own_then between own behind) ∙ shown (option_to_list own ++ behind)
          ∙ ap (λ l. last_answer (fold next_scan scan l)) (sym parts) ∙ so_far

    -- a scan that no row changes
    pub answers_settled : (scan : Scan) (lo : Bound Value) → AnswersSo scan lo → ((more : List (List Value)) → last_answer (fold next_scan scan more) ≡ last_answer scan) → last_answer scan ≡ last_answer (fold next_scan first (rows_of seen))
    answers_settled scan lo so_far stays = sym (stays (rows_of (pick (from lo) seen))) ∙ so_far

    -- and after the last key
    pub answers_last : (shelf : Option Keyed) → rows_at rows (place.Table table) ≡ rows_if_any table shelf → (scan : Scan) (lo : Bound Value) (left : Left) → AreLeft lo left → left ≡ [] → AnswersSo scan lo → (after : Scan)
        → AnswersAs after scan (values_of (entries_between value_cmp lo Unbounded (keyed_or_none shelf))) → last_answer after ≡ last_answer (fold next_scan first (rows_of seen))
    answers_last shelf there scan lo left are none so_far after shown =
        let last = values_of (entries_between value_cmp lo Unbounded (keyed_or_none shelf)) in
        shown [] ∙ ap (λ l. last_answer (fold next_scan scan l)) (append-nil last)
        ∙ ap (λ l. last_answer (fold next_scan scan l)) (sym (ap rows_of (last_part lo seen) ∙ committed_part shelf there lo Unbounded no_write))
        ∙ so_far
      where
        no_write : (q : Value) → range_contains value_cmp lo Unbounded q ≡ true → last_at writes table q ≡ None
        no_write q h = are.tells q (both (from lo q) true h).0 ∙ ap (λ l. looked l q) none

-- the answer of a scan that was shown all that is seen
pub answer_is : (work : TableWork) (rows : List (List Value)) (after : Scan) → last_answer after ≡ last_answer (fold next_scan (scanned work []) rows) → last_answer after ≡ table_answer work rows
answer_is work rows after is = is ∙ ap last_answer (scanned-append work [] rows) ∙ last_answer-scanned work rows

-- the keys that are left at first: `cmp` is the order of values
pub first_keys : (rows : List PlainRow) (writes : List Write) (table : List ℕ) (entries : List (Value × ℕ)) → IsStrictlySortedBy cmp-value.it (keys_of entries) → ((q : Value) → lookup (is_key (value_cmp q)) entries ≡ last_at writes table q) → AreLeft rows writes table Unbounded entries
first_keys rows writes table entries rising tells = left_first rows writes table entries (subst (λ (R : Value → Value → Ordering). IsStrictlySortedBy R (keys_of entries)) cmp_is rising) tells

-- a table in which nothing was written
pub committed_answers : (rows : List PlainRow) (writes : List Write) (table : List ℕ) (first : Scan) (shelf : Option Keyed) → rows_at rows (place.Table table) ≡ rows_if_any table shelf → ((q : Value) → last_at writes table q ≡ None)
    → (after : Scan) → AnswersAs after first (values_of (entries_between value_cmp Unbounded Unbounded (keyed_or_none shelf))) → last_answer after ≡ last_answer (fold next_scan first (seen_at (with_writes rows writes) (Some (place.Table table))))
unfolding IsStrictlySortedBy
committed_answers rows writes table first shelf there none after shown =
    answers_last rows writes table first shelf there first Unbounded [] (left_first rows writes table [] tt (λ q. sym (none q))) refl (answers_first rows writes table first) after shown
