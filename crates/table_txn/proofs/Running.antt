-- The statements of a call, one after the other.
use Rattle.std.proofs.Common.{◌≡◌, ℕ, ◌+◌, ◌<◌, ◌≤◌, Bool, true, false, cond, List, [], ◌∷◌, ◌++◌, length, take, drop, get_or, refl, sym, ap, ◌∙◌, subst, append_assoc, append-nil}
use Rattle.std.specs.Prelude.{Option, Some, None, option_map}
use Rattle.std.specs.List.{list_all}
use Rattle.std.proofs.lemmas.List.{take_at, map-append}
use Rattle.std.proofs.Math.ListN.{drop_of_length-le}
use Rattle.svc_values.specs.declared.schema.Shape.{Shape}
use Rattle.svc_values.specs.declared.schema.Schema.{Schema}
use Rattle.svc_values.specs.declared.draw.Draw.{Draw}
use Rattle.svc_values.specs.declared.statement.Statement.{Statement}
use Rattle.svc_values.specs.declared.call.Call.TheVariants as call
use Rattle.svc_values.specs.declared.answer.Answer.{Answer}
use Rattle.svc_values.specs.declared.entry.Write.{Write}
use Rattle.svc_values.specs.declared.tables.PlainRow.{PlainRow}
use Rattle.svc_values.specs.declared.tables.Place.{Place}
use Rattle.svc_values.specs.meaning.Fitting.{write_fits, writes_fit}
use Rattle.svc_values.specs.Fitting.{tables_fit}
use Rattle.svc_values.specs.meaning.SettingsList.{NamedValues}
use Rattle.svc_values.specs.meaning.Tables.{with_write, with_writes}
use Rattle.svc_values.proofs.Offered.{with_writes-append}
use Rattle.stmt_meaning.specs.declared.fault.TxnFault.{TxnFault}
use Rattle.stmt_meaning.specs.Drawing.{Drew, DrewAll, Ends}
use Rattle.stmt_meaning.specs.InnerRunning.{one_left, all_left}
use Rattle.stmt_meaning.specs.meaning.Meaning.{AllDone, Meant, after_first, and_on, ended_by, mean, statements_done, worked}
use Rattle.stmt_meaning.specs.meaning.Reads.{Read, read_at, reads_at}
use Rattle.stmt_meaning.proofs.Offered.{RanSoFar, ends_as, left_is, mean-fits, ran_all, ran_drew, ran_ended, ran_none, ran_on, ran_refusal}
use Rattle.table_store.specs.Stored.{Stored, AreKept}
use Rattle.table_store.proofs.Offered.{fits_one, fits_if_any, all_with_write}
use Rattle.table_txn.specs.InnerSteps.{HasNext}
use Rattle.table_txn.specs.Readings.{AreReadings}
use Rattle.table_txn.specs.Transactions.{Transaction, shape_of, meaning, HasRun}
use Rattle.table_txn.proofs.Same.{both, both_if}

-- draws that are left by a call
same_rest : (rows : List PlainRow) (settings : NamedValues) (all : Option AllDone) → option_map (λ (m : Meant). m.rest) (worked rows settings false all) ≡ option_map (λ (done : AllDone). done.rest) all
same_rest rows settings None = refl
same_rest rows settings (Some all) = by_end all.refused
  where
    by_end : (b : Bool) → option_map (λ (m : Meant). m.rest) (worked rows settings false (Some (record all { refused = b }))) ≡ Some all.rest
    by_end true = refl
    by_end false = refl

module _ {S : Type 0} (drew : S → Drew → S → Type 0) (tables : Stored) (names : List (List ℕ)) (settings : NamedValues) (old : Transaction) (statements : List Statement) (before : S) where
  abbrev rows : List PlainRow
  rows = with_writes tables.rows old.writes

  abbrev shape : Shape
  shape = shape_of tables names

  abbrev call_left : List Draw → Option (List Draw)
  call_left = λ draws. option_map (λ (m : Meant). m.rest) (meaning tables names settings old statements draws)

  -- the statements so far, none of which was refused, and those that are left
  pub record SoFar (answers : List Answer) (drawn : List Draw) (now : Transaction) (source : S) (left : List Statement) : Type 0 where
    pub more_writes : List Write
    pub reads : List Place
    pub run : RanSoFar drew shape rows settings statements before answers more_writes reads drawn (with_writes tables.rows now.writes) source left
    pub wrote : now.writes ≡ old.writes ++ more_writes
    pub was_read : (some : List Read) → AreReadings old.readings some → AreReadings now.readings (some ++ reads_at tables.rows reads)
    pub same_pieces : now.pieces ≡ old.pieces

  pub begins : (answers : List Answer) (drawn : List Draw) → answers ≡ [] → drawn ≡ [] → SoFar answers drawn old before statements
  begins answers drawn none nothing = record {
    more_writes = [];
    reads = [];
    run = ran_none drew shape rows settings statements before answers drawn rows none nothing refl;
    wrote = sym (append-nil old.writes);
    was_read = λ some are. subst (AreReadings old.readings) (sym (append-nil some)) are;
    same_pieces = refl;
  }

  -- the statement at a place of the list
  pub at_next : (answers : List Answer) (drawn : List Draw) (now : Transaction) (source : S) (all : List Statement) (i : ℕ) (statement : Statement) → i < length all → statement ≡ get_or all i statement → SoFar answers drawn now source (drop i all)
      → SoFar answers drawn now source (statement ∷ drop (i + 1) all)
  at_next answers drawn now source all i statement lt is at = subst (λ left. SoFar answers drawn now source left) (left_is all i statement lt is) at

  -- the next statement was ended, the source's names being these
  pub ended_under : (answers : List Answer) (drawn : List Draw) (now : Transaction) (source : S) (first : Statement) (rest : List Statement) → SoFar answers drawn now source (first ∷ rest) → (these : List (List ℕ)) → these ≡ names
      → (fault : TxnFault) (new : S) → Ends drew (one_left (shape_of tables these) (with_writes tables.rows now.writes) settings first) source fault new → Ends drew call_left before fault new
  ended_under answers drawn now source first rest at these same fault new e =
      ends_as drew (all_left shape rows settings statements) call_left (λ draws. same_rest rows settings (statements_done shape rows settings statements draws)) before fault new
      (ran_ended drew shape rows settings statements before answers at.more_writes at.reads drawn (with_writes tables.rows now.writes) source first rest at.run fault new
      (subst (λ n. Ends drew (one_left (shape_of tables n) (with_writes tables.rows now.writes) settings first) source fault new) same e))

  module _ (answers : List Answer) (drawn : List Draw) (now : Transaction) (source : S) (first : Statement) (rest : List Statement) (at : SoFar answers drawn now source (first ∷ rest))
      (is_refused : Bool) (next : Transaction) (new : S) (more : List Answer) (longer : List Draw) (done : HasNext drew tables names settings now first source answers drawn is_refused next new more longer) where
    abbrev here : List PlainRow
    here = with_writes tables.rows now.writes

    reads_push : (some : List Read) → some ++ reads_at tables.rows at.reads ++ reads_at tables.rows done.one.reads ≡ some ++ reads_at tables.rows (at.reads ++ done.one.reads)
    reads_push some = append_assoc some (reads_at tables.rows at.reads) (reads_at tables.rows done.one.reads) ∙ ap (λ l. some ++ l) (sym (map-append (read_at tables.rows) at.reads done.one.reads))

    read_longer : (some : List Read) → AreReadings old.readings some → AreReadings next.readings (some ++ reads_at tables.rows (at.reads ++ done.one.reads))
    read_longer some are = subst (AreReadings next.readings) (reads_push some) (done.done.was_read (some ++ reads_at tables.rows at.reads) (at.was_read some are))

    wrote_longer : next.writes ≡ old.writes ++ (at.more_writes ++ done.one.writes)
    wrote_longer = done.done.wrote ∙ ap (λ w. w ++ done.one.writes) at.wrote ∙ append_assoc old.writes at.more_writes done.one.writes

    pub goes_on : is_refused ≡ false → SoFar more longer next new rest
    goes_on kept = record {
      more_writes = at.more_writes ++ done.one.writes;
      reads = at.reads ++ done.one.reads;
      run = ran_on drew shape rows settings statements before answers at.more_writes at.reads drawn here source first rest at.run done.one new longer done.done.ran (sym done.refusal ∙ kept) more done.answered (with_writes tables.rows next.writes)
          (ap (with_writes tables.rows) done.done.wrote ∙ with_writes-append tables.rows now.writes done.one.writes);
      wrote = wrote_longer;
      was_read = read_longer;
      same_pieces = done.done.same_pieces ∙ at.same_pieces;
    }

    -- a refusal ends the call, and its writes are taken back
    pub refused : is_refused ≡ true → (back : Transaction) → back ≡ record next { writes = take (length old.writes) next.writes } → HasRun tables names settings old statements more longer back × DrewAll drew before longer new
    refused gone back taken =
        let meant : Meant = record { answers = answers ++ done.one.answer ∷ []; tables = rows; settings = settings; writes = []; reads = at.reads ++ done.one.reads; rest = [] } in
        let ended = ran_refusal drew shape rows settings statements before answers at.more_writes at.reads drawn here source first rest at.run done.one new longer done.done.ran (sym done.refusal ∙ gone) [] in
        let kept : take (length old.writes) next.writes ≡ old.writes = ap (take (length old.writes)) wrote_longer ∙ take_at old.writes (at.more_writes ++ done.one.writes) (length old.writes) refl in
        let run : HasRun tables names settings old statements more longer back = record {
          meant = meant;
          means = ap (worked rows settings false) (ap (statements_done shape rows settings statements) (sym (append-nil longer)) ∙ ended);
          used = refl;
          answered = done.answered;
          wrote = ap (λ (t : Transaction). t.writes) taken ∙ kept ∙ sym (append-nil old.writes);
          was_read = λ some are. subst (λ (t : Transaction). AreReadings t.readings (some ++ reads_at tables.rows (at.reads ++ done.one.reads))) (sym taken) (read_longer some are);
          same_pieces = ap (λ (t : Transaction). t.pieces) taken ∙ done.done.same_pieces ∙ at.same_pieces;
        } in (run, ran_drew drew shape rows settings statements before answers at.more_writes at.reads drawn here source first rest at.run done.one new longer done.done.ran)

  -- no statement is left
  pub ran_whole : (answers : List Answer) (drawn : List Draw) (now : Transaction) (source : S) (all : List Statement) (i : ℕ) → length all ≤ i → SoFar answers drawn now source (drop i all)
      → HasRun tables names settings old statements answers drawn now × DrewAll drew before drawn source
  ran_whole answers drawn now source all i le so_far =
      let at : SoFar answers drawn now source [] = subst (λ left. SoFar answers drawn now source left) (drop_of_length-le all {i = i} le) so_far in
      let meant : Meant = record { answers = answers ++ []; tables = with_writes rows at.more_writes; settings = settings; writes = at.more_writes; reads = at.reads; rest = [] } in
      let ended = ran_all drew shape rows settings statements before answers at.more_writes at.reads drawn (with_writes tables.rows now.writes) source at.run [] in
      let run : HasRun tables names settings old statements answers drawn now = record {
        meant = meant;
        means = ap (worked rows settings false) (ap (statements_done shape rows settings statements) (sym (append-nil drawn)) ∙ ended);
        used = refl;
        answered = sym (append-nil answers);
        wrote = at.wrote;
        was_read = at.was_read;
        same_pieces = at.same_pieces;
      } in (run, at.run.drew_all)

-- the same under the names of the source as it is now
pub next_under : {S : Type 0} (drew : S → Drew → S → Type 0) (tables : Stored) (names : List (List ℕ)) (settings : NamedValues) (now : Transaction) (statement : Statement) (source : S) (answers : List Answer) (drawn : List Draw)
    (these : List (List ℕ)) → these ≡ names → (is_refused : Bool) (next : Transaction) (new : S) (more : List Answer) (longer : List Draw)
    → HasNext drew tables these settings now statement source answers drawn is_refused next new more longer → HasNext drew tables names settings now statement source answers drawn is_refused next new more longer
next_under drew tables names settings now statement source answers drawn these same is_refused next new more longer done = subst (λ n. HasNext drew tables n settings now statement source answers drawn is_refused next new more longer) same done

-- ---- writes that fit

all_append : {X : Type 0} (p : X → Bool) (xs ys : List X) → list_all p xs ≡ true → list_all p ys ≡ true → list_all p (xs ++ ys) ≡ true
all_append p [] ys h k = k
all_append p (x ∷ xs) ys h k = let parts = both (p x) (list_all p xs) h in both_if (p x) (list_all p (xs ++ ys)) parts.0 (all_append p xs ys parts.1 k)

-- tables fit with writes that do
pub fits_over : (schemas : List Schema) (committed : List PlainRow) (writes : List Write) → tables_fit schemas committed ≡ true → writes_fit schemas writes ≡ true → tables_fit schemas (with_writes committed writes) ≡ true
fits_over schemas committed [] fit all = fit
fits_over schemas committed (write ∷ writes) fit all =
    let parts = both (write_fits schemas write) (writes_fit schemas writes) all in
    fits_over schemas (with_write committed write) writes (all_with_write (fits_one schemas) committed write.table write.key write.row fit (fits_if_any schemas write parts.0)) parts.1

-- and so do they with those of one statement more
pub next_fits : {S : Type 0} (drew : S → Drew → S → Type 0) (tables : Stored) (names : List (List ℕ)) (settings : NamedValues) (now : Transaction) (statement : Statement) (source : S) (answers : List Answer) (drawn : List Draw)
    (is_refused : Bool) (next : Transaction) (new : S) (more : List Answer) (longer : List Draw) → AreKept tables → writes_fit tables.schemas now.writes ≡ true
    → HasNext drew tables names settings now statement source answers drawn is_refused next new more longer → is_refused ≡ false → writes_fit tables.schemas next.writes ≡ true
next_fits drew tables names settings now statement source answers drawn is_refused next new more longer kept fit done goes =
    let one = done.one in
    let rows = with_writes tables.rows now.writes in
    let shape = shape_of tables names in
    let none : AllDone = record { answers = []; writes = []; reads = []; rest = one.rest; refused = false } in
    let meant : Meant = record { answers = (one.answer ∷ []) ++ []; tables = with_writes rows (one.writes ++ []); settings = settings; writes = one.writes ++ []; reads = one.reads ++ []; rest = one.rest } in
    let means : mean shape rows settings (call.Work (statement ∷ []) false) done.done.ran.given ≡ Some meant =
    ap (λ o. worked rows settings false (and_on o (λ first. statements_done shape (with_writes rows first.writes) settings [] first.rest))) done.done.ran.means
    ∙ ap (λ b. worked rows settings false (cond b (ended_by one) (after_first one (Some none)))) (sym done.refusal ∙ goes) in
    let made = mean-fits shape rows settings (call.Work (statement ∷ []) false) done.done.ran.given meant (fits_over tables.schemas tables.rows now.writes kept.fitting fit) means in
    ap (writes_fit tables.schemas) done.done.wrote
    ∙ all_append (write_fits tables.schemas) now.writes one.writes fit (sym (ap (writes_fit tables.schemas) (append-nil one.writes)) ∙ made)
