-- A call that was run again, by what it means.
use Rattle.std.proofs.Common.{◌≡◌, ℕ, ◌==◌, Bool, true, false, cond, List, [], ◌∷◌, ◌++◌, length, refl, sym, ap, ◌∙◌, subst, arith, append-nil}
use Rattle.std.specs.Prelude.{Option, Some, None, IsTrue, option_map}
use Rattle.std.proofs.lemmas.Bool.Decides.{nat_tests}
use Rattle.svc_values.specs.declared.schema.Shape.{Shape}
use Rattle.svc_values.specs.declared.draw.Draw.{Draw}
use Rattle.svc_values.specs.declared.statement.Statement.{Statement}
use Rattle.svc_values.specs.declared.answer.Answer.{Answer}
use Rattle.svc_values.specs.declared.call.Call.TheVariants as call
use Rattle.svc_values.specs.declared.tables.PlainRow.{PlainRow}
use Rattle.svc_values.specs.meaning.Fitting.{writes_fit}
use Rattle.svc_values.specs.meaning.SettingsList.{NamedValues}
use Rattle.svc_values.specs.meaning.Tables.{with_writes}
use Rattle.stmt_meaning.specs.declared.fault.TxnFault.TheVariants as txn_fault
use Rattle.stmt_meaning.specs.Drawing.{DrewAll}
use Rattle.stmt_meaning.specs.Laws.{closed_by}
use Rattle.stmt_meaning.specs.Listed.{Listing, TakesFirst}
use Rattle.stmt_meaning.specs.meaning.Meaning.{AllDone, Meant, commit_answer, mean, statements_done, worked}
use Rattle.stmt_meaning.specs.meaning.SerialTest.{is_nil}
use Rattle.stmt_meaning.proofs.Offered.{commits_last}
use Rattle.table_store.specs.Stored.{Stored}
use Rattle.table_txn.specs.Readings.{StayUnchanged}
use Rattle.table_txn.specs.Transactions.{Transaction, shape_of, HasRun, HasEnded}
use Rattle.calls_again.specs.OnWay.{OnWay, on_way, if_used, taken_with, if_none_left, HasGone, GoesBy}
use Rattle.calls_again.proofs.MoreDraws.{work_more}

-- the draws that were given are the front of the list
took : (old new : Listing) (given : List Draw) → DrewAll TakesFirst old given new → old.draws ≡ given ++ new.draws
took old new [] same = ap (λ (s : Listing). s.draws) (sym same)
took old new (first ∷ rest) (between, (gave, on)) = gave.0 ∙ ap (λ l. first ∷ l) (took between new rest on)

abbrev settings_in : NamedValues → Option Meant → NamedValues
settings_in settings None = settings
settings_in settings (Some m) = m.settings

-- the settings stay
worked_settings : (tables : List PlainRow) (settings : NamedValues) (commit : Bool) (all : Option AllDone) (meant : Meant) → worked tables settings commit all ≡ Some meant → meant.settings ≡ settings
worked_settings tables settings commit None meant e = cc
worked_settings tables settings commit (Some done) meant e = by_refusal done.refused e
  where
    by_refusal : (b : Bool)
        → cond b (Some (record { answers = done.answers; tables = tables; settings = settings; writes = []; reads = done.reads; rest = done.rest }))
        (Some (record { answers = done.answers ++ commit_answer commit; tables = with_writes tables done.writes; settings = settings; writes = done.writes; reads = done.reads; rest = done.rest })) ≡ Some meant
        → meant.settings ≡ settings
    by_refusal true e = ap (settings_in settings) (sym e)
    by_refusal false e = ap (settings_in settings) (sym e)

-- a call uses all its draws, or not
used_all : (m : Meant) → m.rest ≡ [] → if_used (Some m) ≡ Some m
used_all m none = ap (λ ds. cond (is_nil ds) (Some m) None) none

used_not : (m : Meant) (front : List Draw) (draw : Draw) (more : List Draw) → front ≡ [] → m.rest ≡ front ++ draw ∷ more → if_used (Some m) ≡ None
used_not m front draw more none left = ap (λ ds. cond (is_nil ds) (Some m) None) (left ∙ ap (λ l. l ++ draw ∷ more) none)

one_there : (one : Draw) (more : List Draw) → (length (one ∷ more) == 0) ≡ false
one_there one more = grind (arith, nat_tests)

module _ (tables : Stored) (settings : NamedValues) (earlier : Option NamedValues) (txn : Transaction) (statements : List Statement) (commit : Bool) (source : Listing) where
  abbrev rows : List PlainRow
  rows = with_writes tables.rows txn.writes

  abbrev made : Shape
  made = shape_of tables source.names

  abbrev here : OnWay
  here = on_way settings earlier txn

  module _ (answers : List Answer) (draws : List Draw) (new : Transaction) (run : HasRun tables source.names settings txn statements answers draws new) (unchanged : StayUnchanged tables.rows txn.readings new.readings) (fits : IsTrue (writes_fit tables.schemas new.writes)) where
    abbrev with_commit : Meant
    with_commit = record run.meant { answers = closed_by commit run.meant.answers }

    -- what it means with these draws left
    abbrev all : List Draw → Meant
    all ds = record with_commit { rest = with_commit.rest ++ ds }

    gone : (ds : List Draw) → HasGone tables here (all ds) (on_way settings earlier new)
    gone ds =
        let kept : run.meant.settings ≡ settings = worked_settings rows settings false (statements_done made rows settings statements draws) run.meant run.means in
        record { settings = sym kept; at_start = refl; pieces = run.same_pieces; wrote = run.wrote; was_read = run.was_read; unchanged = unchanged; fits = fits }

    by_left : (ds : List Draw) (told : Option (List Answer)) → told ≡ if_none_left (length ds) (closed_by commit answers) → GoesBy tables here (if_used (Some (all ds))) told (on_way settings earlier new)
    by_left [] told is =
        subst (λ (m : Option Meant). GoesBy tables here m told (on_way settings earlier new)) (sym (used_all (all []) (append-nil run.meant.rest ∙ run.used)))
        (subst (λ (o : Option (List Answer)). GoesBy tables here (Some (all [])) o (on_way settings earlier new)) (sym is) (ap (closed_by commit) run.answered, gone []))
    by_left (draw ∷ more) told is =
        subst (λ (m : Option Meant). GoesBy tables here m told (on_way settings earlier new)) (sym (used_not (all (draw ∷ more)) run.meant.rest draw more run.used refl))
        (subst (λ (o : Option (List Answer)). GoesBy tables here None o (on_way settings earlier new)) (sym (is ∙ ap (λ b. cond b (Some (closed_by commit answers)) None) (one_there draw more))) tt)

    -- it ran, with some draws left
    pub goes_worked : (left : Listing) → DrewAll TakesFirst source draws left → (count : ℕ) → count ≡ length left.draws → (told : Option (List Answer)) → told ≡ if_none_left count (closed_by commit answers)
        → GoesBy tables here (taken_with tables source.names here (call.Work statements commit) source.draws) told (on_way settings earlier new)
    goes_worked left drew count counted told said =
        let means : mean made rows settings (call.Work statements commit) draws ≡ Some with_commit = commits_last made rows settings statements draws run.meant run.means commit in
        let whole : mean made rows settings (call.Work statements commit) source.draws ≡ Some (all left.draws) =
        ap (mean made rows settings (call.Work statements commit)) (took source left draws drew) ∙ work_more made rows settings statements commit draws left.draws with_commit means in
        subst (λ (m : Option Meant). GoesBy tables here (if_used m) told (on_way settings earlier new)) (sym whole)
        (by_left left.draws told (said ∙ ap (λ n. if_none_left n (closed_by commit answers)) counted))

  none_meant : (m : Option Meant) → option_map (λ (meant : Meant). meant.rest) m ≡ None → m ≡ None
  none_meant None e = refl
  none_meant (Some meant) e = cc

  none_done : (all : Option AllDone) → worked rows settings false all ≡ None → worked rows settings commit all ≡ None
  none_done None e = refl
  none_done (Some done) e = absurd (by_refusal done.refused e)
    where
      by_refusal : (b : Bool)
          → cond {A = Option Meant} b (Some (record { answers = done.answers; tables = rows; settings = settings; writes = []; reads = done.reads; rest = done.rest }))
          (Some (record { answers = done.answers ++ []; tables = with_writes rows done.writes; settings = settings; writes = done.writes; reads = done.reads; rest = done.rest })) ≡ None → ⊥
      by_refusal true e = cc
      by_refusal false e = cc

  -- its draws do not begin as is asked
  pub goes_stopped : (left : Listing) (new : OnWay) → HasEnded tables source.names settings txn statements TakesFirst source txn_fault.Stopped left
      → GoesBy tables here (taken_with tables source.names here (call.Work statements commit) source.draws) None new
  goes_stopped left new ended =
      let none : mean made rows settings (call.Work statements false) source.draws ≡ None =
      none_meant (mean made rows settings (call.Work statements false) source.draws)
      (ap (λ (ds : List Draw). option_map (λ (meant : Meant). meant.rest) (mean made rows settings (call.Work statements false) ds)) (took source ended.between ended.given ended.drew_all) ∙ ended.because.1.1 ended.between.draws ended.because.1.0.0) in
      let never : mean made rows settings (call.Work statements commit) source.draws ≡ None = none_done (statements_done made rows settings statements source.draws) none in
      subst (λ (m : Option Meant). GoesBy tables here (if_used m) None new) (sym never) tt
