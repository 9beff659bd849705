-- Statements of a call on plain tables, from what their run came to.
use Rattle.std.proofs.Common.{◌≡◌, ℕ, ◌+◌, ◌<◌, ◌≤◌, Bool, true, false, List, [], ◌∷◌, ◌++◌, length, drop, get_or, refl, sym, ap, ◌∙◌, arith, subst, zero-add, length-drop, length-append}
use Rattle.std.specs.Prelude.{Option, Some, None, option_map}
use Rattle.std.proofs.lemmas.List.{drop_at}
use Rattle.std.proofs.Math.ListN.{drop_of_length-le}
use Rattle.svc_values.specs.declared.schema.Shape.{Shape}
use Rattle.svc_values.specs.declared.draw.Draw.{Draw}
use Rattle.svc_values.specs.declared.statement.Statement.{Statement}
use Rattle.svc_values.specs.declared.answer.Answer.{Answer}
use Rattle.svc_values.specs.declared.entry.Write.{Write}
use Rattle.svc_values.specs.declared.tables.Place.{Place}
use Rattle.svc_values.specs.declared.tables.PlainRow.{PlainRow}
use Rattle.svc_values.specs.declared.call.Call.{Call}
use Rattle.svc_values.specs.meaning.SettingsList.{NamedValues}
use Rattle.svc_values.specs.meaning.Tables.{with_writes}
use Rattle.stmt_meaning.specs.declared.fault.TxnFault.{TxnFault}
use Rattle.stmt_meaning.specs.declared.fault.TxnFault.TheVariants as txn_fault
use Rattle.stmt_meaning.specs.declared.plain.PlainRun.{PlainRun}
use Rattle.stmt_meaning.specs.declared.rows.Worked.{Worked}
use Rattle.stmt_meaning.specs.Drawing.{DrewAll, Ends}
use Rattle.stmt_meaning.specs.InnerAnswers.{DidAll}
use Rattle.stmt_meaning.specs.InnerRunning.{RanNext, all_left, one_left}
use Rattle.stmt_meaning.specs.Listed.{Listing, TakesFirst}
use Rattle.stmt_meaning.specs.meaning.Meaning.{AllDone, Meant, statements_done, worked, alone, commit_answer, mean}
use Rattle.stmt_meaning.specs.PlainRuns.{IsMeaning}
use Rattle.stmt_meaning.proofs.Running.{RanSoFar, left_is, ran_all, ran_drew, ran_ended, ran_none, ran_on, ran_refusal}

-- the draws that were given are the front of the list
took : (old new : Listing) (given : List Draw) → DrewAll TakesFirst old given new → old.draws ≡ given ++ new.draws
took old new [] same = ap (λ (s : Listing). s.draws) (sym same)
took old new (first ∷ rest) (between, (gave, on)) = gave.0 ∙ ap (λ l. first ∷ l) (took between new rest on)

none_done : (all : Option AllDone) → option_map (λ (done : AllDone). done.rest) all ≡ None → all ≡ None
none_done None e = refl
none_done (Some done) e = cc

module _ (shape : Shape) (start : List PlainRow) (settings : NamedValues) (statements : List Statement) (before : Listing) where
  -- what statements did, from what they did with the draws that they took
  did : (answers : List Answer) (rows : List PlainRow) (drawn : List Draw) (source : Listing) (is_refused : Bool) → DrewAll TakesFirst before drawn source → (done : AllDone) → statements_done shape start settings statements (drawn ++ source.draws) ≡ Some done
      → done.rest ≡ source.draws → answers ≡ done.answers → is_refused ≡ done.refused → (done.refused ≡ false → rows ≡ with_writes start done.writes)
      → DidAll (statements_done shape start settings statements before.draws) start before.draws answers rows (length drawn) is_refused
  did answers rows drawn source is_refused drew_all done is left answered refusal written =
      let front : before.draws ≡ drawn ++ source.draws = took before source drawn drew_all in
      let long = length-append drawn source.draws in
      let same = ap length front in (
        done,
        (
          ap (statements_done shape start settings statements) front ∙ is,
          record {
            answered = answered;
            refusal = refusal;
            written = written;
            left = left ∙ sym (ap (drop (length drawn)) front ∙ drop_at drawn source.draws (length drawn) refl);
            within = omega arith;
          },
        ),
      )

  -- the statements so far, none of which was refused, and those that are left
  pub record SoFar (source : Listing) (now : Worked) (left : List Statement) : Type 0 where
    pub writes : List Write
    pub reads : List Place
    pub run : RanSoFar TakesFirst shape start settings statements before now.answers.items writes reads now.drawn.items now.rows.items source left
    pub kept : now.is_refused ≡ false

  pub begins : (now : Worked) → now.answers.items ≡ [] → now.drawn.items ≡ [] → now.rows.items ≡ start → now.is_refused ≡ false → SoFar before now statements
  begins now none nothing same kept = record { writes = []; reads = []; run = ran_none TakesFirst shape start settings statements before now.answers.items now.drawn.items now.rows.items none nothing same; kept = kept }

  -- the statement at a place of the list
  pub at_next : (source : Listing) (now : Worked) (all : List Statement) (i : ℕ) (statement : Statement) → i < length all → statement ≡ get_or all i statement → SoFar source now (drop i all) → SoFar source now (statement ∷ drop (i + 1) all)
  at_next source now all i statement lt is at = subst (λ left. SoFar source now left) (left_is all i statement lt is) at

  module _ (old_source : Listing) (old : Worked) (first : Statement) (rest : List Statement) (at : SoFar old_source old (first ∷ rest)) where
    -- the next statement was ended
    pub ended_there : (fault : TxnFault) (new : Listing) → Ends TakesFirst (one_left shape old.rows.items settings first) old_source fault new → Ends TakesFirst (all_left shape start settings statements) before fault new
    ended_there fault new e = ran_ended TakesFirst shape start settings statements before old.answers.items at.writes at.reads old.drawn.items old.rows.items old_source first rest at.run fault new e

    module _ (source : Listing) (new : Worked) (next : RanNext shape settings first old_source old source new) where
      pub goes_on : new.is_refused ≡ false → SoFar source new rest
      goes_on kept = record {
        writes = at.writes ++ next.one.writes;
        reads = at.reads ++ next.one.reads;
        run = ran_on TakesFirst shape start settings statements before old.answers.items at.writes at.reads old.drawn.items old.rows.items old_source first rest at.run next.one source new.drawn.items next.ran (sym next.refusal ∙ kept) new.answers.items next.answered
            new.rows.items next.written;
        kept = kept;
      }

      pub refused : new.is_refused ≡ true → DidAll (statements_done shape start settings statements before.draws) start before.draws new.answers.items new.rows.items (length new.drawn.items) new.is_refused
      refused gone =
          did new.answers.items new.rows.items new.drawn.items source new.is_refused
          (ran_drew TakesFirst shape start settings statements before old.answers.items at.writes at.reads old.drawn.items old.rows.items old_source first rest at.run next.one source new.drawn.items next.ran) _
          (ran_refusal TakesFirst shape start settings statements before old.answers.items at.writes at.reads old.drawn.items old.rows.items old_source first rest at.run next.one source new.drawn.items next.ran (sym next.refusal ∙ gone) source.draws)
          refl next.answered gone (λ no. cc)

  -- no statement is left
  pub all_done : (source : Listing) (now : Worked) (all : List Statement) (i : ℕ) → length all ≤ i → SoFar source now (drop i all)
      → DidAll (statements_done shape start settings statements before.draws) start before.draws now.answers.items now.rows.items (length now.drawn.items) now.is_refused
  all_done source now all i le so_far =
      let at : SoFar source now [] = subst (λ left. SoFar source now left) (drop_of_length-le all {i = i} le) so_far in
      did now.answers.items now.rows.items now.drawn.items source now.is_refused at.run.drew_all _
      (ran_all TakesFirst shape start settings statements before now.answers.items at.writes at.reads now.drawn.items now.rows.items source at.run source.draws) refl refl at.kept (λ no. at.run.written)

  -- where the source stopped, the draws do not begin as is asked
  pub differs : (new : Listing) → Ends TakesFirst (all_left shape start settings statements) before txn_fault.Stopped new → statements_done shape start settings statements before.draws ≡ None
  differs new e =
      none_done (statements_done shape start settings statements before.draws)
      (ap (all_left shape start settings statements) (took before e.between e.given e.drew_all) ∙ e.because.1.1 e.between.draws e.because.1.0.0)

used_all : (draws : List Draw) (used : ℕ) (rest : List Draw) → rest ≡ drop used draws → used ≤ length draws → used + length rest ≡ length draws
used_all draws used rest is within = let n = length-drop used draws in let m = ap length is in omega arith

-- what a work call means, from what its statements did
pub work_refused : (tables : List PlainRow) (settings : NamedValues) (commit : Bool) (all : Option AllDone) (draws : List Draw) (answers : List Answer) (rows : List PlainRow) (used : ℕ) → DidAll all tables draws answers rows used true
    → (run : PlainRun) → run.answers ≡ answers → run.tables ≡ tables → run.settings ≡ settings → run.used ≡ used → IsMeaning (worked tables settings commit all) draws run
work_refused tables settings commit all draws answers rows used (done, (is, did)) run a t s u =
    let gone : done.refused ≡ true = sym did.refusal in
    let left : done.rest ≡ drop run.used draws = did.left ∙ ap (λ n. drop n draws) (sym u) in
    let meant : Meant = record { answers = done.answers; tables = tables; settings = settings; writes = []; reads = done.reads; rest = done.rest } in
    let means : worked tables settings commit (Some done) ≡ Some meant = rw gone refl in
    (meant, (ap (worked tables settings commit) is ∙ means, record { answers = a ∙ did.answered; tables = t; settings = s; left = left; used = used_all draws run.used done.rest left (subst (λ n. n ≤ length draws) (sym u) did.within) }))

pub work_done : (tables : List PlainRow) (settings : NamedValues) (commit : Bool) (all : Option AllDone) (draws : List Draw) (answers : List Answer) (rows : List PlainRow) (used : ℕ) → DidAll all tables draws answers rows used false
    → (run : PlainRun) → run.answers ≡ answers ++ commit_answer commit → run.tables ≡ rows → run.settings ≡ settings → run.used ≡ used → IsMeaning (worked tables settings commit all) draws run
work_done tables settings commit all draws answers rows used (done, (is, did)) run a t s u =
    let kept : done.refused ≡ false = sym did.refusal in
    let left : done.rest ≡ drop run.used draws = did.left ∙ ap (λ n. drop n draws) (sym u) in
    let meant : Meant = record { answers = done.answers ++ commit_answer commit; tables = with_writes tables done.writes; settings = settings; writes = done.writes; reads = done.reads; rest = done.rest } in
    let means : worked tables settings commit (Some done) ≡ Some meant = rw kept refl in
    (meant, (ap (worked tables settings commit) is ∙ means, record { answers = a ∙ ap (λ l. l ++ commit_answer commit) did.answered; tables = t ∙ did.written kept; settings = s; left = left; used = used_all draws run.used done.rest left (subst (λ n. n ≤ length draws) (sym u) did.within) }))

pub alone_gives : (tables : List PlainRow) (settings : NamedValues) (draws : List Draw) (answer : Answer) (run : PlainRun) → run.answers ≡ answer ∷ [] → run.tables ≡ tables → run.settings ≡ settings → run.used ≡ 0 → IsMeaning (alone tables settings draws answer) draws run
alone_gives tables settings draws answer run a t s u =
    let left : draws ≡ drop run.used draws = ap (λ n. drop n draws) (sym u) in
    (_, (refl, record { answers = a; tables = t; settings = s; left = left; used = ap (λ n. n + length draws) u ∙ zero-add (length draws) }))

-- a command
pub command_gives : (shape : Shape) (tables : List PlainRow) (settings after : NamedValues) (asked : Call) (draws : List Draw) (answer : Answer) → mean shape tables settings asked draws ≡ alone tables after draws answer
    → (run : PlainRun) (s : NamedValues) → run ≡ record { answers = answer ∷ []; tables = tables; settings = s; used = 0 } → s ≡ after → IsMeaning (mean shape tables settings asked draws) draws run
command_gives shape tables settings after asked draws answer means run s is same =
    let gives = alone_gives tables after draws answer run (ap (λ (r : PlainRun). r.answers) is) (ap (λ (r : PlainRun). r.tables) is) (ap (λ (r : PlainRun). r.settings) is ∙ same) (ap (λ (r : PlainRun). r.used) is) in
    subst (λ m. IsMeaning m draws run) (sym means) gives
