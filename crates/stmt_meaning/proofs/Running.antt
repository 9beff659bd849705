-- Statements that ran one after the other, their draws taken from a source.
use Rattle.std.proofs.Common.{◌≡◌, inl, ℕ, ◌+◌, ◌<◌, Bool, true, false, cond, List, [], ◌∷◌, ◌++◌, length, drop, get_or, refl, sym, ap, ◌∙◌, subst, append_assoc, append-nil}
use Rattle.std.specs.Prelude.{Option, Some, None, option_map}
use Rattle.std.proofs.lemmas.List.{drop_more}
use Rattle.svc_values.specs.declared.schema.Shape.{Shape}
use Rattle.svc_values.specs.declared.draw.Draw.{Draw}
use Rattle.svc_values.specs.declared.statement.Statement.{Statement}
use Rattle.svc_values.specs.declared.answer.Answer.{Answer}
use Rattle.svc_values.specs.declared.entry.Write.{Write}
use Rattle.svc_values.specs.declared.tables.PlainRow.{PlainRow}
use Rattle.svc_values.specs.declared.tables.Place.{Place}
use Rattle.svc_values.specs.meaning.SettingsList.{NamedValues}
use Rattle.svc_values.specs.meaning.Tables.{with_writes}
use Rattle.svc_values.proofs.Offered.{with_writes-append}
use Rattle.stmt_meaning.specs.declared.fault.TxnFault.{TxnFault}
use Rattle.stmt_meaning.specs.declared.fault.TxnFault.TheVariants as txn_fault
use Rattle.stmt_meaning.specs.meaning.Meaning.{OneDone, AllDone, mean1, is_refusal, after_first, ended_by, and_on, statements_done}
use Rattle.stmt_meaning.specs.Drawing.{Drew, DrewAll, Ends}
use Rattle.stmt_meaning.specs.InnerRunning.{RanOne, one_left, all_left}
use Rattle.stmt_meaning.proofs.Drawn.{drew_append, ended_on}
use Rattle.stmt_meaning.proofs.OneRun.{mean1-more, enough_one}

-- what was done before, and then this
abbrev pub joined : List Answer → List Write → List Place → Option AllDone → Option AllDone
joined answers writes reads None = None
joined answers writes reads (Some more) = Some (record { answers = answers ++ more.answers; writes = writes ++ more.writes; reads = reads ++ more.reads; rest = more.rest; refused = more.refused })

joined_more : (answers : List Answer) (writes : List Write) (reads : List Place) (one : OneDone) (more : Option AllDone)
    → joined answers writes reads (after_first one more) ≡ joined (answers ++ one.answer ∷ []) (writes ++ one.writes) (reads ++ one.reads) more
joined_more answers writes reads one None = refl
joined_more answers writes reads one (Some more) =
    rw (append_assoc answers (one.answer ∷ []) more.answers, append_assoc writes one.writes more.writes, append_assoc reads one.reads more.reads) refl

joined_nothing : (all : Option AllDone) → all ≡ joined [] [] [] all
joined_nothing None = refl
joined_nothing (Some all) = refl

-- joining leaves the draws that are left
joined_rest : (answers : List Answer) (writes : List Write) (reads : List Place) (all : Option AllDone) → option_map (λ (done : AllDone). done.rest) (joined answers writes reads all) ≡ option_map (λ (done : AllDone). done.rest) all
joined_rest answers writes reads None = refl
joined_rest answers writes reads (Some all) = refl

-- the statement at a place of a list is the first of those from there on
pub left_is : (all : List Statement) (i : ℕ) (statement : Statement) → i < length all → statement ≡ get_or all i statement → drop i all ≡ statement ∷ drop (i + 1) all
left_is all i statement lt is = drop_more all i statement lt ∙ ap (λ s. s ∷ drop (i + 1) all) (sym is)

none_done : (o : Option OneDone) → option_map (λ (one : OneDone). one.rest) o ≡ None → o ≡ None
none_done None e = refl
none_done (Some one) e = cc

one_at : (o : Option OneDone) → option_map (λ (one : OneDone). one.rest) o ≡ Some [] → (one : OneDone) × ((o ≡ Some one) × (one.rest ≡ []))
one_at None e = cc
one_at (Some one) e = (one, (refl, some_inj one.rest [] e))
  where
    some_inj : (a b : List Draw) → ◌≡◌ {A = Option (List Draw)} (Some a) (Some b) → a ≡ b
    some_inj a b h = cc

module _ (shape : Shape) (settings : NamedValues) where
  -- draws behind some, with which statements run to their end
  abbrev Enough : List PlainRow → List Statement → List Draw → Type 0
  Enough rows statements given = (more : List Draw) × ((done : AllDone) × ((statements_done shape rows settings statements (given ++ more) ≡ Some done) × (done.rest ≡ [])))

  -- after the first statement
  first_is : (rows : List PlainRow) (first : Statement) (rest : List Statement) (given more : List Draw) (one : OneDone) → mean1 shape rows settings first given ≡ Some one → one.rest ≡ []
      → statements_done shape rows settings (first ∷ rest) (given ++ more) ≡ cond (is_refusal one.answer) (ended_by (record one { rest = more })) (after_first (record one { rest = more }) (statements_done shape (with_writes rows one.writes) settings rest more))
  first_is rows first rest given more one means used =
      ap (λ o. and_on o (λ (q : OneDone). statements_done shape (with_writes rows q.writes) settings rest q.rest))
      (mean1-more shape rows settings first given more one means ∙ ap (λ l. let q : OneDone = record one { rest = l ++ more } in Some q) used)

  enough_behind : (rows : List PlainRow) (first : Statement) (rest : List Statement) (given : List Draw) (one : OneDone) → mean1 shape rows settings first given ≡ Some one → one.rest ≡ []
      → ((r : List PlainRow) → Enough r rest []) → Enough rows (first ∷ rest) given
  enough_behind rows first rest given one means used others = by_end (is_refusal one.answer) refl
    where
      by_end : (b : Bool) → is_refusal one.answer ≡ b → Enough rows (first ∷ rest) given
      by_end true e =
          ([], (_, (first_is rows first rest given [] one means used ∙ ap (λ c. cond c (ended_by (record one { rest = [] })) (after_first (record one { rest = [] }) (statements_done shape (with_writes rows one.writes) settings rest []))) e, refl)))
      by_end false e =
          let go = others (with_writes rows one.writes) in (
            go.0,
            (
              _,
              (
                first_is rows first rest given go.0 one means used
                    ∙ ap (λ c. cond c (ended_by (record one { rest = go.0 })) (after_first (record one { rest = go.0 }) (statements_done shape (with_writes rows one.writes) settings rest go.0))) e
                    ∙ ap (after_first (record one { rest = go.0 })) go.1.1.0,
                go.1.1.1,
              ),
            ),
          )

  -- there are always draws with which statements run to their end
  enough_all : (statements : List Statement) (rows : List PlainRow) → Enough rows statements []
  enough_all [] rows = ([], (_, (refl, refl)))
  enough_all (first ∷ rest) rows =
      let one = enough_one shape rows settings first in
      let go = enough_behind rows first rest one.0 one.1.0 one.1.1.0 one.1.1.1 (λ r. enough_all rest r) in
      (one.0 ++ go.0, go.1)

module _ {S : Type 0} (drew : S → Drew → S → Type 0) (shape : Shape) (start : List PlainRow) (settings : NamedValues) (statements : List Statement) (before : S) where
  abbrev total : List Draw → Option AllDone
  total = λ draws. statements_done shape start settings statements draws

  abbrev left_by : List Draw → Option (List Draw)
  left_by = all_left shape start settings statements

  -- the statements so far, none of which was refused, and those that are left
  pub record RanSoFar (answers : List Answer) (writes : List Write) (reads : List Place) (drawn : List Draw) (rows : List PlainRow) (source : S) (left : List Statement) : Type 0 where
    pub drew_all : DrewAll drew before drawn source
    pub written : rows ≡ with_writes start writes
    pub so_far : (more : List Draw) → total (drawn ++ more) ≡ joined answers writes reads (statements_done shape rows settings left more)

  -- before the first
  pub ran_none : (answers : List Answer) (drawn : List Draw) (rows : List PlainRow) → answers ≡ [] → drawn ≡ [] → rows ≡ start → RanSoFar answers [] [] drawn rows before statements
  ran_none answers drawn rows none nothing same = record {
    drew_all = subst (λ d. DrewAll drew before d before) (sym nothing) refl;
    written = same;
    so_far = λ more. ap (λ d. total (d ++ more)) nothing ∙ joined_nothing (total more) ∙ ap (λ a. joined a [] [] (total more)) (sym none) ∙ ap (λ r. joined answers [] [] (statements_done shape r settings statements more)) (sym same);
  }

  -- no memory before the first
  pub ran_lacking : Ends drew left_by before txn_fault.NoMemory before
  ran_lacking =
      let go = enough_all shape settings statements start in
      record { given = []; between = before; drew_all = refl; more = go.0; asked = ap (option_map (λ (done : AllDone). done.rest)) go.1.1.0 ∙ ap (λ (l : List Draw). Some l) go.1.1.1; because = inl refl }

  module _ (answers : List Answer) (writes : List Write) (reads : List Place) (drawn : List Draw) (rows : List PlainRow) (source : S) (first : Statement) (rest : List Statement) (at : RanSoFar answers writes reads drawn rows source (first ∷ rest)) where
    -- what the statements leave from here on
    rest_is : (draws : List Draw) → left_by (drawn ++ draws) ≡ all_left shape rows settings (first ∷ rest) draws
    rest_is draws = ap (option_map (λ (done : AllDone). done.rest)) (at.so_far draws) ∙ joined_rest answers writes reads (statements_done shape rows settings (first ∷ rest) draws)

    stops_there : (given more : List Draw) → one_left shape rows settings first (given ++ more) ≡ None → left_by ((drawn ++ given) ++ more) ≡ None
    stops_there given more none =
        let one : mean1 shape rows settings first (given ++ more) ≡ None = none_done (mean1 shape rows settings first (given ++ more)) none in
        ap left_by (append_assoc drawn given more) ∙ rest_is (given ++ more)
        ∙ ap (λ o. option_map (λ (done : AllDone). done.rest) (and_on o (λ (q : OneDone). statements_done shape (with_writes rows q.writes) settings rest q.rest))) one

    -- the next statement was ended
    pub ran_ended : (fault : TxnFault) (new : S) → Ends drew (one_left shape rows settings first) source fault new → Ends drew left_by before fault new
    ran_ended fault new e =
        let one = one_at (mean1 shape rows settings first (e.given ++ e.more)) e.asked in
        let go = enough_behind shape settings rows first rest (e.given ++ e.more) one.0 one.1.0 one.1.1 (λ r. enough_all shape settings rest r) in
        record {
          given = drawn ++ e.given;
          between = e.between;
          drew_all = drew_append drew before source e.between drawn e.given at.drew_all e.drew_all;
          more = e.more ++ go.0;
          asked =
              ap left_by (append_assoc drawn e.given (e.more ++ go.0) ∙ ap (λ l. drawn ++ l) (sym (append_assoc e.given e.more go.0))) ∙ rest_is ((e.given ++ e.more) ++ go.0)
              ∙ ap (option_map (λ (done : AllDone). done.rest)) go.1.1.0 ∙ ap (λ (l : List Draw). Some l) go.1.1.1;
          because = ended_on drew (one_left shape rows settings first) left_by e.given (drawn ++ e.given) (stops_there e.given) e.between new fault e.because;
        }

    module _ (one : OneDone) (new : S) (longer : List Draw) (ran : RanOne drew shape rows settings first source drawn one new longer) where
      -- what was drawn until then
      pub ran_drew : DrewAll drew before longer new
      ran_drew = subst (λ d. DrewAll drew before d new) (sym ran.behind) (drew_append drew before source new drawn ran.given at.drew_all ran.drew_all)

      total_is : (more : List Draw) → total (longer ++ more) ≡ joined answers writes reads (cond (is_refusal one.answer) (ended_by (record one { rest = more })) (after_first (record one { rest = more }) (statements_done shape (with_writes rows one.writes) settings rest more)))
      total_is more =
          ap (λ d. total (d ++ more)) ran.behind ∙ ap total (append_assoc drawn ran.given more) ∙ at.so_far (ran.given ++ more)
          ∙ ap (joined answers writes reads) (first_is shape settings rows first rest ran.given more one ran.means ran.used)

      pub ran_on : is_refusal one.answer ≡ false → (more_answers : List Answer) → more_answers ≡ answers ++ one.answer ∷ [] → (after : List PlainRow) → after ≡ with_writes rows one.writes → RanSoFar more_answers (writes ++ one.writes) (reads ++ one.reads) longer after new rest
      ran_on kept more_answers grown after is = record {
        drew_all = ran_drew;
        written = is ∙ ap (λ t. with_writes t one.writes) at.written ∙ sym (with_writes-append start writes one.writes);
        so_far = λ more.
            total_is more
            ∙ ap (λ b. joined answers writes reads (cond b (ended_by (record one { rest = more })) (after_first (record one { rest = more }) (statements_done shape (with_writes rows one.writes) settings rest more)))) kept
            ∙ joined_more answers writes reads (record one { rest = more }) (statements_done shape (with_writes rows one.writes) settings rest more)
            ∙ ap (λ t. joined (answers ++ one.answer ∷ []) (writes ++ one.writes) (reads ++ one.reads) (statements_done shape t settings rest more)) (sym is)
            ∙ ap (λ a. joined a (writes ++ one.writes) (reads ++ one.reads) (statements_done shape after settings rest more)) (sym grown);
      }

      -- a refusal ends them
      pub ran_refusal : is_refusal one.answer ≡ true → (more : List Draw)
          → total (longer ++ more) ≡ Some (record { answers = answers ++ one.answer ∷ []; writes = writes ++ []; reads = reads ++ one.reads; rest = more; refused = true })
      ran_refusal gone more =
          total_is more
          ∙ ap (λ b. joined answers writes reads (cond b (ended_by (record one { rest = more })) (after_first (record one { rest = more }) (statements_done shape (with_writes rows one.writes) settings rest more)))) gone

  -- no statement is left
  pub ran_all : (answers : List Answer) (writes : List Write) (reads : List Place) (drawn : List Draw) (rows : List PlainRow) (source : S) → RanSoFar answers writes reads drawn rows source [] → (more : List Draw)
      → total (drawn ++ more) ≡ Some (record { answers = answers; writes = writes; reads = reads; rest = more; refused = false })
  ran_all answers writes reads drawn rows source at more = at.so_far more ∙ rw (append-nil answers, append-nil writes, append-nil reads) refl
