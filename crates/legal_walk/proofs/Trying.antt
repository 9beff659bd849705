-- A call that was tried with its first draws.
use Rattle.std.proofs.Common.{◌≡◌, ℕ, ◌&&◌, Bool, true, false, cond, List, ◌++◌, take, drop, refl, sym, ap, ◌∙◌, subst, append_assoc, take-append-drop}
use Rattle.std.proofs.lemmas.Bool.{false≢true}
use Rattle.std.specs.Prelude.{Option, Some, None, IsTrue, not}
use Rattle.svc_values.specs.declared.answer.Answer.{Answer}
use Rattle.svc_values.specs.declared.call.Call.{Call}
use Rattle.svc_values.specs.declared.draw.Draw.{Draw}
use Rattle.svc_values.specs.meaning.Endings.{ends_committed}
use Rattle.svc_values.specs.meaning.Tables.{with_writes}
use Rattle.stmt_meaning.specs.meaning.Meaning.{Meant, mean}
use Rattle.stmt_meaning.specs.meaning.SerialTest.{is_nil}
use Rattle.table_store.specs.Stored.{Stored}
use Rattle.table_txn.specs.Transactions.{shape_of}
use Rattle.server_model.specs.meaning.Legal.{means_commit}
use Rattle.calls_again.specs.OnWay.{GoesBy, OnWay, if_used, probed, taken_with}
use Rattle.calls_again.proofs.Offered.{call_more}
use Rattle.legal_draws.specs.Trials.{FailsBehind}
use Rattle.legal_walk.specs.Trying.{commits_with}

pub is_false : (b : Bool) → IsTrue (not b) → b ≡ false
is_false true denied = absurd (false≢true denied)
is_false false denied = refl

no_commit : (meant : Meant) → ends_committed meant.answers ≡ false → means_commit (Some meant) ≡ false
no_commit meant fails = ap (λ b. is_nil meant.rest && b) fails ∙ none (is_nil meant.rest)
  where
    none : (b : Bool) → (b && false) ≡ false
    none true = refl
    none false = refl

-- a call that took these draws, and was refused, does not commit with more behind them
module _ (tables : Stored) (names : List (List ℕ)) (going : OnWay) (called : Call) where
  abbrev with_draws : List Draw → Option Meant
  with_draws draws = mean (shape_of tables names) (with_writes tables.rows going.writes) going.settings called draws

  fails_by : (first : List Draw) (answers : List Answer) (new : OnWay) (meant : Option Meant) → with_draws first ≡ meant → GoesBy tables (probed going) (if_used meant) (Some answers) new → ends_committed answers ≡ false
      → (more : List Draw) → commits_with tables names going called (first ++ more) ≡ false
  fails_by first answers new None is goes fails more = absurd goes
  fails_by first answers new (Some meant) is goes fails more = by (is_nil meant.rest) goes
    where
      by : (used : Bool) → GoesBy tables (probed going) (cond used (Some meant) None) (Some answers) new → commits_with tables names going called (first ++ more) ≡ false
      by true goes =
          ap means_commit (call_more (shape_of tables names) (with_writes tables.rows going.writes) going.settings called first more meant is)
          ∙ no_commit (record meant { rest = meant.rest ++ more }) (ap ends_committed (sym goes.0) ∙ fails)
      by false goes = absurd goes

  -- nor with these draws where it was refused behind the first of them
  pub fails_through : (draws : List Draw) (whole : ℕ) (here new : OnWay) (told : Option (List Answer)) (answers : List Answer) → here ≡ probed going → told ≡ Some answers → GoesBy tables here (taken_with tables names here called (take whole draws)) told new
      → ends_committed answers ≡ false → FailsBehind (commits_with tables names going called) draws
  fails_through draws whole here new told answers probe is goes fails = λ more.
      let first = take whole draws in
      let known = subst (λ (t : Option (List Answer)). GoesBy tables here (taken_with tables names here called first) t new) is goes in
      let same = subst (λ (g : OnWay). GoesBy tables g (taken_with tables names g called first) (Some answers) new) probe known in
      ap (λ (l : List Draw). commits_with tables names going called (l ++ more)) (sym (take-append-drop whole draws))
      ∙ ap (commits_with tables names going called) (append_assoc first (drop whole draws) more)
      ∙ fails_by first answers new (with_draws first) refl same fails (drop whole draws ++ more)
