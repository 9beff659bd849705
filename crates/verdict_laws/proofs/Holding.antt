-- Each clause that is judged holds of what is shown of a run's report.
use Rattle.std.proofs.Common.{◌≡◌, not, Bool, true, List, [], ◌∷◌, find, None, refl, subst, ap, ◌∙◌}
use Rattle.std.specs.Prelude.{IsTrue}
use Rattle.std.specs.Cmp.Lexicographic.{pointwise}
use Rattle.std.proofs.lemmas.Slice.Eq.{bytes_eq-Decides}
use Rattle.json_form.proofs.Offered.{both_true}
use Rattle.svc_values.specs.declared.value.Value.{Value}
use Rattle.svc_values.specs.meaning.Same.{same_value}
use Rattle.svc_values.specs.SameLaws.{same_value_decides}
use Rattle.stmt_meaning.specs.SerialLaws.{SerialIsTested}
use Rattle.outage_schedule.specs.declared.document.Document.{Document}
use Rattle.outage_schedule.specs.declared.report.Report.{Report}
use Rattle.outage_schedule.specs.declared.report.ReportTable.{ReportTable}
use Rattle.run_clauses.specs.meaning.Before.{journal_before, shape, start}
use Rattle.run_clauses.specs.meaning.Comparing.{same_printed_rows}
use Rattle.run_clauses.specs.meaning.NoClash.{no_clash}
use Rattle.run_clauses.specs.meaning.Serial.{same_report_table, are_printed, serial, IsSerial, printed_tables}
use Rattle.report_text.specs.Laws.{shown_report}
use Rattle.printed_laws.specs.Laws.{SerialSeesNoWrites, FreshSeesNoWrites, LegalSeesNoWrites, OnceSeesNoWrites, SameSeesNoWrites, StoredSeesNoWrites, WholeSeesNoWrites}
use Rattle.program_ends.specs.declared.clause.Clause.{Clause}
use Rattle.program_ends.specs.declared.clause.Clause.TheVariants as clause
use Rattle.report_check.specs.meaning.Verdicts.{holds, clauses}
use Rattle.continuity_run.specs.meaning.Headline.{Headline}
use Rattle.verdict_laws.specs.Laws.{RunsAreRight}

-- ---- what is one passes the tests

each_alike : {A : Type 0} (test : A → A → Bool) → ((one : A) → test one one ≡ true) → (all : List A) → pointwise test all all ≡ true
each_alike test alike [] = refl
each_alike test alike (one ∷ all) = both_true (test one one) (pointwise test all all) (alike one) (each_alike test alike all)

rows_alike : (rows : List (List Value)) → same_printed_rows rows rows ≡ true
rows_alike = each_alike (pointwise same_value) (each_alike same_value (λ one. (same_value_decides one one).1 refl))

table_alike : (one : ReportTable) → same_report_table one one ≡ true
table_alike one = both_true _ _ ((bytes_eq-Decides one.name one.name).1 refl) (rows_alike one.rows)

tables_alike : (a b : List ReportTable) → a ≡ b → pointwise same_report_table a b ≡ true
tables_alike a b same = subst (λ other. pointwise same_report_table a other ≡ true) same (each_alike same_report_table table_alike a)

serial_holds : SerialIsTested → (document : Document) (r : Report) → IsSerial document r → serial document r ≡ true
serial_holds tested document r is =
    ap (are_printed (journal_before document).base r.tables) ((tested (shape document) (start document) r.entries is.after).1 is.runs)
    ∙ tables_alike r.tables (printed_tables (journal_before document).base is.after) is.printed

-- ---- each clause

-- what is proved of the clauses
pub record SeesNoWrites : Type 0 where
  pub serial : SerialSeesNoWrites
  pub fresh : FreshSeesNoWrites
  pub legal : LegalSeesNoWrites
  pub once : OnceSeesNoWrites
  pub same : SameSeesNoWrites
  pub stored : StoredSeesNoWrites
  pub whole : WholeSeesNoWrites

each_holds : SerialIsTested → SeesNoWrites → (document : Document) (r : Report) → Headline document r → IsTrue (no_clash document r)
    → (one : Clause) → holds document (shown_report r) one ≡ true
each_holds tested sees document r headline apart clause.Serial = sees.serial document r ∙ serial_holds tested document r headline.serial
each_holds tested sees document r headline apart clause.Fresh = sees.fresh r ∙ headline.fresh
each_holds tested sees document r headline apart clause.Legal = sees.legal document r ∙ headline.legal_so
each_holds tested sees document r headline apart clause.Once = sees.once document r ∙ headline.once_so
each_holds tested sees document r headline apart clause.Same = sees.same document r ∙ headline.same_so apart
each_holds tested sees document r headline apart clause.Stored = sees.stored document r ∙ headline.stored_so
each_holds tested sees document r headline apart clause.Whole = sees.whole document r ∙ headline.whole_so

none_false : (test : Clause → Bool) → ((one : Clause) → test one ≡ true) → (all : List Clause) → find (λ one. not (test one)) all ≡ None
none_false test all_hold [] = refl
none_false test all_hold (one ∷ all) = rw (all_hold one) (none_false test all_hold all)

pub runs_right : SerialIsTested → SeesNoWrites → RunsAreRight
runs_right tested sees document r headline apart = none_false (holds document (shown_report r)) (each_holds tested sees document r headline apart) clauses
