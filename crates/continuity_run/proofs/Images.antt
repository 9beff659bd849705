-- The image that a report prints is one of the journal after the run.
use Rattle.std.proofs.Common.{◌≡◌, ◌∙◌, refl, ap, subst, eq-eqb, Bool, true, false, List, [], ◌∷◌, ◌++◌, ℕ, Option, Ok}
use Rattle.std.specs.Prelude.{◌||◌, not}
use Rattle.std.specs.Str.{bytes_eq}
use Rattle.std.specs.Cmp.{signed_Decides}
use Rattle.std.specs.Cmp.Lexicographic.{pointwise}
use Rattle.std.proofs.lemmas.Slice.Eq.{bytes_eq-Decides}
use Rattle.json_form.proofs.Offered.{both_true}
use Rattle.svc_values.specs.declared.entry.Entry.{Entry}
use Rattle.svc_values.specs.declared.entry.Ltxid.{Ltxid}
use Rattle.svc_values.specs.declared.schema.Column.{Column}
use Rattle.svc_values.specs.declared.value.Kind.{Kind}
use Rattle.svc_values.specs.declared.value.Kind.TheVariants as kind
use Rattle.svc_values.specs.declared.value.Value.{Value}
use Rattle.svc_values.specs.meaning.Identifiers.{same_ltxid}
use Rattle.svc_values.specs.meaning.Kinds.{same_kind}
use Rattle.svc_values.specs.meaning.Same.{same_value, same_piece}
use Rattle.svc_values.specs.SameLaws.{same_bool_decides, same_ltxid_decides, same_piece_decides, same_settings_equiv, same_value_decides}
use Rattle.commit_log.specs.declared.base.Base.{Base}
use Rattle.commit_log.specs.declared.base.BaseSequence.{BaseSequence}
use Rattle.commit_log.specs.declared.base.BaseTable.{BaseTable}
use Rattle.commit_log.specs.declared.journal.Journal.{Journal}
use Rattle.commit_log.specs.meaning.Journals.{journal_of}
use Rattle.outage_schedule.specs.declared.document.Document.{Document}
use Rattle.outage_schedule.specs.declared.report.Report.{Report}
use Rattle.outage_schedule.specs.declared.report.ReportTable.{ReportTable}
use Rattle.run_clauses.specs.meaning.Before.{journal_before, tables_of}
use Rattle.run_clauses.specs.meaning.Comparing.{same_base, same_base_sequence, same_base_table, same_column, same_entry, same_printed_rows}
use Rattle.run_clauses.specs.meaning.Horizons.{last_horizon}
use Rattle.run_clauses.specs.meaning.Images.{follows, has_journal, image_fits, is_after_run}
use Rattle.run_clauses.specs.meaning.Serial.{printed_tables, same_report_table}
use Rattle.continuity_run.specs.meaning.Headline.{IsReadFrom, image_if}

-- WHAT IS ONE PASSES THE TESTS --------------------------------------------------------------------

each_alike : {A : Type 0} (test : A → A → Bool) → ((one : A) → test one one ≡ true) → (all : List A) → pointwise test all all ≡ true
each_alike test alike [] = refl
each_alike test alike (one ∷ all) = both_true (test one one) (pointwise test all all) (alike one) (each_alike test alike all)

alike_so : {A : Type 0} (test : A → A → Bool) → ((one : A) → test one one ≡ true) → (a b : A) → a ≡ b → test a b ≡ true
alike_so test alike a b same = subst (λ other. test a other ≡ true) same (alike a)

bytes_alike : (bytes : List ℕ) → bytes_eq bytes bytes ≡ true
bytes_alike bytes = (bytes_eq-Decides bytes bytes).1 refl

rows_alike : (rows : List (List Value)) → same_printed_rows rows rows ≡ true
rows_alike = each_alike (pointwise same_value) (each_alike same_value (λ one. (same_value_decides one one).1 refl))

kind_alike : (one : Kind) → same_kind one one ≡ true
kind_alike kind.Int = refl
kind_alike kind.Text = refl
kind_alike kind.Bytes = refl

column_alike : (one : Column) → same_column one one ≡ true
column_alike one = both_true _ _ (bytes_alike one.name) (kind_alike one.kind)

table_alike : (one : BaseTable) → same_base_table one one ≡ true
table_alike one = both_true _ _ (bytes_alike one.schema.name) (both_true _ _ (each_alike same_column column_alike one.schema.columns) (rows_alike one.rows))

sequence_alike : (one : BaseSequence) → same_base_sequence one one ≡ true
sequence_alike one = both_true _ _ (bytes_alike one.name) (both_true _ _ ((signed_Decides one.start one.start).1 refl) ((same_bool_decides one.keep one.keep).1 refl))

base_alike : (one : Base) → same_base one one ≡ true
base_alike one = both_true _ _ (each_alike same_base_table table_alike one.tables) (each_alike same_base_sequence sequence_alike one.sequences)

ltxid_alike : (one : Ltxid) → same_ltxid one one ≡ true
ltxid_alike one = (same_ltxid_decides one one).1 refl

entry_alike : (one : Entry) → same_entry one one ≡ true
entry_alike one =
    both_true _ _ (ltxid_alike one.ltxid)
    (both_true _ _ ((same_bool_decides one.completed one.completed).1 refl)
    (both_true _ _ (same_settings_equiv.refl one.settings) (each_alike same_piece (λ piece. (same_piece_decides piece piece).1 refl) one.pieces)))

printed_alike : (one : ReportTable) → same_report_table one one ≡ true
printed_alike one = both_true _ _ (bytes_alike one.name) (rows_alike one.rows)

-- THE IMAGE ---------------------------------------------------------------------------------------

module _ (document : Document) (report : Report) (journal : Journal) (read : IsReadFrom document report journal) where
  abbrev before : Journal
  before = journal_before document

  follows_so : follows before report journal ≡ true
  follows_so =
      both_true _ _ (alike_so same_base base_alike journal.base before.base read.base)
      (both_true _ _ (alike_so (pointwise same_entry) (each_alike same_entry entry_alike) journal.entries (before.entries ++ report.entries) read.entries)
      (both_true _ _ (alike_so (pointwise same_ltxid) (each_alike same_ltxid ltxid_alike) journal.blocked (before.blocked ++ report.blocked) read.blocked)
      (both_true _ _ (alike_so (pointwise bytes_eq) (each_alike bytes_eq bytes_alike) journal.alerts (before.alerts ++ report.alerts) read.alerts)
      (alike_so (pointwise same_report_table) (each_alike same_report_table printed_alike) report.tables (printed_tables before.base (tables_of journal)) (read.tables ∙ ap (λ (base : Base). printed_tables base (tables_of journal)) read.base)))))

  -- It is, where the store forgot what the report's openings ask for.
  pub image_is : (horizon : journal.horizon ≡ last_horizon document report) (bytes : List ℕ) → journal_of bytes ≡ Ok journal → report.image ≡ image_if document.print_image bytes → image_fits document report ≡ true
  image_is horizon bytes reads = by document.print_image report.image
    where
      by : (print : Bool) (image : Option (List ℕ)) → image ≡ image_if print bytes → (not print || has_journal document report image) ≡ true
      by false image is = refl
      by true image is =
          ap (has_journal document report) is ∙ ap (is_after_run document report) reads ∙ both_true _ _ follows_so (eq-eqb journal.horizon (last_horizon document report) horizon)
