-- A document and its report are read of the object that has both.
use Rattle.std.proofs.Common.{◌≡◌, ℕ, List, Bool, true, false, Option, Some, None, is_some, Result, Ok, Err, refl, sym, subst, ap, ◌∙◌, codes}
use Rattle.serde_json.specs.Data.{Data}
use Rattle.json_form.specs.meaning.Objects.{required}
use Rattle.outage_schedule.specs.declared.document.Document.{Document}
use Rattle.outage_schedule.specs.declared.report.Report.{Report}
use Rattle.doc_reader.specs.meaning.Documents.{document_of}
use Rattle.report_reader.specs.meaning.Reports.{report_of}
use Rattle.report_text.specs.meaning.Report.{report_value}
use Rattle.report_text.specs.Laws.{shown_report}
use Rattle.report_check.specs.meaning.Pairs.{pair_of}
use Rattle.continuity_run.specs.meaning.Headline.{image_if}
use Rattle.json_form.proofs.Offered.{ok_is}
use Rattle.json_form.specs.meaning.Faults.{Fault, ◌>>=◌, within}
use Rattle.report_check.specs.meaning.Verdicts.{first_false}
use Rattle.form_laws.specs.Laws.{ReportsHaveTheForm}
use Rattle.reading_laws.specs.Laws.{ReadsNothingElse, ReadsWhatIsWritten}
use Rattle.reading_laws.specs.Reports.{IsOfForm}
use Rattle.verdict_laws.specs.Laws.{RunsAreRight, pair_value, RunsAreCheckedRight, RunsAreNeverDenied}

pair_read : (d e : Data) (document : Document) (report : Report) → document_of d ≡ Ok document → report_of document e ≡ Ok report
    → pair_of (pair_value d e) ≡ Ok (document, report)
unfolding pair_of required
pair_read d e document report first second = rw (first, second) refl

asked : (print : Bool) (bytes : List ℕ) → is_some (image_if print bytes) ≡ print
asked true bytes = refl
asked false bytes = refl

abbrev found : Option Data → Data
found None = Data.null
found (Some d) = d

pub runs_checked : ReadsWhatIsWritten → ReportsHaveTheForm → RunsAreRight → RunsAreCheckedRight
runs_checked back forms right first text bytes answer pair apart =
    let document = answer.document in
    let r = answer.told.report in
    let headline = answer.told.headline in
    let form : IsOfForm r = forms first document r answer.accepted headline.followed_so headline.legal_so answer.told.limits in
    let image : is_some r.image ≡ document.print_image = ap is_some headline.image ∙ asked document.print_image headline.bytes in
    let front : document_of pair.document ≡ Ok document = sym (ap (λ given. given >>= document_of) pair.begins) ∙ answer.accepted in
    let value : report_value r ≡ pair.report = ap found (sym answer.told.reads ∙ pair.reads) in
    let report : report_of document pair.report ≡ Ok (shown_report r) =
    subst (λ (d : Data). report_of document d ≡ Ok (shown_report r)) value (back document r form image) in
    record {
      document = document;
      report = shown_report r;
      accepted = ap (λ given. given >>= pair_of) pair.pair ∙ pair_read pair.document pair.report document (shown_report r) front report;
      right = right document r headline apart;
    }

-- ---- whatever the form

-- a report was read of the pair's second value, and the pair is made of the two
record Paired (document : Document) (e : Data) (pair : Document × Report) : Type 0 where
  report : Report
  read : report_of document e ≡ Ok report
  same : (document, report) ≡ pair

pair_gave : (d e : Data) (document : Document) (pair : Document × Report) → document_of d ≡ Ok document → pair_of (pair_value d e) ≡ Ok pair → Paired document e pair
unfolding pair_of required
pair_gave d e document pair front h = by (report_of document e) refl (rw front at h)
  where
    by : (read : Result Report Fault) → report_of document e ≡ read → (within (codes "report") read >>= λ told. Ok (document, told)) ≡ Ok pair → Paired document e pair
    by (Ok told) is gave = record { report = told; read = is; same = ok_is (document, told) pair gave }
    by (Err f) is gave = absurd (cc)

pub runs_undenied : ReadsNothingElse → RunsAreRight → RunsAreNeverDenied
runs_undenied nothing right first text bytes answer pair apart one path wrong =
    let document = answer.document in
    let r = answer.told.report in
    let front : document_of pair.document ≡ Ok document = sym (ap (λ given. given >>= document_of) pair.begins) ∙ answer.accepted in
    let value : report_value r ≡ pair.report = ap found (sym answer.told.reads ∙ pair.reads) in
    let gave : pair_of (pair_value pair.document pair.report) ≡ Ok (wrong.document, wrong.report) = sym (ap (λ given. given >>= pair_of) pair.pair) ∙ wrong.accepted in
    let paired = pair_gave pair.document pair.report document (wrong.document, wrong.report) front gave in
    let same : paired.report ≡ shown_report r = nothing document r paired.report (ap (report_of document) value ∙ paired.read) in
    let none : first_false wrong.document wrong.report ≡ None =
    ap (λ (p : Document × Report). first_false p.0 p.1) (sym paired.same) ∙ ap (first_false document) same ∙ right document r answer.told.headline apart in
    let clash : None ≡ Some one = sym none ∙ wrong.first.wrong in
    absurd (cc)
