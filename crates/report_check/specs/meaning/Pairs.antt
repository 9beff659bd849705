-- The object that has a document and a report of it.
use Rattle.std.specs.Prelude.{ℕ, List, [], ◌∷◌, Result, Ok, codes}
use Rattle.serde_json.specs.Data.{Data}
use Rattle.json_form.specs.meaning.Faults.{Fault, ◌>>=◌, within}
use Rattle.json_form.specs.meaning.Objects.{object_with, required}
use Rattle.json_form.specs.meaning.Texts.{json_at}
use Rattle.outage_schedule.specs.declared.document.Document.{Document}
use Rattle.outage_schedule.specs.declared.report.Report.{Report}
use Rattle.doc_reader.specs.meaning.Documents.{document_of}
use Rattle.report_reader.specs.meaning.Reports.{report_of}

-- 64 MiB
abbrev pub check_limit : ℕ
check_limit = 67108864

-- the document is judged first, and its own size is no matter
unfoldable pub pair_of : Data → Result (Document × Report) Fault
pair_of d =
    object_with (codes "document" ∷ codes "report" ∷ []) d >>= λ ms.
    required (codes "document") ms >>= λ document. required (codes "report") ms >>= λ report.
    within (codes "document") (document_of document) >>= λ doc.
    within (codes "report") (report_of doc report) >>= λ told. Ok (doc, told)

-- the document and its report that the bytes are, or the first fault and its place
abbrev pub pair_at : List ℕ → Result (Document × Report) Fault
pair_at bytes = json_at check_limit bytes >>= pair_of
