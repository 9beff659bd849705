use Rattle.std.proofs.Common.{◌≡◌, ◌≤◌, ℕ, List, length, Some, Result, Ok, sym, ap, ◌∙◌, arith, rules}
use Rattle.std.proofs.lemmas.Bool.{le-ltb}
use Rattle.std.specs.Str.{IsUtf8}
use Rattle.serde_json.specs.Data.{Data}
use Rattle.serde_json.specs.Read.{read}
use Rattle.json_form.specs.meaning.Faults.{Fault, ◌>>=◌}
use Rattle.json_form.specs.meaning.Texts.{json_of, json_at}
use Rattle.json_form.proofs.Offered.{is_json}
use Rattle.outage_schedule.specs.declared.document.Document.{Document}
use Rattle.doc_reader.specs.meaning.Documents.{document_of, document_at, limit}
use Rattle.document_forms.proofs.Offered.{of_each}
use Rattle.doc_reader.proofs.streamed.streamed.Goals as goal

within_limit : (bytes : List ℕ) (d : Data) → length bytes ≤ limit → json_of bytes ≡ Ok d → json_at limit bytes ≡ Ok d
within_limit bytes d fits e = rw (le-ltb limit (length bytes) fits) e

spelt : (bytes : List ℕ) (d : Data) (document : Document) → length bytes ≤ limit → IsUtf8 bytes → read bytes ≡ Some d → document_of d ≡ Ok document → document_at bytes ≡ Ok document
spelt bytes d document fits utf8 e told = ap (λ (r : Result Data Fault). r >>= document_of) (within_limit bytes d fits (is_json bytes d utf8 e)) ∙ told

pub returns : goal.returns
returns c =
    let text : (c.in_ok-text.text.now ≡ c.args.bytes.now) × IsUtf8 c.args.bytes.now = search rules in
    of_each _ _ c.text_ahead.result (λ document told. spelt c.args.bytes.now told.0 document (omega arith) text.1 (ap read (sym text.0) ∙ told.1) told.2) c.text_ahead.ensures
