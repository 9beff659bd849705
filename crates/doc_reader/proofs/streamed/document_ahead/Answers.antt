use Rattle.std.proofs.Common.{◌≡◌, Some, ap, ◌∙◌}
use Rattle.json.specs.Json.{parse_map}
use Rattle.serde_json.specs.Data.{object}
use Rattle.json_form.specs.Streams.{value_ahead}
use Rattle.document_forms.proofs.Offered.{of_each}
use Rattle.doc_reader.specs.meaning.Documents.{document_of}
use Rattle.doc_reader.proofs.ReadDocuments.{document_read}
use Rattle.doc_reader.proofs.streamed.document_ahead.Goals as goal

pub returns-clause-read : goal.returns-clause-read
returns-clause-read c =
    let x = c.in_ok-ahead.ensures.read in
    let begins : value_ahead c.args.depth c.args.tokens.now ≡ Some (object x.0, c.members_ahead.new.tokens) = c.in_ok-inside.ensures.object.1 ∙ ap (parse_map object) x.1 in
    of_each _ _ c.joined.result
    (λ document told. ap (parse_map document_of) begins ∙ ap (λ r. Some (r, c.members_ahead.new.tokens)) (told x.0 x.2 x.3)) c.joined.ensures

pub returns-clause-document : goal.returns-clause-document
returns-clause-document c =
    let x = c.in_ok-ahead.ensures.read in
    of_each _ _ c.joined.result (λ document told. document_read (object x.0) document (told x.0 x.2 x.3)) c.joined.ensures
