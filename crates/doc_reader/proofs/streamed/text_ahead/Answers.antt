use Rattle.std.proofs.Common.{◌≡◌, [], sym, ap, ◌∙◌, rules, Some}
use Rattle.json.specs.Lex.{tokens}
use Rattle.json_form.specs.Streams.{value_ahead}
use Rattle.json_form.proofs.Offered.{begun, whole_read}
use Rattle.doc_reader.specs.meaning.Documents.{document_of}
use Rattle.doc_reader.proofs.OneByOne.{nothing_more}
use Rattle.doc_reader.proofs.streamed.text_ahead.Goals as goal

pub returns : goal.returns
returns c =
    let begins : c.in_ok-tokens.tokens ≡ tokens c.args.text.now = search rules in
    let over : c.document_ahead.new.tokens ≡ [] = (nothing_more _ _ c.next.result c.next.ensures.value (sym c.if-is_some.ensures)).0 in
    let x = begun document_of (value_ahead 127 c.in_ok-tokens.tokens) c.in_ok-document.document c.document_ahead.new.tokens c.in_ok-document.ensures.read in
    let all : value_ahead 127 (tokens c.args.text.now) ≡ Some (x.0, []) = ap (value_ahead 127) (sym begins) ∙ x.1 ∙ ap (λ r. Some (x.0, r)) over in
    (x.0, whole_read c.args.text.now x.0 all, x.2)
