use Rattle.std.proofs.Common.{subst}
use Rattle.std.specs.Io.KnownBytes.{Appends}
use Rattle.json_form.specs.Faults.{Gives}
use Rattle.doc_reader.specs.meaning.Documents.{document_at}
use Rattle.program_ends.specs.declared.status.Status.TheVariants as status
use Rattle.byte_streams.specs.Causes.{AppendsFront, Rose}
use Rattle.continuity_run.specs.meaning.Clauses.{Tells}
use Rattle.continuity_run.specs.InnerEnds.{IsWritten}
use Rattle.continuity_run.proofs.Responses.{written, not_done, not_cut, by_end}
use Rattle.continuity_run.proofs.top.respond.Goals as goal

pub returns-clause-done : goal.returns-clause-done
returns-clause-done g c done =
    let before = g.K.Sink.held c.args.sink.now in
    let after = g.K.Sink.held c.write_answer.new.sink in
    let gives = subst (λ b. Gives c.read_document-read.result (document_at b)) c.as_slice.ensures.value c.read_document-read.ensures.read in
    let wrote = by_end c.answer.result (λ text end. IsWritten text.items end before after (g.K.Sink.faults c.args.sink.now) (g.K.Sink.faults c.write_answer.new.sink)) c.write_answer.result status.Done done c.write_answer.ensures.wrote in
    let all = written c.args.bytes.items c.read_document-read.result c.answer.result (λ document text. Tells c.args.telling document text.items) (λ text. Appends before after text.items) gives c.answer.ensures.told c.answer.ensures.refused wrote (not_done c.answer.result c.write_answer.result done c.write_answer.ensures.told) in
    (all.1.0.items, (record { document = all.0; accepted = all.1.1.0; told = all.1.1.1.0 }, all.1.1.1.1))

pub returns-clause-cut : goal.returns-clause-cut
returns-clause-cut g c cut =
    let before = g.K.Sink.held c.args.sink.now in
    let after = g.K.Sink.held c.write_answer.new.sink in
    let rose = Rose (g.K.Sink.faults c.args.sink.now) (g.K.Sink.faults c.write_answer.new.sink) in
    let gives = subst (λ b. Gives c.read_document-read.result (document_at b)) c.as_slice.ensures.value c.read_document-read.ensures.read in
    let wrote = by_end c.answer.result (λ text end. IsWritten text.items end before after (g.K.Sink.faults c.args.sink.now) (g.K.Sink.faults c.write_answer.new.sink)) c.write_answer.result status.Write cut c.write_answer.ensures.wrote in
    let all = written c.args.bytes.items c.read_document-read.result c.answer.result (λ document text. Tells c.args.telling document text.items) (λ text. AppendsFront before after text.items × rose) gives c.answer.ensures.told c.answer.ensures.refused wrote (not_cut c.answer.result c.write_answer.result cut c.write_answer.ensures.told) in
    (all.1.0.items, (record { document = all.0; accepted = all.1.1.0; told = all.1.1.1.0 }, all.1.1.1.1.0))
