use Rattle.std.proofs.Common.{Ok}
use Rattle.doc_reader.proofs.ReadDocuments.{kept}
use Rattle.doc_reader.proofs.document.read_document.Goals as goal

pub returns-in-Some-clause-document : goal.returns-in-Some-clause-document
returns-in-Some-clause-document c = kept c.args.bytes.now (Ok c.in-Some.document) c.in-Some.ensures
