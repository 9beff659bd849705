use Rattle.std.proofs.Common.{rules}
use Rattle.doc_reader.proofs.document.clients_from.Goals as goal

pub returns-in_err-clients : goal.returns-in_err-clients
returns-in_err-clients c = search rules
