use Rattle.json_form.specs.Streams.{value_ahead}
use Rattle.json_form.proofs.Offered.{begun}
use Rattle.doc_reader.specs.meaning.Documents.{clients_of}
use Rattle.doc_reader.proofs.OneByOne.{clients_put}
use Rattle.doc_reader.proofs.streamed.Ahead.take_clients.Goals as goal

pub returns-clause-read : goal.returns-clause-read
returns-clause-read c =
    let b = begun clients_of (value_ahead c.args.depth c.args.tokens.now) c.in_ok-clients.clients c.clients_ahead.new.tokens c.in_ok-clients.ensures.read in
    (b.0, b.1, λ ms are. clients_put c.args.self.now c.in_ok-clients.clients b.0 ms b.2 are)
