use Rattle.json_form.specs.Streams.{value_ahead}
use Rattle.json_form.proofs.Offered.{begun}
use Rattle.entry_forms.specs.meaning.Requests.{clients_in}
use Rattle.report_reader.proofs.OneByOne.{clients_put}
use Rattle.report_reader.proofs.streamed.Ahead.take_clients.Goals as goal

pub returns-clause-read : goal.returns-clause-read
returns-clause-read c = λ print.
    let b = begun clients_in (value_ahead c.args.depth c.args.tokens.now) c.in_ok-clients.clients c.clients_ahead.new.tokens c.in_ok-clients.ensures.read in
    (b.0, b.1, λ ms are. clients_put print c.args.self.now c.in_ok-clients.clients b.0 ms b.2 are)
