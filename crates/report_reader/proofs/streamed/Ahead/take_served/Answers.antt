use Rattle.std.proofs.Common.{◌≡◌, Some, rules}
use Rattle.json_form.specs.Streams.{value_ahead}
use Rattle.json_form.proofs.Offered.{begun}
use Rattle.note_forms.specs.meaning.Items.{served_in}
use Rattle.report_reader.proofs.OneByOne.{served_put}
use Rattle.report_reader.proofs.streamed.Ahead.take_served.Goals as goal

pub returns-clause-read : goal.returns-clause-read
returns-clause-read c = λ print.
    let notes = c.in_ok-notes.notes.now in
    let there : c.args.self.now.notes ≡ Some notes = search rules in
    let b = begun (served_in notes) (value_ahead c.args.depth c.args.tokens.now) c.in_ok-served.served c.served_ahead.new.tokens c.in_ok-served.ensures.read in
    (b.0, b.1, λ ms are. served_put print c.args.self.now notes c.in_ok-served.served b.0 ms there b.2 are)
