use Rattle.std.proofs.Common.{rules}
use Rattle.json_form.specs.meaning.Values.{whole_of}
use Rattle.json_form.specs.Streams.{value_ahead}
use Rattle.json_form.proofs.Offered.{begun}
use Rattle.document_forms.proofs.RequestsAhead.{again_put}
use Rattle.document_forms.proofs.script_ahead.RequestAhead.take_again.Goals as goal

pub returns-clause-read : goal.returns-clause-read
returns-clause-read c =
    let b = begun (whole_of 0 4) (value_ahead c.args.depth c.args.tokens.now) c.in_ok-again.again c.ahead.new.tokens (search rules) in
    (b.0, b.1, λ ms are. again_put c.args.self.now b.0 ms c.in_ok-again.again b.2 are)
