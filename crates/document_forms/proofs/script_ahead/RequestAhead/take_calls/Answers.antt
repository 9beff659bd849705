use Rattle.std.proofs.Common.{rules}
use Rattle.json_form.specs.declared.hexadecimal.Digits.TheVariants as digits
use Rattle.json_form.specs.meaning.Arrays.{array_of, each_of}
use Rattle.call_forms.specs.meaning.Calls.{call_of}
use Rattle.json_form.specs.Streams.{value_ahead}
use Rattle.json_form.proofs.Offered.{begun}
use Rattle.document_forms.proofs.RequestsAhead.{calls_put}
use Rattle.document_forms.proofs.script_ahead.RequestAhead.take_calls.Goals as goal

pub returns-clause-read : goal.returns-clause-read
returns-clause-read c =
    let b = begun (array_of 1 1024 (each_of (call_of digits.Any))) (value_ahead c.args.depth c.args.tokens.now) c.in_ok-calls.calls c.calls_ahead.new.tokens (search rules) in
    (b.0, b.1, λ ms are. calls_put c.args.self.now b.0 ms c.in_ok-calls.calls b.2 are)
