use Rattle.std.proofs.Common.{◌≡◌, ◌∷◌, length, ap, arith}
use Rattle.json.specs.Reads.{token_of}
use Rattle.call_forms.proofs.ValuesAhead.{literal_begins}
use Rattle.call_forms.proofs.value.OperandReaderReaderOperand.ahead.Goals as goal

pub returns-in_ok-literal-in_default : goal.returns-in_ok-literal-in_default
returns-in_ok-literal-in_default c =
    let is : c.args.tokens.now ≡ token_of c.in_ok-token.token ∷ c.next.new.self = grind arith in
    record {
      begins = literal_begins c.args.self.now.digits c.args.depth (token_of c.in_ok-token.token) c.args.tokens.now c.next.new.self c.in_ok-literal-in_default.literal is c.in_ok-literal-in_default.ensures;
      shorter = omega (arith, ap length is);
    }
