use Rattle.std.proofs.Common.{arith}
use Rattle.json_form.proofs.Ahead.{bracket_ahead}
use Rattle.json_form.proofs.fixed_ahead.array_ends.Goals as goal

pub returns-clause-ends : goal.returns-clause-ends
returns-clause-ends c = λ depth. bracket_ahead depth c.args.tokens.now c.take_end_array.new.self (grind arith)
