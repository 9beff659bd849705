use Rattle.std.proofs.Common.{◌≡◌, ◌++◌, flat_map, take}
use Rattle.stmt_meaning.specs.meaning.Asked.{asked_by_operand}
use Rattle.legal_draws.proofs.asked.put_operands.Given as goal

abbrev pub invariant-loop-operand : goal.invariant-loop-operand
invariant-loop-operand l = l.asked.items ≡ l.fn.asked.items ++ flat_map asked_by_operand (take l.operand-index l.operands)
