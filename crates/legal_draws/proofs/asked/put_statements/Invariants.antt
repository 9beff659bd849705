use Rattle.std.proofs.Common.{◌≡◌, ◌++◌, flat_map, take}
use Rattle.stmt_meaning.specs.meaning.Asked.{asked_by_statement}
use Rattle.legal_draws.proofs.asked.put_statements.Given as goal

abbrev pub invariant-loop-statement : goal.invariant-loop-statement
invariant-loop-statement l = l.asked.items ≡ l.fn.asked.items ++ flat_map asked_by_statement (take l.statement-index l.statements)
