use Rattle.stmt_meaning.proofs.SerialSteps.{Serial-next, Serial-once}
use Rattle.stmt_meaning.proofs.SerialTests.{Serial-after, serial_after-is}
use Rattle.stmt_meaning.proofs.laws.serial_goes_on.Goals as goal

pub returns-clause-next : goal.returns-clause-next
returns-clause-next c = Serial-next

pub returns-clause-one : goal.returns-clause-one
returns-clause-one c = Serial-once

pub returns-clause-tested : goal.returns-clause-tested
returns-clause-tested c = λ shape start entries after. (Serial-after shape start entries after, serial_after-is shape start entries after)
