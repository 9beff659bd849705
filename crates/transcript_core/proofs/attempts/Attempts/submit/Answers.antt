use Rattle.std.proofs.Common.{rules}
use Rattle.transcript_core.proofs.attempts.Attempts.submit.Goals as goal

pub returns : goal.returns
returns c = search rules
