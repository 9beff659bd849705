use Rattle.std.proofs.Common.{sym}
use Rattle.alert_lines.proofs.Flagged.{last_at}
use Rattle.alert_lines.proofs.standing.last_of.Goals as goal

pub returns-in-len1-up : goal.returns-in-len1-up
returns-in-len1-up c = sym (last_at c.args.flags.now)
