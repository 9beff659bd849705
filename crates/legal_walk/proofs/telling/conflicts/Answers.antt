use Rattle.std.proofs.Common.{◌∙◌}
use Rattle.legal_walk.proofs.Verdicts.{conflict_is}
use Rattle.legal_walk.proofs.telling.conflicts.Goals as goal

pub returns : goal.returns
returns c = λ reads are. c.is_some.ensures ∙ conflict_is c.conflicts.result c.args.tables.now.rows reads (c.conflicts.ensures reads are)
