use Rattle.std.proofs.Common.{◌==◌, not, rules}
use Rattle.std.proofs.lemmas.Fn.{filter_same}
use Rattle.pool_core.proofs.pool.take_out.Goals as goal

pub returns-clause-others : goal.returns-clause-others
returns-clause-others c =
    filter_same _ (λ other. not (other == c.args.number)) _ (λ other kept after called. search rules) _ _ c.retain.ensures.filtered
