use Rattle.std.proofs.Common.{◌∙◌}
use Rattle.entry_events.proofs.Ranks.{until_is}
use Rattle.entry_events.proofs.numbers.count_until.Goals as goal

pub returns-clause-is : goal.returns-clause-is
returns-clause-is c =
    c.saturating_sub.ensures
    ∙ until_is c.args.keys.now c.args.session.now c.args.time _ _ c.count_up_to-to.ensures.within c.count_before-from.ensures.point c.count_up_to-to.ensures.point
