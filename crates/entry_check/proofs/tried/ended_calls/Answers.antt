use Rattle.std.proofs.Common.{rules, tests}
use Rattle.std.proofs.lemmas.Iterator.{YieldsList-from_slice}
use Rattle.std.proofs.lemmas.Iterator.Consumers.{count_from_yields_List, YieldsList-from_filter}
use Rattle.entry_check.specs.Once.{is_end}
use Rattle.entry_check.proofs.tried.ended_calls.Goals as goal

pub returns : goal.returns
returns c =
    count_from_yields_List c.filter.result c.count.result c.count.ensures.ran
    (YieldsList-from_filter _ is_end (YieldsList-from_slice c.args.calls.now cc) c.filter.ensures.closure (λ x b q k. search (rules, tests)))
