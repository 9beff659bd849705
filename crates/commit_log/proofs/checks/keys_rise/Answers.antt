use Rattle.std.proofs.Common.{◌≡◌, rules, Bool, subst}
use Rattle.std.specs.List.{IsAllAdjacentAnswer}
use Rattle.std.proofs.lemmas.List.Sorted.{answers_always}
use Rattle.commit_log.specs.Bases.{has_lower_key}
use Rattle.commit_log.proofs.Rising.{lower_differ}
use Rattle.commit_log.proofs.checks.keys_rise.Goals as goal

pub returns-clause-rise : goal.returns-clause-rise
returns-clause-rise c = c.is_sorted_by.ensures.cases has_lower_key (answers_always _ _ _ (λ f a r g h. search rules))

pub returns-clause-apart : goal.returns-clause-apart
returns-clause-apart c rises =
    lower_differ c.args.rows.now (subst (λ (b : Bool). IsAllAdjacentAnswer (λ row next b. b ≡ has_lower_key row next) c.args.rows.now b) rises (returns-clause-rise c))
