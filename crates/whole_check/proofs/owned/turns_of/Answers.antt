use Rattle.std.proofs.Common.{rules, map, List, subst}
use Rattle.std.proofs.lemmas.List.Sorted.{IsNonDecreasingBy-from_sort_by_key, IsPermutation-map}
use Rattle.std.specs.List.Sorted.{IsPermutation}
use Rattle.shown_clauses.specs.meaning.Turns.{Owned}
use Rattle.whole_check.specs.declared.owned.OwnedAt.{OwnedAt}
use Rattle.whole_check.specs.Views.{owned_as}
use Rattle.whole_check.proofs.owned.turns_of.Goals as goal

pub returns-clause-same : goal.returns-clause-same
returns-clause-same c =
    subst (λ (turns : List Owned). IsPermutation turns (map owned_as c.sort_by_key.new.self.items)) c.in_ok-owned.ensures
    (IsPermutation-map owned_as _ _ c.in_ok-sort_by_key.ensures.permutation)

pub returns-clause-rises : goal.returns-clause-rises
returns-clause-rises c = IsNonDecreasingBy-from_sort_by_key (λ (one : OwnedAt). one.event) _ c.in_ok-sort_by_key.ensures.sorted (λ a r q k. search rules)
