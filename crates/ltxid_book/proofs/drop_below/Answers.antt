use Rattle.std.proofs.Common.{ℕ, filter, rules}
use Rattle.std.specs.Prelude.{nat_le}
use Rattle.std.proofs.lemmas.Map.Made.{filter_same_pairs}
use Rattle.ltxid_book.specs.declared.State.{State}
use Rattle.ltxid_book.proofs.Lookups.{state_in-filter}
use Rattle.ltxid_book.proofs.drop_below.Goals as goal

pub returns : goal.returns
returns c incarnation session le =
    let below = c.args.below in
    let kept = filter_same_pairs _ (λ (e : (ℕ × ℕ) × State). nat_le below e.0.0) _ (λ k v b w f' t. search rules) _ _ c.retain.ensures.filtered in
    state_in-filter _ _ below kept incarnation session le
