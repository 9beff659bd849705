-- Of the sendings of a transaction all but the last are settled: what that says of each, and where
-- it stays so.
use Rattle.std.proofs.Common.{◌≡◌, refl, sym, ap, ap₂, ◌∙◌, Bool, true, false, ℕ, ◌&&◌, cond, filter, length, List, [], ◌∷◌, ◌++◌, Some}
use Rattle.std.specs.Prelude.{◌==◌, not, nat_le}
use Rattle.std.specs.List.{list_all}
use Rattle.std.proofs.lemmas.Bool.{and_parts, and_from, or_cases, or_left, or_right}
use Rattle.std.proofs.Common.{◌⊎◌, inl, inr}
use Rattle.svc_values.specs.declared.entry.Ltxid.{Ltxid}
use Rattle.svc_values.specs.meaning.Calls.{has_commit}
use Rattle.outage_schedule.specs.declared.request.ShownCall.{ShownCall}
use Rattle.run_clauses.specs.meaning.Tried.{holds}
use Rattle.invariant_laws.specs.Once.{all_but_last, is_open_or_committed, is_settled, later_settled, transaction_at}
use Rattle.world_model.specs.Parts.{Sending, implies}
use Rattle.world_model.specs.Traced.{Traced}
use Rattle.world_model.proofs.Offered.{weaker_all, le_from}
use Rattle.invariant_laws.proofs.sendings.ApartSteps.{AnsweredAs, NoneNow, LastNow, commits}
use Rattle.invariant_laws.proofs.entries.NotedSteps.{place_before}

-- settled, if it is of this transaction
abbrev pub is_later : Traced → List ShownCall → ℕ → Sending → Bool
is_later t shown transaction sending = implies (transaction_at shown sending.at == transaction) (is_settled t sending)

pub later_all : (t : Traced) (shown : List ShownCall) (transaction : ℕ) (list : List Sending) → later_settled t shown transaction list ≡ list_all (is_later t shown transaction) list
later_all t shown transaction [] = refl
later_all t shown transaction (sending ∷ list) = ap (λ (rest : Bool). is_later t shown transaction sending && rest) (later_all t shown transaction list)

-- MORE BLOCKS -------------------------------------------------------------------------------------

module _ (a b : Traced) (blocks : (x : Ltxid) → holds a.blocked x ≡ true → holds b.blocked x ≡ true) where
  settled_more : (sending : Sending) → is_settled a sending ≡ true → is_settled b sending ≡ true
  settled_more sending here = by (or_cases (not (is_open_or_committed sending)) (holds a.blocked sending.ltxid) here)
    where
      by : (not (is_open_or_committed sending) ≡ true) ⊎ (holds a.blocked sending.ltxid ≡ true) → is_settled b sending ≡ true
      by (inl shut) = or_left (not (is_open_or_committed sending)) (holds b.blocked sending.ltxid) shut
      by (inr held) = or_right (not (is_open_or_committed sending)) (holds b.blocked sending.ltxid) (blocks sending.ltxid held)

  later_more : (shown : List ShownCall) (transaction : ℕ) (list : List Sending) → later_settled a shown transaction list ≡ true → later_settled b shown transaction list ≡ true
  later_more shown transaction list here =
      later_all b shown transaction list ∙ weaker_all (is_later a shown transaction) (is_later b shown transaction) list (λ sending one. by (transaction_at shown sending.at == transaction) sending one) (sym (later_all a shown transaction list) ∙ here)
    where
      by : (test : Bool) (sending : Sending) → implies test (is_settled a sending) ≡ true → implies test (is_settled b sending) ≡ true
      by true sending one = settled_more sending one
      by false sending one = refl

  pub all_but_more : (shown : List ShownCall) (list : List Sending) → all_but_last a shown list ≡ true → all_but_last b shown list ≡ true
  all_but_more shown [] here = refl
  all_but_more shown (sending ∷ list) here =
      let parts = and_parts (later_settled a shown (transaction_at shown sending.at) list) (all_but_last a shown list) here in
      and_from (later_settled b shown (transaction_at shown sending.at) list) (all_but_last b shown list) (later_more shown (transaction_at shown sending.at) list parts.0) (all_but_more shown list parts.1)

-- MORE CALLS --------------------------------------------------------------------------------------

module _ (t : Traced) (shown more : List ShownCall) where
  abbrev is_within : Sending → Bool
  is_within sending = nat_le sending.at (length shown)

  same_place : (sending : Sending) → is_within sending ≡ true → transaction_at (shown ++ more) sending.at ≡ transaction_at shown sending.at
  same_place sending within = place_before shown more sending.at (le_from sending.at (length shown) within)

  later_further : (transaction : ℕ) (list : List Sending) → list_all is_within list ≡ true → later_settled t (shown ++ more) transaction list ≡ later_settled t shown transaction list
  later_further transaction [] within = refl
  later_further transaction (sending ∷ list) within =
      let parts = and_parts (is_within sending) (list_all is_within list) within in
      ap₂ (λ (place : ℕ) (rest : Bool). implies (place == transaction) (is_settled t sending) && rest) (same_place sending parts.0) (later_further transaction list parts.1)

  pub all_but_further : (list : List Sending) → list_all is_within list ≡ true → all_but_last t (shown ++ more) list ≡ all_but_last t shown list
  all_but_further [] within = refl
  all_but_further (sending ∷ list) within =
      let parts = and_parts (is_within sending) (list_all is_within list) within in
      ap₂ (λ (one rest : Bool). one && rest)
      (ap (λ (place : ℕ). later_settled t (shown ++ more) place list) (same_place sending parts.0) ∙ later_further (transaction_at shown sending.at) list parts.1)
      (all_but_further list parts.1)

-- ONE IS ANSWERED ---------------------------------------------------------------------------------

-- only the last one is
pub all_but_answered : (t : Traced) (shown : List ShownCall) (old new : List Sending) → AnsweredAs old new → all_but_last t shown (filter commits old) ≡ true → all_but_last t shown (filter commits new) ≡ true
all_but_answered t shown _ _ (NoneNow list) all = all
all_but_answered t shown _ _ (LastNow top rest answers none) all = by (has_commit top.call) all
  where
    by : (test : Bool) → all_but_last t shown (cond test (top ∷ filter commits rest) (filter commits rest)) ≡ true → all_but_last t shown (cond test (record top { taken = Some answers } ∷ filter commits rest) (filter commits rest)) ≡ true
    by false all = all
    by true all = all
