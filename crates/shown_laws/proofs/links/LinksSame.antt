-- What is read of each connection stays where one of them changes, or all, and what is read of
-- these does not.
use Rattle.std.proofs.Common.{◌≡◌, ◌≢◌, refl, sym, ap, ◌∙◌, ℕ, List, [], ◌∷◌, map, fold, Option, Some, option_map, ◌⊎◌, inl, inr}
use Rattle.world_model.specs.meaning.Links.{Link, link_at, with_link, changed, sends}
use Rattle.world_model.specs.meaning.Outside.{closed_by_drain}
use Rattle.shown_laws.proofs.events.Lookups.{either, with_own, with_other, changed_own, changed_other, all_changed}

-- of the connection of each number, be it there or not
abbrev pub SameRead : {A : Type 0} → (Option Link → A) → List Link → List Link → Type 0
SameRead read links news = (number : ℕ) → read (link_at news number) ≡ read (link_at links number)

abbrev pub KeepsRead : {A : Type 0} → (Option Link → A) → (Link → Link) → Type 0
KeepsRead read change = (found : Option Link) → read (option_map change found) ≡ read found

pub one_same : {A : Type 0} (read : Option Link → A) (change : Link → Link) → KeepsRead read change → (links : List Link) (number : ℕ) → SameRead read links (changed change links number)
one_same read change keeps links number other = by (either other number)
  where
    by : (other ≡ number) ⊎ (other ≢ number) → read (link_at (changed change links number) other) ≡ read (link_at links other)
    by (inl same) =
        ap (λ (n : ℕ). read (link_at (changed change links number) n)) same
        ∙ (ap read (changed_own change links number) ∙ (keeps (link_at links number) ∙ ap (λ (n : ℕ). read (link_at links n)) (sym same)))
    by (inr differ) = ap read (changed_other change links number other differ)

pub with_same : {A : Type 0} (read : Option Link → A) (links : List Link) (number : ℕ) (old new : Link) → link_at links number ≡ Some old → read (Some new) ≡ read (Some old) → SameRead read links (with_link links number new)
with_same read links number old new there kept other = by (either other number)
  where
    by : (other ≡ number) ⊎ (other ≢ number) → read (link_at (with_link links number new) other) ≡ read (link_at links other)
    by (inl same) =
        ap (λ (n : ℕ). read (link_at (with_link links number new) n)) same
        ∙ (ap read (with_own links number old new there) ∙ (kept ∙ (ap read (sym there) ∙ ap (λ (n : ℕ). read (link_at links n)) (sym same))))
    by (inr differ) = ap read (with_other links number other new differ)

pub each_same : {A : Type 0} (read : Option Link → A) (change : Link → Link) → KeepsRead read change → (links : List Link) → SameRead read links (map change links)
each_same read change keeps links number = ap read (all_changed change links number) ∙ keeps (link_at links number)

-- the pool closes its idle connections
pub drained_same : {A : Type 0} (read : Option Link → A) (event : ℕ) → KeepsRead read (sends event (closed_by_drain ∷ [])) → (numbers : List ℕ) (links : List Link) → SameRead read links (fold (changed (sends event (closed_by_drain ∷ []))) links numbers)
drained_same read event keeps [] links other = refl
drained_same read event keeps (number ∷ numbers) links other =
    drained_same read event keeps numbers (changed (sends event (closed_by_drain ∷ [])) links number) other ∙ one_same read (sends event (closed_by_drain ∷ [])) keeps links number other
