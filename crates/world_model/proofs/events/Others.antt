-- `serve`, `cut` and `reap` touch their own connection alone.
use Rattle.std.proofs.Common.{◌≡◌, ◌≢◌, refl, ap, subst, ℕ, suc, zero, List, [], ◌∷◌, Option, Some, None}
use Rattle.std.specs.Prelude.{slice_get, slice_set}
use Rattle.std.specs.Option.{option_map_or}
use Rattle.outage_schedule.specs.declared.note.Reached.{Reached}
use Rattle.world_model.specs.meaning.Links.{Link, link_at, with_link, changed}
use Rattle.world_model.specs.meaning.Machines.{Machine}
use Rattle.world_model.specs.meaning.Cutting.{cuts}

set_other : (links : List Link) (k j : ℕ) (link : Link) → j ≢ k → slice_get (slice_set links k link) j ≡ slice_get links j
set_other [] k j link differ = refl
set_other (first ∷ links) zero zero link differ = absurd (differ refl)
set_other (first ∷ links) zero (suc j) link differ = refl
set_other (first ∷ links) (suc k) zero link differ = refl
set_other (first ∷ links) (suc k) (suc j) link differ = set_other links k j link (λ e. differ (ap suc e))

-- the other connections of the list
pub with_link_other : (links : List Link) (number other : ℕ) (link : Link) → other ≢ suc number → link_at (with_link links (suc number) link) other ≡ link_at links other
with_link_other links number zero link differ = refl
with_link_other links number (suc other) link differ = set_other links number other link (λ e. differ (ap suc e))

-- where it leaves the other connections
abbrev pub IsSameButOne : Machine → ℕ → Machine → Type 0
IsSameButOne m number n = (other : ℕ) → other ≢ number → link_at n.links other ≡ link_at m.links other

same_at : (m a n : Machine) (number : ℕ) → IsSameButOne m number a → a ≡ n → IsSameButOne m number n
same_at m a n number same e = subst (IsSameButOne m number) e same

nothing_cut : (m : Machine) (up down : ℕ) (reached : Option Reached) (n : Machine) → cuts m 0 up down reached None ≡ Some n → IsSameButOne m 0 n
nothing_cut m up down None n e = let same : m ≡ n = cc in same_at m m n 0 (λ other differ. refl) same
nothing_cut m up down (Some reached) n e = absurd (let none : ⊥ = cc in none)

changed_other : (change : Link → Link) (links : List Link) (number other : ℕ) (found : Option Link) → other ≢ suc number
    → link_at (option_map_or (λ link. with_link links (suc number) (change link)) found links) other ≡ link_at links other
changed_other change links number other None differ = refl
changed_other change links number other (Some link) differ = with_link_other links number other (change link) differ

-- what is changed at one number
pub changed_others : (change : Link → Link) (links : List Link) (number other : ℕ) → other ≢ number → link_at (changed change links number) other ≡ link_at links other
changed_others change links zero other differ = refl
changed_others change links (suc number) other differ = changed_other change links number other (link_at links (suc number)) differ
