-- The connection of a number where some of them change.
use Rattle.std.proofs.Common.{◌≡◌, ◌≢◌, refl, sym, ap, ◌∙◌, Bool, true, false, ℕ, suc, zero, ◌+◌, length, List, [], ◌∷◌, ◌++◌, map, Option, Some, None, option_map, ◌⊎◌, inl, inr, add-one, arith}
use Rattle.std.specs.Prelude.{◌==◌, slice_get}
use Rattle.std.specs.Option.{option_map_or}
use Rattle.std.proofs.lemmas.Bool.Decides.{nat_tests}
use Rattle.world_model.specs.meaning.Links.{Link, link_at, with_link, changed}
use Rattle.shown_laws.proofs.events.Places.{set_own, set_other, get_last, get_map}

-- NUMBERS -----------------------------------------------------------------------------------------

pub eq_from : (a b : ℕ) → (a == b) ≡ true → a ≡ b
eq_from a b is = grind (arith, nat_tests)

pub eq_to : (a b : ℕ) → a ≡ b → (a == b) ≡ true
eq_to a b is = grind (arith, nat_tests)

pub ne_to : (a b : ℕ) → a ≢ b → (a == b) ≡ false
ne_to a b differ = by (a == b) refl
  where
    by : (test : Bool) → (a == b) ≡ test → test ≡ false
    by true is = absurd (differ (eq_from a b is))
    by false is = refl

pub either : (a b : ℕ) → (a ≡ b) ⊎ (a ≢ b)
either a b = by (a == b) refl
  where
    by : (test : Bool) → (a == b) ≡ test → (a ≡ b) ⊎ (a ≢ b)
    by true is = inl (eq_from a b is)
    by false is = inr (λ same. let yes : (a == b) ≡ true = eq_to a b same in let none : ⊥ = cc in none)

-- ONE BECOMES ANOTHER -----------------------------------------------------------------------------

pub with_own : (links : List Link) (number : ℕ) (old new : Link) → link_at links number ≡ Some old → link_at (with_link links number new) number ≡ Some new
with_own links zero old new is = absurd (let none : ⊥ = cc in none)
with_own links (suc index) old new is = set_own links index old new is

pub with_other : (links : List Link) (number other : ℕ) (new : Link) → other ≢ number → link_at (with_link links number new) other ≡ link_at links other
with_other links zero other new differ = refl
with_other links (suc index) zero new differ = refl
with_other links (suc index) (suc other) new differ = set_other links index other new (λ same. differ (ap suc same))

pub changed_own : (change : Link → Link) (links : List Link) (number : ℕ) → link_at (changed change links number) number ≡ option_map change (link_at links number)
changed_own change links number = by (link_at links number) refl
  where
    by : (found : Option Link) → link_at links number ≡ found → link_at (option_map_or (λ one. with_link links number (change one)) found links) number ≡ option_map change found
    by None is = is
    by (Some one) is = with_own links number one (change one) is

pub changed_other : (change : Link → Link) (links : List Link) (number other : ℕ) → other ≢ number → link_at (changed change links number) other ≡ link_at links other
changed_other change links number other differ = by (link_at links number)
  where
    by : (found : Option Link) → link_at (option_map_or (λ one. with_link links number (change one)) found links) other ≡ link_at links other
    by None = refl
    by (Some one) = with_other links number other (change one) differ

-- ALL CHANGE --------------------------------------------------------------------------------------

pub all_changed : (change : Link → Link) (links : List Link) (number : ℕ) → link_at (map change links) number ≡ option_map change (link_at links number)
all_changed change links zero = refl
all_changed change links (suc index) = get_map change links index

-- A NEW ONE ---------------------------------------------------------------------------------------

pub new_own : (links : List Link) (new : Link) → link_at (links ++ new ∷ []) (length links + 1) ≡ Some new
new_own links new = ap (link_at (links ++ new ∷ [])) (add-one (length links)) ∙ get_last links new

new_before : (links : List Link) (new : Link) (index : ℕ) → index ≢ length links → slice_get (links ++ new ∷ []) index ≡ slice_get links index
new_before [] new zero differ = absurd (differ refl)
new_before [] new (suc index) differ = refl
new_before (first ∷ links) new zero differ = refl
new_before (first ∷ links) new (suc index) differ = new_before links new index (λ same. differ (ap suc same))

pub new_other : (links : List Link) (new : Link) (other : ℕ) → other ≢ length links + 1 → link_at (links ++ new ∷ []) other ≡ link_at links other
new_other links new zero differ = refl
new_other links new (suc index) differ = new_before links new index (λ same. differ (ap suc same ∙ sym (add-one (length links))))

-- there is none yet
past_last : (links : List Link) → ◌≡◌ {A = Option Link} (slice_get links (length links)) None
past_last [] = refl
past_last (first ∷ links) = past_last links

pub none_new : (links : List Link) → ◌≡◌ {A = Option Link} (link_at links (length links + 1)) None
none_new links = ap (link_at links) (add-one (length links)) ∙ past_last links
