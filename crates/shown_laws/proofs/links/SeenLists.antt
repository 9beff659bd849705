-- Connections by their number among those that were seen, where some of these change.
use Rattle.std.proofs.Common.{◌≡◌, ◌≢◌, refl, sym, ap, ◌∙◌, Bool, true, false, ℕ, List, [], ◌∷◌, map, Option, Some, None, option_map, if◌then◌else◌}
use Rattle.std.specs.Prelude.{◌==◌}
use Rattle.shown_clauses.specs.meaning.Fronts.{first_of, first_from, changed_if, with_changed}
use Rattle.shown_clauses.specs.meaning.Links.{Link, is_link, link_of}
use Rattle.shown_laws.proofs.events.Lookups.{eq_from, eq_to, ne_to}

-- the first of a list, or that of the rest
pub first_is : {A : Type 0} (test : A → Bool) (met : Bool) (x : A) (xs : List A) → first_from test met x xs ≡ (if met then Some x else first_of test xs)
first_is test true x xs = refl
first_is test false x [] = refl
first_is test false x (y ∷ ys) = refl

-- it has the number by which it was found
pub has_number : (number : ℕ) (links : List Link) (one : Link) → link_of number links ≡ Some one → one.connection ≡ number
has_number number [] one is = absurd (let none : ⊥ = cc in none)
has_number number (link ∷ links) one is = by (is_link number link) refl (sym (first_is (is_link number) (is_link number link) link links) ∙ is) (has_number number links one)
  where
    by : (test : Bool) → is_link number link ≡ test → (if test then Some link else link_of number links) ≡ Some one → (link_of number links ≡ Some one → one.connection ≡ number) → one.connection ≡ number
    by true here is rest = let same : link ≡ one = cc in ap (λ (l : Link). l.connection) (sym same) ∙ eq_from link.connection number here
    by false here is rest = rest is

-- CHANGES -----------------------------------------------------------------------------------------

abbrev pub KeepsNumber : (Link → Link) → Type 0
KeepsNumber change = (link : Link) → (change link).connection ≡ link.connection

if_kept : (change : Link → Link) → KeepsNumber change → (test : Bool) (link : Link) → (changed_if test change link).connection ≡ link.connection
if_kept change keeps true link = keeps link
if_kept change keeps false link = refl

-- Where those that meet a test change, the one of this number changes if it meets it.
pub link_changed : (number : ℕ) (test : Link → Bool) (change : Link → Link) → KeepsNumber change → (links : List Link)
    → link_of number (with_changed test change links) ≡ option_map (λ link. changed_if (test link) change link) (link_of number links)
link_changed number test change keeps [] = refl
link_changed number test change keeps (link ∷ links) =
    let next : Link = changed_if (test link) change link in
    let kept : is_link number next ≡ is_link number link = ap (λ (n : ℕ). n == number) (if_kept change keeps (test link) link) in
    first_is (is_link number) (is_link number next) next (with_changed test change links)
    ∙ (ap (λ (met : Bool). if met then Some next else link_of number (with_changed test change links)) kept
    ∙ (by (is_link number link) (link_changed number test change keeps links)
    ∙ ap (option_map (λ one. changed_if (test one) change one)) (sym (first_is (is_link number) (is_link number link) link links))))
  where
    by : (met : Bool) → link_of number (with_changed test change links) ≡ option_map (λ one. changed_if (test one) change one) (link_of number links)
        → (if met then Some (changed_if (test link) change link) else link_of number (with_changed test change links)) ≡ option_map (λ one. changed_if (test one) change one) (if met then Some link else link_of number links)
    by true rest = refl
    by false rest = rest

-- the one of this number changes
pub own_changed : (number : ℕ) (change : Link → Link) → KeepsNumber change → (links : List Link) → link_of number (with_changed (is_link number) change links) ≡ option_map change (link_of number links)
own_changed number change keeps links = link_changed number (is_link number) change keeps links ∙ by (link_of number links) refl
  where
    by : (found : Option Link) → link_of number links ≡ found → option_map (λ link. changed_if (is_link number link) change link) found ≡ option_map change found
    by None is = refl
    by (Some one) is = ap (λ (test : Bool). Some (changed_if test change one)) (eq_to one.connection number (has_number number links one is))

-- and the others stay
pub others_stay : (number other : ℕ) (change : Link → Link) → KeepsNumber change → other ≢ number → (links : List Link) → link_of other (with_changed (is_link number) change links) ≡ link_of other links
others_stay number other change keeps differ links = link_changed other (is_link number) change keeps links ∙ by (link_of other links) refl
  where
    by : (found : Option Link) → link_of other links ≡ found → option_map (λ link. changed_if (is_link number link) change link) found ≡ found
    by None is = refl
    by (Some one) is = ap (λ (test : Bool). Some (changed_if test change one)) (ne_to one.connection number (λ same. differ (sym (has_number other links one is) ∙ same)))

-- where all change
pub all_changed : (number : ℕ) (change : Link → Link) → KeepsNumber change → (links : List Link) → link_of number (map change links) ≡ option_map change (link_of number links)
all_changed number change keeps [] = refl
all_changed number change keeps (link ∷ links) =
    first_is (is_link number) (is_link number (change link)) (change link) (map change links)
    ∙ (ap (λ (n : ℕ). if n == number then Some (change link) else link_of number (map change links)) (keeps link)
    ∙ (by (is_link number link) (all_changed number change keeps links) ∙ ap (option_map change) (sym (first_is (is_link number) (is_link number link) link links))))
  where
    by : (met : Bool) → link_of number (map change links) ≡ option_map change (link_of number links)
        → (if met then Some (change link) else link_of number (map change links)) ≡ option_map change (if met then Some link else link_of number links)
    by true rest = refl
    by false rest = rest

-- a new one in front
pub new_own : (number : ℕ) (one : Link) (links : List Link) → one.connection ≡ number → link_of number (one ∷ links) ≡ Some one
new_own number one links same = ap (λ (test : Bool). first_from (is_link number) test one links) (eq_to one.connection number same)

pub new_others : (number : ℕ) (one : Link) (links : List Link) → number ≢ one.connection → link_of number (one ∷ links) ≡ link_of number links
new_others number one links differ =
    first_is (is_link number) (is_link number one) one links
    ∙ ap (λ (test : Bool). if test then Some one else link_of number links) (ne_to one.connection number (λ same. differ (sym same)))
