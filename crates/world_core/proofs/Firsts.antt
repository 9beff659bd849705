-- The first connection of a kind is found among those whose session lives.
use Rattle.std.proofs.Common.{◌≡◌, ℕ, zero, suc, ◌<◌, ◌||◌, Bool, true, false, List, [], ◌∷◌, Option, Some, None, cond, refl, sym, ap, ap₂, ◌∙◌, subst, arith}
use Rattle.std.specs.Prelude.{◌&&◌, slice_get, is_some, if◌then◌else◌}
use Rattle.std.specs.BTreeMap.{is_at}
use Rattle.std.specs.BTreeSet.{BTreeSet, IsOrdered}
use Rattle.std.specs.List.{AllByRecursion, find, list_any}
use Rattle.std.specs.List.Sorted.{IsStrictlySortedBy}
use Rattle.std.specs.Option.{option_map_or}
use Rattle.std.specs.Ordering.{nat_cmp}
use Rattle.std.specs.declared.cmp.Ordering.TheVariants.{Less}
use Rattle.std.proofs.lemmas.Cmp.{ranked}
use Rattle.std.proofs.lemmas.Map.Lookups.{exact_unsigned}
use Rattle.std.proofs.lemmas.Map.Views.{tells_apart}
use Rattle.std.proofs.Math.Path.{fun_ext}
use Rattle.world_model.specs.meaning.Finishing.{first_behind}
use Rattle.world_model.specs.meaning.Links.{Link, link_at, is_orphan}
use Rattle.world_model.specs.meaning.Serving.{first_of, front_of}
use Rattle.world_model.proofs.Offered.{IsFirst, first_there, none_there}
use Rattle.world_core.specs.declared.connection.Connection.{Connection}
use Rattle.world_core.specs.declared.connections.Connections.{Connections}
use Rattle.world_core.specs.Linked.{lives_on, holds_at, IsLink, AreLinks, HasLiving, Stand}

-- RISING NUMBERS ----------------------------------------------------------------------------------

abbrev is_among : ℕ → List ℕ → Bool
is_among number numbers = list_any (is_at (nat_cmp number)) numbers

-- one of these is the first, or a later one
first_or : {A : Type 0} (number first : ℕ) (numbers : List ℕ) → is_among number (first ∷ numbers) ≡ true → (number ≡ first → A) → (is_among number numbers ≡ true → A) → A
first_or {A} number first numbers there here later = by (is_at (nat_cmp number) first) refl there
  where
    by : (b : Bool) → is_at (nat_cmp number) first ≡ b → (b || is_among number numbers) ≡ true → A
    by true same or = here (tells_apart exact_unsigned number first same)
    by false differs or = later or

-- each number behind the first is above it
above_first : (first number : ℕ) (numbers : List ℕ) → AllByRecursion (λ other. nat_cmp first other ≡ Less) numbers → is_among number numbers ≡ true → first < number
above_first first number [] all there = absurd (let none : ⊥ = cc in none)
above_first first number (other ∷ numbers) all there =
    first_or number other numbers there (λ same. subst (λ (n : ℕ). first < n) (sym same) (ranked first other Less (sym all.0))) (λ later. above_first first number numbers all.1 later)

-- what is found among rising numbers is the least that meets the test
abbrev Finds : (ℕ → Bool) → List ℕ → Option ℕ → Type 0
Finds meets numbers None = (number : ℕ) → is_among number numbers ≡ true → meets number ≡ false
Finds meets numbers (Some least) = (meets least ≡ true) × ((number : ℕ) → number < least → is_among number numbers ≡ true → meets number ≡ false)

finds : (meets : ℕ → Bool) (numbers : List ℕ) → IsStrictlySortedBy nat_cmp numbers → Finds meets numbers (find meets numbers)
unfolding IsStrictlySortedBy
finds meets [] rises = λ number there. absurd (let none : ⊥ = cc in none)
finds meets (first ∷ numbers) rises = by (meets first) refl (find meets numbers) (finds meets numbers rises.1)
  where
    later : meets first ≡ false → (found : Option ℕ) → Finds meets numbers found → Finds meets (first ∷ numbers) found
    later fails None none = λ number there. first_or number first numbers there (λ same. ap meets same ∙ fails) (λ behind. none number behind)
    later fails (Some least) tells = (tells.0, λ number less there. first_or number first numbers there (λ same. ap meets same ∙ fails) (λ behind. tells.1 number less behind))

    by : (b : Bool) → meets first ≡ b → (found : Option ℕ) → Finds meets numbers found → Finds meets (first ∷ numbers) (cond b (Some first) found)
    by true is found tells = (is, λ number less there. first_or number first numbers there (λ same. absurd (omega (arith, less, same))) (λ behind. let above : first < number = above_first first number numbers rises.0 behind in absurd (omega (arith, less, above))))
    by false fails found tells = later fails found tells

-- THE FIRST ONE -----------------------------------------------------------------------------------

abbrev link_meets : (Link → Bool) → List Link → ℕ → Bool
link_meets test links number = option_map_or test (link_at links number) false

-- where a test of connections agrees with one of those of the machine, it does so at each number
agree_at : (test : Connection → Bool) (other : Link → Bool) → ((one : Connection) (link : Link) → IsLink one link → test one ≡ other link) → (all : List Connection) (links : List Link) → AreLinks all links → (number : ℕ)
    → holds_at test all number ≡ link_meets other links number
agree_at test other agree all links are zero = refl
agree_at test other agree all links are (suc at) = by all links are at
  where
    by : (all : List Connection) (links : List Link) → AreLinks all links → (at : ℕ) → option_map_or test (slice_get all at) false ≡ option_map_or other (slice_get links at) false
    by [] [] are at = refl
    by [] (l ∷ links) are at = absurd are
    by (c ∷ all) [] are at = absurd are
    by (c ∷ all) (l ∷ links) are zero = agree c l are.0
    by (c ∷ all) (l ∷ links) are (suc at) = by all links are.1 at

module _ (test : Link → Bool) (lives : (link : Link) → test link ≡ true → link.is_living ≡ true) (living : BTreeSet ℕ) (links : List Link) (has : HasLiving living links) where
  -- the test fails on each of which it is not known
  fails_at : (at : ℕ) (link : Link) → slice_get links at ≡ Some link → (is_among (suc at) living.keys ≡ true → link_meets test links (suc at) ≡ false) → test link ≡ false
  fails_at at link there fails = by (test link) refl
    where
      by : (b : Bool) → test link ≡ b → test link ≡ false
      by false is = is
      by true is = ap (λ (l : Option Link). option_map_or test l false) (sym there) ∙ fails (has (suc at) link there (lives link is))

  is_first : (least : ℕ) → link_meets test links least ≡ true → ((number : ℕ) → number < least → is_among number living.keys ≡ true → link_meets test links number ≡ false) → IsFirst test 0 links least
  is_first zero meets before = absurd (let none : ⊥ = cc in none)
  is_first (suc at) meets before = by (slice_get links at) refl meets
    where
      by : (found : Option Link) → slice_get links at ≡ found → option_map_or test found false ≡ true → IsFirst test 0 links (suc at)
      by None none meets = absurd (let never : ⊥ = cc in never)
      by (Some link) there meets = record {
        index = at;
        is_number = refl;
        behind = omega arith;
        item = link;
        there = there;
        meets = meets;
        before = λ other one least below found. fails_at other one found (before (suc other) (omega (arith, below)));
      }

  by_found : (found : Option ℕ) → Finds (link_meets test links) living.keys found → found ≡ first_behind test 0 links
  by_found None none = sym (none_there test 0 links (λ other one least found. fails_at other one found (none (suc other))))
  by_found (Some least) tells = sym (first_there test 0 links least (is_first least tells.0 tells.1))

pub finds_first : (test : Connection → Bool) (other : Link → Bool) → ((one : Connection) (link : Link) → IsLink one link → test one ≡ other link) → ((link : Link) → other link ≡ true → link.is_living ≡ true) → (held : Connections) → IsOrdered nat_cmp held.living
    → (links : List Link) → Stand held links → find (holds_at test held.all.items) held.living.keys ≡ first_behind other 0 links
finds_first test other agree lives held rises links stands =
    ap (λ (meets : ℕ → Bool). find meets held.living.keys) (fun_ext (agree_at test other agree held.all.items links stands.are))
    ∙ by_found other lives held.living links stands.living (find (link_meets other links) held.living.keys) (finds (link_meets other links) held.living.keys rises)

pub orphans_agree : (one : Connection) (link : Link) → IsLink one link → lives_on one ≡ is_orphan link
orphans_agree one link is = ap₂ (λ (living cut : Bool). living && cut) (sym is.living) (sym is.cut)

pub orphans_live : (link : Link) → is_orphan link ≡ true → link.is_living ≡ true
orphans_live link orphan = by link.is_living orphan
  where
    by : (living : Bool) → (living && link.is_cut) ≡ true → living ≡ true
    by true is = refl
    by false is = is

pub fronts_live : (link : Link) → is_some (front_of link) ≡ true → link.is_living ≡ true
fronts_live link some = by link.is_living some
  where
    by : (living : Bool) → is_some (if living then first_of link link.up else None) ≡ true → living ≡ true
    by true is = refl
    by false is = is
