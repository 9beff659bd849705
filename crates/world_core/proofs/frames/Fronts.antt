-- The frame that stands first on a connection whose session lives.
use Rattle.std.proofs.Common.{◌≡◌, ℕ, Bool, true, false, List, [], ◌∷◌, Option, Some, None, refl, sym, ap, ◌∙◌, subst}
use Rattle.std.specs.Prelude.{option_and_then, if◌then◌else◌}
use Rattle.world_model.specs.meaning.Frames.{Sent}
use Rattle.world_model.specs.meaning.Links.{Link, link_at}
use Rattle.world_model.specs.meaning.Serving.{Front, first_of, front_of, front_at}

first_link : (link : Link) (up : List Sent) (front : Front) → first_of link up ≡ Some front → front.link ≡ link
first_link link [] front e = absurd (let nothing : ⊥ = cc in nothing)
first_link link (first ∷ later) front e = ap (λ (f : Option Front). link_or f) (sym e)
  where
    link_or : Option Front → Link
    link_or None = link
    link_or (Some f) = f.link

pub front_link : (link : Link) (living : Bool) (front : Front) → (if living then first_of link link.up else None) ≡ Some front → (living ≡ true) × (front.link ≡ link)
front_link link true front e = (refl, first_link link link.up front e)
front_link link false front e = absurd (let nothing : ⊥ = cc in nothing)

found_front : (found : Option Link) (front : Front) → option_and_then front_of found ≡ Some front → (found ≡ Some front.link) × (front.link.is_living ≡ true)
found_front None front e = absurd (let nothing : ⊥ = cc in nothing)
found_front (Some link) front e = let is = front_link link link.is_living front e in (ap (λ l. Some l) (sym is.1), ap (λ (l : Link). l.is_living) is.1 ∙ is.0)

pub front_there : (links : List Link) (number : ℕ) (front : Front) → front_at links number ≡ Some front → (link_at links number ≡ Some front.link) × (front.link.is_living ≡ true)
front_there links number front e = found_front (link_at links number) front e

pub some_front : (a b : Front) → ◌≡◌ {A = Option Front} (Some a) (Some b) → a ≡ b
some_front a b e = cc

pub front_up : (links : List Link) (number : ℕ) (front : Front) → front_at links number ≡ Some front → first_of front.link front.link.up ≡ Some front
front_up links number front there =
    let at = front_there links number front there in
    sym (ap (λ b. if b then first_of front.link front.link.up else None) at.1) ∙ sym (ap (λ (l : Option Link). option_and_then front_of l) at.0) ∙ there

first_up : (up : List Sent) (front : Front) (link : Link) → first_of link up ≡ Some front → up ≡ front.first ∷ front.later
first_up [] front link e = absurd (let nothing : ⊥ = cc in nothing)
first_up (first ∷ later) front link e = subst (λ (f : Front). first ∷ later ≡ f.first ∷ f.later) (some_front _ front e) refl

-- it stands before the others
pub front_first : (links : List Link) (number : ℕ) (front : Front) → front_at links number ≡ Some front → front.link.up ≡ front.first ∷ front.later
front_first links number front there = first_up front.link.up front front.link (front_up links number front there)
