-- Of a client at no request each request is over, and what is over stands at its place with its
-- steps.
use Rattle.std.proofs.Common.{◌≡◌, refl, sym, ap, subst, ◌∙◌, append-nil, ℕ, zero, suc, List, [], ◌∷◌, ◌++◌, map, Option, Some, None, option_map}
use Rattle.std.specs.Prelude.{slice_get}
use Rattle.std.specs.Option.{option_map_or}
use Rattle.client_model.specs.meaning.Terms.{Terms}
use Rattle.world_model.specs.meaning.Clients.{Doing, Past, Client}
use Rattle.world_model.specs.records.Conversing.{AreThrough, IsThrough}
use Rattle.shown_laws.specs.ByPlace.{RequestSteps, over_so, doing_so, requests_by_place}
use Rattle.shown_laws.proofs.events.Places.{get_front, get_map}

pub record IsOver (past : List Past) (place : ℕ) (one : RequestSteps) : Type 0 where
  pub over : Past
  pub at : slice_get past place ≡ Some over
  pub same : over_so over ≡ one

over_at : (past : List Past) (place : ℕ) (one : RequestSteps) → slice_get (map over_so past) place ≡ Some one → IsOver past place one
over_at [] place one at = absurd (let none : ⊥ = cc in none)
over_at (first ∷ past) zero one at = record { over = first; at = refl; same = (let same : over_so first ≡ one = cc in same) }
over_at (first ∷ past) (suc place) one at = let later : IsOver past place one = over_at past place one at in record { over = later.over; at = later.at; same = later.same }

pub is_over : (own : Client) (place : ℕ) (one : RequestSteps) → own.now ≡ None → slice_get (requests_by_place own) place ≡ Some one → IsOver own.past place one
is_over own place one rests at = over_at own.past place one (ap (λ (all : List RequestSteps). slice_get all place) (sym none_now) ∙ at)
  where
    none_now : requests_by_place own ≡ map over_so own.past
    none_now = ap (λ (now : Option Doing). map over_so own.past ++ option_map_or (λ doing. doing_so doing ∷ []) now []) rests ∙ append-nil (map over_so own.past)

pub over_there : (own : Client) (place : ℕ) (one : Past) → slice_get own.past place ≡ Some one → slice_get (requests_by_place own) place ≡ Some (over_so one)
over_there own place one at =
    get_front (map over_so own.past) (option_map_or (λ doing. doing_so doing ∷ []) own.now []) place (over_so one) (get_map over_so own.past place ∙ ap (option_map over_so) at)

-- its conversation went through
pub through_at : (terms : Terms) (past : List Past) (place : ℕ) (one : Past) → AreThrough terms past → slice_get past place ≡ Some one → IsThrough terms one
through_at terms [] place one through at = absurd (let none : ⊥ = cc in none)
through_at terms (first ∷ past) zero one through at = let same : first ≡ one = cc in subst (IsThrough terms) same through.0
through_at terms (first ∷ past) (suc place) one through at = through_at terms past place one through.1 at
