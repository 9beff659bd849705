-- At the end of a whole run, each turn that its report tells is right for a request that held its
-- connection.
use Rattle.std.proofs.Common.{◌≡◌, ◌≢◌, refl, sym, ap, subst, ◌∙◌, Bool, true, false, ℕ, zero, suc, List, [], ◌∷◌, ◌++◌, map, Option, Some, None}
use Rattle.std.specs.Prelude.{◌==◌, flat_map, not, slice_get}
use Rattle.std.specs.Option.{option_map_or}
use Rattle.std.proofs.lemmas.Bool.{and_parts}
use Rattle.shown_clauses.specs.meaning.Links.{Link, Seen, Turn, link_of, turn_of}
use Rattle.invariant_laws.specs.KeptLaws.{RunsKeepInvariant, FinishesKeepInvariant}
use Rattle.world_model.specs.Sames.{all_with, each_pair}
use Rattle.world_model.specs.Traced.{Traced}
use Rattle.shown_laws.specs.ConnectionLaws.{AreTold}
use Rattle.shown_laws.specs.Telling.{seen_told}
use Rattle.shown_laws.specs.TurnsRight.{RightFor, AreRight, NoTurns, OneTurn, TellsRight, FinishesTellRight, WholeRunsTellRight}
use Rattle.shown_laws.proofs.links.LinksTold.{AllStand, finishes_told}
use Rattle.shown_laws.proofs.events.Lookups.{eq_to}
use Rattle.shown_laws.proofs.links.SeenLists.{new_own, new_others}

abbrev pub differ : ℕ → ℕ → Bool
differ a b = not (a == b)

abbrev pub numbers : List Link → List ℕ
numbers links = map (λ one. one.connection) links

apart_from : (a b : ℕ) → differ a b ≡ true → b ≢ a
apart_from a b is same = by (a == b) is (eq_to a b (sym same))
  where
    by : (test : Bool) → not test ≡ true → test ≡ true → ⊥
    by true is here = let none : ⊥ = cc in none
    by false is here = let none : ⊥ = cc in none

other_number : (a : ℕ) (links : List Link) (index : ℕ) (one : Link) → all_with (differ a) (numbers links) ≡ true → slice_get links index ≡ Some one → one.connection ≢ a
other_number a [] index one all is = absurd (let none : ⊥ = cc in none)
other_number a (first ∷ links) zero one all is =
    let same : first ≡ one = cc in
    apart_from a one.connection (subst (λ (l : Link). differ a l.connection ≡ true) same (and_parts (differ a first.connection) (all_with (differ a) (numbers links)) all).0)
other_number a (first ∷ links) (suc index) one all is = other_number a links index one (and_parts (differ a first.connection) (all_with (differ a) (numbers links)) all).1 is

-- each that is told is found by its number, for none is told twice
pub found_in : (links : List Link) → each_pair differ (numbers links) ≡ true → (index : ℕ) (one : Link) → slice_get links index ≡ Some one → link_of one.connection links ≡ Some one
found_in [] once index one is = absurd (let none : ⊥ = cc in none)
found_in (first ∷ links) once zero one is =
    let same : first ≡ one = cc in
    new_own one.connection first links (ap (λ (l : Link). l.connection) same) ∙ ap Some same
found_in (first ∷ links) once (suc index) one is =
    let parts = and_parts (all_with (differ first.connection) (numbers links)) (each_pair differ (numbers links)) once in
    new_others one.connection first links (other_number first.connection links index one parts.0 is) ∙ found_in links parts.1 index one is

module _ (t : Traced) where
  both_right : (turns more : List Turn) → AreRight t turns → AreRight t more → AreRight t (turns ++ more)
  both_right _ more NoTurns others = others
  both_right _ more (OneTurn turn turns number right rest) others = OneTurn turn (turns ++ more) number right (both_right turns more rest others)

  each_right : (links : List Link) → ((index : ℕ) (one : Link) (turn : Turn) → slice_get links index ≡ Some one → one.turn ≡ Some turn → RightFor t one.connection turn) → AreRight t (flat_map turn_of links)
  each_right [] each = NoTurns
  each_right (one ∷ links) each = by one.turn refl (each_right links (λ index other turn there has. each (suc index) other turn there has))
    where
      by : (turn : Option Turn) → one.turn ≡ turn → AreRight t (flat_map turn_of links) → AreRight t (option_map_or (λ turn. turn ∷ []) turn [] ++ flat_map turn_of links)
      by None has rest = rest
      by (Some turn) has rest = OneTurn turn (flat_map turn_of links) one.connection (each 0 one turn refl has) rest

  all_right : (seen : Seen) → each_pair differ (numbers seen.links) ≡ true → TellsRight t seen → AreRight t (flat_map turn_of seen.links ++ seen.over)
  all_right seen once tells =
      both_right (flat_map turn_of seen.links) seen.over
      (each_right seen.links (λ index one turn there has. tells.current one.connection one turn (found_in seen.links once index one there) has)) tells.over

pub whole_runs_tell_right : RunsKeepInvariant → FinishesKeepInvariant → AllStand → FinishesTellRight → WholeRunsTellRight
whole_runs_tell_right keeps all stand right document notes items seen t calls run =
    let told : AreTold notes items t = finishes_told keeps all stand document run.place notes items seen t calls run.finishing in
    all_right t (seen_told notes items) told.links.once (right document run.place notes items seen t calls run.finishing)
