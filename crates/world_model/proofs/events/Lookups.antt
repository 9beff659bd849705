-- Where the connection of a number stands after an event.
use Rattle.std.proofs.Common.{◌≡◌, ◌≢◌, refl, sym, ap, subst, ◌∙◌, Bool, true, false, ℕ, suc, zero, ◌+◌, length, List, [], ◌∷◌, ◌++◌, count_by, cond, map, fold, Option, Some, None, arith}
use Rattle.std.specs.Prelude.{◌==◌, slice_get, slice_set}
use Rattle.std.specs.Option.{option_map_or}
use Rattle.std.proofs.lemmas.Option.{slice_get_within}
use Rattle.std.proofs.lemmas.List.Sums.{sum_by-cons}
use Rattle.outage_schedule.specs.declared.item.Served.{Served}
use Rattle.world_model.specs.meaning.Links.{Link, new_link, link_at, with_link, changed}
use Rattle.world_model.specs.meaning.Machines.{Machine}
use Rattle.world_model.specs.meaning.Serving.{Front, after_front, handled}
use Rattle.world_model.specs.meaning.Cutting.{cut_link}
use Rattle.world_model.specs.meaning.Crashing.{fallen_link, falls}
use Rattle.world_model.proofs.basic.Ends.{handled_alike, cut_case, fallen_case}
use Rattle.world_model.proofs.events.Lists.{get_mapped}
use Rattle.world_model.proofs.wire.SentLinks.{set_at}
use Rattle.world_model.proofs.events.Others.{with_link_other, changed_others}
use Rattle.world_model.proofs.events.AllLinks.{front_is}
use Rattle.world_model.proofs.events.Tests.{eq_to}
use Rattle.world_model.proofs.events.Moves.{ServesLast, LastNone, LastStopped, LastServed}

-- the same was sent, taken and is held
pub record IsSaid (a b : Link) : Type 0 where
  pub sent : b.sent ≡ a.sent
  pub taken : b.taken ≡ a.taken
  pub held : b.held ≡ a.held

-- the connection of this number is there, and as much was said on it
pub record IsThere (links : List Link) (number : ℕ) (link : Link) : Type 0 where
  pub now : Link
  pub there : link_at links number ≡ Some now
  pub same : IsSaid link now

pub as_before : (links : List Link) (number : ℕ) (link : Link) → link_at links number ≡ Some link → IsThere links number link
as_before links number link is = record { now = link; there = is; same = record { sent = refl; taken = refl; held = refl } }

still : (links : List Link) (index : ℕ) (old new : Link) → slice_get links index ≡ Some old → IsSaid old new → (other : ℕ) (link : Link) → slice_get links other ≡ Some link → IsThere (slice_set links index new) (suc other) link
still [] index old new is said other link at = absurd (let none : ⊥ = cc in none)
still (first ∷ links) zero old new is said zero link at =
    let one : first ≡ old = cc in
    let two : first ≡ link = cc in
    record { now = new; there = refl; same = subst (λ (l : Link). IsSaid l new) (sym one ∙ two) said }
still (first ∷ links) zero old new is said (suc other) link at = record { now = link; there = at; same = record { sent = refl; taken = refl; held = refl } }
still (first ∷ links) (suc index) old new is said zero link at = record { now = link; there = at; same = record { sent = refl; taken = refl; held = refl } }
still (first ∷ links) (suc index) old new is said (suc other) link at = let rest = still links index old new is said other link at in record { now = rest.now; there = rest.there; same = rest.same }

pub with_there : (links : List Link) (number : ℕ) (old new : Link) → link_at links number ≡ Some old → IsSaid old new → (other : ℕ) (link : Link) → link_at links other ≡ Some link → IsThere (with_link links number new) other link
with_there links zero old new is said other link at = absurd (let none : ⊥ = cc in none)
with_there links (suc index) old new is said zero link at = absurd (let none : ⊥ = cc in none)
with_there links (suc index) old new is said (suc other) link at = still links index old new is said other link at

found_there : (change : Link → Link) (links : List Link) (number : ℕ) (found : Option Link) → link_at links number ≡ found → ((link : Link) → IsSaid link (change link)) → (other : ℕ) (link : Link) → link_at links other ≡ Some link
    → IsThere (option_map_or (λ one. with_link links number (change one)) found links) other link
found_there change links number None is said other link at = as_before links other link at
found_there change links number (Some one) is said other link at = with_there links number one (change one) is (said one) other link at

pub changed_there : (change : Link → Link) (links : List Link) (number : ℕ) → ((link : Link) → IsSaid link (change link)) → (other : ℕ) (link : Link) → link_at links other ≡ Some link → IsThere (changed change links number) other link
changed_there change links number said other link at = found_there change links number (link_at links number) refl said other link at

pub all_there : (change : Link → Link) (links : List Link) → ((link : Link) → IsSaid link (change link)) → (other : ℕ) (link : Link) → link_at links other ≡ Some link → IsThere (map change links) other link
all_there change links said zero link at = absurd (let none : ⊥ = cc in none)
all_there change links said (suc other) link at = record { now = change link; there = get_mapped change links other link at; same = said link }

-- ONE STEP ----------------------------------------------------------------------------------------

pub handled_said : (event : ℕ) (front : Front) (served : Served) → IsSaid front.link (handled event front served)
handled_said event front served =
    handled_alike (IsSaid front.link) event front served (λ reply. record { sent = refl; taken = refl; held = refl }) (λ reply. record { sent = refl; taken = refl; held = refl })

pub fallen_said : (event : ℕ) (link : Link) → IsSaid link (fallen_link event link)
fallen_said event link = fallen_case (IsSaid link) event link (λ opens. record { sent = refl; taken = refl; held = refl }) (λ closed. record { sent = refl; taken = refl; held = refl })

pub cut_said : (event up down : ℕ) (link : Link) → link.is_open ≡ true → IsSaid link (cut_link event up down link)
cut_said event up down link opens = cut_case (IsSaid link) event up down link opens (record { sent = refl; taken = refl; held = refl })

then_there : (change : Link → Link) (links : List Link) → ((link : Link) → IsSaid link (change link)) → (other : ℕ) (link : Link) → IsThere links other link → IsThere (map change links) other link
then_there change links said other link there =
    let next = all_there change links said other there.now there.there in
    record { now = next.now; there = next.there; same = record { sent = next.same.sent ∙ there.same.sent; taken = next.same.taken ∙ there.same.taken; held = next.same.held ∙ there.same.held } }

-- behind a crash
pub falls_there : (m : Machine) (number after : ℕ) (failover : Bool) (items left : List Served) (a : Machine) → ServesLast m number after items left a → (other : ℕ) (link : Link) → link_at m.links other ≡ Some link
    → IsThere (falls failover a).links other link
falls_there m number after failover items left _ (LastNone same) other link at = all_there (fallen_link m.event) m.links (fallen_said m.event) other link at
falls_there m number after failover items left _ (LastStopped front served is stopped same) other link at =
    let new : Link = after_front front served None in
    then_there (fallen_link m.event) (with_link m.links number new) (fallen_said m.event) other link
    (with_there m.links number front.link new (front_is m.links number front is).there (record { sent = refl; taken = refl; held = refl }) other link at)
falls_there m number after failover items left _ (LastServed front served is over same) other link at =
    let new : Link = handled m.event front served in
    then_there (fallen_link m.event) (with_link m.links number new) (fallen_said m.event) other link
    (with_there m.links number front.link new (front_is m.links number front is).there (handled_said m.event front served) other link at)

-- BY NUMBER ---------------------------------------------------------------------------------------

pub with_others : (links : List Link) (number other : ℕ) (link : Link) → other ≢ number → link_at (with_link links number link) other ≡ link_at links other
with_others links zero other link differ = refl
with_others links (suc index) other link differ = with_link_other links index other link differ

pub with_own : (links : List Link) (number : ℕ) (old new : Link) → link_at links number ≡ Some old → link_at (with_link links number new) number ≡ Some new
with_own links zero old new is = absurd (let none : ⊥ = cc in none)
with_own links (suc index) old new is = set_at links index old new is

pub changed_own : (change : Link → Link) (links : List Link) (number : ℕ) (link : Link) → link_at links number ≡ Some link → link_at (changed change links number) number ≡ Some (change link)
changed_own change links number link is =
    ap (λ (found : Option Link). link_at (option_map_or (λ one. with_link links number (change one)) found links) number) is ∙ with_own links number link (change link) is

-- a new one leaves the others
pub further : (links more : List Link) (index : ℕ) (link : Link) → slice_get links index ≡ Some link → slice_get (links ++ more) index ≡ Some link
further [] more index link is = absurd (let none : ⊥ = cc in none)
further (first ∷ links) more zero link is = is
further (first ∷ links) more (suc index) link is = further links more index link is

pub new_others : (change : Link → Link) (links : List Link) (other : ℕ) (link : Link) → link_at links other ≡ Some link → link_at (changed change (links ++ new_link ∷ []) (length links + 1)) other ≡ Some link
new_others change links zero link is = absurd (let none : ⊥ = cc in none)
new_others change links (suc index) link is =
    changed_others change (links ++ new_link ∷ []) (length links + 1) (suc index) (λ same. let within = slice_get_within links index link is in let never : ⊥ = omega arith in never)
    ∙ further links (new_link ∷ []) index link is

-- those that are not among the numbers stay
absent : (number other : ℕ) (numbers : List ℕ) → count_by (λ one. one == number) (other ∷ numbers) ≡ 0 → (other ≢ number) × (count_by (λ one. one == number) numbers ≡ 0)
absent number other numbers none = by (other == number) refl (sym (sum_by-cons (λ (one : ℕ). cond (one == number) 1 0) other numbers) ∙ none)
  where
    by : (test : Bool) → (other == number) ≡ test → cond test 1 0 + count_by (λ one. one == number) numbers ≡ 0 → (other ≢ number) × (count_by (λ one. one == number) numbers ≡ 0)
    by true is split = absurd (let never : ⊥ = omega arith in never)
    by false is split =
        let zero : count_by (λ one. one == number) numbers ≡ 0 = omega arith in
        ((λ same. let yes_is : (other == number) ≡ true = eq_to other number same in let never : ⊥ = cc in never), zero)

pub each_others : (change : Link → Link) (links : List Link) (numbers : List ℕ) (number : ℕ) → count_by (λ one. one == number) numbers ≡ 0 → link_at (fold (changed change) links numbers) number ≡ link_at links number
each_others change links [] number none = refl
each_others change links (other ∷ numbers) number none =
    let parts = absent number other numbers none in
    each_others change (changed change links other) numbers number parts.1 ∙ changed_others change links other number (λ same. parts.0 (sym same))
