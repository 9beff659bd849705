-- What is left on the connections, where one is changed, where a frame is served on one, and where
-- one is opened.
use Rattle.std.proofs.Common.{◌≡◌, refl, ap, true, ℕ, suc, zero, ◌+◌, ◌≤◌, ◌&&◌, length, length-append, List, [], ◌∷◌, ◌++◌, Option, Some, None, arith}
use Rattle.std.specs.Prelude.{not, slice_get, slice_set}
use Rattle.std.specs.Option.{option_map_or}
use Rattle.std.proofs.lemmas.Bool.{and_parts, and_from}
use Rattle.outage_schedule.specs.declared.item.Served.{Served}
use Rattle.world_model.specs.meaning.Frames.{Sent}
use Rattle.world_model.specs.meaning.Links.{Link, new_link, link_at, with_link, changed, sends}
use Rattle.world_model.specs.Remaining.{once_if, link_work, links_work}
use Rattle.world_model.specs.meaning.Serving.{Front, is_last, handled}
use Rattle.world_model.proofs.finish.ClientRounds.{once_less}
use Rattle.world_model.proofs.basic.Ends.{sends_alike, handled_alike}

set_work : (links : List Link) (index : ℕ) (old new : Link) → slice_get links index ≡ Some old → links_work (slice_set links index new) + link_work old ≡ links_work links + link_work new
set_work [] index old new is = absurd (let none : ⊥ = cc in none)
set_work (first ∷ links) zero old new is = let same : link_work first ≡ link_work old = ap link_work (let here : first ≡ old = cc in here) in omega arith
set_work (first ∷ links) (suc index) old new is = let rest : links_work (slice_set links index new) + link_work old ≡ links_work links + link_work new = set_work links index old new is in omega arith

pub with_work : (links : List Link) (number : ℕ) (old new : Link) → link_at links number ≡ Some old → links_work (with_link links number new) + link_work old ≡ links_work links + link_work new
with_work links zero old new is = absurd (let none : ⊥ = cc in none)
with_work links (suc index) old new is = set_work links index old new is

-- so much more, at most
pub changed_work : (change : Link → Link) (more : ℕ) (links : List Link) (number : ℕ) → ((link : Link) → link_work (change link) ≤ link_work link + more) → links_work (changed change links number) ≤ links_work links + more
changed_work change more links number grows = by (link_at links number) refl
  where
    by : (found : Option Link) → link_at links number ≡ found → links_work (option_map_or (λ link. with_link links number (change link)) found links) ≤ links_work links + more
    by None is = omega arith
    by (Some link) is =
        let sum : links_work (with_link links number (change link)) + link_work link ≡ links_work links + link_work (change link) = with_work links number link (change link) is in
        let few : link_work (change link) ≤ link_work link + more = grows link in
        omega arith

pub sends_work : (event : ℕ) (frames : List Sent) (link : Link) → link_work (sends event frames link) ≤ link_work link + length frames
sends_work event frames link =
    let long : length (link.up ++ frames) ≡ length link.up + length frames = length-append link.up frames in
    let here : length (link.up ++ frames) + once_if (link.is_living && link.is_cut) ≤ link_work link + length frames = omega arith in
    sends_alike (λ one. link_work one ≤ link_work link + length frames) event frames link here here

pub new_work : (links : List Link) → links_work (links ++ new_link ∷ []) ≡ links_work links
new_work [] = refl
new_work (link ∷ links) = let rest : links_work (links ++ new_link ∷ []) ≡ links_work links = new_work links in omega arith

-- a frame less is left where it is served
pub handled_work : (event : ℕ) (front : Front) (served : Served) → front.link.is_living ≡ true → front.link.up ≡ front.first ∷ front.later → link_work (handled event front served) + 1 ≤ link_work front.link
handled_work event front served living ups = handled_alike (λ one. link_work one + 1 ≤ link_work front.link) event front served (λ reply. less) (λ reply. less)
  where
    less : (length front.later + once_if (not (is_last served.item) && front.link.is_cut)) + 1 ≤ link_work front.link
    less =
        let long : length front.link.up ≡ length (front.first ∷ front.later) = ap length ups in
        let few : once_if (not (is_last served.item) && front.link.is_cut) ≤ once_if (front.link.is_living && front.link.is_cut) =
        once_less (not (is_last served.item) && front.link.is_cut) (front.link.is_living && front.link.is_cut) (λ is. and_from front.link.is_living front.link.is_cut living (and_parts (not (is_last served.item)) front.link.is_cut is).1) in
        omega arith
