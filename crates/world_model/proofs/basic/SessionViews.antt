-- The sessions and the events of items of all connections.
use Rattle.std.proofs.Common.{◌≡◌, refl, ap, ◌∙◌, ℕ, List, [], ◌∷◌, ◌++◌, map, filter_map, flat_map, Option, Some, append-nil}
use Rattle.std.specs.Prelude.{slice_get, slice_set}
use Rattle.std.specs.List.{cons_option}
use Rattle.std.proofs.lemmas.List.Elements.{filter_map-append}
use Rattle.std.proofs.lemmas.Grind.{flat_map-append}
use Rattle.svc_values.specs.declared.entry.SessionId.{SessionId}
use Rattle.world_model.specs.meaning.Frames.{Handled}
use Rattle.world_model.specs.meaning.Links.{Link, new_link}
use Rattle.world_model.specs.meaning.Crashing.{fallen_link}
use Rattle.world_model.specs.records.Basic.{item_events}
use Rattle.world_model.proofs.basic.Ends.{fallen_case}
use Rattle.world_model.proofs.hold.Inserted.{found_same, flat_same}
use Rattle.world_model.proofs.basic.Views.{IsAlike}

abbrev pub session_of_link : Link → Option SessionId
session_of_link link = link.session

abbrev pub sessions_in : List Link → List SessionId
sessions_in links = filter_map session_of_link links

abbrev pub events_in : List Link → List ℕ
events_in links = flat_map item_events links

pub sessions_stay : (links : List Link) (index : ℕ) (old new : Link) → slice_get links index ≡ Some old → IsAlike old new → sessions_in (slice_set links index new) ≡ sessions_in links
sessions_stay links index old new is alike = found_same session_of_link links index old new is alike.session

pub events_stay : (links : List Link) (index : ℕ) (old new : Link) → slice_get links index ≡ Some old → IsAlike old new → events_in (slice_set links index new) ≡ events_in links
events_stay links index old new is alike = flat_same item_events links index old new is (ap (λ (served : List Handled). map (λ one. one.served.event) served) alike.served)

pub sessions_new : (links : List Link) → sessions_in (links ++ new_link ∷ []) ≡ sessions_in links
sessions_new links = filter_map-append session_of_link links (new_link ∷ []) ∙ append-nil (sessions_in links)

pub events_new : (links : List Link) → events_in (links ++ new_link ∷ []) ≡ events_in links
events_new links = flat_map-append item_events links (new_link ∷ []) ∙ append-nil (events_in links)

pub fallen_as : (event : ℕ) (link : Link) → IsAlike link (fallen_link event link)
fallen_as event link = fallen_case (IsAlike link) event link (λ is. record { session = refl; served = refl }) (λ is. record { session = refl; served = refl })

pub sessions_fall : (event : ℕ) (links : List Link) → sessions_in (map (fallen_link event) links) ≡ sessions_in links
sessions_fall event [] = refl
sessions_fall event (link ∷ links) =
    ap (λ (first : Option SessionId). cons_option first (sessions_in (map (fallen_link event) links))) (fallen_as event link).session ∙ ap (λ (rest : List SessionId). cons_option link.session rest) (sessions_fall event links)

pub events_fall : (event : ℕ) (links : List Link) → events_in (map (fallen_link event) links) ≡ events_in links
events_fall event [] = refl
events_fall event (link ∷ links) =
    ap (λ (served : List Handled). map (λ one. one.served.event) served ++ events_in (map (fallen_link event) links)) (fallen_as event link).served ∙ ap (λ (rest : List ℕ). item_events link ++ rest) (events_fall event links)
