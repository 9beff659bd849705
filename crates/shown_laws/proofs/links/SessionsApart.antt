-- What the invariant says of connections by their numbers: sessions differ, and one that was cut is
-- not open.
use Rattle.std.proofs.Common.{◌≡◌, refl, ap, subst, ◌∙◌, Bool, true, false, ℕ, zero, suc, ◌&&◌, ◌||◌, List, [], ◌∷◌, filter_map, Option, Some, None}
use Rattle.std.specs.Prelude.{not, slice_get, is_some, is_none}
use Rattle.std.specs.List.{list_all, cons_option}
use Rattle.std.proofs.lemmas.Bool.{and_parts, not-true, or_right}
use Rattle.svc_values.specs.declared.entry.SessionId.{SessionId}
use Rattle.svc_values.specs.meaning.Identifiers.{same_session}
use Rattle.svc_values.specs.meaning.Same.{same_bool}
use Rattle.svc_values.specs.SameLaws.{same_session_decides}
use Rattle.world_model.specs.records.Basic.{at_most, ends_rightly, first_is_connect, is_named}
use Rattle.world_model.specs.meaning.Links.{Link, link_at}
use Rattle.world_model.specs.Parts.{is_closed, implies}
use Rattle.world_model.specs.Sames.{all_with, each_pair}
use Rattle.world_model.specs.Traced.{Traced}
use Rattle.shown_laws.proofs.links.ItemsTold.{AreApart}
use Rattle.shown_laws.proofs.events.Places.{all_at}

-- what holds of all holds of the one of a number
pub at_link : (test : Link → Bool) (links : List Link) (number : ℕ) (link : Link) → list_all test links ≡ true → link_at links number ≡ Some link → test link ≡ true
at_link test links zero link all is = absurd (let none : ⊥ = cc in none)
at_link test links (suc index) link all is = all_at test links index link all is

-- SESSIONS ----------------------------------------------------------------------------------------

abbrev differ : SessionId → SessionId → Bool
differ a b = not (same_session a b)

abbrev sessions : List Link → List SessionId
sessions links = filter_map (λ link. link.session) links

self_same : (session : SessionId) → differ session session ≡ true → ⊥
self_same session is = let yes : same_session session session ≡ true = (same_session_decides session session).1 refl in let none : ⊥ = cc in none

-- one with this session stands among them
found_with : (test : SessionId → Bool) (links : List Link) (index : ℕ) (link : Link) (session : SessionId) → all_with test (sessions links) ≡ true → slice_get links index ≡ Some link → link.session ≡ Some session → test session ≡ true
found_with test [] index link session all is has = absurd (let none : ⊥ = cc in none)
found_with test (first ∷ links) zero link session all is has =
    let same : first ≡ link = cc in
    let mine : first.session ≡ Some session = ap (λ (l : Link). l.session) same ∙ has in
    (and_parts (test session) (all_with test (sessions links)) (subst (λ (s : Option SessionId). all_with test (cons_option s (sessions links)) ≡ true) mine all)).0
found_with test (first ∷ links) (suc index) link session all is has = found_with test links index link session (by first.session all) is has
  where
    by : (own : Option SessionId) → all_with test (cons_option own (sessions links)) ≡ true → all_with test (sessions links) ≡ true
    by None all = all
    by (Some own) all = (and_parts (test own) (all_with test (sessions links)) all).1

later_apart : (own : Option SessionId) (links : List Link) → each_pair differ (cons_option own (sessions links)) ≡ true → each_pair differ (sessions links) ≡ true
later_apart None links apart = apart
later_apart (Some own) links apart = (and_parts (all_with (differ own) (sessions links)) (each_pair differ (sessions links)) apart).1

first_apart : (first : Link) (links : List Link) (index : ℕ) (link : Link) (session : SessionId) → each_pair differ (cons_option first.session (sessions links)) ≡ true → first.session ≡ Some session → slice_get links index ≡ Some link → link.session ≡ Some session → ⊥
first_apart first links index link session apart mine is has =
    let all : each_pair differ (session ∷ sessions links) ≡ true = subst (λ (s : Option SessionId). each_pair differ (cons_option s (sessions links)) ≡ true) mine apart in
    self_same session (found_with (differ session) links index link session (and_parts (all_with (differ session) (sessions links)) (each_pair differ (sessions links)) all).0 is has)

apart_at : (links : List Link) (index other : ℕ) (a b : Link) (session : SessionId) → each_pair differ (sessions links) ≡ true → slice_get links index ≡ Some a → slice_get links other ≡ Some b → a.session ≡ Some session → b.session ≡ Some session → index ≡ other
apart_at [] index other a b session apart at there mine its = absurd (let none : ⊥ = cc in none)
apart_at (first ∷ links) zero zero a b session apart at there mine its = refl
apart_at (first ∷ links) zero (suc other) a b session apart at there mine its =
    let same : first ≡ a = cc in
    absurd (first_apart first links other b session apart (ap (λ (l : Link). l.session) same ∙ mine) there its)
apart_at (first ∷ links) (suc index) zero a b session apart at there mine its =
    let same : first ≡ b = cc in
    absurd (first_apart first links index a session apart (ap (λ (l : Link). l.session) same ∙ its) at mine)
apart_at (first ∷ links) (suc index) (suc other) a b session apart at there mine its = ap suc (apart_at links index other a b session (later_apart first.session links apart) at there mine its)

pub are_apart : (links : List Link) → each_pair (λ a b. not (same_session a b)) (filter_map (λ link. link.session) links) ≡ true → AreApart links
are_apart links apart zero other a b session at there mine its = absurd (let none : ⊥ = cc in none)
are_apart links apart (suc index) zero a b session at there mine its = absurd (let none : ⊥ = cc in none)
are_apart links apart (suc index) (suc other) a b session at there mine its = ap suc (apart_at links index other a b session apart at there mine its)

-- ENDS AND NAMES ----------------------------------------------------------------------------------

implied : (a b : Bool) → a ≡ true → implies a b ≡ true → b ≡ true
implied true b is here = here
implied false b is here = absurd (let none : ⊥ = cc in none)

pub cut_shut : (t : Traced) (link : Link) → ends_rightly t link ≡ true → link.is_cut ≡ true → link.is_open ≡ false
cut_shut t link here cut =
    let rest : Bool = implies (is_closed link || link.is_cut) (not link.is_open) && implies link.is_open link.is_living in
    let one = and_parts (same_bool link.is_open (is_none link.ended)) (at_most t.machine.event link.ended && (implies (is_closed link || link.is_cut) (not link.is_open) && implies link.is_open link.is_living)) here in
    let two = and_parts (at_most t.machine.event link.ended) (implies (is_closed link || link.is_cut) (not link.is_open) && implies link.is_open link.is_living) one.1 in
    let three = and_parts (implies (is_closed link || link.is_cut) (not link.is_open)) (implies link.is_open link.is_living) two.1 in
    not-true link.is_open (implied (is_closed link || link.is_cut) (not link.is_open) (or_right (is_closed link) link.is_cut cut) three.0)

-- a session has no name before its first item
pub none_named : (link : Link) → is_named link ≡ true → link.served ≡ [] → link.session ≡ None
none_named link here none = by link.session (subst (λ (test : Bool). same_bool (is_some link.session) test ≡ true) (ap first_is_connect none) (and_parts (same_bool (is_some link.session) (first_is_connect link.served)) _ here).0)
  where
    by : (own : Option SessionId) → same_bool (is_some own) false ≡ true → own ≡ None
    by None is = refl
    by (Some session) is = absurd (let no : ⊥ = cc in no)
