-- Changes of connections, and turns that are over.
use Rattle.std.proofs.Common.{◌≡◌, refl, sym, ap, ◌∙◌, append_assoc, ℕ, ◌-◌, ◌<◌, Bool, true, false, cond, length, get_or, reverse, List, [], ◌∷◌, ◌++◌, map, Option, Some, None, arith}
use Rattle.std.specs.Prelude.{flat_map}
use Rattle.std.specs.Option.{option_map_or}
use Rattle.std.proofs.lemmas.Bool.{eq-eqb, ne_eqb}
use Rattle.std.proofs.lemmas.List.{reverse-append, flat_map_more}
use Rattle.svc_values.specs.declared.entry.SessionId.{SessionId}
use Rattle.shown_clauses.specs.meaning.Fronts.{changed_if, with_changed}
use Rattle.shown_clauses.specs.meaning.Links.{Link, Turn, new_link, has_session, link_of_session, turn_begun, turn_of, over_on}
use Rattle.report_story.specs.Changes.{changed}
use Rattle.report_story.specs.Lines.{without_turn, turns_on, as_turns}
use Rattle.report_story.specs.Placing.{place_of, older_at, changed_at}
use Rattle.report_story.proofs.Placed.{some_same, place_below, found_first, read_older}

pub map_changed : (test : Link → Bool) (change : Link → Link) (links : List Link) → map (changed test change) links ≡ with_changed test change links
map_changed test change [] = refl
map_changed test change (x ∷ links) = ap (λ (rest : List Link). changed_if (test x) change x ∷ rest) (map_changed test change links)

-- ---- the turn that another one follows

begun_alike : (session : SessionId) (link : Link) → has_session session link ≡ true → changed_if (has_session session (without_turn link)) turn_begun (without_turn link) ≡ changed_if (has_session session link) turn_begun link
begun_alike session link its =
    ap (λ b. changed_if b turn_begun (without_turn link)) its ∙ sym (ap (λ b. changed_if b turn_begun link) its)

begun_first : (session : SessionId) (link : Link) (links : List Link) (p : ℕ) → has_session session link ≡ true → length links ≡ p
    → with_changed (has_session session) turn_begun (changed_at without_turn p (link ∷ links)) ≡ with_changed (has_session session) turn_begun (link ∷ links)
begun_first session link links p its same =
    ap (λ b. with_changed (has_session session) turn_begun (cond b (without_turn link ∷ links) (link ∷ changed_at without_turn p links))) (eq-eqb (length links) p same)
    ∙ ap (λ (first : Link). first ∷ with_changed (has_session session) turn_begun links) (begun_alike session link its)

begun_later : (session : SessionId) (link : Link) (links : List Link) (p : ℕ) → p < length links
    → with_changed (has_session session) turn_begun (changed_at without_turn p links) ≡ with_changed (has_session session) turn_begun links
    → with_changed (has_session session) turn_begun (changed_at without_turn p (link ∷ links)) ≡ with_changed (has_session session) turn_begun (link ∷ links)
begun_later session link links p below rest =
    ap (λ b. with_changed (has_session session) turn_begun (cond b (without_turn link ∷ links) (link ∷ changed_at without_turn p links))) (ne_eqb (length links) p (λ e. omega (arith, below, e)))
    ∙ ap (λ (others : List Link). changed_if (has_session session link) turn_begun link ∷ others) rest

-- What a `begin` makes of the connections is the same without the turn of the newest.
pub begun_over : (session : SessionId) (links : List Link) (p : ℕ) → place_of (has_session session) links ≡ Some p
    → with_changed (has_session session) turn_begun (changed_at without_turn p links) ≡ with_changed (has_session session) turn_begun links
begun_over session [] p is = refl
begun_over session (link ∷ links) p is = by (has_session session link) refl is (begun_over session links p)
  where
    by : (b : Bool) → has_session session link ≡ b → cond b (Some (length links)) (place_of (has_session session) links) ≡ Some p
        → (place_of (has_session session) links ≡ Some p → with_changed (has_session session) turn_begun (changed_at without_turn p links) ≡ with_changed (has_session session) turn_begun links)
        → with_changed (has_session session) turn_begun (changed_at without_turn p (link ∷ links)) ≡ with_changed (has_session session) turn_begun (link ∷ links)
    by true its here rest = begun_first session link links p its (some_same (length links) p here)
    by false its here rest = begun_later session link links p (place_below (has_session session) links p here) (rest here)

some_link : Link
some_link = new_link 0 (record { incarnation = 0; session = 0 }) []

-- the turn of the newest, which is at its place
pub turn_found : (session : SessionId) (links : List Link) (p : ℕ) → place_of (has_session session) links ≡ Some p → turns_on (older_at p links) ≡ over_on (link_of_session session links)
turn_found session links p is =
    let at : older_at p links ≡ Some (get_or links (length links - 1 - p) some_link) = read_older links p some_link (place_below (has_session session) links p is) in
    ap turns_on at ∙ sym (ap over_on (found_first (has_session session) links p is ∙ at))

-- ---- turns that are moved out

turn_alone : (link : Link) → reverse (turn_of link) ≡ turn_of link
turn_alone link = by link.turn
  where
    by : (turn : Option Turn) → reverse (option_map_or (λ (one : Turn). one ∷ []) turn []) ≡ option_map_or (λ (one : Turn). one ∷ []) turn []
    by None = refl
    by (Some one) = refl

pub turns_moved : (links : List Link) (link : Link) (turns : List Turn)
    → flat_map turn_of links ++ reverse (turns ++ turn_of link) ≡ flat_map turn_of (links ++ link ∷ []) ++ reverse turns
turns_moved links link turns =
    ap (λ (back : List Turn). flat_map turn_of links ++ back) (reverse-append turns (turn_of link) ∙ ap (λ (front : List Turn). front ++ reverse turns) (turn_alone link))
    ∙ (sym (append_assoc (flat_map turn_of links) (turn_of link) (reverse turns))
    ∙ ap (λ (front : List Turn). front ++ reverse turns) (flat_map_more turn_of [] links link))

-- a turn put last, which is over
turns_alone : (turn : Option Turn) → reverse (as_turns turn) ≡ as_turns turn
turns_alone None = refl
turns_alone (Some one) = refl

pub turn_put : (turns : List Turn) (turn : Option Turn) → reverse (turns ++ as_turns turn) ≡ as_turns turn ++ reverse turns
turn_put turns turn = reverse-append turns (as_turns turn) ∙ ap (λ (front : List Turn). front ++ reverse turns) (turns_alone turn)
