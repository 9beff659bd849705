-- What the items of some sessions drew anew, of all that was: values of sessions that differ are
-- counted apart.
use Rattle.std.proofs.Common.{◌≡◌, refl, ap, ◌∙◌, arith, ◌+◌, ◌≤◌, ◌||◌, Bool, true, false, not, List, [], ◌∷◌, ◌++◌, if◌then◌else◌}
use Rattle.std.specs.List.{list_any}
use Rattle.std.proofs.lemmas.Bool.{and_parts, not-true, or_left, or_right}
use Rattle.svc_values.specs.declared.draw.Draw.{Draw}
use Rattle.svc_values.specs.declared.entry.SessionId.{SessionId}
use Rattle.svc_values.specs.meaning.Identifiers.{same_session}
use Rattle.server_model.specs.meaning.Base.{Base}
use Rattle.server_model.specs.meaning.Fresh.{new_in, drawn_anew}
use Rattle.server_model.specs.meaning.Items.{Item, Did, AskTold, AskStopped}
use Rattle.server_model.specs.meaning.Walk.{Walk, Deed, deed_of, entered, after}
use Rattle.world_model.specs.Sames.{all_with}
use Rattle.once_laws.proofs.Offered.{times, times_both}
use Rattle.world_model.proofs.Offered.{same_session_is, not_both}

abbrev pub is_by : (SessionId → Bool) → Item → Bool
is_by some (Did event now session thing) = some session
is_by some _ = false

abbrev pub new_by : Bool → List Draw → List Draw
new_by test new = if test then new else []

-- what the items of these sessions drew anew
abbrev pub drawn_for : (SessionId → Bool) → Base → Walk → List Item → List Draw
drawn_for some base walk [] = []
drawn_for some base walk (item ∷ items) =
    let here = entered walk item in
    let did = deed_of base here item in
    new_by (is_by some item) (new_in base did) ++ drawn_for some base (after base here item did) items

-- TWO KINDS ---------------------------------------------------------------------------------------

-- of the first kind of sessions none is of the second, and both are of the third
pub record AreApart (first second all : SessionId → Bool) : Type 0 where
  pub apart : (session : SessionId) → first session ≡ true → second session ≡ false
  pub one : (session : SessionId) → first session ≡ true → all session ≡ true
  pub other : (session : SessionId) → second session ≡ true → all session ≡ true

module _ (value : Draw) (first second all : SessionId → Bool) (kinds : AreApart first second all) where
  one_item : (item : Item) (new : List Draw) → times value (new_by (is_by first item) new) + times value (new_by (is_by second item) new) ≤ times value (new_by (is_by all item) new)
  one_item (AskTold event x outcome) new = omega arith
  one_item (AskStopped event x) new = omega arith
  one_item (Did event now session thing) new = by (first session) (second session) (all session) refl refl refl
    where
      by : (a b c : Bool) → first session ≡ a → second session ≡ b → all session ≡ c → times value (new_by a new) + times value (new_by b new) ≤ times value (new_by c new)
      by true true c is_first is_second is_any = absurd (not_both (second session) is_second (kinds.apart session is_first))
      by true false true is_first is_second is_any = omega arith
      by true false false is_first is_second is_any = absurd (not_both (all session) (kinds.one session is_first) is_any)
      by false true true is_first is_second is_any = omega arith
      by false true false is_first is_second is_any = absurd (not_both (all session) (kinds.other session is_second) is_any)
      by false false c is_first is_second is_any = omega arith

  pub drawn_apart : (base : Base) (walk : Walk) (items : List Item) → times value (drawn_for first base walk items) + times value (drawn_for second base walk items) ≤ times value (drawn_for all base walk items)
  drawn_apart base walk [] = omega arith
  drawn_apart base walk (item ∷ items) =
      let here : Walk = entered walk item in
      let did : Deed = deed_of base here item in
      let new : List Draw = new_in base did in
      let later : Walk = after base here item did in
      let rest = drawn_apart base later items in
      let now = one_item item new in
      let a = times_both value (new_by (is_by first item) new) (drawn_for first base later items) in
      let b = times_both value (new_by (is_by second item) new) (drawn_for second base later items) in
      let c = times_both value (new_by (is_by all item) new) (drawn_for all base later items) in
      omega (arith, rest, now, a, b, c)

-- ALL OF THEM -------------------------------------------------------------------------------------

none_more : (value : Draw) (test : Bool) (new : List Draw) → times value (new_by test new) ≤ times value new
none_more value true new = omega arith
none_more value false new = omega arith

pub drawn_within : (value : Draw) (some : SessionId → Bool) (base : Base) (walk : Walk) (items : List Item) → times value (drawn_for some base walk items) ≤ times value (drawn_anew base walk items)
drawn_within value some base walk [] = omega arith
drawn_within value some base walk (item ∷ items) =
    let here : Walk = entered walk item in
    let did : Deed = deed_of base here item in
    let new : List Draw = new_in base did in
    let later : Walk = after base here item did in
    let rest = drawn_within value some base later items in
    let now = none_more value (is_by some item) new in
    let a = times_both value (new_by (is_by some item) new) (drawn_for some base later items) in
    let b = times_both value new (drawn_anew base later items) in
    omega (arith, rest, now, a, b)

-- of more sessions it is more
pub drawn_more : (value : Draw) (some more : SessionId → Bool) → ((session : SessionId) → some session ≡ true → more session ≡ true) → (base : Base) (walk : Walk) (items : List Item)
    → times value (drawn_for some base walk items) ≤ times value (drawn_for more base walk items)
drawn_more value some more within base walk items =
    let kinds : AreApart some (λ session. false) more = record { apart = λ session is. refl; one = within; other = λ session never. absurd (let none : ⊥ = cc in none) } in
    let all = drawn_apart value some (λ session. false) more kinds base walk items in
    omega (arith, all)

-- LISTS OF SESSIONS -------------------------------------------------------------------------------

abbrev pub is_session : SessionId → SessionId → Bool
is_session session other = same_session other session

abbrev pub among : List SessionId → SessionId → Bool
among sessions other = list_any (same_session other) sessions

none_among : (session : SessionId) (rest : List SessionId) → all_with (λ other. not (same_session session other)) rest ≡ true → among rest session ≡ false
none_among session [] apart = refl
none_among session (other ∷ rest) apart =
    let parts = and_parts (not (same_session session other)) (all_with (λ one. not (same_session session one)) rest) apart in
    ap (λ (test : Bool). test || among rest session) (not-true (same_session session other) parts.0) ∙ none_among session rest parts.1

-- a session, those behind it, and both
pub first_apart : (session : SessionId) (rest : List SessionId) → all_with (λ other. not (same_session session other)) rest ≡ true → AreApart (is_session session) (among rest) (among (session ∷ rest))
first_apart session rest apart = record {
  apart = λ other is. ap (among rest) (same_session_is other session is) ∙ none_among session rest apart;
  one = λ other is. or_left (same_session other session) (among rest other) is;
  other = λ other is. or_right (same_session other session) (among rest other) is;
}
