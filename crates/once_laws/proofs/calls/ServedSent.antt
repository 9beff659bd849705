-- What holds of each frame that was sent on a connection holds of each that it served: so a
-- repeated call that was served brought the draws that were shown.
use Rattle.std.proofs.Common.{◌≡◌, refl, sym, ap, ◌∙◌, ℕ, ◌&&◌, Bool, true, false, List, [], ◌∷◌, ◌++◌, map}
use Rattle.std.specs.Prelude.{◌==◌}
use Rattle.std.specs.List.{list_all}
use Rattle.std.proofs.lemmas.Bool.{and_parts}
use Rattle.std.proofs.lemmas.List.{map-append}
use Rattle.svc_values.specs.declared.call.Call.{Call}
use Rattle.svc_values.specs.declared.draw.Draw.{Draw}
use Rattle.svc_values.specs.declared.frame.Up.{Up}
use Rattle.svc_values.specs.declared.frame.Up.TheVariants as up
use Rattle.svc_values.specs.meaning.Same.{same_bool, same_call, same_draws}
use Rattle.svc_values.specs.SameLaws.{same_bool_decides, same_call_decides, same_draws_decide}
use Rattle.world_model.specs.meaning.Frames.{Sent, Handled}
use Rattle.world_model.specs.meaning.Links.{Link}
use Rattle.world_model.specs.Parts.{implies}
use Rattle.world_model.specs.Sames.{is_of, owned_by, same_owners, same_sent, same_up, is_front}
use Rattle.world_model.specs.records.Script.{has_shown_draws}
use Rattle.world_model.specs.Traced.{Course}
use Rattle.world_model.specs.records.Wire.{is_sent_front, up_of}
use Rattle.invariant_laws.proofs.Offered.{front_all, owners_are}
use Rattle.world_model.proofs.Offered.{carries, front_begun, same_frames, eq_from}

-- LISTS -------------------------------------------------------------------------------------------

-- one of a list
pub pass_split : {A : Type 0} (test : A → Bool) (front : List A) (one : A) (rest : List A) → list_all test (front ++ one ∷ rest) ≡ true → test one ≡ true
pass_split test [] one rest all = (and_parts (test one) (list_all test rest) all).0
pass_split test (first ∷ front) one rest all = pass_split test front one rest (and_parts (test first) (list_all test (front ++ one ∷ rest)) all).1

-- FRAMES THAT ARE SERVED --------------------------------------------------------------------------

-- frames that are the same carry the same draws
draws_alike : (course : Course) (a b : ℕ) (x y : Up) → a ≡ b → same_up x y ≡ true → has_shown_draws course b y ≡ true → has_shown_draws course a x ≡ true
draws_alike course a b (up.Call r k c) (up.Call s l d) at same is =
    let parts = and_parts (same_bool r s) (same_draws k l && same_call c d) same in
    let more = and_parts (same_draws k l) (same_call c d) parts.1 in
    ap (λ (index : ℕ). has_shown_draws course index (up.Call r k c)) at
    ∙ ap (λ (mark : Bool). has_shown_draws course b (up.Call mark k c)) ((same_bool_decides r s).0 parts.0)
    ∙ ap (λ (kept : List Draw). has_shown_draws course b (up.Call s kept c)) ((same_draws_decide k l).0 more.0)
    ∙ ap (λ (call : Call). has_shown_draws course b (up.Call s l call)) ((same_call_decides c d).0 more.1) ∙ is
draws_alike course a b up.Connect y at same is = refl
draws_alike course a b (up.Begin settings) y at same is = refl
draws_alike course a b (up.Outcome x) y at same is = refl
draws_alike course a b up.End y at same is = refl
draws_alike course a b up.Close y at same is = refl
draws_alike course a b (up.Call r k c) y at same is = absurd (let none : ⊥ = cc in none)

pub carries_alike : (course : Course) (a b : Sent) → same_sent a b ≡ true → carries course b ≡ true → carries course a ≡ true
carries_alike course a b same is = by (owned_by course.owner b) (ap (is_of course.owner) (owners_are a.owner b.owner parts.0)) is
  where
    parts : (same_owners a.owner b.owner ≡ true) × (((a.call == b.call) && same_up a.frame b.frame) ≡ true)
    parts = and_parts (same_owners a.owner b.owner) ((a.call == b.call) && same_up a.frame b.frame) same

    by : (mine : Bool) → owned_by course.owner a ≡ mine → implies mine (has_shown_draws course b.call b.frame) ≡ true → implies (owned_by course.owner a) (has_shown_draws course a.call a.frame) ≡ true
    by true own is =
        ap (λ (mine : Bool). implies mine (has_shown_draws course a.call a.frame)) own
        ∙ draws_alike course a.call b.call a.frame b.frame (eq_from a.call b.call (and_parts (a.call == b.call) (same_up a.frame b.frame) parts.1).0) (same_frames a b same) is
    by false own is = ap (λ (mine : Bool). implies mine (has_shown_draws course a.call a.frame)) own

-- of what was served as of all that was sent
pub sent_front : (link : Link) → is_sent_front link ≡ true → is_front same_sent (map (λ one. one.sent) link.served) link.sent ≡ true
sent_front link sent = front_begun same_sent (map (λ one. one.sent) link.served) (up_of link) link.sent (record { rest = link.up; whole = refl }) (and_parts (is_front same_sent (up_of link) link.sent) _ sent).0

pub sent_split : (test : Sent → Bool) → ((a b : Sent) → same_sent a b ≡ true → test b ≡ true → test a ≡ true) → (link : Link) → is_sent_front link ≡ true → list_all test link.sent ≡ true → (front : List Handled) (one : Handled) (rest : List Handled)
    → link.served ≡ front ++ one ∷ rest → test one.sent ≡ true
sent_split test alike link sent all front one rest is =
    pass_split test (map (λ h. h.sent) front) one.sent (map (λ h. h.sent) rest)
    (ap (list_all test) (sym (ap (map (λ (h : Handled). h.sent)) is ∙ map-append (λ (h : Handled). h.sent) front (one ∷ rest))) ∙ front_all test alike (map (λ h. h.sent) link.served) link.sent (sent_front link sent) all)
