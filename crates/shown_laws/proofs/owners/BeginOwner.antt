-- By the grammar of a connection the calls since a Begin are of the request that sent it.
use Rattle.std.proofs.Common.{◌≡◌, refl, sym, ap, subst, ◌∙◌, Bool, true, false, ℕ, ◌&&◌, ◌||◌, List, [], ◌∷◌, ◌++◌, fold, Option, Some, None}
use Rattle.std.specs.Prelude.{◌==◌, not, is_some, is_none}
use Rattle.std.specs.List.{list_all}
use Rattle.std.proofs.lemmas.Bool.{and_parts}
use Rattle.svc_values.specs.declared.call.Call.{Call}
use Rattle.svc_values.specs.declared.draw.Draw.{Draw}
use Rattle.svc_values.specs.declared.entry.Ltxid.{Ltxid}
use Rattle.svc_values.specs.declared.frame.Up.{Up}
use Rattle.svc_values.specs.declared.frame.Up.TheVariants as up
use Rattle.svc_values.specs.declared.value.Value.{Value}
use Rattle.svc_values.specs.meaning.Same.{same_bool, same_call, same_draws}
use Rattle.svc_values.specs.SameLaws.{same_bool_decides, same_call_decides, same_draws_decide}
use Rattle.world_model.specs.meaning.Frames.{Owner, Sent}
use Rattle.world_model.specs.Sames.{is_front, same_owners, same_sent, same_up}
use Rattle.world_model.specs.records.Wire.{Stage, New, Greeted, Told, Repeated, Begun, Rested, Shut, Wrong, stage_if, is_alter, next_stage, is_right}
use Rattle.shown_laws.specs.TurnOwners.{begun_by, sent_begin}
use Rattle.shown_laws.specs.TurnSent.{calls_with, sent_since}
use Rattle.shown_laws.proofs.owners.OwnTurns.{walk, right_front}
use Rattle.shown_laws.proofs.owners.TurnSent.{all_push, owned, owners_are, owners_same}

-- WHAT WAS SERVED IS IN THE GRAMMAR ---------------------------------------------------------------

-- frames that are the same lead to the same stage
begins_alike : (stage : Stage) (owner : Option Owner) (a b : List (List ℕ × Value)) → next_stage stage owner (up.Begin a) ≡ next_stage stage owner (up.Begin b)
begins_alike New owner a b = refl
begins_alike _ owner a b = refl

outcomes_alike : (stage : Stage) (owner : Option Owner) (a b : Ltxid) → next_stage stage owner (up.Outcome a) ≡ next_stage stage owner (up.Outcome b)
outcomes_alike New owner a b = refl
outcomes_alike _ owner a b = refl

frames_alike : (stage : Stage) (owner : Option Owner) (one other : Up) → same_up one other ≡ true → next_stage stage owner one ≡ next_stage stage owner other
frames_alike stage owner up.Connect up.Connect same = refl
frames_alike stage owner (up.Begin a) (up.Begin b) same = begins_alike stage owner a b
frames_alike stage owner (up.Call r k c) (up.Call s l d) same =
    let one = and_parts (same_bool r s) (same_draws k l && same_call c d) same in
    let two = and_parts (same_draws k l) (same_call c d) one.1 in
    ap (λ (m : Bool). next_stage stage owner (up.Call m k c)) ((same_bool_decides r s).0 one.0)
    ∙ (ap (λ (e : List Draw). next_stage stage owner (up.Call s e c)) ((same_draws_decide k l).0 two.0) ∙ ap (λ (e : Call). next_stage stage owner (up.Call s l e)) ((same_call_decides c d).0 two.1))
frames_alike stage owner (up.Outcome x) (up.Outcome y) same = outcomes_alike stage owner x y
frames_alike stage owner up.End up.End same = refl
frames_alike stage owner up.Close up.Close same = refl
frames_alike stage owner one other same = absurd (let none : ⊥ = cc in none)

pub front_right : (front sents : List Sent) (stage : Stage) → is_front same_sent front sents ≡ true → is_right (walk stage sents) ≡ true → is_right (walk stage front) ≡ true
front_right [] sents stage is right = right_front [] sents stage right
front_right (first ∷ front) [] stage is right = absurd (let none : ⊥ = cc in none)
front_right (first ∷ front) (sent ∷ sents) stage is right =
    let parts = and_parts (same_sent first sent) (is_front same_sent front sents) is in
    let one = and_parts (same_owners first.owner sent.owner) ((first.call == sent.call) && same_up first.frame sent.frame) parts.0 in
    let two = and_parts (first.call == sent.call) (same_up first.frame sent.frame) one.1 in
    let alike : next_stage stage first.owner first.frame ≡ next_stage stage sent.owner sent.frame =
    ap (λ (owner : Option Owner). next_stage stage owner first.frame) (owners_are first.owner sent.owner one.0) ∙ frames_alike stage sent.owner first.frame sent.frame two.1 in
    front_right front sents (next_stage stage first.owner first.frame) parts.1 (subst (λ (next : Stage). is_right (walk next sents) ≡ true) (sym alike) right)

-- WHOSE THE CALLS ARE -----------------------------------------------------------------------------

-- of whoever sent the Begin
abbrev OfBegin : List Sent → Option (Option Owner) → Type 0
OfBegin calls begun = (owner : Option Owner) → begun ≡ Some owner → owned owner calls

abbrev Stands : List Sent → Option (Option Owner) → Stage → Type 0
Stands calls begun (Begun one) = (begun ≡ Some one) × owned one calls
Stands calls begun (Repeated one) = (begun ≡ Some one) × owned one calls
Stands calls begun Wrong = Unit {0}
Stands calls begun stage = OfBegin calls begun

if_stands : (calls : List Sent) (begun : Option (Option Owner)) (test : Bool) (stage : Stage) → (test ≡ true → Stands calls begun stage) → Stands calls begun (stage_if test stage)
if_stands calls begun true stage is = is refl
if_stands calls begun false stage is = tt

of_begin : (calls : List Sent) (begun : Option (Option Owner)) (one : Option Owner) → (begun ≡ Some one) × owned one calls → OfBegin calls begun
of_begin calls begun one is owner has =
    let both : Some one ≡ Some owner = sym is.0 ∙ has in
    let same : one ≡ owner = cc in
    subst (λ (o : Option Owner). owned o calls) same is.1

more_owned : (calls : List Sent) (begun : Option (Option Owner)) (sent : Sent) (one : Option Owner) → (begun ≡ Some one) × owned one calls → same_owners one sent.owner ≡ true → (begun ≡ Some sent.owner) × owned sent.owner (calls ++ sent ∷ [])
more_owned calls begun sent one is same =
    let it : one ≡ sent.owner = owners_are one sent.owner same in
    (is.0 ∙ ap Some it, all_push (λ (s : Sent). same_owners sent.owner s.owner) calls sent (subst (λ (o : Option Owner). owned o calls) it is.1) (owners_same sent.owner))

moved : (calls : List Sent) (begun : Option (Option Owner)) (stage : Stage) (owner : Option Owner) (index : ℕ) (frame : Up) → Stands calls begun stage
    → Stands (calls_with calls (record { owner = owner; call = index; frame = frame }) frame) (begun_by begun owner frame) (next_stage stage owner frame)
moved calls begun New owner index up.Connect is = if_stands calls begun (is_some owner) (Greeted owner) (λ met. is)
moved calls begun (Greeted one) owner index (up.Outcome x) is = if_stands calls begun (same_owners one owner) (Told owner) (λ met. is)
moved calls begun (Greeted one) owner index (up.Begin settings) is = if_stands [] (Some owner) (same_owners one owner) (Begun owner) (λ met. (refl, refl))
moved calls begun (Told one) owner index (up.Begin settings) is = if_stands [] (Some owner) (same_owners one owner) (Repeated owner) (λ met. (refl, refl))
moved calls begun (Repeated one) owner index (up.Call true kept call) is =
    let sent : Sent = record { owner = owner; call = index; frame = up.Call true kept call } in
    if_stands (calls ++ sent ∷ []) begun (same_owners one owner && not (is_alter call)) (Repeated owner) (λ met. more_owned calls begun sent one is (and_parts (same_owners one owner) (not (is_alter call)) met).0)
moved calls begun (Repeated one) owner index (up.Call false kept call) is =
    let sent : Sent = record { owner = owner; call = index; frame = up.Call false kept call } in
    if_stands (calls ++ sent ∷ []) begun (same_owners one owner) (Begun owner) (λ met. more_owned calls begun sent one is met)
moved calls begun (Begun one) owner index (up.Call false kept call) is =
    let sent : Sent = record { owner = owner; call = index; frame = up.Call false kept call } in
    if_stands (calls ++ sent ∷ []) begun (same_owners one owner) (Begun owner) (λ met. more_owned calls begun sent one is met)
moved calls begun (Begun one) owner index up.End is = if_stands calls begun (same_owners one owner) (Rested owner) (λ met. of_begin calls begun one is)
moved calls begun (Told one) owner index up.End is = if_stands calls begun (same_owners one owner) (Rested owner) (λ met. is)
moved calls begun (Repeated one) owner index up.End is = if_stands calls begun (same_owners one owner) (Rested owner) (λ met. of_begin calls begun one is)
moved calls begun (Rested one) owner index (up.Begin settings) is = if_stands [] (Some owner) (is_some owner && not (same_owners one owner)) (Begun owner) (λ met. (refl, refl))
moved calls begun (Rested one) owner index up.Close is = if_stands calls begun (is_none owner || same_owners one owner) Shut (λ met. is)
moved calls begun (Greeted one) owner index up.Close is = if_stands calls begun (same_owners one owner) Shut (λ met. is)
moved calls begun (Told one) owner index up.Close is = if_stands calls begun (same_owners one owner) Shut (λ met. is)
moved calls begun (Repeated one) owner index up.Close is = if_stands calls begun (same_owners one owner) Shut (λ met. of_begin calls begun one is)
moved calls begun (Begun one) owner index up.Close is = if_stands calls begun (same_owners one owner) Shut (λ met. of_begin calls begun one is)
moved calls begun stage owner index frame is = tt

walked : (sents calls : List Sent) (begun : Option (Option Owner)) (stage : Stage) → Stands calls begun stage
    → Stands (fold (λ calls one. calls_with calls one one.frame) calls sents) (fold (λ found sent. begun_by found sent.owner sent.frame) begun sents) (walk stage sents)
walked [] calls begun stage is = is
walked (sent ∷ sents) calls begun stage is =
    walked sents (calls_with calls sent sent.frame) (begun_by begun sent.owner sent.frame) (next_stage stage sent.owner sent.frame) (moved calls begun stage sent.owner sent.call sent.frame is)

stands_own : (calls : List Sent) (begun : Option (Option Owner)) (stage : Stage) → Stands calls begun stage → is_right stage ≡ true → OfBegin calls begun
stands_own calls begun (Begun one) is right = of_begin calls begun one is
stands_own calls begun (Repeated one) is right = of_begin calls begun one is
stands_own calls begun Wrong is right = absurd (let none : ⊥ = cc in none)
stands_own calls begun New is right = is
stands_own calls begun (Greeted one) is right = is
stands_own calls begun (Told one) is right = is
stands_own calls begun (Rested one) is right = is
stands_own calls begun Shut is right = is

pub calls_of_begin : (sents : List Sent) (owner : Option Owner) → is_right (walk New sents) ≡ true → sent_begin sents ≡ Some owner → list_all (λ sent. same_owners owner sent.owner) (sent_since sents) ≡ true
calls_of_begin sents owner right begun = stands_own (sent_since sents) (sent_begin sents) (walk New sents) (walked sents [] None New (λ one none. absurd (let never : ⊥ = cc in never))) right owner begun
