-- What holds of a front holds of the list; Connect is sent first and never again.
use Rattle.std.proofs.Common.{◌≡◌, refl, ap, subst, ◌∙◌, Bool, true, false, ◌&&◌, ◌||◌, List, [], ◌∷◌, ◌++◌, map, fold, Option, ◌⊎◌, inl, inr}
use Rattle.std.specs.Prelude.{◌==◌, not, is_some, is_none}
use Rattle.std.specs.List.{list_any}
use Rattle.std.proofs.lemmas.Bool.{and_parts, or_cases, or_left, or_right, or_from}
use Rattle.std.proofs.lemmas.List.Folds.{list_any-append}
use Rattle.svc_values.specs.declared.frame.Up.{Up}
use Rattle.svc_values.specs.declared.frame.Up.TheVariants as up
use Rattle.world_model.specs.meaning.Frames.{Owner, Sent, Handled}
use Rattle.world_model.specs.meaning.Links.{Link}
use Rattle.world_model.specs.Sames.{same_up, same_sent, same_owners, is_front}
use Rattle.world_model.specs.records.Hold.{is_connect}
use Rattle.world_model.specs.records.Wire.{up_of, is_sent_front, Stage, New, Greeted, Told, Repeated, Begun, Rested, Shut, Wrong, stage_if, is_alter, next_stage, stage_of, is_right}
use Rattle.world_model.proofs.events.Tests.{not_both}

pub same_frames : (a b : Sent) → same_sent a b ≡ true → same_up a.frame b.frame ≡ true
same_frames a b same = (and_parts (a.call == b.call) (same_up a.frame b.frame) (and_parts (same_owners a.owner b.owner) ((a.call == b.call) && same_up a.frame b.frame) same).1).1

either_any : (test : Sent → Bool) (x y : Sent) (xs ys : List Sent) → (test x ≡ true) ⊎ (list_any test xs ≡ true) → (test x ≡ true → test y ≡ true) → (list_any test xs ≡ true → list_any test ys ≡ true)
    → (test y || list_any test ys) ≡ true
either_any test x y xs ys (inl here) one rest = or_left (test y) (list_any test ys) (one here)
either_any test x y xs ys (inr later) one rest = or_right (test y) (list_any test ys) (rest later)

pub front_any : (test : Sent → Bool) → ((a b : Sent) → same_sent a b ≡ true → test a ≡ true → test b ≡ true) → (front all : List Sent) → is_front same_sent front all ≡ true → list_any test front ≡ true
    → list_any test all ≡ true
front_any test respects [] all is any = absurd (let none : ⊥ = cc in none)
front_any test respects (x ∷ xs) [] is any = absurd (let none : ⊥ = cc in none)
front_any test respects (x ∷ xs) (y ∷ ys) is any =
    let parts = and_parts (same_sent x y) (is_front same_sent xs ys) is in
    either_any test x y xs ys (or_cases (test x) (list_any test xs) any) (respects x y parts.0) (front_any test respects xs ys parts.1)

-- CONNECT -----------------------------------------------------------------------------------------

abbrev pub connects : Sent → Bool
connects sent = is_connect sent.frame

same_connects : (a b : Up) → same_up a b ≡ true → is_connect a ≡ true → is_connect b ≡ true
same_connects up.Connect up.Connect same is = refl
same_connects up.Connect up.Close same is = absurd (let none : ⊥ = cc in none)
same_connects up.Connect (up.Begin settings) same is = absurd (let none : ⊥ = cc in none)
same_connects up.Connect (up.Call replay kept call) same is = absurd (let none : ⊥ = cc in none)
same_connects up.Connect (up.Outcome x) same is = absurd (let none : ⊥ = cc in none)
same_connects up.Connect up.End same is = absurd (let none : ⊥ = cc in none)
same_connects a b same is = absurd (let none : ⊥ = cc in none)

sent_connects : (a b : Sent) → same_sent a b ≡ true → connects a ≡ true → connects b ≡ true
sent_connects a b same is = same_connects a.frame b.frame (same_frames a b same) is

abbrev is_new : Stage → Bool
is_new New = true
is_new _ = false

abbrev pub moved : Stage → Sent → Stage
moved stage sent = next_stage stage sent.owner sent.frame

if_old : (test : Bool) (stage : Stage) → is_new stage ≡ false → is_new (stage_if test stage) ≡ false
if_old true stage is = is
if_old false stage is = refl

-- no frame leads back to the start
never_new : (stage : Stage) (owner : Option Owner) (frame : Up) → is_new (next_stage stage owner frame) ≡ false
never_new New owner up.Connect = if_old (is_some owner) (Greeted owner) refl
never_new (Greeted one) owner (up.Outcome x) = if_old (same_owners one owner) (Told owner) refl
never_new (Greeted one) owner (up.Begin settings) = if_old (same_owners one owner) (Begun owner) refl
never_new (Told one) owner (up.Begin settings) = if_old (same_owners one owner) (Repeated owner) refl
never_new (Repeated one) owner (up.Call true kept call) = if_old (same_owners one owner && not (is_alter call)) (Repeated owner) refl
never_new (Repeated one) owner (up.Call false kept call) = if_old (same_owners one owner) (Begun owner) refl
never_new (Begun one) owner (up.Call false kept call) = if_old (same_owners one owner) (Begun owner) refl
never_new (Begun one) owner up.End = if_old (same_owners one owner) (Rested owner) refl
never_new (Told one) owner up.End = if_old (same_owners one owner) (Rested owner) refl
never_new (Repeated one) owner up.End = if_old (same_owners one owner) (Rested owner) refl
never_new (Rested one) owner (up.Begin settings) = if_old (is_some owner && not (same_owners one owner)) (Begun owner) refl
never_new (Rested one) owner up.Close = if_old (is_none owner || same_owners one owner) Shut refl
never_new (Greeted one) owner up.Close = if_old (same_owners one owner) Shut refl
never_new (Told one) owner up.Close = if_old (same_owners one owner) Shut refl
never_new (Repeated one) owner up.Close = if_old (same_owners one owner) Shut refl
never_new (Begun one) owner up.Close = if_old (same_owners one owner) Shut refl
never_new stage owner frame = refl

pub wrong_stays : (sents : List Sent) → is_right (fold moved Wrong sents) ≡ false
wrong_stays [] = refl
wrong_stays (sent ∷ sents) = wrong_stays sents

connect_wrong : (stage : Stage) (owner : Option Owner) (frame : Up) → is_new stage ≡ false → is_connect frame ≡ true → next_stage stage owner frame ≡ Wrong
connect_wrong New owner up.Connect old is = absurd (let none : ⊥ = cc in none)
connect_wrong stage owner up.Connect old is = refl
connect_wrong stage owner frame old is = absurd (let none : ⊥ = cc in none)

here_connects : (stage : Stage) (sent : Sent) (sents : List Sent) (here : Bool) → connects sent ≡ here → is_new stage ≡ false → is_right (fold moved (moved stage sent) sents) ≡ true
    → list_any connects sents ≡ false → (connects sent || list_any connects sents) ≡ false
here_connects stage sent sents true is old right rest =
    let wrong : is_right (fold moved Wrong sents) ≡ true = subst (λ (s : Stage). is_right (fold moved s sents) ≡ true) (connect_wrong stage sent.owner sent.frame old is) right in
    absurd (not_both (is_right (fold moved Wrong sents)) wrong (wrong_stays sents))
here_connects stage sent sents false is old right rest = or_from (connects sent) (list_any connects sents) is rest

none_connects : (stage : Stage) (sents : List Sent) → is_new stage ≡ false → is_right (fold moved stage sents) ≡ true → list_any connects sents ≡ false
none_connects stage [] old right = refl
none_connects stage (sent ∷ sents) old right =
    here_connects stage sent sents (connects sent) refl old right (none_connects (moved stage sent) sents (never_new stage sent.owner sent.frame) right)

-- behind the frame that was sent first there is no Connect
first_only : (front sent : List Sent) (first : Sent) → is_front same_sent (first ∷ front) sent ≡ true → is_right (fold moved New sent) ≡ true → list_any connects front ≡ true → ⊥
first_only front [] first is right any = let none : ⊥ = cc in none
first_only front (one ∷ others) first is right any =
    not_both (list_any connects others) (front_any connects sent_connects front others (and_parts (same_sent first one) (is_front same_sent front others) is).1 any)
    (none_connects (moved New one) others (never_new New one.owner one.frame) right)

connect_by : (served : List Handled) (ups sent : List Sent) (first : Sent) (later : List Sent) → is_front same_sent (map (λ one. one.sent) served ++ ups) sent ≡ true → is_right (fold moved New sent) ≡ true
    → ups ≡ first ∷ later → connects first ≡ true → served ≡ []
connect_by [] ups sent first later is right same here = refl
connect_by (one ∷ others) ups sent first later is right same here =
    let rest : List Sent = map (λ (h : Handled). h.sent) others in
    let any : list_any connects (rest ++ ups) ≡ true =
    list_any-append connects rest ups ∙ or_right (list_any connects rest) (list_any connects ups) (ap (list_any connects) same ∙ or_left (connects first) (list_any connects later) here) in
    absurd (first_only (rest ++ ups) sent one.sent is right any)

-- A Connect is served before all others.
pub connect_first : (link : Link) (first : Sent) (later : List Sent) → is_sent_front link ≡ true → is_right (stage_of link) ≡ true → link.up ≡ first ∷ later → connects first ≡ true → link.served ≡ []
connect_first link first later wire right same here = connect_by link.served link.up link.sent first later (and_parts (is_front same_sent (up_of link) link.sent) _ wire).0 right same here
