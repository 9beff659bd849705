-- An identifier whose outcome is asked on a connection is held on another one, so its session is
-- near it.
use Rattle.std.proofs.Common.{◌≡◌, refl, sym, ap, subst, ◌∙◌, Bool, true, false, ℕ, suc, zero, ◌+◌, ◌≤◌, ◌&&◌, ◌||◌, List, [], ◌∷◌, ◌++◌, map, fold, Option, Some, None, ◌⊎◌, inl, inr, arith}
use Rattle.std.specs.Prelude.{◌==◌, not, nat_le, is_some}
use Rattle.std.specs.List.{list_all, list_any}
use Rattle.std.specs.Option.{option_map_or}
use Rattle.std.proofs.lemmas.Bool.{and_parts, and_from, or_cases}
use Rattle.std.proofs.lemmas.List.Folds.{list_all-append}
use Rattle.svc_values.specs.declared.entry.Ltxid.{Ltxid}
use Rattle.svc_values.specs.declared.entry.SessionId.{SessionId}
use Rattle.svc_values.specs.declared.frame.Up.{Up}
use Rattle.svc_values.specs.declared.frame.Up.TheVariants as up
use Rattle.svc_values.specs.meaning.Identifiers.{same_ltxid, session_of}
use Rattle.svc_values.specs.SameLaws.{same_ltxid_decides}
use Rattle.run_clauses.specs.meaning.EntryEvents.{entries_of}
use Rattle.world_model.specs.records.Basic.{is_named}
use Rattle.world_model.specs.meaning.Frames.{Owner, Sent, Handled}
use Rattle.invariant_laws.specs.Invariant.{Invariant}
use Rattle.world_model.specs.meaning.Links.{Link, link_at}
use Rattle.invariant_laws.specs.Lost.{lost_links, asks_lost, asks_rightly}
use Rattle.world_model.specs.records.Number.{is_near, cond_held}
use Rattle.world_model.specs.Parts.{number_of, held_number}
use Rattle.world_model.specs.Sames.{same_owner, same_owners, is_of, owned_by, same_up, same_sent, is_front}
use Rattle.world_model.specs.records.Script.{is_held_by, owned_rightly}
use Rattle.world_model.specs.Traced.{Traced, Course, courses_of}
use Rattle.world_model.specs.Words.{held_in}
use Rattle.world_model.specs.records.Wire.{up_of, is_sent_front, Stage, New, Greeted, Told, Repeated, Begun, Rested, Shut, Wrong, stage_if, next_stage, stage_of, is_right}
use Rattle.world_model.proofs.Offered.{at_link, number_named, extra_few, is_of_one, held_of, named_held, same_owner_is, owned_from, le_from, same_session_is}

-- FRONTS ------------------------------------------------------------------------------------------

pub front_all : (test : Sent → Bool) → ((a b : Sent) → same_sent a b ≡ true → test b ≡ true → test a ≡ true) → (xs zs : List Sent) → is_front same_sent xs zs ≡ true → list_all test zs ≡ true → list_all test xs ≡ true
front_all test alike [] zs front all = refl
front_all test alike (x ∷ xs) [] front all = absurd (let none : ⊥ = cc in none)
front_all test alike (x ∷ xs) (z ∷ zs) front all =
    let one = and_parts (same_sent x z) (is_front same_sent xs zs) front in
    let two = and_parts (test z) (list_all test zs) all in
    and_from (test x) (list_all test xs) (alike x z one.0 two.0) (front_all test alike xs zs one.1 two.1)

-- what holds of all that was sent holds of what may be served next
pub first_all : (test : Sent → Bool) → ((a b : Sent) → same_sent a b ≡ true → test b ≡ true → test a ≡ true) → (link : Link) (first : Sent) (later : List Sent) → link.up ≡ first ∷ later → is_sent_front link ≡ true → list_all test link.sent ≡ true → test first ≡ true
first_all test alike link first later ups sent all =
    let served : List Sent = map (λ (h : Handled). h.sent) link.served in
    let whole : list_all test (served ++ first ∷ later) ≡ true =
    subst (λ (rest : List Sent). list_all test (served ++ rest) ≡ true) ups (front_all test alike (up_of link) link.sent (and_parts (is_front same_sent (up_of link) link.sent) _ sent).0 all) in
    (and_parts (test first) (list_all test later) (and_parts (list_all test served) (list_all test (first ∷ later)) (sym (list_all-append test served (first ∷ later)) ∙ whole)).1).0

pub no_owner : (owner : Option Owner) → owner ≡ None → is_some owner ≡ true → ⊥
no_owner None is some = let none : ⊥ = cc in none
no_owner (Some one) is some = let none : ⊥ = cc in none

pub owners_are : (a b : Option Owner) → same_owners a b ≡ true → a ≡ b
owners_are None None is = refl
owners_are (Some a) (Some b) is = ap Some (same_owner_is a b is)
owners_are None (Some b) is = absurd (let none : ⊥ = cc in none)
owners_are (Some a) None is = absurd (let none : ⊥ = cc in none)

-- WHOSE IT IS -------------------------------------------------------------------------------------

abbrev asked_owned : Option Owner → Up → Bool
asked_owned owner (up.Outcome x) = is_some owner
asked_owned owner _ = true

abbrev has_owner : Sent → Bool
has_owner sent = asked_owned sent.owner sent.frame

abbrev greeted_owned : Stage → Bool
greeted_owned (Greeted one) = is_some one
greeted_owned _ = true

stage_keeps : (test : Bool) (stage : Stage) → greeted_owned stage ≡ true → greeted_owned (stage_if test stage) ≡ true
stage_keeps true stage is = is
stage_keeps false stage is = refl

some_same : (a b : Option Owner) → is_some a ≡ true → is_right (stage_if (same_owners a b) (Told b)) ≡ true → is_some b ≡ true
some_same (Some a) (Some b) is right = refl
some_same (Some a) None is right = absurd (let none : ⊥ = cc in none)
some_same None b is right = absurd (let none : ⊥ = cc in none)

step_asked : (stage : Stage) (owner : Option Owner) (frame : Up) → greeted_owned stage ≡ true → is_right (next_stage stage owner frame) ≡ true → asked_owned owner frame ≡ true
step_asked (Greeted one) owner (up.Outcome x) is right = some_same one owner is right
step_asked New owner (up.Outcome x) is right = absurd (let none : ⊥ = cc in none)
step_asked (Told one) owner (up.Outcome x) is right = absurd (let none : ⊥ = cc in none)
step_asked (Repeated one) owner (up.Outcome x) is right = absurd (let none : ⊥ = cc in none)
step_asked (Begun one) owner (up.Outcome x) is right = absurd (let none : ⊥ = cc in none)
step_asked (Rested one) owner (up.Outcome x) is right = absurd (let none : ⊥ = cc in none)
step_asked Shut owner (up.Outcome x) is right = absurd (let none : ⊥ = cc in none)
step_asked Wrong owner (up.Outcome x) is right = absurd (let none : ⊥ = cc in none)
step_asked stage owner frame is right = refl

step_greeted : (stage : Stage) (owner : Option Owner) (frame : Up) → greeted_owned (next_stage stage owner frame) ≡ true
step_greeted New owner up.Connect = by owner
  where
    by : (one : Option Owner) → greeted_owned (stage_if (is_some one) (Greeted one)) ≡ true
    by None = refl
    by (Some one) = refl
step_greeted (Greeted one) owner (up.Outcome x) = stage_keeps (same_owners one owner) (Told owner) refl
step_greeted (Greeted one) owner (up.Begin settings) = stage_keeps (same_owners one owner) (Begun owner) refl
step_greeted (Greeted one) owner up.Close = stage_keeps (same_owners one owner) Shut refl
step_greeted (Told one) owner (up.Begin settings) = stage_keeps (same_owners one owner) (Repeated owner) refl
step_greeted (Told one) owner up.End = stage_keeps (same_owners one owner) (Rested owner) refl
step_greeted (Told one) owner up.Close = stage_keeps (same_owners one owner) Shut refl
step_greeted (Repeated one) owner (up.Call true kept call) = stage_keeps _ (Repeated owner) refl
step_greeted (Repeated one) owner (up.Call false kept call) = stage_keeps (same_owners one owner) (Begun owner) refl
step_greeted (Repeated one) owner up.End = stage_keeps (same_owners one owner) (Rested owner) refl
step_greeted (Repeated one) owner up.Close = stage_keeps (same_owners one owner) Shut refl
step_greeted (Begun one) owner (up.Call false kept call) = stage_keeps (same_owners one owner) (Begun owner) refl
step_greeted (Begun one) owner up.End = stage_keeps (same_owners one owner) (Rested owner) refl
step_greeted (Begun one) owner up.Close = stage_keeps (same_owners one owner) Shut refl
step_greeted (Rested one) owner (up.Begin settings) = stage_keeps _ (Begun owner) refl
step_greeted (Rested one) owner up.Close = stage_keeps _ Shut refl
step_greeted stage owner frame = refl

abbrev pub stages : Stage → List Sent → Stage
stages stage sents = fold (λ s sent. next_stage s sent.owner sent.frame) stage sents

wrong_stays : (sents : List Sent) → stages Wrong sents ≡ Wrong
wrong_stays [] = refl
wrong_stays (sent ∷ sents) = wrong_stays sents

pub right_before : (stage : Stage) (sents : List Sent) → is_right (stages stage sents) ≡ true → is_right stage ≡ true
right_before Wrong sents right = ap is_right (sym (wrong_stays sents)) ∙ right
right_before stage sents right = refl

all_owned : (stage : Stage) (sents : List Sent) → greeted_owned stage ≡ true → is_right (stages stage sents) ≡ true → list_all has_owner sents ≡ true
all_owned stage [] is right = refl
all_owned stage (sent ∷ sents) is right =
    let next : Stage = next_stage stage sent.owner sent.frame in
    and_from (has_owner sent) (list_all has_owner sents) (step_asked stage sent.owner sent.frame is (right_before next sents right)) (all_owned next sents (step_greeted stage sent.owner sent.frame) right)

-- LISTS -------------------------------------------------------------------------------------------

pub any_all : {A : Type 0} (p q : A → Bool) (xs : List A) → list_any p xs ≡ true → list_all q xs ≡ true → (x : A) × ((p x ≡ true) × (q x ≡ true))
any_all p q [] any all = absurd (let none : ⊥ = cc in none)
any_all {A} p q (x ∷ xs) any all = by (or_cases (p x) (list_any p xs) any) (λ later. any_all p q xs later parts.1)
  where
    parts : (q x ≡ true) × (list_all q xs ≡ true)
    parts = and_parts (q x) (list_all q xs) all

    by : (p x ≡ true) ⊎ (list_any p xs ≡ true) → (list_any p xs ≡ true → (y : A) × ((p y ≡ true) × (q y ≡ true))) → (y : A) × ((p y ≡ true) × (q y ≡ true))
    by (inl here) again = (x, (here, parts.0))
    by (inr later) again = again later

pub any_one : {A : Type 0} (p : A → Bool) (xs : List A) → list_any p xs ≡ true → (x : A) × (p x ≡ true)
any_one p [] any = absurd (let none : ⊥ = cc in none)
any_one {A} p (x ∷ xs) any = by (or_cases (p x) (list_any p xs) any) (λ later. any_one p xs later)
  where
    by : (p x ≡ true) ⊎ (list_any p xs ≡ true) → (list_any p xs ≡ true → (y : A) × (p y ≡ true)) → (y : A) × (p y ≡ true)
    by (inl here) again = (x, here)
    by (inr later) again = again later

pub owned_at : (t : Traced) (number : ℕ) (link : Link) → owned_rightly (courses_of t) 1 t.machine.links ≡ true → link_at t.machine.links number ≡ Some link → list_all (λ sent. option_map_or (is_held_by (courses_of t) number) sent.owner true) link.sent ≡ true
owned_at t zero link all there = absurd (let none : ⊥ = cc in none)
owned_at t (suc index) link all there = let same : suc index ≡ 1 + index = omega arith in owned_from (courses_of t) 1 t.machine.links index (suc index) link same all there

-- WHAT IS ASKED -----------------------------------------------------------------------------------

alike_owner : (test : Option Owner → Bool) (a b : Sent) → same_sent a b ≡ true → test b.owner ≡ true → test a.owner ≡ true
alike_owner test a b same is = ap test (owners_are a.owner b.owner (and_parts (same_owners a.owner b.owner) _ same).0) ∙ is

alike_asks : (t : Traced) (course : Course) (a b : Sent) → same_sent a b ≡ true → asks_lost t course b b.frame ≡ true → asks_lost t course a a.frame ≡ true
alike_asks t course a b same is = by a.frame b.frame (and_parts (a.call == b.call) (same_up a.frame b.frame) parts.1).1 is
  where
    parts : (same_owners a.owner b.owner ≡ true) × (((a.call == b.call) && same_up a.frame b.frame) ≡ true)
    parts = and_parts (same_owners a.owner b.owner) ((a.call == b.call) && same_up a.frame b.frame) same

    owner : a.owner ≡ b.owner
    owner = owners_are a.owner b.owner parts.0

    by : (x y : Up) → same_up x y ≡ true → asks_lost t course b y ≡ true → asks_lost t course a x ≡ true
    by (up.Outcome x) (up.Outcome y) alike is =
        ap (λ (o : Option Owner). not (is_of course.owner o) || list_any (λ number. option_map_or (λ link. option_map_or (same_ltxid x) link.held false) (link_at t.machine.links number) false) (lost_links course)) owner
        ∙ (ap (λ (z : Ltxid). not (owned_by course.owner b) || list_any (λ number. option_map_or (λ link. option_map_or (same_ltxid z) link.held false) (link_at t.machine.links number) false) (lost_links course)) ((same_ltxid_decides x y).0 alike) ∙ is)
    by (up.Outcome x) up.Connect alike is = absurd (let none : ⊥ = cc in none)
    by (up.Outcome x) (up.Begin settings) alike is = absurd (let none : ⊥ = cc in none)
    by (up.Outcome x) (up.Call replay kept called) alike is = absurd (let none : ⊥ = cc in none)
    by (up.Outcome x) up.End alike is = absurd (let none : ⊥ = cc in none)
    by (up.Outcome x) up.Close alike is = absurd (let none : ⊥ = cc in none)
    by x y alike is = refl

alike_asked : (a b : Sent) → same_sent a b ≡ true → has_owner b ≡ true → has_owner a ≡ true
alike_asked a b same is = by a.frame b.frame (and_parts (a.call == b.call) (same_up a.frame b.frame) parts.1).1 is
  where
    parts : (same_owners a.owner b.owner ≡ true) × (((a.call == b.call) && same_up a.frame b.frame) ≡ true)
    parts = and_parts (same_owners a.owner b.owner) ((a.call == b.call) && same_up a.frame b.frame) same

    by : (x y : Up) → same_up x y ≡ true → asked_owned b.owner y ≡ true → asked_owned a.owner x ≡ true
    by (up.Outcome x) (up.Outcome y) alike is = ap is_some (owners_are a.owner b.owner parts.0) ∙ is
    by (up.Outcome x) up.Connect alike is = absurd (let none : ⊥ = cc in none)
    by (up.Outcome x) (up.Begin settings) alike is = absurd (let none : ⊥ = cc in none)
    by (up.Outcome x) (up.Call replay kept called) alike is = absurd (let none : ⊥ = cc in none)
    by (up.Outcome x) up.End alike is = absurd (let none : ⊥ = cc in none)
    by (up.Outcome x) up.Close alike is = absurd (let none : ⊥ = cc in none)
    by x y alike is = refl

-- the session is near an identifier that is held
pub record IsNear (t : Traced) (x : Ltxid) : Type 0 where
  pub least : x.number ≤ entries_of t.entries (session_of x)
  pub most : entries_of t.entries (session_of x) ≤ x.number + 1

pub named_same : (session : Option SessionId) (s : SessionId) → is_of_one session s ≡ true → session ≡ Some s
named_same None s is = absurd (let none : ⊥ = cc in none)
named_same (Some one) s is = ap Some (sym (same_session_is s one is))

-- its session has as many entries as there are of the identifier's
pub held_count : (t : Traced) (link : Link) (x : Ltxid) → link.held ≡ Some x → is_named link ≡ true → number_of t.entries link ≡ entries_of t.entries (session_of x)
held_count t link x held named =
    let own : is_of_one link.session (session_of x) ≡ true = subst (λ (o : Option Ltxid). held_of link.session o ≡ true) held (named_held link.session link.served link.held named) in
    number_named t.entries link (session_of x) (named_same link.session (session_of x) own)

pub held_near : (t : Traced) (link : Link) (x h : Ltxid) → link.held ≡ Some h → same_ltxid x h ≡ true → is_named link ≡ true → is_near t link ≡ true → IsNear t x
held_near t link x h held same named near =
    let equal : x ≡ h = (same_ltxid_decides x h).0 same in
    let count : number_of t.entries link ≡ entries_of t.entries (session_of h) = held_count t link h held named in
    let number : held_number link ≡ h.number = ap (λ (o : Option Ltxid). option_map_or (λ y. y.number) o 0) held in
    let parts = and_parts (nat_le (held_number link) (number_of t.entries link)) (nat_le (number_of t.entries link) (held_number link + cond_held link)) near in
    let least : held_number link ≤ number_of t.entries link = le_from (held_number link) (number_of t.entries link) parts.0 in
    let most : number_of t.entries link ≤ held_number link + cond_held link = le_from (number_of t.entries link) (held_number link + cond_held link) parts.1 in
    let extra : cond_held link ≤ 1 = extra_few (is_some link.held) in
    subst (IsNear t) (sym equal) (record { least = omega (arith, count, number, least); most = omega (arith, count, number, most, extra) })

found_near : (t : Traced) (number : ℕ) (x : Ltxid) → list_all is_named t.machine.links ≡ true → list_all (is_near t) t.machine.links ≡ true → option_map_or (λ link. option_map_or (same_ltxid x) link.held false) (link_at t.machine.links number) false ≡ true → IsNear t x
found_near t number x named near is = by (link_at t.machine.links number) refl is
  where
    held : (link : Link) (found : Option Ltxid) → link_at t.machine.links number ≡ Some link → link.held ≡ found → option_map_or (same_ltxid x) found false ≡ true → IsNear t x
    held link None there held_is same = absurd (let none : ⊥ = cc in none)
    held link (Some h) there held_is same = held_near t link x h held_is same (at_link is_named t.machine.links number link named there) (at_link (is_near t) t.machine.links number link near there)

    by : (found : Option Link) → link_at t.machine.links number ≡ found → option_map_or (λ link. option_map_or (same_ltxid x) link.held false) found false ≡ true → IsNear t x
    by None there is = absurd (let none : ⊥ = cc in none)
    by (Some link) there is = held link link.held there refl is

pub asked_near : (t : Traced) → Invariant t → (number : ℕ) (link : Link) (first : Sent) (later : List Sent) (x : Ltxid) → link_at t.machine.links number ≡ Some link → link.up ≡ first ∷ later → first.frame ≡ up.Outcome x → IsNear t x
asked_near t inv number link first later x there ups frame = by first.owner refl (subst (λ (f : Up). asked_owned first.owner f ≡ true) frame owned)
  where
    sent : is_sent_front link ≡ true
    sent = at_link is_sent_front t.machine.links number link inv.orderly.wire.sent there

    owned : has_owner first ≡ true
    owned = first_all has_owner alike_asked link first later ups sent (all_owned New link.sent refl (at_link (λ l. is_right (stage_of l)) t.machine.links number link inv.orderly.wire.grammar there))

    held : option_map_or (is_held_by (courses_of t) number) first.owner true ≡ true
    held =
        first_all (λ s. option_map_or (is_held_by (courses_of t) number) s.owner true) (λ a b same is. alike_owner (λ o. option_map_or (is_held_by (courses_of t) number) o true) a b same is) link first later ups sent
        (owned_at t number link inv.orderly.script.owned there)

    asks : (course : Course) → list_all (asks_rightly t course) t.machine.links ≡ true → asks_lost t course first (up.Outcome x) ≡ true
    asks course all =
        subst (λ (f : Up). asks_lost t course first f ≡ true) frame
        (first_all (λ s. asks_lost t course s s.frame) (alike_asks t course) link first later ups sent (at_link (asks_rightly t course) t.machine.links number link all there))

    lost : (course : Course) (mine : Bool) → owned_by course.owner first ≡ mine → mine ≡ true
        → (not mine || list_any (λ n. option_map_or (λ l. option_map_or (same_ltxid x) l.held false) (link_at t.machine.links n) false) (lost_links course)) ≡ true → IsNear t x
    lost course true is mine any =
        let found = any_one (λ n. option_map_or (λ l. option_map_or (same_ltxid x) l.held false) (link_at t.machine.links n) false) (lost_links course) any in
        found_near t found.0 x inv.orderly.basic.named inv.orderly.number.near found.1
    lost course false is mine any = absurd (let none : ⊥ = cc in none)

    by : (owner : Option Owner) → first.owner ≡ owner → is_some first.owner ≡ true → IsNear t x
    by None is some = absurd (no_owner first.owner is some)
    by (Some owner) is some =
        let holds : is_held_by (courses_of t) number owner ≡ true = subst (λ (o : Option Owner). option_map_or (is_held_by (courses_of t) number) o true ≡ true) is held in
        let found = any_all (λ (c : Course). same_owner c.owner owner && list_any (λ other. other == number) (held_in c.steps)) (λ (c : Course). list_all (asks_rightly t c) t.machine.links) (courses_of t) holds inv.lost.asks in
        let mine : owned_by found.0.owner first ≡ true = ap (is_of found.0.owner) is ∙ (and_parts (same_owner found.0.owner owner) _ found.1.0).0 in
        lost found.0 true (mine) refl (subst (λ (b : Bool). (not b || list_any (λ n. option_map_or (λ l. option_map_or (same_ltxid x) l.held false) (link_at t.machine.links n) false) (lost_links found.0)) ≡ true) mine (asks found.0 found.1.1))
