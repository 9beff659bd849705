-- Each value that a marked call carries was given to the same call of the same request at an
-- earlier event, by an item without the mark.
use Rattle.std.proofs.Common.{◌≡◌, refl, sym, ap, subst, ◌∙◌, Bool, true, false, ℕ, ◌+◌, ◌<◌, ◌≤◌, ◌&&◌, ◌||◌, not, List, [], ◌∷◌, map, Option, Some, None, arith, ◌⊎◌, inl, inr}
use Rattle.std.specs.Prelude.{◌==◌, nat_lt, nat_le, slice_get, is_some, is_none, length}
use Rattle.std.specs.List.{list_all, list_any}
use Rattle.std.specs.Option.{option_map_or}
use Rattle.std.proofs.lemmas.Bool.{and_parts, and_from, or_left, or_right, or_cases}
use Rattle.svc_values.specs.declared.call.Call.{Call}
use Rattle.svc_values.specs.declared.draw.Draw.{Draw}
use Rattle.svc_values.specs.declared.frame.Up.{Up}
use Rattle.svc_values.specs.declared.frame.Up.TheVariants as up
use Rattle.svc_values.specs.meaning.Same.{same_bool, same_call, same_draws}
use Rattle.svc_values.specs.SameLaws.{same_draws_decide}
use Rattle.outage_schedule.specs.declared.event.Event.{Event}
use Rattle.outage_schedule.specs.declared.item.Served.{Served}
use Rattle.outage_schedule.specs.declared.note.Note.{Note}
use Rattle.outage_schedule.specs.declared.request.ShownCall.{ShownCall}
use Rattle.server_model.specs.Seen.{Seen}
use Rattle.world_model.specs.records.Basic.{item_events, is_named}
use Rattle.world_model.specs.meaning.Frames.{Owner, Sent, Handled}
use Rattle.world_model.specs.Orderly.{Orderly}
use Rattle.world_model.specs.meaning.Links.{Link, link_at}
use Rattle.world_model.specs.OneEvent.{OneEvent}
use Rattle.world_model.specs.Parts.{implies}
use Rattle.world_model.specs.Sames.{each_pair, same_owner, same_owners, is_of, owned_by, same_up, same_sent}
use Rattle.world_model.specs.records.Script.{is_held_by, has_shown_draws, carries_draws}
use Rattle.world_model.specs.meaning.Serving.{Front, front_at, is_of_front, is_served_by}
use Rattle.world_model.specs.Traced.{Traced, Course, courses_of}
use Rattle.world_model.specs.records.Wire.{is_sent_front, is_alter, Stage, New, Greeted, Told, Repeated, Begun, Rested, Shut, Wrong, stage_if, next_stage, stage_of, is_right}
use Rattle.world_model.specs.Words.{held_in}
use Rattle.world_model.proofs.Offered.{at_link, front_is, append_all, one_all, weaker_all, Followed, follow_happens, at_event, by_number, same_owner_is, eq_from, le_from, lt_to}
use Rattle.invariant_laws.proofs.Offered.{any_all, first_all, owned_at, owners_are, right_before, stages, no_owner, both_all, IsLonger, happens_longer, ComesOf, AtFront, Elsewhere, Alone, Unnamed, Alike, Adds, AddsFrame, AddsNone, event_adds}
use Rattle.once_laws.proofs.values.ShownGiven.{is_nothing, gives_to, any_served, still_served, shown_given, are_given, given_at}

-- WHOSE A MARKED CALL IS --------------------------------------------------------------------------

abbrev marked_owned : Option Owner → Up → Bool
marked_owned owner (up.Call true kept call) = is_some owner
marked_owned owner _ = true

abbrev has_owner : Sent → Bool
has_owner sent = marked_owned sent.owner sent.frame

abbrev pub owned_stage : Stage → Bool
owned_stage (Greeted one) = is_some one
owned_stage (Told one) = is_some one
owned_stage (Repeated one) = is_some one
owned_stage (Begun one) = is_some one
owned_stage _ = true

pub some_by : (a b : Option Owner) → is_some a ≡ true → same_owners a b ≡ true → is_some b ≡ true
some_by a b some same = ap is_some (sym (owners_are a b same)) ∙ some

if_owned : (test : Bool) (stage : Stage) → (test ≡ true → owned_stage stage ≡ true) → owned_stage (stage_if test stage) ≡ true
if_owned true stage owned = owned refl
if_owned false stage owned = refl

pub if_right : (test : Bool) (stage : Stage) → is_right (stage_if test stage) ≡ true → test ≡ true
if_right true stage right = refl
if_right false stage right = absurd (let none : ⊥ = cc in none)

step_marked : (stage : Stage) (owner : Option Owner) (frame : Up) → owned_stage stage ≡ true → is_right (next_stage stage owner frame) ≡ true → marked_owned owner frame ≡ true
step_marked (Repeated one) owner (up.Call true kept call) owned right =
    some_by one owner owned (and_parts (same_owners one owner) (not (is_alter call)) (if_right (same_owners one owner && not (is_alter call)) (Repeated owner) right)).0
step_marked New owner (up.Call true kept call) owned right = absurd (let none : ⊥ = cc in none)
step_marked (Greeted one) owner (up.Call true kept call) owned right = absurd (let none : ⊥ = cc in none)
step_marked (Told one) owner (up.Call true kept call) owned right = absurd (let none : ⊥ = cc in none)
step_marked (Begun one) owner (up.Call true kept call) owned right = absurd (let none : ⊥ = cc in none)
step_marked (Rested one) owner (up.Call true kept call) owned right = absurd (let none : ⊥ = cc in none)
step_marked Shut owner (up.Call true kept call) owned right = absurd (let none : ⊥ = cc in none)
step_marked Wrong owner (up.Call true kept call) owned right = absurd (let none : ⊥ = cc in none)
step_marked stage owner frame owned right = refl

pub step_owned : (stage : Stage) (owner : Option Owner) (frame : Up) → owned_stage stage ≡ true → owned_stage (next_stage stage owner frame) ≡ true
step_owned New owner up.Connect owned = if_owned (is_some owner) (Greeted owner) (λ some. some)
step_owned (Greeted one) owner (up.Outcome x) owned = if_owned (same_owners one owner) (Told owner) (some_by one owner owned)
step_owned (Greeted one) owner (up.Begin settings) owned = if_owned (same_owners one owner) (Begun owner) (some_by one owner owned)
step_owned (Greeted one) owner up.Close owned = if_owned (same_owners one owner) Shut (λ same. refl)
step_owned (Told one) owner (up.Begin settings) owned = if_owned (same_owners one owner) (Repeated owner) (some_by one owner owned)
step_owned (Told one) owner up.End owned = if_owned (same_owners one owner) (Rested owner) (λ same. refl)
step_owned (Told one) owner up.Close owned = if_owned (same_owners one owner) Shut (λ same. refl)
step_owned (Repeated one) owner (up.Call true kept call) owned =
    if_owned (same_owners one owner && not (is_alter call)) (Repeated owner) (λ both. some_by one owner owned (and_parts (same_owners one owner) (not (is_alter call)) both).0)
step_owned (Repeated one) owner (up.Call false kept call) owned = if_owned (same_owners one owner) (Begun owner) (some_by one owner owned)
step_owned (Repeated one) owner up.End owned = if_owned (same_owners one owner) (Rested owner) (λ same. refl)
step_owned (Repeated one) owner up.Close owned = if_owned (same_owners one owner) Shut (λ same. refl)
step_owned (Begun one) owner (up.Call false kept call) owned = if_owned (same_owners one owner) (Begun owner) (some_by one owner owned)
step_owned (Begun one) owner up.End owned = if_owned (same_owners one owner) (Rested owner) (λ same. refl)
step_owned (Begun one) owner up.Close owned = if_owned (same_owners one owner) Shut (λ same. refl)
step_owned (Rested one) owner (up.Begin settings) owned = if_owned (is_some owner && not (same_owners one owner)) (Begun owner) (λ both. (and_parts (is_some owner) (not (same_owners one owner)) both).0)
step_owned (Rested one) owner up.Close owned = if_owned (is_none owner || same_owners one owner) Shut (λ same. refl)
step_owned stage owner frame owned = refl

all_marked : (stage : Stage) (sents : List Sent) → owned_stage stage ≡ true → is_right (stages stage sents) ≡ true → list_all has_owner sents ≡ true
all_marked stage [] owned right = refl
all_marked stage (sent ∷ sents) owned right =
    let next : Stage = next_stage stage sent.owner sent.frame in
    and_from (has_owner sent) (list_all has_owner sents) (step_marked stage sent.owner sent.frame owned (right_before next sents right)) (all_marked next sents (step_owned stage sent.owner sent.frame owned) right)

-- WHAT IT CARRIES ---------------------------------------------------------------------------------

-- of a request: the draws that were shown of the call
abbrev carried : Course → Option Owner → ℕ → Up → Bool
carried course owner call (up.Call true kept called) = implies (is_of course.owner owner) (option_map_or (λ shown. same_draws kept shown.draws) (slice_get course.report.calls call) false)
carried course owner call _ = true

abbrev is_carried : Course → Sent → Bool
is_carried course sent = carried course sent.owner sent.call sent.frame

carried_by : (course : Course) (sent : Sent) → implies (owned_by course.owner sent) (has_shown_draws course sent.call sent.frame) ≡ true → is_carried course sent ≡ true
carried_by course sent = by sent.frame
  where
    by : (frame : Up) → implies (owned_by course.owner sent) (has_shown_draws course sent.call frame) ≡ true → carried course sent.owner sent.call frame ≡ true
    by (up.Call true kept called) is = is
    by frame is = refl

-- what the other frame is, where this one is a marked call
alike_marked : (a b : Sent) → same_sent a b ≡ true → (test : Option Owner → ℕ → Up → Bool) → ((owner : Option Owner) (call : ℕ) (kept : List Draw) (one other : Call) → test owner call (up.Call true kept one) ≡ test owner call (up.Call true kept other))
    → ((owner : Option Owner) (call : ℕ) (frame : Up) → ((kept : List Draw) (called : Call) → frame ≡ up.Call true kept called → ⊥) → test owner call frame ≡ true) → test b.owner b.call b.frame ≡ true → test a.owner a.call a.frame ≡ true
alike_marked a b same test alike others is =
    ap (λ (owner : Option Owner). test owner a.call a.frame) (owners_are a.owner b.owner parts.0) ∙ (ap (λ (call : ℕ). test b.owner call a.frame) (eq_from a.call b.call both.0) ∙ by a.frame b.frame both.1 is)
  where
    parts : (same_owners a.owner b.owner ≡ true) × (((a.call == b.call) && same_up a.frame b.frame) ≡ true)
    parts = and_parts (same_owners a.owner b.owner) ((a.call == b.call) && same_up a.frame b.frame) same

    both : ((a.call == b.call) ≡ true) × (same_up a.frame b.frame ≡ true)
    both = and_parts (a.call == b.call) (same_up a.frame b.frame) parts.1

    by : (x y : Up) → same_up x y ≡ true → test b.owner b.call y ≡ true → test b.owner b.call x ≡ true
    by (up.Call true kept called) (up.Call true brought other) same is =
        let one = and_parts (same_draws kept brought) (same_call called other) same in
        ap (λ (draws : List Draw). test b.owner b.call (up.Call true draws called)) ((same_draws_decide kept brought).0 one.0) ∙ (alike b.owner b.call brought called other ∙ is)
    by (up.Call true kept called) (up.Call false brought other) same is = absurd (let none : ⊥ = cc in none)
    by (up.Call true kept called) up.Connect same is = absurd (let none : ⊥ = cc in none)
    by (up.Call true kept called) (up.Begin settings) same is = absurd (let none : ⊥ = cc in none)
    by (up.Call true kept called) (up.Outcome x) same is = absurd (let none : ⊥ = cc in none)
    by (up.Call true kept called) up.End same is = absurd (let none : ⊥ = cc in none)
    by (up.Call true kept called) up.Close same is = absurd (let none : ⊥ = cc in none)
    by (up.Call false kept called) y same is = others b.owner b.call (up.Call false kept called) (λ k c never. let none : ⊥ = cc in none)
    by up.Connect y same is = others b.owner b.call up.Connect (λ k c never. let none : ⊥ = cc in none)
    by (up.Begin settings) y same is = others b.owner b.call (up.Begin settings) (λ k c never. let none : ⊥ = cc in none)
    by (up.Outcome x) y same is = others b.owner b.call (up.Outcome x) (λ k c never. let none : ⊥ = cc in none)
    by up.End y same is = others b.owner b.call up.End (λ k c never. let none : ⊥ = cc in none)
    by up.Close y same is = others b.owner b.call up.Close (λ k c never. let none : ⊥ = cc in none)

plain_owned : (owner : Option Owner) (frame : Up) → ((kept : List Draw) (called : Call) → frame ≡ up.Call true kept called → ⊥) → marked_owned owner frame ≡ true
plain_owned owner (up.Call true kept called) never = absurd (never kept called refl)
plain_owned owner frame never = refl

plain_carried : (course : Course) (owner : Option Owner) (call : ℕ) (frame : Up) → ((kept : List Draw) (called : Call) → frame ≡ up.Call true kept called → ⊥) → carried course owner call frame ≡ true
plain_carried course owner call (up.Call true kept called) never = absurd (never kept called refl)
plain_carried course owner call frame never = refl

-- THE FRAME THAT STANDS FIRST ---------------------------------------------------------------------

-- the values that it carries were given to its call
record WasGiven (links : List Link) (sent : Sent) (kept : List Draw) : Type 0 where
  owner : Owner
  is : sent.owner ≡ Some owner
  given : (is_nothing kept || any_served (gives_to owner sent.call kept) links) ≡ true

module _ (old : Traced) (inv : Orderly old) (given : are_given old ≡ true) (number : ℕ) (front : Front) (at : front_at old.machine.links number ≡ Some front) (kept : List Draw) (called : Call) (frame : front.first.frame ≡ up.Call true kept called) where
  there : link_at old.machine.links number ≡ Some front.link
  there = (front_is old.machine.links number front at).there

  sent : is_sent_front front.link ≡ true
  sent = at_link is_sent_front old.machine.links number front.link inv.wire.sent there

  first_so : (test : Sent → Bool) → ((a b : Sent) → same_sent a b ≡ true → test b ≡ true → test a ≡ true) → list_all test front.link.sent ≡ true → test front.first ≡ true
  first_so test alike all = first_all test alike front.link front.first front.later (front_is old.machine.links number front at).up sent all

  owned : marked_owned front.first.owner (up.Call true kept called) ≡ true
  owned =
      subst (λ (f : Up). marked_owned front.first.owner f ≡ true) frame
      (first_so has_owner (λ a b same is. alike_marked a b same (λ owner call f. marked_owned owner f) (λ owner call k one other. refl) (λ owner call f never. plain_owned owner f never) is)
      (all_marked New front.link.sent refl (at_link (λ l. is_right (stage_of l)) old.machine.links number front.link inv.wire.grammar there)))

  held : option_map_or (is_held_by (courses_of old) number) front.first.owner true ≡ true
  held =
      first_so (λ s. option_map_or (is_held_by (courses_of old) number) s.owner true)
      (λ a b same is. ap (λ (o : Option Owner). option_map_or (is_held_by (courses_of old) number) o true) (owners_are a.owner b.owner (and_parts (same_owners a.owner b.owner) _ same).0) ∙ is) (owned_at old number front.link inv.script.owned there)

  carries : (course : Course) → list_all (carries_draws course) old.machine.links ≡ true → carried course front.first.owner front.first.call (up.Call true kept called) ≡ true
  carries course all =
      subst (λ (f : Up). carried course front.first.owner front.first.call f ≡ true) frame
      (first_so (is_carried course) (λ a b same is. alike_marked a b same (carried course) (λ owner call k one other. refl) (plain_carried course) is)
      (weaker_all (λ s. implies (owned_by course.owner s) (has_shown_draws course s.call s.frame)) (is_carried course) front.link.sent (carried_by course) (at_link (carries_draws course) old.machine.links number front.link all there)))

  shown_of : (course : Course) (owner : Owner) → front.first.owner ≡ Some owner → same_owner course.owner owner ≡ true → list_all (carries_draws course) old.machine.links ≡ true → shown_given old course ≡ true → WasGiven old.machine.links front.first kept
  shown_of course owner is same all shows = by (slice_get course.report.calls front.first.call) refl here
    where
      mine : is_of course.owner front.first.owner ≡ true
      mine = ap (is_of course.owner) is ∙ same

      here : option_map_or (λ shown. same_draws kept shown.draws) (slice_get course.report.calls front.first.call) false ≡ true
      here = sym (ap (λ (test : Bool). implies test (option_map_or (λ shown. same_draws kept shown.draws) (slice_get course.report.calls front.first.call) false)) mine) ∙ carries course all

      by : (found : Option ShownCall) → slice_get course.report.calls front.first.call ≡ found → option_map_or (λ shown. same_draws kept shown.draws) found false ≡ true → WasGiven old.machine.links front.first kept
      by None there_is draws = absurd (let none : ⊥ = cc in none)
      by (Some shown) there_is draws =
          let place : front.first.call ≡ 0 + front.first.call = omega arith in
          record {
            owner = owner;
            is = is;
            given =
                subst (λ (o : Owner). (is_nothing kept || any_served (gives_to o front.first.call kept) old.machine.links) ≡ true) (same_owner_is course.owner owner same)
                (subst (λ (all : List Draw). (is_nothing all || any_served (gives_to course.owner front.first.call all) old.machine.links) ≡ true) (sym ((same_draws_decide kept shown.draws).0 draws))
                (given_at old.machine.links course.owner 0 front.first.call front.first.call course.report.calls shown place shows there_is));
          }

  was_given : WasGiven old.machine.links front.first kept
  was_given = by front.first.owner refl
    where
      by : (owner : Option Owner) → front.first.owner ≡ owner → WasGiven old.machine.links front.first kept
      by None is = absurd (no_owner front.first.owner is owned)
      by (Some owner) is =
          let holds : is_held_by (courses_of old) number owner ≡ true = subst (λ (o : Option Owner). option_map_or (is_held_by (courses_of old) number) o true ≡ true) is held in
          let found = any_all (λ (c : Course). same_owner c.owner owner && list_any (λ other. other == number) (held_in c.steps)) (λ (c : Course). list_all (carries_draws c) old.machine.links && shown_given old c) (courses_of old) holds
          (both_all (λ (c : Course). list_all (carries_draws c) old.machine.links) (shown_given old) (courses_of old) inv.script.marks given) in
          let two = and_parts (list_all (carries_draws found.0) old.machine.links) (shown_given old found.0) found.1.1 in
          shown_of found.0 owner is (and_parts (same_owner found.0.owner owner) _ found.1.0).0 two.0 two.1

-- BEFORE ------------------------------------------------------------------------------------------

any_both : {A B : Type 0} (p : A → Bool) (f : A → B) (q : B → Bool) (r : A → Bool) (xs : List A) → ((x : A) → p x ≡ true → q (f x) ≡ true → r x ≡ true) → list_any p xs ≡ true → list_all q (map f xs) ≡ true → list_any r xs ≡ true
any_both p f q r [] gives any all = absurd (let none : ⊥ = cc in none)
any_both {A} p f q r (x ∷ xs) gives any all = by (or_cases (p x) (list_any p xs) any) (λ later. any_both p f q r xs gives later parts.1)
  where
    parts : (q (f x) ≡ true) × (list_all q (map f xs) ≡ true)
    parts = and_parts (q (f x)) (list_all q (map f xs)) all

    by : (p x ≡ true) ⊎ (list_any p xs ≡ true) → (list_any p xs ≡ true → list_any r xs ≡ true) → list_any r (x ∷ xs) ≡ true
    by (inl here) again = or_left (r x) (list_any r xs) (gives x here parts.0)
    by (inr later) again = or_right (r x) (list_any r xs) (again later)

any_links : (p q r : Link → Bool) (links : List Link) → ((link : Link) → p link ≡ true → q link ≡ true → r link ≡ true) → list_any p links ≡ true → list_all q links ≡ true → list_any r links ≡ true
any_links p q r [] gives any all = absurd (let none : ⊥ = cc in none)
any_links p q r (link ∷ links) gives any all = by (or_cases (p link) (list_any p links) any) (λ later. any_links p q r links gives later parts.1)
  where
    parts : (q link ≡ true) × (list_all q links ≡ true)
    parts = and_parts (q link) (list_all q links) all

    by : (p link ≡ true) ⊎ (list_any p links ≡ true) → (list_any p links ≡ true → list_any r links ≡ true) → list_any r (link ∷ links) ≡ true
    by (inl here) again = or_left (r link) (list_any r links) (gives link here parts.0)
    by (inr later) again = or_right (r link) (list_any r links) (again later)

abbrev pub gave_before : Owner → ℕ → ℕ → List Draw → Handled → Bool
gave_before owner call event draws other = gives_to owner call draws other && nat_lt other.served.event event

all_before : (old : Traced) → Orderly old → (event : ℕ) → old.machine.event < event → (owner : Owner) (call : ℕ) (draws : List Draw) → any_served (gives_to owner call draws) old.machine.links ≡ true → any_served (gave_before owner call event draws) old.machine.links ≡ true
all_before old inv event later owner call draws is =
    any_links (λ link. list_any (gives_to owner call draws) link.served) (λ link. each_pair nat_lt (item_events link) && list_all (λ e. nat_le e old.machine.event) (item_events link)) (λ link. list_any (gave_before owner call event draws) link.served) old.machine.links
    (λ link any rises.
    any_both (gives_to owner call draws) (λ one. one.served.event) (λ e. nat_le e old.machine.event) (gave_before owner call event draws) link.served
    (λ one gives most.
    let below : one.served.event ≤ old.machine.event = le_from one.served.event old.machine.event most in
    and_from (gives_to owner call draws one) (nat_lt one.served.event event) gives (lt_to one.served.event event (omega (arith, below, later)))) any
    (and_parts (each_pair nat_lt (item_events link)) (list_all (λ e. nat_le e old.machine.event) (item_events link)) rises).1) is inv.basic.items

-- ALL CONNECTIONS ---------------------------------------------------------------------------------

-- of a marked call: each value that it carries was given to its call before
abbrev pub kept_given : List Link → Handled → Up → Bool
kept_given links one (up.Call true kept called) = option_map_or (λ owner. is_nothing kept || any_served (gave_before owner one.sent.call one.served.event kept) links) one.sent.owner false
kept_given links one _ = true

abbrev pub repeats_given : List Link → Handled → Bool
repeats_given links one = kept_given links one one.sent.frame

abbrev pub are_repeated : Traced → Bool
are_repeated t = list_all (λ link. list_all (repeats_given t.machine.links) link.served) t.machine.links

module _ (before after : Seen) (old new : Traced) (event : Event) (note : Note) (items left : List Served) (one : OneEvent before old event note items left after new) (inv : Orderly old) (inv_new : Orderly new) (given : are_given old ≡ true) (was : are_repeated old ≡ true) where
  longer : (number : ℕ) (link : Link) → link_at old.machine.links number ≡ Some link → IsLonger new.machine.links number link
  longer =
      let by : Followed old.setting old.machine event note items left new.machine = follow_happens old.setting old.machine event note items left new.machine one.follows in
      happens_longer old.setting (at_event old.machine) items left by.kind new.machine by.happens

  still : (handled : Handled) → repeats_given old.machine.links handled ≡ true → repeats_given new.machine.links handled ≡ true
  still handled = by handled.sent.frame
    where
      owners : (kept : List Draw) (owner : Option Owner) → option_map_or (λ o. is_nothing kept || any_served (gave_before o handled.sent.call handled.served.event kept) old.machine.links) owner false ≡ true
          → option_map_or (λ o. is_nothing kept || any_served (gave_before o handled.sent.call handled.served.event kept) new.machine.links) owner false ≡ true
      owners kept None is = is
      owners kept (Some owner) is = or_still (is_nothing kept) is
        where
          or_still : (nothing : Bool) → (nothing || any_served (gave_before owner handled.sent.call handled.served.event kept) old.machine.links) ≡ true → (nothing || any_served (gave_before owner handled.sent.call handled.served.event kept) new.machine.links) ≡ true
          or_still true is = refl
          or_still false is = still_served old.machine.links new.machine.links longer (gave_before owner handled.sent.call handled.served.event kept) is

      by : (frame : Up) → kept_given old.machine.links handled frame ≡ true → kept_given new.machine.links handled frame ≡ true
      by (up.Call true kept called) is = owners kept handled.sent.owner is
      by frame is = refl

  old_still : (number : ℕ) (link : Link) → link_at old.machine.links number ≡ Some link → list_all (repeats_given new.machine.links) link.served ≡ true
  old_still number link there =
      weaker_all (repeats_given old.machine.links) (repeats_given new.machine.links) link.served still (at_link (λ l. list_all (repeats_given old.machine.links) l.served) old.machine.links number link was there)

  -- the frame that was served
  front_now : (number : ℕ) (front : Front) (served : Served) → front_at old.machine.links number ≡ Some front → is_of_front (at_event old.machine) front served ≡ true → (it : Handled) → it.sent ≡ front.first → it.served ≡ served → repeats_given new.machine.links it ≡ true
  front_now number front served at of_front it sent_is served_is = by it.sent.frame refl
    where
      event_is : it.served.event ≡ old.machine.event + 1
      event_is = ap (λ (s : Served). s.event) served_is ∙ eq_from served.event (old.machine.event + 1) (and_parts (served.event == (at_event old.machine).event) (is_served_by (at_event old.machine).server front.link front.first.frame served.session) of_front).0

      or_before : {earlier later : Bool} (nothing : Bool) → (earlier ≡ true → later ≡ true) → (nothing || earlier) ≡ true → (nothing || later) ≡ true
      or_before true gives is = refl
      or_before false gives is = gives is

      by : (frame : Up) → it.sent.frame ≡ frame → kept_given new.machine.links it frame ≡ true
      by (up.Call true kept called) is =
          let found : WasGiven old.machine.links front.first kept = was_given old inv given number front at kept called (ap (λ (s : Sent). s.frame) (sym sent_is) ∙ is) in
          let call : front.first.call ≡ it.sent.call = ap (λ (s : Sent). s.call) (sym sent_is) in
          ap (λ (o : Option Owner). option_map_or (λ owner. is_nothing kept || any_served (gave_before owner it.sent.call it.served.event kept) new.machine.links) o false) (ap (λ (s : Sent). s.owner) sent_is ∙ found.is)
          ∙ or_before (is_nothing kept)
          (λ here.
          still_served old.machine.links new.machine.links longer (gave_before found.owner it.sent.call it.served.event kept)
          (all_before old inv it.served.event (omega (arith, event_is)) found.owner it.sent.call kept (subst (λ (k : ℕ). any_served (gives_to found.owner k kept) old.machine.links ≡ true) call here))) found.given
      by frame is = refl

  link_now : (number : ℕ) (link : Link) → link_at new.machine.links number ≡ Some link → list_all (repeats_given new.machine.links) link.served ≡ true
  link_now number link here = by (event_adds before after old new event note items left one inv)
    where
      unnamed_none : link.session ≡ None → link.served ≡ []
      unnamed_none none = by_length link.served (eq_from (length link.served) 0 zero)
        where
          by_length : (served : List Handled) → length served ≡ 0 → served ≡ []
          by_length [] is = refl
          by_length (h ∷ hs) is = absurd (let never : ⊥ = omega (arith, is) in never)

          named : is_named link ≡ true
          named = at_link is_named new.machine.links number link inv_new.basic.named here

          zero : (length link.served == 0) ≡ true
          zero =
              let two = and_parts (implies (is_none link.session) (length link.served == 0)) _ (and_parts (same_bool (is_some link.session) _) _ named).1 in
              sym (ap (λ (s : Option _). implies (is_none s) (length link.served == 0)) none) ∙ two.0

      of_front : (at : ℕ) (front : Front) (served : Served) → front_at old.machine.links at ≡ Some front → is_of_front (at_event old.machine) front served ≡ true → ComesOf old.machine.links at front served number link → list_all (repeats_given new.machine.links) link.served ≡ true
      of_front at front served is of (AtFront same more) =
          ap (list_all (repeats_given new.machine.links)) more.more
          ∙ append_all (repeats_given new.machine.links) front.link.served (record { sent = front.first; served = served; reply = more.reply } ∷ []) (old_still at front.link (front_is old.machine.links at front is).there)
          (one_all (repeats_given new.machine.links) (record { sent = front.first; served = served; reply = more.reply }) (front_now at front served is of (record { sent = front.first; served = served; reply = more.reply }) refl refl))
      of_front at front served is of (Elsewhere differ was_link there alike) = ap (list_all (repeats_given new.machine.links)) alike.served ∙ old_still number was_link there

      of_alone : Alone old.machine.links number link → list_all (repeats_given new.machine.links) link.served ≡ true
      of_alone (Unnamed none) = ap (list_all (repeats_given new.machine.links)) (unnamed_none none)
      of_alone (Alike was_link there alike) = ap (list_all (repeats_given new.machine.links)) alike.served ∙ old_still number was_link there

      by : Adds old note new.machine.links one.happened → list_all (repeats_given new.machine.links) link.served ≡ true
      by (AddsFrame at front served is of happened turned) = of_front at front served is of (turned.all number link here)
      by (AddsNone none alone) = of_alone (alone number link here)

  pub repeated_now : are_repeated new ≡ true
  repeated_now = by_number (λ link. list_all (repeats_given new.machine.links) link.served) new.machine.links link_now
