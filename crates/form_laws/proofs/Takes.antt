-- Which item an event takes: none, or one of its number that may stand at its note.
use Rattle.std.proofs.Common.{◌≡◌, ◌∙◌, ℕ, ◌&&◌, Bool, true, false, List, [], ◌∷◌, Option, Some, None, refl, sym, ap, subst, if◌then◌else◌, ◌⊎◌, inl, inr}
use Rattle.std.specs.Prelude.{◌==◌, option_and_then}
use Rattle.std.proofs.lemmas.Bool.{and_parts}
use Rattle.svc_values.specs.declared.frame.Up.{Up}
use Rattle.svc_values.specs.declared.frame.Up.TheVariants as up
use Rattle.outage_schedule.specs.declared.event.Event.{Event}
use Rattle.outage_schedule.specs.declared.event.Event.TheVariants as event
use Rattle.outage_schedule.specs.declared.item.Item.{Item}
use Rattle.outage_schedule.specs.declared.item.Item.TheVariants as item
use Rattle.outage_schedule.specs.declared.item.Served.{Served}
use Rattle.outage_schedule.specs.declared.note.FrameName.{FrameName}
use Rattle.outage_schedule.specs.declared.note.FrameName.TheVariants as name
use Rattle.outage_schedule.specs.declared.note.Note.{Note}
use Rattle.outage_schedule.specs.declared.note.Note.TheVariants as note
use Rattle.told_reports.specs.declared.place.ServedWord.{ServedWord}
use Rattle.told_reports.specs.meaning.Places.{is_of_frame, may_stand}
use Rattle.told_reports.specs.Keeping.{word_of_item}
use Rattle.world_model.specs.meaning.Crashing.{is_crashed_item, is_stopped, is_over, serves_last, crashes, falls, after_stopped}
use Rattle.world_model.specs.meaning.Machines.{Machine}
use Rattle.world_model.specs.meaning.Matching.{Noted, Went, ServedOn, CutOff, Reaped, Crashed, Opened, OpeningStopped, Ticked, RanOutside, Asked, Drained, matched}
use Rattle.world_model.specs.meaning.Noting.{name_of, same_name}
use Rattle.world_model.specs.meaning.Outside.{ticked}
use Rattle.world_model.specs.meaning.Serving.{Front, front_at, is_of_front, is_served_by, is_item_of, is_ordinary, serves, after_served}
use Rattle.world_model.specs.meaning.Settings.{Setting}
use Rattle.world_model.specs.meaning.Walking.{After, leaving, by_kind, follow}
use Rattle.world_model.proofs.Offered.{eq_from, only_is, left_or, at_event, mapped, reaches, reaches_if}

-- the item is that of the frame, or the frame was stopped
abbrev pub IsOf : Up → Item → Type 0
IsOf frame one = (is_item_of frame one ≡ true) ⊎ (is_crashed_item frame one ≡ true)

-- No item is taken, or the first one: it is of this event and of the first frame of a connection,
-- and its word passes.
pub data Took (m : Machine) (test : ServedWord → Bool) (items left : List Served) : Type 0 where
  NoItem : items ≡ left → Took m test items left
  OneItem : (number : ℕ) (front : Front) (served : Served) → front_at m.links number ≡ Some front → IsOf front.first.frame served.item → served.event ≡ m.event
      → test (word_of_item served.item) ≡ true → items ≡ served ∷ left → Took m test items left

weaker : (m : Machine) (test other : ServedWord → Bool) (items left : List Served) → ((w : ServedWord) → test w ≡ true → other w ≡ true) → Took m test items left → Took m other items left
weaker m test other items left more (NoItem same) = NoItem same
weaker m test other items left more (OneItem number front served there is of passes same) = OneItem number front served there is of (more (word_of_item served.item) passes) same

-- ---- by kind

-- at which words an item stands
abbrev kind_stands : Noted → ServedWord → Bool
kind_stands (ServedOn number (Some name)) w = is_of_frame name w
kind_stands (Crashed number after failover false) w = true
kind_stands _ w = false

name_is : (a b : FrameName) → same_name a b ≡ true → a ≡ b
name_is name.Connect name.Connect is = refl
name_is name.Begin name.Begin is = refl
name_is name.Call name.Call is = refl
name_is name.Outcome name.Outcome is = refl
name_is name.End name.End is = refl
name_is name.Close name.Close is = refl
name_is a b is = absurd (let none : ⊥ = cc in none)

item_stands : (frame : Up) (one : Item) → is_item_of frame one ≡ true → is_of_frame (name_of frame) (word_of_item one) ≡ true
item_stands up.Connect item.Connect is = refl
item_stands (up.Begin settings) (item.Begin begun) is = refl
item_stands (up.Call replay kept call) (item.Call marked served answers draws) is = refl
item_stands (up.Call replay kept call) (item.Blocked served) is = refl
item_stands (up.Outcome ltxid) (item.Outcome asked result) is = refl
item_stands up.End item.End is = refl
item_stands up.Close item.Close is = refl
item_stands frame one is = absurd (let none : ⊥ = cc in none)

of_event : (m : Machine) (front : Front) (served : Served) → is_of_front m front served ≡ true → served.event ≡ m.event
of_event m front served is = eq_from served.event m.event (and_parts (served.event == m.event) (is_served_by m.server front.link front.first.frame served.session) is).0

ordinary_parts : (m : Machine) (front : Front) (served : Served) → is_ordinary m front served ≡ true → (is_of_front m front served ≡ true) × (is_item_of front.first.frame served.item ≡ true)
ordinary_parts m front served is = and_parts (is_of_front m front served) (is_item_of front.first.frame served.item) is

-- the items that are left behind a state that is reached where a test is met
met_left : (test : Bool) (a n : Machine) (items left : List Served) → reaches_if test a items ≡ Some (n, left) → items ≡ left
met_left true a n items left e = ap (left_or items) e
met_left false a n items left e = absurd (let none : ⊥ = cc in none)

met_so : (test : Bool) (a n : Machine) (items left : List Served) → reaches_if test a items ≡ Some (n, left) → test ≡ true
met_so true a n items left e = refl
met_so false a n items left e = absurd (let none : ⊥ = cc in none)

serves_takes : (m : Machine) (number : ℕ) (frame : Option FrameName) (items left : List Served) (front : Option Front) → front_at m.links number ≡ front → (n : Machine)
    → serves m number frame items front ≡ Some (n, left) → Took m (kind_stands (ServedOn number frame)) items left
serves_takes m number None items left None there n e = NoItem (ap (left_or items) e)
serves_takes m number None items left (Some front) there n e = absurd (let none : ⊥ = cc in none)
serves_takes m number (Some name) [] left None there n e = absurd (let none : ⊥ = cc in none)
serves_takes m number (Some name) [] left (Some front) there n e = absurd (let none : ⊥ = cc in none)
serves_takes m number (Some name) (served ∷ items) left None there n e = absurd (let none : ⊥ = cc in none)
serves_takes m number (Some name) (served ∷ items) left (Some front) there n e =
    let test : Bool = same_name name (name_of front.first.frame) && is_ordinary m front served in
    let met = and_parts (same_name name (name_of front.first.frame)) (is_ordinary m front served) (met_so test (after_served m number front served) n items left e) in
    let parts = ordinary_parts m front served met.1 in
    OneItem number front served there (inl parts.1) (of_event m front served parts.0)
    (subst (λ (f : FrameName). is_of_frame f (word_of_item served.item) ≡ true) (sym (name_is name (name_of front.first.frame) met.0)) (item_stands front.first.frame served.item parts.1))
    (ap (λ (later : List Served). served ∷ later) (met_left test (after_served m number front served) n items left e))

-- a crash may take one of any word
last_takes : (m : Machine) (number after : ℕ) (items left : List Served) (front : Option Front) → front_at m.links number ≡ front → (n : Machine) → serves_last m number after items front ≡ Some (n, left)
    → Took m (λ w. true) items left
last_takes m number after items left None there n e = NoItem (ap (left_or items) e)
last_takes m number after [] left (Some front) there n e = absurd (let none : ⊥ = cc in none)
last_takes m number after (served ∷ items) left (Some front) there n e = by (is_stopped m after front served) refl e
  where
    by : (stopped : Bool) → is_stopped m after front served ≡ stopped
        → (if stopped then reaches (after_stopped m number front served) items else reaches_if (is_over m after front served) (after_served m number front served) items) ≡ Some (n, left)
        → Took m (λ w. true) (served ∷ items) left
    by true is e =
        let stopped = and_parts (is_of_front m front served) _ is in
        OneItem number front served there (inr (and_parts (is_crashed_item front.first.frame served.item) _ stopped.1).0) (of_event m front served stopped.0) refl (ap (λ (later : List Served). served ∷ later) (ap (left_or items) e))
    by false is e =
        let over = and_parts (is_ordinary m front served) _ (met_so (is_over m after front served) (after_served m number front served) n items left e) in
        let parts = ordinary_parts m front served over.0 in
        OneItem number front served there (inl parts.1) (of_event m front served parts.0) refl
        (ap (λ (later : List Served). served ∷ later) (met_left (is_over m after front served) (after_served m number front served) n items left e))

crashes_take : (m : Machine) (failover : Bool) (items left : List Served) (n : Machine) (so : After) → ((a : Machine) (rest : List Served) → so ≡ Some (a, rest) → Took m (λ w. true) items rest)
    → mapped (falls failover) so ≡ Some (n, left) → Took m (λ w. true) items left
crashes_take m failover items left n None last e = absurd (let none : ⊥ = cc in none)
crashes_take m failover items left n (Some (a, rest)) last e = subst (Took m (λ w. true) items) (ap (left_or rest) e) (last a rest refl)

crash_takes : (m : Machine) (number after : ℕ) (failover is_up down : Bool) (items left : List Served) (n : Machine)
    → (if is_up then (if down then None else crashes m number after failover items) else reaches_if down m items) ≡ Some (n, left) → Took m (kind_stands (Crashed number after failover down)) items left
crash_takes m number after failover true true items left n e = absurd (let none : ⊥ = cc in none)
crash_takes m number after failover true false items left n e =
    crashes_take m failover items left n (serves_last m number after items (front_at m.links number)) (λ a rest is. last_takes m number after items rest (front_at m.links number) refl a is) e
crash_takes m number after failover false down items left n e = NoItem (met_left down m n items left e)

leaving_takes : (m : Machine) (test : ServedWord → Bool) (items left : List Served) (next : Option Machine) (n : Machine) → leaving items next ≡ Some (n, left) → Took m test items left
leaving_takes m test items left None n e = absurd (let none : ⊥ = cc in none)
leaving_takes m test items left (Some a) n e = NoItem (ap (left_or items) e)

kind_takes : (setting : Setting) (m : Machine) (items left : List Served) (happened : Noted) (n : Machine) → by_kind setting m items happened ≡ Some (n, left) → Took m (kind_stands happened) items left
kind_takes setting m items left (ServedOn number frame) n e = serves_takes m number frame items left (front_at m.links number) refl n e
kind_takes setting m items left (Crashed number after failover down) n e = crash_takes m number after failover m.server.is_up down items left n e
kind_takes setting m items left (Went number did) n e = leaving_takes m _ items left _ n e
kind_takes setting m items left (CutOff number up down reached) n e = leaving_takes m _ items left _ n e
kind_takes setting m items left (Reaped number reaped) n e = leaving_takes m _ items left _ n e
kind_takes setting m items left (Opened incarnation) n e = leaving_takes m _ items left _ n e
kind_takes setting m items left (OpeningStopped made) n e = leaving_takes m _ items left _ n e
kind_takes setting m items left Ticked n e = leaving_takes m _ items left (Some (ticked m)) n e
kind_takes setting m items left (RanOutside ran) n e = leaving_takes m _ items left _ n e
kind_takes setting m items left (Asked ltxid told) n e = leaving_takes m _ items left _ n e
kind_takes setting m items left (Drained closed) n e = leaving_takes m _ items left _ n e

-- ---- by the note

served_note : (connection named : ℕ) (frame : Option FrameName) (happened : Noted) (w : ServedWord) → ServedOn connection frame ≡ happened → kind_stands happened w ≡ true → may_stand (note.Serve named frame) w ≡ true
served_note connection named None happened w same stands = let is : false ≡ true = ap (λ (one : Noted). kind_stands one w) same ∙ stands in absurd (let none : ⊥ = cc in none)
served_note connection named (Some name) happened w same stands = ap (λ (one : Noted). kind_stands one w) same ∙ stands

crashed_note : (connection after named : ℕ) (failover down : Bool) (happened : Noted) (w : ServedWord) → Crashed connection after failover down ≡ happened → kind_stands happened w ≡ true
    → may_stand (note.Crash named down) w ≡ true
crashed_note connection after named failover true happened w same stands = let is : false ≡ true = ap (λ (one : Noted). kind_stands one w) same ∙ stands in absurd (let none : ⊥ = cc in none)
crashed_note connection after named failover false happened w same stands = refl

-- no other note is of an event that takes an item
quiet_note : (note : Note) (one happened : Noted) (w : ServedWord) → ((v : ServedWord) → kind_stands one v ≡ false) → one ≡ happened → kind_stands happened w ≡ true → may_stand note w ≡ true
quiet_note note one happened w quiet same stands =
    let is : false ≡ true = sym (quiet w) ∙ (ap (λ (o : Noted). kind_stands o w) same ∙ stands) in absurd (let none : ⊥ = cc in none)

note_stands : (event : Event) (noted : Note) (happened : Noted) (w : ServedWord) → matched event noted ≡ Some happened → kind_stands happened w ≡ true → may_stand noted w ≡ true
note_stands (event.Serve connection) (note.Serve named frame) happened w e stands =
    served_note connection named frame happened w (only_is (named == connection) (ServedOn connection frame) happened e) stands
note_stands (event.Crash connection after pick) (note.Crash named down) happened w e stands = crashed_note connection after named _ down happened w (only_is (named == connection) _ happened e) stands
note_stands (event.Go client) (note.Go named did) happened w e stands = quiet_note (note.Go named did) _ happened w (λ v. refl) (only_is (named == client) _ happened e) stands
note_stands (event.Cut connection up down) (note.Cut named reached) happened w e stands = quiet_note (note.Cut named reached) _ happened w (λ v. refl) (only_is (named == connection) _ happened e) stands
note_stands (event.Reap connection) (note.Reap named reaped) happened w e stands = quiet_note (note.Reap named reaped) _ happened w (λ v. refl) (only_is (named == connection) _ happened e) stands
note_stands (event.Ask ltxid) (note.Ask named told) happened w e stands = quiet_note (note.Ask named told) _ happened w (λ v. refl) (only_is _ _ happened e) stands
note_stands event.Up (note.Up incarnation) happened w e stands = quiet_note (note.Up incarnation) (Opened incarnation) happened w (λ v. refl) (cc) stands
note_stands (event.UpCrash after pick) (note.UpCrash made) happened w e stands = quiet_note (note.UpCrash made) (OpeningStopped made) happened w (λ v. refl) (cc) stands
note_stands event.Tick note.Tick happened w e stands = quiet_note note.Tick Ticked happened w (λ v. refl) (cc) stands
note_stands (event.Outside calls) (note.Outside ran) happened w e stands = quiet_note (note.Outside ran) (RanOutside ran) happened w (λ v. refl) (cc) stands
note_stands event.Drain (note.Drain closed) happened w e stands = quiet_note (note.Drain closed) (Drained closed) happened w (λ v. refl) (cc) stands
note_stands event noted happened w e stands = absurd (let none : ⊥ = cc in none)

-- what an event takes that the machine follows
pub follow_takes : (setting : Setting) (m : Machine) (event : Event) (noted : Note) (items left : List Served) (n : Machine) → follow setting m event noted items ≡ Some (n, left)
    → Took (at_event m) (may_stand noted) items left
follow_takes setting m event noted items left n e = by (matched event noted) refl e
  where
    by : (kind : Option Noted) → matched event noted ≡ kind → option_and_then (by_kind setting (at_event m) items) kind ≡ Some (n, left) → Took (at_event m) (may_stand noted) items left
    by None is e = absurd (let none : ⊥ = cc in none)
    by (Some kind) is e = weaker (at_event m) (kind_stands kind) (may_stand noted) items left (λ w stands. note_stands event noted kind w is stands) (kind_takes setting (at_event m) items left kind n e)
