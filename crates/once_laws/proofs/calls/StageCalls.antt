-- What the grammar of a connection says of its calls: between two with no Begin between them no
-- other request is, and no marked one stands behind one without the mark.
use Rattle.std.proofs.Common.{◌≡◌, refl, sym, ap, ◌∙◌, arith, Bool, true, false, ℕ, suc, zero, ◌<◌, ◌&&◌, ◌||◌, List, [], ◌∷◌, Option, Some}
use Rattle.std.specs.Prelude.{not, is_none, is_some, slice_get}
use Rattle.std.proofs.lemmas.Bool.{and_parts}
use Rattle.svc_values.specs.declared.frame.Up.{Up}
use Rattle.svc_values.specs.declared.frame.Up.TheVariants as up
use Rattle.world_model.specs.meaning.Frames.{Owner, Sent}
use Rattle.world_model.specs.Parts.{is_unmarked_frame}
use Rattle.world_model.specs.Sames.{same_owners}
use Rattle.invariant_laws.specs.Shown.{is_call, is_marked}
use Rattle.world_model.specs.records.Wire.{is_alter, Stage, New, Greeted, Told, Repeated, Begun, Rested, Shut, Wrong, next_stage, is_right, stage_if}
use Rattle.invariant_laws.proofs.Offered.{owners_are, right_before, stages}
use Rattle.once_laws.proofs.values.RepeatedGiven.{if_right}
use Rattle.world_model.proofs.Offered.{owners_self}

abbrev pub begins : Up → Bool
begins (up.Begin settings) = true
begins _ = false

-- ONE REQUEST -------------------------------------------------------------------------------------

-- the request of this owner is in course, or none is any more
abbrev in_request : Option Owner → Stage → Bool
in_request owner (Repeated one) = same_owners owner one
in_request owner (Begun one) = same_owners owner one
in_request owner (Rested one) = true
in_request owner Shut = true
in_request owner Wrong = true
in_request owner _ = false

if_in : (owner : Option Owner) (test : Bool) (stage : Stage) → (test ≡ true → in_request owner stage ≡ true) → in_request owner (stage_if test stage) ≡ true
if_in owner true stage known = known refl
if_in owner false stage known = refl

passes_on : (owner one other : Option Owner) → same_owners owner one ≡ true → same_owners one other ≡ true → same_owners owner other ≡ true
passes_on owner one other first second = ap (same_owners owner) (sym (owners_are one other second)) ∙ first

stays_in : (owner : Option Owner) (stage : Stage) (other : Option Owner) (frame : Up) → in_request owner stage ≡ true → begins frame ≡ false → in_request owner (next_stage stage other frame) ≡ true
stays_in owner (Repeated one) other (up.Call true kept call) in_it plain =
    if_in owner (same_owners one other && not (is_alter call)) (Repeated other) (λ both. passes_on owner one other in_it (and_parts (same_owners one other) (not (is_alter call)) both).0)
stays_in owner (Repeated one) other (up.Call false kept call) in_it plain = if_in owner (same_owners one other) (Begun other) (passes_on owner one other in_it)
stays_in owner (Repeated one) other up.End in_it plain = if_in owner (same_owners one other) (Rested other) (λ same. refl)
stays_in owner (Repeated one) other up.Close in_it plain = if_in owner (same_owners one other) Shut (λ same. refl)
stays_in owner (Repeated one) other up.Connect in_it plain = refl
stays_in owner (Repeated one) other (up.Begin settings) in_it plain = absurd (let none : ⊥ = cc in none)
stays_in owner (Repeated one) other (up.Outcome x) in_it plain = refl
stays_in owner (Begun one) other (up.Call true kept call) in_it plain = refl
stays_in owner (Begun one) other (up.Call false kept call) in_it plain = if_in owner (same_owners one other) (Begun other) (passes_on owner one other in_it)
stays_in owner (Begun one) other up.End in_it plain = if_in owner (same_owners one other) (Rested other) (λ same. refl)
stays_in owner (Begun one) other up.Close in_it plain = if_in owner (same_owners one other) Shut (λ same. refl)
stays_in owner (Begun one) other up.Connect in_it plain = refl
stays_in owner (Begun one) other (up.Begin settings) in_it plain = absurd (let none : ⊥ = cc in none)
stays_in owner (Begun one) other (up.Outcome x) in_it plain = refl
stays_in owner (Rested one) other (up.Begin settings) in_it plain = absurd (let none : ⊥ = cc in none)
stays_in owner (Rested one) other up.Close in_it plain = if_in owner (is_none other || same_owners one other) Shut (λ same. refl)
stays_in owner (Rested one) other (up.Call true kept call) in_it plain = refl
stays_in owner (Rested one) other (up.Call false kept call) in_it plain = refl
stays_in owner (Rested one) other up.Connect in_it plain = refl
stays_in owner (Rested one) other up.End in_it plain = refl
stays_in owner (Rested one) other (up.Outcome x) in_it plain = refl
stays_in owner Shut other frame in_it plain = refl
stays_in owner Wrong other frame in_it plain = refl
stays_in owner stage other frame in_it plain = absurd (let none : ⊥ = cc in none)

calls_in : (owner : Option Owner) (stage : Stage) (other : Option Owner) (frame : Up) → in_request owner stage ≡ true → is_right (next_stage stage other frame) ≡ true → is_call frame ≡ true → owner ≡ other
calls_in owner (Repeated one) other (up.Call true kept call) in_it right called =
    owners_are owner one in_it ∙ owners_are one other (and_parts (same_owners one other) (not (is_alter call)) (if_right (same_owners one other && not (is_alter call)) (Repeated other) right)).0
calls_in owner (Repeated one) other (up.Call false kept call) in_it right called = owners_are owner one in_it ∙ owners_are one other (if_right (same_owners one other) (Begun other) right)
calls_in owner (Begun one) other (up.Call false kept call) in_it right called = owners_are owner one in_it ∙ owners_are one other (if_right (same_owners one other) (Begun other) right)
calls_in owner (Begun one) other (up.Call true kept call) in_it right called = absurd (let none : ⊥ = cc in none)
calls_in owner (Rested one) other (up.Call true kept call) in_it right called = absurd (let none : ⊥ = cc in none)
calls_in owner (Rested one) other (up.Call false kept call) in_it right called = absurd (let none : ⊥ = cc in none)
calls_in owner Shut other (up.Call true kept call) in_it right called = absurd (let none : ⊥ = cc in none)
calls_in owner Shut other (up.Call false kept call) in_it right called = absurd (let none : ⊥ = cc in none)
calls_in owner Wrong other (up.Call true kept call) in_it right called = absurd (let none : ⊥ = cc in none)
calls_in owner Wrong other (up.Call false kept call) in_it right called = absurd (let none : ⊥ = cc in none)
calls_in owner stage other frame in_it right called = absurd (let none : ⊥ = cc in none)

begins_in : (stage : Stage) (owner : Option Owner) (frame : Up) → is_right (next_stage stage owner frame) ≡ true → is_call frame ≡ true → in_request owner (next_stage stage owner frame) ≡ true
begins_in (Repeated one) owner (up.Call true kept call) right called = if_in owner (same_owners one owner && not (is_alter call)) (Repeated owner) (λ both. owners_self owner)
begins_in (Repeated one) owner (up.Call false kept call) right called = if_in owner (same_owners one owner) (Begun owner) (λ same. owners_self owner)
begins_in (Begun one) owner (up.Call false kept call) right called = if_in owner (same_owners one owner) (Begun owner) (λ same. owners_self owner)
begins_in (Begun one) owner (up.Call true kept call) right called = refl
begins_in New owner (up.Call true kept call) right called = refl
begins_in New owner (up.Call false kept call) right called = refl
begins_in (Greeted one) owner (up.Call true kept call) right called = refl
begins_in (Greeted one) owner (up.Call false kept call) right called = refl
begins_in (Told one) owner (up.Call true kept call) right called = refl
begins_in (Told one) owner (up.Call false kept call) right called = refl
begins_in (Rested one) owner (up.Call true kept call) right called = refl
begins_in (Rested one) owner (up.Call false kept call) right called = refl
begins_in Shut owner (up.Call true kept call) right called = refl
begins_in Shut owner (up.Call false kept call) right called = refl
begins_in Wrong owner (up.Call true kept call) right called = refl
begins_in Wrong owner (up.Call false kept call) right called = refl
begins_in stage owner frame right called = absurd (let none : ⊥ = cc in none)

owner_kept : (owner : Option Owner) (stage : Stage) (sents : List Sent) → in_request owner stage ≡ true → is_right (stages stage sents) ≡ true → (last : ℕ) (sent : Sent) → slice_get sents last ≡ Some sent → is_call sent.frame ≡ true
    → ((index : ℕ) (other : Sent) → index < last → slice_get sents index ≡ Some other → begins other.frame ≡ false) → owner ≡ sent.owner
owner_kept owner stage [] in_it right last sent at called none = absurd (let never : ⊥ = cc in never)
owner_kept owner stage (first ∷ sents) in_it right zero sent at called none =
    let same : first ≡ sent = cc in
    let here : is_call first.frame ≡ true = ap (λ (s : Sent). is_call s.frame) same ∙ called in
    calls_in owner stage first.owner first.frame in_it (right_before (next_stage stage first.owner first.frame) sents right) here ∙ ap (λ (s : Sent). s.owner) same
owner_kept owner stage (first ∷ sents) in_it right (suc last) sent at called none =
    owner_kept owner (next_stage stage first.owner first.frame) sents (stays_in owner stage first.owner first.frame in_it (none zero first (omega arith) refl)) right last sent at called (λ index other less there. none (suc index) other (omega (arith, less)) there)

-- two calls are of one request where none begins between them
pub one_owner : (stage : Stage) (sents : List Sent) → is_right (stages stage sents) ≡ true → (place last : ℕ) (one two : Sent) → place < last → slice_get sents place ≡ Some one → slice_get sents last ≡ Some two → is_call one.frame ≡ true → is_call two.frame ≡ true
    → ((index : ℕ) (other : Sent) → place < index → index < last → slice_get sents index ≡ Some other → begins other.frame ≡ false) → one.owner ≡ two.owner
one_owner stage [] right place last one two less at there first second none = absurd (let never : ⊥ = cc in never)
one_owner stage (head ∷ sents) right place zero one two less at there first second none = absurd (let never : ⊥ = omega (arith, less) in never)
one_owner stage (head ∷ sents) right zero (suc last) one two less at there first second none =
    let same : head ≡ one = cc in
    let here : is_call head.frame ≡ true = ap (λ (s : Sent). is_call s.frame) same ∙ first in
    ap (λ (s : Sent). s.owner) (sym same)
    ∙ owner_kept head.owner (next_stage stage head.owner head.frame) sents (begins_in stage head.owner head.frame (right_before (next_stage stage head.owner head.frame) sents right) here) right last two there second
    (λ index other below found. none (suc index) other (omega arith) (omega (arith, below)) found)
one_owner stage (head ∷ sents) right (suc place) (suc last) one two less at there first second none =
    one_owner (next_stage stage head.owner head.frame) sents right place last one two (omega (arith, less)) at there first second (λ index other above below found. none (suc index) other (omega (arith, above)) (omega (arith, below)) found)

-- MARKS -------------------------------------------------------------------------------------------

-- no marked call may come any more
abbrev is_late : Stage → Bool
is_late (Begun one) = true
is_late (Rested one) = true
is_late Shut = true
is_late Wrong = true
is_late _ = false

if_late : (test : Bool) (stage : Stage) → is_late stage ≡ true → is_late (stage_if test stage) ≡ true
if_late true stage late = late
if_late false stage late = refl

late_next : (stage : Stage) (owner : Option Owner) (frame : Up) → is_late stage ≡ true → is_late (next_stage stage owner frame) ≡ true
late_next (Begun one) owner (up.Call true kept call) late = refl
late_next (Begun one) owner (up.Call false kept call) late = if_late (same_owners one owner) (Begun owner) refl
late_next (Begun one) owner up.End late = if_late (same_owners one owner) (Rested owner) refl
late_next (Begun one) owner up.Close late = if_late (same_owners one owner) Shut refl
late_next (Begun one) owner up.Connect late = refl
late_next (Begun one) owner (up.Begin settings) late = refl
late_next (Begun one) owner (up.Outcome x) late = refl
late_next (Rested one) owner (up.Begin settings) late = if_late (is_some owner && not (same_owners one owner)) (Begun owner) refl
late_next (Rested one) owner up.Close late = if_late (is_none owner || same_owners one owner) Shut refl
late_next (Rested one) owner (up.Call true kept call) late = refl
late_next (Rested one) owner (up.Call false kept call) late = refl
late_next (Rested one) owner up.Connect late = refl
late_next (Rested one) owner up.End late = refl
late_next (Rested one) owner (up.Outcome x) late = refl
late_next Shut owner frame late = refl
late_next Wrong owner frame late = refl
late_next stage owner frame late = absurd (let none : ⊥ = cc in none)

unmarked_late : (stage : Stage) (owner : Option Owner) (frame : Up) → is_unmarked_frame frame ≡ true → is_late (next_stage stage owner frame) ≡ true
unmarked_late (Repeated one) owner (up.Call false kept call) is = if_late (same_owners one owner) (Begun owner) refl
unmarked_late (Begun one) owner (up.Call false kept call) is = if_late (same_owners one owner) (Begun owner) refl
unmarked_late New owner (up.Call false kept call) is = refl
unmarked_late (Greeted one) owner (up.Call false kept call) is = refl
unmarked_late (Told one) owner (up.Call false kept call) is = refl
unmarked_late (Rested one) owner (up.Call false kept call) is = refl
unmarked_late Shut owner (up.Call false kept call) is = refl
unmarked_late Wrong owner (up.Call false kept call) is = refl
unmarked_late stage owner frame is = absurd (let none : ⊥ = cc in none)

late_marked : (stage : Stage) (owner : Option Owner) (frame : Up) → is_late stage ≡ true → is_right (next_stage stage owner frame) ≡ true → is_marked frame ≡ true → ⊥
late_marked (Begun one) owner (up.Call true kept call) late right is = let none : ⊥ = cc in none
late_marked (Rested one) owner (up.Call true kept call) late right is = let none : ⊥ = cc in none
late_marked Shut owner (up.Call true kept call) late right is = let none : ⊥ = cc in none
late_marked Wrong owner (up.Call true kept call) late right is = let none : ⊥ = cc in none
late_marked stage owner frame late right is = let none : ⊥ = cc in none

none_late : (stage : Stage) (sents : List Sent) → is_late stage ≡ true → is_right (stages stage sents) ≡ true → (place : ℕ) (sent : Sent) → slice_get sents place ≡ Some sent → is_marked sent.frame ≡ true → ⊥
none_late stage [] late right place sent at is = let none : ⊥ = cc in none
none_late stage (first ∷ sents) late right zero sent at is =
    let same : first ≡ sent = cc in late_marked stage first.owner first.frame late (right_before (next_stage stage first.owner first.frame) sents right) (ap (λ (s : Sent). is_marked s.frame) same ∙ is)
none_late stage (first ∷ sents) late right (suc place) sent at is = none_late (next_stage stage first.owner first.frame) sents (late_next stage first.owner first.frame late) right place sent at is

-- each marked call stands before each one without the mark
pub marks_first : (stage : Stage) (sents : List Sent) → is_right (stages stage sents) ≡ true → (place other : ℕ) (one two : Sent) → slice_get sents place ≡ Some one → slice_get sents other ≡ Some two → is_unmarked_frame one.frame ≡ true → is_marked two.frame ≡ true → place < other → ⊥
marks_first stage [] right place other one two at there plain marked less = let none : ⊥ = cc in none
marks_first stage (first ∷ sents) right place zero one two at there plain marked less = let none : ⊥ = omega (arith, less) in none
marks_first stage (first ∷ sents) right zero (suc other) one two at there plain marked less =
    let same : first ≡ one = cc in
    none_late (next_stage stage first.owner first.frame) sents (unmarked_late stage first.owner first.frame (ap (λ (s : Sent). is_unmarked_frame s.frame) same ∙ plain)) right other two there marked
marks_first stage (first ∷ sents) right (suc place) (suc other) one two at there plain marked less =
    marks_first (next_stage stage first.owner first.frame) sents right place other one two at there plain marked (omega (arith, less))
