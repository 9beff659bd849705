-- Where a session may serve a call with the mark, it served a Connect, a question for an outcome, a
-- Begin and calls with the mark before: as many calls since that Begin as were sent since then,
-- each with its mark.
use Rattle.std.proofs.Common.{◌≡◌, refl, sym, ap, subst, ◌∙◌, Bool, true, false, ℕ, suc, ◌+◌, ◌&&◌, ◌||◌, length, filter, List, [], ◌∷◌, ◌++◌, map, fold, Option, Some, None, arith}
use Rattle.std.specs.Prelude.{◌==◌, not, is_none, is_some}
use Rattle.std.proofs.lemmas.Bool.{and_parts}
use Rattle.std.proofs.lemmas.Bool.Decides.{nat_tests}
use Rattle.svc_values.specs.declared.call.Call.{Call}
use Rattle.svc_values.specs.declared.draw.Draw.{Draw}
use Rattle.svc_values.specs.declared.frame.Up.{Up}
use Rattle.svc_values.specs.declared.frame.Up.TheVariants as up
use Rattle.svc_values.specs.declared.value.Value.{Value}
use Rattle.outage_schedule.specs.declared.item.Item.{Item}
use Rattle.outage_schedule.specs.declared.item.Item.TheVariants as item
use Rattle.shown_clauses.specs.meaning.Links.{Marked}
use Rattle.shown_clauses.specs.meaning.Turns.{is_marked}
use Rattle.world_model.specs.meaning.Crashing.{is_crashed_item}
use Rattle.world_model.specs.meaning.Frames.{Owner, Sent, Handled}
use Rattle.world_model.specs.Sames.{is_front, same_owner, same_owners, same_sent, same_up}
use Rattle.world_model.specs.meaning.Serving.{is_blocked, is_item_of, reply_of}
use Rattle.invariant_laws.specs.Shown.{is_marked as is_marked_frame}
use Rattle.world_model.specs.records.Wire.{Stage, New, Greeted, Told, Repeated, Begun, Rested, Shut, Wrong, counted_with, handled_from, is_alter, is_handled, is_right, next_stage, same_replies, stage_if}
use Rattle.shown_laws.specs.ServedSent.{none_blocked}
use Rattle.shown_laws.specs.TurnOwners.{begun_by}
use Rattle.shown_laws.specs.TurnsServed.{calls_after}

-- THE ITEM OF A FRAME -----------------------------------------------------------------------------

-- a Begin is served as one, and a call with the mark as such a one
abbrev suits : Up → Item → Bool
suits (up.Begin settings) (item.Begin begun) = true
suits (up.Begin settings) _ = false
suits (up.Call true kept call) (item.Call marked served answers draws) = marked
suits (up.Call true kept call) (item.CrashedCall marked served) = marked
suits (up.Call true kept call) _ = false
suits _ _ = true

abbrev Is : Up → Item → Bool → Bool → Type 0
Is frame one replied none = ((is_item_of frame one && replied) || (is_crashed_item frame one && none)) ≡ true

begin_suits : (frame : Up) (settings : List (List ℕ × Value)) (one : Item) (replied none : Bool) → same_up frame (up.Begin settings) ≡ true → Is frame one replied none → suits (up.Begin settings) one ≡ true
begin_suits (up.Begin first) settings (item.Begin begun) replied none same is = refl
begin_suits frame settings one replied none same is = absurd (let no : ⊥ = cc in no)

mark_suits : (frame : Up) (kept : List Draw) (call : Call) (one : Item) (replied none : Bool) → same_up frame (up.Call true kept call) ≡ true → Is frame one replied none → not (is_blocked one && is_marked_frame frame) ≡ true
    → suits (up.Call true kept call) one ≡ true
mark_suits (up.Call true first own) kept call (item.Call true served answers draws) replied none same is free = refl
mark_suits (up.Call true first own) kept call (item.CrashedCall true served) replied none same is free = refl
mark_suits frame kept call one replied none same is free = absurd (let no : ⊥ = cc in no)

-- of a frame that is the same as the one that was served
suited : (frame other : Up) (one : Item) (replied none : Bool) → same_up frame other ≡ true → Is frame one replied none → not (is_blocked one && is_marked_frame frame) ≡ true → suits other one ≡ true
suited frame up.Connect one replied none same is free = refl
suited frame (up.Begin settings) one replied none same is free = begin_suits frame settings one replied none same is
suited frame (up.Call true kept call) one replied none same is free = mark_suits frame kept call one replied none same is free
suited frame (up.Call false kept call) one replied none same is free = refl
suited frame (up.Outcome x) one replied none same is free = refl
suited frame up.End one replied none same is free = refl
suited frame up.Close one replied none same is free = refl

-- THE STAGES --------------------------------------------------------------------------------------

-- so many frames were served, and since the Begin as many calls less three, all with the mark
pub record HasMarks (count : ℕ) (calls : Option (List Marked)) : Type 0 where
  pub all : List Marked
  pub are : calls ≡ Some all
  pub many : count ≡ length (filter is_marked all) + 3

-- and who sent the Begin repeats its calls
abbrev pub Stands : Stage → ℕ → Option (Option Owner) → Option (List Marked) → Type 0
Stands New count begun calls = count ≡ 0
Stands (Greeted one) count begun calls = (is_some one ≡ true) × (count ≡ 1)
Stands (Told one) count begun calls = (is_some one ≡ true) × (count ≡ 2)
Stands (Repeated one) count begun calls = (is_some one ≡ true) × ((begun ≡ Some one) × HasMarks count calls)
Stands _ count begun calls = Unit {0}

if_stands : (test : Bool) (stage : Stage) (count : ℕ) (begun : Option (Option Owner)) (calls : Option (List Marked)) → (test ≡ true → Stands stage count begun calls) → Stands (stage_if test stage) count begun calls
if_stands true stage count begun calls is = is refl
if_stands false stage count begun calls is = tt

some_same : (one other : Option Owner) → is_some one ≡ true → same_owners one other ≡ true → is_some other ≡ true
some_same (Some one) (Some other) is same = refl
some_same one other is same = absurd (let no : ⊥ = cc in no)

eq_from : (a b : ℕ) → (a == b) ≡ true → a ≡ b
eq_from a b is = grind (arith, nat_tests)

pub owner_is : (a b : Owner) → same_owner a b ≡ true → a ≡ b
owner_is a b same =
    let both = and_parts (a.client == b.client) (a.place == b.place) same in
    λ i. record { client = eq_from a.client b.client both.0 i; place = eq_from a.place b.place both.1 i }

owners_are : (a b : Option Owner) → same_owners a b ≡ true → a ≡ b
owners_are None None same = refl
owners_are (Some a) (Some b) same = ap Some (owner_is a b same)
owners_are a b same = absurd (let no : ⊥ = cc in no)

first_marks : (one : Item) (settings : List (List ℕ × Value)) (count : ℕ) (calls : Option (List Marked)) → suits (up.Begin settings) one ≡ true → count ≡ 2 → HasMarks (count + 1) (calls_after calls one)
first_marks (item.Begin begun) settings count calls suit is = record { all = []; are = refl; many = let no : 2 + 1 ≡ 0 + 3 = refl in ap (λ (n : ℕ). n + 1) is ∙ no }
first_marks one settings count calls suit is = absurd (let no : ⊥ = cc in no)

mark_more : (marked : Bool) (call : Call) (count : ℕ) (calls : Option (List Marked)) → marked ≡ true → HasMarks count calls → (more : Option (List Marked)) → ((all : List Marked) → calls ≡ Some all → more ≡ Some (record { replay = marked; call = call } ∷ all)) → HasMarks (count + 1) more
mark_more true call count calls mark has more adds =
    let many = has.many in
    record { all = record { replay = true; call = call } ∷ has.all; are = adds has.all has.are; many = let sum : count + 1 ≡ suc (length (filter is_marked has.all)) + 3 = omega (arith, many) in sum }
mark_more false call count calls mark has more adds = absurd (let no : ⊥ = cc in no)

more_marks : (one : Item) (kept : List Draw) (call : Call) (count : ℕ) (calls : Option (List Marked)) → suits (up.Call true kept call) one ≡ true → HasMarks count calls → HasMarks (count + 1) (calls_after calls one)
more_marks (item.Call marked served answers draws) kept call count calls suit has =
    mark_more marked served count calls suit has (calls_after calls (item.Call marked served answers draws)) (λ all are. ap (λ (c : Option (List Marked)). calls_after c (item.Call marked served answers draws)) are)
more_marks (item.CrashedCall marked served) kept call count calls suit has =
    mark_more marked served count calls suit has (calls_after calls (item.CrashedCall marked served)) (λ all are. ap (λ (c : Option (List Marked)). calls_after c (item.CrashedCall marked served)) are)
more_marks one kept call count calls suit has = absurd (let no : ⊥ = cc in no)

moved : (stage : Stage) (owner : Option Owner) (frame : Up) (one : Item) (count : ℕ) (begun : Option (Option Owner)) (calls : Option (List Marked)) → suits frame one ≡ true → Stands stage count begun calls
    → Stands (next_stage stage owner frame) (count + 1) (begun_by begun owner frame) (calls_after calls one)
moved New owner up.Connect one count begun calls suit is = if_stands (is_some owner) (Greeted owner) (count + 1) begun (calls_after calls one) (λ met. (met, ap (λ (n : ℕ). n + 1) is))
moved (Greeted other) owner (up.Outcome x) one count begun calls suit is =
    if_stands (same_owners other owner) (Told owner) (count + 1) begun (calls_after calls one) (λ met. (some_same other owner is.0 met, ap (λ (n : ℕ). n + 1) is.1))
moved (Greeted other) owner (up.Begin settings) one count begun calls suit is = if_stands (same_owners other owner) (Begun owner) (count + 1) (Some owner) (calls_after calls one) (λ met. tt)
moved (Told other) owner (up.Begin settings) one count begun calls suit is =
    if_stands (same_owners other owner) (Repeated owner) (count + 1) (Some owner) (calls_after calls one) (λ met. (some_same other owner is.0 met, (refl, first_marks one settings count calls suit is.1)))
moved (Repeated other) owner (up.Call true kept call) one count begun calls suit is =
    if_stands (same_owners other owner && not (is_alter call)) (Repeated owner) (count + 1) begun (calls_after calls one)
    (λ met. let same = (and_parts (same_owners other owner) (not (is_alter call)) met).0 in (some_same other owner is.0 same, (is.1.0 ∙ ap Some (owners_are other owner same), more_marks one kept call count calls suit is.1.1)))
moved (Repeated other) owner (up.Call false kept call) one count begun calls suit is = if_stands (same_owners other owner) (Begun owner) (count + 1) begun (calls_after calls one) (λ met. tt)
moved (Begun other) owner (up.Call false kept call) one count begun calls suit is = if_stands (same_owners other owner) (Begun owner) (count + 1) begun (calls_after calls one) (λ met. tt)
moved (Begun other) owner up.End one count begun calls suit is = if_stands (same_owners other owner) (Rested owner) (count + 1) begun (calls_after calls one) (λ met. tt)
moved (Told other) owner up.End one count begun calls suit is = if_stands (same_owners other owner) (Rested owner) (count + 1) begun (calls_after calls one) (λ met. tt)
moved (Repeated other) owner up.End one count begun calls suit is = if_stands (same_owners other owner) (Rested owner) (count + 1) begun (calls_after calls one) (λ met. tt)
moved (Rested other) owner (up.Begin settings) one count begun calls suit is = if_stands (is_some owner && not (same_owners other owner)) (Begun owner) (count + 1) (Some owner) (calls_after calls one) (λ met. tt)
moved (Rested other) owner up.Close one count begun calls suit is = if_stands (is_none owner || same_owners other owner) Shut (count + 1) begun (calls_after calls one) (λ met. tt)
moved (Greeted other) owner up.Close one count begun calls suit is = if_stands (same_owners other owner) Shut (count + 1) begun (calls_after calls one) (λ met. tt)
moved (Told other) owner up.Close one count begun calls suit is = if_stands (same_owners other owner) Shut (count + 1) begun (calls_after calls one) (λ met. tt)
moved (Repeated other) owner up.Close one count begun calls suit is = if_stands (same_owners other owner) Shut (count + 1) begun (calls_after calls one) (λ met. tt)
moved (Begun other) owner up.Close one count begun calls suit is = if_stands (same_owners other owner) Shut (count + 1) begun (calls_after calls one) (λ met. tt)
moved stage owner frame one count begun calls suit is = tt

-- A CALL WITH THE MARK ----------------------------------------------------------------------------

abbrev pub walk : Stage → List Sent → Stage
walk stage sents = fold (λ stage sent. next_stage stage sent.owner sent.frame) stage sents

wrong_stays : (sents : List Sent) → is_right (walk Wrong sents) ≡ true → ⊥
wrong_stays [] is = let no : ⊥ = cc in no
wrong_stays (sent ∷ sents) is = wrong_stays sents is

-- it is of a request that repeats its calls
at_mark : (stage : Stage) (owner : Option Owner) (frame : Up) (rest : List Sent) (count : ℕ) (begun : Option (Option Owner)) (calls : Option (List Marked)) → is_marked_frame frame ≡ true → is_right (walk (next_stage stage owner frame) rest) ≡ true → Stands stage count begun calls
    → (is_some owner ≡ true) × ((begun ≡ Some owner) × HasMarks count calls)
at_mark (Repeated other) owner (up.Call true kept call) rest count begun calls marked right is = by (same_owners other owner && not (is_alter call)) refl right
  where
    by : (test : Bool) → (same_owners other owner && not (is_alter call)) ≡ test → is_right (walk (stage_if test (Repeated owner)) rest) ≡ true → (is_some owner ≡ true) × ((begun ≡ Some owner) × HasMarks count calls)
    by true met right = let same = (and_parts (same_owners other owner) (not (is_alter call)) met).0 in (some_same other owner is.0 same, (is.1.0 ∙ ap Some (owners_are other owner same), is.1.1))
    by false met right = absurd (wrong_stays rest right)
at_mark New owner (up.Call true kept call) rest count begun calls marked right is = absurd (wrong_stays rest right)
at_mark (Greeted other) owner (up.Call true kept call) rest count begun calls marked right is = absurd (wrong_stays rest right)
at_mark (Told other) owner (up.Call true kept call) rest count begun calls marked right is = absurd (wrong_stays rest right)
at_mark (Begun other) owner (up.Call true kept call) rest count begun calls marked right is = absurd (wrong_stays rest right)
at_mark (Rested other) owner (up.Call true kept call) rest count begun calls marked right is = absurd (wrong_stays rest right)
at_mark Shut owner (up.Call true kept call) rest count begun calls marked right is = absurd (wrong_stays rest right)
at_mark Wrong owner (up.Call true kept call) rest count begun calls marked right is = absurd (wrong_stays rest right)
at_mark stage owner frame rest count begun calls marked right is = absurd (let no : ⊥ = cc in no)

marked_same : (a b : Up) → same_up a b ≡ true → is_marked_frame a ≡ true → is_marked_frame b ≡ true
marked_same (up.Call true kept call) (up.Call true others other) same is = refl
marked_same a b same is = absurd (let no : ⊥ = cc in no)

-- THE FRONT ---------------------------------------------------------------------------------------

-- The frame that may be served stands among those that were sent, behind as many as were served,
-- and is of who sent the last Begin of these.
pub record StandsBehind (first : Sent) (sents : List Sent) (count : ℕ) (begun : Option (Option Owner)) (calls : Option (List Marked)) : Type 0 where
  pub front : List Sent
  pub sent : Sent
  pub rest : List Sent
  pub among : sents ≡ front ++ sent ∷ rest
  pub same : same_up first.frame sent.frame ≡ true
  pub owned : is_some sent.owner ≡ true
  pub begins : begun ≡ Some sent.owner
  pub marks : HasMarks (count + length front) calls

frames_same : (a b : Sent) → same_sent a b ≡ true → same_up a.frame b.frame ≡ true
frames_same a b same = (and_parts (a.call == b.call) (same_up a.frame b.frame) (and_parts (same_owners a.owner b.owner) ((a.call == b.call) && same_up a.frame b.frame) same).1).1

-- two frames that are the same, as they begin
begins_same : (begun : Option (Option Owner)) (a b : Option Owner) (one other : Up) → same_owners a b ≡ true → same_up one other ≡ true → begun_by begun a one ≡ begun_by begun b other
begins_same begun a b (up.Begin first) (up.Begin second) same alike = ap Some (owners_are a b same)
begins_same begun a b up.Connect up.Connect same alike = refl
begins_same begun a b (up.Call marked kept call) (up.Call others draws other) same alike = refl
begins_same begun a b (up.Outcome x) (up.Outcome y) same alike = refl
begins_same begun a b up.End up.End same alike = refl
begins_same begun a b up.Close up.Close same alike = refl
begins_same begun a b one other same alike = absurd (let no : ⊥ = cc in no)

pub stands_behind : (served : List Handled) (first : Sent) (later sents : List Sent) (commits : ℕ) (stage : Stage) (count : ℕ) (begun : Option (Option Owner)) (calls : Option (List Marked)) → is_marked_frame first.frame ≡ true → handled_from commits served ≡ true
    → none_blocked served ≡ true → is_front same_sent (map (λ one. one.sent) served ++ first ∷ later) sents ≡ true → is_right (walk stage sents) ≡ true → Stands stage count begun calls
    → StandsBehind first sents count (fold (λ found sent. begun_by found sent.owner sent.frame) begun (map (λ one. one.sent) served)) (fold (λ c one. calls_after c one.served.item) calls served)
stands_behind [] first later [] commits stage count begun calls marked handled free front right is = absurd (let no : ⊥ = cc in no)
stands_behind [] first later (sent ∷ rest) commits stage count begun calls marked handled free front right is =
    let same : same_up first.frame sent.frame ≡ true = frames_same first sent (and_parts (same_sent first sent) (is_front same_sent later rest) front).0 in
    let here = at_mark stage sent.owner sent.frame rest count begun calls (marked_same first.frame sent.frame same marked) right is in
    let none : count ≡ count + 0 = omega arith in
    record { front = []; sent = sent; rest = rest; among = refl; same = same; owned = here.0; begins = here.1.0; marks = subst (λ (n : ℕ). HasMarks n calls) none here.1.1 }
stands_behind (one ∷ served) first later [] commits stage count begun calls marked handled free front right is = absurd (let no : ⊥ = cc in no)
stands_behind (one ∷ served) first later (sent ∷ sents) commits stage count begun calls marked handled free front right is =
    let now : ℕ = counted_with commits one.served.item in
    let parts = and_parts (same_sent one.sent sent) (is_front same_sent (map (λ (h : Handled). h.sent) served ++ first ∷ later) sents) front in
    let here = and_parts (is_handled now one) (handled_from now served) handled in
    let alone = and_parts (not (is_blocked one.served.item && is_marked_frame one.sent.frame)) (none_blocked served) free in
    let suit : suits sent.frame one.served.item ≡ true =
    suited one.sent.frame sent.frame one.served.item (same_replies one.reply (reply_of one.served.session now one.served.item)) (is_none one.reply) (frames_same one.sent sent parts.0) here.0 alone.0 in
    let owner : same_owners one.sent.owner sent.owner ≡ true = (and_parts (same_owners one.sent.owner sent.owner) ((one.sent.call == sent.call) && same_up one.sent.frame sent.frame) parts.0).0 in
    let stands : Stands (next_stage stage sent.owner sent.frame) (count + 1) (begun_by begun one.sent.owner one.sent.frame) (calls_after calls one.served.item) =
    subst (λ (b : Option (Option Owner)). Stands (next_stage stage sent.owner sent.frame) (count + 1) b (calls_after calls one.served.item))
    (sym (begins_same begun one.sent.owner sent.owner one.sent.frame sent.frame owner (frames_same one.sent sent parts.0))) (moved stage sent.owner sent.frame one.served.item count begun calls suit is) in
    let behind : StandsBehind first sents (count + 1) (fold (λ found (s : Sent). begun_by found s.owner s.frame) (begun_by begun one.sent.owner one.sent.frame) (map (λ (h : Handled). h.sent) served))
    (fold (λ c (h : Handled). calls_after c h.served.item) (calls_after calls one.served.item) served) =
    stands_behind served first later sents now (next_stage stage sent.owner sent.frame) (count + 1) (begun_by begun one.sent.owner one.sent.frame) (calls_after calls one.served.item) marked here.1 alone.1 parts.1 right stands in
    let more : (count + 1) + length behind.front ≡ count + suc (length behind.front) = omega arith in
    record {
      front = sent ∷ behind.front;
      sent = behind.sent;
      rest = behind.rest;
      among = ap (λ (list : List Sent). sent ∷ list) {y = behind.front ++ behind.sent ∷ behind.rest} behind.among;
      same = behind.same;
      owned = behind.owned;
      begins = behind.begins;
      marks = subst (λ (n : ℕ). HasMarks n (fold (λ c (h : Handled). calls_after c h.served.item) (calls_after calls one.served.item) served)) more behind.marks;
    }
