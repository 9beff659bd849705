-- Each call that was served on a connection is of a request that had it, and two calls that a
-- request sent on one connection are never the same call of it.
use Rattle.std.proofs.Common.{◌≡◌, refl, sym, ap, subst, ◌∙◌, arith, ℕ, suc, zero, ◌+◌, ◌<◌, ◌≤◌, ◌&&◌, not, cond, Bool, true, false, filter, List, [], ◌∷◌, map, Option, Some, None, ◌⊎◌, inl, inr}
use Rattle.std.specs.Prelude.{◌==◌, is_some, slice_get}
use Rattle.std.specs.List.{list_all, list_any}
use Rattle.std.specs.Option.{option_map_or}
use Rattle.std.proofs.lemmas.Bool.{and_parts, and_from}
use Rattle.svc_values.specs.declared.frame.Up.{Up}
use Rattle.svc_values.specs.declared.frame.Up.TheVariants as up
use Rattle.outage_schedule.specs.declared.item.Item.{Item}
use Rattle.outage_schedule.specs.declared.item.Item.TheVariants as item
use Rattle.world_model.specs.meaning.Crashing.{is_crashed_item}
use Rattle.world_model.specs.meaning.Frames.{Owner, Sent, Handled}
use Rattle.invariant_laws.specs.Invariant.{Invariant}
use Rattle.world_model.specs.meaning.Links.{Link, link_at}
use Rattle.world_model.specs.Sames.{is_front, is_of, owned_by, same_owner, same_owners, same_sent, same_up}
use Rattle.world_model.specs.records.Script.{is_held_by}
use Rattle.world_model.specs.meaning.Serving.{is_item_of}
use Rattle.invariant_laws.specs.Shown.{is_call, in_row, first_of, calls_on, is_row, is_current, rows_on}
use Rattle.once_laws.specs.StoredOnce.{is_call as is_call_item}
use Rattle.world_model.specs.Traced.{Traced, Course, courses_of}
use Rattle.world_model.specs.records.Wire.{up_of, is_sent_front, handled_from, stage_of, is_alter, Stage, New, Greeted, Told, Repeated, Begun, Rested, Shut, Wrong, next_stage, is_right}
use Rattle.world_model.specs.Words.{held_in}
use Rattle.world_model.proofs.Offered.{at_link, at_all, get_mapped, get_further, eq_from, Was, Ordinary, Halted, was_so}
use Rattle.invariant_laws.proofs.Offered.{any_all, no_owner, owned_at, owners_are, right_before, stages}
use Rattle.once_laws.proofs.values.RepeatedGiven.{some_by, if_right, owned_stage, step_owned}
use Rattle.once_laws.proofs.values.StoredApart.{IsStoredAt, calls_apart}
use Rattle.world_model.specs.records.Wire.{is_handled, counted_with}

pub handled_at : (commits : ℕ) (served : List Handled) (index : ℕ) (one : Handled) → handled_from commits served ≡ true → slice_get served index ≡ Some one → (is_item_of one.sent.frame one.served.item ≡ true) ⊎ (is_crashed_item one.sent.frame one.served.item ≡ true)
handled_at commits [] index one handled at = absurd (let none : ⊥ = cc in none)
handled_at commits (first ∷ others) zero one handled at =
    let same : first ≡ one = cc in
    let now : ℕ = counted_with commits first.served.item in
    subst (λ (h : Handled). (is_item_of h.sent.frame h.served.item ≡ true) ⊎ (is_crashed_item h.sent.frame h.served.item ≡ true)) same (either (was_so now first (and_parts (is_handled now first) (handled_from now others) handled).0))
  where
    either : Was (counted_with commits first.served.item) first → (is_item_of first.sent.frame first.served.item ≡ true) ⊎ (is_crashed_item first.sent.frame first.served.item ≡ true)
    either (Ordinary item_is same) = inl item_is
    either (Halted crashed none) = inr crashed
handled_at commits (first ∷ others) (suc index) one handled at =
    let now : ℕ = counted_with commits first.served.item in handled_at now others index one (and_parts (is_handled now first) (handled_from now others) handled).1 at

-- AN OWNER ----------------------------------------------------------------------------------------

call_owned : (stage : Stage) (owner : Option Owner) (frame : Up) → owned_stage stage ≡ true → is_right (next_stage stage owner frame) ≡ true → is_call frame ≡ true → is_some owner ≡ true
call_owned (Repeated one) owner (up.Call true kept call) owned right called =
    some_by one owner owned (and_parts (same_owners one owner) (not (is_alter call)) (if_right (same_owners one owner && not (is_alter call)) (Repeated owner) right)).0
call_owned (Repeated one) owner (up.Call false kept call) owned right called = some_by one owner owned (if_right (same_owners one owner) (Begun owner) right)
call_owned (Begun one) owner (up.Call false kept call) owned right called = some_by one owner owned (if_right (same_owners one owner) (Begun owner) right)
call_owned (Begun one) owner (up.Call true kept call) owned right called = absurd (let none : ⊥ = cc in none)
call_owned New owner (up.Call true kept call) owned right called = absurd (let none : ⊥ = cc in none)
call_owned New owner (up.Call false kept call) owned right called = absurd (let none : ⊥ = cc in none)
call_owned (Greeted one) owner (up.Call true kept call) owned right called = absurd (let none : ⊥ = cc in none)
call_owned (Greeted one) owner (up.Call false kept call) owned right called = absurd (let none : ⊥ = cc in none)
call_owned (Told one) owner (up.Call true kept call) owned right called = absurd (let none : ⊥ = cc in none)
call_owned (Told one) owner (up.Call false kept call) owned right called = absurd (let none : ⊥ = cc in none)
call_owned (Rested one) owner (up.Call true kept call) owned right called = absurd (let none : ⊥ = cc in none)
call_owned (Rested one) owner (up.Call false kept call) owned right called = absurd (let none : ⊥ = cc in none)
call_owned Shut owner (up.Call true kept call) owned right called = absurd (let none : ⊥ = cc in none)
call_owned Shut owner (up.Call false kept call) owned right called = absurd (let none : ⊥ = cc in none)
call_owned Wrong owner (up.Call true kept call) owned right called = absurd (let none : ⊥ = cc in none)
call_owned Wrong owner (up.Call false kept call) owned right called = absurd (let none : ⊥ = cc in none)
call_owned stage owner frame owned right called = absurd (let none : ⊥ = cc in none)

calls_owned : (stage : Stage) (sents : List Sent) → owned_stage stage ≡ true → is_right (stages stage sents) ≡ true → (place : ℕ) (sent : Sent) → slice_get sents place ≡ Some sent → is_call sent.frame ≡ true → is_some sent.owner ≡ true
calls_owned stage [] owned right place sent at called = absurd (let none : ⊥ = cc in none)
calls_owned stage (first ∷ sents) owned right zero sent at called =
    let same : first ≡ sent = cc in
    subst (λ (s : Sent). is_call s.frame ≡ true → is_some s.owner ≡ true) same (call_owned stage first.owner first.frame owned (right_before (next_stage stage first.owner first.frame) sents right)) called
calls_owned stage (first ∷ sents) owned right (suc place) sent at called = calls_owned (next_stage stage first.owner first.frame) sents (step_owned stage first.owner first.frame owned) right place sent at called

-- ROWS --------------------------------------------------------------------------------------------

module _ (keep : Sent → Bool) where
  -- those that are kept have indices in a row, from this one on
  pub row_from : (index : ℕ) (sents : List Sent) → in_row index (filter keep sents) ≡ true → (place : ℕ) (one : Sent) → slice_get sents place ≡ Some one → keep one ≡ true → index ≤ one.call
  row_from index [] row place one at is = absurd (let none : ⊥ = cc in none)
  row_from index (first ∷ sents) row zero one at is =
      let same : first ≡ one = cc in by (keep first) (ap keep same ∙ is) row (ap (λ (s : Sent). s.call) same)
    where
      by : (kept : Bool) → kept ≡ true → in_row index (cond kept (first ∷ filter keep sents) (filter keep sents)) ≡ true → first.call ≡ one.call → index ≤ one.call
      by true kept row same = let here = eq_from first.call index (and_parts (first.call == index) (in_row (index + 1) (filter keep sents)) row).0 in omega (arith, here, same)
      by false kept row same = absurd (let none : ⊥ = cc in none)
  row_from index (first ∷ sents) row (suc place) one at is = by (keep first) row (λ next later. row_from next sents later place one at is)
    where
      by : (kept : Bool) → in_row index (cond kept (first ∷ filter keep sents) (filter keep sents)) ≡ true → ((next : ℕ) → in_row next (filter keep sents) ≡ true → next ≤ one.call) → index ≤ one.call
      by true row again = let rest = again (index + 1) (and_parts (first.call == index) (in_row (index + 1) (filter keep sents)) row).1 in omega (arith, rest)
      by false row again = again index row

  pub row_rises : (index : ℕ) (sents : List Sent) → in_row index (filter keep sents) ≡ true → (place later : ℕ) (one two : Sent) → place < later → slice_get sents place ≡ Some one → slice_get sents later ≡ Some two → keep one ≡ true → keep two ≡ true → one.call < two.call
  row_rises index [] row place later one two less at there first second = absurd (let none : ⊥ = cc in none)
  row_rises index (head ∷ sents) row place zero one two less at there first second = absurd (let none : ⊥ = omega (arith, less) in none)
  row_rises index (head ∷ sents) row zero (suc later) one two less at there first second =
      let same : head ≡ one = cc in by (keep head) (ap keep same ∙ first) row (ap (λ (s : Sent). s.call) same) (λ next rest. row_from next sents rest later two there second)
    where
      by : (kept : Bool) → kept ≡ true → in_row index (cond kept (head ∷ filter keep sents) (filter keep sents)) ≡ true → head.call ≡ one.call → ((next : ℕ) → in_row next (filter keep sents) ≡ true → next ≤ two.call) → one.call < two.call
      by true kept row same behind =
          let parts = and_parts (head.call == index) (in_row (index + 1) (filter keep sents)) row in
          let here = eq_from head.call index parts.0 in
          let rest = behind (index + 1) parts.1 in
          omega (arith, here, same, rest)
      by false kept row same behind = absurd (let none : ⊥ = cc in none)
  row_rises index (head ∷ sents) row (suc place) (suc later) one two less at there first second = by (keep head) row (λ next rest. row_rises next sents rest place later one two (omega (arith, less)) at there first second)
    where
      by : (kept : Bool) → in_row index (cond kept (head ∷ filter keep sents) (filter keep sents)) ≡ true → ((next : ℕ) → in_row next (filter keep sents) ≡ true → one.call < two.call) → one.call < two.call
      by true row again = again (index + 1) (and_parts (head.call == index) (in_row (index + 1) (filter keep sents)) row).1
      by false row again = again index row

-- WHAT WAS SERVED ---------------------------------------------------------------------------------

pub front_got : {A : Type 0} (same : A → A → Bool) (xs zs : List A) (index : ℕ) (x : A) → is_front same xs zs ≡ true → slice_get xs index ≡ Some x → (z : A) × ((slice_get zs index ≡ Some z) × (same x z ≡ true))
front_got same [] zs index x is at = absurd (let none : ⊥ = cc in none)
front_got same (y ∷ ys) [] index x is at = absurd (let none : ⊥ = cc in none)
front_got {A} same (y ∷ ys) (z ∷ zs) zero x is at = let equal : y ≡ x = cc in (z, (refl, subst (λ (one : A). same one z ≡ true) equal (and_parts (same y z) (is_front same ys zs) is).0))
front_got same (y ∷ ys) (z ∷ zs) (suc index) x is at = front_got same ys zs index x (and_parts (same y z) (is_front same ys zs) is).1 at

-- a frame that was served is the one that was sent at its place
pub record WasSent (link : Link) (place : ℕ) (one : Handled) : Type 0 where
  pub sent : Sent
  pub at : slice_get link.sent place ≡ Some sent
  pub owner : one.sent.owner ≡ sent.owner
  pub call : one.sent.call ≡ sent.call
  pub frame : same_up one.sent.frame sent.frame ≡ true

pub was_sent : (link : Link) (place : ℕ) (one : Handled) → is_front same_sent (up_of link) link.sent ≡ true → slice_get link.served place ≡ Some one → WasSent link place one
was_sent link place one front at =
    let found = front_got same_sent (up_of link) link.sent place one.sent front (get_further (map (λ (h : Handled). h.sent) link.served) link.up place one.sent (get_mapped (λ (h : Handled). h.sent) link.served place one at)) in
    let parts = and_parts (same_owners one.sent.owner found.0.owner) ((one.sent.call == found.0.call) && same_up one.sent.frame found.0.frame) found.1.1 in
    let more = and_parts (one.sent.call == found.0.call) (same_up one.sent.frame found.0.frame) parts.1 in
    record { sent = found.0; at = found.1.0; owner = owners_are one.sent.owner found.0.owner parts.0; call = eq_from one.sent.call found.0.call more.0; frame = more.1 }

-- the frame of a call's item is a call
pub frame_called : (frame : Up) (it : Item) → (is_item_of frame it ≡ true) ⊎ (is_crashed_item frame it ≡ true) → is_call_item it ≡ true → is_call frame ≡ true
frame_called (up.Call replay kept call) it is called = refl
frame_called frame (item.Call marked asked answers draws) (inl is) called = absurd (let none : ⊥ = cc in none)
frame_called frame (item.Call marked asked answers draws) (inr is) called = absurd (let none : ⊥ = cc in none)
frame_called frame (item.CrashedCall marked asked) (inl is) called = absurd (let none : ⊥ = cc in none)
frame_called frame (item.CrashedCall marked asked) (inr is) called = absurd (let none : ⊥ = cc in none)
frame_called frame it is called = absurd (let none : ⊥ = cc in none)

pub same_called : (a b : Up) → same_up a b ≡ true → is_call a ≡ true → is_call b ≡ true
same_called (up.Call replay kept call) (up.Call marked draws other) same called = refl
same_called (up.Call replay kept call) up.Connect same called = absurd (let none : ⊥ = cc in none)
same_called (up.Call replay kept call) (up.Begin settings) same called = absurd (let none : ⊥ = cc in none)
same_called (up.Call replay kept call) (up.Outcome x) same called = absurd (let none : ⊥ = cc in none)
same_called (up.Call replay kept call) up.End same called = absurd (let none : ⊥ = cc in none)
same_called (up.Call replay kept call) up.Close same called = absurd (let none : ⊥ = cc in none)
same_called a b same called = absurd (let none : ⊥ = cc in none)

-- a call that was sent has an owner
pub sent_owned : (link : Link) → is_right (stages New link.sent) ≡ true → (place : ℕ) (sent : Sent) → slice_get link.sent place ≡ Some sent → is_call sent.frame ≡ true → is_some sent.owner ≡ true
sent_owned link right place sent at called = calls_owned New link.sent refl right place sent at called

-- ONE REQUEST -------------------------------------------------------------------------------------

-- a request that had the connection, and of which this holds
pub record HadIt (t : Traced) (test : Course → Bool) (number : ℕ) (owner : Owner) : Type 0 where
  pub course : Course
  pub mine : same_owner course.owner owner ≡ true
  pub had : list_any (λ other. other == number) (held_in course.steps) ≡ true
  pub passes : test course ≡ true

pub had_it : (t : Traced) (test : Course → Bool) (number : ℕ) (owner : Owner) → list_all test (courses_of t) ≡ true → is_held_by (courses_of t) number owner ≡ true → HadIt t test number owner
had_it t test number owner all held =
    let found = any_all (λ (course : Course). same_owner course.owner owner && list_any (λ other. other == number) (held_in course.steps)) test (courses_of t) held all in
    let parts = and_parts (same_owner found.0.owner owner) (list_any (λ other. other == number) (held_in found.0.steps)) found.1.0 in
    record { course = found.0; mine = parts.0; had = parts.1; passes = found.1.1 }

-- what holds of each connection that it had holds of this one
pub at_held : (links : List Link) (number : ℕ) (link : Link) (test : ℕ → Link → Bool) (held : List ℕ) → link_at links number ≡ Some link → list_any (λ other. other == number) held ≡ true
    → list_all (λ other. option_map_or (test other) (link_at links other) false) held ≡ true → test number link ≡ true
at_held links number link test held there any all =
    let found = any_all (λ (other : ℕ). other == number) (λ (other : ℕ). option_map_or (test other) (link_at links other) false) held any all in
    let same : found.0 ≡ number = eq_from found.0 number found.1.0 in
    sym (ap (λ (one : Option Link). option_map_or (test number) one false) there) ∙ (sym (ap (λ (n : ℕ). option_map_or (test n) (link_at links n) false) same) ∙ found.1.1)

module _ (t : Traced) (inv : Invariant t) (index : ℕ) (link : Link) (there : slice_get t.machine.links index ≡ Some link) where
  -- a call that was served there, and its request
  pub record IsCalled (place : ℕ) (one : Handled) : Type 0 where
    pub was : WasSent link place one
    pub called : is_call was.sent.frame ≡ true
    pub owner : Owner
    pub is : was.sent.owner ≡ Some owner
    pub held : is_held_by (courses_of t) (suc index) owner ≡ true

  pub is_called : (place : ℕ) (one : Handled) → slice_get link.served place ≡ Some one → is_call_item one.served.item ≡ true → IsCalled place one
  is_called place one at called = by sent.sent.owner refl owned
    where
      sent : WasSent link place one
      sent = was_sent link place one (and_parts (is_front same_sent (up_of link) link.sent) _ (at_link is_sent_front t.machine.links (suc index) link inv.orderly.wire.sent there)).0 at

      calls : is_call sent.sent.frame ≡ true
      calls =
          same_called one.sent.frame sent.sent.frame sent.frame
          (frame_called one.sent.frame one.served.item (handled_at 0 link.served place one (at_link (λ l. handled_from 0 l.served) t.machine.links (suc index) link inv.orderly.wire.handled there) at) called)

      owned : is_some sent.sent.owner ≡ true
      owned = sent_owned link (at_link (λ l. is_right (stage_of l)) t.machine.links (suc index) link inv.orderly.wire.grammar there) place sent.sent sent.at calls

      by : (found : Option Owner) → sent.sent.owner ≡ found → is_some sent.sent.owner ≡ true → IsCalled place one
      by None is some = absurd (no_owner sent.sent.owner is some)
      by (Some owner) is some =
          record {
            was = sent;
            called = calls;
            owner = owner;
            is = is;
            held =
                subst (λ (one : Option Owner). option_map_or (is_held_by (courses_of t) (suc index)) one true ≡ true) is
                (at_all (λ (s : Sent). option_map_or (is_held_by (courses_of t) (suc index)) s.owner true) link.sent place sent.sent (owned_at t (suc index) link inv.orderly.script.owned there) sent.at);
          }

  -- two that one request sent there are of different indices
  pub calls_rise : (place later : ℕ) (one two : Handled) → place < later → (first : IsCalled place one) (second : IsCalled later two) → one.sent.owner ≡ two.sent.owner → one.sent.call < two.sent.call
  calls_rise place later one two less first second same =
      let course = had_it t (rows_on t) (suc index) first.owner inv.shown.rows first.held in
      let keep : Sent → Bool = λ sent. owned_by course.course.owner sent && is_call sent.frame in
      let row : is_row course.course (is_current course.course (suc index)) (calls_on course.course link) ≡ true =
      at_held t.machine.links (suc index) link (λ number l. is_row course.course (is_current course.course number) (calls_on course.course l)) (held_in course.course.steps) there course.had course.passes in
      let mine : owned_by course.course.owner first.was.sent ≡ true = ap (is_of course.course.owner) first.is ∙ course.mine in
      let owners : second.was.sent.owner ≡ first.was.sent.owner = sym second.was.owner ∙ (sym same ∙ first.was.owner) in
      let other : owned_by course.course.owner second.was.sent ≡ true = ap (is_of course.course.owner) owners ∙ mine in
      let rises =
      row_rises keep (option_map_or (λ sent. sent.call) (first_of (calls_on course.course link)) 0) link.sent (and_parts (in_row (option_map_or (λ sent. sent.call) (first_of (calls_on course.course link)) 0) (calls_on course.course link)) _ row).0
      place later first.was.sent second.was.sent less first.was.at second.was.at (and_from (owned_by course.course.owner first.was.sent) (is_call first.was.sent.frame) mine first.called)
      (and_from (owned_by course.course.owner second.was.sent) (is_call second.was.sent.frame) other second.called) in
      let here = first.was.call in
      let behind = second.was.call in
      omega (arith, rises, here, behind)

  pub on_one : (stood : Bool) (place later : ℕ) (one two : Handled) → place < later → IsStoredAt stood link.served place one → IsStoredAt stood link.served later two → calls_apart one two ≡ true
  on_one stood place later one two less first second = by (same_owners one.sent.owner two.sent.owner && (one.sent.call == two.sent.call)) refl
    where
      by : (test : Bool) → (same_owners one.sent.owner two.sent.owner && (one.sent.call == two.sent.call)) ≡ test → not test ≡ true
      by false is = refl
      by true is =
          let parts = and_parts (same_owners one.sent.owner two.sent.owner) (one.sent.call == two.sent.call) is in
          let rises = calls_rise place later one two less (is_called place one first.at first.called) (is_called later two second.at second.called) (owners_are one.sent.owner two.sent.owner parts.0) in
          let same = eq_from one.sent.call two.sent.call parts.1 in
          absurd (let never : ⊥ = omega (arith, rises, same) in never)
