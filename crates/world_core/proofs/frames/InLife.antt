-- A frame that may be served is in order where its session is in its life.
use Rattle.std.proofs.Common.{◌≡◌, Bool, true, false, ◌&&◌, List, [], ◌∷◌, ◌++◌, Option, map, fold, refl, sym, ap, ◌∙◌}
use Rattle.std.specs.Prelude.{◌==◌, ◌||◌, not, is_none, is_some}
use Rattle.svc_values.specs.declared.call.Call.{Call}
use Rattle.svc_values.specs.declared.call.Call.TheVariants as call
use Rattle.svc_values.specs.declared.frame.Up.{Up}
use Rattle.svc_values.specs.declared.frame.Up.TheVariants as up
use Rattle.svc_values.specs.Laws.{AreExact}
use Rattle.svc_values.specs.meaning.Same.{same_bool, same_call, same_draws}
use Rattle.server_model.specs.Sessions.{Life, New as Unmade, Idle, Begun as InRequest, Ended}
use Rattle.server_model.specs.ToldRight.{life_behind, is_marked_alter, must_refuse}
use Rattle.world_model.specs.Coupled.{life_of}
use Rattle.world_model.specs.meaning.Frames.{Owner, Sent, Handled}
use Rattle.world_model.specs.Sames.{same_owners, same_up, same_sent, is_front}
use Rattle.world_model.specs.records.Wire.{Stage, New, Greeted, Told, Repeated, Begun, Rested, Shut, Wrong, stage_if, is_alter, next_stage, is_right}
use Rattle.world_core.proofs.frames.Storing.{both}

clash : {A : Type 0} (b : Bool) → b ≡ true → b ≡ false → A
clash true is not_it = absurd (let nothing : ⊥ = cc in nothing)
clash false is not_it = absurd (let nothing : ⊥ = cc in nothing)

-- THE GRAMMAR -------------------------------------------------------------------------------------

-- where a session is once the frames of its connection have led so far
abbrev life_at : Stage → Life
life_at New = Unmade
life_at (Greeted owner) = Idle
life_at (Told owner) = Idle
life_at (Repeated owner) = InRequest
life_at (Begun owner) = InRequest
life_at (Rested owner) = Idle
life_at Shut = Ended
life_at Wrong = Ended

-- the frame may come next, and leads the session on
record Follows (stage : Stage) (owner : Option Owner) (frame : Up) : Type 0 where
  pub leads : life_at (next_stage stage owner frame) ≡ life_behind frame (life_at stage)
  pub in_order : must_refuse (life_at stage) frame ≡ false

if_met : (test : Bool) (stage : Stage) → is_right (stage_if test stage) ≡ true → (test ≡ true) × (stage_if test stage ≡ stage)
if_met true stage right = (refl, refl)
if_met false stage right = absurd (let nothing : ⊥ = cc in nothing)

-- the next stage by a test
by_test : (stage next : Stage) (owner : Option Owner) (frame : Up) (test : Bool) → next_stage stage owner frame ≡ stage_if test next → is_right (next_stage stage owner frame) ≡ true → life_at next ≡ life_behind frame (life_at stage)
    → (test ≡ true → must_refuse (life_at stage) frame ≡ false) → Follows stage owner frame
by_test stage next owner frame test is right leads in_order =
    let met = if_met test next (ap is_right (sym is) ∙ right) in
    record { leads = ap life_at (is ∙ met.1) ∙ leads; in_order = in_order met.0 }

unmarked : (called : Call) → is_marked_alter false called ≡ false
unmarked (call.Work statements commit) = refl
unmarked (call.Set name value) = refl
unmarked (call.Alter line) = refl
unmarked call.Disable = refl
unmarked call.Rollback = refl

no_alter : (same : Bool) (called : Call) → (same && not (is_alter called)) ≡ true → is_marked_alter true called ≡ false
no_alter same (call.Alter line) test = let parts = both same false test in clash false parts.1 refl
no_alter same (call.Work statements commit) test = refl
no_alter same (call.Set name value) test = refl
no_alter same call.Disable test = refl
no_alter same call.Rollback test = refl

follows : (stage : Stage) (owner : Option Owner) (frame : Up) → is_right (next_stage stage owner frame) ≡ true → Follows stage owner frame
follows New owner up.Connect right = by_test New (Greeted owner) owner up.Connect (is_some owner) refl right refl (λ test. refl)
follows (Greeted one) owner (up.Outcome x) right = by_test (Greeted one) (Told owner) owner (up.Outcome x) (same_owners one owner) refl right refl (λ test. refl)
follows (Greeted one) owner (up.Begin settings) right = by_test (Greeted one) (Begun owner) owner (up.Begin settings) (same_owners one owner) refl right refl (λ test. refl)
follows (Told one) owner (up.Begin settings) right = by_test (Told one) (Repeated owner) owner (up.Begin settings) (same_owners one owner) refl right refl (λ test. refl)
follows (Repeated one) owner (up.Call true kept called) right =
    by_test (Repeated one) (Repeated owner) owner (up.Call true kept called) (same_owners one owner && not (is_alter called)) refl right refl (no_alter (same_owners one owner) called)
follows (Repeated one) owner (up.Call false kept called) right = by_test (Repeated one) (Begun owner) owner (up.Call false kept called) (same_owners one owner) refl right refl (λ test. unmarked called)
follows (Begun one) owner (up.Call false kept called) right = by_test (Begun one) (Begun owner) owner (up.Call false kept called) (same_owners one owner) refl right refl (λ test. unmarked called)
follows (Begun one) owner up.End right = by_test (Begun one) (Rested owner) owner up.End (same_owners one owner) refl right refl (λ test. refl)
follows (Told one) owner up.End right = by_test (Told one) (Rested owner) owner up.End (same_owners one owner) refl right refl (λ test. refl)
follows (Repeated one) owner up.End right = by_test (Repeated one) (Rested owner) owner up.End (same_owners one owner) refl right refl (λ test. refl)
follows (Rested one) owner (up.Begin settings) right = by_test (Rested one) (Begun owner) owner (up.Begin settings) (is_some owner && not (same_owners one owner)) refl right refl (λ test. refl)
follows (Rested one) owner up.Close right = by_test (Rested one) Shut owner up.Close (is_none owner || same_owners one owner) refl right refl (λ test. refl)
follows (Greeted one) owner up.Close right = by_test (Greeted one) Shut owner up.Close (same_owners one owner) refl right refl (λ test. refl)
follows (Told one) owner up.Close right = by_test (Told one) Shut owner up.Close (same_owners one owner) refl right refl (λ test. refl)
follows (Repeated one) owner up.Close right = by_test (Repeated one) Shut owner up.Close (same_owners one owner) refl right refl (λ test. refl)
follows (Begun one) owner up.Close right = by_test (Begun one) Shut owner up.Close (same_owners one owner) refl right refl (λ test. refl)
follows stage owner frame right = absurd (let nothing : ⊥ = cc in nothing)

-- FRAMES ALIKE ------------------------------------------------------------------------------------

frames_same : (a b : Sent) → same_sent a b ≡ true → same_up a.frame b.frame ≡ true
frames_same a b same = (both (a.call == b.call) (same_up a.frame b.frame) (both (same_owners a.owner b.owner) ((a.call == b.call) && same_up a.frame b.frame) same).1).1

bool_is : (a b : Bool) → same_bool a b ≡ true → a ≡ b
bool_is true true same = refl
bool_is true false same = absurd (let nothing : ⊥ = cc in nothing)
bool_is false true same = absurd (let nothing : ⊥ = cc in nothing)
bool_is false false same = refl

-- they lead on alike, and are in order alike
record IsAlike (a b : Up) : Type 0 where
  pub leads : (life : Life) → life_behind a life ≡ life_behind b life
  pub in_order : (life : Life) → must_refuse life b ≡ false → must_refuse life a ≡ false

alike : AreExact → (a b : Up) → same_up a b ≡ true → IsAlike a b
alike exact up.Connect up.Connect same = record { leads = λ life. refl; in_order = λ life order. order }
alike exact (up.Begin a) (up.Begin b) same = record { leads = λ life. refl; in_order = by }
  where
    by : (life : Life) → must_refuse life (up.Begin b) ≡ false → must_refuse life (up.Begin a) ≡ false
    by Unmade order = order
    by Idle order = order
    by InRequest order = order
    by Ended order = order
alike exact (up.Call r k c) (up.Call s l d) same = record { leads = λ life. refl; in_order = by }
  where
    marked : is_marked_alter r c ≡ is_marked_alter s d
    marked =
        let parts = both (same_bool r s) (same_draws k l && same_call c d) same in
        let calls : c ≡ d = (exact.calls c d).0 (both (same_draws k l) (same_call c d) parts.1).1 in
        ap (λ (b : Bool). is_marked_alter b c) (bool_is r s parts.0) ∙ ap (is_marked_alter s) calls

    by : (life : Life) → must_refuse life (up.Call s l d) ≡ false → must_refuse life (up.Call r k c) ≡ false
    by Unmade order = order
    by Idle order = order
    by InRequest order = marked ∙ order
    by Ended order = order
alike exact (up.Outcome x) (up.Outcome y) same = record { leads = λ life. refl; in_order = by }
  where
    by : (life : Life) → must_refuse life (up.Outcome y) ≡ false → must_refuse life (up.Outcome x) ≡ false
    by Unmade order = order
    by Idle order = order
    by InRequest order = order
    by Ended order = order
alike exact up.End up.End same = record { leads = λ life. refl; in_order = λ life order. order }
alike exact up.Close up.Close same = record { leads = λ life. refl; in_order = λ life order. order }
alike exact a b same = absurd (let nothing : ⊥ = cc in nothing)

-- WHAT WAS SERVED ---------------------------------------------------------------------------------

abbrev moved : Stage → Sent → Stage
moved stage sent = next_stage stage sent.owner sent.frame

abbrev served_on : Life → Handled → Life
served_on life one = life_behind one.sent.frame life

wrong_stays : (sents : List Sent) → is_right (fold moved Wrong sents) ≡ false
wrong_stays [] = refl
wrong_stays (sent ∷ sents) = wrong_stays sents

right_now : (stage : Stage) (sents : List Sent) → is_right (fold moved stage sents) ≡ true → is_right stage ≡ true
right_now Wrong sents right = clash (is_right (fold moved Wrong sents)) right (wrong_stays sents)
right_now New sents right = refl
right_now (Greeted owner) sents right = refl
right_now (Told owner) sents right = refl
right_now (Repeated owner) sents right = refl
right_now (Begun owner) sents right = refl
right_now (Rested owner) sents right = refl
right_now Shut sents right = refl

in_order_from : AreExact → (served : List Handled) (ups sent : List Sent) (stage : Stage) (life : Life) (first : Sent) (later : List Sent) → is_front same_sent (map (λ (one : Handled). one.sent) served ++ ups) sent ≡ true
    → is_right (fold moved stage sent) ≡ true → life ≡ life_at stage → ups ≡ first ∷ later → must_refuse (fold served_on life served) first.frame ≡ false
in_order_from exact [] [] sent stage life first later front right here ups = absurd (let nothing : ⊥ = cc in nothing)
in_order_from exact [] (one ∷ others) [] stage life first later front right here ups = absurd (let nothing : ⊥ = cc in nothing)
in_order_from exact [] (one ∷ others) (sent ∷ rest) stage life first later front right here ups =
    let is_one : one ≡ first = cc in
    let parts = both (same_sent one sent) (is_front same_sent others rest) front in
    let follow = follows stage sent.owner sent.frame (right_now (moved stage sent) rest right) in
    let order : must_refuse (life_at stage) one.frame ≡ false = (alike exact one.frame sent.frame (frames_same one sent parts.0)).in_order (life_at stage) follow.in_order in
    ap (λ (s : Sent). must_refuse life s.frame) (sym is_one) ∙ ap (λ (l : Life). must_refuse l one.frame) here ∙ order
in_order_from exact (one ∷ served) ups [] stage life first later front right here same = absurd (let nothing : ⊥ = cc in nothing)
in_order_from exact (one ∷ served) ups (sent ∷ rest) stage life first later front right here same =
    let parts = both (same_sent one.sent sent) (is_front same_sent (map (λ (h : Handled). h.sent) served ++ ups) rest) front in
    let follow = follows stage sent.owner sent.frame (right_now (moved stage sent) rest right) in
    let leads : life_behind one.sent.frame life ≡ life_at (moved stage sent) =
    ap (life_behind one.sent.frame) here ∙ (alike exact one.sent.frame sent.frame (frames_same one.sent sent parts.0)).leads (life_at stage) ∙ sym follow.leads in
    in_order_from exact served ups rest (moved stage sent) (life_behind one.sent.frame life) first later parts.1 right leads same

-- the first frame that may be served
pub in_order_there : AreExact → (served : List Handled) (ups sent : List Sent) (first : Sent) (later : List Sent) → is_front same_sent (map (λ (one : Handled). one.sent) served ++ ups) sent ≡ true → is_right (fold moved New sent) ≡ true
    → ups ≡ first ∷ later → must_refuse (life_of served) first.frame ≡ false
in_order_there exact served ups sent first later front right same = in_order_from exact served ups sent New Unmade first later front right refl same
