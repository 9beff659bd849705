-- The grammar of a connection: what its last frame tells of it, and what its client says next.
use Rattle.std.proofs.Common.{◌≡◌, refl, ap, subst, ◌∙◌, Bool, true, false, ℕ, ◌&&◌, ◌||◌, List, [], ◌∷◌, ◌++◌, map, fold, Option, Some, None}
use Rattle.std.specs.Prelude.{not, is_some, is_none}
use Rattle.std.specs.List.{list_all, last_or}
use Rattle.std.proofs.lemmas.Bool.{and_parts, and_from}
use Rattle.svc_values.specs.declared.value.Value.{Value}
use Rattle.svc_values.specs.declared.call.Call.{Call}
use Rattle.svc_values.specs.declared.draw.Draw.{Draw}
use Rattle.svc_values.specs.declared.entry.Ltxid.{Ltxid}
use Rattle.svc_values.specs.declared.frame.Up.{Up}
use Rattle.svc_values.specs.declared.frame.Up.TheVariants as up
use Rattle.call_recorder.specs.declared.recorded.Recorded.{Recorded}
use Rattle.pool_core.specs.declared.answers.Back.{Back}
use Rattle.pool_core.specs.declared.answers.Back.TheVariants as back
use Rattle.client_model.specs.meaning.Verifying.{index_of}
use Rattle.client_model.specs.declared.act.Hold.{Hold}
use Rattle.client_model.specs.declared.act.Hold.TheVariants.{GiveBack}
use Rattle.client_model.specs.meaning.Terms.{Phase, Greeting, Asked, Running, Replaying}
use Rattle.world_model.specs.meaning.Frames.{Owner, Sent}
use Rattle.world_model.specs.meaning.Links.{Link}
use Rattle.world_model.specs.meaning.Acting.{sent_by, closing}
use Rattle.world_model.specs.records.Hold.{is_connect, is_call, is_ask, is_awaited}
use Rattle.world_model.specs.Parts.{is_answered}
use Rattle.world_model.specs.records.Ready.{is_unbegun}
use Rattle.world_model.specs.Sames.{same_owner, same_owners}
use Rattle.world_model.specs.records.Wire.{Stage, New, Greeted, Told, Repeated, Begun, Rested, Shut, stage_if, is_alter, next_stage, stage_of, is_right}
use Rattle.world_model.proofs.events.AllLists.{at_all}
use Rattle.world_model.proofs.wire.SameSelf.{owner_self}
use Rattle.world_model.proofs.wire.Fronts.{moved}
use Rattle.world_model.proofs.wire.Saying.{Spoken, Quiet, Fails, Ends, Asks, Calls, Marks, begun_in, opening, may_ask, may_mark, may_end, repeats_in}

-- THE LAST FRAME ----------------------------------------------------------------------------------

abbrev pub is_begin : Up → Bool
is_begin (up.Begin settings) = true
is_begin _ = false

-- where a connection stands behind a frame that is no Begin
abbrev pub behind : Up → Option Owner → Stage
behind up.Connect owner = Greeted owner
behind (up.Outcome x) owner = Told owner
behind (up.Call true kept call) owner = Repeated owner
behind (up.Call false kept call) owner = Begun owner
behind up.End owner = Rested owner
behind _ owner = Shut

if_right : (test : Bool) (stage : Stage) → is_right (stage_if test stage) ≡ true → stage_if test stage ≡ stage
if_right true stage right = refl
if_right false stage right = absurd (let none : ⊥ = cc in none)

next_is : (stage : Stage) (owner : Option Owner) (frame : Up) → is_begin frame ≡ false → is_right (next_stage stage owner frame) ≡ true → next_stage stage owner frame ≡ behind frame owner
next_is New owner up.Connect other right = if_right (is_some owner) (Greeted owner) right
next_is (Greeted one) owner (up.Outcome x) other right = if_right (same_owners one owner) (Told owner) right
next_is (Greeted one) owner (up.Begin settings) other right = absurd (let none : ⊥ = cc in none)
next_is (Told one) owner (up.Begin settings) other right = absurd (let none : ⊥ = cc in none)
next_is (Repeated one) owner (up.Call true kept call) other right = if_right (same_owners one owner && not (is_alter call)) (Repeated owner) right
next_is (Repeated one) owner (up.Call false kept call) other right = if_right (same_owners one owner) (Begun owner) right
next_is (Begun one) owner (up.Call false kept call) other right = if_right (same_owners one owner) (Begun owner) right
next_is (Begun one) owner up.End other right = if_right (same_owners one owner) (Rested owner) right
next_is (Told one) owner up.End other right = if_right (same_owners one owner) (Rested owner) right
next_is (Repeated one) owner up.End other right = if_right (same_owners one owner) (Rested owner) right
next_is (Rested one) owner (up.Begin settings) other right = absurd (let none : ⊥ = cc in none)
next_is (Rested one) owner up.Close other right = if_right (is_none owner || same_owners one owner) Shut right
next_is (Greeted one) owner up.Close other right = if_right (same_owners one owner) Shut right
next_is (Told one) owner up.Close other right = if_right (same_owners one owner) Shut right
next_is (Repeated one) owner up.Close other right = if_right (same_owners one owner) Shut right
next_is (Begun one) owner up.Close other right = if_right (same_owners one owner) Shut right
next_is stage owner frame other right = absurd (let none : ⊥ = cc in none)

record LastMove (stage : Stage) (sents : List Sent) (last : Sent) : Type 0 where
  pub before : Stage
  pub is : fold moved stage sents ≡ moved before last

last_move : (stage : Stage) (sents : List Sent) (last : Sent) → last_or None sents ≡ Some last → LastMove stage sents last
last_move stage [] last is = absurd (let none : ⊥ = cc in none)
last_move stage (one ∷ []) last is = let same : one ≡ last = cc in record { before = stage; is = ap (moved stage) same }
last_move stage (one ∷ two ∷ rest) last is = let later = last_move (moved stage one) (two ∷ rest) last is in record { before = later.before; is = later.is }

pub stage_is : (link : Link) (last : Sent) → last_or None link.sent ≡ Some last → is_begin last.frame ≡ false → is_right (stage_of link) ≡ true → stage_of link ≡ behind last.frame last.owner
stage_is link last is other right =
    let move = last_move New link.sent last is in
    move.is ∙ next_is move.before last.owner last.frame other (subst (λ (stage : Stage). is_right stage ≡ true) move.is right)

pub last_all : {A : Type 0} (test : A → Bool) (xs : List A) (x : A) → last_or None xs ≡ Some x → list_all test xs ≡ true → test x ≡ true
last_all test [] x is all = absurd (let none : ⊥ = cc in none)
last_all test (y ∷ []) x is all = let same : y ≡ x = cc in subst (λ z. test z ≡ true) same (and_parts (test y) true all).0
last_all test (y ∷ z ∷ zs) x is all = last_all test (z ∷ zs) x is (and_parts (test y) (list_all test (z ∷ zs)) all).1

-- WHAT IS SAID NEXT -------------------------------------------------------------------------------

abbrev pub on_connection : Phase → Bool
on_connection (Greeting lost) = true
on_connection (Asked asking) = true
on_connection (Running state) = true
on_connection (Replaying state) = true
on_connection _ = false

-- where the connection of a request stands in a phase
abbrev pub stage_in : Owner → Phase → Stage
stage_in owner (Greeting lost) = Greeted (Some owner)
stage_in owner (Asked asking) = Told (Some owner)
stage_in owner (Running state) = Begun (Some owner)
stage_in owner (Replaying state) = Repeated (Some owner)
stage_in owner _ = Shut

-- the frame that a phase awaits leads there
first_leads : (owner : Option Owner) (frame : Up) → is_connect frame ≡ true → behind frame owner ≡ Greeted owner
first_leads owner up.Connect is = refl
first_leads owner frame is = absurd (let none : ⊥ = cc in none)

ask_leads : (x : Ltxid) (owner : Option Owner) (frame : Up) → is_ask x frame ≡ true → behind frame owner ≡ Told owner
ask_leads x owner (up.Outcome y) is = refl
ask_leads x owner frame is = absurd (let none : ⊥ = cc in none)

call_leads : (index : ℕ) (owner : Option Owner) (sent : Sent) (frame : Up) → is_call false index sent frame ≡ true → behind frame owner ≡ Begun owner
call_leads index owner sent (up.Call false kept call) is = refl
call_leads index owner sent (up.Call true kept call) is = absurd (let none : ⊥ = cc in none)
call_leads index owner sent frame is = absurd (let none : ⊥ = cc in none)

mark_leads : (index : ℕ) (owner : Option Owner) (sent : Sent) (frame : Up) → is_call true index sent frame ≡ true → behind frame owner ≡ Repeated owner
mark_leads index owner sent (up.Call true kept call) is = refl
mark_leads index owner sent (up.Call false kept call) is = absurd (let none : ⊥ = cc in none)
mark_leads index owner sent frame is = absurd (let none : ⊥ = cc in none)

pub awaited_leads : (owner : Owner) (phase : Phase) (sent : Sent) → is_awaited phase sent ≡ true → behind sent.frame (Some owner) ≡ stage_in owner phase
awaited_leads owner (Greeting lost) sent is = first_leads (Some owner) sent.frame is
awaited_leads owner (Asked asking) sent is = ask_leads asking.ltxid (Some owner) sent.frame is
awaited_leads owner (Running state) sent is = call_leads state.track.call (Some owner) sent sent.frame is
awaited_leads owner (Replaying state) sent is = mark_leads (index_of state) (Some owner) sent sent.frame is
awaited_leads owner phase sent is = absurd (let none : ⊥ = cc in none)

pub awaited_on : (phase : Phase) (sent : Sent) → is_awaited phase sent ≡ true → on_connection phase ≡ true
awaited_on (Greeting lost) sent is = refl
awaited_on (Asked asking) sent is = refl
awaited_on (Running state) sent is = refl
awaited_on (Replaying state) sent is = refl
awaited_on phase sent is = absurd (let none : ⊥ = cc in none)

pub answered_other : (frame : Up) → is_answered frame ≡ true → is_begin frame ≡ false
answered_other (up.Begin settings) is = absurd (let none : ⊥ = cc in none)
answered_other frame is = refl

module _ (owner : Owner) (call : ℕ) where
  if_same : (stage : Stage) → stage_if (same_owner owner owner) stage ≡ stage
  if_same stage = ap (λ (test : Bool). stage_if test stage) (owner_self owner)

  -- one frame after the other
  pub fits : (stage next : Stage) (frame : Up) (later : List Sent) → next_stage stage (Some owner) frame ≡ next → is_right (fold moved next later) ≡ true → is_right (fold moved stage (sent_by owner call frame ∷ later)) ≡ true
  fits stage next frame later is right = ap (λ (one : Stage). is_right (fold moved one later)) is ∙ right

  closes : (phase : Phase) → on_connection phase ≡ true → is_right (fold moved (stage_in owner phase) (sent_by owner call up.Close ∷ [])) ≡ true
  closes (Greeting lost) on = fits (Greeted (Some owner)) Shut up.Close [] (if_same Shut) refl
  closes (Asked asking) on = fits (Told (Some owner)) Shut up.Close [] (if_same Shut) refl
  closes (Running state) on = fits (Begun (Some owner)) Shut up.Close [] (if_same Shut) refl
  closes (Replaying state) on = fits (Repeated (Some owner)) Shut up.Close [] (if_same Shut) refl
  closes phase on = absurd (let none : ⊥ = cc in none)

  -- behind an End, the connection may be closed
  rests : (how : Back) → is_right (fold moved (Rested (Some owner)) (map (sent_by owner call) (closing GiveBack how))) ≡ true
  rests back.Closed = fits (Rested (Some owner)) Shut up.Close [] (ap (λ (test : Bool). stage_if (false || test) Shut) (owner_self owner)) refl
  rests back.Idle = refl

  ended : (phase : Phase) (left : Bool) (how : Back) → on_connection phase ≡ true → may_end phase left ≡ true → (is_unbegun phase ≡ true → left ≡ true)
      → is_right (fold moved (stage_in owner phase) (sent_by owner call up.End ∷ map (sent_by owner call) (closing GiveBack how))) ≡ true
  ended (Greeting None) left how on may calls = absurd (left_over left may (calls refl))
    where
      left_over : (left : Bool) → not left ≡ true → left ≡ true → ⊥
      left_over true may is = let none : ⊥ = cc in none
      left_over false may is = let none : ⊥ = cc in none
  ended (Greeting (Some lost)) left how on may calls = absurd (let none : ⊥ = cc in none)
  ended (Asked asking) left how on may calls = fits (Told (Some owner)) (Rested (Some owner)) up.End (map (sent_by owner call) (closing GiveBack how)) (if_same (Rested (Some owner))) (rests how)
  ended (Running state) left how on may calls = fits (Begun (Some owner)) (Rested (Some owner)) up.End (map (sent_by owner call) (closing GiveBack how)) (if_same (Rested (Some owner))) (rests how)
  ended (Replaying state) left how on may calls = fits (Repeated (Some owner)) (Rested (Some owner)) up.End (map (sent_by owner call) (closing GiveBack how)) (if_same (Rested (Some owner))) (rests how)
  ended phase left how on may calls = absurd (let none : ⊥ = cc in none)

  asks : (phase : Phase) (x : Ltxid) → may_ask phase ≡ true → is_right (fold moved (stage_in owner phase) (sent_by owner call (up.Outcome x) ∷ [])) ≡ true
  asks (Greeting (Some lost)) x may = fits (Greeted (Some owner)) (Told (Some owner)) (up.Outcome x) [] (if_same (Told (Some owner))) refl
  asks (Greeting None) x may = absurd (let none : ⊥ = cc in none)
  asks phase x may = absurd (let none : ⊥ = cc in none)

  calls_out : (phase : Phase) (settings : List (List ℕ × Value)) (one : Call) → on_connection phase ≡ true
      → is_right (fold moved (stage_in owner phase) (map (sent_by owner call) ((opening (begun_in phase) settings ++ up.Call false [] one ∷ []) ++ []))) ≡ true
  calls_out (Greeting lost) settings one on =
      fits (Greeted (Some owner)) (Begun (Some owner)) (up.Begin settings) (sent_by owner call (up.Call false [] one) ∷ []) (if_same (Begun (Some owner)))
      (fits (Begun (Some owner)) (Begun (Some owner)) (up.Call false [] one) [] (if_same (Begun (Some owner))) refl)
  calls_out (Asked asking) settings one on =
      fits (Told (Some owner)) (Repeated (Some owner)) (up.Begin settings) (sent_by owner call (up.Call false [] one) ∷ []) (if_same (Repeated (Some owner)))
      (fits (Repeated (Some owner)) (Begun (Some owner)) (up.Call false [] one) [] (if_same (Begun (Some owner))) refl)
  calls_out (Running state) settings one on = fits (Begun (Some owner)) (Begun (Some owner)) (up.Call false [] one) [] (if_same (Begun (Some owner))) refl
  calls_out (Replaying state) settings one on = fits (Repeated (Some owner)) (Begun (Some owner)) (up.Call false [] one) [] (if_same (Begun (Some owner))) refl
  calls_out phase settings one on = absurd (let none : ⊥ = cc in none)

  marks_out : (phase : Phase) (settings : List (List ℕ × Value)) (kept : List Draw) (one : Call) → may_mark phase ≡ true → not (is_alter one) ≡ true
      → is_right (fold moved (stage_in owner phase) (map (sent_by owner call) ((opening (begun_in phase) settings ++ up.Call true kept one ∷ []) ++ []))) ≡ true
  marks_out (Asked asking) settings kept one may plain =
      fits (Told (Some owner)) (Repeated (Some owner)) (up.Begin settings) (sent_by owner call (up.Call true kept one) ∷ []) (if_same (Repeated (Some owner))) (marks_on one kept plain)
    where
      marks_on : (one : Call) (kept : List Draw) → not (is_alter one) ≡ true → is_right (fold moved (Repeated (Some owner)) (sent_by owner call (up.Call true kept one) ∷ [])) ≡ true
      marks_on one kept plain = fits (Repeated (Some owner)) (Repeated (Some owner)) (up.Call true kept one) [] (ap (λ (test : Bool). stage_if test (Repeated (Some owner))) (and_from (same_owner owner owner) (not (is_alter one)) (owner_self owner) plain)) refl
  marks_out (Replaying state) settings kept one may plain =
      fits (Repeated (Some owner)) (Repeated (Some owner)) (up.Call true kept one) [] (ap (λ (test : Bool). stage_if test (Repeated (Some owner))) (and_from (same_owner owner owner) (not (is_alter one)) (owner_self owner) plain)) refl
  marks_out phase settings kept one may plain = absurd (let none : ⊥ = cc in none)

  stands : (phase : Phase) → is_right (stage_in owner phase) ≡ true
  stands (Greeting lost) = refl
  stands (Asked asking) = refl
  stands (Running state) = refl
  stands (Replaying state) = refl
  stands phase = refl

  -- what is said keeps to the grammar
  pub said_right : (before : Phase) (left alive hushed : Bool) (phase : Phase) (send : List Up) (held : Hold) (how : Back) → Spoken before left alive hushed phase send held → on_connection before ≡ true
      → (is_unbegun before ≡ true → left ≡ true) → repeats_in before ≡ true → is_right (fold moved (stage_in owner before) (map (sent_by owner call) (send ++ closing held how))) ≡ true
  said_right before left alive hushed phase _ _ how (Quiet _ hush stays) on calls plain = stands before
  said_right before left true hushed _ _ _ how Fails on calls plain = closes before on
  said_right before left false hushed _ _ _ how Fails on calls plain = stands before
  said_right before left true hushed _ _ _ how (Ends may) on calls plain = ended before left how on may calls
  said_right before left false hushed _ _ _ how (Ends may) on calls plain = stands before
  said_right before left alive hushed _ _ _ how (Asks opens may asking) on calls plain = asks before asking.ltxid may
  said_right before left alive hushed _ _ _ how (Calls opens settings one state) on calls plain = calls_out before settings one on
  said_right before left alive hushed _ _ _ how (Marks opens may settings one state next none) on calls plain =
      marks_out before settings one.draws one.call may (at_all (λ (r : Recorded). not (is_alter r.call)) state.track.recorder.calls state.verified one (none plain) next)
