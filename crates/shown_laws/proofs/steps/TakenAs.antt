-- What a reply that is taken is, by the phase of its request: the item, and the frame with which it
-- was answered.
use Rattle.std.proofs.Common.{◌≡◌, refl, sym, ap, subst, ◌∙◌, Bool, true, false, ℕ, List, Option, Some}
use Rattle.std.proofs.lemmas.Bool.{and_parts}
use Rattle.svc_values.specs.declared.answer.Answer.{Answer}
use Rattle.svc_values.specs.declared.call.Call.{Call}
use Rattle.svc_values.specs.declared.draw.Draw.{Draw}
use Rattle.svc_values.specs.declared.entry.Ltxid.{Ltxid}
use Rattle.svc_values.specs.declared.entry.SessionId.{SessionId}
use Rattle.svc_values.specs.declared.frame.Down.{Down}
use Rattle.svc_values.specs.declared.frame.Down.TheVariants as down
use Rattle.svc_values.specs.declared.frame.Up.{Up}
use Rattle.svc_values.specs.declared.frame.Up.TheVariants as up
use Rattle.svc_values.specs.meaning.Same.{same_bool}
use Rattle.svc_values.specs.SameLaws.{same_bool_decides, same_ltxid_decides}
use Rattle.client_model.specs.meaning.States.{Living, Losing, Asking, Repeating}
use Rattle.client_model.specs.meaning.Terms.{Phase, Greeting, Asked, Running, Replaying}
use Rattle.outage_schedule.specs.declared.item.Item.{Item}
use Rattle.outage_schedule.specs.declared.item.Item.TheVariants as item
use Rattle.outage_schedule.specs.declared.note.AskResult.{AskResult}
use Rattle.world_model.specs.meaning.Frames.{Sent}
use Rattle.world_model.specs.records.Hold.{is_awaited, is_call, is_connect, is_ask}
use Rattle.world_model.specs.Sames.{same_up, same_sent}
use Rattle.world_model.specs.meaning.Serving.{identifier, is_item_of, outcome_frame, reply_of}
use Rattle.world_model.specs.records.Wire.{same_replies}
use Rattle.shown_laws.proofs.steps.FrameAnswered.{replied_is}

-- by a session that has answered so many commits
pub data Taken (session : SessionId) (commits : ℕ) : Phase → Item → Down → Type 0 where
  Greets : (lost : Option Losing) → Taken session commits (Greeting lost) item.Connect (down.Hello (identifier session commits))
  Answers : (state : Living) (call : Call) (answers : List Answer) (draws : List Draw) → Taken session commits (Running state) (item.Call false call answers draws) (down.Reply answers draws (identifier session commits))
  Repeats : (state : Repeating) (call : Call) (answers : List Answer) (draws : List Draw) → Taken session commits (Replaying state) (item.Call true call answers draws) (down.Reply answers draws (identifier session commits))
  Blocks : (phase : Phase) (call : Call) → Taken session commits phase (item.Blocked call) down.Blocked
  Tells : (state : Asking) (x : Ltxid) (result : AskResult) → x ≡ state.ltxid → Taken session commits (Asked state) (item.Outcome x result) (outcome_frame result)

-- BY THE FRAME THAT IT ANSWERS --------------------------------------------------------------------

-- the frame that was sent last is of the kind that the phase waits for
pub data Waits : Phase → Up → Type 0 where
  ForHello : (lost : Option Losing) → Waits (Greeting lost) up.Connect
  ForOutcome : (state : Asking) → Waits (Asked state) (up.Outcome state.ltxid)
  ForReply : (state : Living) (kept : List Draw) (call : Call) → Waits (Running state) (up.Call false kept call)
  ForRepeated : (state : Repeating) (kept : List Draw) (call : Call) → Waits (Replaying state) (up.Call true kept call)

call_waits : (mark : Bool) (index : ℕ) (sent : Sent) (frame : Up) → is_call mark index sent frame ≡ true → (kept : List Draw) × ((call : Call) × (frame ≡ up.Call mark kept call))
call_waits mark index sent (up.Call replay kept call) is =
    let parts = and_parts (same_bool mark replay) _ is in
    (kept, (call, ap (λ (b : Bool). up.Call b kept call) (sym ((same_bool_decides mark replay).0 parts.0))))
call_waits mark index sent _ is = absurd (let none : ⊥ = cc in none)

pub connect_waits : (frame : Up) → is_connect frame ≡ true → frame ≡ up.Connect
connect_waits up.Connect is = refl
connect_waits _ is = absurd (let none : ⊥ = cc in none)

ask_waits : (x : Ltxid) (frame : Up) → is_ask x frame ≡ true → frame ≡ up.Outcome x
ask_waits x (up.Outcome asked) is = ap up.Outcome (sym ((same_ltxid_decides x asked).0 is))
ask_waits x _ is = absurd (let none : ⊥ = cc in none)

waits_by : (phase : Phase) (sent : Sent) → is_awaited phase sent ≡ true → Waits phase sent.frame
waits_by (Greeting lost) sent is = subst (Waits (Greeting lost)) (sym (connect_waits sent.frame is)) (ForHello lost)
waits_by (Asked state) sent is = subst (Waits (Asked state)) (sym (ask_waits state.ltxid sent.frame is)) (ForOutcome state)
waits_by (Running state) sent is = let found = call_waits false state.track.call sent sent.frame is in subst (Waits (Running state)) (sym found.1.1) (ForReply state found.0 found.1.0)
waits_by (Replaying state) sent is = let found = call_waits true _ sent sent.frame is in subst (Waits (Replaying state)) (sym found.1.1) (ForRepeated state found.0 found.1.0)
waits_by _ sent is = absurd (let none : ⊥ = cc in none)

-- it is the item of a frame that is the one sent last, and this is the reply
module _ (session : SessionId) (commits : ℕ) where
  by_hello : (lost : Option Losing) (answered : Up) (one : Item) (reply : Down) → same_up answered up.Connect ≡ true → is_item_of answered one ≡ true → reply_of session commits one ≡ Some reply → Taken session commits (Greeting lost) one reply
  by_hello lost up.Connect item.Connect reply same its says =
      let is : down.Hello (identifier session commits) ≡ reply = cc in
      subst (Taken session commits (Greeting lost) item.Connect) is (Greets lost)
  by_hello lost _ _ reply same its says = absurd (let none : ⊥ = cc in none)

  by_outcome : (state : Asking) (answered : Up) (one : Item) (reply : Down) → same_up answered (up.Outcome state.ltxid) ≡ true → is_item_of answered one ≡ true → reply_of session commits one ≡ Some reply
      → Taken session commits (Asked state) one reply
  by_outcome state (up.Outcome y) (item.Outcome x result) reply same its says =
      let is : outcome_frame result ≡ reply = cc in
      let asked : x ≡ state.ltxid = (same_ltxid_decides x y).0 its ∙ (same_ltxid_decides y state.ltxid).0 same in
      subst (Taken session commits (Asked state) (item.Outcome x result)) is (Tells state x result asked)
  by_outcome state _ _ reply same its says = absurd (let none : ⊥ = cc in none)

  by_reply : (state : Living) (kept : List Draw) (sent : Call) (answered : Up) (one : Item) (reply : Down) → same_up answered (up.Call false kept sent) ≡ true → is_item_of answered one ≡ true → reply_of session commits one ≡ Some reply
      → Taken session commits (Running state) one reply
  by_reply state kept sent (up.Call false k c) (item.Call false call answers draws) reply same its says =
      let is : down.Reply answers draws (identifier session commits) ≡ reply = cc in
      subst (Taken session commits (Running state) (item.Call false call answers draws)) is (Answers state call answers draws)
  by_reply state kept sent (up.Call false k c) (item.Blocked call) reply same its says =
      let is : down.Blocked ≡ reply = cc in
      subst (Taken session commits (Running state) (item.Blocked call)) is (Blocks (Running state) call)
  by_reply state kept sent _ _ reply same its says = absurd (let none : ⊥ = cc in none)

  by_repeated : (state : Repeating) (kept : List Draw) (sent : Call) (answered : Up) (one : Item) (reply : Down) → same_up answered (up.Call true kept sent) ≡ true → is_item_of answered one ≡ true → reply_of session commits one ≡ Some reply
      → Taken session commits (Replaying state) one reply
  by_repeated state kept sent (up.Call true k c) (item.Call true call answers draws) reply same its says =
      let is : down.Reply answers draws (identifier session commits) ≡ reply = cc in
      subst (Taken session commits (Replaying state) (item.Call true call answers draws)) is (Repeats state call answers draws)
  by_repeated state kept sent (up.Call true k c) (item.Blocked call) reply same its says =
      let is : down.Blocked ≡ reply = cc in
      subst (Taken session commits (Replaying state) (item.Blocked call)) is (Blocks (Replaying state) call)
  by_repeated state kept sent _ _ reply same its says = absurd (let none : ⊥ = cc in none)

  taken_by : (phase : Phase) (answered frame : Up) (one : Item) (reply : Down) → Waits phase frame → same_up answered frame ≡ true → is_item_of answered one ≡ true → reply_of session commits one ≡ Some reply → Taken session commits phase one reply
  taken_by _ answered _ one reply (ForHello lost) same its says = by_hello lost answered one reply same its says
  taken_by _ answered _ one reply (ForOutcome state) same its says = by_outcome state answered one reply same its says
  taken_by _ answered _ one reply (ForReply state kept sent) same its says = by_reply state kept sent answered one reply same its says
  taken_by _ answered _ one reply (ForRepeated state kept sent) same its says = by_repeated state kept sent answered one reply same its says

pub taken_as : (session : SessionId) (commits : ℕ) (phase : Phase) (answered sent : Sent) (one : Item) (reply : Down) → is_awaited phase sent ≡ true → same_sent answered sent ≡ true → is_item_of answered.frame one ≡ true
    → same_replies (Some reply) (reply_of session commits one) ≡ true → Taken session commits phase one reply
taken_as session commits phase answered sent one reply awaited same its says =
    let frames : same_up answered.frame sent.frame ≡ true = (and_parts _ (same_up answered.frame sent.frame) (and_parts _ _ same).1).1 in
    taken_by session commits phase answered.frame sent.frame one reply (waits_by phase sent awaited) frames its (replied_is reply (reply_of session commits one) says)
