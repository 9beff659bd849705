-- A reply answers the frame that the request sent last, and is one that is expected there.
use Rattle.std.proofs.Common.{◌≡◌, refl, sym, ap, ◌∙◌, Bool, true, false, ℕ, ◌&&◌, List, Option, Some, None}
use Rattle.std.specs.Prelude.{◌==◌}
use Rattle.std.proofs.lemmas.Bool.{and_parts}
use Rattle.svc_values.specs.declared.call.Call.{Call}
use Rattle.svc_values.specs.declared.draw.Draw.{Draw}
use Rattle.svc_values.specs.declared.entry.SessionId.{SessionId}
use Rattle.svc_values.specs.declared.frame.Ahead.{Ahead}
use Rattle.svc_values.specs.declared.frame.Ahead.TheVariants as ahead
use Rattle.svc_values.specs.declared.frame.Down.{Down}
use Rattle.svc_values.specs.declared.frame.Down.TheVariants as down
use Rattle.svc_values.specs.declared.frame.Up.{Up}
use Rattle.svc_values.specs.declared.frame.Up.TheVariants as up
use Rattle.svc_values.specs.meaning.Identifiers.{same_ltxid}
use Rattle.svc_values.specs.meaning.Same.{same_answers, same_bool, same_call, same_draws}
use Rattle.svc_values.specs.SameLaws.{same_answers_decide, same_bool_decides, same_call_decides, same_draws_decide, same_ltxid_decides}
use Rattle.client_model.specs.Laws.{is_expected}
use Rattle.outage_schedule.specs.declared.item.Item.{Item}
use Rattle.outage_schedule.specs.declared.item.Item.TheVariants as item
use Rattle.outage_schedule.specs.declared.note.AskResult.TheVariants as told
use Rattle.world_model.specs.Sames.{same_up, same_ahead, same_down}
use Rattle.world_model.specs.meaning.Serving.{is_item_of, identifier, reply_of}
use Rattle.invariant_laws.specs.Shown.{stands}
use Rattle.world_model.specs.Traced.{Traced}
use Rattle.world_model.specs.records.Wire.{same_replies}
use Rattle.caused_laws.specs.Replies.{reply_to, Replies, Answers}
use Rattle.shown_laws.proofs.events.Lookups.{eq_from}

-- The last frame is this one. (Of a call that is repeated the draws are not told here.)
pub data LastIs : Up → Option Up → Type 0 where
  Same : (frame : Up) → LastIs frame (Some frame)
  SameCall : (mark : Bool) (kept other : List Draw) (call : Call) → LastIs (up.Call mark kept call) (Some (up.Call mark other call))

-- THE FRAME OF A REPLY ----------------------------------------------------------------------------

ahead_is : (a b : Ahead) → same_ahead a b ≡ true → a ≡ b
ahead_is ahead.Server ahead.Server same = refl
ahead_is ahead.Client ahead.Client same = refl
ahead_is ahead.Forgotten ahead.Forgotten same = refl
ahead_is a b same = absurd (let none : ⊥ = cc in none)

down_is : (a b : Down) → same_down a b ≡ true → a ≡ b
down_is (down.Hello x) (down.Hello y) same = ap down.Hello ((same_ltxid_decides x y).0 same)
down_is (down.Reply a d x) (down.Reply b e y) same =
    let one = and_parts (same_answers a b) (same_draws d e && same_ltxid x y) same in
    let two = and_parts (same_draws d e) (same_ltxid x y) one.1 in
    let answers : a ≡ b = (same_answers_decide a b).0 one.0 in
    let draws : d ≡ e = (same_draws_decide d e).0 two.0 in
    let ltxids : x ≡ y = (same_ltxid_decides x y).0 two.1 in
    cc
down_is (down.OutcomeIs a b) (down.OutcomeIs c d) same =
    let parts = and_parts (same_bool a c) (same_bool b d) same in
    let one : a ≡ c = (same_bool_decides a c).0 parts.0 in
    let two : b ≡ d = (same_bool_decides b d).0 parts.1 in
    cc
down_is (down.OutcomeRefused w n) (down.OutcomeRefused v m) same =
    let parts = and_parts (same_ahead w v) (n == m) same in
    let one : w ≡ v = ahead_is w v parts.0 in
    let two : n ≡ m = eq_from n m parts.1 in
    cc
down_is down.Blocked down.Blocked same = refl
down_is (down.Refused a) (down.Refused b) same = ap down.Refused (eq_from a b same)
down_is a b same = absurd (let none : ⊥ = cc in none)

pub replied_is : (frame : Down) (reply : Option Down) → same_replies (Some frame) reply ≡ true → reply ≡ Some frame
replied_is frame None same = absurd (let none : ⊥ = cc in none)
replied_is frame (Some other) same = ap Some (sym (down_is frame other same))

-- the reply of a session is the one that the judge knows
reply_same : (session : SessionId) (commits : ℕ) (one : Item) (frame : Down) → reply_of session commits one ≡ Some frame → reply_to (identifier session commits) one ≡ Some frame
reply_same session commits item.Connect frame is = is
reply_same session commits (item.Call marked served answers draws) frame is = is
reply_same session commits (item.Blocked served) frame is = is
reply_same session commits (item.Outcome x (told.Committed completed)) frame is = is
reply_same session commits (item.Outcome x told.Uncommitted) frame is = is
reply_same session commits (item.Outcome x (told.ServerAhead next)) frame is = is
reply_same session commits (item.Outcome x (told.ClientAhead next)) frame is = is
reply_same session commits (item.Outcome x (told.Forgotten horizon)) frame is = is
reply_same session commits one frame is = absurd (let none : ⊥ = cc in none)

-- WHAT IT ANSWERS ---------------------------------------------------------------------------------

call_answered : (marked r s : Bool) (served c d : Call) (k l : List Draw) → (same_bool marked r && same_call served c) ≡ true → (same_bool r s && (same_draws k l && same_call c d)) ≡ true → (marked ≡ s) × (served ≡ d)
call_answered marked r s served c d k l is same =
    let one = and_parts (same_bool marked r) (same_call served c) is in
    let two = and_parts (same_bool r s) (same_draws k l && same_call c d) same in
    let three = and_parts (same_draws k l) (same_call c d) two.1 in
    ((same_bool_decides marked r).0 one.0 ∙ (same_bool_decides r s).0 two.0, (same_call_decides served c).0 one.1 ∙ (same_call_decides c d).0 three.1)

blocked_answered : (r s : Bool) (served c d : Call) (k l : List Draw) → same_call served c ≡ true → (same_bool r s && (same_draws k l && same_call c d)) ≡ true → served ≡ d
blocked_answered r s served c d k l is same =
    let two = and_parts (same_bool r s) (same_draws k l && same_call c d) same in
    let three = and_parts (same_draws k l) (same_call c d) two.1 in
    (same_call_decides served c).0 is ∙ (same_call_decides c d).0 three.1

answers_last : (session : SessionId) (commits : ℕ) (frame : Down) (one : Item) (f g : Up) (last : Option Up) → is_item_of f one ≡ true → same_up f g ≡ true → LastIs g last → reply_of session commits one ≡ Some frame → Answers last one
answers_last session commits frame item.Connect up.Connect up.Connect _ is same (Same _) says = tt
answers_last session commits frame (item.Call marked served answers draws) (up.Call r k c) (up.Call s l d) _ is same (Same _) says = call_answered marked r s served c d k l is same
answers_last session commits frame (item.Call marked served answers draws) (up.Call r k c) (up.Call s l d) _ is same (SameCall _ _ other _) says = call_answered marked r s served c d k l is same
answers_last session commits frame (item.Blocked served) (up.Call r k c) (up.Call s l d) _ is same (Same _) says = blocked_answered r s served c d k l is same
answers_last session commits frame (item.Blocked served) (up.Call r k c) (up.Call s l d) _ is same (SameCall _ _ other _) says = blocked_answered r s served c d k l is same
answers_last session commits frame (item.Outcome asked result) (up.Outcome y) (up.Outcome z) _ is same (Same _) says = (same_ltxid_decides asked y).0 is ∙ (same_ltxid_decides y z).0 same
answers_last session commits frame one f g last is same at says = absurd (let none : ⊥ = cc in none)

-- no client is told that an identifier is ahead
expected_last : (t : Traced) (session : SessionId) (commits : ℕ) (frame : Down) (one : Item) (last : Option Up) → Answers last one → reply_of session commits one ≡ Some frame → stands t one ≡ true → is_expected last frame ≡ true
expected_last t session commits frame item.Connect (Some up.Connect) answers says stand = ap (is_expected (Some up.Connect)) (let both : ◌≡◌ {A = Down} frame (down.Hello (identifier session commits)) = cc in both)
expected_last t session commits frame (item.Call marked served answered draws) (Some (up.Call mark kept call)) answers says stand =
    ap (is_expected (Some (up.Call mark kept call))) (let both : ◌≡◌ {A = Down} frame (down.Reply answered draws (identifier session commits)) = cc in both)
expected_last t session commits frame (item.Blocked served) last answers says stand = ap (is_expected last) (let both : ◌≡◌ {A = Down} frame down.Blocked = cc in both)
expected_last t session commits frame (item.Outcome asked (told.Committed completed)) (Some (up.Outcome x)) answers says stand =
    ap (is_expected (Some (up.Outcome x))) (let both : ◌≡◌ {A = Down} frame (down.OutcomeIs true completed) = cc in both)
expected_last t session commits frame (item.Outcome asked told.Uncommitted) (Some (up.Outcome x)) answers says stand =
    ap (is_expected (Some (up.Outcome x))) (let both : ◌≡◌ {A = Down} frame (down.OutcomeIs false false) = cc in both)
expected_last t session commits frame (item.Outcome asked (told.Forgotten horizon)) (Some (up.Outcome x)) answers says stand =
    ap (is_expected (Some (up.Outcome x))) (let both : ◌≡◌ {A = Down} frame (down.OutcomeRefused ahead.Forgotten horizon) = cc in both)
expected_last t session commits frame (item.Outcome asked (told.ServerAhead next)) last answers says stand = absurd (let none : ⊥ = cc in none)
expected_last t session commits frame (item.Outcome asked (told.ClientAhead next)) last answers says stand = absurd (let none : ⊥ = cc in none)
expected_last t session commits frame item.Connect last answers says stand = absurd answers
expected_last t session commits frame (item.Call marked served answered draws) last answers says stand = absurd answers
expected_last t session commits frame (item.Outcome asked result) last answers says stand = absurd answers
expected_last t session commits frame one last answers says stand = absurd (let none : ⊥ = cc in none)

-- The reply is that to its item, the item answers the last frame, and the reply is one that is
-- expected.
pub record IsAnswer (last : Option Up) (one : Item) (frame : Down) : Type 0 where
  pub replies : Replies one frame
  pub answers : Answers last one
  pub expected : is_expected last frame ≡ true

pub answer_is : (t : Traced) (session : SessionId) (commits : ℕ) (frame : Down) (one : Item) (f g : Up) (last : Option Up)
    → is_item_of f one ≡ true → same_up f g ≡ true → LastIs g last → same_replies (Some frame) (reply_of session commits one) ≡ true → stands t one ≡ true → IsAnswer last one frame
answer_is t session commits frame one f g last is same at says stand =
    let reply : reply_of session commits one ≡ Some frame = replied_is frame (reply_of session commits one) says in
    let answers : Answers last one = answers_last session commits frame one f g last is same at reply in
    record {
      replies = (identifier session commits, reply_same session commits one frame reply);
      answers = answers;
      expected = expected_last t session commits frame one last answers reply stand;
    }
