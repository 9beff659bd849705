-- Of a connection that a request awaits a frame on: what may be served there, and when its reply
-- has come.
use Rattle.std.proofs.Common.{◌≡◌, refl, ap, subst, ◌∙◌, Bool, true, false, ℕ, ◌+◌, ◌&&◌, cond, length, length-append, List, [], ◌∷◌, ◌++◌, map, filter, Option, Some, None, arith}
use Rattle.std.specs.Prelude.{◌==◌}
use Rattle.std.specs.List.{last_or}
use Rattle.std.specs.Option.{option_map_or}
use Rattle.std.proofs.lemmas.Bool.{and_parts, or_left}
use Rattle.std.proofs.lemmas.List.{append-nil}
use Rattle.std.proofs.lemmas.List.Sums.{length-filter}
use Rattle.svc_values.specs.declared.frame.Up.{Up}
use Rattle.svc_values.specs.declared.frame.Up.TheVariants as up
use Rattle.outage_schedule.specs.declared.item.Item.{Item}
use Rattle.outage_schedule.specs.declared.item.Item.TheVariants as item
use Rattle.client_model.specs.meaning.Terms.{Phase, Greeting, Asked}
use Rattle.world_model.specs.meaning.Frames.{Owner, Sent, Handled}
use Rattle.world_model.specs.meaning.Links.{Link}
use Rattle.world_model.specs.meaning.Serving.{is_item_of, is_blocked}
use Rattle.world_model.specs.records.Hold.{is_awaited, is_connect, is_ask}
use Rattle.world_model.specs.records.Basic.{lives_rightly}
use Rattle.world_model.specs.records.Wire.{up_of, nothing_cut, is_sent_front, replies_of, is_reply_front, handled_from}
use Rattle.world_model.specs.Parts.{is_answered, is_rep, count_reps, is_out, out_frame}
use Rattle.world_model.specs.Sames.{same_up, same_sent, same_reply, owned_by, is_front}
use Rattle.world_model.proofs.events.Tests.{eq_from}
use Rattle.world_model.proofs.wire.Fronts.{same_frames}
use Rattle.world_model.proofs.wire.FrontLists.{last_kept}
use Rattle.world_model.proofs.number.LinkCounts.{Known}
use Rattle.world_model.proofs.basic.LinkEnds.{ends_at}
use Rattle.world_model.proofs.basic.LinkLives.{implied, served_none}
use Rattle.world_model.proofs.wire.LinkOrder.{is_orderly, same_reps, reps_served}
use Rattle.world_model.proofs.wire.LinkSent.{open_living}
use Rattle.world_model.proofs.number.LinkServed.{is_next}
use Rattle.world_model.proofs.wire.SentLinks.{awaits}

-- THE REPLY ---------------------------------------------------------------------------------------

count_cond : (a b : Bool) (x z : Sent) (xs zs : List Sent) → a ≡ b → length xs ≡ length zs → length (cond a (x ∷ xs) xs) ≡ length (cond b (z ∷ zs) zs)
count_cond true true x z xs zs is same = omega arith
count_cond false false x z xs zs is same = same
count_cond true false x z xs zs is same = absurd (let none : ⊥ = cc in none)
count_cond false true x z xs zs is same = absurd (let none : ⊥ = cc in none)

-- as many frames are answered in two lists that are alike
alike_reps : (xs zs : List Sent) → is_front same_sent xs zs ≡ true → length xs ≡ length zs → length (filter is_rep xs) ≡ length (filter is_rep zs)
alike_reps [] [] is long = refl
alike_reps [] (z ∷ zs) is long = absurd (let none : ⊥ = omega arith in none)
alike_reps (x ∷ xs) [] is long = absurd (let none : ⊥ = omega arith in none)
alike_reps (x ∷ xs) (z ∷ zs) is long =
    let parts = and_parts (same_sent x z) (is_front same_sent xs zs) is in
    count_cond (is_rep x) (is_rep z) x z (filter is_rep xs) (filter is_rep zs) (same_reps x z parts.0) (alike_reps xs zs parts.1 (omega arith))

-- Where it is open, something is out, and nothing is left to be served, the reply has come.
pub reply_came : (event : ℕ) (link : Link) → is_orderly link ≡ true → ends_at event link ≡ true → link.is_open ≡ true → is_out link ≡ true → link.up ≡ [] → link.down ≡ [] → ⊥
reply_came event link orderly ended opens out ups downs =
    let one = and_parts (is_sent_front link) (is_reply_front link && (handled_from 0 link.served && lives_rightly link)) orderly in
    let two = and_parts (is_reply_front link) (handled_from 0 link.served && lives_rightly link) one.1 in
    let three = and_parts (handled_from 0 link.served) (lives_rightly link) two.1 in
    let living : link.is_living ≡ true = open_living event link ended opens in
    let sents = and_parts (is_front same_sent (up_of link) link.sent) _ one.0 in
    let whole : nothing_cut link ≡ true = or_left link.is_open _ opens in
    let long : length (up_of link) ≡ length link.sent = eq_from (length (up_of link)) (length link.sent) (implied (nothing_cut link) (length (up_of link) == length link.sent) whole sents.1) in
    let all : up_of link ≡ map (λ (h : Handled). h.sent) link.served = ap (λ (u : List Sent). map (λ (h : Handled). h.sent) link.served ++ u) ups ∙ append-nil (map (λ (h : Handled). h.sent) link.served) in
    let alike : length (filter is_rep (up_of link)) ≡ length (filter is_rep link.sent) = alike_reps (up_of link) link.sent sents.0 long in
    let served : length (filter is_rep (up_of link)) ≡ length (filter is_rep (map (λ (h : Handled). h.sent) link.served)) = ap (λ (l : List Sent). length (filter is_rep l)) all in
    let given : length (replies_of link) ≡ length (filter is_rep (map (λ (h : Handled). h.sent) link.served)) = reps_served 0 link.served (served_none link living three.1) three.0 in
    let replies = and_parts (is_front same_reply (link.taken ++ link.down) (replies_of link)) _ two.0 in
    let got : length (link.taken ++ link.down) ≡ length (replies_of link) = eq_from (length (link.taken ++ link.down)) (length (replies_of link)) (implied link.is_open (length (link.taken ++ link.down) == length (replies_of link)) opens replies.1) in
    let sum : length (link.taken ++ link.down) ≡ length link.taken + length link.down = length-append link.taken link.down in
    let none : length link.down ≡ 0 = ap length downs in
    let count : length (filter is_rep link.sent) ≡ count_reps link.sent = length-filter is_rep link.sent in
    let more : count_reps link.sent ≡ length link.taken + 1 = eq_from (count_reps link.sent) (length link.taken + 1) out in
    omega (arith, alike, served, given, got, sum, none, count, more)

-- WHAT IS BLOCKED ---------------------------------------------------------------------------------

abbrev is_call_frame : Up → Bool
is_call_frame (up.Call replay kept call) = true
is_call_frame _ = false

blocked_call : (frame : Up) (one : Item) → is_item_of frame one ≡ true → is_blocked one ≡ true → is_call_frame frame ≡ true
blocked_call (up.Call replay kept call) one is blocked = refl
blocked_call up.Connect item.Connect is blocked = absurd (let none : ⊥ = cc in none)
blocked_call (up.Begin settings) (item.Begin begun) is blocked = absurd (let none : ⊥ = cc in none)
blocked_call (up.Outcome x) (item.Outcome asked result) is blocked = absurd (let none : ⊥ = cc in none)
blocked_call up.End item.End is blocked = absurd (let none : ⊥ = cc in none)
blocked_call up.Close item.Close is blocked = absurd (let none : ⊥ = cc in none)
blocked_call frame one is blocked = absurd (let none : ⊥ = cc in none)

call_same : (a b : Up) → same_up a b ≡ true → is_call_frame a ≡ true → is_call_frame b ≡ true
call_same (up.Call r k c) (up.Call s l d) same is = refl
call_same a b same is = absurd (let none : ⊥ = cc in none)

call_rep : (frame : Up) → is_call_frame frame ≡ true → is_answered frame ≡ true
call_rep (up.Call replay kept call) is = refl
call_rep frame is = absurd (let none : ⊥ = cc in none)

connect_none : (frame : Up) → is_connect frame ≡ true → is_call_frame frame ≡ true → ⊥
connect_none up.Connect is call = let none : ⊥ = cc in none
connect_none frame is call = let none : ⊥ = cc in none

-- what a request awaits before its outcome is no call
abbrev pub awaits_no_call : Phase → Bool
awaits_no_call (Greeting lost) = true
awaits_no_call (Asked asking) = true
awaits_no_call _ = false

awaited_none : (phase : Phase) (sent : Sent) → awaits_no_call phase ≡ true → is_awaited phase sent ≡ true → is_call_frame sent.frame ≡ true → ⊥
awaited_none (Greeting lost) sent none awaited call = connect_none sent.frame awaited call
awaited_none (Asked asking) sent none awaited call = by sent.frame awaited call
  where
    by : (frame : Up) → is_ask asking.ltxid frame ≡ true → is_call_frame frame ≡ true → ⊥
    by (up.Outcome x) is call = let never : ⊥ = cc in never
    by frame is call = let never : ⊥ = cc in never
awaited_none phase sent none awaited call = let never : ⊥ = cc in never

-- the frame that is out is the one that is awaited
out_awaited : (owner : Owner) (phase : Phase) (link : Link) → awaits owner phase link ≡ true → (sent : Sent) × ((out_frame link ≡ Some sent) × (is_awaited phase sent ≡ true))
out_awaited owner phase link out = by (last_or None link.sent) refl (and_parts (is_out link) (option_map_or (λ sent. is_answered sent.frame && (owned_by owner sent && is_awaited phase sent)) (last_or None link.sent) false) out).1
  where
    by : (found : Option Sent) → last_or None link.sent ≡ found → option_map_or (λ sent. is_answered sent.frame && (owned_by owner sent && is_awaited phase sent)) found false ≡ true
        → (sent : Sent) × ((out_frame link ≡ Some sent) × (is_awaited phase sent ≡ true))
    by None is here = absurd (let none : ⊥ = cc in none)
    by (Some sent) is here =
        let one = and_parts (is_answered sent.frame) (owned_by owner sent && is_awaited phase sent) here in
        let two = and_parts (owned_by owner sent) (is_awaited phase sent) one.1 in
        (sent, (last_kept is_rep None None link.sent (λ never. refl) (ap (λ (last : Option Sent). option_map_or is_rep last false) is ∙ one.0) ∙ is, two.1))

-- Blocked answers a call, so a request that awaits Hello or an outcome keeps its connection.
pub none_blocked : (link : Link) (first : Sent) (later : List Sent) (one : Item) (owner : Owner) (phase : Phase) → Known link → link.up ≡ first ∷ later → is_item_of first.frame one ≡ true → awaits owner phase link ≡ true
    → awaits_no_call phase ≡ true → is_blocked one ≡ true → ⊥
none_blocked link first later one owner phase known ups its out none blocked =
    let call : is_call_frame first.frame ≡ true = blocked_call first.frame one its blocked in
    let next = is_next link first later known ups (call_rep first.frame call) in
    let awaited = out_awaited owner phase link out in
    let same : same_sent first awaited.0 ≡ true = subst (λ (found : Option Sent). option_map_or (same_sent first) found false ≡ true) awaited.1.0 next.same in
    awaited_none phase awaited.0 none awaited.1.1 (call_same first.frame awaited.0.frame (same_frames first awaited.0 same) call)
