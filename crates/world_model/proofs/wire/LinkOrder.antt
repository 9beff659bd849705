-- Of each connection: the replies answer the answered frames, in the order in which these were
-- sent.
use Rattle.std.proofs.Common.{◌≡◌, refl, sym, ap, subst, ◌∙◌, Bool, true, false, ℕ, ◌&&◌, cond, length, append_assoc, List, [], ◌∷◌, ◌++◌, map, filter_map, Option, Some, None, ◌⊎◌, inl, inr, if◌then◌else◌, arith}
use Rattle.std.specs.Prelude.{◌==◌, filter, is_some, is_none, option_map}
use Rattle.std.specs.List.{list_any, cons_option}
use Rattle.std.proofs.lemmas.Bool.{and_parts, or_cases, or_parts}
use Rattle.std.proofs.lemmas.List.{append-nil, map-append, length-map}
use Rattle.std.proofs.lemmas.List.Elements.{filter-append}
use Rattle.svc_values.specs.declared.entry.SessionId.{SessionId}
use Rattle.svc_values.specs.declared.frame.Up.{Up}
use Rattle.svc_values.specs.declared.frame.Up.TheVariants as up
use Rattle.svc_values.specs.declared.frame.Down.{Down}
use Rattle.outage_schedule.specs.declared.item.Item.{Item}
use Rattle.outage_schedule.specs.declared.item.Item.TheVariants as item
use Rattle.outage_schedule.specs.declared.item.Served.{Served}
use Rattle.world_model.specs.meaning.Frames.{Sent, Reply, Handled, down_size, whole_front}
use Rattle.world_model.specs.meaning.Links.{Link, ends}
use Rattle.world_model.specs.meaning.Machines.{Machine}
use Rattle.world_model.specs.meaning.Serving.{Front, after_front, handled, is_of_front, is_item_of, is_last, is_blocked, reply_of, commits_after, on_its_way}
use Rattle.world_model.specs.meaning.Crashing.{fallen_link, is_crashed_item}
use Rattle.world_model.specs.records.Basic.{is_stopped, ends_life, lives_rightly}
use Rattle.world_model.specs.Parts.{is_answered, is_rep}
use Rattle.world_model.specs.Sames.{same_up, same_sent, same_reply, is_front}
use Rattle.world_model.specs.records.Wire.{up_of, is_sent_front, reply_to, replies_of, is_reply_front, same_replies, is_handled, counted_with, handled_from, is_answered_in_order}
use Rattle.world_model.proofs.events.Tests.{eq_from, not_both}
use Rattle.world_model.proofs.wire.Fronts.{same_frames}
use Rattle.world_model.proofs.wire.FrontLists.{Begins, begins_behind, begins_mapped, whole_begins, left_begins, front_more, front_begun, front_next, front_filter}
use Rattle.world_model.proofs.basic.Ends.{sends_alike, ends_case, cut_case, fallen_case}
use Rattle.world_model.proofs.basic.LinkLives.{implied, served_none}
use Rattle.world_model.proofs.wire.LinkReplies.{given_by}
use Rattle.world_model.proofs.events.AllLinks.{IsFront, Keeps}

-- what is known of the connection before
abbrev pub is_orderly : Link → Bool
is_orderly link = is_sent_front link && (is_reply_front link && (handled_from 0 link.served && lives_rightly link))

abbrev answers_of : List Reply → List Sent
answers_of replies = map (λ reply. reply.to) replies

abbrev order_test : List Reply → List Sent → Bool
order_test got sent = is_front same_sent (answers_of got) (filter is_rep sent)

-- WHICH FRAMES ARE ANSWERED -----------------------------------------------------------------------

same_answered : (a b : Up) → same_up a b ≡ true → is_answered a ≡ is_answered b
same_answered up.Connect up.Connect same = refl
same_answered (up.Begin a) (up.Begin b) same = refl
same_answered (up.Call r k c) (up.Call s l d) same = refl
same_answered (up.Outcome x) (up.Outcome y) same = refl
same_answered up.End up.End same = refl
same_answered up.Close up.Close same = refl
same_answered a b same = absurd (let none : ⊥ = cc in none)

pub same_reps : (a b : Sent) → same_sent a b ≡ true → is_rep a ≡ is_rep b
same_reps a b same = same_answered a.frame b.frame (same_frames a b same)

-- a frame is answered exactly where its item has a reply
pub replied : (session : SessionId) (commits : ℕ) (frame : Up) (one : Item) → is_item_of frame one ≡ true → is_some (reply_of session commits one) ≡ is_answered frame
replied session commits up.Connect item.Connect is = refl
replied session commits (up.Begin settings) (item.Begin begun) is = refl
replied session commits (up.Call replay kept call) (item.Call marked served answers draws) is = refl
replied session commits (up.Call replay kept call) (item.Blocked served) is = refl
replied session commits (up.Outcome x) (item.Outcome asked result) is = refl
replied session commits up.End item.End is = refl
replied session commits up.Close item.Close is = refl
replied session commits frame one is = absurd (let none : ⊥ = cc in none)

crashed_stopped : (frame : Up) (one : Item) → is_crashed_item frame one ≡ true → is_stopped one ≡ true
crashed_stopped (up.Call replay kept call) (item.CrashedCall marked served) e = refl
crashed_stopped (up.Outcome x) (item.CrashedOutcome asked) e = refl
crashed_stopped up.Connect one e = absurd (let none : ⊥ = cc in none)
crashed_stopped (up.Begin settings) one e = absurd (let none : ⊥ = cc in none)
crashed_stopped up.End one e = absurd (let none : ⊥ = cc in none)
crashed_stopped up.Close one e = absurd (let none : ⊥ = cc in none)
crashed_stopped (up.Call replay kept call) one e = absurd (let none : ⊥ = cc in none)
crashed_stopped (up.Outcome x) one e = absurd (let none : ⊥ = cc in none)

pub same_some : (a b : Option Down) → same_replies a b ≡ true → is_some a ≡ is_some b
same_some None None same = refl
same_some (Some a) (Some b) same = refl
same_some None (Some b) same = absurd (let none : ⊥ = cc in none)
same_some (Some a) None same = absurd (let none : ⊥ = cc in none)

pub handled_replied : (commits : ℕ) (one : Handled) → is_stopped one.served.item ≡ false → is_handled commits one ≡ true → is_some one.reply ≡ is_rep one.sent
handled_replied commits one going is =
    by (or_cases (is_item_of one.sent.frame one.served.item && same_replies one.reply (reply_of one.served.session commits one.served.item)) (is_crashed_item one.sent.frame one.served.item && is_none one.reply) is)
  where
    by : ((is_item_of one.sent.frame one.served.item && same_replies one.reply (reply_of one.served.session commits one.served.item)) ≡ true) ⊎ ((is_crashed_item one.sent.frame one.served.item && is_none one.reply) ≡ true)
        → is_some one.reply ≡ is_rep one.sent
    by (inl here) =
        let parts = and_parts (is_item_of one.sent.frame one.served.item) (same_replies one.reply (reply_of one.served.session commits one.served.item)) here in
        same_some one.reply (reply_of one.served.session commits one.served.item) parts.1 ∙ replied one.served.session commits one.sent.frame one.served.item parts.0
    by (inr here) =
        let stopped = crashed_stopped one.sent.frame one.served.item (and_parts (is_crashed_item one.sent.frame one.served.item) (is_none one.reply) here).0 in
        absurd (not_both (is_stopped one.served.item) stopped going)

-- so many of them were served as there are replies
count_one : (sent : Sent) (reply : Option Down) (rep : Bool) (rest : List Reply) (reps : List Sent) → is_some reply ≡ rep → length rest ≡ length reps
    → length (cons_option (option_map (λ frame. record { to = sent; frame = frame }) reply) rest) ≡ length (cond rep (sent ∷ reps) reps)
count_one sent None false rest reps is same = same
count_one sent (Some frame) true rest reps is same = omega arith
count_one sent None true rest reps is same = absurd (let none : ⊥ = cc in none)
count_one sent (Some frame) false rest reps is same = absurd (let none : ⊥ = cc in none)

pub reps_served : (commits : ℕ) (served : List Handled) → list_any ends_life served ≡ false → handled_from commits served ≡ true
    → length (filter_map reply_to served) ≡ length (filter is_rep (map (λ one. one.sent) served))
reps_served commits [] none here = refl
reps_served commits (one ∷ others) none here =
    let parts = or_parts (ends_life one) (list_any ends_life others) none in
    let going = (or_parts (is_last one.served.item) (is_stopped one.served.item) parts.0).1 in
    let now : ℕ = counted_with commits one.served.item in
    let is = and_parts (is_handled now one) (handled_from now others) here in
    count_one one.sent one.reply (is_rep one.sent) (filter_map reply_to others) (filter is_rep (map (λ (h : Handled). h.sent) others)) (handled_replied now one going is.0) (reps_served now others parts.1 is.1)

-- ONE REPLY MORE ----------------------------------------------------------------------------------

-- the next reply is to the answered frame that is served
next_order : (link : Link) (first : Sent) (later : List Sent) → is_orderly link ≡ true → link.is_living ≡ true → link.is_open ≡ true → link.up ≡ first ∷ later → is_rep first ≡ true
    → order_test (link.taken ++ link.down) link.sent ≡ true → is_front same_sent (answers_of (link.taken ++ link.down) ++ first ∷ []) (filter is_rep link.sent) ≡ true
next_order link first later orderly living opens ups rep here =
    let one = and_parts (is_sent_front link) (is_reply_front link && (handled_from 0 link.served && lives_rightly link)) orderly in
    let two = and_parts (is_reply_front link) (handled_from 0 link.served && lives_rightly link) one.1 in
    let three = and_parts (handled_from 0 link.served) (lives_rightly link) two.1 in
    let served : List Sent = map (λ (h : Handled). h.sent) link.served in
    let sent : is_front same_sent (served ++ first ∷ later) link.sent ≡ true =
    subst (λ (frames : List Sent). is_front same_sent (served ++ frames) link.sent ≡ true) ups (and_parts (is_front same_sent (up_of link) link.sent) _ one.0).0 in
    let split : filter is_rep (served ++ first ∷ later) ≡ filter is_rep served ++ first ∷ filter is_rep later =
    filter-append is_rep served (first ∷ later) ∙ ap (λ (test : Bool). filter is_rep served ++ cond test (first ∷ filter is_rep later) (filter is_rep later)) rep in
    let reps : is_front same_sent (filter is_rep served ++ first ∷ filter is_rep later) (filter is_rep link.sent) ≡ true =
    subst (λ (frames : List Sent). is_front same_sent frames (filter is_rep link.sent) ≡ true) split (front_filter same_sent is_rep same_reps (served ++ first ∷ later) link.sent sent) in
    let all : length (link.taken ++ link.down) ≡ length (replies_of link) =
    eq_from (length (link.taken ++ link.down)) (length (replies_of link)) (implied link.is_open (length (link.taken ++ link.down) == length (replies_of link)) opens (and_parts (is_front same_reply (link.taken ++ link.down) (replies_of link)) _ two.0).1) in
    front_next same_sent (answers_of (link.taken ++ link.down)) (filter is_rep served) (filter is_rep link.sent) (filter is_rep later) first here reps
    (length-map (link.taken ++ link.down) (λ (reply : Reply). reply.to) ∙ (all ∙ reps_served 0 link.served (served_none link living three.1) three.0))

more_order : (opens : Bool) (reply : Option Down) (got : List Reply) (sent : List Sent) (first : Sent) → (opens ≡ true → is_some reply ≡ true → is_front same_sent (answers_of got ++ first ∷ []) (filter is_rep sent) ≡ true)
    → order_test got sent ≡ true → order_test (got ++ (if opens then given_by first reply else [])) sent ≡ true
more_order true (Some frame) got sent first next here =
    subst (λ (frames : List Sent). is_front same_sent frames (filter is_rep sent) ≡ true) (sym (map-append (λ (one : Reply). one.to) got (record { to = first; frame = frame } ∷ []))) (next refl refl)
more_order true None got sent first next here = subst (λ (replies : List Reply). order_test replies sent ≡ true) (sym (append-nil got)) here
more_order false reply got sent first next here = subst (λ (replies : List Reply). order_test replies sent ≡ true) (sym (append-nil got)) here

after_order : (links : List Link) (number : ℕ) (front : Front) (served : Served) (reply : Option Down) → IsFront links number front → is_orderly front.link ≡ true → (is_some reply ≡ true → is_rep front.first ≡ true) → is_answered_in_order front.link ≡ true
    → is_answered_in_order (after_front front served reply) ≡ true
after_order links number front served reply at orderly rep here =
    let link : Link = front.link in
    subst (λ (got : List Reply). order_test got link.sent ≡ true) (append_assoc link.taken link.down (on_its_way link front.first reply))
    (more_order link.is_open reply (link.taken ++ link.down) link.sent front.first (λ opens some. next_order link front.first front.later orderly at.living opens at.up (rep some) here) here)

served_order : (event : ℕ) (links : List Link) (number : ℕ) (front : Front) (served : Served) → IsFront links number front → is_orderly front.link ≡ true → is_item_of front.first.frame served.item ≡ true → is_answered_in_order front.link ≡ true
    → is_answered_in_order (handled event front served) ≡ true
served_order event links number front served at orderly is here = by (is_blocked served.item)
  where
    commits : ℕ
    commits = commits_after front.link served.item

    reply : Option Down
    reply = reply_of served.session commits served.item

    after : is_answered_in_order (after_front front served reply) ≡ true
    after = after_order links number front served reply at orderly (λ some. sym (replied served.session commits front.first.frame served.item is) ∙ some) here

    by : (blocked : Bool) → is_answered_in_order (if blocked then ends event (after_front front served reply) else after_front front served reply) ≡ true
    by true = ends_case (λ one. is_answered_in_order one ≡ true) event (after_front front served reply) (λ opens. after) (λ closed. after)
    by false = after

-- THE OTHERS --------------------------------------------------------------------------------------

sends_order : (got : List Reply) (sent frames : List Sent) → order_test got sent ≡ true → order_test got (sent ++ frames) ≡ true
sends_order got sent frames here =
    subst (λ (reps : List Sent). is_front same_sent (answers_of got) reps ≡ true) (sym (filter-append is_rep sent frames)) (front_more same_sent (answers_of got) (filter is_rep sent) (filter is_rep frames) here)

takes_order : (link : Link) (reply : Reply) (left : List Reply) → link.down ≡ reply ∷ left → is_answered_in_order link ≡ true → order_test ((link.taken ++ reply ∷ []) ++ left) link.sent ≡ true
takes_order link reply left down here =
    let same : link.taken ++ link.down ≡ (link.taken ++ reply ∷ []) ++ left = ap (λ (replies : List Reply). link.taken ++ replies) down ∙ sym (append_assoc link.taken (reply ∷ []) left) in
    subst (λ (got : List Reply). order_test got link.sent ≡ true) same here

lost_order : (link : Link) (left : List Reply) → Begins left link.down → is_answered_in_order link ≡ true → order_test (link.taken ++ left) link.sent ≡ true
lost_order link left b here =
    front_begun same_sent (answers_of (link.taken ++ left)) (answers_of (link.taken ++ link.down)) (filter is_rep link.sent)
    (begins_mapped (λ (reply : Reply). reply.to) (link.taken ++ left) (link.taken ++ link.down) (begins_behind link.taken left link.down b)) here

fallen_order : (event : ℕ) (link : Link) → is_answered_in_order link ≡ true → is_answered_in_order (fallen_link event link) ≡ true
fallen_order event link here =
    let kept = lost_order link (if link.is_cut then link.down else []) (left_begins link.is_cut link.down) here in
    fallen_case (λ one. is_answered_in_order one ≡ true) event link (λ opens. kept) (λ closed. kept)

pub order_keeps : (m : Machine) → Keeps m is_orderly is_answered_in_order
order_keeps m = record {
  at_new = λ up. refl;
  at_sends = λ frames link here.
      let more = sends_order (link.taken ++ link.down) link.sent frames here in
      sends_alike (λ one. is_answered_in_order one ≡ true) m.event frames link more more;
  at_takes = λ reply left link old here down. takes_order link reply left down here;
  at_serves = λ number front served at ordinary old here.
      served_order m.event m.links number front served at old (and_parts (is_of_front m front served) (is_item_of front.first.frame served.item) ordinary).1 here;
  at_stops = λ number after front served at stopped old here.
      fallen_order m.event (after_front front served None)
      (after_order m.links number front served None at old (λ some. absurd (let none : ⊥ = cc in none)) here);
  at_cuts = λ up down link opens here.
      cut_case (λ one. is_answered_in_order one ≡ true) m.event up down link opens (lost_order link (whole_front down_size down link.down) (whole_begins down_size down link.down) here);
  at_reaps = λ link orphan here. here;
  at_falls = λ link here. fallen_order m.event link here;
}
