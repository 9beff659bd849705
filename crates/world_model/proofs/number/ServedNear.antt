-- As many answered frames were served as were taken, or one more: what Wire says of a connection
-- has it so.
use Rattle.std.proofs.Common.{◌≡◌, refl, sym, ap, ◌∙◌, Bool, true, false, ℕ, ◌+◌, ◌≤◌, ◌&&◌, cond, length, length-append, List, [], ◌∷◌, ◌++◌, map, filter, filter_map, Option, Some, None, ◌⊎◌, inl, inr, arith, le_refl}
use Rattle.std.specs.Prelude.{nat_le, is_some, is_none, option_map}
use Rattle.std.specs.List.{list_all, cons_option}
use Rattle.std.proofs.lemmas.Bool.{and_parts, and_from, or_cases}
use Rattle.std.proofs.lemmas.List.Elements.{filter-append}
use Rattle.std.proofs.lemmas.List.Sums.{length-filter}
use Rattle.svc_values.specs.declared.frame.Down.{Down}
use Rattle.world_model.specs.meaning.Frames.{Sent, Reply, Handled}
use Rattle.world_model.specs.meaning.Links.{Link}
use Rattle.world_model.specs.meaning.Serving.{is_item_of, reply_of}
use Rattle.world_model.specs.meaning.Crashing.{is_crashed_item}
use Rattle.world_model.specs.Parts.{is_rep, count_reps}
use Rattle.world_model.specs.Sames.{same_sent, same_reply, is_front}
use Rattle.world_model.specs.records.Wire.{up_of, reply_to, replies_of, is_sent_front, is_reply_front, same_replies, is_handled, counted_with, handled_from, one_is_out}
use Rattle.world_model.specs.records.Number.{served_near}
use Rattle.world_model.proofs.events.Tests.{le_from, le_to}
use Rattle.world_model.proofs.wire.FrontLists.{front_filter}
use Rattle.world_model.proofs.wire.LinkOrder.{same_reps, same_some, replied}

-- REPLIES -----------------------------------------------------------------------------------------

-- a reply is to an answered frame
pub reply_rep : (commits : ℕ) (one : Handled) → is_handled commits one ≡ true → is_some one.reply ≡ true → is_rep one.sent ≡ true
reply_rep commits one is some =
    by (or_cases (is_item_of one.sent.frame one.served.item && same_replies one.reply (reply_of one.served.session commits one.served.item)) (is_crashed_item one.sent.frame one.served.item && is_none one.reply) is)
  where
    not_none : (reply : Option Down) → is_none reply ≡ true → is_some reply ≡ true → is_rep one.sent ≡ true
    not_none None none some = absurd (let never : ⊥ = cc in never)
    not_none (Some frame) none some = absurd (let never : ⊥ = cc in never)

    by : ((is_item_of one.sent.frame one.served.item && same_replies one.reply (reply_of one.served.session commits one.served.item)) ≡ true) ⊎ ((is_crashed_item one.sent.frame one.served.item && is_none one.reply) ≡ true)
        → is_rep one.sent ≡ true
    by (inl here) =
        let parts = and_parts (is_item_of one.sent.frame one.served.item) (same_replies one.reply (reply_of one.served.session commits one.served.item)) here in
        sym (same_some one.reply (reply_of one.served.session commits one.served.item) parts.1 ∙ replied one.served.session commits one.sent.frame one.served.item parts.0) ∙ some
    by (inr here) = not_none one.reply (and_parts (is_crashed_item one.sent.frame one.served.item) (is_none one.reply) here).1 some

few_one : (one : Handled) (reply : Option Down) (rep : Bool) (rest : List Reply) (reps : List Handled) → (is_some reply ≡ true → rep ≡ true) → length rest ≤ length reps
    → length (cons_option (option_map (λ frame. record { to = one.sent; frame = frame }) reply) rest) ≤ length (cond rep (one ∷ reps) reps)
few_one one None true rest reps follows few = let more : length rest ≤ length (one ∷ reps) = omega arith in more
few_one one None false rest reps follows few = few
few_one one (Some frame) true rest reps follows few =
    let reply : Reply = record { to = one.sent; frame = frame } in
    let more : length (reply ∷ rest) ≤ length (one ∷ reps) = omega arith in more
few_one one (Some frame) false rest reps follows few = absurd (let never : false ≡ true = follows refl in let none : ⊥ = cc in none)

-- no more replies than answered frames that were served
pub few_replies : (commits : ℕ) (served : List Handled) → handled_from commits served ≡ true → length (filter_map reply_to served) ≤ length (filter (λ one. is_rep one.sent) served)
few_replies commits [] here = le_refl 0
few_replies commits (one ∷ others) here =
    let now : ℕ = counted_with commits one.served.item in
    let parts = and_parts (is_handled now one) (handled_from now others) here in
    few_one one one.reply (is_rep one.sent) (filter_map reply_to others) (filter (λ h. is_rep h.sent) others) (reply_rep now one parts.0) (few_replies now others parts.1)

-- LENGTHS -----------------------------------------------------------------------------------------

pub front_long : {A : Type 0} (same : A → A → Bool) (xs ys : List A) → is_front same xs ys ≡ true → length xs ≤ length ys
front_long same [] ys is = let none : 0 ≤ length ys = omega arith in none
front_long same (x ∷ xs) [] is = absurd (let none : ⊥ = cc in none)
front_long same (x ∷ xs) (y ∷ ys) is =
    let rest : length xs ≤ length ys = front_long same xs ys (and_parts (same x y) (is_front same xs ys) is).1 in
    let more : length (x ∷ xs) ≤ length (y ∷ ys) = omega arith in more

pub reps_sent : (served : List Handled) → length (filter (λ one. is_rep one.sent) served) ≡ length (filter is_rep (map (λ one. one.sent) served))
reps_sent [] = refl
reps_sent (one ∷ others) = by (is_rep one.sent) (reps_sent others)
  where
    by : (rep : Bool) → length (filter (λ h. is_rep h.sent) others) ≡ length (filter is_rep (map (λ h. h.sent) others))
        → length (cond rep (one ∷ filter (λ h. is_rep h.sent) others) (filter (λ h. is_rep h.sent) others)) ≡ length (cond rep (one.sent ∷ filter is_rep (map (λ h. h.sent) others)) (filter is_rep (map (λ h. h.sent) others)))
    by true rest = let more : length (one ∷ filter (λ h. is_rep h.sent) others) ≡ length (one.sent ∷ filter is_rep (map (λ h. h.sent) others)) = omega arith in more
    by false rest = rest

-- ONE CONNECTION ----------------------------------------------------------------------------------

near_by : (link : Link) → is_sent_front link ≡ true → is_reply_front link ≡ true → handled_from 0 link.served ≡ true → one_is_out link ≡ true → served_near link ≡ true
near_by link sent replies handled out =
    let got : length (link.taken ++ link.down) ≤ length (replies_of link) = front_long same_reply (link.taken ++ link.down) (replies_of link) (and_parts (is_front same_reply (link.taken ++ link.down) (replies_of link)) _ replies).0 in
    let both : length (link.taken ++ link.down) ≡ length link.taken + length link.down = length-append link.taken link.down in
    let few : length (replies_of link) ≤ length (filter (λ one. is_rep one.sent) link.served) = few_replies 0 link.served handled in
    let frames : List Sent = map (λ one. one.sent) link.served in
    let same : length (filter (λ one. is_rep one.sent) link.served) ≡ length (filter is_rep frames) = reps_sent link.served in
    let front : is_front same_sent (filter is_rep (up_of link)) (filter is_rep link.sent) ≡ true = front_filter same_sent is_rep same_reps (up_of link) link.sent (and_parts (is_front same_sent (up_of link) link.sent) _ sent).0 in
    let long : length (filter is_rep (up_of link)) ≤ length (filter is_rep link.sent) = front_long same_sent (filter is_rep (up_of link)) (filter is_rep link.sent) front in
    let split : length (filter is_rep (up_of link)) ≡ length (filter is_rep frames) + length (filter is_rep link.up) = ap length (filter-append is_rep frames link.up) ∙ length-append (filter is_rep frames) (filter is_rep link.up) in
    let count : count_reps link.sent ≡ length (filter is_rep link.sent) = sym (length-filter is_rep link.sent) in
    let most : count_reps link.sent ≤ length link.taken + 1 = le_from (count_reps link.sent) (length link.taken + 1) (and_parts (nat_le (length link.taken) (count_reps link.sent)) (nat_le (count_reps link.sent) (length link.taken + 1)) out).1 in
    and_from (nat_le (length link.taken) (length (filter (λ one. is_rep one.sent) link.served))) (nat_le (length (filter (λ one. is_rep one.sent) link.served)) (length link.taken + 1))
    (le_to (length link.taken) (length (filter (λ one. is_rep one.sent) link.served)) (omega arith)) (le_to (length (filter (λ one. is_rep one.sent) link.served)) (length link.taken + 1) (omega arith))

pub all_near : (links : List Link) → list_all is_sent_front links ≡ true → list_all is_reply_front links ≡ true → list_all (λ link. handled_from 0 link.served) links ≡ true → list_all one_is_out links ≡ true → list_all served_near links ≡ true
all_near [] sent replies handled out = refl
all_near (link ∷ links) sent replies handled out =
    let one = and_parts (is_sent_front link) (list_all is_sent_front links) sent in
    let two = and_parts (is_reply_front link) (list_all is_reply_front links) replies in
    let three = and_parts (handled_from 0 link.served) (list_all (λ other. handled_from 0 other.served) links) handled in
    let four = and_parts (one_is_out link) (list_all one_is_out links) out in
    and_from (served_near link) (list_all served_near links) (near_by link one.0 two.0 three.0 four.0) (all_near links one.1 two.1 three.1 four.1)
