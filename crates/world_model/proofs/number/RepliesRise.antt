-- The numbers of the identifiers in the replies of a connection rise, up to what its session
-- committed.
use Rattle.std.proofs.Common.{◌≡◌, refl, sym, ap, subst, ◌∙◌, Bool, true, false, ℕ, ◌+◌, ◌≤◌, ◌&&◌, List, [], ◌∷◌, ◌++◌, filter_map, fold, count_by, Option, Some, None, ◌⊎◌, inl, inr, arith, if◌then◌else◌, le_refl}
use Rattle.std.specs.Prelude.{◌==◌, is_none, nat_le, option_map}
use Rattle.std.specs.List.{cons_option}
use Rattle.std.specs.Option.{option_or, option_map_or}
use Rattle.std.proofs.lemmas.Bool.{and_parts, and_from, or_cases}
use Rattle.std.proofs.lemmas.Bool.Decides.{nat_tests}
use Rattle.svc_values.specs.declared.entry.SessionId.{SessionId}
use Rattle.svc_values.specs.declared.entry.Ltxid.{Ltxid}
use Rattle.svc_values.specs.declared.frame.Down.{Down}
use Rattle.svc_values.specs.declared.frame.Down.TheVariants as down
use Rattle.svc_values.specs.meaning.Identifiers.{same_ltxid}
use Rattle.svc_values.specs.meaning.Same.{same_answers, same_draws}
use Rattle.client_model.specs.declared.input.Input.TheVariants.{Took}
use Rattle.outage_schedule.specs.declared.item.Item.{Item}
use Rattle.outage_schedule.specs.declared.item.Item.TheVariants as item
use Rattle.outage_schedule.specs.declared.note.AskResult.{AskResult}
use Rattle.outage_schedule.specs.declared.note.AskResult.TheVariants as told
use Rattle.world_model.specs.meaning.Frames.{Reply, Handled}
use Rattle.world_model.specs.meaning.Links.{Link, told_by}
use Rattle.world_model.specs.meaning.Serving.{is_commit, is_item_of, reply_of, outcome_frame}
use Rattle.world_model.specs.meaning.Crashing.{is_crashed_item}
use Rattle.world_model.specs.Sames.{same_sent, same_down, same_reply, is_front}
use Rattle.world_model.specs.records.Wire.{reply_to, replies_of, is_reply_front, same_replies, is_handled, counted_with, handled_from}
use Rattle.world_model.specs.records.Number.{told_in, last_told}
use Rattle.world_model.proofs.events.Tests.{eq_from, eq_to, le_from, le_to}
use Rattle.world_model.proofs.wire.LinkHandled.{commits_behind, is_commit_of, behind_is}
use Rattle.world_model.proofs.basic.LinkLives.{counts_commits}

-- NUMBERS -----------------------------------------------------------------------------------------

abbrev pub number_in : Option Ltxid → ℕ
number_in held = option_map_or (λ x. x.number) held 0

-- the number that is known behind a frame
abbrev pub number_by : ℕ → Down → ℕ
number_by low frame = option_map_or (λ x. x.number) (told_by (Took frame true)) low

-- they rise from the one number, up to the other
abbrev pub rises_in : ℕ → ℕ → List Reply → Bool
rises_in high low [] = true
rises_in high low (reply ∷ replies) = nat_le low (number_by low reply.frame) && (nat_le (number_by low reply.frame) high && rises_in high (number_by low reply.frame) replies)

-- ALIKE -------------------------------------------------------------------------------------------

number_same : (x y : Ltxid) → same_ltxid x y ≡ true → x.number ≡ y.number
number_same x y same = grind (arith, nat_tests)

pub by_same : (low : ℕ) (a b : Down) → same_down a b ≡ true → number_by low a ≡ number_by low b
by_same low (down.Hello x) (down.Hello y) same = number_same x y same
by_same low (down.Reply a d x) (down.Reply b e y) same = number_same x y (and_parts (same_draws d e) (same_ltxid x y) (and_parts (same_answers a b) (same_draws d e && same_ltxid x y) same).1).1
by_same low (down.OutcomeIs a b) (down.OutcomeIs c d) same = refl
by_same low (down.OutcomeRefused a b) (down.OutcomeRefused c d) same = refl
by_same low down.Blocked down.Blocked same = refl
by_same low (down.Refused a) (down.Refused b) same = refl
by_same low a b same = absurd (let none : ⊥ = cc in none)

pub front_rises : (high low : ℕ) (front all : List Reply) → is_front same_reply front all ≡ true → rises_in high low all ≡ true → rises_in high low front ≡ true
front_rises high low [] all is here = refl
front_rises high low (x ∷ xs) [] is here = absurd (let none : ⊥ = cc in none)
front_rises high low (x ∷ xs) (y ∷ ys) is here =
    let one = and_parts (same_reply x y) (is_front same_reply xs ys) is in
    let same : number_by low y.frame ≡ number_by low x.frame = sym (by_same low x.frame y.frame (and_parts (same_sent x.to y.to) (same_down x.frame y.frame) one.0).1) in
    let two : (nat_le low (number_by low x.frame) && (nat_le (number_by low x.frame) high && rises_in high (number_by low x.frame) ys)) ≡ true =
    subst (λ (n : ℕ). (nat_le low n && (nat_le n high && rises_in high n ys)) ≡ true) same here in
    let three = and_parts (nat_le low (number_by low x.frame)) (nat_le (number_by low x.frame) high && rises_in high (number_by low x.frame) ys) two in
    let four = and_parts (nat_le (number_by low x.frame) high) (rises_in high (number_by low x.frame) ys) three.1 in
    and_from (nat_le low (number_by low x.frame)) (nat_le (number_by low x.frame) high && rises_in high (number_by low x.frame) xs) three.0
    (and_from (nat_le (number_by low x.frame) high) (rises_in high (number_by low x.frame) xs) four.0 (front_rises high (number_by low x.frame) xs ys one.1 four.1))

-- WHAT WAS SERVED ---------------------------------------------------------------------------------

-- the number in a frame, if one is there, is this one
abbrev pub has_number : ℕ → Down → Bool
has_number commits frame = option_map_or (λ x. x.number == commits) (told_by (Took frame true)) true

abbrev pub opt_number : ℕ → Option Down → Bool
opt_number commits reply = option_map_or (has_number commits) reply true

pub same_number : (commits : ℕ) (a b : Down) → same_down a b ≡ true → has_number commits b ≡ true → has_number commits a ≡ true
same_number commits (down.Hello x) (down.Hello y) same is = eq_to x.number commits (number_same x y same ∙ eq_from y.number commits is)
same_number commits (down.Reply a d x) (down.Reply b e y) same is =
    eq_to x.number commits (number_same x y (and_parts (same_draws d e) (same_ltxid x y) (and_parts (same_answers a b) (same_draws d e && same_ltxid x y) same).1).1 ∙ eq_from y.number commits is)
same_number commits (down.OutcomeIs a b) (down.OutcomeIs c d) same is = refl
same_number commits (down.OutcomeRefused a b) (down.OutcomeRefused c d) same is = refl
same_number commits down.Blocked down.Blocked same is = refl
same_number commits (down.Refused a) (down.Refused b) same is = refl
same_number commits a b same is = absurd (let none : ⊥ = cc in none)

outcome_number : (commits : ℕ) (result : AskResult) → has_number commits (outcome_frame result) ≡ true
outcome_number commits (told.Committed completed) = refl
outcome_number commits told.Uncommitted = refl
outcome_number commits (told.ServerAhead next) = refl
outcome_number commits (told.ClientAhead next) = refl
outcome_number commits (told.Forgotten horizon) = refl

reply_number : (session : SessionId) (commits : ℕ) (one : Item) → opt_number commits (reply_of session commits one) ≡ true
reply_number session commits item.Connect = eq_to commits commits refl
reply_number session commits (item.Call marked call answers draws) = eq_to commits commits refl
reply_number session commits (item.Outcome asked result) = outcome_number commits result
reply_number session commits one = refl

same_opt : (commits : ℕ) (a b : Option Down) → same_replies a b ≡ true → opt_number commits b ≡ true → opt_number commits a ≡ true
same_opt commits None None same is = refl
same_opt commits (Some a) (Some b) same is = same_number commits a b same is
same_opt commits None (Some b) same is = absurd (let none : ⊥ = cc in none)
same_opt commits (Some a) None same is = absurd (let none : ⊥ = cc in none)

none_number : (commits : ℕ) (reply : Option Down) → is_none reply ≡ true → opt_number commits reply ≡ true
none_number commits None is = refl
none_number commits (Some a) is = absurd (let none : ⊥ = cc in none)

pub handled_number : (commits : ℕ) (one : Handled) → is_handled commits one ≡ true → opt_number commits one.reply ≡ true
handled_number commits one is =
    by (or_cases (is_item_of one.sent.frame one.served.item && same_replies one.reply (reply_of one.served.session commits one.served.item)) (is_crashed_item one.sent.frame one.served.item && is_none one.reply) is)
  where
    by : ((is_item_of one.sent.frame one.served.item && same_replies one.reply (reply_of one.served.session commits one.served.item)) ≡ true) ⊎ ((is_crashed_item one.sent.frame one.served.item && is_none one.reply) ≡ true)
        → opt_number commits one.reply ≡ true
    by (inl here) =
        same_opt commits one.reply (reply_of one.served.session commits one.served.item) (and_parts (is_item_of one.sent.frame one.served.item) _ here).1 (reply_number one.served.session commits one.served.item)
    by (inr here) = none_number commits one.reply (and_parts (is_crashed_item one.sent.frame one.served.item) (is_none one.reply) here).1

counted_more : (commits : ℕ) (one : Item) → commits ≤ counted_with commits one
counted_more commits one = by (is_commit one)
  where
    by : (test : Bool) → commits ≤ (if test then commits + 1 else commits)
    by true = omega arith
    by false = omega arith

behind_more : (commits : ℕ) (served : List Handled) → commits ≤ commits_behind commits served
behind_more commits [] = le_refl commits
behind_more commits (one ∷ others) =
    let first : commits ≤ counted_with commits one.served.item = counted_more commits one.served.item in
    let later : counted_with commits one.served.item ≤ commits_behind (counted_with commits one.served.item) others = behind_more (counted_with commits one.served.item) others in
    omega arith

-- one reply more in front
frame_rises : (high low now : ℕ) (one : Handled) (frame : Down) (rest : List Reply) (found : Option Ltxid) → told_by (Took frame true) ≡ found → option_map_or (λ x. x.number == now) found true ≡ true → low ≤ now → now ≤ high
    → ((between : ℕ) → between ≤ now → rises_in high between rest ≡ true) → rises_in high low (record { to = one.sent; frame = frame } ∷ rest) ≡ true
frame_rises high low now one frame rest None is here below most later =
    subst (λ (n : ℕ). (nat_le low n && (nat_le n high && rises_in high n rest)) ≡ true) (sym (ap (λ (x : Option Ltxid). option_map_or (λ y. y.number) x low) is))
    (and_from (nat_le low low) (nat_le low high && rises_in high low rest) (le_to low low (le_refl low)) (and_from (nat_le low high) (rises_in high low rest) (le_to low high (omega arith)) (later low below)))
frame_rises high low now one frame rest (Some x) is here below most later =
    let same : x.number ≡ now = eq_from x.number now here in
    subst (λ (n : ℕ). (nat_le low n && (nat_le n high && rises_in high n rest)) ≡ true) (sym (ap (λ (y : Option Ltxid). option_map_or (λ z. z.number) y low) is))
    (and_from (nat_le low x.number) (nat_le x.number high && rises_in high x.number rest) (le_to low x.number (omega arith))
    (and_from (nat_le x.number high) (rises_in high x.number rest) (le_to x.number high (omega arith)) (later x.number (omega arith))))

cons_rises : (high low now : ℕ) (one : Handled) (rest : List Reply) (reply : Option Down) → opt_number now reply ≡ true → low ≤ now → now ≤ high → ((between : ℕ) → between ≤ now → rises_in high between rest ≡ true)
    → rises_in high low (cons_option (option_map (λ frame. record { to = one.sent; frame = frame }) reply) rest) ≡ true
cons_rises high low now one rest None here below most later = later low below
cons_rises high low now one rest (Some frame) here below most later = frame_rises high low now one frame rest (told_by (Took frame true)) refl here below most later

served_rises : (high low commits : ℕ) (served : List Handled) → low ≤ commits → commits_behind commits served ≤ high → handled_from commits served ≡ true → rises_in high low (filter_map reply_to served) ≡ true
served_rises high low commits [] below most here = refl
served_rises high low commits (one ∷ others) below most here =
    let now : ℕ = counted_with commits one.served.item in
    let parts = and_parts (is_handled now one) (handled_from now others) here in
    let first : commits ≤ now = counted_more commits one.served.item in
    let later : now ≤ commits_behind now others = behind_more now others in
    cons_rises high low now one (filter_map reply_to others) one.reply (handled_number now one parts.0) (omega arith) (omega arith) (λ between under. served_rises high between now others under most parts.1)

-- WHAT IS TAKEN NEXT ------------------------------------------------------------------------------

pub told_number : (held : Option Ltxid) (reply : Reply) → number_by (number_in held) reply.frame ≡ number_in (told_in held reply)
told_number held reply = by (told_by (Took reply.frame true))
  where
    by : (found : Option Ltxid) → option_map_or (λ x. x.number) found (number_in held) ≡ number_in (option_or found held)
    by None = refl
    by (Some x) = refl

behind_taken : (high : ℕ) (held : Option Ltxid) (taken later : List Reply) → rises_in high (number_in held) (taken ++ later) ≡ true → rises_in high (number_in (fold told_in held taken)) later ≡ true
behind_taken high held [] later here = here
behind_taken high held (reply ∷ taken) later here =
    let next : ℕ = number_by (number_in held) reply.frame in
    let parts = and_parts (nat_le (number_in held) next) (nat_le next high && rises_in high next (taken ++ later)) here in
    behind_taken high (told_in held reply) taken later
    (subst (λ (n : ℕ). rises_in high n (taken ++ later) ≡ true) (told_number held reply) (and_parts (nat_le next high) (rises_in high next (taken ++ later)) parts.1).1)

-- the number in the reply that is taken next is not below the one that was told last, nor above
-- what the session committed
pub next_number : (link : Link) (reply : Reply) (left : List Reply) (x : Ltxid) → counts_commits link ≡ true → handled_from 0 link.served ≡ true → is_reply_front link ≡ true → link.down ≡ reply ∷ left → told_by (Took reply.frame true) ≡ Some x
    → (number_in (last_told link.taken) ≤ x.number) × (x.number ≤ link.commits)
next_number link reply left x counts handled wire down tells =
    let high : ℕ = commits_behind 0 link.served in
    let commits : link.commits ≡ count_by is_commit_of link.served = eq_from link.commits (count_by is_commit_of link.served) counts in
    let behind : high ≡ 0 + count_by is_commit_of link.served = behind_is 0 link.served in
    let all : rises_in high 0 (link.taken ++ reply ∷ left) ≡ true =
    subst (λ (replies : List Reply). rises_in high 0 (link.taken ++ replies) ≡ true) down
    (front_rises high 0 (link.taken ++ link.down) (replies_of link) (and_parts (is_front same_reply (link.taken ++ link.down) (replies_of link)) _ wire).0 (served_rises high 0 0 link.served (le_refl 0) (le_refl high) handled)) in
    let low : ℕ = number_in (last_told link.taken) in
    let next : rises_in high low (reply ∷ left) ≡ true = behind_taken high None link.taken (reply ∷ left) all in
    let same : number_by low reply.frame ≡ x.number = ap (λ (y : Option Ltxid). option_map_or (λ z. z.number) y low) tells in
    let one = and_parts (nat_le low (number_by low reply.frame)) (nat_le (number_by low reply.frame) high && rises_in high (number_by low reply.frame) left) next in
    let least : low ≤ number_by low reply.frame = le_from low (number_by low reply.frame) one.0 in
    let most : number_by low reply.frame ≤ high = le_from (number_by low reply.frame) high (and_parts (nat_le (number_by low reply.frame) high) (rises_in high (number_by low reply.frame) left) one.1).0 in
    ((let a : low ≤ x.number = omega arith in a), (let b : x.number ≤ link.commits = omega arith in b))
