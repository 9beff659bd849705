-- The identifier that comes with a reply is of the connection's session.
use Rattle.std.proofs.Common.{◌≡◌, refl, sym, subst, ◌∙◌, Bool, true, ℕ, ◌&&◌, List, [], ◌∷◌, ◌++◌, filter_map, Option, Some, None, ◌⊎◌, inl, inr}
use Rattle.std.specs.Prelude.{is_none, option_map}
use Rattle.std.specs.List.{list_all, cons_option}
use Rattle.std.specs.Option.{option_or, option_map_or}
use Rattle.std.proofs.lemmas.Bool.{and_parts, and_from, or_cases}
use Rattle.std.proofs.lemmas.Bool.Decides.{nat_tests}
use Rattle.std.proofs.Common.{arith}
use Rattle.std.proofs.lemmas.List.Folds.{list_all-append}
use Rattle.svc_values.specs.declared.entry.SessionId.{SessionId}
use Rattle.svc_values.specs.declared.entry.Ltxid.{Ltxid}
use Rattle.svc_values.specs.declared.frame.Down.{Down}
use Rattle.svc_values.specs.declared.frame.Down.TheVariants as down
use Rattle.svc_values.specs.meaning.Identifiers.{same_ltxid, session_of}
use Rattle.svc_values.specs.meaning.Same.{same_answers, same_draws}
use Rattle.client_model.specs.declared.input.Input.TheVariants.{Took}
use Rattle.outage_schedule.specs.declared.item.Item.{Item}
use Rattle.outage_schedule.specs.declared.item.Item.TheVariants as item
use Rattle.outage_schedule.specs.declared.note.AskResult.{AskResult}
use Rattle.outage_schedule.specs.declared.note.AskResult.TheVariants as told
use Rattle.world_model.specs.meaning.Frames.{Reply, Handled}
use Rattle.world_model.specs.meaning.Links.{Link, told_by}
use Rattle.world_model.specs.meaning.Serving.{is_item_of, reply_of, outcome_frame}
use Rattle.world_model.specs.meaning.Crashing.{is_crashed_item}
use Rattle.world_model.specs.Sames.{same_sent, same_down, same_reply, is_front}
use Rattle.world_model.specs.records.Wire.{reply_to, replies_of, is_reply_front, same_replies, is_handled, counted_with, handled_from}
use Rattle.world_model.proofs.basic.LinkNamed.{is_of_one, held_of}

-- the identifier in a frame, if one is there, is of the session
abbrev pub tells : Option SessionId → Down → Bool
tells session (down.Hello x) = is_of_one session (session_of x)
tells session (down.Reply answers draws x) = is_of_one session (session_of x)
tells session _ = true

abbrev pub reply_tells : Option SessionId → Reply → Bool
reply_tells session reply = tells session reply.frame

of_same : (session : Option SessionId) (x y : Ltxid) → same_ltxid x y ≡ true → is_of_one session (session_of y) ≡ true → is_of_one session (session_of x) ≡ true
of_same session x y same is = subst (λ (s : SessionId). is_of_one session s ≡ true) (sym (by x y same)) is
  where
    by : (x y : Ltxid) → same_ltxid x y ≡ true → session_of x ≡ session_of y
    by x y same = λ i. record { incarnation = one i; session = other i }
      where
        one : x.incarnation ≡ y.incarnation
        one = grind (arith, nat_tests)

        other : x.session ≡ y.session
        other = grind (arith, nat_tests)

same_tells : (session : Option SessionId) (a b : Down) → same_down a b ≡ true → tells session b ≡ true → tells session a ≡ true
same_tells session (down.Hello x) (down.Hello y) same is = of_same session x y same is
same_tells session (down.Reply a d x) (down.Reply b e y) same is =
    of_same session x y (and_parts (same_draws d e) (same_ltxid x y) (and_parts (same_answers a b) (same_draws d e && same_ltxid x y) same).1).1 is
same_tells session (down.Hello x) (down.Reply b e y) same is = absurd (let never : ⊥ = cc in never)
same_tells session (down.Hello x) (down.OutcomeIs b e) same is = absurd (let never : ⊥ = cc in never)
same_tells session (down.Hello x) (down.OutcomeRefused b e) same is = absurd (let never : ⊥ = cc in never)
same_tells session (down.Hello x) down.Blocked same is = absurd (let never : ⊥ = cc in never)
same_tells session (down.Hello x) (down.Refused cause) same is = absurd (let never : ⊥ = cc in never)
same_tells session (down.Reply a d x) (down.Hello y) same is = absurd (let never : ⊥ = cc in never)
same_tells session (down.Reply a d x) (down.OutcomeIs b e) same is = absurd (let never : ⊥ = cc in never)
same_tells session (down.Reply a d x) (down.OutcomeRefused b e) same is = absurd (let never : ⊥ = cc in never)
same_tells session (down.Reply a d x) down.Blocked same is = absurd (let never : ⊥ = cc in never)
same_tells session (down.Reply a d x) (down.Refused cause) same is = absurd (let never : ⊥ = cc in never)
same_tells session a b same is = refl

pub front_tells : (session : Option SessionId) (front all : List Reply) → is_front same_reply front all ≡ true → list_all (reply_tells session) all ≡ true → list_all (reply_tells session) front ≡ true
front_tells session [] all is tell = refl
front_tells session (x ∷ xs) [] is tell = absurd (let never : ⊥ = cc in never)
front_tells session (x ∷ xs) (y ∷ ys) is tell =
    let parts = and_parts (same_reply x y) (is_front same_reply xs ys) is in
    let first = and_parts (reply_tells session y) (list_all (reply_tells session) ys) tell in
    and_from (reply_tells session x) (list_all (reply_tells session) xs) (same_tells session x.frame y.frame (and_parts (same_sent x.to y.to) (same_down x.frame y.frame) parts.0).1 first.0)
    (front_tells session xs ys parts.1 first.1)

-- what a session replies
outcome_tells : (session : Option SessionId) (result : AskResult) → tells session (outcome_frame result) ≡ true
outcome_tells session (told.Committed completed) = refl
outcome_tells session told.Uncommitted = refl
outcome_tells session (told.ServerAhead next) = refl
outcome_tells session (told.ClientAhead next) = refl
outcome_tells session (told.Forgotten horizon) = refl

abbrev opt_tells : Option SessionId → Option Down → Bool
opt_tells session reply = option_map_or (tells session) reply true

reply_of_tells : (session : Option SessionId) (own : SessionId) (commits : ℕ) (one : Item) → is_of_one session own ≡ true → opt_tells session (reply_of own commits one) ≡ true
reply_of_tells session own commits item.Connect is = is
reply_of_tells session own commits (item.Call marked call answers draws) is = is
reply_of_tells session own commits (item.Outcome asked result) is = outcome_tells session result
reply_of_tells session own commits one is = refl

same_opt : (session : Option SessionId) (a b : Option Down) → same_replies a b ≡ true → opt_tells session b ≡ true → opt_tells session a ≡ true
same_opt session None None same is = refl
same_opt session (Some a) (Some b) same is = same_tells session a b same is
same_opt session None (Some b) same is = absurd (let never : ⊥ = cc in never)
same_opt session (Some a) None same is = absurd (let never : ⊥ = cc in never)

none_tells : (session : Option SessionId) (reply : Option Down) → is_none reply ≡ true → opt_tells session reply ≡ true
none_tells session None is = refl
none_tells session (Some a) is = absurd (let never : ⊥ = cc in never)

handled_tells : (session : Option SessionId) (commits : ℕ) (one : Handled) → is_of_one session one.served.session ≡ true → is_handled commits one ≡ true → opt_tells session one.reply ≡ true
handled_tells session commits one own is =
    by (or_cases (is_item_of one.sent.frame one.served.item && same_replies one.reply (reply_of one.served.session commits one.served.item)) (is_crashed_item one.sent.frame one.served.item && is_none one.reply) is)
  where
    by : ((is_item_of one.sent.frame one.served.item && same_replies one.reply (reply_of one.served.session commits one.served.item)) ≡ true) ⊎ ((is_crashed_item one.sent.frame one.served.item && is_none one.reply) ≡ true)
        → opt_tells session one.reply ≡ true
    by (inl here) =
        same_opt session one.reply (reply_of one.served.session commits one.served.item) (and_parts (is_item_of one.sent.frame one.served.item) _ here).1 (reply_of_tells session one.served.session commits one.served.item own)
    by (inr here) = none_tells session one.reply (and_parts (is_crashed_item one.sent.frame one.served.item) (is_none one.reply) here).1

cons_tells : (session : Option SessionId) (one : Handled) (rest : List Reply) (reply : Option Down) → one.reply ≡ reply → opt_tells session reply ≡ true → list_all (reply_tells session) rest ≡ true
    → list_all (reply_tells session) (cons_option (option_map (λ frame. record { to = one.sent; frame = frame }) reply) rest) ≡ true
cons_tells session one rest None is here all = all
cons_tells session one rest (Some frame) is here all = and_from (tells session frame) (list_all (reply_tells session) rest) here all

all_handled : (session : Option SessionId) (commits : ℕ) (served : List Handled) → list_all (λ one. is_of_one session one.served.session) served ≡ true → handled_from commits served ≡ true
    → list_all (reply_tells session) (filter_map reply_to served) ≡ true
all_handled session commits [] own is = refl
all_handled session commits (one ∷ others) own is =
    let first = and_parts (is_of_one session one.served.session) (list_all (λ h. is_of_one session h.served.session) others) own in
    let now : ℕ = counted_with commits one.served.item in
    let second = and_parts (is_handled now one) (handled_from now others) is in
    cons_tells session one (filter_map reply_to others) one.reply refl (handled_tells session now one first.0 second.0) (all_handled session now others first.1 second.1)

-- the reply that is taken next
pub taken_tells : (session : Option SessionId) (link : Link) (reply : Reply) (left : List Reply) → list_all (λ one. is_of_one session one.served.session) link.served ≡ true → handled_from 0 link.served ≡ true
    → is_reply_front link ≡ true → link.down ≡ reply ∷ left → tells session reply.frame ≡ true
taken_tells session link reply left own is wire same =
    let all : list_all (reply_tells session) (link.taken ++ link.down) ≡ true =
    front_tells session (link.taken ++ link.down) (replies_of link) (and_parts (is_front same_reply (link.taken ++ link.down) (replies_of link)) _ wire).0 (all_handled session 0 link.served own is) in
    let ahead : (list_all (reply_tells session) link.taken && list_all (reply_tells session) (reply ∷ left)) ≡ true =
    sym (list_all-append (reply_tells session) link.taken (reply ∷ left)) ∙ subst (λ (replies : List Reply). list_all (reply_tells session) (link.taken ++ replies) ≡ true) same all in
    (and_parts (reply_tells session reply) (list_all (reply_tells session) left) (and_parts (list_all (reply_tells session) link.taken) (list_all (reply_tells session) (reply ∷ left)) ahead).1).0

pub told_held : (session : Option SessionId) (held : Option Ltxid) (frame : Down) (alive : Bool) → tells session frame ≡ true → held_of session held ≡ true → held_of session (option_or (told_by (Took frame alive)) held) ≡ true
told_held session held (down.Hello x) alive is here = is
told_held session held (down.Reply answers draws x) alive is here = is
told_held session held frame alive is here = here
