-- What a request says that goes on is out on its connection, and is what its phase waits for.
use Rattle.std.proofs.Common.{◌≡◌, refl, sym, ap, subst, ◌∙◌, Bool, true, false, ℕ, ◌+◌, ◌&&◌, ◌||◌, length, List, [], ◌∷◌, ◌++◌, map, filter_map, Option, Some, None, ◌⊎◌, inl, inr, arith}
use Rattle.std.specs.Prelude.{◌==◌, not, is_none, option_map}
use Rattle.std.specs.List.{list_all, list_any, last_or, cons_option}
use Rattle.std.specs.Option.{option_map_or}
use Rattle.std.proofs.lemmas.Bool.{and_parts, and_from, or_cases, or_parts, not-true}
use Rattle.std.proofs.lemmas.List.Folds.{list_all-append}
use Rattle.svc_values.specs.declared.value.Value.{Value}
use Rattle.svc_values.specs.declared.call.Call.{Call}
use Rattle.svc_values.specs.declared.draw.Draw.{Draw}
use Rattle.svc_values.specs.declared.entry.SessionId.{SessionId}
use Rattle.svc_values.specs.declared.frame.Up.{Up}
use Rattle.svc_values.specs.declared.frame.Up.TheVariants as up
use Rattle.svc_values.specs.declared.frame.Down.{Down}
use Rattle.svc_values.specs.declared.frame.Down.TheVariants as down
use Rattle.svc_values.specs.meaning.Identifiers.{same_ltxid}
use Rattle.svc_values.specs.SameLaws.{same_ltxid_decides}
use Rattle.pool_core.specs.declared.answers.Back.{Back}
use Rattle.client_model.specs.meaning.Verifying.{index_of}
use Rattle.client_model.specs.declared.act.Hold.{Hold}
use Rattle.client_model.specs.declared.act.Hold.TheVariants.{Keep}
use Rattle.client_model.specs.meaning.States.{Living, Repeating}
use Rattle.client_model.specs.meaning.Terms.{Phase, Running, Replaying}
use Rattle.outage_schedule.specs.declared.note.AskResult.{AskResult}
use Rattle.outage_schedule.specs.declared.note.AskResult.TheVariants as told
use Rattle.outage_schedule.specs.declared.item.Item.{Item}
use Rattle.outage_schedule.specs.declared.item.Item.TheVariants as item
use Rattle.world_model.specs.meaning.Frames.{Owner, Sent, Reply, Handled}
use Rattle.world_model.specs.meaning.Links.{Link, sends}
use Rattle.world_model.specs.meaning.Acting.{sent_by, call_in, closing}
use Rattle.world_model.specs.meaning.Serving.{is_item_of, is_last, reply_of, outcome_frame}
use Rattle.world_model.specs.meaning.Crashing.{is_crashed_item}
use Rattle.world_model.specs.records.Basic.{is_stopped, ends_life, lives_rightly}
use Rattle.world_model.specs.records.Hold.{holds_connection, is_awaited}
use Rattle.world_model.specs.Parts.{is_answered, count_reps}
use Rattle.world_model.specs.Sames.{same_owner, owned_by, same_down, same_sent, same_reply, is_front}
use Rattle.world_model.specs.records.Wire.{reply_to, replies_of, is_sent_front, is_reply_front, same_replies, is_handled, counted_with, handled_from}
use Rattle.world_model.proofs.events.Tests.{eq_to}
use Rattle.world_model.proofs.wire.SameSelf.{owner_self}
use Rattle.world_model.proofs.basic.Ends.{sends_alike}
use Rattle.world_model.proofs.basic.LinkLives.{served_none}
use Rattle.world_model.proofs.wire.LinkOrder.{is_orderly}
use Rattle.world_model.proofs.wire.LinkOut.{reps_more}
use Rattle.world_model.proofs.wire.Saying.{Spoken, Quiet, Fails, Ends, Asks, Calls, Marks, begun_in, opening, is_hushed}
use Rattle.world_model.proofs.wire.SentLinks.{awaits}

-- THE LAST FRAME ----------------------------------------------------------------------------------

pub last_behind : {A : Type 0} (first : Option A) (xs ys : List A) → last_or first (xs ++ ys) ≡ last_or (last_or first xs) ys
last_behind first [] ys = refl
last_behind first (x ∷ xs) ys = last_behind (Some x) xs ys

-- one answered frame is said last, and is what the phase waits for
pub record IsSaidLast (owner : Owner) (phase : Phase) (frames : List Sent) : Type 0 where
  pub one : count_reps frames ≡ 1
  pub last : (first : Option Sent) → option_map_or (λ sent. is_answered sent.frame && (owned_by owner sent && is_awaited phase sent)) (last_or first frames) false ≡ true

pub out_by : (event : ℕ) (owner : Owner) (phase : Phase) (frames : List Sent) (link : Link) → IsSaidLast owner phase frames → count_reps link.sent ≡ length link.taken → awaits owner phase (sends event frames link) ≡ true
out_by event owner phase frames link said none = sends_alike (λ one. awaits owner phase one ≡ true) event frames link here here
  where
    test : Sent → Bool
    test sent = is_answered sent.frame && (owned_by owner sent && is_awaited phase sent)

    out : (count_reps (link.sent ++ frames) == length link.taken + 1) ≡ true
    out =
        let one : count_reps frames ≡ 1 = said.one in
        let all : count_reps (link.sent ++ frames) ≡ count_reps link.sent + count_reps frames = reps_more link.sent frames in
        eq_to (count_reps (link.sent ++ frames)) (length link.taken + 1) (omega arith)

    last : option_map_or (λ sent. is_answered sent.frame && (owned_by owner sent && is_awaited phase sent)) (last_or None (link.sent ++ frames)) false ≡ true
    last = ap (λ (found : Option Sent). option_map_or (λ sent. is_answered sent.frame && (owned_by owner sent && is_awaited phase sent)) found false) (last_behind None link.sent frames) ∙ said.last (last_or None link.sent)

    here : ((count_reps (link.sent ++ frames) == length link.taken + 1) && option_map_or (λ sent. is_answered sent.frame && (owned_by owner sent && is_awaited phase sent)) (last_or None (link.sent ++ frames)) false) ≡ true
    here = and_from (count_reps (link.sent ++ frames) == length link.taken + 1) (option_map_or (λ sent. is_answered sent.frame && (owned_by owner sent && is_awaited phase sent)) (last_or None (link.sent ++ frames)) false) out last

own_call : (owner : Owner) (n : ℕ) → (same_owner owner owner && (true && (n == n))) ≡ true
own_call owner n = and_from (same_owner owner owner) (n == n) (owner_self owner) (eq_to n n refl)

said_call : (owner : Owner) (begun : Bool) (settings : List (List ℕ × Value)) (state : Living) (one : Call)
    → IsSaidLast owner (Running state) (map (sent_by owner state.track.call) ((opening begun settings ++ up.Call false [] one ∷ []) ++ []))
said_call owner true settings state one = record { one = refl; last = λ first. own_call owner state.track.call }
said_call owner false settings state one = record { one = refl; last = λ first. own_call owner state.track.call }

said_mark : (owner : Owner) (begun : Bool) (settings : List (List ℕ × Value)) (state : Repeating) (kept : List Draw) (one : Call)
    → IsSaidLast owner (Replaying state) (map (sent_by owner (index_of state)) ((opening begun settings ++ up.Call true kept one ∷ []) ++ []))
said_mark owner true settings state kept one = record { one = refl; last = λ first. own_call owner (index_of state) }
said_mark owner false settings state kept one = record { one = refl; last = λ first. own_call owner (index_of state) }

-- of a request that goes on, on a connection that is open
pub said_on : (owner : Owner) (before : Phase) (left alive hushed : Bool) (phase : Phase) (send : List Up) (held : Hold) (how : Back) → Spoken before left alive hushed phase send held → held ≡ Keep → (hushed || not alive) ≡ false
    → (holds_connection phase ≡ true) × IsSaidLast owner phase (map (sent_by owner (call_in phase)) (send ++ closing held how))
said_on owner before left alive hushed phase _ _ how (Quiet _ hush stays) keep loud = absurd (let none : ⊥ = cc in none)
said_on owner before left alive hushed _ _ _ how Fails keep loud = absurd (let none : ⊥ = cc in none)
said_on owner before left true hushed _ _ _ how (Ends may) keep loud = absurd (let none : ⊥ = cc in none)
said_on owner before left false hushed _ _ _ how (Ends may) keep loud = absurd (let none : ⊥ = cc in none)
said_on owner before left alive hushed _ _ _ how (Asks opens may asking) keep loud =
    (refl, record { one = refl; last = λ first. and_from (same_owner owner owner) (same_ltxid asking.ltxid asking.ltxid) (owner_self owner) ((same_ltxid_decides asking.ltxid asking.ltxid).1 refl) })
said_on owner before left alive hushed _ _ _ how (Calls opens settings one state) keep loud = (refl, said_call owner (begun_in before) settings state one)
said_on owner before left alive hushed _ _ _ how (Marks opens may settings one state next plain) keep loud = (refl, said_mark owner (begun_in before) settings state one.draws one.call)

-- AN OPEN CONNECTION ------------------------------------------------------------------------------

abbrev pub loud : Reply → Bool
loud reply = not (is_hushed reply.frame)

abbrev opt_loud : Option Down → Bool
opt_loud reply = option_map_or (λ frame. not (is_hushed frame)) reply true

same_loud : (a b : Down) → same_down a b ≡ true → not (is_hushed b) ≡ true → not (is_hushed a) ≡ true
same_loud (down.Hello x) (down.Hello y) same is = refl
same_loud (down.Reply a d x) (down.Reply b e y) same is = refl
same_loud (down.OutcomeIs a b) (down.OutcomeIs c d) same is = refl
same_loud (down.OutcomeRefused a b) (down.OutcomeRefused c d) same is = refl
same_loud down.Blocked down.Blocked same is = is
same_loud (down.Refused a) (down.Refused b) same is = is
same_loud a b same is = absurd (let none : ⊥ = cc in none)

outcome_loud : (result : AskResult) → not (is_hushed (outcome_frame result)) ≡ true
outcome_loud (told.Committed completed) = refl
outcome_loud told.Uncommitted = refl
outcome_loud (told.ServerAhead next) = refl
outcome_loud (told.ClientAhead next) = refl
outcome_loud (told.Forgotten horizon) = refl

reply_loud : (session : SessionId) (commits : ℕ) (one : Item) → is_last one ≡ false → opt_loud (reply_of session commits one) ≡ true
reply_loud session commits item.Connect going = refl
reply_loud session commits (item.Call marked call answers draws) going = refl
reply_loud session commits (item.Blocked call) going = absurd (let none : ⊥ = cc in none)
reply_loud session commits (item.Outcome asked result) going = outcome_loud result
reply_loud session commits one going = refl

opt_same : (a b : Option Down) → same_replies a b ≡ true → opt_loud b ≡ true → opt_loud a ≡ true
opt_same None None same is = refl
opt_same (Some a) (Some b) same is = same_loud a b same is
opt_same None (Some b) same is = absurd (let none : ⊥ = cc in none)
opt_same (Some a) None same is = absurd (let none : ⊥ = cc in none)

none_loud : (reply : Option Down) → is_none reply ≡ true → opt_loud reply ≡ true
none_loud None is = refl
none_loud (Some a) is = absurd (let none : ⊥ = cc in none)

handled_loud : (commits : ℕ) (one : Handled) → is_last one.served.item ≡ false → is_handled commits one ≡ true → opt_loud one.reply ≡ true
handled_loud commits one going is =
    by (or_cases (is_item_of one.sent.frame one.served.item && same_replies one.reply (reply_of one.served.session commits one.served.item)) (is_crashed_item one.sent.frame one.served.item && is_none one.reply) is)
  where
    by : ((is_item_of one.sent.frame one.served.item && same_replies one.reply (reply_of one.served.session commits one.served.item)) ≡ true) ⊎ ((is_crashed_item one.sent.frame one.served.item && is_none one.reply) ≡ true)
        → opt_loud one.reply ≡ true
    by (inl here) =
        opt_same one.reply (reply_of one.served.session commits one.served.item) (and_parts (is_item_of one.sent.frame one.served.item) (same_replies one.reply (reply_of one.served.session commits one.served.item)) here).1
        (reply_loud one.served.session commits one.served.item going)
    by (inr here) = none_loud one.reply (and_parts (is_crashed_item one.sent.frame one.served.item) (is_none one.reply) here).1

cons_loud : (sent : Sent) (reply : Option Down) (rest : List Reply) → opt_loud reply ≡ true → list_all loud rest ≡ true → list_all loud (cons_option (option_map (λ frame. record { to = sent; frame = frame }) reply) rest) ≡ true
cons_loud sent None rest here all = all
cons_loud sent (Some frame) rest here all = and_from (not (is_hushed frame)) (list_all loud rest) here all

all_loud : (commits : ℕ) (served : List Handled) → list_any ends_life served ≡ false → handled_from commits served ≡ true → list_all loud (filter_map reply_to served) ≡ true
all_loud commits [] none is = refl
all_loud commits (one ∷ others) none is =
    let parts = or_parts (ends_life one) (list_any ends_life others) none in
    let going = (or_parts (is_last one.served.item) (is_stopped one.served.item) parts.0).0 in
    let now : ℕ = counted_with commits one.served.item in
    let both = and_parts (is_handled now one) (handled_from now others) is in
    cons_loud one.sent one.reply (filter_map reply_to others) (handled_loud now one going both.0) (all_loud now others parts.1 both.1)

front_loud : (front all : List Reply) → is_front same_reply front all ≡ true → list_all loud all ≡ true → list_all loud front ≡ true
front_loud [] all is here = refl
front_loud (x ∷ xs) [] is here = absurd (let none : ⊥ = cc in none)
front_loud (x ∷ xs) (y ∷ ys) is here =
    let one = and_parts (same_reply x y) (is_front same_reply xs ys) is in
    let two = and_parts (loud y) (list_all loud ys) here in
    and_from (loud x) (list_all loud xs) (same_loud x.frame y.frame (and_parts (same_sent x.to y.to) (same_down x.frame y.frame) one.0).1 two.0) (front_loud xs ys one.1 two.1)

-- where the session lives, no reply ends the connection, of those that were taken and that may be
-- taken
pub all_said_loud : (link : Link) → is_orderly link ≡ true → link.is_living ≡ true → list_all loud (link.taken ++ link.down) ≡ true
all_said_loud link orderly living =
    let one = and_parts (is_sent_front link) (is_reply_front link && (handled_from 0 link.served && lives_rightly link)) orderly in
    let two = and_parts (is_reply_front link) (handled_from 0 link.served && lives_rightly link) one.1 in
    let three = and_parts (handled_from 0 link.served) (lives_rightly link) two.1 in
    front_loud (link.taken ++ link.down) (replies_of link) (and_parts (is_front same_reply (link.taken ++ link.down) (replies_of link)) _ two.0).0 (all_loud 0 link.served (served_none link living three.1) three.0)

-- nor does the one that is taken next
pub taken_loud : (link : Link) (reply : Reply) (left : List Reply) → is_orderly link ≡ true → link.is_living ≡ true → link.down ≡ reply ∷ left → is_hushed reply.frame ≡ false
taken_loud link reply left orderly living down =
    let all : list_all loud (link.taken ++ link.down) ≡ true = all_said_loud link orderly living in
    let ahead : (list_all loud link.taken && list_all loud (reply ∷ left)) ≡ true =
    sym (list_all-append loud link.taken (reply ∷ left)) ∙ subst (λ (replies : List Reply). list_all loud (link.taken ++ replies) ≡ true) down all in
    not-true (is_hushed reply.frame) (and_parts (loud reply) (list_all loud left) (and_parts (list_all loud link.taken) (list_all loud (reply ∷ left)) ahead).1).0
