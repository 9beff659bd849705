-- Of each connection: at most one answered frame is out, and before Hello was taken only Connect
-- was sent.
use Rattle.std.proofs.Common.{◌≡◌, refl, sym, ap, subst, ◌∙◌, Bool, true, false, ℕ, ◌+◌, ◌≤◌, ◌&&◌, cond, length, length-append, List, [], ◌∷◌, ◌++◌, map, fold, filter_map, Option, Some, None, ◌⊎◌, inl, inr, arith}
use Rattle.std.specs.Prelude.{◌==◌, nat_le, is_some, is_none, option_map}
use Rattle.std.specs.List.{cons_option}
use Rattle.std.specs.Option.{option_or}
use Rattle.std.proofs.lemmas.Bool.{and_parts, and_from, or_cases}
use Rattle.std.proofs.lemmas.List.{nil_from_length}
use Rattle.std.proofs.lemmas.List.Sums.{sum_by-append, count_by-le-length}
use Rattle.svc_values.specs.declared.value.Value.{Value}
use Rattle.svc_values.specs.declared.call.Call.{Call}
use Rattle.svc_values.specs.declared.draw.Draw.{Draw}
use Rattle.svc_values.specs.declared.entry.SessionId.{SessionId}
use Rattle.svc_values.specs.declared.entry.Ltxid.{Ltxid}
use Rattle.svc_values.specs.declared.frame.Up.{Up}
use Rattle.svc_values.specs.declared.frame.Up.TheVariants as up
use Rattle.svc_values.specs.declared.frame.Down.{Down}
use Rattle.svc_values.specs.declared.frame.Down.TheVariants as down
use Rattle.pool_core.specs.declared.answers.Back.{Back}
use Rattle.pool_core.specs.declared.answers.Back.TheVariants as back
use Rattle.pool_core.specs.meaning.Slots.{give_back_answer}
use Rattle.client_model.specs.declared.input.Input.TheVariants.{Took}
use Rattle.client_model.specs.declared.act.Hold.{Hold}
use Rattle.client_model.specs.meaning.Terms.{Phase, Greeting}
use Rattle.outage_schedule.specs.declared.item.Item.{Item}
use Rattle.outage_schedule.specs.declared.item.Item.TheVariants as item
use Rattle.client_model.specs.meaning.Talk.{Step, on_hello, takes as taken_by}
use Rattle.world_model.specs.meaning.Settings.{Setting}
use Rattle.world_model.specs.meaning.Frames.{Owner, Sent, Reply, Handled}
use Rattle.world_model.specs.meaning.Links.{Link, new_link, sends, takes, told_by}
use Rattle.world_model.specs.meaning.Acting.{sent_by, call_in, closing}
use Rattle.world_model.specs.meaning.Machines.{Machine}
use Rattle.world_model.specs.meaning.Serving.{after_front, is_item_of, reply_of}
use Rattle.world_model.specs.meaning.Crashing.{is_crashed_item}
use Rattle.world_model.specs.meaning.Outside.{closed_by_drain}
use Rattle.world_model.specs.records.Hold.{is_idle, is_connect}
use Rattle.world_model.specs.Parts.{is_rep, count_reps, is_out, implies}
use Rattle.world_model.specs.Sames.{same_up, same_down, same_sent, same_reply, is_front}
use Rattle.world_model.specs.records.Wire.{New, next_stage, is_right, stage_of, reply_to, replies_of, is_sent_front, is_reply_front, same_replies, is_handled, counted_with, handled_from, up_of, one_is_out, is_fresh}
use Rattle.world_model.proofs.events.Tests.{eq_from, le_from, le_to}
use Rattle.world_model.proofs.wire.Fronts.{same_frames}
use Rattle.world_model.proofs.basic.Ends.{sends_alike, handled_alike, cut_case, fallen_case}
use Rattle.world_model.proofs.basic.LinkLives.{no_test}
use Rattle.world_model.proofs.basic.NamesKept.{is_wired}
use Rattle.world_model.proofs.wire.Saying.{Spoken, Quiet, Fails, Ends, Asks, Calls, Marks, begun_in, opening, has_next, said, said_lent, is_hushed}
use Rattle.world_model.proofs.events.AllLinks.{KeepsServed}
use Rattle.world_model.proofs.wire.SentLinks.{spoken_by, awaits, KeepsSent}

-- ANSWERED FRAMES ---------------------------------------------------------------------------------

-- a Begin, where none was sent, and one frame
few_opening : (owner : Owner) (call : ℕ) (begun : Bool) (settings : List (List ℕ × Value)) (marked : Bool) (kept : List Draw) (one : Call)
    → nat_le (count_reps (map (sent_by owner call) ((opening begun settings ++ up.Call marked kept one ∷ []) ++ []))) 1 ≡ true
few_opening owner call true settings marked kept one = refl
few_opening owner call false settings marked kept one = refl

-- a client says at most one of them
pub few_said : (owner : Owner) (call : ℕ) (before : Phase) (left alive hushed : Bool) (phase : Phase) (send : List Up) (held : Hold) (how : Back) → Spoken before left alive hushed phase send held
    → nat_le (count_reps (map (sent_by owner call) (send ++ closing held how))) 1 ≡ true
few_said owner call before left alive hushed phase _ _ how (Quiet _ hush stays) = refl
few_said owner call before left true hushed _ _ _ how Fails = refl
few_said owner call before left false hushed _ _ _ how Fails = refl
few_said owner call before left true hushed _ _ _ back.Closed (Ends may) = refl
few_said owner call before left true hushed _ _ _ back.Idle (Ends may) = refl
few_said owner call before left false hushed _ _ _ how (Ends may) = refl
few_said owner call before left alive hushed _ _ _ how (Asks opens may asking) = refl
few_said owner call before left alive hushed _ _ _ how (Calls opens settings one state) = few_opening owner call (begun_in before) settings false [] one
few_said owner call before left alive hushed _ _ _ how (Marks opens may settings one state is plain) = few_opening owner call (begun_in before) settings true one.draws one.call

pub reps_more : (sent frames : List Sent) → count_reps (sent ++ frames) ≡ count_reps sent + count_reps frames
reps_more sent frames = sum_by-append (λ (one : Sent). cond (is_rep one) 1 0) sent frames

abbrev out_test : ℕ → ℕ → Bool
out_test taken reps = nat_le taken reps && nat_le reps (taken + 1)

one_more_out : (taken reps more : ℕ) → reps ≡ taken → nat_le more 1 ≡ true → out_test taken (reps + more) ≡ true
one_more_out taken reps more same few =
    let most : more ≤ 1 = le_from more 1 few in
    and_from (nat_le taken (reps + more)) (nat_le (reps + more) (taken + 1)) (le_to taken (reps + more) (omega arith)) (le_to (reps + more) (taken + 1) (omega arith))

-- where none is out
sends_out : (event : ℕ) (frames : List Sent) (link : Link) → count_reps link.sent ≡ length link.taken → nat_le (count_reps frames) 1 ≡ true → one_is_out (sends event frames link) ≡ true
sends_out event frames link none few =
    let here : out_test (length link.taken) (count_reps (link.sent ++ frames)) ≡ true =
    subst (λ (n : ℕ). out_test (length link.taken) n ≡ true) (sym (reps_more link.sent frames)) (one_more_out (length link.taken) (count_reps link.sent) (count_reps frames) none few) in
    sends_alike (λ one. one_is_out one ≡ true) event frames link here here

pub idle_none : (link : Link) → is_idle link ≡ true → count_reps link.sent ≡ length link.taken
idle_none link idle =
    let one = and_parts link.is_open _ idle in
    let two = and_parts (is_some link.held) _ one.1 in
    eq_from (count_reps link.sent) (length link.taken) (and_parts (count_reps link.sent == length link.taken) _ two.1).0

-- the reply to the one that is out is taken
pub taken_none : (link : Link) (reply : Reply) → is_out link ≡ true → count_reps link.sent ≡ length (link.taken ++ reply ∷ [])
taken_none link reply out = eq_from (count_reps link.sent) (length link.taken + 1) out ∙ sym (length-append link.taken (reply ∷ []))

pub awaits_out : (owner : Owner) (phase : Phase) (link : Link) → awaits owner phase link ≡ true → is_out link ≡ true
awaits_out owner phase link out = (and_parts (is_out link) _ out).0

out_served : (m : Machine) → KeepsServed m no_test one_is_out
out_served m = record {
  at_serves = λ number front served at ordinary old here. handled_alike (λ one. one_is_out one ≡ true) m.event front served (λ reply. here) (λ reply. here);
  at_stops = λ number after front served at stopped old here. fallen_case (λ one. one_is_out one ≡ true) m.event (after_front front served None) (λ opens. here) (λ closed. here);
  at_cuts = λ up down link opens here. cut_case (λ one. one_is_out one ≡ true) m.event up down link opens here;
  at_reaps = λ link orphan here. here;
  at_falls = λ link here. fallen_case (λ one. one_is_out one ≡ true) m.event link (λ opens. here) (λ closed. here);
}

pub out_keeps : (setting : Setting) (m : Machine) → KeepsSent setting m no_test one_is_out
out_keeps setting m = record {
  at_opens = λ owner runs. sends_out m.event (sent_by owner 0 up.Connect ∷ []) new_link refl refl;
  at_lends = λ owner doing ltxid pool number link ready waits strange idle old here.
      let step : Step = on_hello setting.terms doing.talk None ltxid true m.tick in
      sends_out m.event (spoken_by owner pool number step) link (idle_none link idle)
      (few_said owner (call_in step.0.phase) (Greeting None) (has_next doing.talk) true false step.0.phase step.1.send step.1.hold (give_back_answer pool number) (said_lent setting.terms doing.talk ltxid m.tick));
  at_takes = λ owner doing pool number link reply left ready out down old here.
      let step : Step = taken_by setting.terms doing.talk doing.talk.phase reply.frame link.is_open m.tick in
      sends_out m.event (spoken_by owner pool number step) (takes (Took reply.frame link.is_open) reply left link) (taken_none link reply (awaits_out owner doing.talk.phase link out))
      (few_said owner (call_in step.0.phase) doing.talk.phase (has_next doing.talk) link.is_open (is_hushed reply.frame) step.0.phase step.1.send step.1.hold (give_back_answer pool number) (said setting.terms doing.talk doing.talk.phase reply.frame link.is_open m.tick refl));
  at_drains = λ link idle old here. sends_out m.event (closed_by_drain ∷ []) link (idle_none link idle) refl;
  served = out_served m;
}

-- BEFORE HELLO ------------------------------------------------------------------------------------

abbrev is_hello : Down → Bool
is_hello (down.Hello x) = true
is_hello _ = false

connect_back : (a b : Up) → same_up a b ≡ true → is_connect b ≡ true → is_connect a ≡ true
connect_back up.Connect up.Connect same is = refl
connect_back up.Close up.Connect same is = absurd (let never : ⊥ = cc in never)
connect_back (up.Begin settings) up.Connect same is = absurd (let never : ⊥ = cc in never)
connect_back (up.Call replay kept call) up.Connect same is = absurd (let never : ⊥ = cc in never)
connect_back (up.Outcome x) up.Connect same is = absurd (let never : ⊥ = cc in never)
connect_back up.End up.Connect same is = absurd (let never : ⊥ = cc in never)
connect_back a b same is = absurd (let never : ⊥ = cc in never)

hello_back : (a b : Down) → same_down a b ≡ true → is_hello b ≡ true → is_hello a ≡ true
hello_back (down.Hello x) (down.Hello y) same is = refl
hello_back (down.Reply a d x) (down.Hello y) same is = absurd (let never : ⊥ = cc in never)
hello_back (down.OutcomeIs a d) (down.Hello y) same is = absurd (let never : ⊥ = cc in never)
hello_back (down.OutcomeRefused a d) (down.Hello y) same is = absurd (let never : ⊥ = cc in never)
hello_back down.Blocked (down.Hello y) same is = absurd (let never : ⊥ = cc in never)
hello_back (down.Refused cause) (down.Hello y) same is = absurd (let never : ⊥ = cc in never)
hello_back a b same is = absurd (let never : ⊥ = cc in never)

-- the frame that is sent first is Connect
first_connects : (owner : Option Owner) (frame : Up) → is_right (next_stage New owner frame) ≡ true → is_connect frame ≡ true
first_connects owner up.Connect right = refl
first_connects owner up.Close right = absurd (let never : ⊥ = cc in never)
first_connects owner (up.Begin settings) right = absurd (let never : ⊥ = cc in never)
first_connects owner (up.Call replay kept call) right = absurd (let never : ⊥ = cc in never)
first_connects owner (up.Outcome x) right = absurd (let never : ⊥ = cc in never)
first_connects owner up.End right = absurd (let never : ⊥ = cc in never)

abbrev opt_hello : Option Down → Bool
opt_hello None = false
opt_hello (Some frame) = is_hello frame

same_hello : (a b : Option Down) → same_replies a b ≡ true → opt_hello b ≡ true → opt_hello a ≡ true
same_hello (Some a) (Some b) same is = hello_back a b same is
same_hello None None same is = is
same_hello None (Some b) same is = absurd (let never : ⊥ = cc in never)
same_hello (Some a) None same is = absurd (let never : ⊥ = cc in never)

-- Connect is answered with Hello
connect_hello : (session : SessionId) (commits : ℕ) (frame : Up) (one : Item) → is_connect frame ≡ true → is_item_of frame one ≡ true → opt_hello (reply_of session commits one) ≡ true
connect_hello session commits up.Connect item.Connect connect is = refl
connect_hello session commits up.Connect one connect is = absurd (let never : ⊥ = cc in never)
connect_hello session commits frame one connect is = absurd (let never : ⊥ = cc in never)

never_crashed : (frame : Up) (one : Item) → is_connect frame ≡ true → is_crashed_item frame one ≡ true → ⊥
never_crashed up.Connect one connect crashed = let never : ⊥ = cc in never
never_crashed frame one connect crashed = let never : ⊥ = cc in never

handled_hello : (commits : ℕ) (one : Handled) → is_connect one.sent.frame ≡ true → is_handled commits one ≡ true → opt_hello one.reply ≡ true
handled_hello commits one connect is =
    by (or_cases (is_item_of one.sent.frame one.served.item && same_replies one.reply (reply_of one.served.session commits one.served.item)) (is_crashed_item one.sent.frame one.served.item && is_none one.reply) is)
  where
    by : ((is_item_of one.sent.frame one.served.item && same_replies one.reply (reply_of one.served.session commits one.served.item)) ≡ true) ⊎ ((is_crashed_item one.sent.frame one.served.item && is_none one.reply) ≡ true)
        → opt_hello one.reply ≡ true
    by (inl here) =
        let parts = and_parts (is_item_of one.sent.frame one.served.item) (same_replies one.reply (reply_of one.served.session commits one.served.item)) here in
        same_hello one.reply (reply_of one.served.session commits one.served.item) parts.1 (connect_hello one.served.session commits one.sent.frame one.served.item connect parts.0)
    by (inr here) = absurd (never_crashed one.sent.frame one.served.item connect (and_parts (is_crashed_item one.sent.frame one.served.item) (is_none one.reply) here).0)

given_hello : (sent : Sent) (given : Option Down) (reply : Reply) (left : List Reply) → opt_hello given ≡ true → is_front same_reply (reply ∷ left) (cons_option (option_map (λ frame. record { to = sent; frame = frame }) given) []) ≡ true
    → is_hello reply.frame ≡ true
given_hello sent None reply left hello is = absurd (let never : ⊥ = cc in never)
given_hello sent (Some frame) reply left hello is =
    let same = (and_parts (same_reply reply (record { to = sent; frame = frame })) (is_front same_reply left []) is).0 in
    hello_back reply.frame frame (and_parts (same_sent reply.to sent) (same_down reply.frame frame) same).1 hello

served_hello : (first : Sent) (served : List Handled) (ups : List Sent) (reply : Reply) (left : List Reply) → is_connect first.frame ≡ true → is_front same_sent (map (λ one. one.sent) served ++ ups) (first ∷ []) ≡ true
    → handled_from 0 served ≡ true → is_front same_reply (reply ∷ left) (filter_map reply_to served) ≡ true → is_hello reply.frame ≡ true
served_hello first [] ups reply left connect front handled is = absurd (let never : ⊥ = cc in never)
served_hello first (one ∷ []) ups reply left connect front handled is =
    let same = (and_parts (same_sent one.sent first) (is_front same_sent ups []) front).0 in
    let mine : is_connect one.sent.frame ≡ true = connect_back one.sent.frame first.frame (same_frames one.sent first same) connect in
    let now : ℕ = counted_with 0 one.served.item in
    given_hello one.sent one.reply reply left (handled_hello now one mine (and_parts (is_handled now one) true handled).0) is
served_hello first (one ∷ other ∷ others) ups reply left connect front handled is =
    absurd (let rest = (and_parts (same_sent one.sent first) false front).1 in let never : ⊥ = cc in never)

-- what is taken on a connection with one frame is Hello
one_hello : (link : Link) (reply : Reply) (left : List Reply) (sents : List Sent) → link.sent ≡ sents → length sents ≡ 1 → is_wired link ≡ true → is_out link ≡ true → link.down ≡ reply ∷ left → is_hello reply.frame ≡ true
one_hello link reply left [] same long wired out down = absurd (let never : ⊥ = omega arith in never)
one_hello link reply left (first ∷ second ∷ rest) same long wired out down = absurd (let never : ⊥ = omega arith in never)
one_hello link reply left (first ∷ []) same long wired out down =
    let one = and_parts (is_sent_front link) (is_right (stage_of link) && (is_reply_front link && handled_from 0 link.served)) wired in
    let two = and_parts (is_right (stage_of link)) (is_reply_front link && handled_from 0 link.served) one.1 in
    let three = and_parts (is_reply_front link) (handled_from 0 link.served) two.1 in
    let right : is_right (next_stage New first.owner first.frame) ≡ true = subst (λ (all : List Sent). is_right (fold (λ stage sent. next_stage stage sent.owner sent.frame) New all) ≡ true) same two.0 in
    let count : count_reps link.sent ≡ length link.taken + 1 = eq_from (count_reps link.sent) (length link.taken + 1) out in
    let most : count_reps link.sent ≤ length link.sent = count_by-le-length is_rep link.sent in
    let size : length link.sent ≡ 1 = ap length same ∙ long in
    let zero : length link.taken ≡ 0 = omega arith in
    let none : link.taken ≡ [] = nil_from_length link.taken zero in
    let replies : is_front same_reply (link.taken ++ link.down) (replies_of link) ≡ true = (and_parts (is_front same_reply (link.taken ++ link.down) (replies_of link)) _ three.0).0 in
    served_hello first link.served link.up reply left (first_connects first.owner first.frame right)
    (subst (λ (all : List Sent). is_front same_sent (up_of link) all ≡ true) same (and_parts (is_front same_sent (up_of link) link.sent) _ one.0).0) three.1
    (subst (λ (got : List Reply). is_front same_reply got (replies_of link) ≡ true) (ap (λ (taken : List Reply). taken ++ link.down) none ∙ down) replies)

hello_told : (frame : Down) (alive : Bool) (held : Option Ltxid) → is_hello frame ≡ true → is_some (option_or (told_by (Took frame alive)) held) ≡ true
hello_told (down.Hello x) alive held is = refl
hello_told frame alive held is = absurd (let never : ⊥ = cc in never)

either_some : (told : Option Ltxid) (x : Ltxid) → is_some (option_or told (Some x)) ≡ true
either_some None x = refl
either_some (Some y) x = refl

pub taken_held : (link : Link) (reply : Reply) (left : List Reply) (held : Option Ltxid) → link.held ≡ held → is_wired link ≡ true → is_fresh link ≡ true → is_out link ≡ true → link.down ≡ reply ∷ left
    → is_some (option_or (told_by (Took reply.frame link.is_open)) held) ≡ true
taken_held link reply left (Some x) is wired fresh out down = either_some (told_by (Took reply.frame link.is_open)) x
taken_held link reply left None is wired fresh out down =
    let long : length link.sent ≡ 1 = eq_from (length link.sent) 1 (subst (λ (held : Option Ltxid). implies (is_none held) (length link.sent == 1) ≡ true) is fresh) in
    hello_told reply.frame link.is_open None (one_hello link reply left link.sent refl long wired out down)

some_fresh : (held : Option Ltxid) (one : Bool) → is_some held ≡ true → implies (is_none held) one ≡ true
some_fresh None one is = absurd (let never : ⊥ = cc in never)
some_fresh (Some x) one is = refl

sends_fresh : (event : ℕ) (frames : List Sent) (link : Link) → is_some link.held ≡ true → is_fresh (sends event frames link) ≡ true
sends_fresh event frames link some =
    let here : implies (is_none link.held) (length (link.sent ++ frames) == 1) ≡ true = some_fresh link.held (length (link.sent ++ frames) == 1) some in
    sends_alike (λ one. is_fresh one ≡ true) event frames link here here

pub idle_held : (link : Link) → is_idle link ≡ true → is_some link.held ≡ true
idle_held link idle = (and_parts (is_some link.held) _ (and_parts link.is_open _ idle).1).0

fresh_served : (m : Machine) → KeepsServed m is_wired is_fresh
fresh_served m = record {
  at_serves = λ number front served at ordinary old here. handled_alike (λ one. is_fresh one ≡ true) m.event front served (λ reply. here) (λ reply. here);
  at_stops = λ number after front served at stopped old here. fallen_case (λ one. is_fresh one ≡ true) m.event (after_front front served None) (λ opens. here) (λ closed. here);
  at_cuts = λ up down link opens here. cut_case (λ one. is_fresh one ≡ true) m.event up down link opens here;
  at_reaps = λ link orphan here. here;
  at_falls = λ link here. fallen_case (λ one. is_fresh one ≡ true) m.event link (λ opens. here) (λ closed. here);
}

pub fresh_keeps : (setting : Setting) (m : Machine) → KeepsSent setting m is_wired is_fresh
fresh_keeps setting m = record {
  at_opens = λ owner runs. sends_alike (λ one. is_fresh one ≡ true) m.event (sent_by owner 0 up.Connect ∷ []) new_link refl refl;
  at_lends = λ owner doing ltxid pool number link ready waits strange idle old here. sends_fresh m.event (spoken_by owner pool number (on_hello setting.terms doing.talk None ltxid true m.tick)) link (idle_held link idle);
  at_takes = λ owner doing pool number link reply left ready out down old here.
      sends_fresh m.event (spoken_by owner pool number (taken_by setting.terms doing.talk doing.talk.phase reply.frame link.is_open m.tick)) (takes (Took reply.frame link.is_open) reply left link) (taken_held link reply left link.held refl old here (awaits_out owner doing.talk.phase link out) down);
  at_drains = λ link idle old here. sends_fresh m.event (closed_by_drain ∷ []) link (idle_held link idle);
  served = fresh_served m;
}
