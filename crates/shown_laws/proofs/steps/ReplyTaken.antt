-- The reply that a request takes, as it is told: the item of the frame that it sent last on its
-- connection.
use Rattle.std.proofs.Common.{◌≡◌, refl, sym, ap, subst, ◌∙◌, Bool, true, false, ℕ, zero, suc, ◌+◌, ◌&&◌, length, List, [], ◌∷◌, ◌++◌, map, filter, cond, Option, Some, None, ◌⊎◌, inl, inr, arith}
use Rattle.std.specs.Prelude.{is_none, slice_get, option_map}
use Rattle.std.specs.List.{list_all, last_or, cons_option}
use Rattle.std.specs.Option.{option_map_or}
use Rattle.std.proofs.lemmas.Bool.{and_parts, or_cases}
use Rattle.std.proofs.lemmas.List.{map-append, length-map}
use Rattle.std.proofs.lemmas.List.Sums.{length-filter}
use Rattle.svc_values.specs.declared.entry.SessionId.{SessionId}
use Rattle.svc_values.specs.declared.frame.Down.{Down}
use Rattle.svc_values.specs.meaning.Identifiers.{same_session}
use Rattle.svc_values.specs.SameLaws.{same_session_decides}
use Rattle.client_model.specs.meaning.Terms.{Phase}
use Rattle.outage_schedule.specs.declared.item.Served.{Served}
use Rattle.world_model.specs.meaning.Crashing.{is_crashed_item}
use Rattle.world_model.specs.meaning.Frames.{Owner, Sent, Reply, Handled}
use Rattle.world_model.specs.records.Hold.{is_awaited}
use Rattle.world_model.specs.meaning.Links.{Link}
use Rattle.world_model.specs.Parts.{is_answered, is_rep, is_out, count_reps}
use Rattle.world_model.specs.Sames.{same_sent, is_front, owned_by}
use Rattle.world_model.specs.meaning.Serving.{is_item_of, reply_of}
use Rattle.world_model.specs.records.Wire.{same_replies, is_handled, counted_with, handled_from, reps_of, is_answered_in_order}
use Rattle.shown_laws.specs.ClientSteps.{TellsReply}
use Rattle.shown_laws.specs.Connections.{Answer, answers_of}
use Rattle.shown_laws.proofs.events.Lookups.{eq_from}

-- THE FRAME THAT IT ANSWERS -----------------------------------------------------------------------

-- the frame that was served, among all
pub record IsAnswered (served : List Handled) (answer : Answer) : Type 0 where
  pub one : Handled
  pub before : List Handled
  pub later : List Handled
  pub among : served ≡ before ++ one ∷ later
  pub item : one.served ≡ answer.served
  pub reply : one.reply ≡ Some answer.reply.frame
  pub sent : one.sent ≡ answer.reply.to

pub answered_by : (served : List Handled) (before later : List Answer) (answer : Answer) → answers_of served ≡ before ++ answer ∷ later → IsAnswered served answer
answered_by [] [] later answer is = absurd (let none : ⊥ = cc in none)
answered_by [] (first ∷ before) later answer is = absurd (let none : ⊥ = cc in none)
answered_by (first ∷ served) before later answer is = by first.reply refl before is (answered_by served)
  where
    further : IsAnswered served answer → IsAnswered (first ∷ served) answer
    further found = record { one = found.one; before = first ∷ found.before; later = found.later; among = ap (λ (rest : List Handled). first ∷ rest) found.among; item = found.item; reply = found.reply; sent = found.sent }

    by : (reply : Option Down) → first.reply ≡ reply → (before : List Answer)
        → cons_option (option_map (λ frame. record { reply = record { to = first.sent; frame = frame }; served = first.served }) reply) (answers_of served) ≡ before ++ answer ∷ later
        → ((before later : List Answer) (answer : Answer) → answers_of served ≡ before ++ answer ∷ later → IsAnswered served answer) → IsAnswered (first ∷ served) answer
    by None given before is rest = further (rest before later answer is)
    by (Some frame) given [] is rest =
        let made : Answer = record { reply = record { to = first.sent; frame = frame }; served = first.served } in
        let same : record { reply = record { to = first.sent; frame = frame }; served = first.served } ≡ answer = cc in
        record { one = first; before = []; later = served; among = refl; item = ap (λ (a : Answer). a.served) same; reply = given ∙ ap (λ (a : Answer). Some a.reply.frame) same; sent = ap (λ (a : Answer). a.reply.to) same }
    by (Some frame) given (other ∷ before) is rest =
        let behind : answers_of served ≡ before ++ answer ∷ later = cc in
        further (rest before later answer behind)

-- it was handled rightly
handled_at : (commits : ℕ) (before later : List Handled) (one : Handled) → handled_from commits (before ++ one ∷ later) ≡ true → (now : ℕ) × (is_handled now one ≡ true)
handled_at commits [] later one handled = (counted_with commits one.served.item, (and_parts (is_handled (counted_with commits one.served.item) one) (handled_from (counted_with commits one.served.item) later) handled).0)
handled_at commits (first ∷ before) later one handled =
    handled_at (counted_with commits first.served.item) before later one (and_parts (is_handled (counted_with commits first.served.item) first) (handled_from (counted_with commits first.served.item) (before ++ one ∷ later)) handled).1

pub said_rightly : (commits : ℕ) (one : Handled) (frame : Down) → one.reply ≡ Some frame → is_handled commits one ≡ true → (is_item_of one.sent.frame one.served.item ≡ true) × (same_replies (Some frame) (reply_of one.served.session commits one.served.item) ≡ true)
said_rightly commits one frame given handled =
    by (or_cases (is_item_of one.sent.frame one.served.item && same_replies one.reply (reply_of one.served.session commits one.served.item)) (is_crashed_item one.sent.frame one.served.item && is_none one.reply) handled)
  where
    by : ((is_item_of one.sent.frame one.served.item && same_replies one.reply (reply_of one.served.session commits one.served.item)) ≡ true) ⊎ ((is_crashed_item one.sent.frame one.served.item && is_none one.reply) ≡ true)
        → (is_item_of one.sent.frame one.served.item ≡ true) × (same_replies (Some frame) (reply_of one.served.session commits one.served.item) ≡ true)
    by (inl so) =
        let parts = and_parts (is_item_of one.sent.frame one.served.item) (same_replies one.reply (reply_of one.served.session commits one.served.item)) so in
        (parts.0, subst (λ (found : Option Down). same_replies found (reply_of one.served.session commits one.served.item) ≡ true) given parts.1)
    by (inr so) =
        let none : is_none (Some frame) ≡ true = subst (λ (found : Option Down). is_none found ≡ true) given (and_parts (is_crashed_item one.sent.frame one.served.item) (is_none one.reply) so).1 in
        absurd (let never : ⊥ = cc in never)

-- its session is the connection's
own_session : (found : Option SessionId) (before later : List Handled) (one : Handled) → list_all (λ other. option_map_or (same_session other.served.session) found false) (before ++ one ∷ later) ≡ true → found ≡ Some one.served.session
own_session found [] later one all = by found (and_parts (option_map_or (same_session one.served.session) found false) (list_all (λ other. option_map_or (same_session other.served.session) found false) later) all).0
  where
    by : (found : Option SessionId) → option_map_or (same_session one.served.session) found false ≡ true → found ≡ Some one.served.session
    by None is = absurd (let none : ⊥ = cc in none)
    by (Some session) is = ap Some (sym ((same_session_decides one.served.session session).0 is))
own_session found (first ∷ before) later one all =
    own_session found before later one (and_parts (option_map_or (same_session first.served.session) found false) (list_all (λ other. option_map_or (same_session other.served.session) found false) (before ++ one ∷ later)) all).1

-- THE FRAME THAT WAS SENT LAST --------------------------------------------------------------------

-- what stands at the place of the next one
at_place : (xs ys zs : List Sent) (x : Sent) → is_front same_sent (xs ++ x ∷ ys) zs ≡ true → (z : Sent) × ((slice_get zs (length xs) ≡ Some z) × (same_sent x z ≡ true))
at_place [] ys [] x front = absurd (let none : ⊥ = cc in none)
at_place [] ys (z ∷ zs) x front = (z, (refl, (and_parts (same_sent x z) (is_front same_sent ys zs) front).0))
at_place (w ∷ xs) ys [] x front = absurd (let none : ⊥ = cc in none)
at_place (w ∷ xs) ys (z ∷ zs) x front = at_place xs ys zs x (and_parts (same_sent w z) (is_front same_sent (xs ++ x ∷ ys) zs) front).1

last_at : (xs : List Sent) (index : ℕ) (x : Sent) (found : Option Sent) → slice_get xs index ≡ Some x → length xs ≡ index + 1 → last_or found xs ≡ Some x
last_at [] index x found is long = absurd (let none : ⊥ = cc in none)
last_at (y ∷ []) zero x found is long = is
last_at (y ∷ z ∷ ys) zero x found is long = absurd (let none : ⊥ = omega arith in none)
last_at (y ∷ ys) (suc index) x found is long = let less : length ys ≡ index + 1 = omega arith in last_at ys index x (Some y) is less

-- one that is kept, and stands last, is the last that is kept
last_kept : (test : Sent → Bool) (xs : List Sent) (x : Sent) (found other : Option Sent) → test x ≡ true → last_or found xs ≡ Some x → (xs ≡ [] → other ≡ found) → last_or other (filter test xs) ≡ Some x
last_kept test [] x found other met is same = same refl ∙ is
last_kept test (y ∷ []) x found other met is same =
    let equal : y ≡ x = cc in
    ap (λ (b : Bool). last_or other (cond b (y ∷ []) [])) (ap test equal ∙ met) ∙ ap Some equal
last_kept test (y ∷ z ∷ ys) x found other met is same =
    by (test y) (last_kept test (z ∷ ys) x (Some y) (Some y) met is (λ none. refl)) (last_kept test (z ∷ ys) x (Some y) other met is (λ none. absurd (let never : ⊥ = cc in never)))
  where
    by : (kept : Bool) → last_or (Some y) (filter test (z ∷ ys)) ≡ Some x → last_or other (filter test (z ∷ ys)) ≡ Some x → last_or other (cond kept (y ∷ filter test (z ∷ ys)) (filter test (z ∷ ys))) ≡ Some x
    by true with_it without = with_it
    by false with_it without = without

-- WHAT IS TAKEN -----------------------------------------------------------------------------------

-- as the request waits on the connection
abbrev pub waits_so : Owner → Phase → Link → Bool
waits_so owner phase link = is_out link && option_map_or (λ sent. is_answered sent.frame && (owned_by owner sent && is_awaited phase sent)) (last_or None link.sent) false

pub reply_told : (owner : Owner) (phase : Phase) (link : Link) (reply : Reply) (left : List Reply) (before later : List Answer) (answer : Answer) → waits_so owner phase link ≡ true → link.down ≡ reply ∷ left → handled_from 0 link.served ≡ true
    → is_answered_in_order link ≡ true → list_all (λ other. option_map_or (same_session other.served.session) link.session false) link.served ≡ true → answers_of link.served ≡ before ++ answer ∷ later → answer.reply ≡ reply
    → TellsReply owner phase link reply.frame answer.served
reply_told owner phase link reply left before later answer waits down handled order mine given is = by (last_or None link.sent) refl parts.1
  where
    parts : (is_out link ≡ true) × (option_map_or (λ sent. is_answered sent.frame && (owned_by owner sent && is_awaited phase sent)) (last_or None link.sent) false ≡ true)
    parts = and_parts (is_out link) (option_map_or (λ sent. is_answered sent.frame && (owned_by owner sent && is_awaited phase sent)) (last_or None link.sent) false) waits

    it : IsAnswered link.served answer
    it = answered_by link.served before later answer given

    so : (now : ℕ) × (is_handled now it.one ≡ true)
    so = handled_at 0 it.before it.later it.one (subst (λ (served : List Handled). handled_from 0 served ≡ true) it.among handled)

    replied : it.one.reply ≡ Some reply.frame
    replied = it.reply ∙ ap (λ (r : Reply). Some r.frame) is

    says : (is_item_of it.one.sent.frame it.one.served.item ≡ true) × (same_replies (Some reply.frame) (reply_of it.one.served.session so.0 it.one.served.item) ≡ true)
    says = said_rightly so.0 it.one reply.frame replied so.1

    session : link.session ≡ Some it.one.served.session
    session = own_session link.session it.before it.later it.one (subst (λ (served : List Handled). list_all (λ other. option_map_or (same_session other.served.session) link.session false) served ≡ true) it.among mine)

    tos : List Sent
    tos = map (λ (one : Reply). one.to) link.taken

    rep : (sent : Sent) × ((slice_get (reps_of link) (length tos) ≡ Some sent) × (same_sent reply.to sent ≡ true))
    rep =
        at_place tos (map (λ (one : Reply). one.to) left) (reps_of link) reply.to
        (subst (λ (sents : List Sent). is_front same_sent sents (reps_of link) ≡ true) (map-append (λ (one : Reply). one.to) link.taken (reply ∷ left))
        (subst (λ (rest : List Reply). is_front same_sent (map (λ (one : Reply). one.to) (link.taken ++ rest)) (reps_of link) ≡ true) down order))

    long : length (reps_of link) ≡ length tos + 1
    long =
        let count : length (filter is_rep link.sent) ≡ count_reps link.sent = length-filter is_rep link.sent in
        let one : count_reps link.sent ≡ length link.taken + 1 = eq_from (count_reps link.sent) (length link.taken + 1) parts.0 in
        let same : length tos ≡ length link.taken = length-map link.taken (λ (r : Reply). r.to) in
        omega (arith, count, one, same)

    by : (found : Option Sent) → last_or None link.sent ≡ found → option_map_or (λ sent. is_answered sent.frame && (owned_by owner sent && is_awaited phase sent)) found false ≡ true → TellsReply owner phase link reply.frame answer.served
    by None last here = absurd (let none : ⊥ = cc in none)
    by (Some sent) last here =
        let one = and_parts (is_answered sent.frame) (owned_by owner sent && is_awaited phase sent) here in
        let two = and_parts (owned_by owner sent) (is_awaited phase sent) one.1 in
        let kept : last_or None (reps_of link) ≡ Some sent = last_kept is_rep link.sent sent None None one.0 last (λ none. refl) in
        let found : Some rep.0 ≡ Some sent = sym (last_at (reps_of link) (length tos) rep.0 None rep.1.0 long) ∙ kept in
        let equal : rep.0 ≡ sent = cc in
        let same : same_sent reply.to sent ≡ true = subst (λ (s : Sent). same_sent reply.to s ≡ true) equal rep.1.1 in
        let mine : it.one.sent ≡ reply.to = it.sent ∙ ap (λ (r : Reply). r.to) is in
        record {
          one = it.one;
          before = it.before;
          later = it.later;
          among = it.among;
          item = it.item;
          reply = replied;
          commits = so.0;
          is_its = subst (λ (s : Served). is_item_of it.one.sent.frame s.item ≡ true) it.item says.0;
          says = subst (λ (s : Served). same_replies (Some reply.frame) (reply_of s.session so.0 s.item) ≡ true) it.item says.1;
          sent = sent;
          last = last;
          same = subst (λ (s : Sent). same_sent s sent ≡ true) (sym mine) same;
          own = two.0;
          awaited = two.1;
          session = session ∙ ap (λ (s : Served). Some s.session) it.item;
        }
