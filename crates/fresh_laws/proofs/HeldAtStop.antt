-- Where a call was stopped on a connection, the identifier that is held there is the one that its
-- session had then.
use Rattle.std.proofs.Common.{◌≡◌, refl, sym, ap, subst, ◌∙◌, arith, ℕ, ◌+◌, ◌≤◌, ◌&&◌, ◌||◌, cond, Bool, true, false, List, [], ◌∷◌, ◌++◌, length, length-append, map, filter, filter_map, Option, Some, None, ⊎_elim}
use Rattle.std.specs.Prelude.{◌==◌, nat_le, is_some, is_none, option_map}
use Rattle.std.specs.List.{list_all, list_any, cons_option}
use Rattle.std.specs.Option.{option_map_or}
use Rattle.std.proofs.lemmas.Bool.{and_parts, or_cases}
use Rattle.std.proofs.lemmas.List.{append-nil, length-map}
use Rattle.svc_values.specs.declared.entry.Ltxid.{Ltxid}
use Rattle.svc_values.specs.declared.entry.SessionId.{SessionId}
use Rattle.svc_values.specs.declared.frame.Down.{Down}
use Rattle.svc_values.specs.declared.frame.Up.{Up}
use Rattle.svc_values.specs.declared.frame.Up.TheVariants as up
use Rattle.svc_values.specs.meaning.Identifiers.{session_of, ltxid_of, same_session}
use Rattle.svc_values.specs.meaning.Same.{same_bool}
use Rattle.outage_schedule.specs.declared.item.Item.{Item}
use Rattle.outage_schedule.specs.declared.item.Item.TheVariants as item
use Rattle.world_model.specs.records.Basic.{is_connect, first_is_connect, is_named}
use Rattle.world_model.specs.meaning.Crashing.{is_crashed_item}
use Rattle.world_model.specs.meaning.Frames.{Reply, Handled}
use Rattle.world_model.specs.meaning.Links.{Link}
use Rattle.world_model.specs.records.Number.{is_stopped_call, last_told}
use Rattle.world_model.specs.Parts.{implies, is_answered, is_rep, served_reps, held_number}
use Rattle.world_model.specs.Sames.{same_sent, same_reply, is_front}
use Rattle.world_model.specs.records.Wire.{up_of, is_fresh, reply_to, replies_of, is_handled, counted_with, handled_from}
use Rattle.world_model.proofs.Offered.{Known, commits_behind, Was, Ordinary, Halted, was_so, rep_of, stopped_item, stopped_silent, all_told, alike_told, told_same, none_of, reply_rep, few_replies, front_long, eq_from, le_from, same_session_is, not_both}

abbrev pub is_stop : Handled → Bool
is_stop one = is_stopped_call one.served.item

call_rep : (frame : Up) (one : Item) → is_crashed_item frame one ≡ true → is_stopped_call one ≡ true → is_answered frame ≡ true
call_rep (up.Call replay kept called) one is stopped = refl
call_rep (up.Outcome x) one is stopped = refl
call_rep up.Connect one is stopped = refl
call_rep (up.Begin settings) one is stopped = absurd (let none : ⊥ = cc in none)
call_rep up.End one is stopped = absurd (let none : ⊥ = cc in none)
call_rep up.Close one is stopped = absurd (let none : ⊥ = cc in none)

-- a call that was stopped is an answered frame
stop_rep : (commits : ℕ) (one : Handled) → is_handled commits one ≡ true → is_stop one ≡ true → is_rep one.sent ≡ true
stop_rep commits one is stopped = by (was_so commits one is)
  where
    by : Was commits one → is_rep one.sent ≡ true
    by (Ordinary item_is same) = absurd (not_both (is_stop one) stopped (stopped_item one.sent.frame one.served.item item_is))
    by (Halted crashed none) = call_rep one.sent.frame one.served.item crashed stopped

none_is : (reply : Option Down) → is_none reply ≡ true → reply ≡ None
none_is None is = refl
none_is (Some frame) is = absurd (let none : ⊥ = cc in none)

few_more : (one : Handled) (reply : Option Down) (rep : Bool) (rest : List Reply) (reps : List Handled) → (is_some reply ≡ true → rep ≡ true) → length rest + 1 ≤ length reps
    → length (cons_option (option_map (λ frame. record { to = one.sent; frame = frame }) reply) rest) + 1 ≤ length (cond rep (one ∷ reps) reps)
few_more one None true rest reps follows few = let more : length (one ∷ reps) ≡ length reps + 1 = omega arith in omega (arith, few, more)
few_more one None false rest reps follows few = few
few_more one (Some frame) true rest reps follows few =
    let reply : Reply = record { to = one.sent; frame = frame } in
    let first : length (reply ∷ rest) ≡ length rest + 1 = omega arith in
    let more : length (one ∷ reps) ≡ length reps + 1 = omega arith in
    omega (arith, few, first, more)
few_more one (Some frame) false rest reps follows few = absurd (let never : false ≡ true = follows refl in let none : ⊥ = cc in none)

few_here : (one : Handled) (reply : Option Down) (rep : Bool) (rest : List Reply) (reps : List Handled) → is_none reply ≡ true → rep ≡ true → length rest ≤ length reps
    → length (cons_option (option_map (λ frame. record { to = one.sent; frame = frame }) reply) rest) + 1 ≤ length (cond rep (one ∷ reps) reps)
few_here one None true rest reps none is few = let more : length (one ∷ reps) ≡ length reps + 1 = omega arith in omega (arith, few, more)
few_here one None false rest reps none is few = absurd (let never : ⊥ = cc in never)
few_here one (Some frame) rep rest reps none is few = absurd (let never : ⊥ = cc in never)

-- where one was stopped, a frame has no reply
fewer : (commits : ℕ) (served : List Handled) → handled_from commits served ≡ true → list_any is_stop served ≡ true → length (filter_map reply_to served) + 1 ≤ length (filter rep_of served)
fewer commits [] handled any = absurd (let none : ⊥ = cc in none)
fewer commits (one ∷ others) handled any =
    let now : ℕ = counted_with commits one.served.item in
    let parts = and_parts (is_handled now one) (handled_from now others) handled in
    ⊎_elim (λ here. few_here one one.reply (rep_of one) (filter_map reply_to others) (filter rep_of others) (stopped_silent now one parts.0 here) (stop_rep now one parts.0 here) (few_replies now others parts.1))
    (λ later. few_more one one.reply (rep_of one) (filter_map reply_to others) (filter rep_of others) (reply_rep now one parts.0) (fewer now others parts.1 later)) (or_cases (is_stop one) (list_any is_stop others) any)

-- ALL REPLIES WERE TAKEN --------------------------------------------------------------------------

pub stopped_number : (link : Link) → Known link → list_any is_stop link.served ≡ true → held_number link ≡ commits_behind 0 link.served
stopped_number link known stopped =
    let front : is_front same_reply (link.taken ++ link.down) (replies_of link) ≡ true = (and_parts (is_front same_reply (link.taken ++ link.down) (replies_of link)) _ known.replies).0 in
    let got = front_long same_reply (link.taken ++ link.down) (replies_of link) front in
    let sum = length-append link.taken link.down in
    let few : length (replies_of link) + 1 ≤ length (served_reps link) = fewer 0 link.served known.handled stopped in
    let near : length (served_reps link) ≤ length link.taken + 1 = le_from (length (served_reps link)) (length link.taken + 1) (and_parts (nat_le (length link.taken) (length (served_reps link))) (nat_le (length (served_reps link)) (length link.taken + 1)) known.near).1 in
    let zero : length link.down ≡ 0 = omega (arith, got, sum, few, near) in
    let all : length link.taken ≡ length (replies_of link) = omega (arith, got, sum, few, near) in
    let taken : is_front same_reply link.taken (replies_of link) ≡ true =
    subst (λ (replies : List Reply). is_front same_reply replies (replies_of link) ≡ true) (ap (λ (d : List Reply). link.taken ++ d) (none_of link.down zero) ∙ append-nil link.taken) front in
    sym (told_same (last_told link.taken) link.held known.held) ∙ (alike_told None None link.taken (replies_of link) taken all refl ∙ all_told 0 None link.served known.handled refl)

-- THE IDENTIFIER ----------------------------------------------------------------------------------

-- a Connect, and then the call
two_served : (served : List Handled) → first_is_connect served ≡ true → list_any is_stop served ≡ true → 2 ≤ length served
two_served [] connects any = absurd (let none : ⊥ = cc in none)
two_served (one ∷ []) connects any = by one.served.item (and_parts (is_connect one.served.item) _ connects).0 any
  where
    by : (it : Item) → is_connect it ≡ true → (is_stopped_call it || false) ≡ true → 2 ≤ length (one ∷ [])
    by item.Connect is any = absurd (let none : ⊥ = cc in none)
    by it is any = absurd (let none : ⊥ = cc in none)
two_served (one ∷ next ∷ others) connects any = let long : length (one ∷ next ∷ others) ≡ length others + 2 = omega arith in omega (arith, long)

same_true : (a b : Bool) → same_bool a b ≡ true → a ≡ true → b ≡ true
same_true true true same is = refl
same_true true false same is = absurd (let none : ⊥ = cc in none)
same_true false b same is = absurd (let none : ⊥ = cc in none)

pub stopped_held : (link : Link) (session : SessionId) → Known link → is_fresh link ≡ true → is_named link ≡ true → link.session ≡ Some session → list_any is_stop link.served ≡ true → link.held ≡ Some (ltxid_of session (commits_behind 0 link.served))
stopped_held link session known fresh named its stopped = by link.held refl
  where
    one : (same_bool (is_some link.session) (first_is_connect link.served) ≡ true) × ((implies (is_none link.session) (length link.served == 0)
        && (list_all (λ h. option_map_or (same_session h.served.session) link.session false) link.served && option_map_or (λ x. option_map_or (same_session (session_of x)) link.session false) link.held true)) ≡ true)
    one = and_parts (same_bool (is_some link.session) (first_is_connect link.served)) _ named

    two : ((implies (is_none link.session) (length link.served == 0)) ≡ true)
        × ((list_all (λ h. option_map_or (same_session h.served.session) link.session false) link.served && option_map_or (λ x. option_map_or (same_session (session_of x)) link.session false) link.held true) ≡ true)
    two = and_parts (implies (is_none link.session) (length link.served == 0)) _ one.1

    own : option_map_or (λ x. option_map_or (same_session (session_of x)) link.session false) link.held true ≡ true
    own = (and_parts (list_all (λ h. option_map_or (same_session h.served.session) link.session false) link.served) _ two.1).1

    connects : first_is_connect link.served ≡ true
    connects = same_true (is_some link.session) (first_is_connect link.served) one.0 (ap is_some its)

    by : (held : Option Ltxid) → link.held ≡ held → link.held ≡ Some (ltxid_of session (commits_behind 0 link.served))
    by None is =
        let alone : length link.sent ≡ 1 = eq_from (length link.sent) 1 (sym (ap (λ (h : Option Ltxid). implies (is_none h) (length link.sent == 1)) is) ∙ fresh) in
        let least = two_served link.served connects stopped in
        let front = front_long same_sent (up_of link) link.sent (and_parts (is_front same_sent (up_of link) link.sent) _ known.sent).0 in
        let sum = length-append (map (λ h. h.sent) link.served) link.up in
        let mapped : length (map (λ h. h.sent) link.served) ≡ length link.served = length-map link.served (λ h. h.sent) in
        absurd (let never : ⊥ = omega (arith, alone, least, front, sum, mapped) in never)
    by (Some x) is =
        let mine : same_session (session_of x) session ≡ true =
        sym (ap (λ (s : Option SessionId). option_map_or (same_session (session_of x)) s false) its) ∙ (sym (ap (λ (h : Option Ltxid). option_map_or (λ y. option_map_or (same_session (session_of y)) link.session false) h true) is) ∙ own) in
        let number : x.number ≡ commits_behind 0 link.served = sym (ap (λ (h : Option Ltxid). option_map_or (λ y. y.number) h 0) is) ∙ stopped_number link known stopped in
        is ∙ ap Some (ap (λ (s : SessionId). ltxid_of s x.number) (same_session_is (session_of x) session mine) ∙ ap (ltxid_of session) number)
