-- Of each connection: it is open as long as no event ended it.
use Rattle.std.proofs.Common.{◌≡◌, refl, sym, ap, subst, ◌∙◌, Bool, true, false, ℕ, ◌+◌, ◌≤◌, ◌&&◌, ◌||◌, List, ◌∷◌, ◌++◌, map, Option, Some, None, arith, le_refl}
use Rattle.std.specs.Prelude.{nat_le, not, is_none}
use Rattle.std.specs.List.{list_any}
use Rattle.std.proofs.lemmas.Bool.{and_parts, and_from, or_right, or_left}
use Rattle.std.proofs.lemmas.List.Folds.{list_any-append}
use Rattle.svc_values.specs.declared.frame.Up.{Up}
use Rattle.svc_values.specs.declared.frame.Up.TheVariants as up
use Rattle.svc_values.specs.meaning.Same.{same_bool}
use Rattle.outage_schedule.specs.declared.item.Item.{Item}
use Rattle.outage_schedule.specs.declared.item.Item.TheVariants as item
use Rattle.outage_schedule.specs.declared.item.Served.{Served}
use Rattle.world_model.specs.meaning.Frames.{Sent, Handled}
use Rattle.world_model.specs.meaning.Links.{Link, is_close, is_orphan, sends}
use Rattle.world_model.specs.meaning.Machines.{Machine}
use Rattle.world_model.specs.meaning.Serving.{Front, is_ordinary, is_of_front, is_item_of, is_last, is_blocked, after_front, handled}
use Rattle.world_model.specs.records.Basic.{at_most}
use Rattle.world_model.specs.Parts.{is_closed, implies}
use Rattle.world_model.specs.Sames.{same_up, same_sent, is_front}
use Rattle.world_model.specs.records.Wire.{up_of, is_sent_front}
use Rattle.world_model.proofs.events.Tests.{or_false, not_both, le_to, le_from}
use Rattle.world_model.proofs.basic.Ends.{with_frames, has_close, ends_case, sends_case, handled_case, cut_case, fallen_case}
use Rattle.world_model.proofs.wire.Fronts.{same_frames, front_any}
use Rattle.world_model.proofs.events.AllLinks.{Keeps}

abbrev ends_test : ℕ → Bool → Option ℕ → Bool → Bool → Bool → Bool
ends_test event opens ended closed cut living = same_bool opens (is_none ended) && (at_most event ended && (implies (closed || cut) (not opens) && implies opens living))

abbrev pub ends_at : ℕ → Link → Bool
ends_at event link = ends_test event link.is_open link.ended (is_closed link) link.is_cut link.is_living

shut_now : (event : ℕ) (closed cut living : Bool) → ends_test event false (Some event) closed cut living ≡ true
shut_now event closed cut living =
    and_from (nat_le event event) (implies (closed || cut) true && true) (le_to event event (le_refl event)) (and_from (implies (closed || cut) true) true (or_right (not (closed || cut)) true refl) refl)

-- one that is not open stays so
still_shut : (event : ℕ) (opens : Bool) (ended : Option ℕ) (closed cut living closed1 cut1 living1 : Bool) → opens ≡ false → ends_test event opens ended closed cut living ≡ true
    → ends_test event opens ended closed1 cut1 living1 ≡ true
still_shut event true ended closed cut living closed1 cut1 living1 is here = absurd (let none : ⊥ = cc in none)
still_shut event false ended closed cut living closed1 cut1 living1 is here =
    let first = and_parts (same_bool false (is_none ended)) (at_most event ended && (implies (closed || cut) true && true)) here in
    let second = and_parts (at_most event ended) (implies (closed || cut) true && true) first.1 in
    and_from (same_bool false (is_none ended)) (at_most event ended && (implies (closed1 || cut1) true && true)) first.0
    (and_from (at_most event ended) (implies (closed1 || cut1) true && true) second.0 (and_from (implies (closed1 || cut1) true) true (or_right (not (closed1 || cut1)) true refl) refl))

-- its session may end where it is not open
living_still : (event : ℕ) (opens : Bool) (ended : Option ℕ) (closed cut living living1 : Bool) → (opens ≡ true → living1 ≡ true) → ends_test event opens ended closed cut living ≡ true
    → ends_test event opens ended closed cut living1 ≡ true
living_still event false ended closed cut living living1 lives here = still_shut event false ended closed cut living closed cut living1 refl here
living_still event true ended closed cut living living1 lives here =
    let first = and_parts (same_bool true (is_none ended)) (at_most event ended && (implies (closed || cut) false && living)) here in
    let second = and_parts (at_most event ended) (implies (closed || cut) false && living) first.1 in
    let third = and_parts (implies (closed || cut) false) living second.1 in
    and_from (same_bool true (is_none ended)) (at_most event ended && (implies (closed || cut) false && living1)) first.0
    (and_from (at_most event ended) (implies (closed || cut) false && living1) second.0 (and_from (implies (closed || cut) false) living1 third.0 (lives refl)))

-- it is neither closed nor cut where it is open
pub not_closed : (event : ℕ) (opens : Bool) (ended : Option ℕ) (closed cut living : Bool) → opens ≡ true → ends_test event opens ended closed cut living ≡ true → (closed || cut) ≡ false
not_closed event false ended closed cut living is here = absurd (let none : ⊥ = cc in none)
not_closed event true ended closed cut living is here =
    by (closed || cut) (and_parts (implies (closed || cut) false) living (and_parts (at_most event ended) (implies (closed || cut) false && living) (and_parts (same_bool true (is_none ended)) (at_most event ended && (implies (closed || cut) false && living)) here).1).1).0
  where
    by : (any : Bool) → implies any false ≡ true → any ≡ false
    by true e = absurd (let none : ⊥ = cc in none)
    by false e = refl

-- later events come behind it
pub ends_later : (last event : ℕ) → event ≡ last + 1 → (link : Link) → ends_at last link ≡ true → ends_at event link ≡ true
ends_later last event next link here = by link.ended here
  where
    by_at : (ended : Option ℕ) → at_most last ended ≡ true → at_most event ended ≡ true
    by_at None e = refl
    by_at (Some one) e = let bound : one ≤ last = le_from one last e in le_to one event (omega arith)

    by : (ended : Option ℕ) → ends_test last link.is_open ended (is_closed link) link.is_cut link.is_living ≡ true → ends_test event link.is_open ended (is_closed link) link.is_cut link.is_living ≡ true
    by ended e =
        let rest : Bool = implies (is_closed link || link.is_cut) (not link.is_open) && implies link.is_open link.is_living in
        let first = and_parts (same_bool link.is_open (is_none ended)) (at_most last ended && rest) e in
        let second = and_parts (at_most last ended) rest first.1 in
        and_from (same_bool link.is_open (is_none ended)) (at_most event ended && rest) first.0 (and_from (at_most event ended) rest (by_at ended second.0) second.1)

-- FRAMES ------------------------------------------------------------------------------------------

abbrev closes : Sent → Bool
closes sent = is_close sent.frame

-- without a Close, it is closed as before
closed_same : (link : Link) (frames : List Sent) → has_close frames ≡ false → is_closed (with_frames frames link) ≡ is_closed link
closed_same link frames none = list_any-append closes link.sent frames ∙ (ap (λ b. list_any closes link.sent || b) none ∙ or_false (list_any closes link.sent))

sends_ends : (event : ℕ) (frames : List Sent) (link : Link) → ends_at event link ≡ true → ends_at event (sends event frames link) ≡ true
sends_ends event frames link here =
    sends_case (λ one. ends_at event one ≡ true) event frames link
    (λ closing. ends_case (λ one. ends_at event one ≡ true) event (with_frames frames link) (λ opens. shut_now event (is_closed (with_frames frames link)) link.is_cut link.is_living)
    (λ closed. still_shut event link.is_open link.ended (is_closed link) link.is_cut link.is_living (is_closed (with_frames frames link)) link.is_cut link.is_living closed here))
    (λ none. subst (λ (closed : Bool). ends_test event link.is_open link.ended closed link.is_cut link.is_living ≡ true) (sym (closed_same link frames none)) here)

same_closes : (a b : Up) → same_up a b ≡ true → is_close a ≡ true → is_close b ≡ true
same_closes up.Close up.Close same is = refl
same_closes up.Close up.Connect same is = absurd (let none : ⊥ = cc in none)
same_closes up.Close (up.Begin settings) same is = absurd (let none : ⊥ = cc in none)
same_closes up.Close (up.Call replay kept call) same is = absurd (let none : ⊥ = cc in none)
same_closes up.Close (up.Outcome x) same is = absurd (let none : ⊥ = cc in none)
same_closes up.Close up.End same is = absurd (let none : ⊥ = cc in none)
same_closes a b same is = absurd (let none : ⊥ = cc in none)

sent_closes : (a b : Sent) → same_sent a b ≡ true → closes a ≡ true → closes b ≡ true
sent_closes a b same is = same_closes a.frame b.frame (same_frames a b same) is

-- what may be served closes only what is closed
first_closes : (link : Link) (first : Sent) (later : List Sent) → is_sent_front link ≡ true → link.up ≡ first ∷ later → closes first ≡ true → is_closed link ≡ true
first_closes link first later wire is here =
    let served : List Sent = map (λ (one : Handled). one.sent) link.served in
    let any : list_any closes (served ++ (first ∷ later)) ≡ true =
    list_any-append closes served (first ∷ later) ∙ or_right (list_any closes served) (closes first || list_any closes later) (or_left (closes first) (list_any closes later) here) in
    front_any closes sent_closes (up_of link) link.sent (and_parts (is_front same_sent (up_of link) link.sent) _ wire).0 (subst (λ (ups : List Sent). list_any closes (served ++ ups) ≡ true) (sym is) any)

-- an item that ends a session, but Blocked, is that of Close
last_item : (frame : Up) (one : Item) → is_item_of frame one ≡ true → is_last one ≡ true → is_blocked one ≡ false → is_close frame ≡ true
last_item up.Close item.Close is last blocked = refl
last_item up.Connect item.Close is last blocked = absurd (let none : ⊥ = cc in none)
last_item (up.Begin settings) item.Close is last blocked = absurd (let none : ⊥ = cc in none)
last_item (up.Call replay kept call) item.Close is last blocked = absurd (let none : ⊥ = cc in none)
last_item (up.Outcome x) item.Close is last blocked = absurd (let none : ⊥ = cc in none)
last_item up.End item.Close is last blocked = absurd (let none : ⊥ = cc in none)
last_item frame (item.Blocked call) is last blocked = absurd (let none : ⊥ = cc in none)
last_item frame one is last blocked = absurd (let none : ⊥ = cc in none)

-- while the connection is open no session ends by Close
open_lives : (event : ℕ) (front : Front) (one : Item) → is_sent_front front.link ≡ true → front.link.up ≡ front.first ∷ front.later → is_item_of front.first.frame one ≡ true → is_blocked one ≡ false
    → ends_at event front.link ≡ true → front.link.is_open ≡ true → not (is_last one) ≡ true
open_lives event front one wire up is blocked here opens = by (is_last one) refl
  where
    by : (last : Bool) → is_last one ≡ last → not last ≡ true
    by false last = refl
    by true last =
        let closed : is_closed front.link ≡ true = first_closes front.link front.first front.later wire up (last_item front.first.frame one is last blocked) in
        let never = not_closed event front.link.is_open front.link.ended (is_closed front.link) front.link.is_cut front.link.is_living opens here in
        absurd (not_both (is_closed front.link || front.link.is_cut) (or_left (is_closed front.link) front.link.is_cut closed) never)

served_ends : (m : Machine) (front : Front) (served : Served) → is_sent_front front.link ≡ true → front.link.up ≡ front.first ∷ front.later → is_ordinary m front served ≡ true → ends_at m.event front.link ≡ true
    → ends_at m.event (handled m.event front served) ≡ true
served_ends m front served wire up ordinary here =
    let link : Link = front.link in
    let is : is_item_of front.first.frame served.item ≡ true = (and_parts (is_of_front m front served) (is_item_of front.first.frame served.item) ordinary).1 in
    handled_case (λ one. ends_at m.event one ≡ true) m.event front served
    (λ reply blocked. ends_case (λ one. ends_at m.event one ≡ true) m.event (after_front front served reply) (λ opens. shut_now m.event (is_closed link) link.is_cut (not (is_last served.item)))
    (λ closed. still_shut m.event link.is_open link.ended (is_closed link) link.is_cut link.is_living (is_closed link) link.is_cut (not (is_last served.item)) closed here))
    (λ reply blocked. living_still m.event link.is_open link.ended (is_closed link) link.is_cut link.is_living (not (is_last served.item)) (open_lives m.event front served.item wire up is blocked here) here)

falls_ends : (event : ℕ) (link : Link) (living : Bool) → ends_test event link.is_open link.ended (is_closed link) link.is_cut living ≡ true
    → (link.is_open ≡ false → ends_test event link.is_open link.ended (is_closed link) link.is_cut false ≡ true)
falls_ends event link living here closed = still_shut event link.is_open link.ended (is_closed link) link.is_cut living (is_closed link) link.is_cut false closed here

orphan_ends : (event : ℕ) (link : Link) → is_orphan link ≡ true → ends_at event link ≡ true → ends_test event link.is_open link.ended (is_closed link) link.is_cut false ≡ true
orphan_ends event link orphan here =
    let cut : link.is_cut ≡ true = (and_parts link.is_living link.is_cut orphan).1 in
    living_still event link.is_open link.ended (is_closed link) link.is_cut link.is_living false
    (λ opens. absurd (not_both (is_closed link || link.is_cut) (or_right (is_closed link) link.is_cut cut) (not_closed event link.is_open link.ended (is_closed link) link.is_cut link.is_living opens here))) here

pub ends_keep : (m : Machine) → Keeps m is_sent_front (ends_at m.event)
ends_keep m = record {
  at_new = λ up. refl;
  at_sends = λ frames link here. sends_ends m.event frames link here;
  at_takes = λ reply left link old here down. here;
  at_serves = λ number front served at ordinary old here. served_ends m front served old at.up ordinary here;
  at_stops = λ number after front served at stopped old here.
      fallen_case (λ one. ends_at m.event one ≡ true) m.event (after_front front served None)
      (λ opens. shut_now m.event (is_closed front.link) front.link.is_cut false)
      (λ closed. still_shut m.event front.link.is_open front.link.ended (is_closed front.link) front.link.is_cut front.link.is_living (is_closed front.link) front.link.is_cut false closed here);
  at_cuts = λ up down link opens here. cut_case (λ one. ends_at m.event one ≡ true) m.event up down link opens (shut_now m.event (is_closed link) true link.is_living);
  at_reaps = λ link orphan here. orphan_ends m.event link orphan here;
  at_falls = λ link here.
      fallen_case (λ one. ends_at m.event one ≡ true) m.event link (λ opens. shut_now m.event (is_closed link) link.is_cut false) (falls_ends m.event link link.is_living here);
}
