-- A connection keeps its name.
use Rattle.std.proofs.Common.{◌≡◌, refl, subst, ◌∙◌, Bool, true, false, ℕ, ◌&&◌, List, Option, Some, None}
use Rattle.std.specs.Prelude.{◌==◌}
use Rattle.std.proofs.lemmas.Bool.{and_parts}
use Rattle.svc_values.specs.declared.entry.SessionId.{SessionId}
use Rattle.svc_values.specs.declared.frame.Up.{Up}
use Rattle.svc_values.specs.declared.frame.Up.TheVariants as up
use Rattle.svc_values.specs.declared.frame.Down.{Down}
use Rattle.outage_schedule.specs.declared.item.Item.{Item}
use Rattle.outage_schedule.specs.declared.item.Item.TheVariants as item
use Rattle.outage_schedule.specs.declared.item.Served.{Served}
use Rattle.world_model.specs.meaning.Frames.{Handled}
use Rattle.world_model.specs.meaning.Links.{Link}
use Rattle.world_model.specs.meaning.Machines.{Machine}
use Rattle.world_model.specs.meaning.Serving.{Front, is_of_front, is_served_by, is_item_of, after_front}
use Rattle.world_model.specs.meaning.Crashing.{is_crashed_item}
use Rattle.world_model.specs.records.Basic.{is_named, is_connect}
use Rattle.world_model.specs.records.Hold as hold
use Rattle.world_model.specs.records.Wire.{is_sent_front, is_reply_front, handled_from, stage_of, is_right}
use Rattle.world_model.proofs.wire.Fronts.{connect_first}
use Rattle.world_model.proofs.basic.Ends.{sends_alike, handled_alike, cut_case, fallen_case}
use Rattle.world_model.proofs.basic.LinkNamed.{named_test, connect_named, other_named, held_named, named_items, named_held, other_session, connect_item}
use Rattle.world_model.proofs.number.LinkTold.{taken_tells, told_held}
use Rattle.world_model.proofs.events.AllLinks.{IsFront, Keeps}

-- what Wire says of the connection
abbrev pub is_wired : Link → Bool
is_wired link = is_sent_front link && (is_right (stage_of link) && (is_reply_front link && handled_from 0 link.served))

pub wired_sent : (link : Link) → is_wired link ≡ true → is_sent_front link ≡ true
wired_sent link wired = (and_parts (is_sent_front link) (is_right (stage_of link) && (is_reply_front link && handled_from 0 link.served)) wired).0

wired_rest : (link : Link) → is_wired link ≡ true → (is_right (stage_of link) && (is_reply_front link && handled_from 0 link.served)) ≡ true
wired_rest link wired = (and_parts (is_sent_front link) (is_right (stage_of link) && (is_reply_front link && handled_from 0 link.served)) wired).1

pub wired_right : (link : Link) → is_wired link ≡ true → is_right (stage_of link) ≡ true
wired_right link wired = (and_parts (is_right (stage_of link)) (is_reply_front link && handled_from 0 link.served) (wired_rest link wired)).0

wired_replies : (link : Link) → is_wired link ≡ true → (is_reply_front link && handled_from 0 link.served) ≡ true
wired_replies link wired = (and_parts (is_right (stage_of link)) (is_reply_front link && handled_from 0 link.served) (wired_rest link wired)).1

-- of a front, which session serves it
pub serving : (m : Machine) (front : Front) (served : Served) → is_of_front m front served ≡ true → is_served_by m.server front.link front.first.frame served.session ≡ true
serving m front served is = (and_parts (served.event == m.event) (is_served_by m.server front.link front.first.frame served.session) is).1

pub crashed_item : (frame : Up) (one : Item) → is_crashed_item frame one ≡ true → is_connect one ≡ hold.is_connect frame
crashed_item (up.Call replay kept call) (item.CrashedCall marked served) e = refl
crashed_item (up.Outcome x) (item.CrashedOutcome asked) e = refl
crashed_item up.Connect one e = absurd (let never : ⊥ = cc in never)
crashed_item (up.Begin settings) one e = absurd (let never : ⊥ = cc in never)
crashed_item up.End one e = absurd (let never : ⊥ = cc in never)
crashed_item up.Close one e = absurd (let never : ⊥ = cc in never)
crashed_item (up.Call replay kept call) one e = absurd (let never : ⊥ = cc in never)
crashed_item (up.Outcome x) one e = absurd (let never : ⊥ = cc in never)

served_by_kind : (m : Machine) (links : List Link) (number : ℕ) (front : Front) (served : Served) (reply : Option Down) (connect : Bool) → hold.is_connect front.first.frame ≡ connect → IsFront links number front
    → is_of_front m front served ≡ true → is_connect served.item ≡ hold.is_connect front.first.frame → is_wired front.link ≡ true → is_named front.link ≡ true → is_named (after_front front served reply) ≡ true
served_by_kind m links number front served reply true is at of same wired here =
    let one : Handled = record { sent = front.first; served = served; reply = reply } in
    connect_named front.link.session front.link.served front.link.held one (connect_first front.link front.first front.later (wired_sent front.link wired) (wired_right front.link wired) at.up is) here (same ∙ is)
served_by_kind m links number front served reply false is at of same wired here =
    let one : Handled = record { sent = front.first; served = served; reply = reply } in
    let mine : front.link.session ≡ Some served.session = other_session m.server front.link front.first.frame served.session is (serving m front served of) in
    other_named served.session front.link.served front.link.held one (subst (λ (session : Option SessionId). named_test session front.link.served front.link.held ≡ true) mine here) refl (same ∙ is)

pub served_named : (m : Machine) (number : ℕ) (front : Front) (served : Served) (reply : Option Down) → IsFront m.links number front → is_of_front m front served ≡ true
    → is_connect served.item ≡ hold.is_connect front.first.frame → is_wired front.link ≡ true → is_named front.link ≡ true → is_named (after_front front served reply) ≡ true
served_named m number front served reply at of same wired here = served_by_kind m m.links number front served reply (hold.is_connect front.first.frame) refl at of same wired here

pub named_keep : (m : Machine) → Keeps m is_wired is_named
named_keep m = record {
  at_new = λ up. refl;
  at_sends = λ frames link here. sends_alike (λ one. is_named one ≡ true) m.event frames link here here;
  at_takes = λ reply left link old here down.
      held_named link.session link.served link.held _ here
      (told_held link.session link.held reply.frame link.is_open
      (taken_tells link.session link reply left (named_items link.session link.served link.held here)
      (and_parts (is_reply_front link) (handled_from 0 link.served) (wired_replies link old)).1 (and_parts (is_reply_front link) (handled_from 0 link.served) (wired_replies link old)).0 down)
      (named_held link.session link.served link.held here));
  at_serves = λ number front served at ordinary old here.
      let parts = and_parts (is_of_front m front served) (is_item_of front.first.frame served.item) ordinary in
      let kept : (reply : Option Down) → is_named (after_front front served reply) ≡ true = λ reply. served_named m number front served reply at parts.0 (connect_item front.first.frame served.item parts.1) old here in
      handled_alike (λ one. is_named one ≡ true) m.event front served kept kept;
  at_stops = λ number after front served at stopped old here.
      let parts = and_parts (is_of_front m front served) _ stopped in
      let same = crashed_item front.first.frame served.item (and_parts (is_crashed_item front.first.frame served.item) _ parts.1).0 in
      fallen_case (λ one. is_named one ≡ true) m.event (after_front front served None) (λ is. served_named m number front served None at parts.0 same old here) (λ is. served_named m number front served None at parts.0 same old here);
  at_cuts = λ up down link opens here. cut_case (λ one. is_named one ≡ true) m.event up down link opens here;
  at_reaps = λ link orphan here. here;
  at_falls = λ link here. fallen_case (λ one. is_named one ≡ true) m.event link (λ is. here) (λ is. here);
}
