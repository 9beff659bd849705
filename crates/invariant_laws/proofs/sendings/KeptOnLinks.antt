-- Of Once: the identifier of a sending is one of its connection's session, at the start and behind
-- each event.
use Rattle.std.proofs.Common.{◌≡◌, refl, sym, ap, subst, ◌∙◌, Bool, true, false, ℕ, ◌||◌, filter, length, List, Option, Some, None}
use Rattle.std.specs.Prelude.{not}
use Rattle.std.specs.List.{list_all}
use Rattle.std.specs.Option.{option_map_or}
use Rattle.std.proofs.lemmas.Bool.{or_right}
use Rattle.svc_values.specs.declared.call.Call.{Call}
use Rattle.svc_values.specs.declared.entry.Ltxid.{Ltxid}
use Rattle.svc_values.specs.declared.entry.SessionId.{SessionId}
use Rattle.svc_values.specs.meaning.Calls.{has_commit}
use Rattle.svc_values.specs.meaning.Identifiers.{is_of_session, session_of}
use Rattle.outage_schedule.specs.declared.item.Served.{Served}
use Rattle.world_model.specs.records.Basic.{is_named, are_named, sessions_differ}
use Rattle.world_model.specs.meaning.Clients.{Client}
use Rattle.world_model.specs.meaning.Frames.{Owner, Handled}
use Rattle.world_model.specs.records.Hold as hold
use Rattle.world_model.specs.Orderly.{Orderly}
use Rattle.invariant_laws.specs.KeptLaws.{StaysTrue}
use Rattle.world_model.specs.meaning.Links.{Link, link_at}
use Rattle.world_model.specs.meaning.Machines.{Machine}
use Rattle.world_model.specs.meaning.Matching.{Noted}
use Rattle.invariant_laws.specs.Once.{is_on_link, on_links}
use Rattle.world_model.specs.Parts.{Sending, Scan, commit_sendings}
use Rattle.world_model.specs.meaning.Serving.{Front, front_at, is_of_front, after_front}
use Rattle.world_model.specs.Reached.{traced_start}
use Rattle.world_model.specs.meaning.Settings.{Setting, setting_of}
use Rattle.world_model.specs.Traced.{Traced, Course, course_now, courses_of, courses_of_clients}
use Rattle.world_model.proofs.Offered.{at_link, front_is, weaker_all, all_wired, HasStepped, all_step, shut, sends_alike, handled_alike, cut_case, fallen_case, connect_first, Followed, follow_happens, at_event, basic_is_kept, resting_none, named_test, unnamed, other_session, Happens, is_wired, wired_sent, wired_right, serving, scan_by, heard_scan, after_sendings, leads, first_step, session_self}
use Rattle.invariant_laws.proofs.losses.KeptUnasked.{held_session}
use Rattle.invariant_laws.proofs.talks.LinksStay.{Stays, all_stay}
use Rattle.invariant_laws.proofs.losses.LostSteps.{before_so}
use Rattle.invariant_laws.proofs.talks.Placing.{Moving, Quietly, Stepping, moving}
use Rattle.invariant_laws.proofs.sendings.SendingsMade.{flat_all, chosen_from, chosen_to, made, answered_all, frames_all, Speaks, speaks}

-- A CONNECTION KEEPS ITS SESSION ------------------------------------------------------------------

abbrev pub KeepsSession : Link → Link → Type 0
KeepsSession a b = (session : SessionId) → a.session ≡ Some session → b.session ≡ Some session

pub self_session : (link : Link) → KeepsSession link link
self_session link session has = has

pub joined_session : (a b c : Link) → KeepsSession a b → KeepsSession b c → KeepsSession a c
joined_session a b c one other session has = other session (one session has)

module _ (t : Traced) (inv : Orderly t) where
  abbrev m : Machine
  m = at_event t.machine

  served_by : (number : ℕ) (front : Front) (served : Served) → front_at m.links number ≡ Some front → is_of_front m front served ≡ true → (session : SessionId) → front.link.session ≡ Some session → served.session ≡ session
  served_by number front served is of session has = by (hold.is_connect front.first.frame) refl
    where
      wired : is_wired front.link ≡ true
      wired = at_link is_wired m.links number front.link (all_wired m.links inv.wire.sent inv.wire.grammar inv.wire.replies inv.wire.handled) (front_is m.links number front is).there

      named : is_named front.link ≡ true
      named = at_link is_named m.links number front.link inv.basic.named (front_is m.links number front is).there

      by : (connects : Bool) → hold.is_connect front.first.frame ≡ connects → served.session ≡ session
      by true connects =
          let first = connect_first front.link front.first front.later (wired_sent front.link wired) (wired_right front.link wired) (front_is m.links number front is).up connects in
          let none : front.link.session ≡ None = unnamed front.link.session front.link.held (subst (λ (handled : List Handled). named_test front.link.session handled front.link.held ≡ true) first named) in
          absurd (let never : None ≡ Some session = sym none ∙ has in let nothing : ⊥ = cc in nothing)
      by false other =
          let mine : front.link.session ≡ Some served.session = other_session m.server front.link front.first.frame served.session other (serving m front served of) in
          let both : Some served.session ≡ Some session = sym mine ∙ has in
          let same : served.session ≡ session = cc in
          same

  served_keeps : (number : ℕ) (front : Front) (served : Served) → front_at m.links number ≡ Some front → is_of_front m front served ≡ true → (next : Link) → next.session ≡ Some served.session → KeepsSession front.link next
  served_keeps number front served is of next now session has = now ∙ ap Some (served_by number front served is of session has)

  pub sessions_stay : (items left : List Served) (kind : Noted) (n : Machine) → Happens t.setting m items left kind n → Stays KeepsSession self_session joined_session m.links n.links
  sessions_stay items left kind n happens =
      all_stay KeepsSession self_session joined_session t.setting m
      (λ number front served is of. handled_alike (KeepsSession front.link) m.event front served (λ reply. served_keeps number front served is of (shut m.event (after_front front served reply)) refl)
      (λ reply. served_keeps number front served is of (after_front front served reply) refl))
      (λ number front served is of. served_keeps number front served is of (after_front front served None) refl)
      (λ up down link opens. cut_case (KeepsSession link) m.event up down link opens (self_session link)) (λ link. self_session link)
      (λ link. fallen_case (KeepsSession link) m.event link (λ opens. self_session link) (λ closed. self_session link))
      (λ frames link. sends_alike (KeepsSession link) m.event frames link (self_session link) (self_session link)) (λ input reply left link. self_session link) items left kind n happens

-- SENDINGS ----------------------------------------------------------------------------------------

-- where its connection is, and which session it has
pub record IsOnLink (links : List Link) (sending : Sending) : Type 0 where
  pub link : Link
  pub there : link_at links sending.connection ≡ Some link
  pub session : SessionId
  pub has : link.session ≡ Some session
  pub of : is_of_session session sending.ltxid ≡ true

pub on_from : (t : Traced) (sending : Sending) → is_on_link t sending ≡ true → IsOnLink t.machine.links sending
on_from t sending here = by (link_at t.machine.links sending.connection) refl here
  where
    named : (link : Link) → link_at t.machine.links sending.connection ≡ Some link → (session : Option SessionId) → link.session ≡ session → option_map_or (λ session. is_of_session session sending.ltxid) session false ≡ true → IsOnLink t.machine.links sending
    named link there None has of = absurd (let none : ⊥ = cc in none)
    named link there (Some session) has of = record { link = link; there = there; session = session; has = has; of = of }

    by : (found : Option Link) → link_at t.machine.links sending.connection ≡ found → option_map_or (λ link. option_map_or (λ session. is_of_session session sending.ltxid) link.session false) found false ≡ true → IsOnLink t.machine.links sending
    by None there here = absurd (let none : ⊥ = cc in none)
    by (Some link) there here = named link there link.session refl here

on_to : (t : Traced) (sending : Sending) (link : Link) (session : SessionId) → link_at t.machine.links sending.connection ≡ Some link → link.session ≡ Some session → is_of_session session sending.ltxid ≡ true → is_on_link t sending ≡ true
on_to t sending link session there has of =
    ap (λ (found : Option Link). option_map_or (λ link. option_map_or (λ session. is_of_session session sending.ltxid) link.session false) found false) there
    ∙ (ap (λ (found : Option SessionId). option_map_or (λ session. is_of_session session sending.ltxid) found false) has ∙ of)

-- of a request
abbrev course_on : Traced → Course → Bool
course_on t course = list_all (is_on_link t) (commit_sendings course)

module _ (t : Traced) (inv : Orderly t) (new : Traced) (setting : new.setting ≡ t.setting) (named : are_named new ≡ true) (apart : sessions_differ new ≡ true) (items left : List Served) (kind : Noted)
    (happens : Happens t.setting (at_event t.machine) items left kind new.machine) where
  still_on : (sending : Sending) → is_on_link t sending ≡ true → is_on_link new sending ≡ true
  still_on sending here =
      let on = on_from t sending here in
      let becomes = sessions_stay t inv items left kind new.machine happens sending.connection on.link on.there in
      on_to new sending becomes.next on.session becomes.there (becomes.so on.session on.has) on.of

  others_on : (course : Course) → course_on t course ≡ true → course_on new course ≡ true
  others_on course here = weaker_all (is_on_link t) (is_on_link new) (commit_sendings course) still_on here

  module _ (who : ℕ) (step : HasStepped t.setting (at_event t.machine) who new.machine) where
    abbrev mine : Owner
    mine = record { client = who; place = length step.client.past }

    abbrev passes : Sending → Bool
    passes sending = not (has_commit sending.call) || is_on_link new sending

    abbrev scan_now : Scan
    scan_now = heard_scan t.setting (at_event t.machine) inv.script.talks who new.machine step

    -- one that is made now
    made_on : Speaks t inv who new.machine step → (call : Call) (x : Ltxid) → scan_now.held ≡ Some x → passes (made scan_now call x) ≡ true
    made_on speaking call x is =
        or_right (not (has_commit call)) (is_on_link new (made scan_now call x))
        (on_to new (made scan_now call x) speaking.next (session_of x)
        (ap (link_at new.machine.links) (leads t.setting (at_event t.machine) inv.script.talks who new.machine step speaking.connection speaking.has) ∙ speaking.there)
        (held_session new named apart speaking.connection speaking.next x speaking.there (speaking.held ∙ is)) (session_self (session_of x)))

    mine_on : course_on t (course_now t.setting who (length step.client.past) step.before) ≡ true → list_all (is_on_link new) (filter (λ sending. has_commit sending.call) (scan_by mine step.after.steps).sendings) ≡ true
    mine_on here =
        chosen_to (λ (sending : Sending). has_commit sending.call) (is_on_link new) (scan_by mine step.after.steps).sendings
        (subst (λ (sendings : List Sending). list_all passes sendings ≡ true) (sym (after_sendings t.setting (at_event t.machine) inv.script.talks who new.machine step))
        (frames_all passes scan_now (first_step t.setting (at_event t.machine) inv.script.talks who new.machine step).done.act.send scan_now.sendings
        (λ calls call x is. made_on (speaks t inv who new.machine step calls) call x is)
        (answered_all passes (λ sending answers so. so) step.input (first_step t.setting (at_event t.machine) inv.script.talks who new.machine step).done.act.shown (scan_by mine step.before.steps).sendings
        (chosen_from (λ (sending : Sending). has_commit sending.call) (is_on_link new) (scan_by mine step.before.steps).sendings (weaker_all (is_on_link t) (is_on_link new) _ still_on here)))))

  by_step : Moving t.setting (at_event t.machine) new.machine → list_all (course_on t) (courses_of t) ≡ true → list_all (course_on new) (courses_of_clients t.setting 1 new.machine.clients) ≡ true
  by_step (Quietly same stays) all =
      subst (λ (clients : List Client). list_all (course_on new) (courses_of_clients t.setting 1 clients) ≡ true) (sym same) (weaker_all (course_on t) (course_on new) (courses_of t) others_on all)
  by_step (Stepping who step) all =
      let here : course_on t (course_now t.setting who (length step.client.past) step.before) ≡ true = before_so t inv who new.machine step (course_on t) all (λ request. refl) in
      all_step t.setting (course_on t) (course_on new) (record { client = who; place = length step.client.past }) (λ course differs so. others_on course so) (at_event t.machine) who new.machine step refl
      (λ keep. mine_on who step here) (λ over. mine_on who step here) all

pub links_law : StaysTrue on_links
links_law = record {
  at_start = λ document. flat_all (is_on_link (traced_start document)) commit_sendings (courses_of (traced_start document)) ∙ resting_none (setting_of document) 1 (course_on (traced_start document)) document.clients;
  at_event = λ before after old new event note items left one inv here.
      let by : Followed old.setting old.machine event note items left new.machine = follow_happens old.setting old.machine event note items left new.machine one.follows in
      let basic = basic_is_kept before after old new event note items left one inv in
      flat_all (is_on_link new) commit_sendings (courses_of new)
      ∙ subst (λ (setting : Setting). list_all (course_on new) (courses_of_clients setting 1 new.machine.clients) ≡ true) (sym one.setting)
      (by_step old inv new one.setting basic.named basic.apart items left by.kind by.happens (moving old.setting (at_event old.machine) items left by.kind new.machine by.happens)
      (sym (flat_all (is_on_link old) commit_sendings (courses_of old)) ∙ here));
}
