-- Of Once: a call with a commit that is out on a connection has its sending there, which waits
-- under the identifier held, at the start and behind each event.
use Rattle.std.proofs.Common.{◌≡◌, ◌≢◌, refl, sym, ap, subst, ◌∙◌, Bool, true, false, ℕ, suc, zero, ◌+◌, ◌&&◌, cond, filter, flat_map, fold, length, List, [], ◌∷◌, ◌++◌, Option, Some, None, ◌⊎◌, inl, inr, arith}
use Rattle.std.specs.Prelude.{◌==◌, is_some, is_none}
use Rattle.std.specs.List.{list_all, list_any, last_or}
use Rattle.std.specs.Option.{option_map_or}
use Rattle.std.proofs.lemmas.Bool.{and_parts, and_from, or_left}
use Rattle.svc_values.specs.declared.call.Call.{Call}
use Rattle.svc_values.specs.declared.entry.Ltxid.{Ltxid}
use Rattle.svc_values.specs.declared.frame.Up.{Up}
use Rattle.svc_values.specs.declared.frame.Up.TheVariants as up
use Rattle.svc_values.specs.declared.value.Value.{Value}
use Rattle.svc_values.specs.meaning.Calls.{has_commit}
use Rattle.svc_values.specs.meaning.Identifiers.{same_ltxid}
use Rattle.outage_schedule.specs.declared.item.Served.{Served}
use Rattle.client_model.specs.declared.act.Hold.{Hold}
use Rattle.client_model.specs.declared.act.Hold.TheVariants.{Keep}
use Rattle.client_model.specs.declared.input.Input.TheVariants.{Opened}
use Rattle.world_model.specs.meaning.Acting.{sent_by, call_in}
use Rattle.world_model.specs.meaning.Clients.{Client, Step}
use Rattle.world_model.specs.records.Conversing.{connected}
use Rattle.world_model.specs.meaning.Frames.{Owner, Sent, Reply}
use Rattle.world_model.specs.Orderly.{Orderly}
use Rattle.invariant_laws.specs.KeptLaws.{IsKeptOfAll}
use Rattle.world_model.specs.meaning.Links.{Link, new_link, link_at, sends}
use Rattle.world_model.specs.meaning.Machines.{Machine}
use Rattle.world_model.specs.meaning.Matching.{Noted}
use Rattle.invariant_laws.specs.Once.{are_apart, all_sendings, has_commit_out, is_waiting_on, out_waits, outs_wait}
use Rattle.world_model.specs.Parts.{Sending, Scan, Numbered, commit_sendings, implies, is_commit_call, is_rep, count_reps, is_unmarked_frame, sent_on}
use Rattle.world_model.specs.meaning.Settings.{Setting}
use Rattle.world_model.specs.Traced.{Traced, courses_of_clients}
use Rattle.invariant_laws.proofs.sendings.ApartSteps.{commits}
use Rattle.world_model.proofs.Offered.{HasStepped, sends_alike, all_numbered, Followed, follow_happens, at_event, held_now, numbered_at, implied, moves_next_number as next_number, ltxid_self, opening, sends_at, heard_scan, leads, places, first_step, first_doing, eq_from, eq_to, not_both, ComesFrom, IsNew, IsOld, all_turn, either, some_same}
use Rattle.invariant_laws.proofs.sendings.Fates.{call_frames, last_call}
use Rattle.invariant_laws.proofs.sendings.FateSteps.{Says, Silent, CallsOne, says_at, called_fold, has_call, on}
use Rattle.invariant_laws.proofs.losses.KeptGone.{new_apart}
use Rattle.invariant_laws.proofs.talks.LinksStay.{Becomes}
use Rattle.invariant_laws.proofs.talks.Placing.{SameOut, Moving, Quietly, Stepping, moving, others_at, said as spoken_frames}
use Rattle.invariant_laws.proofs.sendings.SendingsMade.{made, Speaks, speaks}
use Rattle.invariant_laws.proofs.sendings.SendingsPlaced.{after_all, any_step, any_mine}
use Rattle.invariant_laws.proofs.talks.SpokenLinks.{Spoke, spoke, said_call, said_none, none_out}

-- BY NUMBER ---------------------------------------------------------------------------------------

-- where such a call is out, its sending waits
abbrev pub OutsWait : List Link → List Sending → Type 0
OutsWait links sendings = (number : ℕ) (link : Link) → link_at links number ≡ Some link → has_commit_out link ≡ true → list_any (is_waiting_on (record { number = number; link = link })) sendings ≡ true

pub outs_from : (t : Traced) → outs_wait t ≡ true → OutsWait t.machine.links (all_sendings t)
outs_from t all number link there out = by number there
  where
    by : (at : ℕ) → link_at t.machine.links at ≡ Some link → list_any (is_waiting_on (record { number = at; link = link })) (all_sendings t) ≡ true
    by zero there = absurd (let none : ⊥ = cc in none)
    by (suc index) there =
        let same : suc index ≡ 1 + index = omega arith in
        implied (has_commit_out link) (list_any (is_waiting_on (record { number = suc index; link = link })) (all_sendings t)) out (numbered_at (out_waits t) 1 t.machine.links index (suc index) link same all there)

outs_to : (t : Traced) → OutsWait t.machine.links (all_sendings t) → outs_wait t ≡ true
outs_to t each =
    all_numbered (out_waits t) 1 t.machine.links
    (λ index number link same there.
    let at : suc index ≡ number = omega arith in
    by (record { number = number; link = link }) (has_commit_out link) (λ out. each number link (subst (λ (n : ℕ). link_at t.machine.links n ≡ Some link) at there) out) refl)
  where
    by : (one : Numbered) (out : Bool) → (has_commit_out one.link ≡ true → list_any (is_waiting_on one) (all_sendings t) ≡ true) → has_commit_out one.link ≡ out → implies out (list_any (is_waiting_on one) (all_sendings t)) ≡ true
    by one false here is = refl
    by one true here is = here is

-- where as much is out on one as on another
same_out : (a b : Link) → SameOut a b → has_commit_out b ≡ has_commit_out a
same_out a b same =
    ap (λ (n : ℕ). (n == length b.taken + 1) && option_map_or is_commit_call (last_or None (filter is_rep b.sent)) false) same.count
    ∙ (ap (λ (last : Option Sent). (count_reps a.sent == length b.taken + 1) && option_map_or is_commit_call last false) same.out
    ∙ ap (λ (taken : List Reply). (count_reps a.sent == length taken + 1) && option_map_or is_commit_call (last_or None (filter is_rep a.sent)) false) same.taken)

-- on a new one Connect is out
new_none : (event : ℕ) (owner : Owner) → has_commit_out (sends event (sent_by owner 0 up.Connect ∷ []) new_link) ≡ false
new_none event owner = sends_alike (λ (l : Link). has_commit_out l ≡ false) event (sent_by owner 0 up.Connect ∷ []) new_link refl refl

-- A STEP ------------------------------------------------------------------------------------------

module _ (t : Traced) (inv : Orderly t) (apart : are_apart t ≡ true) (new : Traced) (who : ℕ) (step : HasStepped t.setting (at_event t.machine) who new.machine) where
  abbrev m : Machine
  m = at_event t.machine

  abbrev mine : Owner
  mine = record { client = who; place = length step.client.past }

  abbrev one : Step
  one = first_step t.setting m inv.script.talks who new.machine step

  abbrev scan_now : Scan
  scan_now = heard_scan t.setting m inv.script.talks who new.machine step

  abbrev said_now : List Sent
  said_now = spoken_frames t.setting m who new.machine step

  abbrev said_all : List Sending
  said_all = after_all t inv new who step

  -- on a connection on which it does not speak none is answered
  away : (at : Numbered) → (step.connection ≡ Some at.number → ⊥) → list_any (is_waiting_on at) (all_sendings t) ≡ true → list_any (is_waiting_on at) said_all ≡ true
  away at strange any =
      any_step t inv new who step (is_waiting_on at) apart
      (λ top rest answers are is has waits.
      let number : top.connection ≡ at.number = eq_from top.connection at.number (and_parts (top.connection == at.number) (is_none top.taken && option_map_or (same_ltxid top.ltxid) at.link.held false) waits).0 in
      absurd (strange (on t inv apart new who step is.taking ∙ ap Some (sym is.on_it ∙ number)))) any

  module _ (number : ℕ) (next : Link) (has : step.connection ≡ Some number) (old : step.input ≡ Opened (next_number m) → ⊥) (there : link_at new.machine.links number ≡ Some next) (out : has_commit_out next ≡ true) where
    abbrev at : Numbered
    at = record { number = number; link = next }

    abbrev place : ℕ
    place = call_in (first_doing t.setting m inv.script.talks who new.machine step).talk.phase

    spoken : Spoke t inv apart new who step number
    spoken = spoke t inv apart new who step number has old

    next_is : sends m.event said_now spoken.link ≡ next
    next_is = some_same (link_at new.machine.links number) (sends m.event said_now spoken.link) next spoken.after there

    -- it is the call that is sent now
    called : (begun : Bool) (settings : List (List ℕ × Value)) (call : Call) → one.done.act.send ≡ opening begun settings ++ up.Call false [] call ∷ [] → one.done.act.hold ≡ Keep → list_any (is_waiting_on at) said_all ≡ true
    called begun settings call sends_it keeps =
        any_mine t inv new who step (is_waiting_on at)
        (ap (λ (send : List Up). list_any (is_waiting_on at) (filter commits (fold (sent_on scan_now) scan_now.sendings send))) sends_it
        ∙ (ap (λ (list : List Sending). list_any (is_waiting_on at) (filter commits list)) (called_fold scan_now begun settings call scan_now.sendings) ∙ found scan_now.held refl (and_parts (is_some scan_now.held) (place == scan_now.shown) placed).0))
      where
        placed : (is_some scan_now.held && (place == scan_now.shown)) ≡ true
        placed = by begun (subst (λ (frames : List Up). list_all (sends_at scan_now place) frames ≡ true) sends_it (places t.setting m inv.script.talks who new.machine step))
          where
            by : (begun : Bool) → list_all (sends_at scan_now place) (opening begun settings ++ up.Call false [] call ∷ []) ≡ true → (is_some scan_now.held && (place == scan_now.shown)) ≡ true
            by true all = (and_parts (is_some scan_now.held && (place == scan_now.shown)) true all).0
            by false all = (and_parts (is_some scan_now.held && (place == scan_now.shown)) true all).0

        -- it has a commit
        commit : has_commit call ≡ true
        commit =
            sends_alike (λ (l : Link). has_commit_out l ≡ true → has_commit call ≡ true) m.event (call_frames mine place begun settings call) spoken.link is is
            (ap (λ (frames : List Sent). has_commit_out (sends m.event frames spoken.link)) (sym (said_call t inv apart new who step begun settings call sends_it keeps)) ∙ (ap has_commit_out next_is ∙ out))
          where
            is : ((count_reps (spoken.link.sent ++ call_frames mine place begun settings call) == length spoken.link.taken + 1) && option_map_or is_commit_call (last_or None (filter is_rep (spoken.link.sent ++ call_frames mine place begun settings call))) false) ≡ true → has_commit call ≡ true
            is here =
                sym (ap (λ (last : Option Sent). option_map_or is_commit_call last false) (last_call mine place settings call begun spoken.link.sent))
                ∙ (and_parts (count_reps (spoken.link.sent ++ call_frames mine place begun settings call) == length spoken.link.taken + 1) (option_map_or is_commit_call (last_or None (filter is_rep (spoken.link.sent ++ call_frames mine place begun settings call))) false) here).1

        speaking : Speaks t inv who new.machine step
        speaking = speaks t inv who new.machine step (ap (list_any is_unmarked_frame) sends_it ∙ has_call begun settings call)

        next_held : next.held ≡ scan_now.held
        next_held =
            let both : Some speaking.connection ≡ Some number = sym speaking.has ∙ has in
            let same : speaking.connection ≡ number = cc in
            ap (λ (l : Link). l.held) (some_same (link_at new.machine.links number) next speaking.next there (subst (λ (k : ℕ). link_at new.machine.links k ≡ Some speaking.next) same speaking.there)) ∙ speaking.held

        found : (held : Option Ltxid) → scan_now.held ≡ held → is_some held ≡ true → list_any (is_waiting_on at) (filter commits (option_map_or (λ x. made scan_now call x ∷ scan_now.sendings) held scan_now.sendings)) ≡ true
        found None is some = absurd (let none : ⊥ = cc in none)
        found (Some x) is some = by (has_commit call) commit
          where
            waits : is_waiting_on at (made scan_now call x) ≡ true
            waits =
                and_from (scan_now.connection == number) (option_map_or (same_ltxid x) next.held false) (eq_to scan_now.connection number (leads t.setting m inv.script.talks who new.machine step number has))
                (ap (λ (held : Option Ltxid). option_map_or (same_ltxid x) held false) (next_held ∙ is) ∙ ltxid_self x)

            by : (commit_so : Bool) → commit_so ≡ true → list_any (is_waiting_on at) (cond commit_so (made scan_now call x ∷ filter commits scan_now.sendings) (filter commits scan_now.sendings)) ≡ true
            by true so = or_left (is_waiting_on at (made scan_now call x)) (list_any (is_waiting_on at) (filter commits scan_now.sendings)) waits
            by false so = absurd (let none : ⊥ = cc in none)

    speaks_there : list_any (is_waiting_on at) said_all ≡ true
    speaks_there = by one.done.act.send one.done.act.hold refl refl (says_at t.setting.terms step.before.talk step.input m.tick)
      where
        by : (send : List Up) (held : Hold) → one.done.act.send ≡ send → one.done.act.hold ≡ held → Says send held → list_any (is_waiting_on at) said_all ≡ true
        by _ _ sends_it keeps (Silent send held none) =
            absurd (none_out said_now spoken.link m.event spoken.none (said_none t inv apart new who step (ap (list_any is_unmarked_frame) sends_it ∙ none)) (ap has_commit_out next_is ∙ out))
        by _ _ sends_it keeps (CallsOne begun settings call) = called begun settings call sends_it keeps

  -- each connection
  pub step_outs : OutsWait t.machine.links (all_sendings t) → (number : ℕ) (link next : Link) → link_at t.machine.links number ≡ Some link → link_at new.machine.links number ≡ Some next → has_commit_out next ≡ true
      → list_any (is_waiting_on (record { number = number; link = next })) said_all ≡ true
  step_outs all number link next was there out = by step.connection refl
    where
      stays : (step.connection ≡ Some number → ⊥) → list_any (is_waiting_on (record { number = number; link = next })) said_all ≡ true
      stays strange =
          let same : link ≡ next = some_same (link_at new.machine.links number) link next (others_at t.setting m who new.machine step number link was strange) there in
          away (record { number = number; link = next }) strange
          (subst (λ (l : Link). list_any (is_waiting_on (record { number = number; link = l })) (all_sendings t) ≡ true) same (all number link was (ap has_commit_out same ∙ out)))

      not_opened : step.connection ≡ Some number → step.input ≡ Opened (next_number m) → ⊥
      not_opened has is =
          let both : Some number ≡ Some (next_number m) = sym has ∙ (sym step.connects ∙ ap (connected step.before.connection) is) in
          let same : number ≡ next_number m = cc in
          new_apart t.machine.links number link was same

      by : (connection : Option ℕ) → step.connection ≡ connection → list_any (is_waiting_on (record { number = number; link = next })) said_all ≡ true
      by None none = stays (λ has. let never : None ≡ Some number = sym none ∙ has in let nothing : ⊥ = cc in nothing)
      by (Some at_now) has = cases (either at_now number)
        where
          cases : (at_now ≡ number) ⊎ (at_now ≢ number) → list_any (is_waiting_on (record { number = number; link = next })) said_all ≡ true
          cases (inl same) = let here : step.connection ≡ Some number = has ∙ ap Some same in speaks_there number next here (not_opened here) there out
          cases (inr differ) = stays (λ here. let both : Some at_now ≡ Some number = sym has ∙ here in let same : at_now ≡ number = cc in differ same)

-- EVENTS ------------------------------------------------------------------------------------------

module _ (t : Traced) (inv : Orderly t) (apart : are_apart t ≡ true) (new : Traced) (items left : List Served) (kind : Noted)
    (comes : (number : ℕ) (next : Link) → link_at new.machine.links number ≡ Some next → ComesFrom (at_event t.machine) items left kind number next) (all : OutsWait t.machine.links (all_sendings t)) where
  abbrev of_clients : List Client → List Sending
  of_clients clients = flat_map commit_sendings (courses_of_clients t.setting 1 clients)

  by_move : Moving t.setting (at_event t.machine) new.machine → (number : ℕ) (link next : Link) → link_at t.machine.links number ≡ Some link → link_at new.machine.links number ≡ Some next → has_commit_out next ≡ true
      → list_any (is_waiting_on (record { number = number; link = next })) (of_clients new.machine.clients) ≡ true
  by_move (Stepping who step) number link next was there out = step_outs t inv apart new who step all number link next was there out
  by_move (Quietly same stays) number link next was there out =
      let becomes : Becomes SameOut new.machine.links number link = stays number link was in
      let next_is : becomes.next ≡ next = some_same (link_at new.machine.links number) becomes.next next becomes.there there in
      let alike : SameOut link next = subst (SameOut link) next_is becomes.so in
      subst (λ (clients : List Client). list_any (is_waiting_on (record { number = number; link = next })) (of_clients clients) ≡ true) (sym same)
      (ap (λ (held : Option Ltxid). list_any (λ (sending : Sending). (sending.connection == number) && (is_none sending.taken && option_map_or (same_ltxid sending.ltxid) held false)) (all_sendings t)) alike.held
      ∙ all number link was (sym (same_out link next alike) ∙ out))

  pub outs_now : Moving t.setting (at_event t.machine) new.machine → OutsWait new.machine.links (of_clients new.machine.clients)
  outs_now moves number next there out = by (comes number next there)
    where
      by : ComesFrom (at_event t.machine) items left kind number next → list_any (is_waiting_on (record { number = number; link = next })) (of_clients new.machine.clients) ≡ true
      by (IsNew owner same) = absurd (not_both (has_commit_out next) out (ap has_commit_out same ∙ new_none (at_event t.machine).event owner))
      by (IsOld link was turn) = by_move moves number link next was there out

pub outs_law : IsKeptOfAll outs_wait
outs_law = record {
  at_start = λ document. refl;
  at_event = λ before after old new event note items left one inv.
      let by : Followed old.setting old.machine event note items left new.machine = follow_happens old.setting old.machine event note items left new.machine one.follows in
      outs_to new
      (subst (λ (setting : Setting). OutsWait new.machine.links (flat_map commit_sendings (courses_of_clients setting 1 new.machine.clients))) (sym one.setting)
      (outs_now old inv.orderly inv.once.apart new items left by.kind (all_turn old.setting (at_event old.machine) (held_now old inv.orderly) items left by.kind new.machine by.happens) (outs_from old inv.once.waits)
      (moving old.setting (at_event old.machine) items left by.kind new.machine by.happens)));
}
