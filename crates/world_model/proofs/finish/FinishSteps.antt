-- What a step of a client does, as far as the finish goes.
use Rattle.std.proofs.Common.{◌≡◌, sym, ap, subst, ◌∙◌, Bool, true, false, ℕ, suc, zero, ◌+◌, ◌-◌, ◌*◌, ◌≤◌, ◌&&◌, length, List, [], ◌∷◌, ◌++◌, count_by, Option, Some, None, arith}
use Rattle.std.specs.Prelude.{◌==◌, not, nat_le, nat_lt, slice_get, unwrap_or, option_map}
use Rattle.std.specs.List.{list_any}
use Rattle.std.specs.Option.{option_or, option_map_or}
use Rattle.std.proofs.lemmas.Bool.{and_parts}
use Rattle.std.proofs.lemmas.Bool.Decides.{nat_tests}
use Rattle.svc_values.specs.declared.frame.Up.{Up}
use Rattle.svc_values.specs.declared.frame.Up.TheVariants as up
use Rattle.svc_values.specs.declared.value.Value.{Value}
use Rattle.pool_core.specs.declared.answers.Back.{Back}
use Rattle.pool_core.specs.declared.answers.Back.TheVariants as back
use Rattle.outage_schedule.specs.declared.document.Request.{Request}
use Rattle.run_clauses.specs.meaning.Copies.{copies_of, next_of}
use Rattle.client_model.specs.declared.act.Hold.{Hold}
use Rattle.client_model.specs.declared.act.Hold.TheVariants as hold
use Rattle.client_model.specs.declared.input.Wants.{Wants}
use Rattle.client_model.specs.meaning.Terms.{Terms, Talk, Phase, Idle, Queued}
use Rattle.client_model.specs.meaning.Talk.{stands}
use Rattle.world_model.specs.meaning.Settings.{Setting}
use Rattle.world_model.specs.meaning.Frames.{Sent}
use Rattle.world_model.specs.meaning.Links.{Link, link_at, with_link, changed, sends}
use Rattle.world_model.specs.meaning.Clients.{Doing, Past, Client, client_at, with_client, script_at, reports_of, begun, after_hold, after_step}
use Rattle.world_model.specs.meaning.Acting.{closing}
use Rattle.world_model.specs.meaning.Machines.{Machine}
use Rattle.world_model.specs.Orderly.{Orderly}
use Rattle.world_model.specs.records.Script.{same_request, now_or_next, follows_script, follow_scripts_from}
use Rattle.world_model.specs.RoundsLeft.{awaits_tick, rounds_by, talk_rounds}
use Rattle.world_model.specs.Remaining.{once_if, rounds_of_one, requests_left, on_open, doing_rounds, client_rounds, link_work, links_work}
use Rattle.world_model.specs.Traced.{Traced}
use Rattle.world_model.proofs.events.AllClients.{stepped_client}
use Rattle.world_model.proofs.finish.CopiesLeft.{is_left}
use Rattle.world_model.proofs.finish.FinishGoes.{follows_by, old_least, new_most, some_rounds}
use Rattle.world_model.proofs.events.Happened.{at_event}
use Rattle.world_model.proofs.finish.LinksWork.{with_work, changed_work, sends_work}
use Rattle.world_model.proofs.events.Moves.{IsDoing}
use Rattle.world_model.proofs.wire.Saying.{Spoken, Quiet, Fails, Ends, Asks, Calls, Marks, begun_in, opening}

-- FRAMES ------------------------------------------------------------------------------------------

few_opening : (begun : Bool) (settings : List (List ℕ × Value)) (frame : Up) → length ((opening begun settings ++ frame ∷ []) ++ []) ≤ 2
few_opening true settings frame = omega arith
few_opening false settings frame = omega arith

-- a step sends two frames at most
pub few_frames : (before : Phase) (left alive hushed : Bool) (phase : Phase) (send : List Up) (held : Hold) (how : Back) → Spoken before left alive hushed phase send held → length (send ++ closing held how) ≤ 2
few_frames before left alive hushed phase _ _ how (Quiet _ hush stays) = omega arith
few_frames before left true hushed _ _ _ how Fails = omega arith
few_frames before left false hushed _ _ _ how Fails = omega arith
few_frames before left true hushed _ _ _ back.Closed (Ends may) = omega arith
few_frames before left true hushed _ _ _ back.Idle (Ends may) = omega arith
few_frames before left false hushed _ _ _ how (Ends may) = omega arith
few_frames before left alive hushed _ _ _ how (Asks opens may asking) = omega arith
few_frames before left alive hushed _ _ _ how (Calls opens settings one state) = few_opening (begun_in before) settings (up.Call false [] one)
few_frames before left alive hushed _ _ _ how (Marks opens may settings one state is plain) = few_opening (begun_in before) settings (up.Call true one.draws one.call)

pub steps_work : (event : ℕ) (frames : List Sent) (links : List Link) (number most : ℕ) → length frames ≤ most → links_work (changed (sends event frames) links number) ≤ links_work links + most
steps_work event frames links number most few =
    let less : links_work (changed (sends event frames) links number) ≤ links_work links + length frames = changed_work (sends event frames) (length frames) links number (sends_work event frames) in
    omega arith

pub takes_work : (links : List Link) (number : ℕ) (old new : Link) → link_at links number ≡ Some old → link_work new ≡ link_work old → links_work (with_link links number new) ≤ links_work links
takes_work links number old new is same =
    let sum : links_work (with_link links number new) + link_work old ≡ links_work links + link_work new = with_work links number old new is in
    omega arith

-- SCRIPTS -----------------------------------------------------------------------------------------

follows_at : (t : Traced) (start : ℕ) (clients : List Client) (index number : ℕ) (client : Client) → number ≡ start + index → follow_scripts_from t start clients ≡ true → slice_get clients index ≡ Some client → follows_script t number client ≡ true
follows_at t start [] index number client same all is = absurd (let none : ⊥ = cc in none)
follows_at t start (first ∷ clients) zero number client same all is =
    let here : first ≡ client = cc in
    let at : start ≡ number = omega arith in
    subst (λ (c : Client). follows_script t number c ≡ true) here (subst (λ (k : ℕ). follows_script t k first ≡ true) at (and_parts (follows_script t start first) (follow_scripts_from t (start + 1) clients) all).0)
follows_at t start (first ∷ clients) (suc index) number client same all is =
    follows_at t (start + 1) clients index number client (omega arith) (and_parts (follows_script t start first) (follow_scripts_from t (start + 1) clients) all).1 is

pub follows_now : (t : Traced) → Orderly t → (who : ℕ) (client : Client) → client_at t.machine.clients who ≡ Some client → same_request (now_or_next client) (next_of (script_at t.setting who) (reports_of client.past)) ≡ true
follows_now t inv zero client here = absurd (let none : ⊥ = cc in none)
follows_now t inv (suc index) client here = (and_parts _ (same_request (now_or_next client) (next_of (script_at t.setting (suc index)) (reports_of client.past))) (follows_at t 1 t.machine.clients index (suc index) client (omega arith) inv.script.scripts here)).1

any_left : (terms : Terms) (event tick : ℕ) (script : List Request) (past : List Past) (now : Option Doing) (next : Option Request) (doing : Doing) → option_or now (option_map (begun terms event tick) next) ≡ Some doing
    → same_request (option_map_or (λ (d : Doing). Some d.request) now next) (next_of script (reports_of past)) ≡ true → list_any is_left (copies_of script (reports_of past)) ≡ true
any_left terms event tick script past (Some one) next doing is follows = (follows_by script past one.request follows).left
any_left terms event tick script past None (Some request) doing is follows = (follows_by script past request follows).left
any_left terms event tick script past None None doing is follows = absurd (let none : ⊥ = cc in none)

-- A STEP ------------------------------------------------------------------------------------------

-- The client stands so afterwards, with no more rounds left; two frames were sent at most; and the
-- connections of other requests are as before.
pub record Went (t : Traced) (who : ℕ) (n : Machine) : Type 0 where
  pub client : Client
  pub here : client_at t.machine.clients who ≡ Some client
  pub next : Client
  pub clients : n.clients ≡ with_client t.machine.clients who next
  pub tick : n.tick ≡ t.machine.tick
  pub up : n.server.is_up ≡ t.machine.server.is_up
  pub work : links_work n.links ≤ links_work t.machine.links + 2
  pub others : (number : ℕ) (link : Link) → link_at t.machine.links number ≡ Some link → count_by (λ one. one == number) t.machine.pool.idle ≡ 0
      → ((doing : Doing) → client.now ≡ Some doing → doing.connection ≡ Some number → ⊥) → link_at n.links number ≡ Some link
  pub own : client_rounds t.setting n true (script_at t.setting who) next ≤ client_rounds t.setting t.machine false (script_at t.setting who) client

pub went_step : (t : Traced) → Orderly t → (who : ℕ) (n : Machine) (doing : Doing) (wanted : Wants) (is : IsDoing t.setting (at_event t.machine) who doing wanted) (after : Doing) (held : Hold)
    → n.clients ≡ after_step t.setting t.machine.clients who after held → n.tick ≡ t.machine.tick → n.server.is_up ≡ t.machine.server.is_up → links_work n.links ≤ links_work t.machine.links + 2
    → ((number : ℕ) (link : Link) → link_at t.machine.links number ≡ Some link → count_by (λ one. one == number) t.machine.pool.idle ≡ 0
    → ((one : Doing) → is.client.now ≡ Some one → one.connection ≡ Some number → ⊥) → link_at n.links number ≡ Some link)
    → (doing.talk.phase ≡ Idle → ⊥)
    → (held ≡ hold.Keep → doing_rounds t.setting n true after ≤ talk_rounds t.setting.terms t.machine.tick (on_open t.machine.links doing.connection) doing.talk) → Went t who n
went_step t inv who n doing wanted is after held clients tick up work others phase keeps = record {
  client = is.client;
  here = is.here;
  next = after_hold t.setting who is.client after held;
  clients = clients ∙ stepped_client t.setting t.machine.clients who is.client after held is.here;
  tick = tick;
  up = up;
  work = work;
  others = others;
  own = own;
}
  where
    script : List Request
    script = script_at t.setting who

    follows : same_request (now_or_next is.client) (next_of script (reports_of is.client.past)) ≡ true
    follows = follows_now t inv who is.client is.here

    rounds : ℕ
    rounds = talk_rounds t.setting.terms t.machine.tick (on_open t.machine.links doing.connection) doing.talk

    old : (requests_left script is.client.past - 1) * rounds_of_one t.setting.terms script + rounds ≤ client_rounds t.setting t.machine false script is.client
    old = old_least t.setting t.machine false script (t.machine.event + 1) is.client.past is.client.now is.client.next doing is.does follows

    new : client_rounds t.setting n true script (after_hold t.setting who is.client after held) ≤ (requests_left script is.client.past - 1) * rounds_of_one t.setting.terms script + rounds
    new = new_most t.setting n who is.client after held rounds
        (some_rounds t.setting.terms t.machine.tick (on_open t.machine.links doing.connection) doing.talk.last_try (length doing.talk.left) doing.talk.phase phase)
        (any_left t.setting.terms (t.machine.event + 1) t.machine.tick script is.client.past is.client.now is.client.next doing is.does follows) keeps

    own : client_rounds t.setting n true script (after_hold t.setting who is.client after held) ≤ client_rounds t.setting t.machine false script is.client
    own = let a = old in let b = new in omega (arith, a, b)

-- WITHOUT A SLOT ----------------------------------------------------------------------------------

not_le : (a b : ℕ) → nat_le a b ≡ false → nat_lt 0 (a - b) ≡ true
not_le a b is = grind (arith, nat_tests)

-- it waits on, and a tick comes before its next step
pub waits_rounds : (setting : Setting) (n : Machine) (after : Doing) (talk : Talk) (from : Option ℕ) (tick : ℕ) (a : Bool) → n.tick ≡ tick → nat_le setting.terms.limits.wait (tick - unwrap_or from tick) ≡ false
    → after.talk ≡ stands talk (Queued (Some (unwrap_or from tick))) → doing_rounds setting n true after ≤ rounds_by setting.terms tick a talk.last_try (length talk.left) (Queued from)
waits_rounds setting n after talk from tick a now short is =
    subst (λ (k : ℕ). talk_rounds setting.terms k (on_open n.links after.connection) after.talk + once_if (not (awaits_tick setting.terms k after.talk after.talk.phase) && true) ≤ rounds_by setting.terms tick a talk.last_try (length talk.left) (Queued from)) (sym now)
    (subst (λ (d : Talk). talk_rounds setting.terms tick (on_open n.links after.connection) d + once_if (not (awaits_tick setting.terms tick d d.phase) && true) ≤ rounds_by setting.terms tick a talk.last_try (length talk.left) (Queued from)) (sym is)
    (let some : nat_lt 0 (setting.terms.limits.wait - (tick - unwrap_or from tick)) ≡ true = not_le setting.terms.limits.wait (tick - unwrap_or from tick) short in
    let none : once_if (not (nat_lt 0 (setting.terms.limits.wait - (tick - unwrap_or from tick))) && true) ≡ 0 = ap (λ (b : Bool). once_if (not b && true)) some in
    omega (arith, none)))
