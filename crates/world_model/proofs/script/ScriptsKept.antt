-- Each request is the one that follows the reports before it, in each event of a run.
use Rattle.std.proofs.Common.{◌≡◌, refl, sym, ap, subst, Bool, true, ℕ, suc, zero, ◌+◌, ◌&&◌, append_assoc, List, [], ◌∷◌, ◌++◌, map, Option, Some, None, arith}
use Rattle.std.specs.Prelude.{◌==◌, get_or, slice_get, slice_set, option_map}
use Rattle.std.specs.Option.{option_or, option_map_or}
use Rattle.std.proofs.lemmas.Bool.{and_parts, and_from}
use Rattle.std.proofs.lemmas.List.{append-nil}
use Rattle.svc_values.specs.meaning.Same.{same_call, same_calls}
use Rattle.svc_values.specs.SameLaws.{same_call_decides}
use Rattle.outage_schedule.specs.declared.document.Client.{Client as Scripted}
use Rattle.outage_schedule.specs.declared.document.Document.{Document}
use Rattle.outage_schedule.specs.declared.document.Request.{Request}
use Rattle.outage_schedule.specs.declared.request.RequestReport.{RequestReport}
use Rattle.run_clauses.specs.meaning.Copies.{next_of}
use Rattle.client_model.specs.declared.act.Hold.{Hold}
use Rattle.client_model.specs.declared.act.Hold.TheVariants as hold
use Rattle.client_model.specs.meaning.Terms.{Terms}
use Rattle.world_model.specs.meaning.Settings.{Setting, setting_of}
use Rattle.world_model.specs.meaning.Clients.{Doing, Past, Client, reports_of, resting, script_at, begun, after_hold, past_of}
use Rattle.world_model.specs.meaning.Machines.{Machine}
use Rattle.world_model.specs.Reached.{traced_start}
use Rattle.world_model.specs.records.Script.{same_request, now_or_next, past_follows, follows_script, follow_scripts_from, follow_scripts}
use Rattle.world_model.specs.Traced.{Traced}
use Rattle.world_model.specs.OrderlyLaws.{IsKept}
use Rattle.world_model.proofs.events.ClientSteps.{HasStepped, MayStep, Still, Closed, Stepped, happens_step, same_request_after}
use Rattle.world_model.proofs.events.Happened.{Followed, follow_happens, at_event}
use Rattle.world_model.proofs.wire.SameSelf.{each_self}
use Rattle.world_model.proofs.events.Tests.{eq_to}

request_self : (one : Option Request) → same_request one one ≡ true
request_self None = refl
request_self (Some one) = and_from (same_calls one.calls one.calls) (one.again == one.again) (each_self same_call (λ call. (same_call_decides call call).1 refl) one.calls) (eq_to one.again one.again refl)

past_more : (script : List Request) (before : List RequestReport) (past : List Past) (one : Past) → past_follows script before past ≡ true → same_request (Some one.request) (next_of script (before ++ reports_of past)) ≡ true
    → past_follows script before (past ++ one ∷ []) ≡ true
past_more script before [] one follows last =
    and_from (same_request (Some one.request) (next_of script before)) true (subst (λ (reports : List RequestReport). same_request (Some one.request) (next_of script reports) ≡ true) (append-nil before) last) refl
past_more script before (first ∷ past) one follows last =
    let parts = and_parts (same_request (Some first.request) (next_of script before)) (past_follows script (before ++ first.report ∷ []) past) follows in
    and_from (same_request (Some first.request) (next_of script before)) (past_follows script (before ++ first.report ∷ []) (past ++ one ∷ [])) parts.0
    (past_more script (before ++ first.report ∷ []) past one parts.1
    (subst (λ (reports : List RequestReport). same_request (Some one.request) (next_of script reports) ≡ true) (sym (append_assoc before (first.report ∷ []) (reports_of past))) last))

-- CLIENTS -----------------------------------------------------------------------------------------

abbrev follows_so : Setting → ℕ → Client → Bool
follows_so setting number client =
    past_follows (script_at setting number) [] client.past && same_request (now_or_next client) (next_of (script_at setting number) (reports_of client.past))

-- the request that steps is the one that follows
does_follow : (terms : Terms) (event tick : ℕ) (now : Option Doing) (next found : Option Request) (doing : Doing) → option_or now (option_map (begun terms event tick) next) ≡ Some doing
    → same_request (option_map_or (λ (d : Doing). Some d.request) now next) found ≡ true → same_request (Some doing.request) found ≡ true
does_follow terms event tick (Some one) next found doing is follows = let same : one ≡ doing = cc in subst (λ (d : Doing). same_request (Some d.request) found ≡ true) same follows
does_follow terms event tick None (Some request) found doing is follows =
    let same : begun terms event tick request ≡ doing = cc in subst (λ (d : Doing). same_request (Some d.request) found ≡ true) same follows
does_follow terms event tick None None found doing is follows = absurd (let none : ⊥ = cc in none)

held_follows : (setting : Setting) (number : ℕ) (client : Client) (doing : Doing) (held : Hold) → follows_so setting number client ≡ true
    → same_request (Some doing.request) (next_of (script_at setting number) (reports_of client.past)) ≡ true → follows_so setting number (after_hold setting number client doing held) ≡ true
held_follows setting number client doing held here follows = by held
  where
    script : List Request
    script = script_at setting number

    past : past_follows script [] client.past ≡ true
    past = (and_parts (past_follows script [] client.past) (same_request (now_or_next client) (next_of script (reports_of client.past))) here).0

    over : List Past
    over = client.past ++ past_of setting.terms doing ∷ []

    rests : follows_so setting number (resting script over) ≡ true
    rests = and_from (past_follows script [] over) (same_request (next_of script (reports_of over)) (next_of script (reports_of over))) (past_more script [] client.past (past_of setting.terms doing) past follows) (request_self (next_of script (reports_of over)))

    by : (held : Hold) → follows_so setting number (after_hold setting number client doing held) ≡ true
    by hold.Keep = and_from (past_follows script [] client.past) (same_request (Some doing.request) (next_of script (reports_of client.past))) past follows
    by hold.GiveBack = rests
    by hold.Drop = rests

module _ (t : Traced) where
  pub follows_get : (start : ℕ) (clients : List Client) (index number : ℕ) (client : Client) → number ≡ start + index → follow_scripts_from t start clients ≡ true → slice_get clients index ≡ Some client
      → follows_script t number client ≡ true
  follows_get start [] index number client same all is = absurd (let none : ⊥ = cc in none)
  follows_get start (first ∷ clients) zero number client same all is =
      let here : first ≡ client = cc in
      let at : start ≡ number = omega arith in
      subst (λ (c : Client). follows_script t number c ≡ true) here (subst (λ (n : ℕ). follows_script t n first ≡ true) at (and_parts (follows_script t start first) (follow_scripts_from t (start + 1) clients) all).0)
  follows_get start (first ∷ clients) (suc index) number client same all is =
      let next : number ≡ (start + 1) + index = omega arith in
      follows_get (start + 1) clients index number client next (and_parts (follows_script t start first) (follow_scripts_from t (start + 1) clients) all).1 is

  follows_set : (start : ℕ) (clients : List Client) (index number : ℕ) (client : Client) → number ≡ start + index → follow_scripts_from t start clients ≡ true → follows_script t number client ≡ true
      → follow_scripts_from t start (slice_set clients index client) ≡ true
  follows_set start [] index number client same all here = all
  follows_set start (first ∷ clients) zero number client same all here =
      let at : number ≡ start = omega arith in
      and_from (follows_script t start client) (follow_scripts_from t (start + 1) clients) (subst (λ (n : ℕ). follows_script t n client ≡ true) at here)
      (and_parts (follows_script t start first) (follow_scripts_from t (start + 1) clients) all).1
  follows_set start (first ∷ clients) (suc index) number client same all here =
      let next : number ≡ (start + 1) + index = omega arith in
      let parts = and_parts (follows_script t start first) (follow_scripts_from t (start + 1) clients) all in
      and_from (follows_script t start first) (follow_scripts_from t (start + 1) (slice_set clients index client)) parts.0 (follows_set (start + 1) clients index number client next parts.1 here)

  stepped_follow : (m : Machine) (number : ℕ) (n : Machine) → follow_scripts_from t 1 m.clients ≡ true → HasStepped t.setting m number n → follow_scripts_from t 1 n.clients ≡ true
  stepped_follow m zero n all stepped = let here = stepped.here in absurd (let none : ⊥ = cc in none)
  stepped_follow m (suc index) n all stepped =
      let same : suc index ≡ 1 + index = omega arith in
      let script : List Request = script_at t.setting (suc index) in
      let found : Option Request = next_of script (reports_of stepped.client.past) in
      let here : follows_script t (suc index) stepped.client ≡ true = follows_get 1 m.clients index (suc index) stepped.client same all stepped.here in
      let before : same_request (Some stepped.before.request) found ≡ true =
      does_follow t.setting.terms m.event m.tick stepped.client.now stepped.client.next found stepped.before stepped.does
      (and_parts (past_follows script [] stepped.client.past) (same_request (now_or_next stepped.client) found) here).1 in
      let after : same_request (Some stepped.after.request) found ≡ true =
      subst (λ (r : Request). same_request (Some r) found ≡ true) (sym (same_request_after t.setting _ stepped.after _ stepped.held stepped.goes_on)) before in
      subst (λ (c : List Client). follow_scripts_from t 1 c ≡ true) (sym stepped.clients_are)
      (follows_set 1 m.clients index (suc index) (after_hold t.setting (suc index) stepped.client stepped.after stepped.held) same all (held_follows t.setting (suc index) stepped.client stepped.after stepped.held here after))

  may_follow : (m n : Machine) → follow_scripts_from t 1 m.clients ≡ true → MayStep t.setting m n → follow_scripts_from t 1 n.clients ≡ true
  may_follow m n all (Still same sent) = subst (λ (c : List Client). follow_scripts_from t 1 c ≡ true) (sym same) all
  may_follow m n all (Closed same sent) = subst (λ (c : List Client). follow_scripts_from t 1 c ≡ true) (sym same) all
  may_follow m n all (Stepped number stepped) = stepped_follow m number n all stepped

-- under the same setting
same_follow : (a b : Traced) (start : ℕ) (clients : List Client) → b.setting ≡ a.setting → follow_scripts_from a start clients ≡ true → follow_scripts_from b start clients ≡ true
same_follow a b start [] same all = refl
same_follow a b start (client ∷ clients) same all =
    let parts = and_parts (follows_script a start client) (follow_scripts_from a (start + 1) clients) all in
    and_from (follows_script b start client) (follow_scripts_from b (start + 1) clients) (subst (λ (setting : Setting). follows_so setting start client ≡ true) (sym same) parts.0)
    (same_follow a b (start + 1) clients same parts.1)

-- THE START ---------------------------------------------------------------------------------------

resting_follow : (t : Traced) (start : ℕ) (others : List Scripted) → ((index number : ℕ) → number ≡ start + index → script_at t.setting number ≡ get_or (map (λ (one : Scripted). one.requests) others) index [])
    → follow_scripts_from t start (map (λ (one : Scripted). resting one.requests []) others) ≡ true
resting_follow t start [] scripted = refl
resting_follow t start (first ∷ others) scripted =
    let same : start ≡ start + 0 = omega arith in
    let own : script_at t.setting start ≡ first.requests = scripted zero start same in
    and_from (follows_script t start (resting first.requests [])) (follow_scripts_from t (start + 1) (map (λ (one : Scripted). resting one.requests []) others))
    (subst (λ (script : List Request). same_request (next_of first.requests []) (next_of script []) ≡ true) (sym own) (request_self (next_of first.requests [])))
    (resting_follow t (start + 1) others (λ index number is. let next : number ≡ start + suc index = omega arith in scripted (suc index) number next))

first_scripts : (document : Document) (index number : ℕ) → number ≡ 1 + index → script_at (setting_of document) number ≡ get_or (map (λ (one : Scripted). one.requests) document.clients) index []
first_scripts document index zero is = absurd (let none : ⊥ = omega arith in none)
first_scripts document index (suc before) is = let same : before ≡ index = omega arith in ap (λ (n : ℕ). get_or (map (λ (one : Scripted). one.requests) document.clients) n []) same

pub scripts_law : IsKept follow_scripts
scripts_law = record {
  at_start = λ document. resting_follow (traced_start document) 1 document.clients (first_scripts document);
  at_event = λ before after old new event note items left one inv.
      let by : Followed old.setting old.machine event note items left new.machine = follow_happens old.setting old.machine event note items left new.machine one.follows in
      same_follow old new 1 new.machine.clients one.setting
      (may_follow old (at_event old.machine) new.machine inv.script.scripts (happens_step old.setting (at_event old.machine) items left by.kind new.machine by.happens));
}
