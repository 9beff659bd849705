-- Each request that a client submitted is its script's, settings and all: the one that follows the
-- reports before it, wherever a run has come to.
use Rattle.std.proofs.Common.{◌≡◌, refl, sym, ap, subst, ◌∙◌, ℕ, suc, zero, append_assoc, List, [], ◌∷◌, ◌++◌, map, Option, Some, None}
use Rattle.std.specs.Prelude.{get_or, slice_get, slice_set, option_map}
use Rattle.std.specs.Option.{option_map_or, option_or}
use Rattle.std.proofs.lemmas.List.{append-nil}
use Rattle.outage_schedule.specs.declared.document.Client.{Client as Scripted}
use Rattle.outage_schedule.specs.declared.document.Document.{Document}
use Rattle.outage_schedule.specs.declared.document.Request.{Request}
use Rattle.outage_schedule.specs.declared.event.Event.{Event}
use Rattle.outage_schedule.specs.declared.item.Served.{Served}
use Rattle.outage_schedule.specs.declared.note.Note.{Note}
use Rattle.outage_schedule.specs.declared.request.RequestReport.{RequestReport}
use Rattle.client_model.specs.declared.act.Hold.{Hold}
use Rattle.client_model.specs.declared.act.Hold.TheVariants as hold
use Rattle.client_model.specs.meaning.Terms.{Terms}
use Rattle.run_clauses.specs.meaning.Copies.{next_of}
use Rattle.server_model.specs.Seen.{Seen}
use Rattle.world_model.specs.meaning.Clients.{Doing, Past, Client, reports_of, resting, script_at, begun, after_hold, past_of}
use Rattle.world_model.specs.meaning.Machines.{Machine}
use Rattle.world_model.specs.Reached.{Reached, Begins, GoesOn}
use Rattle.world_model.specs.records.Script.{now_or_next}
use Rattle.world_model.specs.meaning.Settings.{Setting}
use Rattle.world_model.specs.Traced.{Traced}
use Rattle.world_model.proofs.Offered.{HasStepped, MayStep, Still, Closed, Stepped, happens_step, same_request_after, Followed, follow_happens, at_event}

-- each request that is over is the one that follows the reports before it
abbrev pub AreScripts : List Request → List RequestReport → List Past → Type 0
AreScripts script before [] = Unit {0}
AreScripts script before (past ∷ others) = (next_of script before ≡ Some past.request) × AreScripts script (before ++ past.report ∷ []) others

abbrev pub IsScripted : List Request → Client → Type 0
IsScripted script client = AreScripts script [] client.past × (now_or_next client ≡ next_of script (reports_of client.past))

-- so it is of each client
abbrev pub AreScripted : Setting → List Client → Type 0
AreScripted setting clients = (index : ℕ) (client : Client) → slice_get clients index ≡ Some client → IsScripted (script_at setting (suc index)) client

scripts_more : (script : List Request) (before : List RequestReport) (past : List Past) (one : Past) → AreScripts script before past → next_of script (before ++ reports_of past) ≡ Some one.request → AreScripts script before (past ++ one ∷ [])
scripts_more script before [] one are last = (ap (next_of script) (sym (append-nil before)) ∙ last, tt)
scripts_more script before (first ∷ past) one are last =
    (are.0, scripts_more script (before ++ first.report ∷ []) past one are.1 (ap (next_of script) (append_assoc before (first.report ∷ []) (reports_of past)) ∙ last))

-- the request that steps is the one that follows
does_follow : (terms : Terms) (event tick : ℕ) (client : Client) (found : Option Request) (doing : Doing) → option_or client.now (option_map (begun terms event tick) client.next) ≡ Some doing → now_or_next client ≡ found → found ≡ Some doing.request
does_follow terms event tick client found doing does follows = by client.now client.next does follows
  where
    by : (now : Option Doing) (next : Option Request) → option_or now (option_map (begun terms event tick) next) ≡ Some doing → option_map_or (λ (d : Doing). Some d.request) now next ≡ found → found ≡ Some doing.request
    by (Some one) next does follows = let same : one ≡ doing = cc in sym follows ∙ ap (λ (d : Doing). Some d.request) same
    by None (Some request) does follows = let same : begun terms event tick request ≡ doing = cc in sym follows ∙ ap (λ (d : Doing). Some d.request) same
    by None None does follows = absurd (let none : ⊥ = cc in none)

held_scripted : (setting : Setting) (number : ℕ) (client : Client) (doing : Doing) (held : Hold) → IsScripted (script_at setting number) client → next_of (script_at setting number) (reports_of client.past) ≡ Some doing.request
    → IsScripted (script_at setting number) (after_hold setting number client doing held)
held_scripted setting number client doing held is follows = by held
  where
    over : AreScripts (script_at setting number) [] (client.past ++ past_of setting.terms doing ∷ [])
    over = scripts_more (script_at setting number) [] client.past (past_of setting.terms doing) is.0 follows

    by : (held : Hold) → IsScripted (script_at setting number) (after_hold setting number client doing held)
    by hold.Keep = (is.0, sym follows)
    by hold.GiveBack = (over, refl)
    by hold.Drop = (over, refl)

set_is : (P : ℕ → Client → Type 0) (clients : List Client) (index : ℕ) (new : Client) → ((at : ℕ) (client : Client) → slice_get clients at ≡ Some client → P at client) → P index new
    → (at : ℕ) (client : Client) → slice_get (slice_set clients index new) at ≡ Some client → P at client
set_is P [] index new all here at client is = absurd (let none : ⊥ = cc in none)
set_is P (first ∷ clients) zero new all here zero client is = let same : new ≡ client = cc in subst (P 0) same here
set_is P (first ∷ clients) zero new all here (suc at) client is = all (suc at) client is
set_is P (first ∷ clients) (suc index) new all here zero client is = all 0 client is
set_is P (first ∷ clients) (suc index) new all here (suc at) client is = set_is (λ k c. P (suc k) c) clients index new (λ k c found. all (suc k) c found) here at client is

stepped_scripted : (setting : Setting) (m : Machine) (number : ℕ) (n : Machine) → AreScripted setting m.clients → HasStepped setting m number n → AreScripted setting n.clients
stepped_scripted setting m zero n all step at client is = let here = step.here in absurd (let none : ⊥ = cc in none)
stepped_scripted setting m (suc index) n all step at client is =
    set_is (λ k c. IsScripted (script_at setting (suc k)) c) m.clients index (after_hold setting (suc index) step.client step.after step.held) all
    (held_scripted setting (suc index) step.client step.after step.held own
    (does_follow setting.terms m.event m.tick step.client (next_of (script_at setting (suc index)) (reports_of step.client.past)) step.before step.does own.1
    ∙ ap (λ (r : Request). Some r) (sym (same_request_after setting _ step.after _ step.held step.goes_on)))) at client
    (ap (λ (all : List Client). slice_get all at) (sym step.clients_are) ∙ is)
  where
    own : IsScripted (script_at setting (suc index)) step.client
    own = all index step.client step.here

may_scripted : (setting : Setting) (m n : Machine) → AreScripted setting m.clients → MayStep setting m n → AreScripted setting n.clients
may_scripted setting m n all (Still same sents) = subst (AreScripted setting) (sym same) all
may_scripted setting m n all (Closed same sents) = subst (AreScripted setting) (sym same) all
may_scripted setting m n all (Stepped number step) = stepped_scripted setting m number n all step

start_scripted : (others : List Scripted) (index : ℕ) (client : Client) → slice_get (map (λ (one : Scripted). resting one.requests []) others) index ≡ Some client → IsScripted (get_or (map (λ (one : Scripted). one.requests) others) index []) client
start_scripted [] index client is = absurd (let none : ⊥ = cc in none)
start_scripted (one ∷ others) zero client is = let same : resting one.requests [] ≡ client = cc in subst (IsScripted one.requests) same (tt, refl)
start_scripted (one ∷ others) (suc index) client is = start_scripted others index client is

pub runs_scripted : (document : Document) (events : List Event) (notes : List Note) (items : List Served) (seen : Seen) (t : Traced) → Reached document events notes items seen t → AreScripted t.setting t.machine.clients
runs_scripted document _ _ _ _ _ (Begins seen start history horizon coupled) = λ index client is. start_scripted document.clients index client is
runs_scripted document _ _ _ _ _ (GoesOn events notes items more before after old new event note reached one forgets) =
    let by : Followed old.setting old.machine event note more [] new.machine = follow_happens old.setting old.machine event note more [] new.machine one.follows in
    subst (λ (setting : Setting). AreScripted setting new.machine.clients) (sym one.setting)
    (may_scripted old.setting (at_event old.machine) new.machine (runs_scripted document events notes items before old reached) (happens_step old.setting (at_event old.machine) more [] by.kind new.machine by.happens))
