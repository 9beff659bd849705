-- The report of a whole run has a conversation for each submission of each client, so the judge of
-- causes finds it right.
use Rattle.std.proofs.Common.{◌≡◌, ◌≢◌, refl, sym, ap, subst, ◌∙◌, append-nil, Bool, true, false, ℕ, zero, suc, ◌+◌, ◌||◌, add-zero, length, List, [], ◌∷◌, ◌++◌, map, Option, Some, None, option_and_then, arith, if◌then◌else◌}
use Rattle.std.specs.Prelude.{◌==◌, not, get_or, slice_get, flat_map, is_some}
use Rattle.std.specs.List.{list_all, list_any}
use Rattle.std.specs.Option.{option_map_or}
use Rattle.std.proofs.lemmas.Bool.{and_parts}
use Rattle.svc_values.specs.declared.call.Call.{Call}
use Rattle.client_model.specs.meaning.Terms.{Terms}
use Rattle.outage_schedule.specs.declared.document.Client.{Client as Scripted}
use Rattle.outage_schedule.specs.declared.document.Document.{Document}
use Rattle.outage_schedule.specs.declared.document.Request.{Request}
use Rattle.outage_schedule.specs.declared.event.Event.{Event}
use Rattle.outage_schedule.specs.declared.event.Event.TheVariants as event
use Rattle.outage_schedule.specs.declared.item.Served.{Served}
use Rattle.outage_schedule.specs.declared.note.Note.{Note}
use Rattle.outage_schedule.specs.declared.request.RequestReport.{RequestReport}
use Rattle.run_clauses.specs.meaning.Copies.{next_place, copies_by_client}
use Rattle.server_model.specs.Seen.{Seen}
use Rattle.shown_clauses.specs.meaning.Steps.{Step as StepTold, steps, steps_of}
use Rattle.shown_clauses.specs.meaning.Submissions.{Submission, submissions_of}
use Rattle.world_model.specs.meaning.Clients.{Doing, Past, Client, script_at, is_unfinished, reports_of}
use Rattle.world_model.specs.records.Conversing.{AreThrough}
use Rattle.world_model.specs.meaning.Finishing.{Place, AtServer, AtOrphans, AtRound, AtClients, AtLinks, first_behind, serves_or_ticks, goes_or_serves, next_round, reaps_or_goes, opens_or_reaps, next_finish}
use Rattle.invariant_laws.specs.Invariant.{Invariant}
use Rattle.invariant_laws.specs.KeptLaws.{FinishesKeepInvariant}
use Rattle.world_model.specs.meaning.Links.{is_orphan}
use Rattle.world_model.specs.meaning.Machines.{Machine}
use Rattle.world_model.specs.Reached.{Reached, Begins, GoesOn, IsFinishing, Scheduled, Finishes, IsRun}
use Rattle.world_model.specs.records.Ready.{has_calls, is_rightly_repeated, is_right_request}
use Rattle.world_model.specs.meaning.Serving.{front_of}
use Rattle.world_model.specs.meaning.Settings.{Setting, setting_of, terms_of}
use Rattle.world_model.specs.Traced.{Traced}
use Rattle.caused_laws.specs.Laws.{shown_steps, AreHeard, ClientsAreHeard}
use Rattle.caused_laws.specs.Telling.{ToldStep}
use Rattle.caused_laws.proofs.Offered.{judges_report}
use Rattle.shown_laws.specs.CausedRuns.{RunsAreCaused}
use Rattle.shown_laws.specs.Tellings.{Telling, steps_in_tellings, TellsNow, NoneNow, OneNow, joined, FollowsFrom, TellsClient, TellsClients, FinishesTellSteps}
use Rattle.shown_laws.proofs.steps.BeforeSession.{talks_at}
use Rattle.shown_laws.proofs.heard.ConversationsHeard.{all_told, HaveCalls, pasts_heard, joined_same}
use Rattle.shown_laws.proofs.events.Places.{all_at}
use Rattle.shown_laws.proofs.steps.SubmissionsTold.{submissions_in, past_submitted}
use Rattle.shown_laws.proofs.heard.TermsTold.{terms_are}

-- THE END OF A RUN --------------------------------------------------------------------------------

-- the finish has a further event
data Has : Option (Event × Place) → Type 0 where
  Next : (made : Event × Place) → Has (Some made)

has_some : (next : Option (Event × Place)) → Has next → next ≡ None → ⊥
has_some _ (Next made) is = let none : ⊥ = cc in none

either_has : (found : Option ℕ) (made : ℕ → Event × Place) (other : Option (Event × Place)) → Has other → Has (option_map_or (λ number. Some (made number)) found other)
either_has None made other has = has
either_has (Some number) made other has = Next (made number)

serves_has : (m : Machine) → Has (serves_or_ticks m)
serves_has m = either_has (first_behind (λ link. is_some (front_of link)) 0 m.links) (λ number. (event.Serve number, AtLinks)) (Some (event.Tick, AtRound)) (Next (event.Tick, AtRound))

goes_has : (m : Machine) (last : ℕ) → Has (goes_or_serves m last)
goes_has m last = either_has (first_behind is_unfinished last m.clients) (λ number. (event.Go number, AtClients number)) (serves_or_ticks m) (serves_has m)

-- it has none only where all clients are finished
round_over : (m : Machine) → next_round m ≡ None → list_any is_unfinished m.clients ≡ false
round_over m is = by (list_any is_unfinished m.clients) refl is
  where
    by : (some : Bool) → list_any is_unfinished m.clients ≡ some → (if some then goes_or_serves m 0 else None) ≡ None → list_any is_unfinished m.clients ≡ false
    by true any none = absurd (has_some (goes_or_serves m 0) (goes_has m 0) none)
    by false any none = any

reaps_over : (m : Machine) → reaps_or_goes m ≡ None → list_any is_unfinished m.clients ≡ false
reaps_over m is = by (first_behind is_orphan 0 m.links) is
  where
    by : (found : Option ℕ) → option_map_or (λ number. Some (event.Reap number, AtOrphans)) found (next_round m) ≡ None → list_any is_unfinished m.clients ≡ false
    by None none = round_over m none
    by (Some number) none = absurd (has_some (Some (event.Reap number, AtOrphans)) (Next (event.Reap number, AtOrphans)) none)

opens_over : (m : Machine) → opens_or_reaps m ≡ None → list_any is_unfinished m.clients ≡ false
opens_over m is = by m.server.is_up is
  where
    by : (up : Bool) → (if up then reaps_or_goes m else Some (event.Up, AtOrphans)) ≡ None → list_any is_unfinished m.clients ≡ false
    by true none = reaps_over m none
    by false none = absurd (has_some (Some (event.Up, AtOrphans)) (Next (event.Up, AtOrphans)) none)

pub all_finished : (m : Machine) (place : Place) → next_finish m place ≡ None → list_any is_unfinished m.clients ≡ false
all_finished m AtServer is = opens_over m is
all_finished m AtOrphans is = reaps_over m is
all_finished m AtRound is = round_over m is
all_finished m (AtClients last) is = absurd (has_some (goes_or_serves m last) (goes_has m last) is)
all_finished m AtLinks is = absurd (has_some (serves_or_ticks m) (serves_has m) is)

or_none : (a b : Bool) → (a || b) ≡ false → (a ≡ false) × (b ≡ false)
or_none true b is = absurd (let none : ⊥ = cc in none)
or_none false b is = (refl, is)

none_in : {A : Type 0} (found : Option A) → is_some found ≡ false → found ≡ None
none_in None is = refl
none_in (Some one) is = absurd (let none : ⊥ = cc in none)

-- each client is at no request then, and none follows
pub one_finished : (clients : List Client) (index : ℕ) (own : Client) → list_any is_unfinished clients ≡ false → slice_get clients index ≡ Some own → (own.now ≡ None) × (own.next ≡ None)
one_finished [] index own all is = absurd (let none : ⊥ = cc in none)
one_finished (first ∷ clients) zero own all is =
    let same : first ≡ own = cc in
    let both = or_none (is_some first.now) (is_some first.next) (or_none (is_unfinished first) (list_any is_unfinished clients) all).0 in
    subst (λ (c : Client). (c.now ≡ None) × (c.next ≡ None)) same (none_in first.now both.0, none_in first.next both.1)
one_finished (first ∷ clients) (suc index) own all is = one_finished clients index own (or_none (is_unfinished first) (list_any is_unfinished clients) all).1 is

-- SCRIPTS -----------------------------------------------------------------------------------------

pub get_script : (all : List Scripted) (index : ℕ) (one : Scripted) → slice_get all index ≡ Some one → get_or (map (λ client. client.requests) all) index [] ≡ one.requests
get_script [] index one is = absurd (let none : ⊥ = cc in none)
get_script (first ∷ all) zero one is = let same : first ≡ one = cc in ap (λ (c : Scripted). c.requests) same
get_script (first ∷ all) (suc index) one is = get_script all index one is

next_right : (script : List Request) (place : Option ℕ) (request : Request) → list_all is_right_request script ≡ true → option_and_then (slice_get script) place ≡ Some request → is_right_request request ≡ true
next_right script None request right is = absurd (let none : ⊥ = cc in none)
next_right script (Some index) request right is = all_at is_right_request script index request right is

some_calls : (calls : List Call) → not (length calls == 0) ≡ true → calls ≢ []
some_calls calls is none = let both : not (length {A = Call} [] == 0) ≡ true = ap (λ (c : List Call). not (length c == 0)) (sym none) ∙ is in let no : ⊥ = cc in no

have_calls : (script : List Request) (before : List RequestReport) (past : List Past) → list_all is_right_request script ≡ true → FollowsFrom script before past → HaveCalls past
have_calls script before [] right follows = tt
have_calls script before (one ∷ past) right follows =
    (some_calls one.request.calls (and_parts (has_calls one.request) (is_rightly_repeated one.request) (next_right script (next_place script before) one.request right follows.0)).0, have_calls script (before ++ one.report ∷ []) past right follows.1)

-- there are as many
pub many_scripts : (all : List Scripted) → length (map (λ (client : Scripted). client.requests) all) ≡ length all
many_scripts [] = refl
many_scripts (one ∷ all) = ap suc (many_scripts all)

-- EACH CLIENT -------------------------------------------------------------------------------------

abbrev IsHeardAll : Terms → List StepTold → ℕ → List Submission → Type 0
IsHeardAll terms all number submissions = (conversations : List (List ToldStep)) × AreHeard terms submissions conversations × (steps_of number all ≡ flat_map shown_steps conversations)

none_told : (setting : Setting) (client place : ℕ) (now : Option Doing) (tellings : List Telling) → now ≡ None → TellsNow setting client place now tellings → tellings ≡ []
none_told setting client place _ _ is NoneNow = refl
none_told setting client place _ _ is (OneNow doing tellings told) = absurd (let none : ⊥ = cc in none)

one_heard : (setting : Setting) (client : ℕ) (own : Client) (script : List Request) (all : List StepTold) → TellsClient setting client own (steps_of client all) → own.now ≡ None → script_at setting client ≡ script → list_all is_right_request script ≡ true
    → AreThrough setting.terms own.past → IsHeardAll setting.terms all client (submissions_in script (reports_of own.past))
one_heard setting client own script all told now its right through =
    let follows : FollowsFrom script [] own.past = subst (λ (made : List Request). FollowsFrom made [] own.past) its told.scripted.past in
    let none : told.now ≡ [] = none_told setting client (length own.past) own.now told.now now told.tells_now in (
      map all_told told.past,
      subst (λ (submissions : List Submission). AreHeard setting.terms submissions (map all_told told.past)) (sym (past_submitted script own.past follows))
          (pasts_heard setting client 0 own.past told.past (have_calls script [] own.past right follows) told.tells_past through),
      told.all ∙ (ap (λ (rest : List Telling). steps_in_tellings (joined told.past ++ rest)) none ∙ (ap steps_in_tellings (append-nil (joined told.past)) ∙ sym (joined_same told.past))),
    )

each_heard : (terms : Terms) (all : List StepTold) (scripts : List Scripted) (clients : List Client) (number : ℕ) → length clients ≡ length scripts
    → ((index : ℕ) (own : Client) (one : Scripted) → slice_get clients index ≡ Some own → slice_get scripts index ≡ Some one → IsHeardAll terms all (number + index) (submissions_in one.requests (reports_of own.past)))
    → ClientsAreHeard terms number all (map (flat_map submissions_of) (copies_by_client scripts (map (λ client. reports_of client.past) clients)))
each_heard terms all [] clients number long heard = tt
each_heard terms all (one ∷ scripts) [] number long heard = absurd (let none : ⊥ = omega (arith, long) in none)
each_heard terms all (one ∷ scripts) (own ∷ clients) number long heard =
    let less : length clients ≡ length scripts = omega (arith, long) in (
      subst (λ (n : ℕ). IsHeardAll terms all n (submissions_in one.requests (reports_of own.past))) (add-zero number) (heard 0 own one refl refl),
      each_heard terms all scripts clients (number + 1) less
          (λ index other script here there.
          let same : number + suc index ≡ (number + 1) + index = omega arith in
          subst (λ (n : ℕ). IsHeardAll terms all n (submissions_in script.requests (reports_of other.past))) same (heard (suc index) other script here there)),
    )

-- RUNS --------------------------------------------------------------------------------------------

reached_setting : (document : Document) (events : List Event) (notes : List Note) (items : List Served) (seen : Seen) (t : Traced) → Reached document events notes items seen t → t.setting ≡ setting_of document
reached_setting document _ _ _ _ _ (Begins seen start history horizon coupled) = refl
reached_setting document _ _ _ _ _ (GoesOn events notes items more before after old new event note reached one forgets) = one.setting ∙ reached_setting document events notes items before old reached

pub finishing_setting : (document : Document) (place : Place) (notes : List Note) (items : List Served) (seen : Seen) (t : Traced) → IsFinishing document place notes items seen t → t.setting ≡ setting_of document
finishing_setting document _ _ _ _ _ (Scheduled notes items seen t reached) = reached_setting document document.schedule notes items seen t reached
finishing_setting document _ _ _ _ _ (Finishes place later notes items more before after old new event note finishing next one forgets) = one.setting ∙ finishing_setting document place notes items before old finishing

-- Each request of a whole run fails for its cause.
pub runs_are_caused : FinishesTellSteps → FinishesKeepInvariant → RunsAreCaused
runs_are_caused tell kept document report seen t server right some reported =
    judges_report document report (terms_of document.service) (terms_are document.service) some
    (subst (λ (transcripts : List (List RequestReport)). ClientsAreHeard (terms_of document.service) 1 (steps report) (map (flat_map submissions_of) (copies_by_client document.clients transcripts))) (sym reported.clients)
    (each_heard (terms_of document.service) (steps report) document.clients t.machine.clients 1 (told.many ∙ many_scripts document.clients) heard))
  where
    run : IsRun document report.notes report.served seen t
    run = reported.run

    same : t.setting ≡ setting_of document
    same = finishing_setting document run.place report.notes report.served seen t run.finishing

    inv : Invariant t
    inv = kept document run.place report.notes report.served seen t right run.finishing

    told : TellsClients (setting_of document) t.machine.clients (steps report)
    told = subst (λ (setting : Setting). TellsClients setting t.machine.clients (steps report)) same (tell document run.place report.notes report.served seen t right run.finishing)

    heard : (index : ℕ) (own : Client) (one : Scripted) → slice_get t.machine.clients index ≡ Some own → slice_get document.clients index ≡ Some one → IsHeardAll (terms_of document.service) (steps report) (1 + index) (submissions_in one.requests (reports_of own.past))
    heard index own one here there =
        let number : 1 + index ≡ suc index = omega arith in
        subst (λ (n : ℕ). IsHeardAll (terms_of document.service) (steps report) n (submissions_in one.requests (reports_of own.past))) (sym number)
        (one_heard (setting_of document) (suc index) own one.requests (steps report) (told.each (suc index) own here) (one_finished t.machine.clients index own (all_finished t.machine run.place run.over) here).0
        (get_script document.clients index one there) (all_at (λ (client : Scripted). list_all is_right_request client.requests) document.clients index one right there)
        (subst (λ (setting : Setting). AreThrough setting.terms own.past) same (talks_at t.setting.terms t.machine.clients (suc index) own inv.orderly.script.talks here).0))
