-- Wherever a run has come to, the steps that are told of each client are those of its requests.
use Rattle.std.proofs.Common.{◌≡◌, refl, ap, length, sym, subst, append-nil, ℕ, zero, suc, List, [], ◌∷◌, ◌++◌, map, Some, IsTrue}
use Rattle.std.specs.Prelude.{slice_get, get_or}
use Rattle.outage_schedule.specs.declared.document.Document.{Document}
use Rattle.outage_schedule.specs.declared.document.Request.{Request}
use Rattle.outage_schedule.specs.declared.event.Event.{Event}
use Rattle.outage_schedule.specs.declared.item.Served.{Served}
use Rattle.outage_schedule.specs.declared.note.GoNote.{GoNote}
use Rattle.outage_schedule.specs.declared.note.Note.{Note}
use Rattle.outage_schedule.specs.declared.note.Note.TheVariants as note
use Rattle.server_model.specs.Seen.{Seen}
use Rattle.run_clauses.specs.meaning.Copies.{next_of}
use Rattle.shown_clauses.specs.meaning.Steps.{Step as StepTold}
use Rattle.world_model.specs.meaning.Clients.{Client, client_at, resting, script_at}
use Rattle.world_model.specs.meaning.Finishing.{Place}
use Rattle.invariant_laws.specs.Invariant.{Invariant}
use Rattle.invariant_laws.specs.KeptLaws.{RunsKeepInvariant, FinishesKeepInvariant}
use Rattle.world_model.specs.meaning.Machines.{Machine, start_of}
use Rattle.world_model.specs.OneEvent.{OneEvent}
use Rattle.world_model.specs.Reached.{Reached, Begins, GoesOn, IsFinishing, Scheduled, Finishes}
use Rattle.world_model.specs.records.Ready.{all_requests_right}
use Rattle.world_model.specs.meaning.Settings.{Setting, setting_of}
use Rattle.world_model.specs.Traced.{Traced}
use Rattle.shown_laws.specs.Closing.{AllUnclosed}
use Rattle.shown_laws.specs.ConnectionLaws.{AreTold}
use Rattle.shown_laws.specs.Growth.{next_told}
use Rattle.shown_laws.specs.Telling.{seen_told, steps_told, steps_in}
use Rattle.shown_laws.specs.Tellings.{NonePast, NoneNow, TellsClient, TellsClients, RunsTellSteps, FinishesTellSteps}
use Rattle.shown_laws.proofs.steps.ChainTold.{clients_more}
use Rattle.shown_laws.proofs.events.Clock.{HasCome, grows_on, reached_come, finishing_come}
use Rattle.shown_laws.proofs.events.Following.{at_event, Does, Goes, ServesNone, Serves, CutsNone, Cuts, ReapsNone, Reaps, IsDown, Crashes, CrashStops, CrashServes, Ticks, Drains, IsServers, follow_does}
use Rattle.shown_laws.proofs.events.GoNotes.{follow_goes}
use Rattle.shown_laws.proofs.links.LinksTold.{AllStand, runs_told, finishes_told}
use Rattle.shown_laws.proofs.links.UnclosedRuns.{reached_unclosed, finishing_unclosed}
use Rattle.shown_laws.proofs.steps.StepsTold.{told_step, told_steps, Acts, StepTells, TellsNone, TellsOne, step_tells}

-- THE START ---------------------------------------------------------------------------------------

fresh_at : {A : Type 0} (P : ℕ → Client → Type 0) (setting : Setting) (client : ℕ) → ((script : List Request) → script_at setting client ≡ script → P client (resting script [])) → (script : A → List Request) (all : List A) (index : ℕ) (own : Client) → script_at setting client ≡ get_or (map script all) index []
    → slice_get (map (λ one. resting (script one) []) all) index ≡ Some own → P client own
fresh_at P setting client fresh script [] index own its is = absurd (let none : ⊥ = cc in none)
fresh_at P setting client fresh script (one ∷ all) zero own its is = let same : resting (script one) [] ≡ own = cc in subst (P client) same (fresh (script one) its)
fresh_at P setting client fresh script (one ∷ all) (suc index) own its is = fresh_at P setting client fresh script all index own its is

-- what holds of each client that has its script before it, where a run starts
pub each_fresh : (P : ℕ → Client → Type 0) (document : Document) → ((client : ℕ) (script : List Request) → script_at (setting_of document) client ≡ script → P client (resting script []))
    → (client : ℕ) (own : Client) → client_at (start_of document).clients client ≡ Some own → P client own
each_fresh P document fresh zero own is = absurd (let none : ⊥ = cc in none)
each_fresh P document fresh (suc index) own is = fresh_at P (setting_of document) (suc index) (fresh (suc index)) (λ client. client.requests) document.clients index own refl is

-- no step is told of it
abbrev pub tells_none : (setting : Setting) (client : ℕ) (script : List Request) → script_at setting client ≡ script → TellsClient setting client (resting script []) []
tells_none setting client script its = record {
  past = [];
  now = [];
  tells_past = NonePast 0;
  tells_now = NoneNow;
  all = refl;
  scripted = record { past = tt; next = ap (λ (made : List Request). next_of made []) (sym its); now = λ doing never. absurd (let none : ⊥ = cc in none) };
}

many_same : {A : Type 0} (script : A → List Request) (all : List A) → length (map (λ one. resting (script one) []) all) ≡ length (map script all)
many_same script [] = refl
many_same script (one ∷ all) = ap suc (many_same script all)

none_told : (document : Document) → TellsClients (setting_of document) (start_of document).clients []
none_told document = record {
  many = many_same (λ client. client.requests) document.clients;
  each = each_fresh (λ client own. TellsClient (setting_of document) client own []) document (tells_none (setting_of document));
}

-- EVENTS ------------------------------------------------------------------------------------------

-- What holds of the clients and of the steps that are told holds behind each event, if it does
-- behind each step of a client.
module _ (Q : List Client → List StepTold → Type 0) (t : Traced) (inv : Invariant t) (notes : List Note) (items : List Served) (are : AreTold notes items t) (unclosed : AllUnclosed t.machine) (told : List StepTold) (before : Q t.machine.clients told)
    (grows : (client : ℕ) (did : GoNote) (n : Machine) → Acts t (seen_told notes items) client did n → Q n.clients (told ++ told_step t (seen_told notes items) client did ∷ [])) where
  -- no step is told
  quiet : Q t.machine.clients (told ++ [])
  quiet = subst (Q t.machine.clients) (sym (append-nil told)) before

  goes_on : (client : ℕ) (did : GoNote) (n : Machine) → StepTells t (seen_told notes items) client did n → Q n.clients (told ++ told_steps t (seen_told notes items) client did)
  goes_on client did n (TellsNone none same) =
      subst (λ (clients : List Client). Q clients (told ++ told_steps t (seen_told notes items) client did)) (sym same)
      (subst (λ (more : List StepTold). Q t.machine.clients (told ++ more)) (sym none) quiet)
  goes_on client did n (TellsOne acts) = subst (λ (more : List StepTold). Q n.clients (told ++ more)) (sym acts.told) (grows client did n acts)

  event_on : (one : Note) (more : List Served) (n : Machine) → Does t.setting (at_event t.machine) one more n → Q n.clients (told ++ steps_in (seen_told notes items) (next_told t.machine one more))
  event_on _ _ _ (Goes client did n goes) =
      goes_on client did n (step_tells t inv (seen_told notes items) are.links.at are.sessions unclosed client did n (follow_goes t.setting (at_event t.machine) client did n goes))
  event_on _ _ _ (ServesNone connection) = quiet
  event_on _ _ _ (Serves connection name front served at ordinary) = quiet
  event_on _ _ _ (CutsNone connection) = quiet
  event_on _ _ _ (Cuts connection up down reached link at) = quiet
  event_on _ _ _ (ReapsNone connection) = quiet
  event_on _ _ _ (Reaps connection) = quiet
  event_on _ _ _ (IsDown connection) = quiet
  event_on _ _ _ (Crashes connection failover) = quiet
  event_on _ _ _ (CrashStops connection after failover front served at stopped) = quiet
  event_on _ _ _ (CrashServes connection failover front served at ordinary) = quiet
  event_on _ _ _ Ticks = quiet
  event_on _ _ _ (Drains closed) = quiet
  event_on _ _ _ (IsServers (note.Up incarnation) server is) = quiet
  event_on _ _ _ (IsServers (note.UpCrash made) server is) = quiet
  event_on _ _ _ (IsServers (note.Outside ran) server is) = quiet
  event_on _ _ _ (IsServers (note.Ask x told) server is) = quiet
  event_on _ _ _ (IsServers one server is) = absurd (let none : ⊥ = cc in none)

module _ (Q : Setting → List Client → List StepTold → Type 0) (before after : Seen) (old new : Traced) (event : Event) (note : Note) (notes : List Note) (items more : List Served) (one : OneEvent before old event note more [] after new) (come : HasCome notes items old.machine) (inv : Invariant old)
    (are : AreTold notes items old) (unclosed : AllUnclosed old.machine) (was : Q old.setting old.machine.clients (steps_told notes items))
    (grows : (client : ℕ) (did : GoNote) (n : Machine) → Acts old (seen_told notes items) client did n → Q old.setting n.clients (steps_told notes items ++ told_step old (seen_told notes items) client did ∷ [])) where
  pub clients_on : Q new.setting new.machine.clients (steps_told (notes ++ note ∷ []) (items ++ more))
  clients_on =
      subst (λ (setting : Setting). Q setting new.machine.clients (steps_told (notes ++ note ∷ []) (items ++ more))) (sym one.setting)
      (subst (Q old.setting new.machine.clients) (sym (grows_on before after old new event note notes items more one come).steps)
      (event_on (Q old.setting) old inv notes items are unclosed (steps_told notes items) was grows note more new.machine (follow_does old.setting old.machine event note more new.machine one.follows)))

-- RUNS --------------------------------------------------------------------------------------------

steps_on : (before after : Seen) (old new : Traced) (event : Event) (note : Note) (notes : List Note) (items more : List Served) → OneEvent before old event note more [] after new → HasCome notes items old.machine → Invariant old → AreTold notes items old → AllUnclosed old.machine
    → TellsClients old.setting old.machine.clients (steps_told notes items) → TellsClients new.setting new.machine.clients (steps_told (notes ++ note ∷ []) (items ++ more))
steps_on before after old new event note notes items more one come inv are unclosed was =
    clients_on TellsClients before after old new event note notes items more one come inv are unclosed was (λ client did n acts. clients_more old inv (seen_told notes items) client did n acts (steps_told notes items) was)

module _ (kept : RunsKeepInvariant) (stand : AllStand) (document : Document) (right : IsTrue (all_requests_right document)) where
  reached_steps : (events : List Event) (notes : List Note) (items : List Served) (seen : Seen) (t : Traced) → Reached document events notes items seen t → TellsClients t.setting t.machine.clients (steps_told notes items)
  reached_steps _ _ _ _ _ (Begins seen start history horizon coupled) = none_told document
  reached_steps _ _ _ _ _ (GoesOn events notes items more before after old new event note reached one forgets) =
      steps_on before after old new event note notes items more one (reached_come document events notes items before old reached) (kept document events notes items before old right reached)
      (runs_told kept stand document events notes items before old right reached) (reached_unclosed kept stand document right events notes items before old reached) (reached_steps events notes items before old reached)

  finishing_steps : FinishesKeepInvariant → (place : Place) (notes : List Note) (items : List Served) (seen : Seen) (t : Traced) → IsFinishing document place notes items seen t → TellsClients t.setting t.machine.clients (steps_told notes items)
  finishing_steps all _ _ _ _ _ (Scheduled notes items seen t reached) = reached_steps document.schedule notes items seen t reached
  finishing_steps all _ _ _ _ _ (Finishes place later notes items more before after old new event note finishing next one forgets) =
      steps_on before after old new event note notes items more one (finishing_come document place notes items before old finishing) (all document place notes items before old right finishing)
      (finishes_told kept all stand document place notes items before old right finishing) (finishing_unclosed kept stand document right all place notes items before old finishing) (finishing_steps all place notes items before old finishing)

pub runs_tell_steps : RunsKeepInvariant → AllStand → RunsTellSteps
runs_tell_steps kept stand document events notes items seen t right reached = reached_steps kept stand document right events notes items seen t reached

pub finishes_tell_steps : RunsKeepInvariant → FinishesKeepInvariant → AllStand → FinishesTellSteps
finishes_tell_steps kept all stand document place notes items seen t right finishing = finishing_steps kept stand document right all place notes items seen t finishing
