-- Wherever a run of a calm document has come to, and at its end, all is calm.
use Rattle.std.proofs.Common.{◌≡◌, refl, sym, ap, ◌∙◌, Bool, true, false, ℕ, ◌+◌, List, [], ◌∷◌, map, Option, Some, None, IsTrue, if◌then◌else◌}
use Rattle.std.specs.Prelude.{is_some}
use Rattle.std.specs.List.{list_all, list_any}
use Rattle.std.specs.Option.{option_map_or}
use Rattle.std.proofs.lemmas.Bool.{and_parts}
use Rattle.std.proofs.lemmas.List.Folds.{list_all-append}
use Rattle.outage_schedule.specs.declared.document.Client.{Client as Given}
use Rattle.outage_schedule.specs.declared.document.Document.{Document}
use Rattle.outage_schedule.specs.declared.event.Event.{Event}
use Rattle.outage_schedule.specs.declared.event.Event.TheVariants as event
use Rattle.outage_schedule.specs.declared.item.Served.{Served}
use Rattle.outage_schedule.specs.declared.note.Note.{Note}
use Rattle.run_clauses.specs.meaning.Before.{journal_before}
use Rattle.server_model.specs.Laws.{RunsLast}
use Rattle.server_model.specs.Seen.{Seen}
use Rattle.invariant_laws.specs.KeptLaws.{RunsKeepInvariant}
use Rattle.shown_laws.specs.Closing.{RunsLeaveUnclosed}
use Rattle.world_model.specs.meaning.Clients.{is_unfinished, resting}
use Rattle.world_model.specs.meaning.Finishing.{Place, AtServer, AtOrphans, AtRound, AtClients, AtLinks, Next, first_behind, serves_or_ticks, goes_or_serves, next_round, reaps_or_goes, opens_or_reaps, next_finish}
use Rattle.world_model.specs.meaning.Links.{is_orphan}
use Rattle.world_model.specs.meaning.Machines.{Machine}
use Rattle.world_model.specs.Reached.{Reached, Begins, GoesOn, IsFinishing, Scheduled, Finishes}
use Rattle.world_model.specs.meaning.Serving.{front_of}
use Rattle.world_model.specs.Traced.{Traced}
use Rattle.world_model.specs.records.Ready.{all_requests_right}
use Rattle.world_model.proofs.Offered.{reached_start, finishing_reached}
use Rattle.calm_laws.specs.meaning.Calm.{is_calm_event, blocks_past}
use Rattle.calm_laws.proofs.Blocks.{is_quiet}
use Rattle.calm_laws.proofs.CalmClients.{is_calm_client}
use Rattle.calm_laws.proofs.CalmEvents.{IsCalm, event_calm}

-- THE FINISH --------------------------------------------------------------------------------------

abbrev is_calm_next : Next → Bool
is_calm_next None = true
is_calm_next (Some (made, later)) = is_calm_event made

serves_calm : (m : Machine) → is_calm_next (serves_or_ticks m) ≡ true
serves_calm m = by (first_behind (λ link. is_some (front_of link)) 0 m.links)
  where
    by : (found : Option ℕ) → is_calm_next (option_map_or (λ number. Some (event.Serve number, AtLinks)) found (Some (event.Tick, AtRound))) ≡ true
    by None = refl
    by (Some number) = refl

goes_calm : (m : Machine) (last : ℕ) → is_calm_next (goes_or_serves m last) ≡ true
goes_calm m last = by (first_behind is_unfinished last m.clients)
  where
    by : (found : Option ℕ) → is_calm_next (option_map_or (λ number. Some (event.Go number, AtClients number)) found (serves_or_ticks m)) ≡ true
    by None = serves_calm m
    by (Some number) = refl

round_calm : (m : Machine) → is_calm_next (next_round m) ≡ true
round_calm m = by (list_any is_unfinished m.clients)
  where
    by : (test : Bool) → is_calm_next (if test then goes_or_serves m 0 else None) ≡ true
    by true = goes_calm m 0
    by false = refl

reaps_calm : (m : Machine) → is_calm_next (reaps_or_goes m) ≡ true
reaps_calm m = by (first_behind is_orphan 0 m.links)
  where
    by : (found : Option ℕ) → is_calm_next (option_map_or (λ number. Some (event.Reap number, AtOrphans)) found (next_round m)) ≡ true
    by None = round_calm m
    by (Some number) = refl

opens_calm : (m : Machine) → is_calm_next (opens_or_reaps m) ≡ true
opens_calm m = by m.server.is_up
  where
    by : (up : Bool) → is_calm_next (if up then reaps_or_goes m else Some (event.Up, AtOrphans)) ≡ true
    by true = reaps_calm m
    by false = refl

finish_calm : (m : Machine) (place : Place) → is_calm_next (next_finish m place) ≡ true
finish_calm m AtServer = opens_calm m
finish_calm m AtOrphans = reaps_calm m
finish_calm m AtRound = round_calm m
finish_calm m (AtClients last) = goes_calm m last
finish_calm m AtLinks = serves_calm m

-- RUNS --------------------------------------------------------------------------------------------

resting_calm : (all : List Given) → list_all is_calm_client (map (λ (client : Given). resting client.requests []) all) ≡ true
resting_calm [] = refl
resting_calm (client ∷ all) = resting_calm all

-- where the service has the incarnation behind the last one before the run, and was asked for no
-- outcome
pub record CalmState (document : Document) (seen : Seen) (t : Traced) : Type 0 where
  pub machine : IsCalm ((journal_before document).incarnation + 1) t.machine
  pub history : list_all is_quiet seen.history ≡ true

module _ (last : RunsLast) (kept : RunsKeepInvariant) (unclosed : RunsLeaveUnclosed) (document : Document) (right : IsTrue (all_requests_right document)) (past : blocks_past (journal_before document) ≡ true) where
  reached_calm : (events : List Event) (notes : List Note) (items : List Served) (seen : Seen) (t : Traced) → Reached document events notes items seen t → list_all is_calm_event events ≡ true → CalmState document seen t
  reached_calm _ _ _ _ _ (Begins seen start history horizon coupled) calm =
      record { machine = record { is_up = refl; same = refl; links = refl; clients = resting_calm document.clients }; history = ap (list_all is_quiet) history }
  reached_calm _ _ _ _ _ (GoesOn events notes items more before after old new made note reached one forgets) calm =
      let parts = and_parts (list_all is_calm_event events) (list_all is_calm_event (made ∷ [])) (sym (list_all-append is_calm_event events (made ∷ [])) ∙ calm) in
      let so : CalmState document before old = reached_calm events notes items before old reached parts.0 in
      let next = event_calm document last before after old new made note more one (kept document events notes items before old right reached) (unclosed document events notes items before old right reached) so.machine so.history
      (one.start ∙ reached_start document events notes items before old reached) past (and_parts (is_calm_event made) true parts.1).0 in
      record { machine = next.0; history = next.1 }

  pub finishing_calm : list_all is_calm_event document.schedule ≡ true → (place : Place) (notes : List Note) (items : List Served) (seen : Seen) (t : Traced) → IsFinishing document place notes items seen t → CalmState document seen t
  finishing_calm calm _ _ _ _ _ (Scheduled notes items seen t reached) = reached_calm document.schedule notes items seen t reached calm
  finishing_calm calm _ _ _ _ _ (Finishes place later notes items more before after old new made note finishing next one forgets) =
      let so : CalmState document before old = finishing_calm calm place notes items before old finishing in
      let at = finishing_reached document place notes items before old finishing in
      let behind = event_calm document last before after old new made note more one (kept document at.0 notes items before old right at.1) (unclosed document at.0 notes items before old right at.1) so.machine so.history
      (one.start ∙ reached_start document at.0 notes items before old at.1) past (ap is_calm_next (sym next) ∙ finish_calm old.machine place) in
      record { machine = behind.0; history = behind.1 }
