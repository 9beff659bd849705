-- A run goes through its schedule, event by event, and then through its finish.
use Rattle.std.proofs.Common.{◌≡◌, ◌∙◌, refl, sym, ap, subst, arith, Bool, ℕ, zero, suc, ◌+◌, ◌≤◌, ◌<◌, List, [], ◌∷◌, ◌++◌, length, length-append, map, take, Option, Some, None, Result, Ok, Err}
use Rattle.std.specs.Prelude.{get_or, slice_get, option_map, IfOk}
use Rattle.std.specs.List.{AllByRecursion}
use Rattle.std.proofs.Math.Seq.{take-length}
use Rattle.std.proofs.lemmas.List.{length-take-le, take_more}
use Rattle.std.proofs.lemmas.Option.{slice_get-map}
use Rattle.request_bounds.specs.meaning.Rules.{Rules}
use Rattle.outage_schedule.specs.declared.document.Client.{Client as Script}
use Rattle.outage_schedule.specs.declared.document.Document.{Document}
use Rattle.outage_schedule.specs.declared.document.ServiceOf.{ServiceOf}
use Rattle.outage_schedule.specs.declared.event.Event.{Event}
use Rattle.outage_schedule.specs.declared.item.Served.{Served}
use Rattle.outage_schedule.specs.declared.note.Note.{Note}
use Rattle.outage_schedule.specs.declared.request.RequestReport.{RequestReport}
use Rattle.server_model.specs.Seen.{Seen}
use Rattle.service_calls.specs.Kept.{HaveOneBase}
use Rattle.world_model.specs.meaning.Clients.{Client, reports_of}
use Rattle.run_laws.specs.FinishShort.{FinishIsShort}
use Rattle.world_model.specs.meaning.Followed.{transcripts_of}
use Rattle.world_model.specs.Forgets.{first_of}
use Rattle.world_model.specs.Reached.{Reached, Begins, GoesOn, IsRun, Scheduled, traced_start}
use Rattle.world_model.specs.Traced.{Traced}
use Rattle.world_core.specs.Allowing.{IsAllowed}
use Rattle.world_core.specs.Among.{IsFitScript, StandEach}
use Rattle.world_core.specs.Coursing.{Held}
use Rattle.world_core.specs.Making.{IsAt}
use Rattle.world_run.specs.Places.{IsShort, Finishes}
use Rattle.world_run.specs.Running.{Parts, Stands, StandsSomewhere, MakesOne}
use Rattle.world_run.specs.Starting.{IsOf, IsOfSome, HasRoom, StandsAtStart}
use Rattle.world_run.specs.declared.world.Ran.{Ran}
use Rattle.continuity_run.specs.Runs.{IsRunOf, IsRunOfSome, HasRun}
use Rattle.continuity_run.proofs.Documents.{are_limits, events_allowed, fit_scripts, has_room}

-- LISTS -------------------------------------------------------------------------------------------

same_places : {A : Type 0} (xs ys : List A) → ((index : ℕ) → slice_get xs index ≡ slice_get ys index) → xs ≡ ys
same_places [] [] same = refl
same_places [] (y ∷ ys) same = absurd (let none : None ≡ Some y = same 0 in cc)
same_places (x ∷ xs) [] same = absurd (let none : Some x ≡ None = same 0 in cc)
same_places (x ∷ xs) (y ∷ ys) same =
    let first : x ≡ y = let both : Some x ≡ Some y = same 0 in cc in
    ap (λ one. one ∷ xs) first ∙ ap (λ rest. y ∷ rest) (same_places xs ys (λ index. same (suc index)))

-- each of these, at its place
at_place : {A : Type 0} (P : A → Type 0) (all : List A) (index : ℕ) (default : A) → AllByRecursion P all → index < length all → P (get_or all index default)
at_place P [] index default are within = absurd (let none : ⊥ = omega (arith, within) in none)
at_place P (one ∷ all) zero default are within = are.0
at_place P (one ∷ all) (suc index) default are within = at_place P all index default are.1 (let less : index < length all = omega (arith, within) in less)

-- EVENTS ------------------------------------------------------------------------------------------

-- each event has its note
noted : (document : Document) (events : List Event) (notes : List Note) (items : List Served) (seen : Seen) (t : Traced) → Reached document events notes items seen t → length notes ≡ length events
noted document _ _ _ _ _ (Begins seen start history horizon coupled) = refl
noted document _ _ _ _ _ (GoesOn events notes items more before after old new event note reached one forgets) =
    let earlier = noted document events notes items before old reached in
    length-append notes (note ∷ []) ∙ (ap (λ count. count + 1) earlier ∙ sym (length-append events (event ∷ [])))

-- the store keeps its base where a run leaves its service
pub base_if : {S E : Type 0} (bytes : S → List ℕ) (first last : S) (Rest : Ran S → Type 0) (result : Result (Ran S) E) → HaveOneBase (bytes first) (bytes last) → IfOk result (λ ran. (ran.service ≡ last) × Rest ran)
    → IfOk result (λ ran. HaveOneBase (bytes first) (bytes ran.service))
base_if bytes first last Rest (Ok ran) base leaves = subst (λ service. HaveOneBase (bytes first) (bytes service)) (sym leaves.0) base
base_if bytes first last Rest (Err e) base leaves = tt

module _ (S R : Type 0) (sees : S → Seen → Type 0) (rules : R → Rules) (scripts : List Script) where
  -- so far has the run of this document come, by these events
  pub record HasCome (document : Document) (events : List Event) (parts : Parts S R) : Type 0 where
    pub seen : Seen
    pub traced : Traced
    pub reached : Reached document events parts.notes parts.served seen traced
    pub stands : Stands S R sees rules scripts document.service.retention (first_of document) parts seen traced

  -- CLIENTS ---------------------------------------------------------------------------------------

  clients_shown : (held : List (Held R)) (t : Traced) → StandEach R rules held t → map (λ (one : Held R). one.past) held ≡ transcripts_of t.machine
  clients_shown held t each = same_places (map (λ (one : Held R). one.past) held) (transcripts_of t.machine) at
    where
      at : (index : ℕ) → slice_get (map (λ (one : Held R). one.past) held) index ≡ slice_get (transcripts_of t.machine) index
      at index = slice_get-map (λ (one : Held R). one.past) held index ∙ (by (slice_get held index) refl ∙ sym (slice_get-map (λ (client : Client). reports_of client.past) t.machine.clients index))
        where
          by : (one : Option (Held R)) → slice_get held index ≡ one → option_map (λ (one : Held R). one.past) (slice_get held index) ≡ option_map (λ (client : Client). reports_of client.past) (slice_get t.machine.clients index)
          by None is = rw (is, each.none index is) refl
          by (Some one) is = let client = each.each index one is in rw (is, client.1.there) (ap (λ (reports : List RequestReport). Some reports) client.1.stands.beside.past)

  module _ (begun : Seen → Type 0) (rule : Rules) (of : ServiceOf) (schedule : List Event) (opened : Bool) where
    -- whichever document's run it is
    abbrev pub Comes : List Event → Parts S R → Type 0
    Comes events parts = (document : Document) → IsRunOf begun rule of scripts schedule opened document → HasCome document events parts

    -- BEFORE THE FIRST EVENT ----------------------------------------------------------------------

    pub begins_some : IsRunOfSome begun rule of scripts schedule opened → IsOfSome begun rule of scripts opened
    begins_some some = (some.0, (some.1.seen, some.1.begins))

    pub room_of : IsRunOfSome begun rule of scripts schedule opened → HasRoom of
    room_of some = subst HasRoom some.1.begins.service (has_room some.0 some.1.kept)

    pub fit_of : IsRunOfSome begun rule of scripts schedule opened → AllByRecursion IsFitScript scripts
    fit_of some = subst (AllByRecursion IsFitScript) some.1.begins.clients (fit_scripts some.0 some.1.kept)

    pub comes_first : (parts : Parts S R) → ((document : Document) (seen : Seen) → IsOf begun rule of scripts opened document seen → StandsAtStart S R sees rules scripts document parts) → Comes [] parts
    comes_first parts starts document is =
        let start = starts document is.seen is.begins in
        record {
          seen = start.seen;
          traced = traced_start document;
          reached = subst (λ (notes : List Note). Reached document [] notes parts.served start.seen (traced_start document)) (sym start.none.0)
              (subst (λ (served : List Served). Reached document [] [] served start.seen (traced_start document)) (sym start.none.1) start.reached);
          stands = start.stands;
        }

    module _ (events : List Event) (now : Parts S R) (comes : Comes events now) where
      -- THE NEXT EVENT ----------------------------------------------------------------------------

      pub comes_further : (event : Event) (after : Parts S R) → MakesOne S R sees rules scripts event now after → Comes (events ++ event ∷ []) after
      comes_further event after makes document is =
          let come = comes document is in
          let step = makes document.service.retention (first_of document) come.seen come.traced come.stands in
          record {
            seen = step.seen_later;
            traced = step.later;
            reached = subst (λ (notes : List Note). Reached document (events ++ event ∷ []) notes after.served step.seen_later step.later) (sym step.notes)
                (subst (λ (served : List Served). Reached document (events ++ event ∷ []) (now.notes ++ step.note ∷ []) served step.seen_later step.later) (sym step.served)
                (GoesOn events now.notes now.served step.items come.seen step.seen_later come.traced step.later event step.note come.reached step.made step.forgets));
            stands = step.stands;
          }

      module _ (some : IsRunOfSome begun rule of scripts schedule opened) where
        come_some : HasCome some.0 events now
        come_some = comes some.0 some.1

        pub somewhere : StandsSomewhere S R sees rules scripts now
        somewhere = record {
          retention = some.0.service.retention;
          first = first_of some.0;
          seen = come_some.seen;
          traced = come_some.traced;
          stands = come_some.stands;
        }

        pub as_many_notes : length now.notes ≡ length events
        as_many_notes = noted some.0 events now.notes now.served come_some.seen come_some.traced come_some.reached

    -- OF THE SCHEDULE -----------------------------------------------------------------------------

    module _ (some : IsRunOfSome begun rule of scripts schedule opened) where
      pub few_events : length schedule ≤ 100000
      few_events = subst (λ (events : List Event). length events ≤ 100000) some.1.schedule_is some.1.kept.few_events

      pub next_allowed : (index : ℕ) (event : Event) → index < length schedule → event ≡ get_or schedule index event → IsAllowed (length scripts) event
      next_allowed index event within is =
          let all : AllByRecursion (IsAllowed (length scripts)) schedule =
          subst (AllByRecursion (IsAllowed (length scripts))) some.1.schedule_is (subst (λ (clients : List Script). AllByRecursion (IsAllowed (length clients)) some.0.schedule) some.1.begins.clients (events_allowed some.0 some.1.kept)) in
          subst (IsAllowed (length scripts)) (sym is) (at_place (IsAllowed (length scripts)) schedule index event all within)

      pub few_notes : (index : ℕ) (now : Parts S R) → index ≤ length schedule → Comes (take index schedule) now → length now.notes ≤ 100000
      few_notes index now within comes =
          let many = as_many_notes (take index schedule) now comes some in
          let long = length-take-le index schedule within in
          let few = few_events in
          omega (arith, many, long, few, within)

    pub comes_next : (index : ℕ) (event : Event) (now after : Parts S R) → index < length schedule → event ≡ get_or schedule index event → Comes (take index schedule) now → MakesOne S R sees rules scripts event now after
        → Comes (take (index + 1) schedule) after
    comes_next index event now after within is comes makes =
        subst (λ (events : List Event). Comes events after) (sym (take_more schedule index event within ∙ ap (λ (one : Event). take index schedule ++ one ∷ []) (sym is)))
        (comes_further (take index schedule) now comes event after makes)

    -- THE FINISH ----------------------------------------------------------------------------------

    module _ (index : ℕ) (now : Parts S R) (all : index ≡ length schedule) (comes : Comes (take index schedule) now) where
      reached_all : (document : Document) (is : IsRunOf begun rule of scripts schedule opened document) → let come = comes document is in Reached document document.schedule now.notes now.served come.seen come.traced
      reached_all document is =
          let come = comes document is in
          subst (λ (events : List Event). Reached document events now.notes now.served come.seen come.traced) (ap (λ (count : ℕ). take count schedule) all ∙ (take-length schedule ∙ sym is.schedule_is)) come.reached

      pub is_short : FinishIsShort → IsRunOfSome begun rule of scripts schedule opened → IsShort S R sees rules scripts now
      is_short short some =
          let come = comes some.0 some.1 in
          record {
            retention = some.0.service.retention;
            first = first_of some.0;
            seen = come.seen;
            traced = come.traced;
            stands = come.stands;
            short = short some.0 some.0.schedule now.notes now.served come.seen come.traced (are_limits some.0 some.1.kept) (reached_all some.0 some.1) some.1.kept.few_events;
          }

      pub has_run : (after : Parts S R) (ran : Ran S) → Finishes S R sees rules scripts now after
          → (ran.service ≡ after.service) × ((ran.notes ≡ after.notes) × ((ran.served ≡ after.served) × (ran.clients ≡ map (λ (one : Held R). one.past) after.clients)))
          → (document : Document) → IsRunOf begun rule of scripts schedule opened document → HasRun sees document ran
      has_run after ran finishes leaves document is =
          let come = comes document is in
          let over = finishes document come.seen come.traced come.stands (Scheduled now.notes now.served come.seen come.traced (reached_all document is)) in
          record {
            seen = over.seen;
            traced = over.traced;
            traffic = after.traffic;
            place = subst (λ (service : S). IsAt (sees service) after.traffic over.seen over.traced) (sym leaves.0) over.stands.beside.place;
            run = subst (λ (notes : List Note). IsRun document notes ran.served over.seen over.traced) (sym leaves.1.0)
                (subst (λ (served : List Served). IsRun document after.notes served over.seen over.traced) (sym leaves.1.1.0) over.run);
            clients = leaves.1.1.1 ∙ clients_shown after.clients over.traced over.stands.beside.stand;
          }

      pub has_run_if : {E : Type 0} (after : Parts S R) (result : Result (Ran S) E) → Finishes S R sees rules scripts now after
          → IfOk result (λ ran. (ran.service ≡ after.service) × ((ran.notes ≡ after.notes) × ((ran.served ≡ after.served) × (ran.clients ≡ map (λ (one : Held R). one.past) after.clients))))
          → IfOk result (λ ran. (document : Document) → IsRunOf begun rule of scripts schedule opened document → HasRun sees document ran)
      has_run_if after (Ok ran) finishes leaves = has_run after ran finishes leaves
      has_run_if after (Err e) finishes leaves = tt
