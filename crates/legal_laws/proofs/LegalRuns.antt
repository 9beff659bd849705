-- What the report of a whole run tells of its service is legal, and drew nothing anew twice.
use Rattle.std.proofs.Common.{◌≡◌, refl, sym, ap, subst, ◌∙◌, ℕ, ◌+◌, true, List, [], ◌∷◌, ◌++◌, map}
use Rattle.std.specs.Prelude.{IsTrue}
use Rattle.std.proofs.lemmas.Bool.{and_from}
use Rattle.svc_values.specs.declared.entry.Entry.{Entry}
use Rattle.svc_values.specs.declared.entry.Ltxid.{Ltxid}
use Rattle.svc_values.specs.declared.frame.Down.TheVariants as down
use Rattle.outage_schedule.specs.declared.document.Document.{Document}
use Rattle.outage_schedule.specs.declared.event.Event.{Event}
use Rattle.outage_schedule.specs.declared.note.Note.{Note}
use Rattle.outage_schedule.specs.declared.report.Report.{Report}
use Rattle.run_clauses.specs.meaning.Moments.{moments_of_notes, in_order}
use Rattle.run_clauses.specs.meaning.ServiceBase.{service_base}
use Rattle.server_model.specs.meaning.Base.{Base}
use Rattle.server_model.specs.Base.{IsSound}
use Rattle.server_model.specs.meaning.Fresh.{fresh_new}
use Rattle.server_model.specs.meaning.Items.{Item, asked_of}
use Rattle.server_model.specs.Items.{items_from as items_in, items_of as items_of_history}
use Rattle.server_model.specs.Laws.{RunsLegal, RunsFreshNew}
use Rattle.server_model.specs.meaning.Legal.{legal}
use Rattle.server_model.specs.meaning.Outcomes.{Telling, Silent, Says, Stopped}
use Rattle.server_model.specs.Runs.{Happened, Served as ServedFrame, Asked, Server}
use Rattle.server_model.specs.Seen.{Seen}
use Rattle.shown_clauses.specs.meaning.KeptDraws.{parts}
use Rattle.shown_clauses.specs.meaning.Legal.{legal_of}
use Rattle.shown_clauses.specs.Legal.{fresh_new_of}
use Rattle.shown_clauses.specs.meaning.LegalItems.{items_from, items_of, outsides_fit}
use Rattle.shown_clauses.specs.meaning.Places.{first_front, reach}
use Rattle.world_model.specs.Coupled.{Coupled}
use Rattle.world_model.specs.records.Ready.{all_requests_right}
use Rattle.world_model.specs.Reached.{traced_start}
use Rattle.world_model.specs.Reported.{IsReported}
use Rattle.invariant_laws.specs.SameLaws.{HoldsInRuns}
use Rattle.world_model.specs.Traced.{Traced}
use Rattle.world_model.proofs.Offered.{finishing_start}
use Rattle.shown_laws.specs.Growth.{RunsAreCounted, RunsGrow}
use Rattle.shown_laws.specs.Unblocked.{serve_unblocked}
use Rattle.shown_laws.proofs.Offered.{reached_coupled}
use Rattle.legal_laws.specs.MarksTold.{TellsMarked, ReportsTellMarked, end_of}
use Rattle.legal_laws.specs.Points.{Point, IsThere}
use Rattle.legal_laws.specs.ToldLegal.{RunsAreLegalTold, RunsAreFreshNewTold}
use Rattle.legal_laws.proofs.BareItems.{bare, bare_items, legal_bare, fresh_bare}
use Rattle.legal_laws.proofs.EventsTold.{bare_of}
use Rattle.legal_laws.proofs.FinishPoints.{IsPastSchedule, past_schedule, FitsSchedule, fits_schedule}
use Rattle.legal_laws.proofs.FrontMoves.{place_told, front_told, Comes}
use Rattle.legal_laws.proofs.ItemsTold.{events_left, notes_left, items_left, events_joined, notes_joined, items_joined, FromStart, from_start, Tells, tells_all}

-- A HISTORY ---------------------------------------------------------------------------------------

asked_alike : (event : ℕ) (x : Ltxid) (told : Telling) → bare (asked_of event x told) ≡ bare (asked_of 0 x told)
asked_alike event x Silent = refl
asked_alike event x (Says (down.OutcomeIs committed completed)) = refl
asked_alike event x (Says (down.OutcomeRefused ahead next)) = refl
asked_alike event x (Says frame) = refl
asked_alike event x Stopped = refl

history_alike : (event : ℕ) (history : List Happened) → bare_items (items_in event history) ≡ map bare_of history
history_alike event [] = refl
history_alike event (ServedFrame session now frame told ∷ more) = ap (λ (items : List Item). bare_of (ServedFrame session now frame told) ∷ items) (history_alike (event + 1) more)
history_alike event (Asked x told ∷ more) =
    ap (λ (item : Item). item ∷ bare_items (items_in (event + 1) more)) (asked_alike event x told)
    ∙ ap (λ (items : List Item). bare_of (Asked x told) ∷ items) (history_alike (event + 1) more)

-- A REPORT ----------------------------------------------------------------------------------------

-- what is told of calls with the mark is what their frames brought
abbrev pub IsTold : Document → Report → Seen → Traced → Type 0
IsTold document report seen t = (events : List Event) → TellsMarked document (end_of events report seen t) (parts document report)

module _ (counted : RunsAreCounted) (grow : RunsGrow) (unblocked : HoldsInRuns serve_unblocked) where
  module _ (document : Document) (report : Report) (seen : Seen) (t : Traced) (server : Server) (calls : IsTrue (all_requests_right document)) (is : IsReported document report seen t server) (marked : IsTold document report seen t) where
    past : IsPastSchedule document report.notes report.served seen t
    past = past_schedule document is.run.place report.notes report.served seen t is.run.finishing

    abbrev coming : FromStart document (end_of (document.schedule ++ past.finish) report seen t)
    coming = from_start document (end_of (document.schedule ++ past.finish) report seen t) (document.schedule ++ past.finish) report.notes report.served seen t past.reached IsThere

    abbrev first : Point
    first = record { events = []; notes = []; items = []; seen = coming.seen; t = traced_start document }

    abbrev ends : Point
    ends = end_of (document.schedule ++ past.finish) report seen t

    comes : Comes (first_front document report) (front_told document.schedule [] [] (notes_left document ends first coming.leads)) 0
    comes event below = ap (λ (notes : List Note). reach event (record { place = place_told document.schedule [] []; notes = notes })) (notes_joined document ends first coming.leads)

    fits : FitsSchedule document.schedule (events_left document ends first coming.leads)
    fits = subst (FitsSchedule document.schedule) (events_joined document ends first coming.leads) (fits_schedule document.schedule past.finish past.none)

    tells : Tells document ends (parts document report) report.notes first coming.leads (first_front document report)
    tells =
        tells_all document ends calls counted grow unblocked (parts document report) report.notes (marked (document.schedule ++ past.finish)) first coming.leads coming.start
        (first_front document report) comes fits

    -- the items that are read off it are those of the history, as they are judged
    items_alike : bare_items (items_of document report) ≡ map bare_of seen.history
    items_alike =
        (λ i. bare_items (items_from (parts document report) report.notes (first_front document report) (in_order (items_joined document ends first coming.leads i) (moments_of_notes 1 (notes_joined document ends first coming.leads i)))))
        ∙ sym
        (tells.history
        ∙ ap
        (λ (history : List Happened). map bare_of history ++ bare_items (items_from (parts document report) report.notes (first_front document report) (in_order (items_left document ends first coming.leads) (moments_of_notes 1 (notes_left document ends first coming.leads)))))
        coming.empty)

    runs_fit : outsides_fit document.schedule report.notes ≡ true
    runs_fit = ap (outsides_fit document.schedule) (notes_joined document ends first coming.leads) ∙ tells.fits

    coupled : Coupled seen t
    coupled = reached_coupled document (document.schedule ++ past.finish) report.notes report.served seen t past.reached

    sound : IsSound (service_base document)
    sound = subst IsSound (finishing_start document is.run.place report.notes report.served seen t is.run.finishing) coupled.sound

    alike : bare_items (items_of document report) ≡ bare_items (items_of_history seen.history)
    alike = items_alike ∙ sym (history_alike 0 seen.history)

    pub legal_report : RunsLegal → legal_of document report ≡ true
    legal_report law =
        let base : Base = service_base document in
        and_from (outsides_fit document.schedule report.notes) (legal base (items_of document report) report.entries report.alerts) runs_fit
        (sym (legal_bare base (items_of document report) report.entries report.alerts)
        ∙ ap (λ (items : List Item). legal base items report.entries report.alerts) alike
        ∙ legal_bare base (items_of_history seen.history) report.entries report.alerts
        ∙ ap (λ (entries : List Entry). legal base (items_of_history seen.history) entries report.alerts) is.entries
        ∙ ap (legal base (items_of_history seen.history) server.core.entries) is.alerts
        ∙ law base seen.history server sound is.runs coupled.stops)

    pub fresh_report : RunsFreshNew → fresh_new_of document report ≡ true
    fresh_report law =
        let base : Base = service_base document in
        sym (fresh_bare base (items_of document report) report.entries)
        ∙ ap (λ (items : List Item). fresh_new base items report.entries) alike
        ∙ fresh_bare base (items_of_history seen.history) report.entries
        ∙ ap (fresh_new base (items_of_history seen.history)) is.entries
        ∙ law base seen.history server sound is.runs coupled.stops

  -- of each whole run
  pub legal_told : RunsLegal → ReportsTellMarked → RunsAreLegalTold
  legal_told law marked document report seen t server calls is = legal_report document report seen t server calls is (λ events. marked document report seen t server events calls is) law

  pub fresh_told : RunsFreshNew → ReportsTellMarked → RunsAreFreshNewTold
  fresh_told law marked document report seen t server calls is = fresh_report document report seen t server calls is (λ events. marked document report seen t server events calls is) law
