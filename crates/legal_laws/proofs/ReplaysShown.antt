-- The request that sent a call with the mark is told by its part, which was shown before its
-- session was acquired what the request was shown before it opened the connection.
use Rattle.std.proofs.Common.{◌≡◌, refl, sym, ap, subst, ◌∙◌, append_assoc, append-nil, Bool, true, false, ℕ, length, List, [], ◌∷◌, ◌++◌, Some, if◌then◌else◌}
use Rattle.std.specs.Prelude.{IsTrue}
use Rattle.std.proofs.lemmas.Bool.{or_left}
use Rattle.std.proofs.lemmas.List.Folds.{list_any-append}
use Rattle.svc_values.specs.declared.draw.Draw.{Draw}
use Rattle.outage_schedule.specs.declared.document.Document.{Document}
use Rattle.outage_schedule.specs.declared.event.Event.{Event}
use Rattle.outage_schedule.specs.declared.item.Served.{Served}
use Rattle.outage_schedule.specs.declared.report.Report.{Report}
use Rattle.outage_schedule.specs.declared.request.RequestReport.{RequestReport}
use Rattle.server_model.specs.Runs.{Server}
use Rattle.server_model.specs.Seen.{Seen}
use Rattle.shown_clauses.specs.meaning.Fronts.{first_of}
use Rattle.shown_clauses.specs.meaning.KeptDraws.{parts, parts_if, is_step_of}
use Rattle.shown_clauses.specs.meaning.Steps.{Step as StepTold}
use Rattle.world_model.specs.meaning.Clients.{Step}
use Rattle.invariant_laws.specs.KeptLaws.{RunsKeepInvariant, FinishesKeepInvariant}
use Rattle.world_model.specs.records.Ready.{all_requests_right}
use Rattle.invariant_laws.specs.Replayed.{shown_at, opens, before_opening, IsRepeat, RunsRepeatInOrder}
use Rattle.world_model.specs.Reported.{IsReported}
use Rattle.invariant_laws.specs.Shown.{is_marked}
use Rattle.world_model.specs.meaning.Settings.{Setting}
use Rattle.world_model.specs.Traced.{Traced, Course}
use Rattle.shown_laws.specs.Growth.{RunsGrow}
use Rattle.shown_laws.specs.RequestsGrow.{GoesOnAs, RequestsGrow}
use Rattle.shown_laws.specs.Telling.{steps_told}
use Rattle.shown_laws.specs.Tellings.{FinishesTellSteps}
use Rattle.shown_laws.specs.TurnOwners.{has_step_at, meets_at}
use Rattle.shown_laws.proofs.Offered.{HeardBy, turn_heard, still_heard, has_did, IsCourseOf, course_is, opened_front, ShownMore, shown_more, TellsAcquirer, acquirer_told}
use Rattle.legal_laws.specs.MarksTold.{ServesMarked, end_of}
use Rattle.legal_laws.specs.Points.{Point, IsPoint, next_point, LeadsTo, IsThere, Onward}
use Rattle.legal_laws.specs.ReplaysTold.{IsPlaced, TellsShown, ReportsShowReplays}
use Rattle.legal_laws.proofs.ReplaysLead.{leads_on, marked_there}

-- STEPS -------------------------------------------------------------------------------------------

-- the steps before an opening stand first
record Before (before steps : List Step) : Type 0 where
  rest : List Step
  all : steps ≡ before ++ rest

stand_before : (number : ℕ) (so_far steps before : List Step) → before_opening number so_far steps ≡ Some before → Before before (so_far ++ steps)
stand_before number so_far [] before is = absurd (let no : ⊥ = cc in no)
stand_before number so_far (step ∷ steps) before is = by (opens number step.done.input) is (λ later. stand_before number (so_far ++ step ∷ []) steps before later)
  where
    by : (test : Bool) → (if test then Some so_far else before_opening number (so_far ++ step ∷ []) steps) ≡ Some before
        → (before_opening number (so_far ++ step ∷ []) steps ≡ Some before → Before before ((so_far ++ step ∷ []) ++ steps)) → Before before (so_far ++ step ∷ steps)
    by true found later = let same : so_far ≡ before = cc in record { rest = step ∷ steps; all = ap (λ (front : List Step). front ++ step ∷ steps) same }
    by false found later = let one : Before before ((so_far ++ step ∷ []) ++ steps) = later found in record { rest = one.rest; all = sym (append_assoc so_far (step ∷ []) steps) ∙ one.all }

-- WHAT STAYS --------------------------------------------------------------------------------------

module _ (document : Document) (last : Point) where
  -- the setting, and the steps that were told
  same_setting : (p : Point) → LeadsTo document last p → last.t.setting ≡ p.t.setting
  same_setting _ IsThere = refl
  same_setting _ (Onward p event note more after new one point leads) = same_setting (next_point p event note more after new) leads ∙ one.setting

  record StepsMore (p : Point) : Type 0 where
    more : List StepTold
    all : steps_told last.notes last.items ≡ steps_told p.notes p.items ++ more

  steps_more : RunsGrow → (p : Point) → LeadsTo document last p → IsPoint document p → StepsMore p
  steps_more grow _ IsThere here = record { more = []; all = sym (append-nil (steps_told last.notes last.items)) }
  steps_more grow _ (Onward p event note more after new one point leads) here =
      let later : StepsMore (next_point p event note more after new) = steps_more grow (next_point p event note more after new) leads point in
      let now = (grow document p.events p.notes p.items more p.seen after p.t new event note here one).steps in
      record { more = _ ++ later.more; all = later.all ∙ (ap (λ (steps : List StepTold). steps ++ later.more) now ∙ append_assoc (steps_told p.notes p.items) _ later.more) }

-- A REPORT ----------------------------------------------------------------------------------------

module _ (keeps : RunsKeepInvariant) (stands : FinishesKeepInvariant) (repeats : RunsRepeatInOrder) (grow : RunsGrow) (requests : RequestsGrow) (tell : FinishesTellSteps) (document : Document) (report : Report) (seen : Seen) (t : Traced) (server : Server) (events : List Event)
    (right : IsTrue (all_requests_right document)) (reported : IsReported document report seen t server) where
  abbrev last : Point
  last = end_of events report seen t

  module _ (p : Point) (served : Served) (kept : List Draw) (here : IsPoint document p) (serves : ServesMarked document last p served kept) (placed : IsPlaced p served serves.number serves.front.first) where
    abbrev course : Course
    course = placed.by.course

    leads : LeadsTo document last p
    leads = Onward p serves.event serves.note (served ∷ []) serves.after serves.new serves.happens serves.point serves.leads

    was : IsCourseOf p.t course
    was = course_is p.t (keeps document p.events p.notes p.items p.seen p.t right here) placed.by.place course placed.by.at

    later : GoesOnAs t.machine.clients course.owner (record { request = course.request; steps = course.steps })
    later = leads_on document last right requests p leads here course.owner (record { request = course.request; steps = course.steps }) was.request

    repeat : IsRepeat p.t.setting.terms course serves.number placed.by.front placed.by.sent
    repeat =
        repeats document p.events p.notes p.items p.seen p.t right here placed.by.place course placed.by.at serves.number placed.by.link placed.by.there placed.by.held placed.by.front placed.by.sent placed.by.rest placed.by.among placed.by.owned
        (ap is_marked (placed.by.same ∙ serves.brings))

    before : Before repeat.before course.steps
    before = stand_before serves.number [] course.steps repeat.before repeat.opened

    did : has_step_at placed.acquirer.acquired.event (course.steps ++ later.more) ≡ true
    did =
        list_any-append (meets_at placed.acquirer.acquired.event) course.steps later.more
        ∙ or_left (has_step_at placed.acquirer.acquired.event course.steps) (has_step_at placed.acquirer.acquired.event later.more)
        (has_did p.t.machine.clients course.owner (record { request = course.request; steps = course.steps }) placed.acquirer.acquired was.request placed.acquirer.did)

    heard : HeardBy serves.number placed.acquirer.acquired (steps_told report.notes report.served)
    heard =
        let one : HeardBy serves.number placed.acquirer.acquired (steps_told p.notes p.items) =
        turn_heard p.notes p.items serves.number placed.place.one placed.place.turn placed.acquirer.acquired placed.told placed.place.has placed.acquirer.acquires in
        let more : StepsMore document last p = steps_more document last grow p leads here in
        subst (HeardBy serves.number placed.acquirer.acquired) (sym more.all) (still_heard serves.number placed.acquirer.acquired (steps_told p.notes p.items) more.more one)

    told : TellsAcquirer document report t.setting.terms placed.acquirer.acquired (record { request = course.request; steps = course.steps ++ later.more }) repeat.before
    told =
        acquirer_told stands tell document report seen t server right reported course.owner (record { request = course.request; steps = course.steps ++ later.more }) later.is serves.number placed.acquirer.acquired placed.acquirer.did.whose did heard repeat.before
        (opened_front serves.number [] course.steps later.more repeat.before repeat.opened)

    same : t.setting ≡ p.t.setting
    same = same_setting document last p leads

    so_far : ShownMore p.t.setting.terms course.request repeat.before before.rest
    so_far = shown_more p.t.setting.terms course.request repeat.before before.rest

    in_all : ShownMore p.t.setting.terms course.request repeat.before (before.rest ++ later.more)
    in_all = shown_more p.t.setting.terms course.request repeat.before (before.rest ++ later.more)

    pub is_shown : TellsShown (parts document report) p serves.number course placed.place.turn
    is_shown = record {
      acquired = placed.acquirer.acquired;
      acquires = placed.acquirer.acquires;
      part = told.part;
      its = ap (λ (marked : Bool). first_of (is_step_of placed.acquirer.acquired.event) (parts_if marked document report)) (marked_there document last p served kept serves) ∙ told.its;
      before = repeat.before;
      opened = repeat.opened;
      shown = told.shown ∙ ap (λ (setting : Setting). length (shown_at setting.terms course.request repeat.before)) same;
      more = so_far.later;
      so_far = ap (λ (copy : RequestReport). copy.calls) (sym was.report) ∙ (ap (shown_at p.t.setting.terms course.request) before.all ∙ so_far.is);
      later = in_all.later;
      report =
          told.all
          ∙ (ap (λ (setting : Setting). shown_at setting.terms course.request (course.steps ++ later.more)) same
          ∙ (ap (shown_at p.t.setting.terms course.request) (ap (λ (steps : List Step). steps ++ later.more) before.all ∙ append_assoc repeat.before before.rest later.more) ∙ in_all.is));
    }

pub replays_shown : RunsKeepInvariant → FinishesKeepInvariant → RunsRepeatInOrder → RunsGrow → RequestsGrow → FinishesTellSteps → ReportsShowReplays
replays_shown keeps stands repeats grow requests tell document report seen t server events right reported p served kept here serves placed = is_shown keeps stands repeats grow requests tell document report seen t server events right reported p served kept here serves placed
