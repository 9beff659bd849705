-- Each step that is shown, whatever it tells.
use Rattle.std.proofs.Common.{◌≡◌, ◌≢◌, ℕ, ◌≤◌, ◌&&◌, ◌||◌, Bool, true, false, not, List, [], ◌∷◌, ◌++◌, Option, Some, None, refl, sym, ap, subst, ◌∙◌}
use Rattle.std.proofs.lemmas.List.{append-nil, append_assoc}
use Rattle.svc_values.specs.declared.answer.Answer.{Answer}
use Rattle.svc_values.specs.declared.frame.Down.{Down}
use Rattle.request_bounds.specs.meaning.Rules.{Rules}
use Rattle.outage_schedule.specs.declared.document.Request.{Request}
use Rattle.outage_schedule.specs.declared.document.ServiceOf.{ServiceOf}
use Rattle.outage_schedule.specs.declared.item.Served.{Served}
use Rattle.outage_schedule.specs.declared.note.GoNote.{GoNote}
use Rattle.outage_schedule.specs.declared.note.GoNote.TheVariants as go
use Rattle.outage_schedule.specs.declared.request.RequestReport.{RequestReport}
use Rattle.client_model.specs.declared.input.Input.{Input}
use Rattle.client_model.specs.declared.input.Input.TheVariants.{Start, Waiting, Lent, Opened, TryFailed, Took, Gone}
use Rattle.client_model.specs.meaning.Terms.{Terms, Talk}
use Rattle.client_model.specs.meaning.Talk.{loses, talk_step, wants_in}
use Rattle.client_model.specs.meaning.Conversation.{Timed}
use Rattle.client_model.specs.Conversation.{is_gone, is_gone_next, is_wanted, MayCome}
use Rattle.client_model.specs.meaning.Account.{Account, unheard, after_step}
use Rattle.client_model.specs.Reasons.{rules_of}
use Rattle.client_model.proofs.Offered.{Fits, IsTalk, first_talks, last_fits, last_talks}
use Rattle.run_clauses.specs.meaning.NoClash.{digest}
use Rattle.run_clauses.specs.meaning.Reports.{report_of}
use Rattle.shown_clauses.specs.meaning.Steps.{Step}
use Rattle.caused_laws.specs.ServiceTerms.{kind_of}
use Rattle.caused_laws.specs.Telling.{ToldStep, Before, first_talk, dones_of, talk_of, account_at, act_at, begun_with, LostBy, loss_behind, IsTaking, Has, TellsBy, Tells}
use Rattle.caused_laws.proofs.FactsKnown.{terms_by}
use Rattle.caused_laws.proofs.Frames.{taken_comes}
use Rattle.caused_laws.proofs.Inputs.{frame_wanted, taken_at, early_wanted, waiting_wanted, lent_wanted, opened_wanted, tried_wanted}
use Rattle.caused_laws.proofs.Losing.{is_connected, gone_stands, lost_on, lost_comes, no_frame_comes}
use Rattle.caused_laws.proofs.Reporting.{and_left, talk_next, account_next, answered_at, none_behind}
use Rattle.caused_laws.proofs.Slots.{made}
use Rattle.caused_laws.proofs.Standing.{SoFar, Stands, Comes, GoesOn, IsOver, ComesBy, is_over}

not_gone : (is_it due : Bool) → (is_it && (false || not due)) ≡ true → due ≡ false
not_gone true true e = absurd (let none : ⊥ = cc in none)
not_gone true false e = refl
not_gone false due e = absurd (let none : ⊥ = cc in none)

module _ (service : ServiceOf) (rules : Rules) (told : List Answer → List ℕ) (ruled : rules ≡ rules_of (kind_of service.failover service.consistency)) (digested : told ≡ digest) (request : Request) (copy : RequestReport) (some : request.calls ≢ []) (tried : 1 ≤ service.retries) where
  abbrev terms : Terms
  terms = terms_by service rules told

  -- Behind these inputs the request goes on, and the judge stands there.
  pub record Situation (inputs : List Timed) (due : Bool) (s : SoFar) : Type 0 where
    pub stands : Stands service rules told ruled request copy (account_at terms request inputs) (talk_of terms request inputs).phase due s
    pub may : MayCome terms (first_talk request) false inputs
    pub on : is_over service rules told ruled request copy (talk_of terms request inputs).phase ≡ false

  fits_at : (inputs : List Timed) → MayCome terms (first_talk request) false inputs → (g : Bool) × Fits terms request.calls (account_at terms request inputs) g (talk_of terms request inputs).phase
  fits_at inputs may = last_fits terms request.settings request.calls inputs unheard false (first_talk request) (λ e. first_talks terms request.settings request.calls) refl may

  talks_at : (inputs : List Timed) (due : Bool) (s : SoFar) → Situation inputs due s → IsTalk terms request.settings request.calls (account_at terms request inputs) (talk_of terms request inputs)
  talks_at inputs due s here = last_talks terms request.settings request.calls inputs unheard false (first_talk request) (λ e. first_talks terms request.settings request.calls) refl here.may here.on

  module _ (total : List Timed) (copied : copy ≡ report_of terms request (dones_of terms request total)) where
    -- what comes of a step that tells these inputs
    abbrev pub Result : List Timed → List Timed → List Timed → SoFar → Step → Type 0
    Result before inputs rest s step =
        (due : Bool)
        × Comes service rules told ruled request copy (account_at terms request (before ++ inputs)) (talk_of terms request (before ++ inputs)).phase due s step
        × MayCome terms (talk_of terms request (before ++ inputs)) due rest

    -- ONE INPUT
    one_result : (before : List Timed) (due : Bool) (input : Input) (rest : List Timed) (s : SoFar) (step : Step)
        → total ≡ before ++ (input, step.tick) ∷ rest → MayCome terms (talk_of terms request before) due ((input, step.tick) ∷ rest)
        → ComesBy service rules told ruled request copy (account_at terms request before) input s step (talk_step terms (talk_of terms request before) input step.tick)
        → Result before ((input, step.tick) ∷ []) rest s step
    one_result before due input rest s step whole may comes =
        let next = talk_step terms (talk_of terms request before) input step.tick in
        let after : Account = after_step terms request.calls (account_at terms request before) (record { input = input; now = step.tick; act = next.1 }) in
        let due_next : Bool = is_gone_next input next.1.hold in
        let same : talk_of terms request (before ++ (input, step.tick) ∷ []) ≡ next.0 = talk_next service rules told ruled request copy total copied before (input, step.tick) in
        let it : Comes service rules told ruled request copy after next.0.phase due_next s step =
        comes (answered_at service rules told ruled request copy total copied before (input, step.tick) rest whole (λ over. none_behind service rules told ruled request copy next.0 due_next rest may.1 over)) in (
          due_next,
          subst (λ (a : Account). Comes service rules told ruled request copy a (talk_of terms request (before ++ (input, step.tick) ∷ [])).phase due_next s step) (sym (account_next service rules told ruled request copy total copied before (input, step.tick)))
              (subst (λ (t : Talk). Comes service rules told ruled request copy after t.phase due_next s step) (sym same) it),
          subst (λ (t : Talk). MayCome terms t due_next rest) (sym same) may.1,
        )

    -- THE FIRST INPUT OF A STEP THAT ASKS FOR A SLOT OR TRIES
    begin_result : (before : List Timed) (due : Bool) (input : Input) (rest : List Timed) (s : SoFar) (step : Step) → Situation before due s
        → ((b : List Timed) (d : Bool) → Situation b d s → MayCome terms (talk_of terms request b) d ((input, step.tick) ∷ rest)
        → ComesBy service rules told ruled request copy (account_at terms request b) input s step (talk_step terms (talk_of terms request b) input step.tick))
        → total ≡ before ++ (begun_with before step.tick input ++ rest) → MayCome terms (talk_of terms request before) due (begun_with before step.tick input ++ rest)
        → Result before (begun_with before step.tick input) rest s step
    begin_result [] due input rest s step here comes whole may =
        one_result ((Start, step.tick) ∷ []) false input rest s step whole may.1
        (comes ((Start, step.tick) ∷ []) false
        (record {
          stands = record { knows = here.stands.knows; at = here.stands.at; last = λ still. tt };
          may = (refl, tt);
          on = refl;
        })
        may.1)
    begin_result (one ∷ before) due input rest s step here comes whole may = one_result (one ∷ before) due input rest s step whole may (comes (one ∷ before) due here may)

    -- A FRAME, AND THE LOSS BEHIND IT
    module _ (before : List Timed) (due : Bool) (rest : List Timed) (s : SoFar) (step : Step) (here : Situation before due s) (frame : Down) (alive : Bool) (event : ℕ)
        (comes : due ≡ false → is_connected (talk_of terms request before).phase ≡ true
        → ComesBy service rules told ruled request copy (account_at terms request before) (Took frame alive) s step (talk_step terms (talk_of terms request before) (Took frame alive) step.tick)) where
      abbrev taken : List Timed
      taken = before ++ (Took frame alive, step.tick) ∷ []

      wanted : (more : List Timed) → MayCome terms (talk_of terms request before) due ((Took frame alive, step.tick) ∷ more)
          → ComesBy service rules told ruled request copy (account_at terms request before) (Took frame alive) s step (talk_step terms (talk_of terms request before) (Took frame alive) step.tick)
      wanted more may =
          let talk : Talk = talk_of terms request before in
          comes (not_gone (is_wanted (wants_in terms talk talk.phase step.tick) (Took frame alive)) due may.0)
          (taken_at service rules told ruled request copy some tried s step (account_at terms request before) talk (Took frame alive) refl talk.phase
          (and_left (is_wanted (wants_in terms talk talk.phase step.tick) (Took frame alive)) (false || not due) may.0) refl)

      lost_result : Result before ((Took frame alive, step.tick) ∷ []) ((Gone event, step.tick) ∷ rest) s step → Result before ((Took frame alive, step.tick) ∷ (Gone event, step.tick) ∷ []) rest s step
      lost_result first = by first.1
        where
          talk : Talk
          talk = talk_of terms request taken

          by : Comes service rules told ruled request copy (account_at terms request taken) (talk_of terms request taken).phase first.0 s step → Result before ((Took frame alive, step.tick) ∷ (Gone event, step.tick) ∷ []) rest s step
          by (IsOver failed over ends right) = absurd (let empty : (Gone event, step.tick) ∷ rest ≡ [] = none_behind service rules told ruled request copy (talk_of terms request taken) first.0 ((Gone event, step.tick) ∷ rest) first.2 over in let none : ⊥ = cc in none)
          by (GoesOn facts course on goes adds stands) =
              let connected : is_connected (talk_of terms request taken).phase ≡ true =
              taken_at service rules told ruled request copy some tried s step (account_at terms request taken) (talk_of terms request taken) (Gone event) refl (talk_of terms request taken).phase
              (and_left (is_wanted (wants_in terms (talk_of terms request taken) (talk_of terms request taken).phase step.tick) (Gone event)) (true || not first.0) first.2.0) refl in
              let gone_talk : talk_of terms request (taken ++ (Gone event, step.tick) ∷ []) ≡ (talk_step terms (talk_of terms request taken) (Gone event) step.tick).0 = talk_next service rules told ruled request copy total copied taken (Gone event, step.tick) in
              let after : Account = after_step terms request.calls (account_at terms request taken) (record { input = Gone event; now = step.tick; act = (talk_step terms (talk_of terms request taken) (Gone event) step.tick).1 }) in
              let it : Comes service rules told ruled request copy after (loses (talk_of terms request taken).phase event) false s step =
              GoesOn facts course (lost_on service rules told ruled request copy (talk_of terms request taken).phase event connected) goes adds
              (gone_stands service rules told ruled request copy (account_at terms request taken) (talk_of terms request taken).phase first.0 _ event step.tick connected stands) in
              subst (λ (l : List Timed). (d : Bool) × Comes service rules told ruled request copy (account_at terms request l) (talk_of terms request l).phase d s step × MayCome terms (talk_of terms request l) d rest) (append_assoc before ((Took frame alive, step.tick) ∷ []) ((Gone event, step.tick) ∷ [])) (
                false,
                subst (λ (a : Account). Comes service rules told ruled request copy a (talk_of terms request (taken ++ (Gone event, step.tick) ∷ [])).phase false s step) (sym (account_next service rules told ruled request copy total copied taken (Gone event, step.tick)))
                    (subst (λ (t : Talk). Comes service rules told ruled request copy after t.phase false s step) (sym gone_talk) it),
                subst (λ (t : Talk). MayCome terms t false rest) (sym gone_talk) first.2.1,
              )

      taken_result : (gone : Bool) → total ≡ before ++ (((Took frame alive, step.tick) ∷ loss_behind gone event step.tick) ++ rest)
          → MayCome terms (talk_of terms request before) due (((Took frame alive, step.tick) ∷ loss_behind gone event step.tick) ++ rest)
          → Result before ((Took frame alive, step.tick) ∷ loss_behind gone event step.tick) rest s step
      taken_result false whole may = one_result before due (Took frame alive) rest s step whole may (wanted rest may)
      taken_result true whole may = lost_result (one_result before due (Took frame alive) ((Gone event, step.tick) ∷ rest) s step whole may (wanted ((Gone event, step.tick) ∷ rest) may))

    -- EACH NOTE
    module _ (before : Before) (one : ToldStep) (rest : List Timed) (due : Bool) (s : SoFar) (steps_are : s.steps ≡ before.steps) (here : Situation before.inputs due s)
        (whole : total ≡ before.inputs ++ (one.inputs ++ rest)) (may : MayCome terms (talk_of terms request before.inputs) due (one.inputs ++ rest)) where
      abbrev a : Account
      a = account_at terms request before.inputs

      abbrev talk : Talk
      talk = talk_of terms request before.inputs

      abbrev Whole : List Timed → Step → Type 0
      Whole inputs step = total ≡ before.inputs ++ (inputs ++ rest) → MayCome terms talk due (inputs ++ rest) → Result before.inputs inputs rest s step

      -- a step is known by its note and by what it took
      made_is : (did : GoNote) (taken : Option Served) → one.step.did ≡ did → one.step.taken ≡ taken → made one.step did taken ≡ one.step
      made_is did taken is takes = ap (λ (d : GoNote). record one.step { did = d; taken = taken }) (sym is) ∙ ap (λ (t : Option Served). record one.step { taken = t }) (sym takes)

      by_inputs : (did : GoNote) (inputs : List Timed) → one.step.did ≡ did → Has one inputs → Whole inputs (made one.step did None) → Result before.inputs one.inputs rest s one.step
      by_inputs did inputs is has result =
          subst (λ (step : Step). Result before.inputs one.inputs rest s step) (made_is did None is has.takes_none)
          (subst (λ (l : List Timed). Whole l (made one.step did None)) (sym has.inputs_are) result whole may)

      no_inputs : (step : Step) → Comes service rules told ruled request copy a talk.phase due s step → Whole [] step
      no_inputs step comes w m =
          subst (λ (l : List Timed). (d : Bool) × Comes service rules told ruled request copy (account_at terms request l) (talk_of terms request l).phase d s step × MayCome terms (talk_of terms request l) d rest) (sym (append-nil before.inputs))
          (due, comes, m)

      -- what a slot or a try is asked with
      asks : (input : Input) (step : Step) → ((b : List Timed) (d : Bool) → Situation b d s → is_wanted (wants_in terms (talk_of terms request b) (talk_of terms request b).phase step.tick) input ≡ true
          → ComesBy service rules told ruled request copy (account_at terms request b) input s step (talk_step terms (talk_of terms request b) input step.tick))
          → Whole (begun_with before.inputs step.tick input) step
      asks input step comes w m =
          begin_result before.inputs due input rest s step here
          (λ b d situation wanted_so. comes b d situation (and_left (is_wanted (wants_in terms (talk_of terms request b) (talk_of terms request b).phase step.tick) input) (is_gone input || not d) wanted_so.0)) w m

      takes : (connection sent : ℕ) (k : IsTaking terms request before one sent) → due ≡ false → is_connected talk.phase ≡ true
          → ComesBy service rules told ruled request copy a (Took k.frame k.alive) s (made one.step (go.Took connection sent) (Some k.served)) (talk_step terms talk (Took k.frame k.alive) one.step.tick)
      takes connection sent k open_so connected =
          let fits : (g : Bool) × Fits terms request.calls a g talk.phase = fits_at before.inputs here.may in
          taken_comes service rules told ruled digested request copy some s one.step connection sent k.served a talk k.alive (talks_at before.inputs due s here)
          fits.0 talk.phase k.served.item k.replies.0 k.frame connected refl fits.1
          (subst (λ (d : Bool). Stands service rules told ruled request copy a talk.phase d s) open_so here.stands)
          k.replies.1 k.answers k.expected
          (subst (λ (l : List Step). LostBy a l one.step.lost k.served.item) (sym steps_are) k.lost)
          k.sends

      told_by : (did : GoNote) → one.step.did ≡ did → TellsBy terms request before one did → Result before.inputs one.inputs rest s one.step
      told_by go.Idle is tells = absurd tells
      told_by go.Wait is tells = by_inputs go.Wait (begun_with before.inputs one.step.tick Waiting) is tells
          (asks Waiting (made one.step go.Wait None) (λ b d situation w.
          let fits : (g : Bool) × Fits terms request.calls (account_at terms request b) g (talk_of terms request b).phase = fits_at b situation.may in
          waiting_wanted service rules told ruled request copy some tried s one.step (account_at terms request b) (talk_of terms request b) d situation.stands fits.0 fits.1 (talks_at b d s situation) w))
      told_by go.Down is tells = by_inputs go.Down (begun_with before.inputs one.step.tick TryFailed) is tells
          (asks TryFailed (made one.step go.Down None) (λ b d situation w.
          let fits : (g : Bool) × Fits terms request.calls (account_at terms request b) g (talk_of terms request b).phase = fits_at b situation.may in
          tried_wanted service rules told ruled request copy some tried s one.step (account_at terms request b) (talk_of terms request b) d situation.stands fits.0 fits.1 (talks_at b d s situation) w))
      told_by (go.Open connection) is tells = by_inputs (go.Open connection) (begun_with before.inputs one.step.tick (Opened connection)) is tells
          (asks (Opened connection) (made one.step (go.Open connection) None) (λ b d situation w.
          let fits : (g : Bool) × Fits terms request.calls (account_at terms request b) g (talk_of terms request b).phase = fits_at b situation.may in
          opened_wanted service rules told ruled request copy some tried s one.step (account_at terms request b) (talk_of terms request b) d situation.stands fits.0 fits.1 (talks_at b d s situation) connection w))
      told_by (go.Lent connection) is tells = by_inputs (go.Lent connection) (begun_with before.inputs one.step.tick (Lent connection tells.0)) is tells.1
          (asks (Lent connection tells.0) (made one.step (go.Lent connection) None) (λ b d situation w.
          let fits : (g : Bool) × Fits terms request.calls (account_at terms request b) g (talk_of terms request b).phase = fits_at b situation.may in
          lent_wanted service rules told ruled request copy some tried s one.step (account_at terms request b) (talk_of terms request b) d situation.stands fits.0 fits.1 (talks_at b d s situation) connection tells.0 w))
      told_by go.NoFrame is tells = by_inputs go.NoFrame [] is tells.0
          (no_inputs (made one.step go.NoFrame None)
          (no_frame_comes service rules told ruled request copy a s one.step talk.phase due (frame_wanted service rules told ruled request copy some tried s one.step a talk tells.1) here.stands))
      told_by go.Early is tells = by_inputs go.Early [] is tells.0
          (no_inputs (made one.step go.Early None) (early_wanted service rules told ruled request copy some tried s one.step a talk due tells.1 here.stands))
      told_by (go.Lost connection) is tells = by_inputs (go.Lost connection) ((Gone tells.0, one.step.tick) ∷ []) is tells.1
          (λ w m. one_result before.inputs due (Gone tells.0) rest s (made one.step (go.Lost connection) None) w m
          (λ answered. lost_comes service rules told ruled request copy a s one.step connection talk.phase due tells.0
          (taken_at service rules told ruled request copy some tried s one.step a talk (Gone tells.0) refl talk.phase (and_left (is_wanted (wants_in terms talk talk.phase one.step.tick) (Gone tells.0)) (true || not due) m.0) refl) here.stands))
      told_by (go.Took connection sent) is k =
          let step : Step = made one.step (go.Took connection sent) (Some k.served) in
          subst (λ (t : Step). Result before.inputs one.inputs rest s t) (made_is (go.Took connection sent) (Some k.served) is k.is_served)
          (subst (λ (l : List Timed). Whole l step) (sym k.inputs_are)
          (taken_result before.inputs due rest s step here k.frame k.alive k.event (takes connection sent k) (is_gone_next (Took k.frame k.alive) (act_at terms request before.inputs (Took k.frame k.alive, one.step.tick)).hold)) whole may)

      -- a step that is shown leads on, or to the end
      pub told_result : Tells terms request before one → Result before.inputs one.inputs rest s one.step
      told_result tells = told_by one.step.did refl tells
