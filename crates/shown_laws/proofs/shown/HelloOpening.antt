-- What a request was shown before it acquired the session of a connection that it opened is what it
-- was shown before it opened this connection.
use Rattle.std.proofs.Common.{◌≡◌, refl, sym, ap, subst, ◌∙◌, append-nil, append_assoc, Bool, true, false, ℕ, List, [], ◌∷◌, ◌++◌, Option, Some, None, inl, inr, if◌then◌else◌}
use Rattle.std.specs.Prelude.{◌==◌, is_some}
use Rattle.std.specs.List.{list_any, cons_option}
use Rattle.std.proofs.lemmas.Bool.{or_left, or_right}
use Rattle.svc_values.specs.declared.entry.SessionId.{SessionId}
use Rattle.svc_values.specs.declared.frame.Down.{Down}
use Rattle.client_model.specs.meaning.Terms.{Phase}
use Rattle.client_model.specs.declared.input.Input.{Input}
use Rattle.client_model.specs.declared.input.Input.TheVariants.{Lent, Opened}
use Rattle.outage_schedule.specs.declared.document.Request.{Request}
use Rattle.outage_schedule.specs.declared.item.Item.{Item}
use Rattle.outage_schedule.specs.declared.note.GoNote.{GoNote}
use Rattle.shown_clauses.specs.meaning.Links.{is_connect}
use Rattle.shown_clauses.specs.meaning.Steps.{Step as StepTold}
use Rattle.world_model.specs.meaning.Clients.{Step, Doing}
use Rattle.world_model.specs.records.Conversing.{IsTalking, Talks}
use Rattle.invariant_laws.specs.Replayed.{shown_at, opens, before_opening}
use Rattle.world_model.specs.meaning.Settings.{Setting}
use Rattle.world_model.specs.Words.{brought, held_in}
use Rattle.shown_laws.specs.AcquiredTold.{is_on}
use Rattle.shown_laws.specs.ClientSteps.{TellsKind, Rested, FoundNone, Waited, WasLent, HasOpened, HasFailed, HasTaken, HasLost, now_at}
use Rattle.shown_laws.specs.Tellings.{Telling, Begins, WasThere, BeginsNow, TellsStep}
use Rattle.shown_laws.proofs.steps.BeforeSession.{talks_at}
use Rattle.shown_laws.proofs.shown.GreetedSince.{is_greeting, Since, greeted_since}
use Rattle.shown_laws.proofs.steps.HeldOnce.{HeldOnce, new_to, one_brings}
use Rattle.shown_laws.proofs.links.HeldTold.{Among}
use Rattle.shown_laws.proofs.events.Lookups.{eq_from, eq_to}
use Rattle.shown_laws.proofs.shown.ShownBefore.{AtStep, shown_silent}
use Rattle.shown_laws.proofs.steps.StepsAmong.{IsAmong, among_front, among_behind}
use Rattle.shown_laws.proofs.steps.TakenAs.{Taken, Greets, Answers, Repeats, Blocks, Tells, taken_as}

-- WHERE A CONNECTION IS OPENED --------------------------------------------------------------------

opens_it : (number : ℕ) (input : Input) → opens number input ≡ true → input ≡ Opened number
opens_it number (Opened connection) is = ap Opened (eq_from connection number is)
opens_it number _ is = absurd (let none : ⊥ = cc in none)

pub record AnOpening (number : ℕ) (steps : List Step) : Type 0 where
  pub step : Step
  pub among : IsAmong step steps
  pub opened : step.done.input ≡ Opened number

pub an_opening : (number : ℕ) (so_far steps before : List Step) → before_opening number so_far steps ≡ Some before → AnOpening number steps
an_opening number so_far [] before is = absurd (let none : ⊥ = cc in none)
an_opening number so_far (step ∷ steps) before is = by (opens number step.done.input) refl is (λ rest. an_opening number (so_far ++ step ∷ []) steps before rest)
  where
    by : (test : Bool) → opens number step.done.input ≡ test → (if test then Some so_far else before_opening number (so_far ++ step ∷ []) steps) ≡ Some before → (before_opening number (so_far ++ step ∷ []) steps ≡ Some before → AnOpening number steps) → AnOpening number (step ∷ steps)
    by true met found rest = record { step = step; among = inl refl; opened = opens_it number step.done.input met }
    by false met found rest = let later : AnOpening number steps = rest found in record { step = later.step; among = inr later.among; opened = later.opened }

-- it is found where more steps follow
pub opened_front : (number : ℕ) (so_far steps more before : List Step) → before_opening number so_far steps ≡ Some before → before_opening number so_far (steps ++ more) ≡ Some before
opened_front number so_far [] more before is = absurd (let none : ⊥ = cc in none)
opened_front number so_far (step ∷ steps) more before is = by (opens number step.done.input) is (λ rest. opened_front number (so_far ++ step ∷ []) steps more before rest)
  where
    by : (test : Bool) → (if test then Some so_far else before_opening number (so_far ++ step ∷ []) steps) ≡ Some before → (before_opening number (so_far ++ step ∷ []) steps ≡ Some before → before_opening number (so_far ++ step ∷ []) (steps ++ more) ≡ Some before)
        → (if test then Some so_far else before_opening number (so_far ++ step ∷ []) (steps ++ more)) ≡ Some before
    by true found rest = found
    by false found rest = rest found

first_held : (number : ℕ) (first : Step) (steps : List Step) → first.done.input ≡ Opened number → Among number (held_in (first ∷ steps))
first_held number first steps is =
    ap (λ (one : Option ℕ). list_any (λ other. other == number) (cons_option one (held_in steps))) (ap brought is) ∙ or_left (number == number) (list_any (λ other. other == number) (held_in steps)) (eq_to number number refl)

later_held : (number : ℕ) (first : Step) (steps : List Step) → Among number (held_in steps) → Among number (held_in (first ∷ steps))
later_held number first steps there = by (brought first.done.input)
  where
    by : (found : Option ℕ) → Among number (cons_option found (held_in steps))
    by None = there
    by (Some one) = or_right (one == number) (list_any (λ other. other == number) (held_in steps)) there

opening_is : (number : ℕ) (so_far before : List Step) (opening : Step) (later : List Step) → (Among number (held_in before) → ⊥) → opening.done.input ≡ Opened number → before_opening number so_far (before ++ opening ∷ later) ≡ Some (so_far ++ before)
opening_is number so_far [] opening later new is =
    ap (λ (input : Input). if opens number input then Some so_far else before_opening number (so_far ++ opening ∷ []) later) is
    ∙ (ap (λ (test : Bool). if test then Some so_far else before_opening number (so_far ++ opening ∷ []) later) (eq_to number number refl) ∙ ap Some (sym (append-nil so_far)))
opening_is number so_far (first ∷ before) opening later new is =
    by (opens number first.done.input) refl ∙ (opening_is number (so_far ++ first ∷ []) before opening later (λ there. new (later_held number first before there)) is ∙ ap Some (append_assoc so_far (first ∷ []) before))
  where
    by : (test : Bool) → opens number first.done.input ≡ test → (if test then Some so_far else before_opening number (so_far ++ first ∷ []) (before ++ opening ∷ later)) ≡ before_opening number (so_far ++ first ∷ []) (before ++ opening ∷ later)
    by true met = absurd (new (first_held number first before (opens_it number first.done.input met)))
    by false met = refl

-- THE STEP THAT ACQUIRED ITS SESSION --------------------------------------------------------------

-- one that takes a Hello awaited it
greets_phase : (session : SessionId) (commits : ℕ) (phase : Phase) (one : Item) (frame : Down) → Taken session commits phase one frame → is_connect one ≡ true → is_greeting phase ≡ true
greets_phase session commits _ _ _ (Greets lost) is = refl
greets_phase session commits _ _ _ (Answers state call answers draws) is = absurd (let none : ⊥ = cc in none)
greets_phase session commits _ _ _ (Repeats state call answers draws) is = absurd (let none : ⊥ = cc in none)
greets_phase session commits _ _ _ (Blocks phase call) is = absurd (let none : ⊥ = cc in none)
greets_phase session commits _ _ _ (Tells state x result same) is = absurd (let none : ⊥ = cc in none)

module _ (setting : Setting) (client place : ℕ) (request : Request) (tellings : List Telling) (steps : List Step) (step : StepTold) (at : AtStep setting client place request tellings steps step) (once : HeldOnce steps)
    (number : ℕ) (on : is_on number step.did ≡ true) (has : is_some step.session ≡ true) (before : List Step) (opened : before_opening number [] steps ≡ Some before) where
  abbrev tells : TellsStep setting client place request at.done at.one
  tells = at.tells

  on_it : is_on number at.one.step.did ≡ true
  on_it = ap (λ (s : StepTold). is_on number s.did) at.is ∙ on

  -- since it was opened
  by_opening : (since : Since at.done) → since.number ≡ number → shown_at setting.terms request at.done ≡ shown_at setting.terms request before
  by_opening since same =
      ap (shown_at setting.terms request) since.all
      ∙ (shown_silent setting.terms request since.before (since.opening ∷ since.later) since.silent ∙ ap (shown_at setting.terms request) both)
    where
      rest : List Step
      rest = at.one.acts ++ at.rest

      split : steps ≡ since.before ++ since.opening ∷ (since.later ++ rest)
      split = at.acts ∙ (ap (λ (l : List Step). l ++ rest) since.all ∙ append_assoc since.before (since.opening ∷ since.later) rest)

      is_opened : since.opening.done.input ≡ Opened number
      is_opened = since.opens ∙ ap Opened same

      first : before_opening number [] steps ≡ Some since.before
      first =
          ap (before_opening number []) split
          ∙ opening_is number [] since.before since.opening (since.later ++ rest) (new_to number since.before since.opening (since.later ++ rest) (subst HeldOnce split once) (ap brought is_opened)) is_opened

      both : since.before ≡ before
      both = let some : Some since.before ≡ Some before = sym first ∙ opened in cc

  talks_now : tells.own.now ≡ Some tells.doing → Talks tells.t.setting.terms false tells.doing
  talks_now now = subst (IsTalking tells.t.setting.terms) now (talks_at tells.t.setting.terms tells.t.machine.clients client tells.own tells.inv.orderly.script.talks tells.here).1

  greeted : (connection : ℕ) (done began : List Step) → Begins tells.t tells.own tells.doing done began → (connection == number) ≡ true → tells.doing.connection ≡ Some connection → is_greeting tells.doing.talk.phase ≡ true → (since : Since done) × (since.number ≡ number)
  greeted connection _ _ (WasThere now) same has_it greets =
      let talks : Talks tells.t.setting.terms false tells.doing = talks_now now in
      let since : Since tells.doing.steps = greeted_since tells.t.setting.terms false tells.doing talks greets in
      let some : Some since.number ≡ Some connection = sym since.has ∙ (talks.has ∙ has_it) in
      let its : since.number ≡ connection = cc in
      (since, its ∙ eq_from connection number same)
  greeted connection _ _ (BeginsNow first none next same) is_it has_it greets =
      let not : is_greeting tells.doing.talk.phase ≡ false = ap (λ (d : Doing). is_greeting d.talk.phase) same in
      absurd (let never : ⊥ = cc in never)

  -- it was not lent it
  never_lent : (connection : ℕ) (lent : Step) → IsAmong lent tells.acts → brought lent.done.input ≡ Some connection → (connection == number) ≡ true → (lent.done.input ≡ Opened number → ⊥) → ⊥
  never_lent connection lent among brings same not =
      let opening : AnOpening number steps = an_opening number [] steps before opened in
      let there : IsAmong lent steps =
      subst (IsAmong lent) (sym at.acts)
      (among_behind lent at.done (at.one.acts ++ at.rest) (among_front lent at.one.acts at.rest (subst (IsAmong lent) (sym tells.all) (among_behind lent tells.began tells.acts among)))) in
      let one : lent ≡ opening.step = one_brings number lent opening.step steps once there opening.among (brings ∙ ap Some (eq_from connection number same)) (ap brought opening.opened) in
      not (ap (λ (s : Step). s.done.input) one ∙ opening.opened)

  off : (did : GoNote) → at.one.step.did ≡ did → is_on number did ≡ false → ⊥
  off did is not = let no : is_on number at.one.step.did ≡ false = ap (is_on number) is ∙ not in let yes : is_on number at.one.step.did ≡ true = on_it in let none : ⊥ = cc in none

  by_kind : (one : StepTold) (acts : List Step) → one ≡ at.one.step → acts ≡ tells.acts → TellsKind tells.t client place tells.doing one acts → shown_at setting.terms request at.done ≡ shown_at setting.terms request before
  by_kind one _ same is (Rested did early bare) = absurd (off _ (ap (λ (s : StepTold). s.did) (sym same) ∙ did) refl)
  by_kind one _ same is (FoundNone did frame bare) = absurd (off _ (ap (λ (s : StepTold). s.did) (sym same) ∙ did) refl)
  by_kind one _ same is (Waited did begun bare) = absurd (off _ (ap (λ (s : StepTold). s.did) (sym same) ∙ did) refl)
  by_kind one _ same is (HasFailed did begun bare) = absurd (off _ (ap (λ (s : StepTold). s.did) (sym same) ∙ did) refl)
  by_kind one _ same is (HasOpened connection did new begun bare) = absurd (off _ (ap (λ (s : StepTold). s.did) (sym same) ∙ did) refl)
  by_kind one _ same is (HasLost connection link did has_it there ended bare) = absurd (off _ (ap (λ (s : StepTold). s.did) (sym same) ∙ did) refl)
  by_kind one _ same is (WasLent connection link ltxid did begun there held taken its session lost) =
      absurd (never_lent connection (now_at tells.t tells.doing (Lent connection ltxid)) (subst (IsAmong (now_at tells.t tells.doing (Lent connection ltxid))) is (inl refl)) refl
      (ap (is_on number) (sym (ap (λ (s : StepTold). s.did) (sym same) ∙ did)) ∙ on_it) (λ never. let none : ⊥ = cc in none))
  by_kind one _ same is (HasTaken connection sent link frame served more did sends has_it there taken reply session lost gone) =
      let mine = greeted connection at.done tells.began tells.begins (ap (is_on number) (sym (ap (λ (s : StepTold). s.did) (sym same) ∙ did)) ∙ on_it) has_it
      (greets_phase served.session reply.commits tells.doing.talk.phase served.item frame
      (taken_as served.session reply.commits tells.doing.talk.phase reply.one.sent reply.sent served.item frame reply.awaited reply.same reply.is_its reply.says)
      (hello (is_connect served.item) (ap is_some (sym session) ∙ (ap (λ (s : StepTold). is_some s.session) (same ∙ at.is) ∙ has)))) in
      by_opening mine.0 mine.1
    where
      hello : (test : Bool) → is_some (if test then Some served.session else None) ≡ true → test ≡ true
      hello true some = refl
      hello false some = some

  -- so it was shown as much
  pub shown_as_opened : shown_at setting.terms request at.done ≡ shown_at setting.terms request before
  shown_as_opened = by_kind at.one.step tells.acts refl refl tells.kind
