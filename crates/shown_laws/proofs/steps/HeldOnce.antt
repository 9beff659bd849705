-- A request holds each connection once: it is lent one before all others, and each that it opens is
-- new.
use Rattle.std.proofs.Common.{◌≡◌, refl, sym, ap, subst, ◌∙◌, append-nil, Bool, true, false, ℕ, zero, suc, ◌+◌, ◌&&◌, ◌||◌, length, List, [], ◌∷◌, ◌++◌, Option, Some, None, ◌⊎◌, inl, inr, if◌then◌else◌, arith}
use Rattle.std.specs.Prelude.{◌==◌, not}
use Rattle.std.specs.List.{list_all, list_any, cons_option}
use Rattle.std.specs.Option.{option_map_or}
use Rattle.std.proofs.lemmas.Bool.{and_parts, and_from, or_cases, or_left, or_right}
use Rattle.std.proofs.lemmas.List.{map-append}
use Rattle.std.proofs.lemmas.List.Elements.{filter_map-append}
use Rattle.svc_values.specs.declared.entry.Ltxid.{Ltxid}
use Rattle.client_model.specs.meaning.Conversation.{Timed, talk_at, done_at}
use Rattle.client_model.specs.Conversation.{talk_after, is_gone, is_gone_next, is_wanted, MayCome}
use Rattle.client_model.specs.meaning.Talk.{wants_in, wants_of}
use Rattle.client_model.specs.meaning.Terms.{Terms, Talk, Phase, Unbegun, Queued, Seeking}
use Rattle.client_model.specs.declared.input.Input.TheVariants.{Lent}
use Rattle.client_model.specs.declared.input.Wants.TheVariants as wants
use Rattle.outage_schedule.specs.declared.document.Request.{Request}
use Rattle.request_bounds.specs.meaning.Limits.{has_waited}
use Rattle.world_model.specs.meaning.Clients.{Step, Doing, Client, client_at}
use Rattle.world_model.specs.records.Conversing.{timed, inputs_of, first_talk, IsTalking, Talks}
use Rattle.invariant_laws.specs.Invariant.{Invariant}
use Rattle.world_model.specs.meaning.Links.{Link, link_at}
use Rattle.world_model.specs.Parts.{implies}
use Rattle.world_model.specs.records.Ready.{is_ready, is_ready_client, is_waiting, is_unbegun, records_rightly, has_calls}
use Rattle.world_model.specs.Sames.{all_with, each_pair}
use Rattle.world_model.specs.records.Script.{are_sent}
use Rattle.world_model.specs.meaning.Settings.{Setting}
use Rattle.world_model.specs.Traced.{Traced, courses_of}
use Rattle.world_model.specs.Words.{brought, held_in}
use Rattle.shown_clauses.specs.meaning.Steps.{Step as StepTold}
use Rattle.shown_laws.specs.ClientSteps.{TellsKind, Rested, FoundNone, Waited, WasLent, HasOpened, HasFailed, HasTaken, HasLost, now_at}
use Rattle.shown_laws.specs.Tellings.{Telling, Begins, WasThere, BeginsNow, TellsStep, TellsRequest, NoneYet, OneMore}
use Rattle.shown_laws.proofs.steps.BeforeSession.{talks_at}
use Rattle.shown_laws.proofs.events.CourseNow.{course_holds}
use Rattle.shown_laws.proofs.links.HeldTold.{Among, all_among, gone_held, began_held}
use Rattle.shown_laws.proofs.events.Lookups.{eq_from, eq_to, ne_to, none_new}
use Rattle.shown_laws.proofs.events.Places.{all_at}
use Rattle.shown_laws.proofs.steps.StepsAmong.{IsAmong}

-- NUMBERS -----------------------------------------------------------------------------------------

abbrev differs : ℕ → ℕ → Bool
differs a b = not (a == b)

abbrev pub HeldOnce : List Step → Type 0
HeldOnce steps = each_pair differs (held_in steps) ≡ true

all_with_more : (test : ℕ → Bool) (numbers : List ℕ) (number : ℕ) → all_with test numbers ≡ true → test number ≡ true → all_with test (numbers ++ number ∷ []) ≡ true
all_with_more test [] number all is = and_from (test number) true is refl
all_with_more test (one ∷ numbers) number all is =
    let parts = and_parts (test one) (all_with test numbers) all in
    and_from (test one) (all_with test (numbers ++ number ∷ [])) parts.0 (all_with_more test numbers number parts.1 is)

pairs_more : (numbers : List ℕ) (number : ℕ) → each_pair differs numbers ≡ true → (Among number numbers → ⊥) → each_pair differs (numbers ++ number ∷ []) ≡ true
pairs_more [] number all new = refl
pairs_more (one ∷ numbers) number all new =
    let parts = and_parts (all_with (differs one) numbers) (each_pair differs numbers) all in
    and_from (all_with (differs one) (numbers ++ number ∷ [])) (each_pair differs (numbers ++ number ∷ []))
    (all_with_more (differs one) numbers number parts.0 (ap not (ne_to one number (λ same. new (or_left (one == number) (list_any (λ other. other == number) numbers) (eq_to one number same))))))
    (pairs_more numbers number parts.1 (λ there. new (or_right (one == number) (list_any (λ other. other == number) numbers) there)))

-- one that differs from all of these is not among them
apart_from : (one number : ℕ) (numbers : List ℕ) → all_with (differs one) numbers ≡ true → Among number numbers → one ≡ number → ⊥
apart_from one number [] all there same = let none : ⊥ = cc in none
apart_from one number (first ∷ numbers) all there same = by (or_cases (first == number) (list_any (λ other. other == number) numbers) there) (λ later. apart_from one number numbers parts.1 later same)
  where
    parts : (differs one first ≡ true) × (all_with (differs one) numbers ≡ true)
    parts = and_parts (differs one first) (all_with (differs one) numbers) all

    by : ((first == number) ≡ true) ⊎ (list_any (λ other. other == number) numbers ≡ true) → (list_any (λ other. other == number) numbers ≡ true → ⊥) → ⊥
    by (inl here) rest =
        let equal : (one == first) ≡ true = eq_to one first (same ∙ sym (eq_from first number here)) in
        let no : not (one == first) ≡ true = parts.0 in
        let none : ⊥ = cc in
        none
    by (inr later) rest = rest later

-- of the connections that steps brought, one that a step brought is not among those of the steps
-- before it
held_here : (number : ℕ) (step : Step) (steps : List Step) → brought step.done.input ≡ Some number → held_in (step ∷ steps) ≡ number ∷ held_in steps
held_here number step steps is = ap (λ (one : Option ℕ). cons_option one (held_in steps)) is

later_among : (number : ℕ) (step : Step) (before later : List Step) → brought step.done.input ≡ Some number → Among number (held_in (before ++ step ∷ later))
later_among number step [] later is = ap (list_any (λ other. other == number)) (held_here number step later is) ∙ or_left (number == number) (list_any (λ other. other == number) (held_in later)) (eq_to number number refl)
later_among number step (first ∷ before) later is = by (brought first.done.input) (later_among number step before later is)
  where
    by : (found : Option ℕ) → Among number (held_in (before ++ step ∷ later)) → Among number (cons_option found (held_in (before ++ step ∷ later)))
    by None there = there
    by (Some one) there = or_right (one == number) (list_any (λ other. other == number) (held_in (before ++ step ∷ later))) there

once_later : (found : Option ℕ) (numbers : List ℕ) → each_pair differs (cons_option found numbers) ≡ true → each_pair differs numbers ≡ true
once_later None numbers once = once
once_later (Some one) numbers once = (and_parts (all_with (differs one) numbers) (each_pair differs numbers) once).1

pub new_to : (number : ℕ) (before : List Step) (step : Step) (later : List Step) → HeldOnce (before ++ step ∷ later) → brought step.done.input ≡ Some number → Among number (held_in before) → ⊥
new_to number [] step later once is there = let none : ⊥ = cc in none
new_to number (first ∷ before) step later once is among = by (brought first.done.input) refl (λ there. new_to number before step later (once_later (brought first.done.input) (held_in (before ++ step ∷ later)) once) is there) among
  where
    by : (found : Option ℕ) → brought first.done.input ≡ found → (Among number (held_in before) → ⊥) → Among number (cons_option found (held_in before)) → ⊥
    by None found rest there = rest there
    by (Some one) found rest there = at (or_cases (one == number) (list_any (λ other. other == number) (held_in before)) there)
      where
        pairs : each_pair differs (one ∷ held_in (before ++ step ∷ later)) ≡ true
        pairs = ap (λ (o : Option ℕ). each_pair differs (cons_option o (held_in (before ++ step ∷ later)))) (sym found) ∙ once

        at : ((one == number) ≡ true) ⊎ (Among number (held_in before)) → ⊥
        at (inl here) = apart_from one number (held_in (before ++ step ∷ later)) (and_parts (all_with (differs one) (held_in (before ++ step ∷ later))) (each_pair differs (held_in (before ++ step ∷ later))) pairs).0 (later_among number step before later is) (eq_from one number here)
        at (inr later_there) = rest later_there

-- one step brings it
brought_among : (number : ℕ) (step : Step) (steps : List Step) → IsAmong step steps → brought step.done.input ≡ Some number → Among number (held_in steps)
brought_among number step [] is brings = absurd is
brought_among number step (first ∷ steps) (inl here) brings =
    ap (list_any (λ other. other == number)) (held_here number first steps (ap (λ (s : Step). brought s.done.input) here ∙ brings)) ∙ or_left (number == number) (list_any (λ other. other == number) (held_in steps)) (eq_to number number refl)
brought_among number step (first ∷ steps) (inr there) brings = by (brought first.done.input) (brought_among number step steps there brings)
  where
    by : (found : Option ℕ) → Among number (held_in steps) → Among number (cons_option found (held_in steps))
    by None there = there
    by (Some one) there = or_right (one == number) (list_any (λ other. other == number) (held_in steps)) there

first_alone : (number : ℕ) (first : Step) (steps : List Step) → HeldOnce (first ∷ steps) → brought first.done.input ≡ Some number → Among number (held_in steps) → ⊥
first_alone number first steps once brings there =
    apart_from number number (held_in steps) (and_parts (all_with (differs number) (held_in steps)) (each_pair differs (held_in steps)) (ap (each_pair differs) (sym (held_here number first steps brings)) ∙ once)).0 there refl

pub one_brings : (number : ℕ) (one other : Step) (steps : List Step) → HeldOnce steps → IsAmong one steps → IsAmong other steps → brought one.done.input ≡ Some number → brought other.done.input ≡ Some number → one ≡ other
one_brings number one other [] once is also brings too = absurd is
one_brings number one other (first ∷ steps) once (inl here) (inl there) brings too = sym here ∙ there
one_brings number one other (first ∷ steps) once (inl here) (inr there) brings too =
    absurd (first_alone number first steps once (ap (λ (s : Step). brought s.done.input) here ∙ brings) (brought_among number other steps there too))
one_brings number one other (first ∷ steps) once (inr there) (inl here) brings too =
    absurd (first_alone number first steps once (ap (λ (s : Step). brought s.done.input) here ∙ too) (brought_among number one steps there brings))
one_brings number one other (first ∷ steps) once (inr there) (inr behind) brings too = one_brings number one other steps (once_later (brought first.done.input) (held_in steps) once) there behind brings too

-- WHERE IT IS LENT ONE ----------------------------------------------------------------------------

may_front : (terms : Terms) (talk : Talk) (due : Bool) (inputs more : List Timed) → MayCome terms talk due (inputs ++ more) → MayCome terms talk due inputs
may_front terms talk due [] more may = tt
may_front terms talk due (one ∷ inputs) more may = (may.0, may_front terms (talk_at terms talk one) (is_gone_next one.0 (done_at terms talk one).act.hold) inputs more may.1)

may_at : (terms : Terms) (talk : Talk) (due : Bool) (inputs : List Timed) (one : Timed) (more : List Timed) → MayCome terms talk due (inputs ++ one ∷ more) → is_wanted (wants_of terms (talk_after terms talk inputs) one.1) one.0 ≡ true
may_at terms talk due [] one more may = (and_parts (is_wanted (wants_of terms talk one.1) one.0) (is_gone one.0 || not due) may.0).0
may_at terms talk due (first ∷ inputs) one more may = may_at terms (talk_at terms talk first) (is_gone_next first.0 (done_at terms talk first).act.hold) inputs one more may.1

lent_waits : (terms : Terms) (talk : Talk) (phase : Phase) (now connection : ℕ) (ltxid : Ltxid) → is_wanted (wants_in terms talk phase now) (Lent connection ltxid) ≡ true → is_waiting phase ≡ true
lent_waits terms talk (Queued from) now connection ltxid is = refl
lent_waits terms talk (Seeking lost) now connection ltxid is = by (has_waited talk.last_try now terms.limits.delay) is
  where
    by : (test : Bool) → is_wanted (if test then wants.Try else wants.Early) (Lent connection ltxid) ≡ true → false ≡ true
    by true never = never
    by false never = never
lent_waits terms talk Unbegun now connection ltxid is = refl
lent_waits terms talk _ now connection ltxid is = absurd (let none : ⊥ = cc in none)

module _ (t : Traced) (client : ℕ) (own : Client) (here : client_at t.machine.clients client ≡ Some own) (doing : Doing) (now : own.now ≡ Some doing) where
  -- one that waits held none so far
  waiting_none : is_ready_client t.setting.terms own ≡ true → is_waiting doing.talk.phase ≡ true → (number : ℕ) → Among number (held_in doing.steps) → ⊥
  waiting_none ready waits number there =
      let mine : is_ready t.setting.terms doing ≡ true =
      subst (λ (found : Option Doing). option_map_or (is_ready t.setting.terms) found true ≡ true) now (and_parts (option_map_or (is_ready t.setting.terms) own.now true) (option_map_or has_calls own.next true) ready).0 in
      let rest = (and_parts (implies (is_unbegun doing.talk.phase) (not (length doing.talk.left == 0))) (implies (is_waiting doing.talk.phase) (length (held_in doing.steps) == 0) && records_rightly t.setting.terms doing.talk doing.talk.phase) mine).1 in
      let none : implies (is_waiting doing.talk.phase) (length (held_in doing.steps) == 0) ≡ true = (and_parts (implies (is_waiting doing.talk.phase) (length (held_in doing.steps) == 0)) (records_rightly t.setting.terms doing.talk doing.talk.phase) rest).0 in
      empty (held_in doing.steps) (eq_from (length (held_in doing.steps)) 0 (subst (λ (b : Bool). implies b (length (held_in doing.steps) == 0) ≡ true) waits none)) there
    where
      empty : (numbers : List ℕ) → length numbers ≡ 0 → Among number numbers → ⊥
      empty [] long there = let never : ⊥ = cc in never
      empty (one ∷ numbers) long there = let never : ⊥ = omega (arith, long) in never

-- and each that it held is there
held_there : (t : Traced) (client : ℕ) (own : Client) (doing : Doing) (number : ℕ) → list_all (are_sent t) (courses_of t) ≡ true → client_at t.machine.clients client ≡ Some own → own.now ≡ Some doing → Among number (held_in doing.steps) → link_at t.machine.links number ≡ None → ⊥
held_there t client own doing number all here now there gone =
    absent _ (link_at t.machine.links number) gone (all_among _ (held_in doing.steps) number (course_holds (are_sent t) t client own doing all here now) there)
  where
    absent : (test : Link → Bool) (found : Option Link) → found ≡ None → option_map_or test found false ≡ true → ⊥
    absent test None is met = let none : ⊥ = cc in none
    absent test (Some link) is met = let none : ⊥ = cc in none

-- REQUESTS ----------------------------------------------------------------------------------------

-- what a step brings is new
data Brings (steps : List Step) : List ℕ → Type 0 where
  BringsNone : Brings steps []
  BringsNew : (number : ℕ) → (Among number (held_in steps) → ⊥) → Brings steps (number ∷ [])

abbrev MayInAll : Traced → Doing → List Step → Type 0
MayInAll t doing steps = MayCome t.setting.terms (first_talk doing.request) false (inputs_of steps)

module _ (t : Traced) (inv : Invariant t) (client place : ℕ) (own : Client) (here : client_at t.machine.clients client ≡ Some own) (doing : Doing) where
  lent_new : (steps began : List Step) (connection : ℕ) (ltxid : Ltxid) → Begins t own doing steps began → MayInAll t doing (steps ++ (began ++ now_at t doing (Lent connection ltxid) ∷ [])) → Among connection (held_in steps) → ⊥
  lent_new _ _ connection ltxid (BeginsNow request none next same) may there = let never : ⊥ = cc in never
  lent_new _ _ connection ltxid (WasThere now) may there =
      waiting_none t client own here doing now (ready client here)
      (lent_waits t.setting.terms doing.talk doing.talk.phase t.machine.tick connection ltxid
      (subst (λ (talk : Talk). is_wanted (wants_of t.setting.terms talk t.machine.tick) (Lent connection ltxid) ≡ true) talks.stands
      (may_at t.setting.terms (first_talk doing.request) false (inputs_of doing.steps) (Lent connection ltxid, t.machine.tick) []
      (subst (MayCome t.setting.terms (first_talk doing.request) false) (map-append timed doing.steps (now_at t doing (Lent connection ltxid) ∷ [])) may))))
      connection there
    where
      talks : Talks t.setting.terms false doing
      talks = subst (IsTalking t.setting.terms) now (talks_at t.setting.terms t.machine.clients client own inv.orderly.script.talks here).1

      ready : (number : ℕ) → client_at t.machine.clients number ≡ Some own → is_ready_client t.setting.terms own ≡ true
      ready zero at = absurd (let none : ⊥ = cc in none)
      ready (suc index) at = all_at (is_ready_client t.setting.terms) t.machine.clients index own inv.orderly.script.ready at

  opened_new : (steps began : List Step) (connection : ℕ) → Begins t own doing steps began → connection ≡ length t.machine.links + 1 → Among connection (held_in steps) → ⊥
  opened_new _ _ connection (BeginsNow request none next same) new there = let never : ⊥ = cc in never
  opened_new _ _ connection (WasThere now) new there = held_there t client own doing connection inv.orderly.script.sent here now there (ap (link_at t.machine.links) new ∙ none_new t.machine.links)

  kind_brings : (steps began : List Step) (step : StepTold) (acts : List Step) → Begins t own doing steps began → MayInAll t doing (steps ++ (began ++ acts)) → TellsKind t client place doing step acts → Brings steps (held_in acts)
  kind_brings steps began step _ begins may (Rested did early bare) = BringsNone
  kind_brings steps began step _ begins may (FoundNone did frame bare) = BringsNone
  kind_brings steps began step _ begins may (Waited did begun bare) = BringsNone
  kind_brings steps began step _ begins may (HasFailed did begun bare) = BringsNone
  kind_brings steps began step _ begins may (HasLost connection link did has there ended bare) = BringsNone
  kind_brings steps began step _ begins may (HasOpened connection did new begun bare) = BringsNew connection (opened_new steps began connection begins new)
  kind_brings steps began step _ begins may (WasLent connection link ltxid did begun there held taken its session lost) = BringsNew connection (lent_new steps began connection ltxid begins may)
  kind_brings steps began step _ begins may (HasTaken connection sent link frame served more did sends has there taken reply session lost gone) =
      subst (Brings steps) (sym (gone_held t doing connection more gone)) BringsNone

brings_once : (steps more : List Step) (numbers : List ℕ) → held_in more ≡ numbers → Brings steps numbers → HeldOnce steps → HeldOnce (steps ++ more)
brings_once steps more numbers is brings once =
    ap (each_pair differs) (filter_map-append (λ (step : Step). brought step.done.input) steps more ∙ ap (λ (l : List ℕ). held_in steps ++ l) is) ∙ by numbers brings
  where
    by : (numbers : List ℕ) → Brings steps numbers → each_pair differs (held_in steps ++ numbers) ≡ true
    by _ BringsNone = ap (each_pair differs) (append-nil (held_in steps)) ∙ once
    by _ (BringsNew number new) = pairs_more (held_in steps) number once new

step_once : (setting : Setting) (client place : ℕ) (request : Request) (steps : List Step) (one : Telling) → TellsStep setting client place request steps one
    → MayCome setting.terms (first_talk request) false (inputs_of (steps ++ one.acts)) → HeldOnce steps → HeldOnce (steps ++ one.acts)
step_once setting client place request steps one tells may once =
    brings_once steps one.acts (held_in tells.acts) its
    (kind_brings tells.t tells.inv client place tells.own tells.here tells.doing steps tells.began one.step tells.acts tells.begins
    (subst (λ (acts : List Step). MayInAll tells.t tells.doing (steps ++ acts)) tells.all
    (subst (λ (made : Setting). MayCome made.terms (first_talk tells.doing.request) false (inputs_of (steps ++ one.acts))) (sym tells.of_run)
    (subst (λ (r : Request). MayCome setting.terms (first_talk r) false (inputs_of (steps ++ one.acts))) (sym tells.same) may)))
    tells.kind)
    once
  where
    its : held_in one.acts ≡ held_in tells.acts
    its =
        ap held_in tells.all
        ∙ (filter_map-append (λ (step : Step). brought step.done.input) tells.began tells.acts
        ∙ ap (λ (l : List ℕ). l ++ held_in tells.acts) (began_held tells.t tells.doing steps tells.began tells.begins))

-- So it is of a request of which all steps are told, each of which might come.
pub held_once : (setting : Setting) (client place : ℕ) (request : Request) (tellings : List Telling) (steps : List Step) → TellsRequest setting client place request tellings steps
    → MayCome setting.terms (first_talk request) false (inputs_of steps) → HeldOnce steps
held_once setting client place request _ _ NoneYet may = refl
held_once setting client place request _ _ (OneMore tellings steps one before tells) may =
    step_once setting client place request steps one tells may
    (held_once setting client place request tellings steps before
    (may_front setting.terms (first_talk request) false (inputs_of steps) (inputs_of one.acts) (subst (MayCome setting.terms (first_talk request) false) (map-append timed steps one.acts) may)))
