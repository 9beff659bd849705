-- All sendings where a client steps: those of its request stand in place of what they were; so what
-- one of them was, one of them is.
use Rattle.std.proofs.Common.{◌≡◌, refl, sym, ap, subst, ◌∙◌, Bool, true, false, ℕ, ◌||◌, cond, filter, flat_map, fold, length, List, [], ◌∷◌, ◌++◌, Option, Some, None, append-nil, ◌⊎◌, inl, inr}
use Rattle.std.specs.Prelude.{option_map}
use Rattle.std.specs.List.{list_any}
use Rattle.std.specs.Option.{option_or, option_map_or}
use Rattle.std.proofs.lemmas.Bool.{or_cases, or_left, or_right}
use Rattle.std.proofs.lemmas.List.Folds.{list_any-append}
use Rattle.svc_values.specs.declared.answer.Answer.{Answer}
use Rattle.svc_values.specs.declared.frame.Up.{Up}
use Rattle.svc_values.specs.declared.entry.Ltxid.{Ltxid}
use Rattle.svc_values.specs.meaning.Calls.{has_commit}
use Rattle.outage_schedule.specs.declared.document.Request.{Request}
use Rattle.client_model.specs.declared.act.Hold.{Hold}
use Rattle.world_model.specs.meaning.Clients.{Doing, Step, begun}
use Rattle.world_model.specs.meaning.Frames.{Owner}
use Rattle.world_model.specs.Orderly.{Orderly}
use Rattle.world_model.specs.meaning.Machines.{Machine}
use Rattle.invariant_laws.specs.Once.{are_apart, all_sendings}
use Rattle.world_model.specs.Parts.{Sending, Scan, commit_sendings, sent_on}
use Rattle.world_model.specs.Traced.{Traced, Course, course_now, courses_from, courses_of, courses_of_clients}
use Rattle.invariant_laws.proofs.losses.Answering.{Answering, Unanswered, LastAnswered, IsAnswered, answering}
use Rattle.invariant_laws.proofs.sendings.ApartSteps.{commits}
use Rattle.world_model.proofs.Offered.{HasStepped, at_event, scan_by, heard_scan, after_sendings, first_step}
use Rattle.invariant_laws.proofs.sendings.FateSteps.{Says, Silent, CallsOne, says_at, silent_fold, called_fold}
use Rattle.invariant_laws.proofs.talks.InPlace.{InPlace, Here, There, in_flat, step_in}
use Rattle.invariant_laws.proofs.sendings.SendingsMade.{made}

-- LISTS -------------------------------------------------------------------------------------------

any_back : {A : Type 0} (test : A → Bool) (was now back : List A) → (list_any test was ≡ true → list_any test now ≡ true) → list_any test (was ++ back) ≡ true → list_any test (now ++ back) ≡ true
any_back test was now back goes any = list_any-append test now back ∙ by (or_cases (list_any test was) (list_any test back) (sym (list_any-append test was back) ∙ any))
  where
    by : (list_any test was ≡ true) ⊎ (list_any test back ≡ true) → (list_any test now || list_any test back) ≡ true
    by (inl first) = or_left (list_any test now) (list_any test back) (goes first)
    by (inr later) = or_right (list_any test now) (list_any test back) later

any_in : {A : Type 0} (test : A → Bool) (was now old new : List A) → InPlace was now old new → (list_any test was ≡ true → list_any test now ≡ true) → list_any test old ≡ true → list_any test new ≡ true
any_in test was now _ _ (Here back) goes any = any_back test was now back goes any
any_in test was now _ _ (There x old new is) goes any = by (or_cases (test x) (list_any test old) any) (λ later. any_in test was now old new is goes later)
  where
    by : (test x ≡ true) ⊎ (list_any test old ≡ true) → (list_any test old ≡ true → list_any test new ≡ true) → (test x || list_any test new) ≡ true
    by (inl first) again = or_left (test x) (list_any test new) first
    by (inr later) again = or_right (test x) (list_any test new) (again later)

any_now : {A : Type 0} (test : A → Bool) (was now old new : List A) → InPlace was now old new → list_any test now ≡ true → list_any test new ≡ true
any_now test was now _ _ (Here back) any = list_any-append test now back ∙ or_left (list_any test now) (list_any test back) any
any_now test was now _ _ (There x old new is) any = or_right (test x) (list_any test new) (any_now test was now old new is any)

-- A STEP ------------------------------------------------------------------------------------------

module _ (t : Traced) (inv : Orderly t) (new : Traced) (who : ℕ) (step : HasStepped t.setting (at_event t.machine) who new.machine) where
  abbrev m : Machine
  m = at_event t.machine

  abbrev mine : Owner
  mine = record { client = who; place = length step.client.past }

  abbrev one : Step
  one = first_step t.setting m inv.script.talks who new.machine step

  abbrev sendings : List Sending
  sendings = (scan_by mine step.before.steps).sendings

  abbrev scan_now : Scan
  scan_now = heard_scan t.setting m inv.script.talks who new.machine step

  abbrev mine_old : List Sending
  mine_old = filter commits sendings

  abbrev mine_new : List Sending
  mine_new = filter commits (fold (sent_on scan_now) scan_now.sendings one.done.act.send)

  abbrev pub after_all : List Sending
  after_all = flat_map commit_sendings (courses_of_clients t.setting 1 new.machine.clients)

  abbrev was : List Course
  was = courses_from t.setting who (length step.client.past) [] step.client.now

  was_is : flat_map commit_sendings was ≡ mine_old
  was_is = by step.client.now refl step.client.next step.does
    where
      by : (found : Option Doing) → step.client.now ≡ found → (next : Option Request) → option_or found (option_map (begun t.setting.terms m.event m.tick) next) ≡ Some step.before → flat_map commit_sendings was ≡ mine_old
      by (Some doing) is next does =
          let same : doing ≡ step.before = cc in
          ap (λ (now : Option Doing). flat_map commit_sendings (courses_from t.setting who (length step.client.past) [] now)) is
          ∙ (append-nil (commit_sendings (course_now t.setting who (length step.client.past) doing)) ∙ ap (λ (d : Doing). filter commits (scan_by mine d.steps).sendings) same)
      by None is (Some request) does =
          let same : begun t.setting.terms m.event m.tick request ≡ step.before = cc in
          ap (λ (now : Option Doing). flat_map commit_sendings (courses_from t.setting who (length step.client.past) [] now)) is ∙ ap (λ (d : Doing). filter commits (scan_by mine d.steps).sendings) same
      by None is None does = absurd (let none : ⊥ = cc in none)

  pub now_is : (course : Course) → course.owner ≡ mine → course.steps ≡ step.after.steps → flat_map commit_sendings (course ∷ []) ≡ mine_new
  now_is course owner steps =
      append-nil (commit_sendings course)
      ∙ (ap (λ (o : Owner). filter commits (scan_by o course.steps).sendings) owner
      ∙ (ap (λ (list : List Step). filter commits (scan_by mine list).sendings) steps ∙ ap (filter commits) (after_sendings t.setting m inv.script.talks who new.machine step)))

  pub in_place : InPlace mine_old mine_new (all_sendings t) after_all
  in_place =
      let found = step_in t.setting m who new.machine step in
      subst (λ (list : List Sending). InPlace list mine_new (all_sendings t) after_all) was_is
      (subst (λ (list : List Sending). InPlace (flat_map commit_sendings was) list (all_sendings t) after_all) (now_is found.0 found.1.0 found.1.1.0)
      (in_flat commit_sendings was (found.0 ∷ []) (courses_of t) (courses_of_clients t.setting 1 new.machine.clients) found.1.1.1))

  module _ (test : Sending → Bool) where
    -- the frames of the step add to them
    any_said : list_any test (filter commits scan_now.sendings) ≡ true → list_any test mine_new ≡ true
    any_said any = by one.done.act.send one.done.act.hold (says_at t.setting.terms step.before.talk step.input m.tick)
      where
        by : (send : List Up) (held : Hold) → Says send held → list_any test (filter commits (fold (sent_on scan_now) scan_now.sendings send)) ≡ true
        by _ _ (Silent send held none) = ap (λ (list : List Sending). list_any test (filter commits list)) (silent_fold scan_now send scan_now.sendings none) ∙ any
        by _ _ (CallsOne begun settings call) = ap (λ (list : List Sending). list_any test (filter commits list)) (called_fold scan_now begun settings call scan_now.sendings) ∙ found scan_now.held
          where
            more : (x : Ltxid) (has : Bool) → list_any test (cond has (made scan_now call x ∷ filter commits scan_now.sendings) (filter commits scan_now.sendings)) ≡ true
            more x true = or_right (test (made scan_now call x)) (list_any test (filter commits scan_now.sendings)) any
            more x false = any

            found : (held : Option Ltxid) → list_any test (filter commits (option_map_or (λ x. made scan_now call x ∷ scan_now.sendings) held scan_now.sendings)) ≡ true
            found None = any
            found (Some x) = more x (has_commit call)

    -- what one of all was one of all is, where an answer keeps it
    pub any_step : (apart : are_apart t ≡ true)
        → ((top : Sending) (rest : List Sending) (answers : List Answer) → sendings ≡ top ∷ rest → IsAnswered t inv apart new who step top answers → has_commit top.call ≡ true → test top ≡ true → test (record top { taken = Some answers }) ≡ true)
        → list_any test (all_sendings t) ≡ true → list_any test after_all ≡ true
    any_step apart keeps any = any_in test mine_old mine_new (all_sendings t) after_all in_place (λ here. any_said (answered_so sendings scan_now.sendings (answering t inv apart new who step) here)) any
      where
        answered_so : (old now : List Sending) → Answering t inv apart new who step old now → list_any test (filter commits old) ≡ true → list_any test (filter commits now) ≡ true
        answered_so _ _ (Unanswered list) here = here
        answered_so _ _ (LastAnswered top rest answers are is) here = by (has_commit top.call) refl here
          where
            last : Sending
            last = record top { taken = Some answers }

            either : has_commit top.call ≡ true → (test top ≡ true) ⊎ (list_any test (filter commits rest) ≡ true) → (test last || list_any test (filter commits rest)) ≡ true
            either has (inl first) = or_left (test last) (list_any test (filter commits rest)) (keeps top rest answers are is has first)
            either has (inr later) = or_right (test last) (list_any test (filter commits rest)) later

            by : (has : Bool) → has_commit top.call ≡ has → list_any test (cond has (top ∷ filter commits rest) (filter commits rest)) ≡ true → list_any test (cond has (last ∷ filter commits rest) (filter commits rest)) ≡ true
            by false has here = here
            by true has here = either has (or_cases (test top) (list_any test (filter commits rest)) here)

    -- and so is one of its own
    pub any_mine : list_any test mine_new ≡ true → list_any test after_all ≡ true
    any_mine any = any_now test mine_old mine_new (all_sendings t) after_all in_place any
