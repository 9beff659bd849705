-- How many calls were shown before a step, as a part tells it: those that its request was shown by
-- then.
use Rattle.std.proofs.Common.{◌≡◌, refl, sym, ap, subst, ◌∙◌, append-nil, append_assoc, Bool, true, false, ℕ, suc, ◌<◌, ◌≤◌, ◌&&◌, length, List, [], ◌∷◌, ◌++◌, map, filter, Option, Some, None, ◌⊎◌, inl, inr, if◌then◌else◌, arith}
use Rattle.std.specs.Prelude.{is_some, is_none, nat_lt}
use Rattle.std.specs.List.{list_all, cons_option}
use Rattle.std.proofs.lemmas.Bool.{and_parts}
use Rattle.std.proofs.lemmas.Bool.Decides.{nat_tests}
use Rattle.std.proofs.lemmas.List.{map-append}
use Rattle.std.proofs.lemmas.List.Elements.{filter-append}
use Rattle.std.proofs.lemmas.List.Sums.{fold-append}
use Rattle.client_model.specs.meaning.Account.{Account, unheard, after_step, account_of}
use Rattle.client_model.specs.meaning.Terms.{Terms}
use Rattle.client_model.specs.declared.act.Shown.{Shown}
use Rattle.outage_schedule.specs.declared.document.Request.{Request}
use Rattle.outage_schedule.specs.declared.item.Served.{Served}
use Rattle.outage_schedule.specs.declared.request.ShownCall.{ShownCall}
use Rattle.run_clauses.specs.meaning.Reports.{shown_call}
use Rattle.shown_clauses.specs.meaning.KeptDraws.{shown_before}
use Rattle.shown_clauses.specs.meaning.Parts.{Part}
use Rattle.shown_clauses.specs.meaning.Showings.{showing_at, showings}
use Rattle.shown_clauses.specs.meaning.Steps.{Step as StepTold}
use Rattle.world_model.specs.meaning.Clients.{Step}
use Rattle.invariant_laws.specs.Replayed.{shown_at}
use Rattle.world_model.specs.meaning.Settings.{Setting}
use Rattle.world_model.specs.Words.{dones_of}
use Rattle.shown_laws.specs.PartsTold.{OfEach, IsQuiet, IsPartOf}
use Rattle.shown_laws.specs.Tellings.{Telling, steps_in_tellings, TellsStep, TellsRequest, NoneYet, OneMore}
use Rattle.shown_laws.proofs.shown.AccountRead.{new_shown, step_reads}
use Rattle.shown_laws.proofs.shown.GreetedSince.{shows_none}
use Rattle.shown_laws.proofs.shown.RequestsAdd.{request_accounted}
use Rattle.shown_laws.proofs.shown.ShowingsHold.{quiet_shows, as_many}
use Rattle.shown_laws.proofs.steps.StepsAmong.{IsAmong, among_behind, among_either, later_than}
use Rattle.shown_laws.proofs.steps.ToldRise.{AllAfter, Rise}

-- WHERE A STEP IS TOLD ----------------------------------------------------------------------------

-- what was told of the request before a step, and what it did
pub record AtStep (setting : Setting) (client place : ℕ) (request : Request) (tellings : List Telling) (steps : List Step) (step : StepTold) : Type 0 where
  pub front : List Telling
  pub done : List Step
  pub told : TellsRequest setting client place request front done
  pub one : Telling
  pub tells : TellsStep setting client place request done one
  pub is : one.step ≡ step
  pub back : List Telling
  pub all : tellings ≡ front ++ one ∷ back
  pub rest : List Step
  pub acts : steps ≡ done ++ (one.acts ++ rest)

pub at_step : (setting : Setting) (client place : ℕ) (request : Request) (tellings : List Telling) (steps : List Step) (step : StepTold) → TellsRequest setting client place request tellings steps → IsAmong step (steps_in_tellings tellings)
    → AtStep setting client place request tellings steps step
at_step setting client place request _ _ step NoneYet among = absurd among
at_step setting client place request _ _ step (OneMore tellings steps one before tells) among =
    by (among_either step (steps_in_tellings tellings) (one.step ∷ []) (subst (IsAmong step) (map-append (λ (x : Telling). x.step) tellings (one ∷ [])) among)) (λ there. at_step setting client place request tellings steps step before there)
  where
    by : IsAmong step (steps_in_tellings tellings) ⊎ IsAmong step (one.step ∷ []) → (IsAmong step (steps_in_tellings tellings) → AtStep setting client place request tellings steps step)
        → AtStep setting client place request (tellings ++ one ∷ []) (steps ++ one.acts) step
    by (inl there) rest =
        let at : AtStep setting client place request tellings steps step = rest there in
        record {
          front = at.front;
          done = at.done;
          told = at.told;
          one = at.one;
          tells = at.tells;
          is = at.is;
          back = at.back ++ one ∷ [];
          all = ap (λ (l : List Telling). l ++ one ∷ []) at.all ∙ append_assoc at.front (at.one ∷ at.back) (one ∷ []);
          rest = at.rest ++ one.acts;
          acts = ap (λ (l : List Step). l ++ one.acts) at.acts ∙ (append_assoc at.done (at.one.acts ++ at.rest) one.acts ∙ ap (λ (l : List Step). at.done ++ l) (append_assoc at.one.acts at.rest one.acts));
        }
    by (inr (inl here)) rest = record {
      front = tellings;
      done = steps;
      told = before;
      one = one;
      tells = tells;
      is = here;
      back = [];
      all = refl;
      rest = [];
      acts = ap (λ (l : List Step). steps ++ l) (sym (append-nil one.acts));
    }
    by (inr (inr never)) rest = absurd never

-- HOW MANY WERE SHOWN BEFORE IT -------------------------------------------------------------------

abbrev counts : ℕ → StepTold → Bool
counts event step = is_some (showing_at step) && nat_lt step.event event

not_below : (a b : ℕ) → b ≤ a → nat_lt a b ≡ false
not_below a b most = grind (arith, nat_tests)

below : (a b : ℕ) → a < b → nat_lt a b ≡ true
below a b less = grind (arith, nat_tests)

and_false : (test other : Bool) → other ≡ false → (test && other) ≡ false
and_false true other is = is
and_false false other is = refl

and_true : (test other : Bool) → other ≡ true → (test && other) ≡ test
and_true true other is = is
and_true false other is = refl

none_behind : (event late : ℕ) (steps : List StepTold) → event ≤ late → AllAfter late steps → filter (counts event) steps ≡ []
none_behind event late [] most all = refl
none_behind event late (step ∷ steps) most all =
    let later : late < step.event = all.0 in
    let first : event ≤ step.event = omega (arith, most, later) in
    ap (λ (b : Bool). if b then step ∷ filter (counts event) steps else filter (counts event) steps) (and_false (is_some (showing_at step)) (nat_lt step.event event) (not_below step.event event first)) ∙ none_behind event late steps most all.1

front_counted : (front : List StepTold) (step : StepTold) (back : List StepTold) → Rise (front ++ step ∷ back) → length (filter (counts step.event) (front ++ step ∷ back)) ≡ length (showings front)
front_counted [] step back rise =
    let same : step.event ≤ step.event = omega arith in
    ap length
    (ap (λ (b : Bool). if b then step ∷ filter (counts step.event) back else filter (counts step.event) back) (and_false (is_some (showing_at step)) (nat_lt step.event step.event) (not_below step.event step.event same))
    ∙ none_behind step.event step.event back same rise.0)
front_counted (first ∷ front) step back rise =
    ap (λ (b : Bool). length (if b then first ∷ filter (counts step.event) (front ++ step ∷ back) else filter (counts step.event) (front ++ step ∷ back)))
    (and_true (is_some (showing_at first)) (nat_lt first.event step.event) (below first.event step.event (later_than first.event step (front ++ step ∷ back) rise.0 (among_behind step front (step ∷ back) (inl refl)))))
    ∙ by (showing_at first) (front_counted front step back rise.1)
  where
    by : (found : Option Served) → length (filter (counts step.event) (front ++ step ∷ back)) ≡ length (showings front)
        → length (if is_some found then first ∷ filter (counts step.event) (front ++ step ∷ back) else filter (counts step.event) (front ++ step ∷ back)) ≡ length (cons_option found (showings front))
    by None rest = rest
    by (Some one) rest = ap suc rest

quiet_counted : (event : ℕ) (steps : List StepTold) → OfEach IsQuiet steps → filter (counts event) steps ≡ []
quiet_counted event [] all = refl
quiet_counted event (step ∷ steps) all =
    ap (λ (found : Option Served). if is_some found && nat_lt step.event event then step ∷ filter (counts event) steps else filter (counts event) steps) (quiet_shows step all.0) ∙ quiet_counted event steps all.1

part_counted : (event : ℕ) (steps : List StepTold) (part : Part) → IsPartOf steps part → shown_before part.steps event ≡ length (filter (counts event) steps)
part_counted event steps part is =
    ap (shown_as_counted) is.is
    ∙ (ap length (filter-append (counts event) is.own is.behind ∙ (ap (λ (l : List StepTold). filter (counts event) is.own ++ l) (quiet_counted event is.behind is.quiet_behind) ∙ append-nil (filter (counts event) is.own)))
    ∙ sym (ap length (ap (filter (counts event)) is.all ∙ (filter-append (counts event) is.before is.own ∙ ap (λ (l : List StepTold). l ++ filter (counts event) is.own) (quiet_counted event is.before is.quiet)))))
  where
    shown_as_counted : List StepTold → ℕ
    shown_as_counted all = length (filter (counts event) all)

-- So a part tells it of its request.
pub shown_by_then : (setting : Setting) (client place : ℕ) (request : Request) (tellings : List Telling) (steps : List Step) (step : StepTold) → Rise (steps_in_tellings tellings) → (at : AtStep setting client place request tellings steps step)
    → (part : Part) → IsPartOf (steps_in_tellings tellings) part → shown_before part.steps step.event ≡ length (shown_at setting.terms request at.done)
shown_by_then setting client place request tellings steps step rise at part is =
    part_counted step.event (steps_in_tellings tellings) part is
    ∙ (ap (λ (l : List StepTold). length (filter (counts step.event) l)) split
    ∙ (front_counted (steps_in_tellings at.front) step (steps_in_tellings at.back) (subst Rise split rise)
    ∙ sym (as_many (account_of setting.terms request.calls (dones_of at.done)).shown (showings (steps_in_tellings at.front)) (request_accounted setting client place request at.front at.done at.told).shown)))
  where
    split : steps_in_tellings tellings ≡ steps_in_tellings at.front ++ step ∷ steps_in_tellings at.back
    split =
        ap steps_in_tellings at.all
        ∙ (map-append (λ (x : Telling). x.step) at.front (at.one ∷ at.back) ∙ ap (λ (s : StepTold). steps_in_tellings at.front ++ s ∷ steps_in_tellings at.back) at.is)

-- WHAT IS SHOWN GROWS -----------------------------------------------------------------------------

-- what was shown at these steps, of all
pub record ShownMore (terms : Terms) (request : Request) (steps more : List Step) : Type 0 where
  pub later : List ShownCall
  pub is : shown_at terms request (steps ++ more) ≡ shown_at terms request steps ++ later

module _ (terms : Terms) (request : Request) where
  abbrev heard : List Step → Account
  heard steps = account_of terms request.calls (dones_of steps)

  one_longer : (steps : List Step) (step : Step) → heard (steps ++ step ∷ []) ≡ after_step terms request.calls (heard steps) step.done
  one_longer steps step = ap (account_of terms request.calls) (map-append (λ (s : Step). s.done) steps (step ∷ [])) ∙ fold-append (after_step terms request.calls) unheard (dones_of steps) (step.done ∷ [])

  one_shown : (steps : List Step) (step : Step) → (heard (steps ++ step ∷ [])).shown ≡ (heard steps).shown ++ new_shown request.calls (heard steps).shown step.done.act.shown
  one_shown steps step = ap (λ (a : Account). a.shown) (one_longer steps step) ∙ (step_reads terms request.calls (heard steps) step.done).shown

  pub shown_more : (steps more : List Step) → ShownMore terms request steps more
  shown_more steps [] = record { later = []; is = ap (shown_at terms request) (append-nil steps) ∙ sym (append-nil (shown_at terms request steps)) }
  shown_more steps (step ∷ more) =
      let rest : ShownMore terms request (steps ++ step ∷ []) more = shown_more (steps ++ step ∷ []) more in
      let new : List Shown = new_shown request.calls (heard steps).shown step.done.act.shown in
      record {
        later = map shown_call (new_shown request.calls (heard steps).shown step.done.act.shown) ++ rest.later;
        is =
            ap (shown_at terms request) (sym (append_assoc steps (step ∷ []) more))
            ∙ (rest.is
            ∙ (ap (λ (l : List Shown). map shown_call l ++ rest.later) (one_shown steps step)
            ∙ (ap (λ (l : List ShownCall). l ++ rest.later) (map-append shown_call (heard steps).shown (new_shown request.calls (heard steps).shown step.done.act.shown))
            ∙ append_assoc (shown_at terms request steps) (map shown_call (new_shown request.calls (heard steps).shown step.done.act.shown)) rest.later)));
      }

  -- nothing where none of these steps shows any
  pub shown_silent : (steps more : List Step) → list_all shows_none more ≡ true → shown_at terms request (steps ++ more) ≡ shown_at terms request steps
  shown_silent steps [] silent = ap (shown_at terms request) (append-nil steps)
  shown_silent steps (step ∷ more) silent =
      let parts = and_parts (shows_none step) (list_all shows_none more) silent in
      ap (shown_at terms request) (sym (append_assoc steps (step ∷ []) more))
      ∙ (shown_silent (steps ++ step ∷ []) more parts.1
      ∙ ap (map shown_call) (one_shown steps step ∙ (ap (λ (l : List Shown). (heard steps).shown ++ l) (by step.done.act.shown parts.0) ∙ append-nil (heard steps).shown)))
    where
      by : (shown : Option Shown) → is_none shown ≡ true → new_shown request.calls (heard steps).shown shown ≡ []
      by None none = refl
      by (Some one) none = absurd (let never : ⊥ = cc in never)
