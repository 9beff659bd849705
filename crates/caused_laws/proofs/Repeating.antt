-- Steps by which calls are repeated.
use Rattle.std.proofs.Common.{◌≡◌, inl, inr, ℕ, ◌+◌, ◌==◌, ◌<◌, ◌≤◌, ◌&&◌, Bool, true, false, List, [], ◌∷◌, ◌++◌, length, Option, Some, None, refl, sym, ap, subst, ◌∙◌, arith}
use Rattle.std.specs.Prelude.{fold, nat_lt, slice_get}
use Rattle.std.specs.Option.{option_map_or}
use Rattle.std.proofs.lemmas.Bool.Decides.{nat_tests}
use Rattle.std.proofs.lemmas.Option.{slice_get_cases}
use Rattle.svc_values.specs.declared.answer.Answer.{Answer}
use Rattle.svc_values.specs.declared.call.Call.{Call}
use Rattle.svc_values.specs.declared.value.Value.{Value}
use Rattle.svc_values.specs.declared.frame.Down.{Down}
use Rattle.svc_values.specs.declared.frame.Up.TheVariants as up
use Rattle.request_bounds.specs.meaning.Rules.{Rules}
use Rattle.call_recorder.specs.declared.recorded.Recorded.{Recorded}
use Rattle.outage_schedule.specs.declared.document.Request.{Request}
use Rattle.outage_schedule.specs.declared.document.ServiceOf.{ServiceOf}
use Rattle.outage_schedule.specs.declared.item.Item.{Item}
use Rattle.outage_schedule.specs.declared.item.Served.{Served}
use Rattle.outage_schedule.specs.declared.request.RequestReport.{RequestReport}
use Rattle.client_model.specs.meaning.States.{Repeating, next_of}
use Rattle.client_model.specs.meaning.Verifying.{submitted}
use Rattle.client_model.specs.declared.act.Hold.TheVariants.{Keep}
use Rattle.client_model.specs.declared.input.Input.TheVariants.{Took}
use Rattle.client_model.specs.meaning.Terms.{Terms, Talk, Replaying}
use Rattle.client_model.specs.meaning.Talk.{sending, if_alive, sends_or_ends, sends_marked, next_call}
use Rattle.client_model.specs.Conversation.{is_gone_next}
use Rattle.client_model.specs.meaning.Account.{Account, begins, hears, sends, after_step}
use Rattle.client_model.specs.Reasons.{rules_of}
use Rattle.shown_clauses.specs.meaning.Fronts.{is_empty}
use Rattle.shown_clauses.specs.meaning.Steps.{Step}
use Rattle.shown_clauses.specs.meaning.Showings.{is_showing}
use Rattle.shown_clauses.specs.meaning.Facts.{Course, comes_after}
use Rattle.shown_clauses.specs.meaning.Causes.{line_at}
use Rattle.caused_laws.specs.ServiceTerms.{kind_of}
use Rattle.caused_laws.proofs.FactsKnown.{terms_by}
use Rattle.caused_laws.proofs.Standing.{SoFar, past_of, behind_it, Takes, IsAt, IsOpen, Knows, Stands, submission}
use Rattle.caused_laws.proofs.Submitting.{and_false, and_never, fronted, sends_comes}
use Rattle.caused_laws.proofs.Taking.{took, and_true, dead_gone, eq_true, left_sent, TakesBy, goes_comes}

eq_false : (a : ℕ) → 0 < a → (a == 0) ≡ false
eq_false a above = grind (arith, nat_tests)

-- a recorded call that is left, or none
pub within : {X : Type 0} (xs : List X) (n : ℕ) (x : X) → slice_get xs n ≡ Some x → n < length xs
within xs n x is = elim (slice_get_cases xs n).1 as (λ c. n < length xs) [ inl p ↦ p.1 | inr p ↦ absurd (let found : slice_get xs n ≡ None = p.1 in let no : ⊥ = cc in no) ]

past_all : {X : Type 0} (xs : List X) (n : ℕ) → slice_get xs n ≡ None → length xs ≤ n
past_all xs n is = elim (slice_get_cases xs n).1 as (λ c. length xs ≤ n) [ inl p ↦ absurd (let found : slice_get xs n ≡ Some p.0 = p.2 in let no : ⊥ = cc in no) | inr p ↦ p.0 ]

module _ (service : ServiceOf) (rules : Rules) (told : List Answer → List ℕ) (ruled : rules ≡ rules_of (kind_of service.failover service.consistency)) (request : Request) (copy : RequestReport) where
  abbrev terms : Terms
  terms = terms_by service rules told

  module _ (s : SoFar) (step : Step) (connection sent : ℕ) (served : Served) (what : Item) (course : Course) (heard : Account) (state : Repeating) where
    abbrev here : Step
    here = took step connection sent served what

    -- So many calls are to be repeated, and no line holds at the step.
    pub record Repeats : Type 0 where
      pub takes : Takes s here s.facts course
      pub knows : Knows service rules told ruled request copy heard (here ∷ s.steps) s.facts course
      pub tries : heard.tries ≡ 0
      pub is_open : IsOpen service heard.reason course
      pub line : line_at service (submission service rules told ruled request copy) (past_of s here) here here.did ≡ None
      pub unshown : option_map_or is_showing here.taken false ≡ false
      pub comes : comes_after course what ≡ (course.behind == 0)
      pub left : course.behind + state.verified ≡ length state.track.recorder.calls

    module _ (w : Repeats) (a : Account) (frame : Down) (alive : Bool) (hears_is : hears terms a (Took frame alive) step.tick None ≡ heard) (talk : Talk) (front : Option (List (List ℕ × Value))) where
      repeats_at : IsAt service (Replaying state) heard.reason heard.tries (behind_it s here s.facts course)
      repeats_at = (w.is_open, w.tries, w.left)

      -- the frames of a marked call
      module _ (one : Recorded) where
        marked_at : (b : Bool) (acc : Account) → Knows service rules told ruled request copy acc (here ∷ s.steps) s.facts course → IsAt service (Replaying state) acc.reason acc.tries (behind_it s here s.facts course)
            → Stands service rules told ruled request copy (sends terms step.tick acc (up.Call true one.draws one.call)) (Replaying state) b (behind_it s here s.facts course)
        marked_at b acc knows at = record {
          knows = record { agrees = knows.agrees; count = knows.count; downs = knows.downs };
          at = at;
          last = λ still. record { kept = one.draws; one = one.call; is = refl };
        }

        marked_by : (f : Option (List (List ℕ × Value))) (b : Bool) → Stands service rules told ruled request copy (fold (sends terms step.tick) heard (fronted f ++ up.Call true one.draws one.call ∷ [])) (Replaying state) b (behind_it s here s.facts course)
        marked_by None b = marked_at b heard w.knows repeats_at
        marked_by (Some settings) b = by heard.begun
          where
            by : (g : Bool) → Stands service rules told ruled request copy (sends terms step.tick (record (begins heard g) { last = Some (up.Begin settings) }) (up.Call true one.draws one.call)) (Replaying state) b (behind_it s here s.facts course)
            by true = marked_at b (record (begins heard true) { last = Some (up.Begin settings) }) w.knows repeats_at
            by false = marked_at b (record (begins heard false) { last = Some (up.Begin settings) }) w.knows repeats_at

        marked_on : (b : Bool) → alive ≡ b
            → Stands service rules told ruled request copy (fold (sends terms step.tick) (hears terms a (Took frame alive) step.tick None) (if_alive b (fronted front ++ up.Call true one.draws one.call ∷ []))) (Replaying state) (is_gone_next (Took frame alive) Keep) (behind_it s here s.facts course)
        marked_on true is =
            subst (λ (h : Account). Stands service rules told ruled request copy (fold (sends terms step.tick) h (fronted front ++ up.Call true one.draws one.call ∷ [])) (Replaying state) (is_gone_next (Took frame alive) Keep) (behind_it s here s.facts course)) (sym hears_is)
            (marked_by front (is_gone_next (Took frame alive) Keep))
        marked_on false is =
            subst (λ (h : Account). Stands service rules told ruled request copy h (Replaying state) (is_gone_next (Took frame alive) Keep) (behind_it s here s.facts course)) (sym hears_is)
            (record {
              knows = w.knows;
              at = repeats_at;
              last = λ still. absurd (let gone : is_gone_next (Took frame alive) Keep ≡ true = dead_gone frame alive is in let none : ⊥ = cc in none);
            })

      -- the next recorded call is sent, or behind the last one the lost call
      pub marked_comes : (call : Call) → slice_get request.calls (length heard.shown) ≡ Some call → next_call talk ≡ Some call → (next : Option Recorded) → next_of state ≡ next
          → TakesBy service rules told ruled request copy a (Took frame alive) s here sent (sends_marked terms talk state alive (fronted front) step.tick next)
      marked_comes call there follows (Some one) is sends_so answered =
          let above : 0 < course.behind = (let e : course.behind + state.verified ≡ length state.track.recorder.calls = w.left in let l : state.verified < length state.track.recorder.calls = within state.track.recorder.calls state.verified one is in omega arith) in
          goes_comes service rules told ruled request copy s here (after_step terms request.calls a (record { input = Took frame alive; now = step.tick; act = sending (if_alive alive (fronted front ++ up.Call true one.draws one.call ∷ [])) })) (Replaying state) (is_gone_next (Took frame alive) Keep) course refl w.takes
          (and_never course.submitted (is_empty course.unshown) (nat_lt 0 sent && comes_after course what) (and_false (nat_lt 0 sent) (comes_after course what) (w.comes ∙ eq_false course.behind above)))
          w.line (ap (λ b. b && is_empty course.unshown) w.unshown) (marked_on one alive refl)
      marked_comes call there follows None is sends_so answered = last_by (next_call talk) follows sends_so answered
        where
          none_left : course.behind ≡ 0
          none_left = let e : course.behind + state.verified ≡ length state.track.recorder.calls = w.left in let l : length state.track.recorder.calls ≤ state.verified = past_all state.track.recorder.calls state.verified is in omega arith

          last_by : (found : Option Call) → found ≡ Some call
              → TakesBy service rules told ruled request copy a (Took frame alive) s here sent (sends_or_ends terms talk (submitted state) alive (fronted front) None step.tick found)
          last_by None same sends_so answered = absurd (let none : ⊥ = cc in none)
          last_by (Some one) same sends_so answered =
              sends_comes service rules told ruled request copy s here s.facts course one heard w.knows (there ∙ sym same) w.tries a (Took frame alive) talk (submitted state) alive front None hears_is w.takes
              (and_true (nat_lt 0 sent) (comes_after course what) alive (left_sent terms talk (submitted state) alive front None step.tick one sent sends_so) (w.comes ∙ eq_true course.behind 0 none_left))
              (dead_gone frame alive) (λ dead. w.is_open) w.line answered
