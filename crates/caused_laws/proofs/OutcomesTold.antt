-- Outcomes as the steps took them, as the client heard them, and as the report has them.
use Rattle.std.proofs.Common.{◌≡◌, ℕ, ◌+◌, ◌<◌, ◌&&◌, Bool, true, false, List, [], ◌∷◌, ◌++◌, map, Option, Some, None, if◌then◌else◌, refl, sym, ap, subst, ◌∙◌}
use Rattle.std.specs.Prelude.{cond, count_by, fold}
use Rattle.std.specs.List.{last_or}
use Rattle.std.specs.Option.{option_map_or}
use Rattle.std.proofs.lemmas.List.{map_push}
use Rattle.std.proofs.lemmas.List.Sums.{sum_by-cons, sum_by_push}
use Rattle.svc_values.specs.declared.answer.Answer.{Answer}
use Rattle.svc_values.specs.declared.entry.Ltxid.{Ltxid}
use Rattle.svc_values.specs.declared.frame.Up.{Up}
use Rattle.svc_values.specs.declared.frame.Up.TheVariants as up
use Rattle.svc_values.specs.meaning.Identifiers.{same_ltxid}
use Rattle.svc_values.specs.meaning.Same.{same_bool}
use Rattle.svc_values.specs.SameLaws.{same_ltxid_decides}
use Rattle.request_bounds.specs.meaning.Rules.{Rules}
use Rattle.outage_schedule.specs.declared.document.ServiceOf.{ServiceOf}
use Rattle.outage_schedule.specs.declared.request.Outcome.{Outcome}
use Rattle.outage_schedule.specs.declared.request.RequestReport.{RequestReport}
use Rattle.client_model.specs.meaning.Account.{Account, Outcome as Heard, begins, sends}
use Rattle.client_model.specs.Account.{is_uncommitted}
use Rattle.run_clauses.specs.meaning.Reports.{told_outcome}
use Rattle.shown_clauses.specs.meaning.Links.{Link}
use Rattle.shown_clauses.specs.meaning.Steps.{Step}
use Rattle.shown_clauses.specs.meaning.Showings.{same_outcome}
use Rattle.shown_clauses.specs.meaning.Causes.{has_held, ended_of, says_uncommitted}
use Rattle.shown_clauses.specs.meaning.Caused.{count_uncommitted, is_last_outcome}
use Rattle.caused_laws.specs.Telling.{WasLost}
use Rattle.caused_laws.proofs.FactsKnown.{terms_by}
use Rattle.caused_laws.proofs.Submitting.{and_both}

-- the last of a list
pub last-last : {X : Type 0} (o : Option X) (xs : List X) (x : X) → last_or o (xs ++ x ∷ []) ≡ Some x
last-last o [] x = refl
last-last o (y ∷ xs) x = last-last (Some y) xs x

same_self : (b : Bool) → same_bool b b ≡ true
same_self true = refl
same_self false = refl

pub ltxid_self : (x : Ltxid) → same_ltxid x x ≡ true
ltxid_self x = (same_ltxid_decides x x).1 refl

outcome_self : (o : Outcome) → same_outcome o o ≡ true
outcome_self o =
    and_both (same_ltxid o.ltxid o.ltxid) (same_bool o.committed o.committed && same_bool o.completed o.completed) (ltxid_self o.ltxid)
    (and_both (same_bool o.committed o.committed) (same_bool o.completed o.completed) (same_self o.committed) (same_self o.completed))

-- one outcome more, in the order of steps and in that of the newest first
pub count-first : (o : Outcome) (outcomes : List Outcome) → count_by says_uncommitted (o ∷ outcomes) ≡ cond (says_uncommitted o) 1 0 + count_by says_uncommitted outcomes
count-first o outcomes = sum_by-cons (λ (one : Outcome). cond (says_uncommitted one) 1 0) o outcomes

pub count-last : (outcomes : List Heard) (o : Heard) → count_by is_uncommitted (outcomes ++ o ∷ []) ≡ count_by is_uncommitted outcomes + cond (is_uncommitted o) 1 0
count-last outcomes o = sum_by_push (λ (one : Heard). cond (is_uncommitted one) 1 0) outcomes o

count-told : (outcomes : List Heard) → count_by says_uncommitted (map told_outcome outcomes) ≡ count_by is_uncommitted outcomes
count-told [] = refl
count-told (o ∷ outcomes) =
    count-first (told_outcome o) (map told_outcome outcomes)
    ∙ ap (λ n. cond (is_uncommitted o) 1 0 + n) (count-told outcomes)
    ∙ sym (sum_by-cons (λ (one : Heard). cond (is_uncommitted one) 1 0) o outcomes)

-- the last outcome of the report is the last one that was heard
pub is_last : (copy : RequestReport) (outcomes : List Heard) (o : Heard) → copy.outcomes ≡ map told_outcome (outcomes ++ o ∷ []) → is_last_outcome (Some (told_outcome o)) copy ≡ true
is_last copy outcomes o is =
    ap (λ l. is_same_as (last_or None l)) (is ∙ map_push told_outcome outcomes o)
    ∙ ap is_same_as (last-last None (map told_outcome outcomes) (told_outcome o))
    ∙ outcome_self (told_outcome o)
  where
    is_same_as : Option Outcome → Bool
    is_same_as found = option_map_or (same_outcome (told_outcome o)) found false

-- and so many say uncommitted
pub count_is : (copy : RequestReport) (outcomes : List Heard) (o : Heard) → copy.outcomes ≡ map told_outcome (outcomes ++ o ∷ [])
    → count_uncommitted copy ≡ count_by is_uncommitted outcomes + cond (is_uncommitted o) 1 0
count_is copy outcomes o is = ap (count_by says_uncommitted) is ∙ count-told (outcomes ++ o ∷ []) ∙ count-last outcomes o

-- the event that ended the connection that was lost, among the same connections
pub ended_is : (a : Account) (steps all : List Step) (lost : Option Link) (event : ℕ) → ((link : Link) → has_held all link ≡ has_held steps link) → WasLost a steps lost → a.ended ≡ Some event
    → (0 < event) × (ended_of all lost ≡ event)
ended_is a steps all lost event held w is =
    let same : w.link.ended ≡ event = some_same w.link.ended event (sym w.ended ∙ is) in (
      subst (λ n. 0 < n) same w.is_event,
      ap (ended_of all) w.is_link ∙ ap (λ (b : Bool). if b then w.link.ended else 0) (held w.link ∙ w.held) ∙ same,
    )
  where
    some_same : (x y : ℕ) → Some x ≡ Some y → x ≡ y
    some_same x y e = cc

module _ (service : ServiceOf) (rules : Rules) (told : List Answer → List ℕ) where
  begin_outcomes : (a : Account) (b : Bool) (last : Option Up) → (λ (c : Account). c.outcomes) (record (begins a b) { last = last }) ≡ a.outcomes
  begin_outcomes a true last = refl
  begin_outcomes a false last = refl

  -- frames that are sent tell no outcome
  pub sent_outcomes : (now : ℕ) (frames : List Up) (a : Account) → (fold (sends (terms_by service rules told) now) a frames).outcomes ≡ a.outcomes
  sent_outcomes now [] a = refl
  sent_outcomes now (up.Connect ∷ frames) a = sent_outcomes now frames (sends (terms_by service rules told) now a up.Connect)
  sent_outcomes now (up.Begin settings ∷ frames) a = sent_outcomes now frames (sends (terms_by service rules told) now a (up.Begin settings)) ∙ begin_outcomes a a.begun (Some (up.Begin settings))
  sent_outcomes now (up.Call true kept call ∷ frames) a = sent_outcomes now frames (sends (terms_by service rules told) now a (up.Call true kept call))
  sent_outcomes now (up.Call false kept call ∷ frames) a = sent_outcomes now frames (sends (terms_by service rules told) now a (up.Call false kept call))
  sent_outcomes now (up.Outcome x ∷ frames) a = sent_outcomes now frames (sends (terms_by service rules told) now a (up.Outcome x))
  sent_outcomes now (up.End ∷ frames) a = sent_outcomes now frames (sends (terms_by service rules told) now a up.End)
  sent_outcomes now (up.Close ∷ frames) a = sent_outcomes now frames (sends (terms_by service rules told) now a up.Close)
