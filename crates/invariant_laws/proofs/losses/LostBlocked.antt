-- A sending with a commit that was not answered, on a connection that its request lost: where the
-- request runs again without having shown its call, its identifier is blocked.
use Rattle.std.proofs.Common.{◌≡◌, refl, sym, ap, subst, ◌∙◌, Bool, true, false, ℕ, ◌+◌, ◌&&◌, ◌||◌, filter, List, [], ◌∷◌, Option, Some, None, ◌⊎◌, inl, inr}
use Rattle.std.specs.Prelude.{◌==◌, not, is_none}
use Rattle.std.specs.List.{list_all, list_any, last_or}
use Rattle.std.specs.Option.{option_map_or}
use Rattle.std.proofs.lemmas.Bool.{and_parts, and_from, or_cases, not-true}
use Rattle.std.proofs.lemmas.List.Folds.{list_any-append}
use Rattle.svc_values.specs.declared.entry.Ltxid.{Ltxid}
use Rattle.svc_values.specs.meaning.Identifiers.{same_ltxid}
use Rattle.svc_values.specs.meaning.Same.{same_bool}
use Rattle.svc_values.specs.SameLaws.{same_ltxid_decides}
use Rattle.outage_schedule.specs.declared.request.Outcome.{Outcome}
use Rattle.run_clauses.specs.meaning.Outcomes.{completed_of}
use Rattle.run_clauses.specs.meaning.Tried.{holds}
use Rattle.world_model.specs.meaning.Frames.{Owner}
use Rattle.world_model.specs.meaning.Links.{Link, link_at}
use Rattle.invariant_laws.specs.Lost.{fails_incomplete, is_blocked, is_failed_by, is_lost, is_nothing, is_pending, is_settled, is_stored, lost_links, lost_rightly, nothing_left, outcome_on, submitted_on, without_last}
use Rattle.invariant_laws.specs.Once.{tells_completed}
use Rattle.world_model.specs.Parts.{Sending, held_number, is_commit_call, is_rep, is_unmarked, number_of}
use Rattle.world_model.specs.Sames.{owned_by}
use Rattle.world_model.specs.Traced.{Traced, Course}
use Rattle.world_model.proofs.Offered.{filter_all, filter_passes, any_of_all, implied, eq_from, not_both}
use Rattle.invariant_laws.proofs.sendings.CommittedSendings.{commit_unmarked, last_found}
use Rattle.invariant_laws.proofs.sendings.Fates.{Waits}
use Rattle.invariant_laws.proofs.losses.LostLists.{last_split}
use Rattle.invariant_laws.proofs.rows.ShownNow.{all_last}

-- LISTS -------------------------------------------------------------------------------------------

-- one of these that is not the last one is one of those before it
pub not_last : (numbers : List ℕ) (number last : ℕ) → last_or None numbers ≡ Some last → (last ≡ number → ⊥) → list_any (λ other. other == number) numbers ≡ true → list_any (λ other. other == number) (without_last numbers) ≡ true
not_last numbers number last is other any =
    by (or_cases (list_any (λ one. one == number) (without_last numbers)) ((last == number) || false)
    (sym (list_any-append (λ one. one == number) (without_last numbers) (last ∷ [])) ∙ (ap (list_any (λ one. one == number)) (sym (last_split numbers last is)) ∙ any)))
  where
    at_last : (test : Bool) → (last == number) ≡ test → (test || false) ≡ true → ⊥
    at_last true same here = other (eq_from last number same)
    at_last false same here = let none : ⊥ = cc in none

    by : (list_any (λ one. one == number) (without_last numbers) ≡ true) ⊎ (((last == number) || false) ≡ true) → list_any (λ one. one == number) (without_last numbers) ≡ true
    by (inl before) = before
    by (inr now) = absurd (at_last (last == number) refl now)

-- one that a filter leaves in last is of the list
pub last_any_of : {A : Type 0} (test keep : A → Bool) (xs : List A) (x : A) → last_or None (filter keep xs) ≡ Some x → test x ≡ true → list_any test xs ≡ true
last_any_of test keep xs x is here = by (last_found test keep None xs x is here)
  where
    by : (None ≡ Some x) ⊎ (list_any test xs ≡ true) → list_any test xs ≡ true
    by (inl never) = absurd (let none : ⊥ = cc in none)
    by (inr any) = any

-- OUTCOMES ----------------------------------------------------------------------------------------

-- `unfailed`: it shows no error
module _ (t : Traced) (course : Course) (x : Ltxid) where
  abbrev is_of : Outcome → Bool
  is_of outcome = same_ltxid outcome.ltxid x

  outcome_of : (outcome : Outcome) → outcome_on course (Some x) ≡ Some outcome → outcome.ltxid ≡ x
  outcome_of outcome is = (same_ltxid_decides outcome.ltxid x).0 (all_last is_of None (filter is_of course.report.outcomes) outcome (λ one never. absurd (let none : ⊥ = cc in none)) (filter_passes is_of course.report.outcomes) is)

  pub blocked_on : option_map_or (λ outcome. not outcome.committed && holds t.blocked outcome.ltxid) (outcome_on course (Some x)) false ≡ true → holds t.blocked x ≡ true
  blocked_on here = by (outcome_on course (Some x)) refl here
    where
      by : (found : Option Outcome) → outcome_on course (Some x) ≡ found → option_map_or (λ outcome. not outcome.committed && holds t.blocked outcome.ltxid) found false ≡ true → holds t.blocked x ≡ true
      by None is here = absurd (let none : ⊥ = cc in none)
      by (Some outcome) is here = ap (holds t.blocked) (sym (outcome_of outcome is)) ∙ (and_parts (not outcome.committed) (holds t.blocked outcome.ltxid) here).1

  -- one that says committed is completed, or its request failed
  pub stored_on : list_all (is_failed_by course) course.report.outcomes ≡ true → option_map_or (λ outcome. outcome.committed && option_map_or (same_bool outcome.completed) (completed_of t.entries outcome.ltxid) false) (outcome_on course (Some x)) false ≡ true
      → (list_any (tells_completed x) course.report.outcomes ≡ true) ⊎ (fails_incomplete x course.report.failed ≡ true)
  stored_on failed here = by (outcome_on course (Some x)) refl here
    where
      kinds : (outcome : Outcome) → outcome_on course (Some x) ≡ Some outcome → outcome.committed ≡ true → (completed : Bool) → outcome.completed ≡ completed → (list_any (tells_completed x) course.report.outcomes ≡ true) ⊎ (fails_incomplete x course.report.failed ≡ true)
      kinds outcome is committed true completed =
          inl (last_any_of (tells_completed x) is_of course.report.outcomes outcome is
          (and_from (same_ltxid outcome.ltxid x) (outcome.committed && outcome.completed) ((same_ltxid_decides outcome.ltxid x).1 (outcome_of outcome is)) (and_from outcome.committed outcome.completed committed completed)))
      kinds outcome is committed false incomplete =
          inr (subst (λ (y : Ltxid). fails_incomplete y course.report.failed ≡ true) (outcome_of outcome is)
          (implied (outcome.committed && not outcome.completed) (fails_incomplete outcome.ltxid course.report.failed) (and_from outcome.committed (not outcome.completed) committed (ap not incomplete))
          (all_last (is_failed_by course) None (filter is_of course.report.outcomes) outcome (λ one never. absurd (let none : ⊥ = cc in none)) (filter_all (is_failed_by course) is_of course.report.outcomes failed) is)))

      by : (found : Option Outcome) → outcome_on course (Some x) ≡ found → option_map_or (λ outcome. outcome.committed && option_map_or (same_bool outcome.completed) (completed_of t.entries outcome.ltxid) false) found false ≡ true
          → (list_any (tells_completed x) course.report.outcomes ≡ true) ⊎ (fails_incomplete x course.report.failed ≡ true)
      by None is here = absurd (let none : ⊥ = cc in none)
      by (Some outcome) is here = kinds outcome is (and_parts outcome.committed (option_map_or (same_bool outcome.completed) (completed_of t.entries outcome.ltxid) false) here).0 outcome.completed refl

-- ONE THAT WAITS ----------------------------------------------------------------------------------

-- what a connection that was lost tells of a call that waits there
pub data Ended (t : Traced) (course : Course) (link : Link) (x : Ltxid) : Type 0 where
  Pends : is_pending course link ≡ true → Ended t course link x
  Blocks : holds t.blocked x ≡ true → Ended t course link x
  Completes : list_any (tells_completed x) course.report.outcomes ≡ true → Ended t course link x
  Fails : fails_incomplete x course.report.failed ≡ true → Ended t course link x

module _ (t : Traced) (course : Course) (sending : Sending) (link : Link) (own : sending.owner ≡ course.owner) (waits : Waits sending link) where
  -- its call was sent there
  submits : submitted_on course link ≡ true
  submits =
      let one = and_parts (is_commit_call waits.frame) (owned_by sending.owner waits.frame && (waits.frame.call == sending.at)) waits.is in
      let mine = and_parts (owned_by sending.owner waits.frame) (waits.frame.call == sending.at) one.1 in
      last_any_of (λ sent. owned_by course.owner sent && is_unmarked sent) is_rep link.sent waits.frame waits.last
      (and_from (owned_by course.owner waits.frame) (is_unmarked waits.frame) (subst (λ (o : Owner). owned_by o waits.frame ≡ true) own mine.0) (commit_unmarked waits.frame.frame one.0))

  settled_ends : list_all (is_failed_by course) course.report.outcomes ≡ true → is_settled t course link ≡ true → Ended t course link sending.ltxid
  settled_ends failed here = by (or_cases (is_nothing course link) (is_pending course link || (is_blocked t course link || is_stored t course link)) here)
    where
      told : (is_blocked t course link ≡ true) ⊎ (is_stored t course link ≡ true) → Ended t course link sending.ltxid
      told (inl blocked) = Blocks (blocked_on t course sending.ltxid (subst (λ (held : Option Ltxid). option_map_or (λ outcome. not outcome.committed && holds t.blocked outcome.ltxid) (outcome_on course held) false ≡ true) waits.held blocked))
      told (inr stored) =
          kinds (stored_on t course sending.ltxid failed
          (subst (λ (held : Option Ltxid). option_map_or (λ outcome. outcome.committed && option_map_or (same_bool outcome.completed) (completed_of t.entries outcome.ltxid) false) (outcome_on course held) false ≡ true) waits.held
          (and_parts _ ((number_of t.entries link == held_number link + 1) && nothing_left link) stored).0))
        where
          kinds : (list_any (tells_completed sending.ltxid) course.report.outcomes ≡ true) ⊎ (fails_incomplete sending.ltxid course.report.failed ≡ true) → Ended t course link sending.ltxid
          kinds (inl completed) = Completes completed
          kinds (inr incomplete) = Fails incomplete

      rest : (is_pending course link ≡ true) ⊎ ((is_blocked t course link || is_stored t course link) ≡ true) → Ended t course link sending.ltxid
      rest (inl pending) = Pends pending
      rest (inr some) = told (or_cases (is_blocked t course link) (is_stored t course link) some)

      by : (is_nothing course link ≡ true) ⊎ ((is_pending course link || (is_blocked t course link || is_stored t course link)) ≡ true) → Ended t course link sending.ltxid
      by (inl nothing) = absurd (not_both (submitted_on course link) submits (not-true (submitted_on course link) (and_parts (is_none (outcome_on course link.held)) (not (submitted_on course link)) nothing).1))
      by (inr some) = rest (or_cases (is_pending course link) (is_blocked t course link || is_stored t course link) some)

  pub lost_ends : list_all (is_failed_by course) course.report.outcomes ≡ true → lost_rightly t course ≡ true → link_at t.machine.links sending.connection ≡ Some link → list_any (λ other. other == sending.connection) (lost_links course) ≡ true → Ended t course link sending.ltxid
  lost_ends failed lost there among =
      settled_ends failed
      (and_parts (not link.is_open) (is_settled t course link)
      (sym (ap (λ (found : Option Link). option_map_or (is_lost t course) found false) there) ∙ any_of_all (λ number. option_map_or (is_lost t course) (link_at t.machine.links number) false) (lost_links course) sending.connection lost among)).1
