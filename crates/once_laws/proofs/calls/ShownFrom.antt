-- Each of the calls that were shown is from somewhere, by its index.
use Rattle.std.proofs.Common.{◌≡◌, ap, subst, arith, sym, Bool, true, ℕ, suc, zero, ◌+◌, List, [], ◌∷◌, Some}
use Rattle.std.specs.Prelude.{◌==◌, length, slice_get}
use Rattle.std.proofs.lemmas.Bool.{and_parts}
use Rattle.svc_values.specs.declared.answer.Answer.TheVariants as answer
use Rattle.svc_values.specs.meaning.Endings.{ends_committed}
use Rattle.svc_values.specs.meaning.Same.{same_answers}
use Rattle.svc_values.specs.SameLaws.{same_answers_decide}
use Rattle.outage_schedule.specs.declared.request.ShownCall.{ShownCall}
use Rattle.invariant_laws.specs.Shown.{all_from, is_from, shows_commit}
use Rattle.world_model.specs.Traced.{Traced, Course}

-- what an outcome shows ends with Committed
pub commit_ends : (shown : ShownCall) → shows_commit shown ≡ true → ends_committed shown.answers ≡ true
commit_ends shown is = ap ends_committed ((same_answers_decide shown.answers (answer.Committed ∷ [])).0 (and_parts (same_answers shown.answers (answer.Committed ∷ [])) (length shown.draws == 0) is).0)

-- a shown call of a list whose calls are all from somewhere
pub from_at : (completed : Bool) (t : Traced) (course : Course) (start : ℕ) (list : List ShownCall) (index place : ℕ) (shown : ShownCall) → place ≡ start + index → all_from completed t course start list ≡ true → slice_get list index ≡ Some shown
    → is_from completed t course place (slice_get course.request.calls place) shown ≡ true
from_at completed t course start [] index place shown at all there = absurd (let none : ⊥ = cc in none)
from_at completed t course start (first ∷ list) zero place shown at all there =
    let same : first ≡ shown = cc in
    let here : place ≡ start = omega (arith, at) in
    subst (λ (s : ShownCall). is_from completed t course place (slice_get course.request.calls place) s ≡ true) same
    (subst (λ (k : ℕ). is_from completed t course k (slice_get course.request.calls k) first ≡ true) (sym here) (and_parts (is_from completed t course start (slice_get course.request.calls start) first) _ all).0)
from_at completed t course start (first ∷ list) (suc index) place shown at all there =
    let later : place ≡ (start + 1) + index = omega (arith, at) in
    from_at completed t course (start + 1) list index place shown later (and_parts (is_from completed t course start (slice_get course.request.calls start) first) (all_from completed t course (start + 1) list) all).1 there
