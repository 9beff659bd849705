-- Of all sendings of a run: what holds of one, and whose it is.
use Rattle.std.proofs.Common.{◌≡◌, refl, sym, ◌∙◌, Bool, true, false, ℕ, ◌||◌, filter, flat_map, List, [], ◌∷◌, Some}
use Rattle.std.specs.Prelude.{slice_get}
use Rattle.std.specs.List.{list_all, list_any}
use Rattle.std.proofs.lemmas.List.Folds.{list_any-append}
use Rattle.svc_values.specs.meaning.Calls.{has_commit}
use Rattle.invariant_laws.specs.Once.{all_sendings}
use Rattle.world_model.specs.Parts.{Sending, commit_sendings, sendings_of}
use Rattle.world_model.specs.Sames.{same_owner}
use Rattle.world_model.specs.Traced.{Traced, Course, courses_of}
use Rattle.world_model.proofs.Offered.{at_all, scan_by, same_owner_is}
use Rattle.invariant_laws.proofs.Offered.{each_flat, scan_owned}
use Rattle.once_laws.proofs.calls.CallRows.{is_from}
use Rattle.once_laws.proofs.calls.OneCourse.{any_at}

-- SENDINGS ----------------------------------------------------------------------------------------

-- a sending with a commit, and its request
pub record InSendings (t : Traced) (test : Sending → Bool) : Type 0 where
  pub number : ℕ
  pub course : Course
  pub at : slice_get (courses_of t) number ≡ Some course
  pub place : ℕ
  pub sending : Sending
  pub there : slice_get (commit_sendings course) place ≡ Some sending
  pub passes : test sending ≡ true

any_parts : {A B : Type 0} (test : B → Bool) (parts : A → List B) (xs : List A) → list_any test (flat_map parts xs) ≡ true → list_any (λ x. list_any test (parts x)) xs ≡ true
any_parts test parts [] any = any
any_parts test parts (x ∷ xs) any = by (list_any test (parts x)) (any_parts test parts xs) (sym (list_any-append test (parts x) (flat_map parts xs)) ∙ any)
  where
    by : (here : Bool) → (list_any test (flat_map parts xs) ≡ true → list_any (λ y. list_any test (parts y)) xs ≡ true) → (here || list_any test (flat_map parts xs)) ≡ true → (here || list_any (λ y. list_any test (parts y)) xs) ≡ true
    by true later any = refl
    by false later any = later any

pub in_sendings : (t : Traced) (test : Sending → Bool) → list_any test (all_sendings t) ≡ true → InSendings t test
in_sendings t test any =
    let first = any_at (λ (course : Course). list_any test (commit_sendings course)) (courses_of t) (any_parts test commit_sendings (courses_of t) any) in
    let second = any_at test (commit_sendings first.1.0) first.1.1.1 in
    record { number = first.0; course = first.1.0; at = first.1.1.0; place = second.0; sending = second.1.0; there = second.1.1.0; passes = second.1.1.1 }

-- what holds of all holds of one
pub of_all : (t : Traced) (test : Sending → Bool) (number : ℕ) (course : Course) (place : ℕ) (sending : Sending) → list_all test (all_sendings t) ≡ true → slice_get (courses_of t) number ≡ Some course → slice_get (commit_sendings course) place ≡ Some sending → test sending ≡ true
of_all t test number course place sending all at there =
    at_all test (commit_sendings course) place sending (at_all (λ (c : Course). list_all test (commit_sendings c)) (courses_of t) number course (each_flat test commit_sendings (courses_of t) all) at) there

filter_got : {A : Type 0} (test keep : A → Bool) (xs : List A) (place : ℕ) (x : A) → list_all test xs ≡ true → slice_get (filter keep xs) place ≡ Some x → test x ≡ true
filter_got test keep xs place x all at = let found = is_from keep xs place x at in at_all test xs found.place x all found.at

-- each is of its request
pub its_owner : (course : Course) (place : ℕ) (sending : Sending) → slice_get (commit_sendings course) place ≡ Some sending → sending.owner ≡ course.owner
its_owner course place sending at =
    same_owner_is sending.owner course.owner
    (filter_got (λ (s : Sending). same_owner s.owner course.owner) (λ (s : Sending). has_commit s.call) (sendings_of course) place sending (scan_owned course.owner (scan_by course.owner []) course.steps refl refl) at)
