-- Where each connection is opened once, a call that is repeated is one that was shown before the
-- first opening.
use Rattle.std.proofs.Common.{◌≡◌, refl, subst, Bool, true, false, ℕ, zero, suc, ◌+◌, ◌<◌, ◌≤◌, ◌&&◌, length, List, [], ◌∷◌, ◌++◌, Some, ◌⊎◌, inl, inr, if◌then◌else◌, arith}
use Rattle.std.specs.Prelude.{slice_get}
use Rattle.std.specs.List.{list_all}
use Rattle.std.specs.Option.{option_map_or}
use Rattle.std.proofs.lemmas.Bool.{and_parts, or_cases}
use Rattle.std.proofs.lemmas.Bool.Decides.{nat_tests}
use Rattle.outage_schedule.specs.declared.document.Request.{Request}
use Rattle.client_model.specs.declared.input.Input.{Input}
use Rattle.client_model.specs.declared.input.Input.TheVariants.{Start, Waiting, Lent, Opened, TryFailed, Took, Gone}
use Rattle.client_model.specs.meaning.Terms.{Terms}
use Rattle.world_model.specs.meaning.Clients.{Step}
use Rattle.world_model.specs.meaning.Links.{Link, link_at}
use Rattle.replay_laws.specs.OpenedOnce.{opens_above, last_opened, rise_within, opened_once}
use Rattle.world_model.specs.Parts.{implies}
use Rattle.invariant_laws.specs.Replayed.{shown_at, is_repeated, opens, repeats_from, is_replayed, replays_on, replay_shown, before_opening, RunsReplayShown}
use Rattle.invariant_laws.specs.SameLaws.{HoldsInRuns}
use Rattle.world_model.specs.Sames.{owned_by}
use Rattle.invariant_laws.specs.Shown.{is_marked}
use Rattle.world_model.specs.Traced.{Course, courses_of}

-- LISTS -------------------------------------------------------------------------------------------

pub one_of : {A : Type 0} (test : A → Bool) (xs : List A) (index : ℕ) (x : A) → list_all test xs ≡ true → slice_get xs index ≡ Some x → test x ≡ true
one_of test [] index x all is = absurd (let none : ⊥ = cc in none)
one_of test (first ∷ xs) zero x all is = let same : first ≡ x = cc in subst (λ y. test y ≡ true) same (and_parts (test first) (list_all test xs) all).0
one_of test (first ∷ xs) (suc index) x all is = one_of test xs index x (and_parts (test first) (list_all test xs) all).1 is

link_of : (terms : Terms) (course : Course) (start : ℕ) (links : List Link) (index : ℕ) (link : Link) → replays_on terms course start links ≡ true → slice_get links index ≡ Some link → list_all (is_replayed terms course (start + index)) link.sent ≡ true
link_of terms course start [] index link all is = absurd (let none : ⊥ = cc in none)
link_of terms course start (first ∷ links) zero link all is =
    let same : first ≡ link = cc in
    let here : start ≡ start + 0 = omega arith in
    subst (λ (n : ℕ). list_all (is_replayed terms course n) link.sent ≡ true) here
    (subst (λ (l : Link). list_all (is_replayed terms course start) l.sent ≡ true) same (and_parts (list_all (is_replayed terms course start) first.sent) (replays_on terms course (start + 1) links) all).0)
link_of terms course start (first ∷ links) (suc index) link all is =
    let further : (start + 1) + index ≡ start + suc index = omega arith in
    subst (λ (n : ℕ). list_all (is_replayed terms course n) link.sent ≡ true) further
    (link_of terms course (start + 1) links index link (and_parts (list_all (is_replayed terms course start) first.sent) (replays_on terms course (start + 1) links) all).1 is)

-- OPENINGS ----------------------------------------------------------------------------------------

-- an opening is above the last one before it
above : (last number : ℕ) (input : Input) → opens_above last input ≡ true → opens number input ≡ true → last < number
above last number (Opened connection) rises is = grind (arith, nat_tests, rises, is)
above last number Start rises is = absurd (let none : ⊥ = cc in none)
above last number Waiting rises is = absurd (let none : ⊥ = cc in none)
above last number (Lent connection ltxid) rises is = absurd (let none : ⊥ = cc in none)
above last number TryFailed rises is = absurd (let none : ⊥ = cc in none)
above last number (Took frame alive) rises is = absurd (let none : ⊥ = cc in none)
above last number (Gone event) rises is = absurd (let none : ⊥ = cc in none)

still_above : (last number : ℕ) (input : Input) → opens_above last input ≡ true → number ≤ last → number ≤ last_opened last input
still_above last number (Opened connection) rises least = grind (arith, nat_tests, rises, least)
still_above last number Start rises least = least
still_above last number Waiting rises least = least
still_above last number (Lent connection ltxid) rises least = least
still_above last number TryFailed rises least = least
still_above last number (Took frame alive) rises least = least
still_above last number (Gone event) rises least = least

opened_last : (last number : ℕ) (input : Input) → opens number input ≡ true → number ≤ last_opened last input
opened_last last number (Opened connection) is = grind (arith, nat_tests, is)
opened_last last number Start is = absurd (let none : ⊥ = cc in none)
opened_last last number Waiting is = absurd (let none : ⊥ = cc in none)
opened_last last number (Lent connection ltxid) is = absurd (let none : ⊥ = cc in none)
opened_last last number TryFailed is = absurd (let none : ⊥ = cc in none)
opened_last last number (Took frame alive) is = absurd (let none : ⊥ = cc in none)
opened_last last number (Gone event) is = absurd (let none : ⊥ = cc in none)

module _ (terms : Terms) (request : Request) (number call limit : ℕ) where
  abbrev later : List Step → List Step → Bool
  later before steps = repeats_from terms request number call before steps

  abbrev here : List Step → Step → Bool
  here before step = opens number step.done.input && is_repeated (shown_at terms request before) call

  -- none is opened again behind it
  none_later : (last : ℕ) (before steps : List Step) → rise_within last limit steps ≡ true → number ≤ last → later before steps ≡ true → ⊥
  none_later last before [] rises least is = let none : ⊥ = cc in none
  none_later last before (step ∷ steps) rises least is =
      let parts = and_parts (opens_above last step.done.input) (rise_within (last_opened last step.done.input) limit steps) rises in
      by parts.0 (λ so. none_later (last_opened last step.done.input) (before ++ step ∷ []) steps parts.1 (still_above last number step.done.input parts.0 least) so) (or_cases (here before step) (later (before ++ step ∷ []) steps) is)
    where
      by : opens_above last step.done.input ≡ true → (later (before ++ step ∷ []) steps ≡ true → ⊥) → (here before step ≡ true) ⊎ (later (before ++ step ∷ []) steps ≡ true) → ⊥
      by rise never (inl so) = let over : last < number = above last number step.done.input rise (and_parts (opens number step.done.input) (is_repeated (shown_at terms request before) call) so).0 in omega (arith, over, least)
      by rise never (inr so) = never so

  from_first : (last : ℕ) (before steps : List Step) → rise_within last limit steps ≡ true → later before steps ≡ true → option_map_or (λ (found : List Step). is_repeated (shown_at terms request found) call) (before_opening number before steps) false ≡ true
  from_first last before [] rises is = absurd (let none : ⊥ = cc in none)
  from_first last before (step ∷ steps) rises is =
      let parts = and_parts (opens_above last step.done.input) (rise_within (last_opened last step.done.input) limit steps) rises in
      by (opens number step.done.input) refl (λ so. from_first (last_opened last step.done.input) (before ++ step ∷ []) steps parts.1 so)
      (λ opened so. none_later (last_opened last step.done.input) (before ++ step ∷ []) steps parts.1 (opened_last last number step.done.input opened) so) (or_cases (here before step) (later (before ++ step ∷ []) steps) is)
    where
      by : (test : Bool) → opens number step.done.input ≡ test
          → (later (before ++ step ∷ []) steps ≡ true → option_map_or (λ (found : List Step). is_repeated (shown_at terms request found) call) (before_opening number (before ++ step ∷ []) steps) false ≡ true)
          → (opens number step.done.input ≡ true → later (before ++ step ∷ []) steps ≡ true → ⊥) → (here before step ≡ true) ⊎ (later (before ++ step ∷ []) steps ≡ true)
          → option_map_or (λ (found : List Step). is_repeated (shown_at terms request found) call) (if test then Some before else before_opening number (before ++ step ∷ []) steps) false ≡ true
      by true opened again never (inl so) = (and_parts (opens number step.done.input) (is_repeated (shown_at terms request before) call) so).1
      by true opened again never (inr so) = absurd (never opened so)
      by false closed again never (inl so) = absurd (let yes : opens number step.done.input ≡ true = (and_parts (opens number step.done.input) (is_repeated (shown_at terms request before) call) so).0 in let none : ⊥ = cc in none)
      by false closed again never (inr so) = again so

-- RUNS --------------------------------------------------------------------------------------------

replayed_so : (owned marked repeats : Bool) → owned ≡ true → marked ≡ true → implies (owned && marked) repeats ≡ true → repeats ≡ true
replayed_so true true repeats mine mark is = is
replayed_so false marked repeats mine mark is = absurd (let none : ⊥ = cc in none)
replayed_so true false repeats mine mark is = absurd (let none : ⊥ = cc in none)

linked : (terms : Terms) (course : Course) (links : List Link) (number : ℕ) (link : Link) → replays_on terms course 1 links ≡ true → link_at links number ≡ Some link → list_all (is_replayed terms course number) link.sent ≡ true
linked terms course links zero link all is = absurd (let none : ⊥ = cc in none)
linked terms course links (suc index) link all is = let same : 1 + index ≡ suc index = omega arith in subst (λ (n : ℕ). list_all (is_replayed terms course n) link.sent ≡ true) same (link_of terms course 1 links index link all is)

pub runs_replay_shown : HoldsInRuns replay_shown → HoldsInRuns opened_once → RunsReplayShown
runs_replay_shown replays once document events notes items seen t calls reached place course at number link there index sent among owned marked =
    let all : list_all (is_replayed t.setting.terms course number) link.sent ≡ true =
    linked t.setting.terms course t.machine.links number link (one_of (λ (c : Course). replays_on t.setting.terms c 1 t.machine.links) (courses_of t) place course (replays document events notes items seen t calls reached) at) there in
    let rises : rise_within 0 (length t.machine.links) course.steps ≡ true = one_of (λ (c : Course). rise_within 0 (length t.machine.links) c.steps) (courses_of t) place course (once document events notes items seen t calls reached) at in
    from_first t.setting.terms course.request number sent.call (length t.machine.links) 0 [] course.steps rises
    (replayed_so (owned_by course.owner sent) (is_marked sent.frame) (repeats_from t.setting.terms course.request number sent.call [] course.steps) owned marked (one_of (is_replayed t.setting.terms course number) link.sent index sent all among))
