-- Where each request's steps are quiet up to its first session, the parts of a client are its
-- requests' from there on.
use Rattle.std.proofs.Common.{◌≡◌, refl, sym, ap, subst, ◌∙◌, append-nil, append_assoc, Bool, true, false, ℕ, zero, suc, length, List, [], ◌∷◌, ◌++◌, map, cond, Option, Some, None, ◌⊎◌, inl, inr, arith}
use Rattle.std.specs.Prelude.{filter_map, is_some}
use Rattle.std.specs.List.{cons_option}
use Rattle.std.proofs.lemmas.List.{map-append}
use Rattle.std.proofs.lemmas.List.Elements.{filter_map-append}
use Rattle.svc_values.specs.declared.entry.SessionId.{SessionId}
use Rattle.shown_clauses.specs.meaning.Parts.{Part, acquires}
use Rattle.shown_clauses.specs.meaning.Steps.{Step}
use Rattle.world_model.specs.meaning.Clients.{Past}
use Rattle.shown_laws.specs.PartsTold.{OfEach, HasIts, IsQuiet, Opens, Never, At, Split, IsPartOf, ArePartsOf, NoParts, OnePart}
use Rattle.shown_laws.specs.Submitted.{submission_of}
use Rattle.shown_laws.specs.Tellings.{Telling, steps_in_tellings, joined}
use Rattle.shown_laws.proofs.steps.PartsCut.{upto, from, cut}

-- the sessions that steps acquired
abbrev pub sessions_told : List Step → List SessionId
sessions_told steps = filter_map (λ step. step.session) steps

-- OF EACH -----------------------------------------------------------------------------------------

pub each_append : (P : Step → Type 0) (xs ys : List Step) → OfEach P xs → OfEach P ys → OfEach P (xs ++ ys)
each_append P [] ys all more = more
each_append P (x ∷ xs) ys all more = (all.0, each_append P xs ys all.1 more)

each_behind : (P : Step → Type 0) (xs ys : List Step) → OfEach P (xs ++ ys) → OfEach P ys
each_behind P [] ys all = all
each_behind P (x ∷ xs) ys all = each_behind P xs ys all.1

-- what steps give that quiet ones do not
pub quiet_gives : {A : Type 0} (gives : Step → Option A) → ((step : Step) → IsQuiet step → gives step ≡ None) → (steps : List Step) → OfEach IsQuiet steps → filter_map gives steps ≡ []
quiet_gives {A = A} gives none [] all = refl
quiet_gives {A = A} gives none (step ∷ steps) all = ap (λ (one : Option A). cons_option one (filter_map gives steps)) (none step all.0) ∙ quiet_gives gives none steps all.1

-- a part gives what its request does
pub part_gives : {A : Type 0} (gives : Step → Option A) → ((step : Step) → IsQuiet step → gives step ≡ None) → (steps : List Step) (part : Part) → IsPartOf steps part → filter_map gives part.steps ≡ filter_map gives steps
part_gives {A = A} gives none steps part is =
    ap (filter_map gives) is.is
    ∙ (filter_map-append gives is.own is.behind
    ∙ (ap (λ (l : List A). filter_map gives is.own ++ l) (quiet_gives gives none is.behind is.quiet_behind)
    ∙ (append-nil (filter_map gives is.own)
    ∙ sym (ap (filter_map gives) is.all ∙ (filter_map-append gives is.before is.own ∙ ap (λ (l : List A). l ++ filter_map gives is.own) (quiet_gives gives none is.before is.quiet))))))

-- FRONTS ------------------------------------------------------------------------------------------

upto_quiet : (steps rest : List Step) → OfEach IsQuiet steps → upto zero (steps ++ rest) ≡ steps ++ upto zero rest
upto_quiet [] rest all = refl
upto_quiet (step ∷ steps) rest all =
    ap (λ (b : Bool). cond b [] (step ∷ upto zero (steps ++ rest))) all.0.acquires_none ∙ ap (λ (l : List Step). step ∷ l) (upto_quiet steps rest all.1)

from_quiet : (steps rest : List Step) → OfEach IsQuiet steps → from zero (steps ++ rest) ≡ from zero rest
from_quiet [] rest all = refl
from_quiet (step ∷ steps) rest all = ap (λ (b : Bool). cond b (step ∷ steps ++ rest) (from zero (steps ++ rest))) all.0.acquires_none ∙ from_quiet steps rest all.1

upto_opened : (first : Step) (later : List Step) → acquires first ≡ true → upto zero (first ∷ later) ≡ []
upto_opened first later opens = ap (λ (b : Bool). cond b [] (first ∷ upto zero later)) opens

from_opened : (first : Step) (later : List Step) → acquires first ≡ true → from zero (first ∷ later) ≡ first ∷ later
from_opened first later opens = ap (λ (b : Bool). cond b (first ∷ later) (from zero later)) opens

upto_from : (steps : List Step) → upto zero (from zero steps) ≡ []
upto_from [] = refl
upto_from (step ∷ steps) = by (acquires step) refl (upto_from steps)
  where
    by : (test : Bool) → acquires step ≡ test → upto zero (from zero steps) ≡ [] → upto zero (cond test (step ∷ steps) (from zero steps)) ≡ []
    by true is rest = upto_opened step steps is
    by false is rest = rest

from_from : (steps : List Step) → from zero (from zero steps) ≡ from zero steps
from_from [] = refl
from_from (step ∷ steps) = by (acquires step) refl (from_from steps)
  where
    by : (test : Bool) → acquires step ≡ test → from zero (from zero steps) ≡ from zero steps → from zero (cond test (step ∷ steps) (from zero steps)) ≡ cond test (step ∷ steps) (from zero steps)
    by true is rest = from_opened step steps is
    by false is rest = rest

-- as many as are acquired
cut_own : (count : ℕ) (own rest : List Step) → OfEach HasIts own → length (sessions_told own) ≡ count → (upto count (own ++ rest) ≡ own ++ upto zero rest) × (from count (own ++ rest) ≡ from zero rest)
cut_own zero [] rest all is = (refl, refl)
cut_own (suc count) [] rest all is = absurd (let none : ⊥ = cc in none)
cut_own count (step ∷ own) rest all is = by count step.session all.0 is (λ more same. cut_own more own rest all.1 same)
  where
    by : (count : ℕ) (found : Option SessionId) → acquires step ≡ is_some found → length (cons_option found (sessions_told own)) ≡ count
        → ((more : ℕ) → length (sessions_told own) ≡ more → (upto more (own ++ rest) ≡ own ++ upto zero rest) × (from more (own ++ rest) ≡ from zero rest))
        → (upto count (step ∷ own ++ rest) ≡ step ∷ own ++ upto zero rest) × (from count (step ∷ own ++ rest) ≡ from zero rest)
    by zero (Some session) has is more = absurd (let none : ⊥ = cc in none)
    by zero None has is more =
        let next = more zero is in (
          ap (λ (b : Bool). cond b [] (step ∷ upto zero (own ++ rest))) has ∙ ap (λ (l : List Step). step ∷ l) next.0,
          ap (λ (b : Bool). cond b (step ∷ own ++ rest) (from zero (own ++ rest))) has ∙ next.1,
        )
    by (suc count) (Some session) has is more =
        let less : length (sessions_told own) ≡ count = omega (arith, is) in
        let next = more count less in (
          ap (λ (b : Bool). step ∷ cond b (upto count (own ++ rest)) (upto (suc count) (own ++ rest))) has ∙ ap (λ (l : List Step). step ∷ l) next.0,
          ap (λ (b : Bool). cond b (from count (own ++ rest)) (from (suc count) (own ++ rest))) has ∙ next.1,
        )
    by (suc count) None has is more =
        let next = more (suc count) is in (
          ap (λ (b : Bool). step ∷ cond b (upto count (own ++ rest)) (upto (suc count) (own ++ rest))) has ∙ ap (λ (l : List Step). step ∷ l) next.0,
          ap (λ (b : Bool). cond b (from count (own ++ rest)) (from (suc count) (own ++ rest))) has ∙ next.1,
        )

-- REQUESTS ----------------------------------------------------------------------------------------

-- Each request has as many sessions in its report as its steps acquired, and is quiet up to the
-- first.
pub data AreSplit : List Past → List (List Telling) → Type 0 where
  NoneSplit : AreSplit [] []
  OneSplit : (one : Past) (past : List Past) (tellings : List Telling) (more : List (List Telling)) → Split (steps_in_tellings tellings) → OfEach HasIts (steps_in_tellings tellings)
      → length (sessions_told (steps_in_tellings tellings)) ≡ length one.report.sessions → AreSplit past more → AreSplit (one ∷ past) (tellings ∷ more)

abbrev pub all_told : List (List Telling) → List Step
all_told told = steps_in_tellings (joined told)

pub told_more : (tellings : List Telling) (more : List (List Telling)) → all_told (tellings ∷ more) ≡ steps_in_tellings tellings ++ all_told more
told_more tellings more = map-append (λ (one : Telling). one.step) tellings (joined more)

-- what stands first of all of them is quiet
quiet_front : (past : List Past) (told : List (List Telling)) → AreSplit past told → OfEach IsQuiet (upto zero (all_told told))
quiet_front _ _ NoneSplit = tt
quiet_front _ _ (OneSplit one past tellings more split has many rest) =
    subst (OfEach IsQuiet)
    (sym (ap (upto zero) (told_more tellings more ∙ (ap (λ (l : List Step). l ++ all_told more) split.all ∙ append_assoc split.before split.own (all_told more))) ∙ upto_quiet split.before (split.own ++ all_told more) split.quiet))
    (each_append IsQuiet split.before (upto zero (split.own ++ all_told more)) split.quiet (by split.own split.opens (quiet_front past more rest)))
  where
    by : (own : List Step) → Opens own → OfEach IsQuiet (upto zero (all_told more)) → OfEach IsQuiet (upto zero (own ++ all_told more))
    by _ Never after = after
    by _ (At first later opens) after = subst (OfEach IsQuiet) (sym (upto_opened first (later ++ all_told more) opens)) tt

-- The first of them is cut off, where all is there or what was quiet in front is gone.
pub record CutsOff (one : Past) (tellings : List Telling) (more : List (List Telling)) (steps : List Step) : Type 0 where
  pub part : IsPartOf (steps_in_tellings tellings) (record { submission = submission_of one; steps = upto (length one.report.sessions) steps })
  pub rest : from (length one.report.sessions) steps ≡ from zero (all_told more)

cuts_whole : (one : Past) (tellings : List Telling) (more : List (List Telling)) (steps : List Step) → OfEach HasIts (steps_in_tellings tellings) → length (sessions_told (steps_in_tellings tellings)) ≡ length one.report.sessions
    → OfEach IsQuiet (upto zero (all_told more)) → steps ≡ steps_in_tellings tellings ++ all_told more → CutsOff one tellings more steps
cuts_whole one tellings more steps has many quiet is =
    let both = cut_own (length one.report.sessions) (steps_in_tellings tellings) (all_told more) has many in
    record {
      part = record {
        before = [];
        own = steps_in_tellings tellings;
        behind = upto zero (all_told more);
        all = refl;
        is = ap (upto (length one.report.sessions)) is ∙ both.0;
        quiet = tt;
        quiet_behind = quiet;
      };
      rest = ap (from (length one.report.sessions)) is ∙ both.1;
    }

sessions_own : (steps before own : List Step) → steps ≡ before ++ own → OfEach IsQuiet before → sessions_told steps ≡ sessions_told own
sessions_own steps before own all quiet =
    ap sessions_told all
    ∙ (filter_map-append (λ (step : Step). step.session) before own ∙ ap (λ (l : List SessionId). l ++ sessions_told own) (quiet_gives (λ step. step.session) (λ step is. is.has_none) before quiet))

cuts_rest : (one : Past) (tellings : List Telling) (more : List (List Telling)) (steps : List Step) (split : Split (steps_in_tellings tellings)) → OfEach HasIts (steps_in_tellings tellings)
    → length (sessions_told (steps_in_tellings tellings)) ≡ length one.report.sessions → OfEach IsQuiet (upto zero (all_told more)) → steps ≡ from zero (steps_in_tellings tellings ++ all_told more) → CutsOff one tellings more steps
cuts_rest one tellings more steps split has many quiet is =
    by split.own split.opens split.all (each_behind HasIts split.before split.own (subst (OfEach HasIts) split.all has))
    (is ∙ (ap (λ (l : List Step). from zero (l ++ all_told more)) split.all ∙ (ap (from zero) (append_assoc split.before split.own (all_told more)) ∙ from_quiet split.before (split.own ++ all_told more) split.quiet)))
  where
    by : (own : List Step) → Opens own → steps_in_tellings tellings ≡ split.before ++ own → OfEach HasIts own → steps ≡ from zero (own ++ all_told more) → CutsOff one tellings more steps
    by _ Never all has from_here =
        let none : 0 ≡ length one.report.sessions = sym (ap length (sessions_own (steps_in_tellings tellings) split.before [] all split.quiet)) ∙ many in
        record {
          part = record {
            before = split.before;
            own = [];
            behind = [];
            all = all;
            is = ap (λ (l : List Step). upto (length one.report.sessions) l) from_here ∙ (ap (λ (count : ℕ). upto count (from zero (all_told more))) (sym none) ∙ upto_from (all_told more));
            quiet = split.quiet;
            quiet_behind = tt;
          };
          rest = ap (λ (l : List Step). from (length one.report.sessions) l) from_here ∙ (ap (λ (count : ℕ). from count (from zero (all_told more))) (sym none) ∙ from_from (all_told more));
        }
    by _ (At first later opens) all has from_here =
        let as_many : length (sessions_told (first ∷ later)) ≡ length one.report.sessions = sym (ap length (sessions_own (steps_in_tellings tellings) split.before (first ∷ later) all split.quiet)) ∙ many in
        let both = cut_own (length one.report.sessions) (first ∷ later) (all_told more) has as_many in
        let here : steps ≡ first ∷ later ++ all_told more = from_here ∙ from_opened first (later ++ all_told more) opens in
        record {
          part = record {
            before = split.before;
            own = first ∷ later;
            behind = upto zero (all_told more);
            all = all;
            is = ap (upto (length one.report.sessions)) here ∙ both.0;
            quiet = split.quiet;
            quiet_behind = quiet;
          };
          rest = ap (from (length one.report.sessions)) here ∙ both.1;
        }

-- ALL PARTS ---------------------------------------------------------------------------------------

pub cut_split : (past : List Past) (told : List (List Telling)) (steps : List Step) → AreSplit past told → (steps ≡ all_told told) ⊎ (steps ≡ from zero (all_told told)) → ArePartsOf past told (cut (map submission_of past) steps)
cut_split _ _ steps NoneSplit is = NoParts
cut_split _ _ steps (OneSplit one past tellings more split has many rest) is =
    let off = by is in
    OnePart one past tellings more (record { submission = submission_of one; steps = upto (length one.report.sessions) steps }) (cut (map submission_of past) (from (length one.report.sessions) steps)) refl off.part
    (cut_split past more (from (length one.report.sessions) steps) rest (inr off.rest))
  where
    by : (steps ≡ all_told (tellings ∷ more)) ⊎ (steps ≡ from zero (all_told (tellings ∷ more))) → CutsOff one tellings more steps
    by (inl whole) = cuts_whole one tellings more steps has many (quiet_front past more rest) (whole ∙ told_more tellings more)
    by (inr part) = cuts_rest one tellings more steps split has many (quiet_front past more rest) (part ∙ ap (from zero) (told_more tellings more))
