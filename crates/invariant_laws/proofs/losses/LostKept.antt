-- A test of each request that speaks of the connections that it lost: it is kept where a step of
-- the request keeps it.
use Rattle.std.proofs.Common.{◌≡◌, refl, sym, ap, subst, ◌∙◌, Bool, true, false, ℕ, ◌&&◌, ◌||◌, length, List, [], ◌∷◌, Option, ◌⊎◌, inl, inr}
use Rattle.std.specs.List.{list_all, list_any}
use Rattle.std.specs.Option.{option_map_or}
use Rattle.std.proofs.lemmas.Bool.{and_parts, and_from, or_cases, or_right, or_left}
use Rattle.outage_schedule.specs.declared.document.Request.{Request}
use Rattle.outage_schedule.specs.declared.item.Served.{Served}
use Rattle.client_model.specs.declared.act.Hold.TheVariants as hold
use Rattle.world_model.specs.meaning.Clients.{Client, begun, past_of}
use Rattle.world_model.specs.Orderly.{Orderly}
use Rattle.world_model.specs.meaning.Links.{Link, link_at}
use Rattle.invariant_laws.specs.Lost.{lost_links, is_gone, stay_gone}
use Rattle.world_model.specs.meaning.Machines.{Machine}
use Rattle.world_model.specs.meaning.Matching.{Noted}
use Rattle.world_model.specs.Traced.{Traced, Course, course_now, course_over, courses_of, courses_of_clients}
use Rattle.world_model.proofs.Offered.{weaker_all, HasStepped, MayStep, Still, Closed, Stepped, all_step, at_event, Happens}
use Rattle.invariant_laws.proofs.losses.KeptGone.{GoneAt, gone_at, gone_stays}
use Rattle.invariant_laws.proofs.losses.LostLists.{lost_begins, more_any}
use Rattle.invariant_laws.proofs.losses.LostSteps.{before_so, kept_lost, over_lost, IsLeft}
use Rattle.invariant_laws.proofs.losses.ShutStays.{IsFrozen, StaysShut}

-- it holds of one of these connections
abbrev pub any_link : (Link → Bool) → List Link → List ℕ → Bool
any_link test links numbers = list_any (λ number. option_map_or test (link_at links number) false) numbers

pub both_all : {A : Type 0} (test next : A → Bool) (xs : List A) → list_all test xs ≡ true → list_all next xs ≡ true → list_all (λ x. test x && next x) xs ≡ true
both_all test next [] one other = refl
both_all test next (x ∷ xs) one other =
    let first = and_parts (test x) (list_all test xs) one in
    let second = and_parts (next x) (list_all next xs) other in
    and_from (test x && next x) (list_all (λ y. test y && next y) xs) (and_from (test x) (next x) first.0 second.0) (both_all test next xs first.1 second.1)

module _ (t : Traced) (inv : Orderly t) (new : Traced) (setting : new.setting ≡ t.setting) (items left : List Served) (kind : Noted) (happens : Happens t.setting (at_event t.machine) items left kind new.machine) where
  abbrev now : Machine
  now = at_event t.machine

  abbrev gone_all : Course → Bool
  gone_all course = list_all (is_gone t.machine.links (courses_of t)) (lost_links course)

  -- a connection that was lost passes the test still
  pub found_still : (test : Link → Bool) → ((a b : Link) → IsFrozen a b → test a ≡ true → test b ≡ true) → (number : ℕ) → is_gone t.machine.links (courses_of t) number ≡ true
      → option_map_or test (link_at t.machine.links number) false ≡ true → option_map_or test (link_at new.machine.links number) false ≡ true
  found_still test alike number is here =
      let gone : GoneAt t.machine.links (courses_of t) number = gone_at t.machine.links (courses_of t) number is in
      let stays : StaysShut new.machine.links number gone.link = gone_stays t inv new setting items left kind happens number gone in
      ap (λ (found : Option Link). option_map_or test found false) stays.there
      ∙ alike gone.link stays.now stays.same (sym (ap (λ (found : Option Link). option_map_or test found false) gone.there) ∙ here)

  -- and if it does now it did before
  pub found_back : (test : Link → Bool) → ((a b : Link) → IsFrozen a b → test b ≡ true → test a ≡ true) → (number : ℕ) → is_gone t.machine.links (courses_of t) number ≡ true
      → option_map_or test (link_at new.machine.links number) false ≡ true → option_map_or test (link_at t.machine.links number) false ≡ true
  found_back test alike number is here =
      let gone : GoneAt t.machine.links (courses_of t) number = gone_at t.machine.links (courses_of t) number is in
      let stays : StaysShut new.machine.links number gone.link = gone_stays t inv new setting items left kind happens number gone in
      ap (λ (found : Option Link). option_map_or test found false) gone.there
      ∙ alike gone.link stays.now stays.same (sym (ap (λ (found : Option Link). option_map_or test found false) stays.there) ∙ here)

  -- and so does one of those that were
  pub any_still : (test : Link → Bool) → ((a b : Link) → IsFrozen a b → test a ≡ true → test b ≡ true) → (numbers : List ℕ) → list_all (is_gone t.machine.links (courses_of t)) numbers ≡ true
      → any_link test t.machine.links numbers ≡ true → any_link test new.machine.links numbers ≡ true
  any_still test alike [] gone any = any
  any_still test alike (number ∷ numbers) gone any =
      by (and_parts (is_gone t.machine.links (courses_of t) number) (list_all (is_gone t.machine.links (courses_of t)) numbers) gone)
      (or_cases (option_map_or test (link_at t.machine.links number) false) (any_link test t.machine.links numbers) any) (λ all later. any_still test alike numbers all later)
    where
      by : (is_gone t.machine.links (courses_of t) number ≡ true) × (list_all (is_gone t.machine.links (courses_of t)) numbers ≡ true)
          → (option_map_or test (link_at t.machine.links number) false ≡ true) ⊎ (any_link test t.machine.links numbers ≡ true)
          → (list_all (is_gone t.machine.links (courses_of t)) numbers ≡ true → any_link test t.machine.links numbers ≡ true → any_link test new.machine.links numbers ≡ true)
          → (option_map_or test (link_at new.machine.links number) false || any_link test new.machine.links numbers) ≡ true
      by parts (inl here) again = or_left (option_map_or test (link_at new.machine.links number) false) (any_link test new.machine.links numbers) (found_still test alike number parts.0 here)
      by parts (inr later) again = or_right (option_map_or test (link_at new.machine.links number) false) (any_link test new.machine.links numbers) (again parts.1 later)

  -- and so do all of them
  pub all_still : (test : Link → Bool) → ((a b : Link) → IsFrozen a b → test a ≡ true → test b ≡ true) → (numbers : List ℕ) → list_all (is_gone t.machine.links (courses_of t)) numbers ≡ true
      → list_all (λ number. option_map_or test (link_at t.machine.links number) false) numbers ≡ true → list_all (λ number. option_map_or test (link_at new.machine.links number) false) numbers ≡ true
  all_still test alike [] gone all = refl
  all_still test alike (number ∷ numbers) gone all =
      let one = and_parts (is_gone t.machine.links (courses_of t) number) (list_all (is_gone t.machine.links (courses_of t)) numbers) gone in
      let two = and_parts (option_map_or test (link_at t.machine.links number) false) (list_all (λ n. option_map_or test (link_at t.machine.links n) false) numbers) all in
      and_from (option_map_or test (link_at new.machine.links number) false) (list_all (λ n. option_map_or test (link_at new.machine.links n) false) numbers) (found_still test alike number one.0 two.0)
      (all_still test alike numbers one.1 two.1)

  module _ (who : ℕ) (step : HasStepped t.setting now who new.machine) where
    abbrev pub course_before : Course
    course_before = course_now t.setting who (length step.client.past) step.before

    abbrev pub course_kept : Course
    course_kept = course_now t.setting who (length step.client.past) step.after

    abbrev pub course_ended : Course
    course_ended = course_over who (length step.client.past) (past_of t.setting.terms step.after)

    -- what a request lost before its step it has lost behind it
    pub any_kept : (test : Link → Bool) → any_link test new.machine.links (lost_links course_before) ≡ true → any_link test new.machine.links (lost_links course_kept) ≡ true
    any_kept test any =
        more_any (λ number. option_map_or test (link_at new.machine.links number) false) (lost_links course_before) (lost_links course_kept)
        (lost_begins (IsLeft t inv who new.machine step) step.before.connection (lost_links course_before) (lost_links course_kept) (kept_lost t inv who new.machine step)) any

    pub any_ended : (step.held ≡ hold.Keep → ⊥) → (test : Link → Bool) → any_link test new.machine.links (lost_links course_before) ≡ true → any_link test new.machine.links (lost_links course_ended) ≡ true
    any_ended lets test any =
        more_any (λ number. option_map_or test (link_at new.machine.links number) false) (lost_links course_before) (lost_links course_ended)
        (lost_begins (λ number. ⊥) step.before.connection (lost_links course_before) (lost_links course_ended) (over_lost t inv who new.machine step lets)) any

  -- What keeps a test of each request: it holds of others still, of one that begins, and of the one
  -- that steps.
  pub record KeepsLost (test : List Link → Course → Bool) : Type 0 where
    pub others : (course : Course) → gone_all course ≡ true → test t.machine.links course ≡ true → test new.machine.links course ≡ true
    pub begins : (who place : ℕ) (request : Request) → test t.machine.links (course_now t.setting who place (begun t.setting.terms now.event now.tick request)) ≡ true
    pub goes : (who : ℕ) (step : HasStepped t.setting now who new.machine) → step.held ≡ hold.Keep → gone_all (course_before who step) ≡ true → test t.machine.links (course_before who step) ≡ true
        → test new.machine.links (course_kept who step) ≡ true
    pub ends : (who : ℕ) (step : HasStepped t.setting now who new.machine) → (step.held ≡ hold.Keep → ⊥) → gone_all (course_before who step) ≡ true → test t.machine.links (course_before who step) ≡ true
        → test new.machine.links (course_ended who step) ≡ true

  module _ (test : List Link → Course → Bool) (keeps : KeepsLost test) (gone : stay_gone t ≡ true) where
    abbrev with_gone : Course → Bool
    with_gone course = gone_all course && test t.machine.links course

    other_so : (course : Course) → with_gone course ≡ true → test new.machine.links course ≡ true
    other_so course here = let parts = and_parts (gone_all course) (test t.machine.links course) here in keeps.others course parts.0 parts.1

    untouched : (clients : List Client) → clients ≡ t.machine.clients → list_all with_gone (courses_of t) ≡ true → list_all (test new.machine.links) (courses_of_clients t.setting 1 clients) ≡ true
    untouched clients same all =
        subst (λ (all_clients : List Client). list_all (test new.machine.links) (courses_of_clients t.setting 1 all_clients) ≡ true) (sym same) (weaker_all with_gone (test new.machine.links) (courses_of t) other_so all)

    by_step : MayStep t.setting now new.machine → list_all with_gone (courses_of t) ≡ true → list_all (test new.machine.links) (courses_of_clients t.setting 1 new.machine.clients) ≡ true
    by_step (Still same sent) all = untouched new.machine.clients same all
    by_step (Closed same sent) all = untouched new.machine.clients same all
    by_step (Stepped who step) all =
        let parts : with_gone (course_before who step) ≡ true = before_so t inv who new.machine step with_gone all (λ request. keeps.begins who (length step.client.past) request) in
        let both = and_parts (gone_all (course_before who step)) (test t.machine.links (course_before who step)) parts in
        all_step t.setting with_gone (test new.machine.links) (record { client = who; place = length step.client.past }) (λ course differs here. other_so course here) now who new.machine step refl
        (λ keep. keeps.goes who step keep both.0 both.1) (λ over. keeps.ends who step over both.0 both.1) all

    pub lost_kept : MayStep t.setting now new.machine → list_all (test t.machine.links) (courses_of t) ≡ true → list_all (test new.machine.links) (courses_of new) ≡ true
    lost_kept may all =
        subst (λ (one : _). list_all (test new.machine.links) (courses_of_clients one 1 new.machine.clients) ≡ true) (sym setting)
        (by_step may (both_all gone_all (test t.machine.links) (courses_of t) gone all))
