-- Of Lost: the identifier that a request goes by was not asked for by itself, at the start and
-- behind each event.
use Rattle.std.proofs.Common.{◌≡◌, ◌≢◌, refl, sym, ap, subst, ◌∙◌, Bool, true, false, ℕ, ◌&&◌, cond, List, [], ◌∷◌, filter, Option, Some, None}
use Rattle.std.specs.Prelude.{is_none, is_some}
use Rattle.std.specs.List.{list_all, last_or}
use Rattle.std.specs.Option.{option_map_or}
use Rattle.std.proofs.lemmas.Bool.{and_parts, and_from}
use Rattle.svc_values.specs.declared.entry.Ltxid.{Ltxid}
use Rattle.svc_values.specs.meaning.Identifiers.{same_ltxid, session_of}
use Rattle.svc_values.specs.meaning.Same.{same_bool}
use Rattle.svc_values.specs.SameLaws.{same_ltxid_decides}
use Rattle.outage_schedule.specs.declared.request.Outcome.{Outcome}
use Rattle.world_model.specs.records.Basic.{is_named, are_named, sessions_of, sessions_differ}
use Rattle.world_model.specs.records.Hold.{holds_connection, waits_on, is_held, are_held}
use Rattle.invariant_laws.specs.KeptLaws.{IsKeptOfAll}
use Rattle.world_model.specs.meaning.Links.{Link, link_at}
use Rattle.invariant_laws.specs.Lost.{lost_links, outcome_on, is_without, is_gone, stay_gone, is_of_lost, outcomes_lost, goes_unasked, go_unasked}
use Rattle.world_model.specs.meaning.Settings.{setting_of}
use Rattle.world_model.specs.Reached.{traced_start}
use Rattle.world_model.specs.Traced.{Traced, Course, courses_of}
use Rattle.world_model.proofs.Offered.{at_link, links_apart, basic_is_kept, resting_none, held_of, named_held, hold_is_kept}
use Rattle.invariant_laws.proofs.losses.AskedNear.{any_all, named_same}
use Rattle.invariant_laws.proofs.losses.KeptGone.{GoneAt, gone_at, without_not, gone_law}
use Rattle.invariant_laws.proofs.losses.KeptOutcomes.{holds_one, outcomes_law}
use Rattle.invariant_laws.proofs.losses.LostKept.{both_all}

-- LISTS -------------------------------------------------------------------------------------------

-- where what holds of all holds of each of them
pub each_among : {A : Type 0} (test next : A → Bool) (xs : List A) → ((x : A) → ((all : A → Bool) → list_all all xs ≡ true → all x ≡ true) → test x ≡ true → next x ≡ true) → list_all test xs ≡ true → list_all next xs ≡ true
each_among test next [] each here = refl
each_among test next (x ∷ xs) each here =
    let parts = and_parts (test x) (list_all test xs) here in
    and_from (next x) (list_all next xs) (each x (λ all so. (and_parts (all x) (list_all all xs) so).0) parts.0)
    (each_among test next xs (λ y among. each y (λ all so. among all (and_parts (all x) (list_all all xs) so).1)) parts.1)

none_left : (is : Outcome → Bool) (test : Outcome → Bool) (outcomes : List Outcome) → ((one : Outcome) → is one ≡ true → test one ≡ true → ⊥) → list_all is outcomes ≡ true → filter test outcomes ≡ []
none_left is test [] apart all = refl
none_left is test (one ∷ outcomes) apart all =
    let parts = and_parts (is one) (list_all is outcomes) all in by (test one) refl parts.0 (none_left is test outcomes apart parts.1)
  where
    by : (found : Bool) → test one ≡ found → is one ≡ true → filter test outcomes ≡ [] → cond found (one ∷ filter test outcomes) (filter test outcomes) ≡ []
    by true found here rest = absurd (apart one here found)
    by false found here rest = rest

-- A REQUEST ---------------------------------------------------------------------------------------

module _ (t : Traced) (named : are_named t ≡ true) (apart : sessions_differ t ≡ true) where
  abbrev gone_all : Course → Bool
  gone_all course = list_all (is_gone t.machine.links (courses_of t)) (lost_links course)

  abbrev outcomes_all : Course → Bool
  outcomes_all course = list_all (is_of_lost t course) course.report.outcomes

  -- what is held is of the connection's session
  pub held_session : (number : ℕ) (link : Link) (x : Ltxid) → link_at t.machine.links number ≡ Some link → link.held ≡ Some x → link.session ≡ Some (session_of x)
  held_session number link x there held =
      named_same link.session (session_of x)
      (subst (λ (one : Option Ltxid). held_of link.session one ≡ true) held (named_held link.session link.served link.held (at_link is_named t.machine.links number link named there)))

  -- two connections hold no identifier in common
  held_apart : (i j : ℕ) (one other : Link) (x y : Ltxid) → i ≢ j → link_at t.machine.links i ≡ Some one → link_at t.machine.links j ≡ Some other → one.held ≡ Some x → other.held ≡ Some y → x ≡ y → ⊥
  held_apart i j one other x y differ here there is at same =
      links_apart t.machine.links i j one other (session_of x) (session_of y) differ here there (held_session i one x here is) (held_session j other y there at) (and_parts _ (list_all _ (sessions_of t)) apart).0 (ap session_of same)

  module _ (course : Course) (among : (all : Course → Bool) → list_all all (courses_of t) ≡ true → all course ≡ true) (gone : gone_all course ≡ true) (number : ℕ) (has : course.connection ≡ Some number) (link : Link)
      (there : link_at t.machine.links number ≡ Some link) (x : Ltxid) (held : link.held ≡ Some x) where
    -- an outcome of what was lost is of another identifier
    other_one : (outcome : Outcome) → is_of_lost t course outcome ≡ true → same_ltxid outcome.ltxid x ≡ true → ⊥
    other_one outcome lost same =
        let found = any_all (λ (n : ℕ). option_map_or (holds_one outcome.ltxid) (link_at t.machine.links n) false) (is_gone t.machine.links (courses_of t)) (lost_links course) lost gone in
        let at : GoneAt t.machine.links (courses_of t) found.0 = gone_at t.machine.links (courses_of t) found.0 found.1.1 in
        by found.0 at at.link.held refl (sym (ap (λ (one : Option Link). option_map_or (holds_one outcome.ltxid) one false) at.there) ∙ found.1.0)
      where
        by : (other : ℕ) (at : GoneAt t.machine.links (courses_of t) other) (one : Option Ltxid) → at.link.held ≡ one → option_map_or (same_ltxid outcome.ltxid) one false ≡ true → ⊥
        by other at None is holds = let none : ⊥ = cc in none
        by other at (Some y) is holds =
            let equal : outcome.ltxid ≡ x = (same_ltxid_decides outcome.ltxid x).0 same in
            let its : outcome.ltxid ≡ y = (same_ltxid_decides outcome.ltxid y).0 holds in
            held_apart other number at.link link y x
            (λ one. without_not other course.connection (among (is_without other) at.free) (has ∙ ap Some (sym one)))
            at.there there is held (sym its ∙ equal)

    unasked_held : outcomes_all course ≡ true → is_none (outcome_on course (Some x)) ≡ true
    unasked_held all = ap (λ (outcomes : List Outcome). is_none (last_or None outcomes)) (none_left (is_of_lost t course) (λ outcome. same_ltxid outcome.ltxid x) course.report.outcomes other_one all)

  unasked : (course : Course) → ((all : Course → Bool) → list_all all (courses_of t) ≡ true → all course ≡ true) → (is_held t course && (gone_all course && outcomes_all course)) ≡ true → goes_unasked t course ≡ true
  unasked course among here =
      let one = and_parts (is_held t course) (gone_all course && outcomes_all course) here in
      let two = and_parts (gone_all course) (outcomes_all course) one.1 in
      by course.connection refl (and_parts (same_bool (is_some course.connection) (holds_connection course.phase)) _ one.0).1 two.0 two.1
    where
      held_by : (number : ℕ) (link : Link) (found : Option Ltxid) → course.connection ≡ Some number → link_at t.machine.links number ≡ Some link → link.held ≡ found → gone_all course ≡ true → outcomes_all course ≡ true
          → is_none (outcome_on course found) ≡ true
      held_by number link None has there held gone all = refl
      held_by number link (Some x) has there held gone all = unasked_held course among gone number has link there x held all

      at : (number : ℕ) (found : Option Link) → course.connection ≡ Some number → link_at t.machine.links number ≡ found → option_map_or (waits_on course) found false ≡ true → gone_all course ≡ true → outcomes_all course ≡ true
          → option_map_or (λ link. is_none (outcome_on course link.held)) found false ≡ true
      at number None has there waits gone all = absurd (let none : ⊥ = cc in none)
      at number (Some link) has there waits gone all = held_by number link link.held has there refl gone all

      by : (found : Option ℕ) → course.connection ≡ found → option_map_or (λ number. option_map_or (waits_on course) (link_at t.machine.links number) false) found true ≡ true → gone_all course ≡ true → outcomes_all course ≡ true
          → option_map_or (λ number. option_map_or (λ link. is_none (outcome_on course link.held)) (link_at t.machine.links number) false) found true ≡ true
      by None has waits gone all = refl
      by (Some number) has waits gone all = at number (link_at t.machine.links number) has refl waits gone all

  -- it follows from the rest
  unasked_by : are_held t ≡ true → stay_gone t ≡ true → outcomes_lost t ≡ true → go_unasked t ≡ true
  unasked_by held gone outcomes =
      each_among (λ course. is_held t course && (gone_all course && outcomes_all course)) (goes_unasked t) (courses_of t) unasked
      (both_all (is_held t) (λ course. gone_all course && outcomes_all course) (courses_of t) held (both_all gone_all outcomes_all (courses_of t) gone outcomes))

pub unasked_law : IsKeptOfAll go_unasked
unasked_law = record {
  at_start = λ document. resting_none (setting_of document) 1 (goes_unasked (traced_start document)) document.clients;
  at_event = λ before after old new event note items left one inv.
      let basic = basic_is_kept before after old new event note items left one inv.orderly in
      let hold = hold_is_kept before after old new event note items left one inv.orderly in
      unasked_by new basic.named basic.apart hold.held (gone_law.at_event before after old new event note items left one inv) (outcomes_law.at_event before after old new event note items left one inv);
}
