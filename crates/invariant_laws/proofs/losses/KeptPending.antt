-- Of Lost: of the connections that a request lost at most one had a call sent and no outcome taken,
-- and that is while the request wants an outcome, or where it ended without knowing it. At the
-- start and behind each event.
use Rattle.std.proofs.Common.{◌≡◌, refl, sym, ap, ◌∙◌, Bool, true, false, ℕ, ◌+◌, ◌≤◌, ◌&&◌, ◌||◌, cond, length, List, [], ◌∷◌, ◌++◌, filter, Option, Some, None, ◌⊎◌, inl, inr, if◌then◌else◌, arith}
use Rattle.std.specs.Prelude.{not, is_some, is_none, nat_le}
use Rattle.std.specs.List.{list_all}
use Rattle.std.specs.Option.{option_map_or}
use Rattle.std.proofs.lemmas.Bool.{and_parts, and_from}
use Rattle.std.proofs.lemmas.List.{length-append}
use Rattle.std.proofs.lemmas.List.Elements.{filter-append}
use Rattle.svc_values.specs.declared.entry.Ltxid.{Ltxid}
use Rattle.outage_schedule.specs.declared.item.Served.{Served}
use Rattle.outage_schedule.specs.declared.request.Outcome.{Outcome}
use Rattle.client_model.specs.declared.act.Hold.TheVariants as hold
use Rattle.world_model.specs.meaning.Frames.{Owner, Sent}
use Rattle.world_model.specs.Orderly.{Orderly}
use Rattle.invariant_laws.specs.KeptLaws.{IsKeptOfAll}
use Rattle.world_model.specs.meaning.Links.{Link, link_at}
use Rattle.invariant_laws.specs.Lost.{lost_links, is_gone, outcome_on, submitted_on, is_wanted, ends_unknown, wants_lost, want_next, one_pending, are_pending, lost_rightly}
use Rattle.world_model.specs.meaning.Machines.{Machine}
use Rattle.world_model.specs.meaning.Matching.{Noted}
use Rattle.world_model.specs.Reached.{traced_start}
use Rattle.world_model.specs.meaning.Settings.{setting_of}
use Rattle.invariant_laws.specs.Shown.{answers_stand}
use Rattle.world_model.specs.Traced.{Traced, Course, courses_of}
use Rattle.world_model.specs.Wanted.{Wanted, wanted_in}
use Rattle.invariant_laws.proofs.losses.AccountedLinks.{is_accounted, accounted_on, wants_there, taken_more}
use Rattle.world_model.proofs.Offered.{weaker_all, HasStepped, happens_step, Followed, follow_happens, at_event, resting_none, Happens, le_from, le_to}
use Rattle.invariant_laws.proofs.losses.KeptAccounted.{keeps_accounted, none_or_live}
use Rattle.invariant_laws.proofs.losses.KeptLost.{lost_accounts}
use Rattle.invariant_laws.proofs.losses.KeptWanted.{wanted_law}
use Rattle.invariant_laws.proofs.losses.LostKept.{found_back, both_all, course_before, course_kept, course_ended, KeepsLost, lost_kept}
use Rattle.invariant_laws.proofs.losses.LostLists.{LostMore, NoneLost, OneLost}
use Rattle.invariant_laws.proofs.losses.LostSteps.{kept_lost, over_lost, IsLeft}
use Rattle.invariant_laws.proofs.losses.OutcomesTold.{told_more, outcomes_are}
use Rattle.invariant_laws.proofs.losses.ShutStays.{IsFrozen}
use Rattle.invariant_laws.proofs.talks.TalkPending.{is_live, live_wants_none}

-- COUNTS ------------------------------------------------------------------------------------------

fewer_of : (all test next : ℕ → Bool) (numbers : List ℕ) → list_all all numbers ≡ true → ((number : ℕ) → all number ≡ true → next number ≡ true → test number ≡ true) → length (filter next numbers) ≤ length (filter test numbers)
fewer_of all test next [] here implies = omega arith
fewer_of all test next (number ∷ numbers) here implies =
    let parts = and_parts (all number) (list_all all numbers) here in by (next number) (test number) (implies number parts.0) (fewer_of all test next numbers parts.1 implies)
  where
    by : (one other : Bool) → (one ≡ true → other ≡ true) → length (filter next numbers) ≤ length (filter test numbers)
        → length (if one then number ∷ filter next numbers else filter next numbers) ≤ length (if other then number ∷ filter test numbers else filter test numbers)
    by true true so later = omega (arith, later)
    by true false so later = absurd (let never : false ≡ true = so refl in let none : ⊥ = cc in none)
    by false true so later = omega (arith, later)
    by false false so later = later

none_of : (all test : ℕ → Bool) (numbers : List ℕ) → list_all all numbers ≡ true → ((number : ℕ) → all number ≡ true → test number ≡ false) → length (filter test numbers) ≡ 0
none_of all test [] here never = refl
none_of all test (number ∷ numbers) here never =
    let parts = and_parts (all number) (list_all all numbers) here in
    ap (λ (one : Bool). length (if one then number ∷ filter test numbers else filter test numbers)) (never number parts.0) ∙ none_of all test numbers parts.1 never

one_most : (test : Bool) (number : ℕ) → length (if test then number ∷ [] else []) ≤ 1
one_most true number = omega arith
one_most false number = omega arith

-- ONE CONNECTION ----------------------------------------------------------------------------------

-- a call was sent there, and no outcome taken
abbrev is_open_end : Course → Link → Bool
is_open_end course link = is_none (outcome_on course link.held) && submitted_on course link

abbrev open_at : List Link → Course → ℕ → Bool
open_at links course number = option_map_or (is_open_end course) (link_at links number) false

abbrev open_count : List Link → Course → List ℕ → ℕ
open_count links course numbers = length (filter (open_at links course) numbers)

open_back : (course : Course) (a b : Link) → IsFrozen a b → is_open_end course b ≡ true → is_open_end course a ≡ true
open_back course a b same here =
    ap (λ (held : Option Ltxid). is_none (outcome_on course held) && submitted_on course a) (sym same.held)
    ∙ (ap (λ (sents : List Sent). is_none (outcome_on course b.held) && list_any_of course sents) (sym same.sent) ∙ here)
  where
    list_any_of : Course → List Sent → Bool
    list_any_of one sents = submitted_on one (record a { sent = sents })

-- one of those that are accounted for is open only where it is wanted, or not known
accounted_open : (course : Course) (link : Link) → is_accounted course link ≡ true → wants_there course link ≡ false → is_open_end course link ≡ false
accounted_open course link here unwanted = by (outcome_on course link.held) (submitted_on course link) (wants_there course link) here unwanted
  where
    by : (found : Option Outcome) (submitted wants : Bool) → (is_some found || ((is_none found && not submitted) || (is_none found && wants))) ≡ true → wants ≡ false → (is_none found && submitted) ≡ false
    by (Some outcome) submitted wants here unwanted = refl
    by None false wants here unwanted = refl
    by None true true here unwanted = absurd (let none : ⊥ = cc in none)
    by None true false here unwanted = absurd (let none : ⊥ = cc in none)

-- no outcome was taken before, where none is now
open_before : (before after : Course) (more : List Outcome) → after.owner ≡ before.owner → after.report.outcomes ≡ before.report.outcomes ++ more → (link : Link) → is_open_end after link ≡ true → is_open_end before link ≡ true
open_before before after more owner outcomes link here =
    let parts = and_parts (is_none (outcome_on after link.held)) (submitted_on after link) here in
    and_from (is_none (outcome_on before link.held)) (submitted_on before link) (by (outcome_on before link.held) (outcome_on after link.held) (taken_more before after more outcomes link.held) parts.0)
    (ap (λ (one : Owner). submitted_on (record before { owner = one }) link) (sym owner) ∙ parts.1)
  where
    by : (one other : Option Outcome) → (is_some one ≡ true → is_some other ≡ true) → is_none other ≡ true → is_none one ≡ true
    by None other more none = refl
    by (Some outcome) None more none = absurd (let never : false ≡ true = more refl in let nothing : ⊥ = cc in nothing)
    by (Some outcome) (Some other) more none = absurd (let nothing : ⊥ = cc in nothing)

-- how many there may be
abbrev most_of : Course → ℕ
most_of course = if course.is_over then cond (ends_unknown course.report.failed) 1 0 else cond (is_some (wanted_in course.phase)) 1 0

abbrev few_on : List Link → Course → Bool
few_on links course = nat_le (open_count links course (lost_links course)) (most_of course)

most_one : (course : Course) → most_of course ≤ 1
most_one course = by course.is_over (ends_unknown course.report.failed) (is_some (wanted_in course.phase))
  where
    by : (over unknown wants : Bool) → (if over then cond unknown 1 0 else cond wants 1 0) ≤ 1
    by true true wants = omega arith
    by true false wants = omega arith
    by false unknown true = omega arith
    by false unknown false = omega arith

-- EVENTS ------------------------------------------------------------------------------------------

module _ (t : Traced) (inv : Orderly t) (answers : answers_stand t ≡ true) (next : want_next t ≡ true) (new : Traced) (setting : new.setting ≡ t.setting) (items left : List Served) (kind : Noted) (happens : Happens t.setting (at_event t.machine) items left kind new.machine) where
  abbrev now : Machine
  now = at_event t.machine

  abbrev both_on : List Link → Course → Bool
  both_on links course = accounted_on links course && few_on links course

  keeps : KeepsLost t inv new setting items left kind happens accounted_on
  keeps = keeps_accounted t inv answers next new setting items left kind happens

  -- none more of those that were lost
  fewer_now : (before after : Course) (more : List Outcome) → after.owner ≡ before.owner → after.report.outcomes ≡ before.report.outcomes ++ more → (numbers : List ℕ) → list_all (is_gone t.machine.links (courses_of t)) numbers ≡ true
      → open_count new.machine.links after numbers ≤ open_count t.machine.links before numbers
  fewer_now before after more owner outcomes numbers gone =
      fewer_of (is_gone t.machine.links (courses_of t)) (open_at t.machine.links before) (open_at new.machine.links after) numbers gone
      (λ number is here. found_back t inv new setting items left kind happens (is_open_end before) (open_back before) number is (by (link_at new.machine.links number) here))
    where
      by : (found : Option Link) → option_map_or (is_open_end after) found false ≡ true → option_map_or (is_open_end before) found false ≡ true
      by None here = here
      by (Some link) here = open_before before after more owner outcomes link here

  others_few : (course : Course) → list_all (is_gone t.machine.links (courses_of t)) (lost_links course) ≡ true → few_on t.machine.links course ≡ true → few_on new.machine.links course ≡ true
  others_few course gone here =
      let old : open_count t.machine.links course (lost_links course) ≤ most_of course = le_from (open_count t.machine.links course (lost_links course)) (most_of course) here in
      let less : open_count new.machine.links course (lost_links course) ≤ open_count t.machine.links course (lost_links course) =
      fewer_of (is_gone t.machine.links (courses_of t)) (open_at t.machine.links course) (open_at new.machine.links course) (lost_links course) gone
      (λ number is here. found_back t inv new setting items left kind happens (is_open_end course) (open_back course) number is here) in
      le_to (open_count new.machine.links course (lost_links course)) (most_of course) (omega (arith, old, less))

  -- none where nothing is wanted
  none_open : (course : Course) → accounted_on new.machine.links course ≡ true → ((link : Link) → wants_there course link ≡ false) → open_count new.machine.links course (lost_links course) ≡ 0
  none_open course accounted unwanted =
      none_of (λ number. option_map_or (is_accounted course) (link_at new.machine.links number) false) (open_at new.machine.links course) (lost_links course) accounted (λ number here. by (link_at new.machine.links number) here)
    where
      by : (found : Option Link) → option_map_or (is_accounted course) found false ≡ true → option_map_or (is_open_end course) found false ≡ false
      by None here = refl
      by (Some link) here = accounted_open course link here (unwanted link)

  module _ (who : ℕ) (step : HasStepped t.setting now who new.machine) where
    abbrev before : Course
    before = course_before t inv new setting items left kind happens who step

    abbrev kept : Course
    kept = course_kept t inv new setting items left kind happens who step

    abbrev ended : Course
    ended = course_ended t inv new setting items left kind happens who step

    module _ (gone : list_all (is_gone t.machine.links (courses_of t)) (lost_links before) ≡ true) (few : few_on t.machine.links before ≡ true) where
      was_few : open_count t.machine.links before (lost_links before) ≤ most_of before
      was_few = le_from (open_count t.machine.links before (lost_links before)) (most_of before) few

      still_few : (after : Course) → after.owner ≡ before.owner → after.report.outcomes ≡ before.report.outcomes ++ told_more step.input step.before.talk.phase → open_count new.machine.links after (lost_links before) ≤ most_of before
      still_few after owner outcomes =
          let less : open_count new.machine.links after (lost_links before) ≤ open_count t.machine.links before (lost_links before) = fewer_now before after (told_more step.input step.before.talk.phase) owner outcomes (lost_links before) gone in
          let old = was_few in
          omega (arith, less, old)

      -- the connection that it loses
      one_more : step.held ≡ hold.Keep → (number : ℕ) → step.before.connection ≡ Some number → step.after.connection ≡ None → open_count new.machine.links kept (lost_links before ++ number ∷ []) ≤ 1
      one_more keep number has none = by (none_or_live t inv answers next new setting items left kind happens who step number has none keep)
        where
          old : open_count new.machine.links kept (lost_links before) ≤ most_of before
          old = still_few kept refl (outcomes_are t inv who new.machine step)

          split : open_count new.machine.links kept (lost_links before ++ number ∷ []) ≡ open_count new.machine.links kept (lost_links before) + length (filter (open_at new.machine.links kept) (number ∷ []))
          split = ap length (filter-append (open_at new.machine.links kept) (lost_links before) (number ∷ [])) ∙ length-append (filter (open_at new.machine.links kept) (lost_links before)) (filter (open_at new.machine.links kept) (number ∷ []))

          quiet_at : (found : Option Link) → option_map_or (λ link. not (submitted_on kept link)) found false ≡ true → option_map_or (is_open_end kept) found false ≡ false
          quiet_at None quiet = refl
          quiet_at (Some link) quiet = each (is_none (outcome_on kept link.held)) (submitted_on kept link) quiet
            where
              each : (none submitted : Bool) → not submitted ≡ true → (none && submitted) ≡ false
              each none true quiet = absurd (let nothing : ⊥ = cc in nothing)
              each true false quiet = refl
              each false false quiet = refl

          by : (option_map_or (λ link. not (submitted_on kept link)) (link_at new.machine.links number) false ≡ true) ⊎ (is_live step.before.talk.phase ≡ true) → open_count new.machine.links kept (lost_links before ++ number ∷ []) ≤ 1
          by (inl quiet) =
              let nothing : length (filter (open_at new.machine.links kept) (number ∷ [])) ≡ 0 = ap (λ (one : Bool). length (if one then number ∷ [] else [])) (quiet_at (link_at new.machine.links number) quiet) in
              let most : most_of before ≤ 1 = most_one before in
              omega (arith, old, split, nothing, most)
          by (inr live) =
              let nothing : most_of before ≡ 0 = ap (λ (wants : Option Wanted). cond (is_some wants) 1 0) (live_wants_none step.before.talk.phase live) in
              let most : length (filter (open_at new.machine.links kept) (number ∷ [])) ≤ 1 = one_most (open_at new.machine.links kept number) number in
              omega (arith, old, split, nothing, most)

      goes_most : step.held ≡ hold.Keep → (later : List ℕ) → LostMore (IsLeft t inv who new.machine step) step.before.connection (lost_links before) later → open_count new.machine.links kept later ≤ 1
      goes_most keep _ NoneLost =
          let old : open_count new.machine.links kept (lost_links before) ≤ most_of before = still_few kept refl (outcomes_are t inv who new.machine step) in
          let most : most_of before ≤ 1 = most_one before in
          omega (arith, old, most)
      goes_most keep _ (OneLost number has lost) = one_more keep number has lost.none

      goes_few : step.held ≡ hold.Keep → accounted_on new.machine.links kept ≡ true → few_on new.machine.links kept ≡ true
      goes_few keep accounted = by (wanted_in step.after.talk.phase) refl
        where
          by : (found : Option Wanted) → wanted_in step.after.talk.phase ≡ found → few_on new.machine.links kept ≡ true
          by None is =
              ap (λ (wants : Option Wanted). nat_le (open_count new.machine.links kept (lost_links kept)) (cond (is_some wants) 1 0)) is
              ∙ le_to (open_count new.machine.links kept (lost_links kept)) 0
              (let nothing : open_count new.machine.links kept (lost_links kept) ≡ 0 = none_open kept accounted (λ link. ap (λ (wants : Option Wanted). option_map_or (is_wanted link) wants false) is) in omega (arith, nothing))
          by (Some wanted) is =
              ap (λ (wants : Option Wanted). nat_le (open_count new.machine.links kept (lost_links kept)) (cond (is_some wants) 1 0)) is
              ∙ le_to (open_count new.machine.links kept (lost_links kept)) 1 (goes_most keep (lost_links kept) (kept_lost t inv who new.machine step))

      ends_most : (later : List ℕ) → LostMore (λ (connection : ℕ). ⊥) step.before.connection (lost_links before) later → open_count new.machine.links ended later ≤ 1
      ends_most _ NoneLost =
          let old : open_count new.machine.links ended (lost_links before) ≤ most_of before = still_few ended refl (outcomes_are t inv who new.machine step) in
          let most : most_of before ≤ 1 = most_one before in
          omega (arith, old, most)
      ends_most _ (OneLost number has lost) = absurd lost

      ends_few : (step.held ≡ hold.Keep → ⊥) → accounted_on new.machine.links ended ≡ true → few_on new.machine.links ended ≡ true
      ends_few lets accounted = by (ends_unknown ended.report.failed) refl
        where
          by : (unknown : Bool) → ends_unknown ended.report.failed ≡ unknown → few_on new.machine.links ended ≡ true
          by false is =
              ap (λ (unknown : Bool). nat_le (open_count new.machine.links ended (lost_links ended)) (cond unknown 1 0)) is
              ∙ le_to (open_count new.machine.links ended (lost_links ended)) 0
              (let nothing : open_count new.machine.links ended (lost_links ended) ≡ 0 = none_open ended accounted (λ link. is) in omega (arith, nothing))
          by true is =
              ap (λ (unknown : Bool). nat_le (open_count new.machine.links ended (lost_links ended)) (cond unknown 1 0)) is
              ∙ le_to (open_count new.machine.links ended (lost_links ended)) 1 (ends_most (lost_links ended) (over_lost t inv who new.machine step lets))

  keeps_few : KeepsLost t inv new setting items left kind happens both_on
  keeps_few = record {
    others = λ course gone here.
        let parts = and_parts (accounted_on t.machine.links course) (few_on t.machine.links course) here in
        and_from (accounted_on new.machine.links course) (few_on new.machine.links course) (keeps.others course gone parts.0) (others_few course gone parts.1);
    begins = λ who place request. refl;
    goes = λ who step keep gone here.
        let parts = and_parts (accounted_on t.machine.links (before who step)) (few_on t.machine.links (before who step)) here in
        let accounted = keeps.goes who step keep gone parts.0 in
        and_from (accounted_on new.machine.links (kept who step)) (few_on new.machine.links (kept who step)) accounted (goes_few who step gone parts.1 keep accounted);
    ends = λ who step over gone here.
        let parts = and_parts (accounted_on t.machine.links (before who step)) (few_on t.machine.links (before who step)) here in
        let accounted = keeps.ends who step over gone parts.0 in
        and_from (accounted_on new.machine.links (ended who step)) (few_on new.machine.links (ended who step)) accounted (ends_few who step gone parts.1 over accounted);
  }

pub pending_law : IsKeptOfAll are_pending
pending_law = record {
  at_start = λ document. resting_none (setting_of document) 1 (one_pending (traced_start document)) document.clients;
  at_event = λ before after old new event note items left one inv.
      let by : Followed old.setting old.machine event note items left new.machine = follow_happens old.setting old.machine event note items left new.machine one.follows in
      let both : list_all (both_on old inv.orderly inv.shown.answers inv.lost.next new one.setting items left by.kind by.happens new.machine.links) (courses_of new) ≡ true =
      lost_kept old inv.orderly new one.setting items left by.kind by.happens (both_on old inv.orderly inv.shown.answers inv.lost.next new one.setting items left by.kind by.happens)
      (keeps_few old inv.orderly inv.shown.answers inv.lost.next new one.setting items left by.kind by.happens) inv.lost.gone (happens_step old.setting (at_event old.machine) items left by.kind new.machine by.happens)
      (both_all (accounted_on old.machine.links) (few_on old.machine.links) (courses_of old) (weaker_all (lost_rightly old) (accounted_on old.machine.links) (courses_of old) (lost_accounts old) inv.lost.lost)
      (weaker_all (one_pending old) (few_on old.machine.links) (courses_of old) (λ course here. (and_parts (few_on old.machine.links course) (wants_lost old course) here).0) inv.lost.pending)) in
      both_all (few_on new.machine.links) (wants_lost new) (courses_of new)
      (weaker_all (λ course. accounted_on new.machine.links course && few_on new.machine.links course) (few_on new.machine.links) (courses_of new)
      (λ course here. (and_parts (accounted_on new.machine.links course) (few_on new.machine.links course) here).1) both)
      (wanted_law.at_event before after old new event note items left one inv);
}
