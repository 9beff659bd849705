-- Where each entry of a sending that is open or was answered Committed is as its request knows, so
-- is each transaction of a request that is over.
use Rattle.std.proofs.Common.{◌≡◌, refl, sym, ap, ◌∙◌, Bool, true, false, ℕ, zero, suc, ◌+◌, ◌<◌, ◌&&◌, ◌||◌, drop, length, map, take, List, [], ◌∷◌, Option, Some, None, ◌⊎◌, inl, inr, arith}
use Rattle.std.specs.Prelude.{◌==◌, not, slice_get, is_none, is_some}
use Rattle.std.specs.List.{list_all, list_any}
use Rattle.std.specs.Option.{option_map_or}
use Rattle.std.proofs.lemmas.Bool.{and_parts, not-true}
use Rattle.svc_values.specs.declared.answer.Answer.{Answer}
use Rattle.svc_values.specs.declared.call.Call.{Call}
use Rattle.svc_values.specs.declared.draw.Draw.{Draw}
use Rattle.svc_values.specs.declared.entry.Ltxid.{Ltxid}
use Rattle.svc_values.specs.meaning.Endings.{ends_committed}
use Rattle.svc_values.specs.meaning.Identifiers.{same_ltxid}
use Rattle.svc_values.specs.meaning.Same.{same_call, same_calls}
use Rattle.svc_values.specs.SameLaws.{same_calls_decide, same_ltxid_decides}
use Rattle.svc_values.specs.meaning.SettingsList.{same_settings, with_sets}
use Rattle.outage_schedule.specs.declared.failure.Failure.{Failure}
use Rattle.outage_schedule.specs.declared.request.ShownCall.{ShownCall}
use Rattle.run_clauses.specs.meaning.Same.{is_same_request}
use Rattle.run_clauses.specs.meaning.Tried.{holds}
use Rattle.run_clauses.specs.Tried.{Sending as Tried}
use Rattle.invariant_laws.specs.Invariant.{Invariant}
use Rattle.invariant_laws.specs.Lost.{lost_links}
use Rattle.invariant_laws.specs.Once.{are_known, are_placed, ends_rightly, ends_so, is_known, is_left_lost, is_open_or_committed, is_placed, reverse_onto, shows_at, tells_tried, tried_one}
use Rattle.world_model.specs.Parts.{Sending, commit_sendings, implies, sendings_of}
use Rattle.invariant_laws.specs.KeptLaws.{RunsKeepInvariant}
use Rattle.invariant_laws.specs.Same.{granted_by, agree_from, begins_at, calls_of, entries_same, is_entry_of, is_same_sending, over_same}
use Rattle.invariant_laws.specs.SameLaws.{EntriesMakeReportsSame, ReportsAreSame}
use Rattle.world_model.specs.Traced.{Traced, Course, courses_of}
use Rattle.world_model.specs.Words.{held_in}
use Rattle.world_model.proofs.Offered.{at_all, filter_all, weaker_all, implied, finishing_reached, not_both}
use Rattle.invariant_laws.proofs.Offered.{any_all, shown_same, KnownListsIsAnswered as IsAnswered, IsBlocked, IsCommitted, IsLast, Known, known_from, both_all, tried_apart_commits as commits, is_under, lists_of, tried_sent, under_at}
use Rattle.same_laws.proofs.SameOver.{EachEntry, EntryAt, all_same}

got_less : {A : Type 0} (xs : List A) (index : ℕ) (x : A) → slice_get xs index ≡ Some x → index < length xs
got_less [] index x is = absurd (let none : ⊥ = cc in none)
got_less (y ∷ ys) zero x is = omega arith
got_less (y ∷ ys) (suc index) x is = let less : index < length ys = got_less ys index x is in omega (arith, less)

stored_so : (may all : Bool) → may ≡ true → (may && all || not may) ≡ true → all ≡ true
stored_so true true is here = refl
stored_so true false is here = here
stored_so false all is here = absurd (let none : ⊥ = cc in none)

-- ONE REQUEST -------------------------------------------------------------------------------------

module _ (granted : Draw → Bool) (t : Traced) (whole : Invariant t) (course : Course) where
  abbrev calls : List ShownCall
  calls = course.report.calls

  abbrev script : List Call
  script = course.request.calls

  abbrev told : List Tried
  told = map tried_one (reverse_onto (sendings_of course) [])

  abbrev all_of : Sending → Bool
  all_of s = is_same_sending granted t course s && (is_known t.blocked calls course.report.outcomes s && is_placed script (held_in course.steps) s)

  -- a call of the script that is next is left by a request that failed
  failed_so : (found : Option Failure) → ends_so t.entries course found ≡ true → (call : Call) → slice_get script (length calls) ≡ Some call → is_some found ≡ true
  failed_so None ends call is = absurd (let never : false ≡ true = sym (ap is_none is) ∙ ends in let none : ⊥ = cc in none)
  failed_so (Some failure) ends call is = refl

  module _ (sent : list_all all_of (commit_sendings course) ≡ true) (ends : ends_so t.entries course course.report.failed ≡ true) where
    each : EachEntry granted t.entries course.request.settings script calls (is_some course.report.failed) course.report.tried told
    each is_of place entry here held =
        by found.0 one.0 two.0 ((same_ltxid_decides x found.0.ltxid).0 two.1) three.0 (known_from t.blocked calls course.report.outcomes found.0 four.0) (script_of (slice_get script found.0.at) refl five.0)
      where
        x : Ltxid
        x = entry.ltxid

        found : (s : Sending) × ((under_at is_of x s ≡ true) × (all_of s ≡ true))
        found = any_all (under_at is_of x) all_of (commit_sendings course) (tried_sent x is_of (sendings_of course) held) sent

        one : (is_of found.0.at ≡ true) × (is_under x found.0 ≡ true)
        one = and_parts (is_of found.0.at) (is_under x found.0) found.1.0

        two : (is_open_or_committed found.0 ≡ true) × (same_ltxid x found.0.ltxid ≡ true)
        two = and_parts (is_open_or_committed found.0) (same_ltxid x found.0.ltxid) one.1

        three : (is_same_sending granted t course found.0 ≡ true) × ((is_known t.blocked calls course.report.outcomes found.0 && is_placed script (held_in course.steps) found.0) ≡ true)
        three = and_parts (is_same_sending granted t course found.0) _ found.1.1

        four : (is_known t.blocked calls course.report.outcomes found.0 ≡ true) × (is_placed script (held_in course.steps) found.0 ≡ true)
        four = and_parts (is_known t.blocked calls course.report.outcomes found.0) _ three.1

        five : (option_map_or (same_call found.0.call) (slice_get script found.0.at) false ≡ true) × (list_any (λ number. number == found.0.connection) (held_in course.steps) ≡ true)
        five = and_parts (option_map_or (same_call found.0.call) (slice_get script found.0.at) false) _ four.1

        script_of : (got : Option Call) → slice_get script found.0.at ≡ got → option_map_or (same_call found.0.call) got false ≡ true → (call : Call) × (slice_get script found.0.at ≡ Some call)
        script_of None is same = absurd (let none : ⊥ = cc in none)
        script_of (Some call) is same = (call, is)

        by : (s : Sending) → is_of s.at ≡ true → is_open_or_committed s ≡ true → x ≡ s.ltxid → is_same_sending granted t course s ≡ true → Known t.blocked calls course.report.outcomes s → (call : Call) × (slice_get script s.at ≡ Some call)
            → EntryAt granted t.entries course.request.settings script calls (is_some course.report.failed) course.report.tried told is_of entry
        by s of_it is_open named same known got = record {
          at = s.at;
          of_it = of_it;
          calls = (same_calls_decide (calls_of entry) (drop from (take (s.at + 1) script))).0 parts.0;
          settings = rest.0;
          agree = rest.1;
          place = place_of known;
          within = got_less script s.at got.0 got.1;
        }
          where
            from : ℕ
            from = begins_at calls s.at

            all : list_all (λ e. not (same_ltxid e.ltxid s.ltxid) || is_entry_of granted course s e) t.entries ≡ true
            all = stored_so (is_open_or_committed s) (list_all (λ e. not (same_ltxid e.ltxid s.ltxid) || is_entry_of granted course s e) t.entries) is_open same

            is_its : is_entry_of granted course s entry ≡ true
            is_its = implied (same_ltxid entry.ltxid s.ltxid) (is_entry_of granted course s entry) ((same_ltxid_decides entry.ltxid s.ltxid).1 named) (at_all (λ e. not (same_ltxid e.ltxid s.ltxid) || is_entry_of granted course s e) t.entries place entry all here)

            parts : (same_calls (calls_of entry) (drop from (take (s.at + 1) script)) ≡ true) × ((same_settings entry.settings (with_sets course.request.settings (take from script)) && agree_from granted entry.pieces (drop from calls)) ≡ true)
            parts = and_parts (same_calls (calls_of entry) (drop from (take (s.at + 1) script))) _ is_its

            rest : (same_settings entry.settings (with_sets course.request.settings (take from script)) ≡ true) × (agree_from granted entry.pieces (drop from calls) ≡ true)
            rest = and_parts (same_settings entry.settings (with_sets course.request.settings (take from script))) _ parts.1

            free : holds t.blocked x ≡ false
            free = not-true (holds t.blocked x) (at_all (λ e. not (holds t.blocked e.ltxid)) t.entries place entry whole.orderly.number.unblocked here)

            place_of : Known t.blocked calls course.report.outcomes s → (s.at ≡ length calls) × (is_some course.report.failed ≡ true) ⊎ (shows_at ends_committed calls s.at ≡ true)
            place_of (IsAnswered answers is shows) = inr (shown_same answers ends_committed calls s.at (sym (ap (λ (taken : Option (List Answer)). option_map_or ends_committed taken true) is) ∙ is_open) shows)
            place_of (IsLast none next) = inl (next.place, failed_so course.report.failed ends got.0 (ap (slice_get script) (sym next.place) ∙ got.1))
            place_of (IsBlocked none blocked) = absurd (not_both (holds t.blocked x) (ap (holds t.blocked) named ∙ blocked) free)
            place_of (IsCommitted none shows) = inr shows

    request_same : tells_tried course ≡ true → is_same_request granted t.entries course.request course.report ≡ true
    request_same tells = all_same granted t.entries course.request.settings script calls (is_some course.report.failed) course.report.tried told each (lists_of course tells)

-- ALL REQUESTS ------------------------------------------------------------------------------------

pub same_over : (granted : Draw → Bool) (t : Traced) → Invariant t → entries_same granted t ≡ true → over_same granted t ≡ true
same_over granted t whole same =
    weaker_all facts (λ course. implies course.is_over (is_same_request granted t.entries course.request course.report)) (courses_of t) one
    (both_all (λ course. list_all (is_same_sending granted t course) (commit_sendings course)) (λ course. are_known t course && (are_placed course && (tells_tried course && ends_rightly t.entries course))) (courses_of t) same
    (both_all (are_known t) (λ course. are_placed course && (tells_tried course && ends_rightly t.entries course)) (courses_of t) whole.once.known
    (both_all are_placed (λ course. tells_tried course && ends_rightly t.entries course) (courses_of t) whole.once.placed (both_all tells_tried (ends_rightly t.entries) (courses_of t) whole.once.tried whole.once.ended))))
  where
    facts : Course → Bool
    facts course = list_all (is_same_sending granted t course) (commit_sendings course) && (are_known t course && (are_placed course && (tells_tried course && ends_rightly t.entries course)))

    one : (course : Course) → facts course ≡ true → implies course.is_over (is_same_request granted t.entries course.request course.report) ≡ true
    one course here = by course.is_over refl
      where
        first : (list_all (is_same_sending granted t course) (commit_sendings course) ≡ true) × ((are_known t course && (are_placed course && (tells_tried course && ends_rightly t.entries course))) ≡ true)
        first = and_parts (list_all (is_same_sending granted t course) (commit_sendings course)) _ here

        second : (are_known t course ≡ true) × ((are_placed course && (tells_tried course && ends_rightly t.entries course)) ≡ true)
        second = and_parts (are_known t course) _ first.1

        third : (are_placed course ≡ true) × ((tells_tried course && ends_rightly t.entries course) ≡ true)
        third = and_parts (are_placed course) _ second.1

        fourth : (tells_tried course ≡ true) × (ends_rightly t.entries course ≡ true)
        fourth = and_parts (tells_tried course) _ third.1

        by : (over : Bool) → course.is_over ≡ over → implies over (is_same_request granted t.entries course.request course.report) ≡ true
        by false is = refl
        by true is =
            let ends = and_parts (ends_so t.entries course course.report.failed) _ (implied course.is_over (ends_so t.entries course course.report.failed && list_all (is_left_lost (length course.report.calls) (lost_links course)) (commit_sendings course)) is fourth.1) in
            request_same granted t whole course
            (both_all (is_same_sending granted t course) (λ s. is_known t.blocked course.report.calls course.report.outcomes s && is_placed course.request.calls (held_in course.steps) s) (commit_sendings course) first.0
            (both_all (is_known t.blocked course.report.calls course.report.outcomes) (is_placed course.request.calls (held_in course.steps)) (commit_sendings course) second.0
            (filter_all (is_placed course.request.calls (held_in course.steps)) commits (sendings_of course) third.0)))
            ends.0 fourth.0

-- and the report of a whole run has the clause
pub entries_reported : RunsKeepInvariant → ReportsAreSame → EntriesMakeReportsSame
entries_reported keeps ends document report seen t server right is same =
    let so = finishing_reached document is.run.place report.notes report.served seen t is.run.finishing in
    ends document report seen t server is (same_over (granted_by document) t (keeps document so.0 report.notes report.served seen t right so.1) same)
