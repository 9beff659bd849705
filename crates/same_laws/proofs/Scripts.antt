-- The entries of a request that is over are stretches of its script, where each entry of a sending
-- that is open or was answered Committed has the calls that end with the one that was sent; and so
-- they are in the report.
use Rattle.std.proofs.Common.{◌≡◌, refl, ap, subst, ◌∙◌, Bool, true, false, ℕ, zero, suc, ◌+◌, ◌-◌, ◌&&◌, ◌||◌, drop, length, map, take, List, [], ◌∷◌, ◌++◌, Some}
use Rattle.std.specs.Prelude.{nat_le, nat_lt, not, slice_get}
use Rattle.std.specs.List.{list_all}
use Rattle.std.specs.Option.{option_map_or}
use Rattle.std.proofs.lemmas.Bool.{and_parts, and_from, or_right}
use Rattle.svc_values.specs.declared.call.Call.{Call}
use Rattle.svc_values.specs.declared.entry.Entry.{Entry}
use Rattle.svc_values.specs.declared.entry.Ltxid.{Ltxid}
use Rattle.svc_values.specs.declared.entry.Piece.{Piece}
use Rattle.svc_values.specs.meaning.Endings.{ends_committed}
use Rattle.svc_values.specs.meaning.Identifiers.{same_ltxid}
use Rattle.svc_values.specs.meaning.Same.{same_calls}
use Rattle.svc_values.specs.SameLaws.{same_calls_decide, same_ltxid_decides}
use Rattle.svc_values.specs.meaning.SettingsList.{same_settings, with_sets}
use Rattle.outage_schedule.specs.declared.document.Document.{Document}
use Rattle.outage_schedule.specs.declared.document.Request.{Request}
use Rattle.outage_schedule.specs.declared.report.Report.{Report}
use Rattle.outage_schedule.specs.declared.request.RequestReport.{RequestReport}
use Rattle.outage_schedule.specs.declared.request.ShownCall.{ShownCall}
use Rattle.run_clauses.specs.meaning.Copies.{copies_by_client}
use Rattle.run_clauses.specs.meaning.Transactions.{txns}
use Rattle.run_clauses.specs.meaning.Tried.{holds}
use Rattle.run_clauses.specs.Tried.{Sending as Tried, tried_among, tried_from}
use Rattle.server_model.specs.Runs.{Server}
use Rattle.server_model.specs.Seen.{Seen}
use Rattle.world_model.specs.Parts.{Sending, commit_sendings, implies, sendings_of}
use Rattle.world_model.specs.Reported.{IsReported}
use Rattle.world_model.specs.Traced.{Traced, Course, courses_of, courses_of_clients}
use Rattle.invariant_laws.specs.Invariant.{Invariant}
use Rattle.invariant_laws.specs.KeptLaws.{RunsKeepInvariant}
use Rattle.invariant_laws.specs.Once.{reverse_onto, tells_tried, tried_one, is_open_or_committed}
use Rattle.invariant_laws.specs.Same.{calls_of, ends_with_sent, entries_follow_scripts, follows_script}
use Rattle.invariant_laws.specs.SameLaws.{WholeRunsFollowScripts}
use Rattle.world_model.proofs.Offered.{at_all, weaker_all, implied, finishing_reached}
use Rattle.invariant_laws.proofs.Offered.{any_all, both_all, is_under, lists_of, tried_sent, under_at}
use Rattle.script_clauses.specs.meaning.Scripted.{are_scripted_copies, begins_with, has_stretches, is_scripted_request, is_stretch, scripted}
use Rattle.script_clauses.proofs.Offered.{fronts, stretch_at}
use Rattle.same_laws.specs.RunsScripted.{RunsAreScripted}
use Rattle.same_laws.proofs.SameEnd.{all_entries, by_client, image, later_in, scripted as scripts_are}
use Rattle.same_laws.proofs.SameOver.{kept_all}

-- STRETCHES ---------------------------------------------------------------------------------------

-- pieces whose calls are those between two places of the script
between : (from upto : ℕ) (script : List Call) (pieces : List Piece) → map (λ (piece : Piece). piece.call) pieces ≡ drop from (take upto script) → begins_with (drop from script) pieces ≡ true
between zero upto script pieces is = fronts upto script pieces is
between (suc from) upto script [] is = refl
between (suc from) zero script (piece ∷ pieces) is = absurd (let none : ⊥ = cc in none)
between (suc from) (suc upto) [] (piece ∷ pieces) is = absurd (let none : ⊥ = cc in none)
between (suc from) (suc upto) (call ∷ script) (piece ∷ pieces) is = between from upto script (piece ∷ pieces) is

stretch_of : (course : Course) (sending : Sending) (entry : Entry) → ends_with_sent course sending entry ≡ true → is_stretch course.request.settings course.request.calls entry ≡ true
stretch_of course sending entry ends =
    let from : ℕ = (sending.at + 1) - length entry.pieces in
    let parts = and_parts (same_calls (calls_of entry) (drop from (take (sending.at + 1) course.request.calls))) (same_settings entry.settings (with_sets course.request.settings (take from course.request.calls))) ends in
    stretch_at from course.request.settings course.request.calls entry
    (between from (sending.at + 1) course.request.calls entry.pieces ((same_calls_decide (calls_of entry) (drop from (take (sending.at + 1) course.request.calls))).0 parts.0))
    parts.1

-- ONE REQUEST -------------------------------------------------------------------------------------

-- what holds of the list of each part of a request holds of all its lists
each_list : (test : List Ltxid → Bool) (told : List Tried) → ((is_of : ℕ → Bool) → test (tried_among is_of told) ≡ true) → (first : ℕ) (parts : List (List ShownCall)) → list_all test (tried_from first parts told) ≡ true
each_list test told each first [] = refl
each_list test told each first (part ∷ []) = and_from (test (tried_among (λ at. nat_le first at) told)) true (each (λ at. nat_le first at)) refl
each_list test told each first (part ∷ next ∷ parts) =
    and_from (test (tried_among (λ at. nat_le first at && nat_lt at (first + length part)) told)) (list_all test (tried_from (first + length part) (next ∷ parts) told))
    (each (λ at. nat_le first at && nat_lt at (first + length part))) (each_list test told each (first + length part) (next ∷ parts))

module _ (t : Traced) (course : Course) (follow : list_all (follows_script t course) (commit_sendings course) ≡ true) where
  abbrev told : List Tried
  told = map tried_one (reverse_onto (sendings_of course) [])

  -- an entry under an identifier of a list is that of a sending
  found_so : (is_of : ℕ → Bool) (place : ℕ) (entry : Entry) → slice_get t.entries place ≡ Some entry → holds (tried_among is_of told) entry.ltxid ≡ true → is_stretch course.request.settings course.request.calls entry ≡ true
  found_so is_of place entry here held =
      stretch_of course found.0 entry
      (implied (same_ltxid entry.ltxid found.0.ltxid) (ends_with_sent course found.0 entry) ((same_ltxid_decides entry.ltxid found.0.ltxid).1 ((same_ltxid_decides entry.ltxid found.0.ltxid).0 two.1))
      (at_all (λ e. not (same_ltxid e.ltxid found.0.ltxid) || ends_with_sent course found.0 e) t.entries place entry all here))
    where
      found : (s : Sending) × ((under_at is_of entry.ltxid s ≡ true) × (follows_script t course s ≡ true))
      found = any_all (under_at is_of entry.ltxid) (follows_script t course) (commit_sendings course) (tried_sent entry.ltxid is_of (sendings_of course) held) follow

      one : (is_of found.0.at ≡ true) × (is_under entry.ltxid found.0 ≡ true)
      one = and_parts (is_of found.0.at) (is_under entry.ltxid found.0) found.1.0

      two : (is_open_or_committed found.0 ≡ true) × (same_ltxid entry.ltxid found.0.ltxid ≡ true)
      two = and_parts (is_open_or_committed found.0) (same_ltxid entry.ltxid found.0.ltxid) one.1

      opens : option_map_or ends_committed found.0.taken true ≡ true
      opens = two.0

      all : list_all (λ e. not (same_ltxid e.ltxid found.0.ltxid) || ends_with_sent course found.0 e) t.entries ≡ true
      all = implied (option_map_or ends_committed found.0.taken true) (list_all (λ e. not (same_ltxid e.ltxid found.0.ltxid) || ends_with_sent course found.0 e) t.entries) opens found.1.1

  list_so : (is_of : ℕ → Bool) → has_stretches t.entries course.request (tried_among is_of told) ≡ true
  list_so is_of = kept_all (is_stretch course.request.settings course.request.calls) (λ entry. holds (tried_among is_of told) entry.ltxid) t.entries (found_so is_of)

  request_so : tells_tried course ≡ true → is_scripted_request t.entries course.request course.report ≡ true
  request_so tells = ap (list_all (has_stretches t.entries course.request)) (lists_of course tells) ∙ each_list (has_stretches t.entries course.request) told list_so 0 (txns course.report.calls)

-- ALL REQUESTS ------------------------------------------------------------------------------------

over_scripted : (t : Traced) → Invariant t → entries_follow_scripts t ≡ true → list_all (λ course. implies course.is_over (is_scripted_request t.entries course.request course.report)) (courses_of t) ≡ true
over_scripted t whole follow =
    weaker_all (λ course. list_all (follows_script t course) (commit_sendings course) && tells_tried course) (λ course. implies course.is_over (is_scripted_request t.entries course.request course.report)) (courses_of t) one
    (both_all (λ course. list_all (follows_script t course) (commit_sendings course)) tells_tried (courses_of t) follow whole.once.tried)
  where
    one : (course : Course) → (list_all (follows_script t course) (commit_sendings course) && tells_tried course) ≡ true → implies course.is_over (is_scripted_request t.entries course.request course.report) ≡ true
    one course here =
        let parts = and_parts (list_all (follows_script t course) (commit_sendings course)) (tells_tried course) here in
        or_right (not course.is_over) (is_scripted_request t.entries course.request course.report) (request_so t course parts.0 parts.1)

-- those of the run alone
later_lists : (request : Request) (before gained : List Entry) (lists : List (List Ltxid)) → list_all (has_stretches (before ++ gained) request) lists ≡ true → list_all (has_stretches gained request) lists ≡ true
later_lists request before gained [] all = refl
later_lists request before gained (ids ∷ lists) all =
    let parts = and_parts (has_stretches (before ++ gained) request ids) (list_all (has_stretches (before ++ gained) request) lists) all in
    and_from (has_stretches gained request ids) (list_all (has_stretches gained request) lists)
    (later_in (λ draw. true) before gained (is_stretch request.settings request.calls) ids parts.0) (later_lists request before gained lists parts.1)

module _ (document : Document) (report : Report) (seen : Seen) (t : Traced) (server : Server) (is : IsReported document report seen t server) where
  run_entries : (course : Course) → implies course.is_over (is_scripted_request t.entries course.request course.report) ≡ true → implies course.is_over (is_scripted_request report.entries course.request course.report) ≡ true
  run_entries course here = by course.is_over here
    where
      by : (over : Bool) → implies over (is_scripted_request t.entries course.request course.report) ≡ true → implies over (is_scripted_request report.entries course.request course.report) ≡ true
      by false here = refl
      by true here =
          later_lists course.request (image document report seen t server is) report.entries course.report.tried
          (subst (λ (entries : List Entry). is_scripted_request entries course.request course.report ≡ true) (all_entries document report seen t server is) here)

  scripted_reported : list_all (λ course. implies course.is_over (is_scripted_request t.entries course.request course.report)) (courses_of t) ≡ true → scripted document report ≡ true
  scripted_reported over =
      ap (λ (transcripts : List (List RequestReport)). list_all (list_all (are_scripted_copies report.entries)) (copies_by_client document.clients transcripts)) is.clients
      ∙ by_client (is_scripted_request report.entries) t.setting document.clients t.machine.clients 1 (scripts_are document report seen t server is)
      (weaker_all (λ course. implies course.is_over (is_scripted_request t.entries course.request course.report)) (λ course. implies course.is_over (is_scripted_request report.entries course.request course.report))
      (courses_of_clients t.setting 1 t.machine.clients) run_entries over)

pub runs_scripted : RunsKeepInvariant → WholeRunsFollowScripts → RunsAreScripted
runs_scripted keeps follow document report seen t server right is =
    let so = finishing_reached document is.run.place report.notes report.served seen t is.run.finishing in
    scripted_reported document report seen t server is
    (over_scripted t (keeps document so.0 report.notes report.served seen t right so.1) (follow document report.notes report.served seen t right is.run))
