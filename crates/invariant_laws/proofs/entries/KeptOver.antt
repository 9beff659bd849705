-- Of Once: the lines on each transaction of each request that is over, at the start and behind each
-- event.
use Rattle.std.proofs.Common.{◌≡◌, refl, Bool, true, false, ◌&&◌, length, []}
use Rattle.std.specs.List.{list_all}
use Rattle.std.proofs.lemmas.Bool.{and_parts}
use Rattle.commit_log.specs.Keeping.{EachKeeps}
use Rattle.run_clauses.specs.meaning.Once.{request_ends}
use Rattle.server_model.specs.Laws.{EntryNumbers}
use Rattle.invariant_laws.specs.KeptLaws.{IsKeptOfAll}
use Rattle.invariant_laws.specs.Lost.{are_lost, fail_incomplete, is_failed_by, lost_links, lost_rightly}
use Rattle.world_model.specs.records.Number.{entries_numbered, none_blocked}
use Rattle.invariant_laws.specs.Once.{all_but_last, all_end, all_known, all_placed, all_sendings, are_known, are_placed, earlier_settled, ends_rightly, ends_so, is_left_lost, is_placed, note_sendings, notes_sendings, over_ends, shown_stored, stored_from, tell_tried, tells_tried}
use Rattle.world_model.specs.Parts.{commit_sendings, implies, sendings_of}
use Rattle.world_model.specs.Reached.{traced_start}
use Rattle.world_model.specs.Sames.{same_owner}
use Rattle.world_model.specs.meaning.Settings.{setting_of}
use Rattle.world_model.specs.Traced.{Traced, Course, courses_of}
use Rattle.world_model.specs.Words.{held_in}
use Rattle.world_model.proofs.Offered.{filter_all, weaker_all, entries_law, unblocked_law, resting_none, implied, scan_by}
use Rattle.invariant_laws.proofs.sendings.ApartSteps.{commits}
use Rattle.invariant_laws.proofs.losses.AskedSendings.{each_flat}
use Rattle.invariant_laws.proofs.entries.EntriesFew.{numbered_differ}
use Rattle.invariant_laws.proofs.sendings.FateSteps.{fated}
use Rattle.invariant_laws.proofs.sendings.FateTaken.{scan_owned}
use Rattle.invariant_laws.proofs.entries.KeptEnded.{ended_law}
use Rattle.invariant_laws.proofs.losses.KeptFailed.{failed_law}
use Rattle.invariant_laws.proofs.sendings.KeptFates.{fates_law}
use Rattle.invariant_laws.proofs.sendings.KeptKnown.{known_law}
use Rattle.invariant_laws.proofs.losses.KeptLost.{lost_law}
use Rattle.invariant_laws.proofs.entries.KeptNoted.{noted_law}
use Rattle.invariant_laws.proofs.sendings.KeptPlaced.{placed_law}
use Rattle.invariant_laws.proofs.sendings.KeptSettled.{settled_law}
use Rattle.invariant_laws.proofs.sendings.KeptShownStored.{shown_stored_law}
use Rattle.invariant_laws.proofs.entries.KeptTried.{tried_law}
use Rattle.invariant_laws.proofs.losses.LostKept.{both_all}
use Rattle.invariant_laws.proofs.entries.OverEnds.{course_ends}

-- it follows from the rest
over_by : (t : Traced) → none_blocked t ≡ true → entries_numbered t ≡ true → tell_tried t ≡ true → note_sendings t ≡ true → earlier_settled t ≡ true → all_known t ≡ true → all_placed t ≡ true → shown_stored t ≡ true → all_end t ≡ true
    → list_all (fated t.machine.links) (all_sendings t) ≡ true → are_lost t ≡ true → fail_incomplete t ≡ true → over_ends t ≡ true
over_by t unblocked numbered tells notes settled known placed stored ended fates lost failed =
    weaker_all so (λ course. implies course.is_over (request_ends t.entries course.report)) (courses_of t) one
    (both_all tells_tried behind_told (courses_of t) tells
    (both_all notes_sendings behind_noted (courses_of t) notes
    (both_all settles behind_settled (courses_of t) settled
    (both_all (are_known t) behind_known (courses_of t) known
    (both_all are_placed behind_placed (courses_of t) placed
    (both_all stores behind_stored (courses_of t) stored
    (both_all (ends_rightly t.entries) behind_ended (courses_of t) ended
    (both_all has_fates behind_fated (courses_of t) (each_flat (fated t.machine.links) commit_sendings (courses_of t) fates)
    (both_all (lost_rightly t) fails (courses_of t) lost failed)))))))))
  where
    settles : Course → Bool
    settles course = all_but_last t course.report.calls (commit_sendings course)

    stores : Course → Bool
    stores course = stored_from t.entries (commit_sendings course) 0 course.report.calls

    has_fates : Course → Bool
    has_fates course = list_all (fated t.machine.links) (commit_sendings course)

    fails : Course → Bool
    fails course = list_all (is_failed_by course) course.report.outcomes

    behind_fated : Course → Bool
    behind_fated course = lost_rightly t course && fails course

    behind_ended : Course → Bool
    behind_ended course = has_fates course && behind_fated course

    behind_stored : Course → Bool
    behind_stored course = ends_rightly t.entries course && behind_ended course

    behind_placed : Course → Bool
    behind_placed course = stores course && behind_stored course

    behind_known : Course → Bool
    behind_known course = are_placed course && behind_placed course

    behind_settled : Course → Bool
    behind_settled course = are_known t course && behind_known course

    behind_noted : Course → Bool
    behind_noted course = settles course && behind_settled course

    behind_told : Course → Bool
    behind_told course = notes_sendings course && behind_noted course

    so : Course → Bool
    so course = tells_tried course && behind_told course

    one : (course : Course) → so course ≡ true → implies course.is_over (request_ends t.entries course.report) ≡ true
    one course here = by course.is_over refl
      where
        told : (tells_tried course ≡ true) × (behind_told course ≡ true)
        told = and_parts (tells_tried course) (behind_told course) here

        noted : (notes_sendings course ≡ true) × (behind_noted course ≡ true)
        noted = and_parts (notes_sendings course) (behind_noted course) told.1

        settled_so : (settles course ≡ true) × (behind_settled course ≡ true)
        settled_so = and_parts (settles course) (behind_settled course) noted.1

        known_so : (are_known t course ≡ true) × (behind_known course ≡ true)
        known_so = and_parts (are_known t course) (behind_known course) settled_so.1

        placed_so : (are_placed course ≡ true) × (behind_placed course ≡ true)
        placed_so = and_parts (are_placed course) (behind_placed course) known_so.1

        stored_so : (stores course ≡ true) × (behind_stored course ≡ true)
        stored_so = and_parts (stores course) (behind_stored course) placed_so.1

        ended_so : (ends_rightly t.entries course ≡ true) × (behind_ended course ≡ true)
        ended_so = and_parts (ends_rightly t.entries course) (behind_ended course) stored_so.1

        fated_so : (has_fates course ≡ true) × (behind_fated course ≡ true)
        fated_so = and_parts (has_fates course) (behind_fated course) ended_so.1

        lost_so : (lost_rightly t course ≡ true) × (fails course ≡ true)
        lost_so = and_parts (lost_rightly t course) (fails course) fated_so.1

        by : (over : Bool) → course.is_over ≡ over → implies over (request_ends t.entries course.report) ≡ true
        by false is = refl
        by true is =
            let ends = and_parts (ends_so t.entries course course.report.failed) (list_all (is_left_lost (length course.report.calls) (lost_links course)) (commit_sendings course)) (implied course.is_over _ is ended_so.0) in
            course_ends t unblocked (numbered_differ [] t.entries numbered) course
            (record {
              over = is;
              tells = told.0;
              notes = noted.0;
              settled = settled_so.0;
              known = known_so.0;
              placed = filter_all (is_placed course.request.calls (held_in course.steps)) commits (sendings_of course) placed_so.0;
              stored = stored_so.0;
              ends = ends.0;
              lost_so = ends.1;
              fates = fated_so.0;
              owned = filter_all (λ s. same_owner s.owner course.owner) commits (sendings_of course) (scan_owned course.owner (scan_by course.owner []) course.steps refl refl);
              lost = lost_so.0;
              failed = lost_so.1;
            })

pub over_law : EachKeeps → EntryNumbers → IsKeptOfAll over_ends
over_law keeps numbers = record {
  at_start = λ document. resting_none (setting_of document) 1 (λ course. implies course.is_over (request_ends (traced_start document).entries course.report)) document.clients;
  at_event = λ before after old new event note items left one inv.
      over_by new ((unblocked_law keeps).at_event before after old new event note items left one inv.orderly) ((entries_law keeps).at_event before after old new event note items left one inv.orderly)
      (tried_law.at_event before after old new event note items left one inv) (noted_law.at_event before after old new event note items left one inv.orderly inv.once.noted)
      ((settled_law keeps numbers).at_event before after old new event note items left one inv) (known_law.at_event before after old new event note items left one inv) (placed_law.at_event before after old new event note items left one inv)
      ((shown_stored_law numbers).at_event before after old new event note items left one inv) (ended_law.at_event before after old new event note items left one inv) (fates_law.at_event before after old new event note items left one inv)
      ((lost_law keeps numbers).at_event before after old new event note items left one inv) (failed_law.at_event before after old new event note items left one inv);
}
