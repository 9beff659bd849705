-- An entry of a sending that is open or was answered Committed, part by part: where its transaction
-- begins, and its answers and granted draws. (Its calls, and the settings before them: Same.)
use Rattle.std.specs.Prelude.{ℕ, ◌+◌, ◌-◌, ◌==◌, ◌&&◌, ◌||◌, Bool, true, false, not, nat_le, List, [], ◌∷◌, length, filter, take, drop, slice_get, None}
use Rattle.std.specs.List.{list_all, last_or}
use Rattle.std.specs.Option.{option_map_or}
use Rattle.svc_values.specs.declared.draw.Draw.{Draw}
use Rattle.svc_values.specs.declared.entry.Entry.{Entry}
use Rattle.svc_values.specs.declared.entry.Piece.{Piece}
use Rattle.svc_values.specs.meaning.Endings.{ends_transaction}
use Rattle.svc_values.specs.meaning.Identifiers.{same_ltxid}
use Rattle.svc_values.specs.meaning.Same.{same_answers, same_draws}
use Rattle.outage_schedule.specs.declared.request.ShownCall.{ShownCall}
use Rattle.invariant_laws.specs.Once.{is_open_or_committed}
use Rattle.world_model.specs.Parts.{Sending, commit_sendings, implies}
use Rattle.world_model.specs.Traced.{Traced, Course, courses_of}
use Rattle.invariant_laws.specs.Verified.{all_but_last}

-- of each entry of each such sending
abbrev pub of_entries : (Course → Sending → Entry → Bool) → Traced → Bool
of_entries test t =
    list_all
    (λ course. list_all (λ sending. implies (is_open_or_committed sending)
    (list_all (λ entry. implies (same_ltxid entry.ltxid sending.ltxid)
    (test course sending entry)) t.entries)) (commit_sendings course))
    (courses_of t)

-- the index of its first call, where its last one is the one that was sent
abbrev pub first_of : Sending → Entry → ℕ
first_of sending entry = (sending.at + 1) - length entry.pieces

-- a call was shown as one that ended a transaction
abbrev pub ended_at : List ShownCall → ℕ → Bool
ended_at shown index = option_map_or (λ call. ends_transaction call.answers) (slice_get shown index)
    false

-- the first call is the request's first, or behind one that was shown as an end
abbrev pub starts_one : Course → Sending → Entry → Bool
starts_one course sending entry = (first_of sending entry == 0)
    || ended_at course.report.calls (first_of sending entry - 1)

-- it has a call, and no more than the request has up to the one that was sent
abbrev pub has_its_calls : Sending → Entry → Bool
has_its_calls sending entry = ((first_of sending entry + length entry.pieces) == (sending.at + 1))
    && nat_le (first_of sending entry) sending.at

-- answers are the shown ones
abbrev pub answered_from : List Piece → List ShownCall → Bool
answered_from [] shown = true
answered_from pieces [] = true
answered_from (piece ∷ pieces) (shown ∷ others) =
    same_answers piece.answers shown.answers && answered_from pieces others

-- no call of it but the last was shown as an end
abbrev pub goes_on : Course → Sending → Entry → Bool
goes_on course sending entry = has_its_calls sending entry
    && list_all (λ call. not (ends_transaction call.answers))
    (drop (first_of sending entry) (take sending.at course.report.calls))

-- each call but the last has the shown answers
abbrev pub inside_answered : Course → Sending → Entry → Bool
inside_answered course sending entry = answered_from (all_but_last entry.pieces)
    (drop (first_of sending entry) course.report.calls)

-- so has the last one, where it was shown
abbrev pub ends_answered : Course → Sending → Entry → Bool
ends_answered course sending entry =
    option_map_or (λ call. option_map_or (λ piece. same_answers piece.answers call.answers)
    (last_or None entry.pieces) true) (slice_get course.report.calls sending.at) true

-- granted draws are the shown ones
abbrev pub drew_from : (Draw → Bool) → List Piece → List ShownCall → Bool
drew_from granted [] shown = true
drew_from granted pieces [] = true
drew_from granted (piece ∷ pieces) (shown ∷ others) =
    same_draws (filter granted piece.draws) (filter granted shown.draws)
    && drew_from granted pieces others

abbrev pub drew_so : (Draw → Bool) → Course → Sending → Entry → Bool
drew_so granted course sending entry = drew_from granted entry.pieces
    (drop (first_of sending entry) course.report.calls)
