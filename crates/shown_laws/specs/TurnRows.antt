-- What a session served in a turn, beside the calls that the request sent there whose turn it is.
use Rattle.std.specs.Prelude.{◌≡◌, Bool, true, not, if◌then◌else◌, IsTrue, List, [], ◌∷◌, reverse}
use Rattle.std.specs.List.{list_all}
use Rattle.svc_values.specs.declared.call.Call.{Call}
use Rattle.svc_values.specs.declared.draw.Draw.{Draw}
use Rattle.svc_values.specs.declared.frame.Up.TheVariants as up
use Rattle.shown_clauses.specs.meaning.Links.{Marked, Turn}
use Rattle.shown_clauses.specs.meaning.Turns.{is_turn_right}
use Rattle.world_model.specs.meaning.Frames.{Sent}
use Rattle.invariant_laws.specs.NearCalls.{is_shown_or_next}
use Rattle.invariant_laws.specs.Shown.{is_marked, is_row}
use Rattle.world_model.specs.Traced.{Course}
use Rattle.shown_laws.specs.Submitted.{submission_so_far}

-- The calls that were served, the oldest first, are those of the frames that were sent first.
pub data ServedOf : List Marked → List Sent → Type 0 where
  NoneServed : (sent : List Sent) → ServedOf [] sent
  OneServed : (first : Sent) (replay : Bool) (kept : List Draw) (call : Call) (served : List Marked)
      (sent : List Sent) → first.frame ≡ up.Call replay kept call → ServedOf served sent
      → ServedOf (record { replay = replay; call = call } ∷ served) (first ∷ sent)

-- those with the mark stand first
abbrev pub are_marked_first : List Sent → Bool
are_marked_first [] = true
are_marked_first (first ∷ more) = if is_marked first.frame then are_marked_first more else
    list_all (λ sent. not (is_marked sent.frame)) more

-- so they were served
abbrev pub marks_stand_first : List Marked → Bool
marks_stand_first [] = true
marks_stand_first (first ∷ more) = if first.replay then marks_stand_first more else
    list_all (λ one. not one.replay) more

-- A turn is right that served calls of a row: the call without the mark that comes first can be the
-- call of its index, and those with the mark are the ones before it since the last that was shown
-- as decided.
abbrev pub RowsMakeTurnsRight : Type 0
RowsMakeTurnsRight =
    (course : Course) (current : Bool) (calls : List Sent) (turn : Turn)
    → IsTrue (is_row course current calls)
    → IsTrue (list_all (is_shown_or_next course.report.calls) calls)
    → IsTrue (marks_stand_first (reverse turn.calls))
    → ServedOf (reverse turn.calls) calls → IsTrue (is_turn_right (submission_so_far course) turn)

-- What was served has the marks of what was sent.
abbrev pub ServesMarksFirst : Type 0
ServesMarksFirst = (served : List Marked) (sent : List Sent) → ServedOf served sent
    → IsTrue (are_marked_first sent) → IsTrue (marks_stand_first served)
