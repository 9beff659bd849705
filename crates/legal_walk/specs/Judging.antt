-- The parts of the test of a call, as the code takes them.
use Rattle.std.specs.Prelude.{◌&&◌, ◌||◌, Bool, true, false, not, List, [], ◌∷◌, if◌then◌else◌}
use Rattle.std.specs.Cmp.Lexicographic.{pointwise}
use Rattle.svc_values.specs.declared.answer.Answer.{Answer}
use Rattle.svc_values.specs.declared.call.Call.{Call}
use Rattle.svc_values.specs.declared.entry.Entry.{Entry}
use Rattle.svc_values.specs.declared.entry.Ltxid.{Ltxid}
use Rattle.svc_values.specs.meaning.Calls.{is_lone_commit}
use Rattle.svc_values.specs.meaning.Endings.{ends_committed, ends_conflict}
use Rattle.svc_values.specs.meaning.Identifiers.{same_ltxid}
use Rattle.svc_values.specs.meaning.Same.{same_bool, same_piece}
use Rattle.svc_values.specs.meaning.SettingsList.{same_settings}
use Rattle.ltxid_book.specs.meaning.Journal.{is_blocked}
use Rattle.server_model.specs.meaning.Legal.{ending_with, verdict}
use Rattle.calls_again.specs.OnWay.{OnWay}
use Rattle.legal_walk.specs.declared.ongoing.Ongoing.{Ongoing}
use Rattle.legal_walk.specs.Going.{begins_with}

-- answers that mean a commit are told with the verdict last
abbrev pub answered_by : List Answer → Bool → Bool → List Answer
answered_by answers replay changed = if ends_committed answers then
    ending_with answers (verdict replay changed) else answers

-- the entry has this identifier, the transaction, the settings at its start, and tells a lone
-- commit
abbrev pub is_entry_with : Ltxid → OnWay → Bool → Entry → Bool
is_entry_with next going is_lone entry =
    same_ltxid entry.ltxid next && (pointwise same_piece entry.pieces going.pieces
    && (same_settings entry.settings going.at_start && same_bool entry.completed is_lone))

-- a commit or a conflict comes only under an identifier that is not blocked
abbrev pub is_free_at : List Ltxid → Ltxid → List Answer → Bool
is_free_at blocked next answers = if ends_committed answers
    || ends_conflict answers then not (is_blocked blocked next) else true

abbrev pub is_first_with : Ltxid → OnWay → Bool → List Entry → Bool
is_first_with next going is_lone [] = false
is_first_with next going is_lone (entry ∷ left) = is_entry_with next going is_lone entry

-- a call that was answered as committed stores the first of these entries
abbrev pub stores_with : Ltxid → OnWay → List Answer → Call → List Entry → Bool
stores_with next going answers called left =
    if ends_committed answers then is_first_with next going (is_lone_commit called) left else true

-- the next transaction begins where this one is ended
abbrev pub ended_if : Bool → Ongoing → Ongoing
ended_if true one = begins_with one.going.settings
ended_if false one = one
