-- Whether what was served is legal, with these entries and these lines of alerts: a test over
-- items.
use Rattle.std.specs.Prelude.{ℕ, ◌==◌, ◌&&◌, ◌||◌, Bool, true, false, not, List, [], ◌∷◌, ◌++◌, Option, Some, None, is_some, if◌then◌else◌}
use Rattle.std.specs.List.{list_any}
use Rattle.std.specs.Str.{bytes_eq}
use Rattle.std.specs.Cmp.Lexicographic.{pointwise}
use Rattle.svc_values.specs.declared.call.Call.{Call}
use Rattle.svc_values.specs.declared.call.Call.TheVariants as call
use Rattle.svc_values.specs.declared.answer.Answer.{Answer}
use Rattle.svc_values.specs.declared.answer.Answer.TheVariants as answer
use Rattle.svc_values.specs.declared.entry.Entry.{Entry}
use Rattle.svc_values.specs.meaning.Calls.{has_commit, is_lone_commit}
use Rattle.svc_values.specs.meaning.Endings.{ends_committed, ends_conflict}
use Rattle.svc_values.specs.meaning.SettingsList.{same_settings}
use Rattle.svc_values.specs.declared.tables.PlainRow.{PlainRow}
use Rattle.svc_values.specs.meaning.Tables.{rows_at}
use Rattle.stmt_meaning.specs.meaning.Meaning.{Meant}
use Rattle.svc_values.specs.meaning.Same.{same_answers, same_bool, same_piece, same_rows}
use Rattle.stmt_meaning.specs.meaning.SerialTest.{is_nil}
use Rattle.svc_values.specs.meaning.Identifiers.{same_ltxid}
use Rattle.ltxid_book.specs.meaning.Journal.{is_blocked}
use Rattle.server_model.specs.meaning.Base.{Base}
use Rattle.svc_values.specs.declared.entry.SessionId.{SessionId}
use Rattle.stmt_meaning.specs.meaning.Reads.{Read}
use Rattle.server_model.specs.meaning.Items.{Thing, Called, MetBlock, CallStopped, Item, Did, AskTold, AskStopped}
use Rattle.stmt_meaning.specs.meaning.Asked.{asked_by_call}
use Rattle.server_model.specs.meaning.NewValues.{kept_by, drawn_by, meets_with}
use Rattle.server_model.specs.meaning.Walk.{Transaction, Walk, walk_of, next_of, Performed, Deed, Nothing, Meaningless, Ran, meaning, deed_of, with_call, entered, after}

-- ---- answers

-- some place that was read has other committed rows now
abbrev pub differs : List PlainRow → List Read → Bool
differs committed reads = list_any (λ read. not (same_rows read.found (rows_at committed read.at)))
    reads

-- how a commit that is reached is answered: by the mark, by a place that differs, or by the commit
abbrev pub verdict : Bool → Bool → Answer
verdict true changed = answer.CommitInReplay
verdict false true = answer.Conflict
verdict false false = answer.Committed

-- answers with another last one
abbrev pub ending_with : List Answer → Answer → List Answer
ending_with [] last = []
ending_with (first ∷ []) last = last ∷ []
ending_with (first ∷ next ∷ more) last = first ∷ ending_with (next ∷ more) last

-- A call that means a commit is answered as it means, with the last answer by the verdict; every
-- other call as it means.
abbrev pub answered : Meant → Bool → Bool → List Answer
answered meant replay changed = if ends_committed meant.answers then
    ending_with meant.answers (verdict replay changed) else meant.answers

abbrev pub answers_hold : Walk → Performed → Meant → Bool
answers_hold walk performed meant = same_answers performed.answers
    (answered meant performed.replay (differs walk.committed
    (with_call walk performed meant).reads))

-- a commit and a conflict come only under an identifier that was not blocked
abbrev pub is_free : Walk → Performed → Bool
is_free walk performed = if ends_committed performed.answers || ends_conflict performed.answers then
    not (is_blocked walk.blocked (next_of walk performed.session)) else true

-- ---- entries

-- the entry has the session's next identifier, the transaction with this call, the settings at its
-- start, and tells a lone commit
abbrev pub is_entry_of : Walk → Performed → Transaction → Entry → Bool
is_entry_of walk performed transaction entry =
    same_ltxid entry.ltxid (next_of walk performed.session)
    && (pointwise same_piece entry.pieces transaction.pieces
    && (same_settings entry.settings transaction.at_start
    && same_bool entry.completed (is_lone_commit performed.called)))

abbrev pub is_first_entry : Walk → Performed → Transaction → List Entry → Bool
is_first_entry walk performed transaction [] = false
is_first_entry walk performed transaction (entry ∷ left) =
    is_entry_of walk performed transaction entry

-- a call that is answered Committed stores the entry that comes next
abbrev pub stores : Walk → Performed → Meant → Bool
stores walk performed meant = if ends_committed performed.answers then
    is_first_entry walk performed (with_call walk performed meant) walk.left else true

-- ---- draws

abbrev pub draws_hold : Base → Walk → Performed → Bool
draws_hold base walk performed = is_some
    (drawn_by performed.now (kept_by base performed.replay performed.kept) performed.draws
    walk.numbers)

-- ---- blocks

abbrev pub means_commit : Option Meant → Bool
means_commit None = false
means_commit (Some meant) = is_nil meant.rest && ends_committed meant.answers

-- A call is answered Blocked only where it would reach its commit, without the mark, under an
-- identifier that is or may be blocked.
abbrev pub may_be_blocked : Base → Walk → ℕ → SessionId → Bool → Call → Bool
may_be_blocked base walk now session replay called =
    let x = next_of walk session in
    has_commit called && (not replay && ((is_blocked walk.blocked x || is_blocked walk.perhaps x)
    && meets_with (λ draws. means_commit (meaning base walk session called draws)) now
    (asked_by_call called) walk.numbers))

-- ---- an item

abbrev pub deed_holds : Base → Walk → Deed → Bool
deed_holds base walk Nothing = true
deed_holds base walk Meaningless = false
deed_holds base walk (Ran performed meant) =
    is_nil meant.rest && (answers_hold walk performed meant
    && (is_free walk performed && (stores walk performed meant && draws_hold base walk performed)))

abbrev pub thing_holds : Base → Walk → ℕ → SessionId → Thing → Bool
thing_holds base walk now session (MetBlock replay called) =
    may_be_blocked base walk now session replay called
thing_holds base walk now session _ = true

-- openings come one after the other, and nothing of an opening comes behind a stop in it
abbrev pub is_of_now : Walk → SessionId → Bool
is_of_now walk session = not walk.is_over && (session.incarnation == walk.numbers.incarnation)

abbrev pub item_holds : Base → Walk → Item → Deed → Bool
item_holds base walk (Did event now session thing) did =
    is_of_now walk session && (deed_holds base walk did && thing_holds base walk now session thing)
item_holds base walk (AskTold event x outcome) did = true
item_holds base walk (AskStopped event x) did = true

abbrev pub all_stored : List Entry → Bool
all_stored [] = true
all_stored (entry ∷ left) = false

-- the items hold one after the other, and store all entries
abbrev pub items_hold : Base → Walk → List Item → Bool
items_hold base walk [] = all_stored walk.left
items_hold base walk (item ∷ items) =
    let here = entered walk item in
    let did = deed_of base here item in
    item_holds base here item did && items_hold base (after base here item did) items

-- ---- alerts

-- a line that was handed to the service, and whether this was answered
pub record Line : Type 0 where
  pub text : List ℕ
  pub is_answered : Bool

abbrev pub line_if : Call → Bool → List Line
line_if (call.Alter text) answered = record { text = text; is_answered = answered } ∷ []
line_if _ answered = []

abbrev pub line_in : Thing → List Line
line_in (Called replay kept called answers draws) = line_if called true
line_in (CallStopped replay called) = if replay then [] else line_if called false
line_in _ = []

abbrev pub lines_of : List Item → List Line
lines_of [] = []
lines_of (Did event now session thing ∷ items) = line_in thing ++ lines_of items
lines_of (AskTold event x outcome ∷ items) = lines_of items
lines_of (AskStopped event x ∷ items) = lines_of items

-- The alerts are the answered lines in order, and of the others some: each of them either way.
abbrev pub lines_stand : List Line → List (List ℕ) → Bool
lines_stand [] [] = true
lines_stand [] (alert ∷ alerts) = false
lines_stand (line ∷ lines) [] = not line.is_answered && lines_stand lines []
lines_stand (line ∷ lines) (alert ∷ alerts) =
    (bytes_eq line.text alert && lines_stand lines alerts)
    || (not line.is_answered && lines_stand lines (alert ∷ alerts))

-- What was served is legal, with these entries and these alerts: those that the store gained since
-- the base.
abbrev pub legal : Base → List Item → List Entry → List (List ℕ) → Bool
legal base items entries alerts = items_hold base (walk_of base entries) items
    && lines_stand (lines_of items) alerts
