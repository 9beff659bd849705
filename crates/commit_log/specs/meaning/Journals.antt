-- The journal that an image holds.
use Rattle.std.specs.Prelude.{ℕ, ◌+◌, Bool, false, List, [], ◌∷◌, length, Option, Some, None, option_and_then, Result, Ok, Err}
use Rattle.canon_bytes.specs.declared.fault.Fault.{Fault}
use Rattle.redo_store.specs.meaning.Records.{records_of, whole_records}
use Rattle.commit_log.specs.declared.journal.Journal.{Journal}
use Rattle.commit_log.specs.declared.records.Record.{Record}
use Rattle.commit_log.specs.meaning.RecordBytes.{record_at}
use Rattle.commit_log.specs.meaning.Rules.{SoFar, Empty, Begun, after}

-- a record behind which no byte is left
abbrev pub if_whole : Result (Record × List ℕ) Fault → Option Record
if_whole (Ok (record_read, [])) = Some record_read
if_whole (Ok (record_read, byte ∷ rest)) = None
if_whole (Err fault) = None

-- the record that the whole bytes spell
abbrev pub whole_record : List ℕ → Option Record
whole_record payload = if_whole (record_at payload)

-- the journal after a record with these bytes, if it may come next
abbrev pub after_payload : SoFar → List ℕ → Option SoFar
after_payload so_far payload = option_and_then (after so_far) (whole_record payload)

-- goes on where a record may come next, and else tells its place
abbrev pub if_next : Option SoFar → ℕ → (SoFar → Result SoFar ℕ) → Result SoFar ℕ
if_next None place go_on = Err place
if_next (Some next) place go_on = go_on next

-- Records judged one after the other, the gate of the first at this place: the journal after all of
-- them, or the place of the first that may not come next.
abbrev pub judged : SoFar → ℕ → List (List ℕ) → Result SoFar ℕ
judged so_far place [] = Ok so_far
judged so_far place (payload ∷ payloads) =
    if_next (after_payload so_far payload) place
    (λ next. judged next (place + 9 + length payload) payloads)

-- Whole records are judged first, and then whether a gate behind them is damaged.
abbrev pub with_gates : Result SoFar ℕ → Result (List (List ℕ)) ℕ → Result SoFar ℕ
with_gates (Err place) records = Err place
with_gates (Ok so_far) (Err place) = Err place
with_gates (Ok so_far) (Ok records) = Ok so_far

-- how far the journal of an image has come, or the first place where the image is damaged
unfoldable pub so_far_of : List ℕ → Result SoFar ℕ
so_far_of image = with_gates (judged Empty 8 (whole_records image)) (records_of image)

-- a store without any record is damaged where its first would stand
abbrev pub journal_in : Result SoFar ℕ → Result Journal ℕ
journal_in (Err place) = Err place
journal_in (Ok Empty) = Err 8
journal_in (Ok (Begun journal is_opened has_horizon)) = Ok journal

-- the journal of an image, or the first place where it is damaged
abbrev pub journal_of : List ℕ → Result Journal ℕ
journal_of image = journal_in (so_far_of image)

-- the store was opened in it
abbrev pub is_opened : Result SoFar ℕ → Bool
is_opened (Ok (Begun journal opened has_horizon)) = opened
is_opened _ = false
