-- Which record may come next in a journal, and what the journal is after it.
use Rattle.std.specs.Prelude.{ℕ, ℤ, pos, ◌+◌, ◌+ℤ◌, ◌-ℤ◌, ◌^◌, ◌&&◌, ◌||◌, Bool, true, false, not, nat_le, nat_lt, List, [], ◌∷◌, ◌++◌, map, fold, Option, Some, None, if◌then◌else◌}
use Rattle.std.specs.List.{list_any}
use Rattle.std.specs.Ordering.{int_eq}
use Rattle.std.specs.Str.{bytes_eq}
use Rattle.svc_values.specs.declared.entry.Entry.{Entry}
use Rattle.svc_values.specs.declared.entry.Ltxid.{Ltxid}
use Rattle.ltxid_book.specs.meaning.Journal.{committed_of, book_of}
use Rattle.ltxid_book.specs.meaning.Sessions.{Sessions, may_commit as may_note}
use Rattle.svc_values.specs.meaning.Fitting.{writes_fit}
use Rattle.commit_log.specs.declared.base.Base.{Base}
use Rattle.commit_log.specs.declared.base.BaseSequence.{BaseSequence}
use Rattle.commit_log.specs.declared.journal.Journal.{Journal}
use Rattle.commit_log.specs.declared.journal.Reservation.{Reservation}
use Rattle.commit_log.specs.declared.records.Record.{Record}
use Rattle.commit_log.specs.declared.records.Record.TheVariants as kept
use Rattle.commit_log.specs.meaning.Bases.{is_base, schemas_of}

-- what the journal says of each session
abbrev pub sessions_of : Journal → Sessions
sessions_of journal = book_of journal.horizon (map committed_of journal.entries) journal.blocked

-- A commit may come next in a store that was opened with its incarnation or a later one, where its
-- session is not forgotten, its identifier is its session's next one and is not blocked, and its
-- writes fit the tables.
unfoldable pub may_commit : Journal → Entry → Bool
may_commit journal entry = nat_le entry.ltxid.incarnation journal.incarnation
    && (may_note (sessions_of journal) entry.ltxid
    && writes_fit (schemas_of journal.base) entry.writes)

-- An identifier may be blocked where its session is not forgotten and it is this session's next one
-- and is not blocked, in whichever incarnation.
abbrev pub may_block : Journal → Ltxid → Bool
may_block journal x = may_note (sessions_of journal) x

-- how many values of a sequence are set aside at once
abbrev pub reservation_size : ℤ
reservation_size = pos 16

-- where the values end that were set aside for a sequence: with its last reservation, and before
-- the first one ahead of its start
abbrev pub end_of : List Reservation → BaseSequence → ℤ
end_of reservations sequence = fold (λ end reservation. if bytes_eq reservation.name sequence.name
    then reservation.upto else end) (sequence.start -ℤ pos 1) reservations

-- the reservation is the one that comes next of this sequence
abbrev pub is_next_reservation : List Reservation → Reservation → BaseSequence → Bool
is_next_reservation reservations reservation sequence =
    bytes_eq sequence.name reservation.name
    && int_eq reservation.upto (end_of reservations sequence +ℤ reservation_size)

-- A reservation may be set aside where it is the next one of a sequence of the base.
unfoldable pub may_reserve : Journal → Reservation → Bool
may_reserve journal reservation = list_any (is_next_reservation journal.reserved reservation)
    journal.base.sequences

-- How far a journal has come: no record yet, or a journal, whether the store was opened in it, and
-- whether a horizon was stored. (A journal in which none was stored has the horizon 0.)
pub data SoFar : Type 0 where
  Empty : SoFar
  Begun : (journal : Journal) → (is_opened has_horizon : Bool) → SoFar

-- a journal of nothing but its base
abbrev pub new_journal : Base → Journal
new_journal base = record {
  base = base;
  incarnation = 0;
  horizon = 0;
  entries = [];
  blocked = [];
  reserved = [];
  alerts = [];
}

-- the incarnations rise, and end at 2^63
abbrev pub may_open : Journal → Bool → ℕ → Bool
may_open journal is_opened incarnation =
    nat_le incarnation (2 ^ 63) && (not is_opened || nat_lt journal.incarnation incarnation)

-- the horizon is above the one that was stored last, or is the first
abbrev pub rises : Journal → (has_horizon : Bool) → ℕ → Bool
rises journal has_horizon horizon = not has_horizon || nat_lt journal.horizon horizon

-- the horizons rise, and none is above the incarnation that comes next
abbrev pub may_forget : Journal → (has_horizon : Bool) → ℕ → Bool
may_forget journal has_horizon horizon =
    nat_le horizon (journal.incarnation + 1) && rises journal has_horizon horizon

-- the journal with this record more
abbrev pub with_record : Journal → Record → Journal
with_record journal (kept.Base base) = journal
with_record journal (kept.Opened incarnation) = record journal { incarnation = incarnation }
with_record journal (kept.Commit entry) = record journal { entries = journal.entries ++ entry ∷ [] }
with_record journal (kept.Blocked x) = record journal { blocked = journal.blocked ++ x ∷ [] }
with_record journal (kept.Reserved reservation) =
    record journal { reserved = journal.reserved ++ reservation ∷ [] }
with_record journal (kept.Alert line) = record journal { alerts = journal.alerts ++ line ∷ [] }
with_record journal (kept.Horizon horizon) = record journal { horizon = horizon }

-- whether it may come next in a journal, in which the store was opened or not, and a horizon was
-- stored or not
abbrev pub may_come : Journal → (is_opened has_horizon : Bool) → Record → Bool
may_come journal is_opened has_horizon (kept.Base base) = false
may_come journal is_opened has_horizon (kept.Opened incarnation) =
    may_open journal is_opened incarnation
may_come journal is_opened has_horizon (kept.Commit entry) = is_opened && may_commit journal entry
may_come journal is_opened has_horizon (kept.Blocked x) = may_block journal x
may_come journal is_opened has_horizon (kept.Reserved reservation) = may_reserve journal reservation
may_come journal is_opened has_horizon (kept.Alert line) = true
may_come journal is_opened has_horizon (kept.Horizon horizon) =
    may_forget journal has_horizon horizon

-- whether it opens the store
abbrev pub is_opening : Record → Bool
is_opening (kept.Opened incarnation) = true
is_opening _ = false

-- whether it stores a horizon
abbrev pub is_horizon : Record → Bool
is_horizon (kept.Horizon horizon) = true
is_horizon _ = false

-- The base comes first, and no other does after it.
abbrev pub after : SoFar → Record → Option SoFar
after Empty (kept.Base base) = if is_base base then Some (Begun (new_journal base) false false) else
    None
after Empty _ = None
after (Begun journal is_opened has_horizon) next =
    if may_come journal is_opened has_horizon next then
    Some (Begun (with_record journal next) (is_opened || is_opening next)
    (has_horizon || is_horizon next)) else None
