-- The bytes of a journal's record: a tag, and what stands behind it.
-- Here is what contracts and proofs say of it besides.
use Rattle.std.proofs.Common.{◌≡◌, refl, append_assoc}
use Rattle.std.specs.Prelude.{ℕ, List, ◌∷◌, ◌++◌, Ok}
use Rattle.canon_bytes.specs.meaning.Numbers.{spell_u64, spell_i64}
use Rattle.canon_bytes.specs.Numbers.{FitsU64, FitsI64}
use Rattle.canon_bytes.specs.meaning.TextBytes.{spell_bytes}
use Rattle.canon_bytes.specs.TextBytes.{FitsName, FitsText}
use Rattle.canon_bytes.specs.meaning.Entries.{spell_ltxid}
use Rattle.canon_bytes.specs.Entries.{spell_entry, FitsEntry, IsMadeEntry, FitsLtxid}
use Rattle.svc_values.specs.Identifiers.{IsLtxid}
use Rattle.canon_bytes.specs.EntriesAgain.{entry_again, ltxid_again}
use Rattle.canon_bytes.specs.Again.{u64_again, i64_again, name_again, text_again}
use Rattle.commit_log.specs.declared.journal.Reservation.{Reservation}
use Rattle.commit_log.specs.declared.records.Record.{Record}
use Rattle.commit_log.specs.declared.records.Record.TheVariants as kept
use Rattle.commit_log.specs.BaseBytes.{spell_base, FitsBase, base_again}
use Rattle.commit_log.specs.meaning.RecordBytes.{record_at, reservation_at}

-- a reservation of a sequence: its name, and where it ends
unfoldable pub spell_reservation : Reservation → List ℕ
spell_reservation reservation = spell_bytes reservation.name ++ spell_i64 reservation.upto

abbrev pub FitsReservation : Reservation → Type 0
FitsReservation reservation = FitsName reservation.name × FitsI64 reservation.upto

abbrev pub spell_record : Record → List ℕ
spell_record (kept.Base base) = 1 ∷ spell_base base
spell_record (kept.Opened incarnation) = 2 ∷ spell_u64 incarnation
spell_record (kept.Commit entry) = 3 ∷ spell_entry entry
spell_record (kept.Blocked x) = 4 ∷ spell_ltxid x
spell_record (kept.Reserved reservation) = 5 ∷ spell_reservation reservation
spell_record (kept.Alert line) = 6 ∷ spell_bytes line
spell_record (kept.Horizon horizon) = 7 ∷ spell_u64 horizon

abbrev pub FitsRecord : Record → Type 0
FitsRecord (kept.Base base) = FitsBase base
FitsRecord (kept.Opened incarnation) = FitsU64 incarnation
FitsRecord (kept.Commit entry) = FitsEntry entry
FitsRecord (kept.Blocked x) = FitsLtxid x
FitsRecord (kept.Reserved reservation) = FitsReservation reservation
FitsRecord (kept.Alert line) = FitsText line
FitsRecord (kept.Horizon horizon) = FitsU64 horizon

-- ---- what was written is read again, whatever follows

pub reservation_again : (x : Reservation) (rest : List ℕ) → FitsReservation x
    → reservation_at (spell_reservation x ++ rest) ≡ Ok (x, rest)
unfolding reservation_at spell_reservation
reservation_again x rest fits = simp append_assoc
    (rw (name_again x.name _ fits.0, i64_again x.upto rest fits.1) refl)

pub record_again : (x : Record) (rest : List ℕ) → FitsRecord x
    → record_at (spell_record x ++ rest) ≡ Ok (x, rest)
unfolding record_at
record_again (kept.Base base) rest fits = rw (base_again base rest fits) refl
record_again (kept.Opened incarnation) rest fits = rw (u64_again incarnation rest fits) refl
record_again (kept.Commit entry) rest fits = rw (entry_again entry rest fits) refl
record_again (kept.Blocked x) rest fits = rw (ltxid_again x rest fits) refl
record_again (kept.Reserved reservation) rest fits =
    rw (reservation_again reservation rest fits) refl
record_again (kept.Alert line) rest fits = rw (text_again line rest fits) refl
record_again (kept.Horizon horizon) rest fits = rw (u64_again horizon rest fits) refl

-- the rules that a writer's caller sees to
abbrev pub IsMadeRecord : Record → Type 0
IsMadeRecord (kept.Commit entry) = IsMadeEntry entry
IsMadeRecord (kept.Blocked x) = IsLtxid x
IsMadeRecord _ = Unit {0}
