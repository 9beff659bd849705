-- The bytes of a journal's record: a tag, and what stands behind it.
use Rattle.std.specs.Prelude.{ℕ, suc, ◌==◌, List, [], ◌∷◌, length, Result, Ok, Err, if◌then◌else◌}
use Rattle.canon_bytes.specs.meaning.Numbers.{u64_at, i64_at}
use Rattle.canon_bytes.specs.meaning.TextBytes.{name_at, text_at}
use Rattle.canon_bytes.specs.meaning.Entries.{entry_at, ltxid_at}
use Rattle.canon_bytes.specs.meaning.Reading.{◌>>=◌}
use Rattle.canon_bytes.specs.declared.fault.Fault.{Fault}
use Rattle.canon_bytes.specs.declared.fault.Fault.TheVariants.{Short, BadTag}
use Rattle.commit_log.specs.declared.journal.Reservation.{Reservation}
use Rattle.commit_log.specs.declared.records.Record.{Record}
use Rattle.commit_log.specs.declared.records.Record.TheVariants as kept
use Rattle.commit_log.specs.meaning.BaseBytes.{base_at}

unfoldable pub reservation_at : List ℕ → Result (Reservation × List ℕ) Fault
reservation_at bytes = do
  name ← name_at bytes
  upto ← i64_at name.1
  Ok (record { name = name.0; upto = upto.0 }, upto.1)

unfoldable pub record_at : List ℕ → Result (Record × List ℕ) Fault
record_at [] = Err Short
record_at (tag ∷ rest) =
    if tag == 1 then (base_at rest >>= λ base. Ok (kept.Base base.0, base.1))
    else (if tag == 2 then (u64_at rest >>= λ incarnation. Ok (
      kept.Opened incarnation.0,
      incarnation.1,
    ))
    else (if tag == 3 then (entry_at rest >>= λ entry. Ok (kept.Commit entry.0, entry.1))
    else (if tag == 4 then (ltxid_at rest >>= λ x. Ok (kept.Blocked x.0, x.1))
    else (if tag == 5 then (reservation_at rest >>= λ reservation. Ok (
      kept.Reserved reservation.0,
      reservation.1,
    ))
    else (if tag == 6 then (text_at rest >>= λ line. Ok (kept.Alert line.0, line.1))
    else (if tag == 7 then (u64_at rest >>= λ horizon. Ok (kept.Horizon horizon.0, horizon.1))
    else Err (BadTag (suc (length rest)))))))))
