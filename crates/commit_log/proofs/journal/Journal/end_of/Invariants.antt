use Rattle.std.proofs.Common.{◌≡◌, ℤ, drop, fold}
use Rattle.std.specs.Prelude.{if◌then◌else◌}
use Rattle.std.specs.Str.{bytes_eq}
use Rattle.commit_log.specs.declared.journal.Reservation.{Reservation}
use Rattle.commit_log.specs.meaning.Rules.{end_of}
use Rattle.commit_log.proofs.journal.Journal.end_of.Given as goal

abbrev pub invariant-loop-reservation : goal.invariant-loop-reservation
invariant-loop-reservation l =
    fold (λ (end : ℤ) (reservation : Reservation). if bytes_eq reservation.name l.sequence.name then reservation.upto else end) l.end (drop l.reservation-index l.reservation-items)
    ≡ end_of l.reservation-items l.sequence
