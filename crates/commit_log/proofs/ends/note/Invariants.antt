use Rattle.std.proofs.Common.{◌≡◌, List, [], ◌∷◌, ◌++◌, length, map, take, drop}
use Rattle.commit_log.specs.declared.journal.Reservation.{Reservation}
use Rattle.commit_log.specs.meaning.Rules.{end_of}
use Rattle.commit_log.proofs.ends.note.Given as goal

abbrev pub invariant-loop-place : goal.invariant-loop-place
invariant-loop-place l = record {
  long : length l.ends ≡ length l.sequences;
  so_far : (reservations : List Reservation) → l.initial.ends ≡ map (end_of reservations) l.sequences → l.ends ≡ map (end_of (reservations ++ l.reservation ∷ [])) (take l.place l.sequences) ++ map (end_of reservations) (drop l.place l.sequences);
}
