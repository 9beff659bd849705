-- What frames that were answered leave of a disk's faults and of its stop.
use Rattle.std.proofs.Common.{◌≡◌, ◌∙◌, ◌*◌, ℕ, refl, List, length}
use Rattle.std.specs.Prelude.{None}
use Rattle.disk_model.specs.Disk.{DiskState}
use Rattle.server_session.specs.declared.shared.Core.{Core}
use Rattle.server_session.specs.SeenSession.{SeenSession as Session}
use Rattle.service_core.specs.Through.{Item, Through, Still, Then}
use Rattle.service_core.proofs.Faulty.{still_none}

-- Frames that are answered change no count of faults, and set no stop.
pub record Went (disk end : DiskState) : Type 0 where
  pub quiet : end.quiet ≡ disk.quiet
  pub faults : end.faults ≡ disk.faults
  pub stop : disk.stop ≡ None → end.stop ≡ None

pub went : (now : ℕ) (session : Session) (core : Core) (disk : DiskState) (items : List Item) (new : Session) (later : Core) (end : DiskState) → Through now session core disk items new later end → Went disk end
went now session core disk _ _ _ _ Still = record { quiet = refl; faults = refl; stop = λ none. none }
went now session core disk _ _ _ _ (Then items mid between at frame told new later end through served answered) =
    let first = went now session core disk items mid between at through in
    record {
      quiet = served.gained.quiet ∙ first.quiet;
      faults = served.gained.faults ∙ first.faults;
      stop = λ none. still_none (4 * length served.records) at.stop end.stop served.gained.stop (first.stop none);
    }

pub went_on : (disk at end : DiskState) → Went disk at → Went at end → Went disk end
went_on disk at end first second = record { quiet = second.quiet ∙ first.quiet; faults = second.faults ∙ first.faults; stop = λ none. second.stop (first.stop none) }
