-- What is seen of a desk, which holds borrows.
use Rattle.std.specs.Prelude.{◌≡◌}
use Rattle.disk_model.specs.Disk.{DiskState}
use Rattle.stmt_meaning.specs.Drawing.{Drew}
use Rattle.server_session.specs.declared.desk.Desk.{Desk}
use Rattle.server_session.specs.Dealing.{AtDesk, Deals}

abbrev pub at_desk : {D : Type 0} → (D → DiskState) → Desk D → AtDesk
at_desk state desk = record {
  opening = desk.source.now;
  left = desk.kept.now;
  log = desk.log.now;
  disk = state desk.disk.now;
}

-- the borrows are those that were handed in, and the tick is the same
pub record SamePlaces {D : Type 0} (a b : Desk D) : Type 0 where
  pub source : a.source.ghost_name ≡ b.source.ghost_name
  pub kept : a.kept.ghost_name ≡ b.kept.ghost_name
  pub log : a.log.ghost_name ≡ b.log.ghost_name
  pub disk : a.disk.ghost_name ≡ b.disk.ghost_name
  pub tick : a.tick ≡ b.tick

abbrev pub DrewAt : {D : Type 0} → (D → DiskState) → Desk D → Drew → Desk D → Type 0
DrewAt state a drew b = SamePlaces a b × Deals a.tick (at_desk state a) drew (at_desk state b)
