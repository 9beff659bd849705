-- Which tables commits have written, and what a transaction knows by it of the places that it read.
use Rattle.std.specs.Prelude.{◌≡◌, ◌≤◌, ◌+◌, ◌-◌, ◌^◌, ◌&&◌, ◌==◌, not, ℕ, Bool, true, List, [], Option, Some, None, min, nat_le, if◌then◌else◌}
use Rattle.std.specs.BTreeMap.{is_at}
use Rattle.std.specs.Cmp.Lexicographic.{slice_cmp}
use Rattle.std.specs.List.{list_any}
use Rattle.std.specs.Map.{lookup}
use Rattle.std.specs.Option.{option_or}
use Rattle.std.specs.Ordering.{nat_cmp}
use Rattle.std.specs.Str.{bytes_eq}
use Rattle.svc_values.specs.declared.entry.Write.{Write}
use Rattle.svc_values.specs.declared.tables.PlainRow.{PlainRow}
use Rattle.table_txn.specs.Readings.{Reading, StandWhere}

-- how many commits were applied, and which of them was the last that wrote each table
pub record Written : Type 0 where
  pub commits : ℕ
  pub last : List (List ℕ × ℕ)

-- one commit more: the largest number stands for all above it
abbrev pub counted : ℕ → ℕ
counted commits = min (commits + 1) (2 ^ 64 - 1)

-- the last commit that wrote the table, if one did
abbrev pub change_of : List (List ℕ × ℕ) → List ℕ → Option ℕ
change_of last table = lookup (is_at (slice_cmp nat_cmp table)) last

abbrev pub last_change : Written → List ℕ → Option ℕ
last_change changes table = change_of changes.last table

abbrev pub has_write : List Write → List ℕ → Bool
has_write writes table = list_any (λ write. bytes_eq write.table table) writes

-- One commit more with these writes: it is the last one that wrote each of their tables.
pub record HasNoted (old : Written) (writes : List Write) (new : Written) : Type 0 where
  pub commits : new.commits ≡ counted old.commits
  pub rises : old.commits ≤ new.commits
  pub last : (table : List ℕ) → last_change new table
      ≡ (if has_write writes table then Some new.commits else last_change old table)

-- the table's last change came by this number of commits, if it has one
abbrev pub came_by : ℕ → Option ℕ → Bool
came_by since None = true
came_by since (Some at) = nat_le at since

-- No commit has written the table since a transaction began to read, which the largest number can't
-- tell. Beside one that has read nothing there is nothing to write.
abbrev pub is_unwritten : Written → Option ℕ → List ℕ → Bool
is_unwritten changes None table = true
is_unwritten changes (Some since) table = not (since == 2 ^ 64 - 1)
    && came_by since (last_change changes table)

-- when a transaction began to read that reads at this number of commits
abbrev pub begun_at : Option ℕ → ℕ → Option ℕ
begun_at since commits = option_or since (Some commits)

-- What a transaction read of a table is there still where no commit has written the table since it
-- began to read.
abbrev pub HoldsSince : Written → List PlainRow → Option ℕ → List Reading → Type 0
HoldsSince changes rows None readings = readings ≡ []
HoldsSince changes rows (Some since) readings = (since ≤ changes.commits)
    × StandWhere (is_unwritten changes (Some since)) rows readings
