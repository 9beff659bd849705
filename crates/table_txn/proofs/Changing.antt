-- What a transaction read, beside the commits of others.
use Rattle.std.proofs.Common.{◌≡◌, ◌⊎◌, inl, inr, ◌≤◌, ◌-◌, ◌^◌, ◌==◌, ◌&&◌, ℕ, Bool, true, false, not, cond, List, [], ◌∷◌, refl, sym, ap, ◌∙◌, subst, arith}
use Rattle.std.proofs.lemmas.Bool.{cases_Bool}
use Rattle.std.proofs.lemmas.Bool.Decides.{nat_tests}
use Rattle.std.specs.Prelude.{IfSome, Option, Some, None, nat_le, ◌||◌}
use Rattle.std.specs.BTreeMap.{BTreeMap, Updates, is_at}
use Rattle.std.specs.Cmp.Lexicographic.{slice_cmp}
use Rattle.std.specs.Map.{lookup}
use Rattle.std.specs.Ordering.{nat_cmp, is_eq}
use Rattle.std.specs.Str.{bytes_eq}
use Rattle.svc_values.specs.declared.entry.Write.{Write}
use Rattle.svc_values.specs.declared.tables.PlainRow.{PlainRow}
use Rattle.svc_values.specs.declared.tables.Place.{Place}
use Rattle.svc_values.specs.declared.tables.Place.TheVariants as place
use Rattle.svc_values.specs.meaning.Tables.{rows_at, with_write, with_writes}
use Rattle.svc_values.specs.Tables.{AreTables}
use Rattle.svc_values.specs.TableLaws.{is_touched}
use Rattle.svc_values.proofs.Offered.{place_tied, rows_at-untouched, AreTables-with_write}
use Rattle.table_txn.specs.Changes.{Written, change_of, last_change, has_write, came_by, is_unwritten, begun_at, HasNoted, HoldsSince}
use Rattle.table_txn.specs.Readings.{Reading, reading_of, table_in, IsUnchangedAt, StandWhere, StayUnchanged}

-- ---- the tables that a commit writes

-- names that are compared in their order are the same where their bytes are
same_name : (a b : List ℕ) → is_eq (slice_cmp nat_cmp a b) ≡ bytes_eq a b
same_name a b = sym (place_tied (place.Table a) (place.Table b))

-- when a table was written last, with these writes left of a commit
abbrev pub change_behind : List (List ℕ × ℕ) → List Write → ℕ → List ℕ → Option ℕ
change_behind last left commits table = cond (has_write left table) (Some commits) (change_of last table)

-- one write less is left
pub noted_more : (old : BTreeMap (List ℕ) ℕ) (new : BTreeMap (List ℕ) ℕ) (commits : ℕ) (write : Write) (left : List Write) → Updates (slice_cmp nat_cmp) old new write.table (Some commits) → (table : List ℕ)
    → change_behind new.entries left commits table ≡ change_behind old.entries (write ∷ left) commits table
noted_more old new commits write left put table =
    ap (cond (has_write left table) (Some commits)) (put.0 table ∙ ap (λ b. cond b (Some commits) (lookup (is_at (slice_cmp nat_cmp table)) old.entries)) (same_name write.table table))
    ∙ either (bytes_eq write.table table) (has_write left table)
  where
    either : (here behind : Bool) → cond behind (Some commits) (cond here (Some commits) (lookup (is_at (slice_cmp nat_cmp table)) old.entries)) ≡ cond (here || behind) (Some commits) (lookup (is_at (slice_cmp nat_cmp table)) old.entries)
    either true true = refl
    either true false = refl
    either false true = refl
    either false false = refl

-- ---- a place of a table that was not written

own_table : (at : Place) (write : Write) → bytes_eq write.table (table_in at) ≡ false → is_touched at write ≡ false
own_table (place.Row table key) write other = rw other refl
own_table (place.Table table) write other = other

none_first : (a b : Bool) → (a || b) ≡ false → (a ≡ false) × (b ≡ false)
none_first true b h = cc
none_first false b h = (refl, h)

unwritten_at : (rows : List PlainRow) (writes : List Write) (at : Place) → AreTables rows → has_write writes (table_in at) ≡ false → rows_at (with_writes rows writes) at ≡ rows_at rows at
unwritten_at rows [] at ordered none = refl
unwritten_at rows (write ∷ writes) at ordered none =
    let parts = none_first (bytes_eq write.table (table_in at)) (has_write writes (table_in at)) none in
    unwritten_at (with_write rows write) writes at (AreTables-with_write rows write ordered) parts.1
    ∙ rows_at-untouched rows write at ordered (own_table at write parts.0)

-- ---- a commit

both_true : (a b : Bool) → (a && b) ≡ true → (a ≡ true) × (b ≡ true)
both_true true true h = (refl, refl)
both_true true false h = cc
both_true false b h = cc

-- a table that is not written behind a commit was not before, and not by it
unwritten_before : (changes later : Written) (writes : List Write) (since : ℕ) (table : List ℕ) → HasNoted changes writes later → since ≤ changes.commits → is_unwritten later (Some since) table ≡ true
    → (has_write writes table ≡ false) × (is_unwritten changes (Some since) table ≡ true)
unwritten_before changes later writes since table noted le is = by_write (cases_Bool (has_write writes table))
  where
    parts : (not (since == 2 ^ 64 - 1) ≡ true) × (came_by since (last_change later table) ≡ true)
    parts = both_true (not (since == 2 ^ 64 - 1)) (came_by since (last_change later table)) is

    by_write : (has_write writes table ≡ true) ⊎ (has_write writes table ≡ false) → (has_write writes table ≡ false) × (is_unwritten changes (Some since) table ≡ true)
    by_write (inl written) =
        let came : nat_le later.commits since ≡ true = sym (ap (came_by since) (noted.last table ∙ ap (λ b. cond b (Some later.commits) (last_change changes table)) written)) ∙ parts.1 in
        let small : nat_le later.commits since ≡ false = grind (arith, nat_tests, noted.commits, noted.rises, parts.0) in
        absurd (cc)
    by_write (inr other) =
        let came : came_by since (last_change changes table) ≡ true = sym (ap (came_by since) (noted.last table ∙ ap (λ b. cond b (Some later.commits) (last_change changes table)) other)) ∙ parts.1 in
        (other, rw (parts.0, came) refl)

-- what was there still is there behind a commit, as far as it is known
pub holds_commit : (changes later : Written) (rows : List PlainRow) (writes : List Write) (since : Option ℕ) (readings : List Reading) → AreTables rows → HasNoted changes writes later → HoldsSince changes rows since readings
    → HoldsSince later (with_writes rows writes) since readings
holds_commit changes later rows writes None readings ordered noted holds = holds
holds_commit changes later rows writes (Some since) readings ordered noted holds = (
  omega (arith, holds.0, noted.rises),
  λ at known.
      let parts = unwritten_before changes later writes since (table_in at) noted holds.0 known in
      stands_at at (reading_of readings at) (unwritten_at rows writes at ordered parts.0) (holds.1 at parts.1),
)
  where
    stands_at : (at : Place) (one : Option Reading) → rows_at (with_writes rows writes) at ≡ rows_at rows at → IfSome one (λ reading. (reading.is_torn ≡ false) × (reading.found ≡ rows_at rows at))
        → IfSome one (λ reading. (reading.is_torn ≡ false) × (reading.found ≡ rows_at (with_writes rows writes) at))
    stands_at at None same is = tt
    stands_at at (Some one) same is = (is.0, is.1 ∙ sym same)

-- ---- the transaction reads

-- what is known by the number of commits stands
pub stands_since : (changes : Written) (rows : List PlainRow) (since : Option ℕ) (readings : List Reading) → HoldsSince changes rows since readings → StandWhere (is_unwritten changes since) rows readings
stands_since changes rows None readings none = subst (StandWhere (is_unwritten changes None) rows) (sym none) (λ at known. tt)
stands_since changes rows (Some since) readings holds = holds.1

-- and so with what it reads more
pub holds_then : (changes : Written) (rows : List PlainRow) (since : Option ℕ) (old new : List Reading) → HoldsSince changes rows since old → StayUnchanged rows old new → HoldsSince changes rows (begun_at since changes.commits) new
holds_then changes rows None old new none stay = (omega arith, λ at known. stay at (subst (λ (l : List Reading). IsUnchangedAt rows l at) (sym none) tt))
holds_then changes rows (Some since) old new holds stay = (holds.0, λ at known. stay at (holds.1 at known))
