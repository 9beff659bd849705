-- What a service begins with, and what stays so.
use Rattle.std.specs.Prelude.{ℕ, ℤ, Bool, List}
use Rattle.svc_values.specs.declared.schema.Shape.{Shape}
use Rattle.svc_values.specs.declared.entry.Entry.{Entry}
use Rattle.svc_values.specs.declared.entry.Ltxid.{Ltxid}
use Rattle.svc_values.specs.declared.tables.PlainRow.{PlainRow}
use Rattle.mutable_values.specs.declared.grants.Grants.{Grants}

-- A sequence: where its last block ends, which is one less than its first value where it has no
-- block, and whether what is drawn of it is kept for a replay.
pub record Sequence : Type 0 where
  pub name : List ℕ
  pub upto : ℤ
  pub keep : Bool

-- The moment at which a service is made: what exists, what is committed and granted, and what its
-- store has of the time before.
pub record Base : Type 0 where
  pub shape : Shape
  pub sequences : List Sequence
  pub grants : Grants
  -- the tables after the entries of the time before, in the order of table and key
  pub tables : List PlainRow
  pub entries : List Entry
  pub blocked : List Ltxid
  pub alerts : List (List ℕ)
  -- that of the last opening, 0 where there was none
  pub incarnation : ℕ
  -- the incarnation below which outcomes are forgotten
  pub horizon : ℕ
