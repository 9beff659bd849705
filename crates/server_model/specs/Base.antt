-- What a service begins with, and what stays so.
-- Here is what contracts and proofs say of it besides.
use Rattle.std.specs.Prelude.{◌≡◌, ◌+◌, ◌<◌, ◌≤◌, ◌^◌, ℕ, List, map, All}
use Rattle.svc_values.specs.Fitting.{IsBase}
use Rattle.ltxid_book.specs.meaning.Journal.{committed_of}
use Rattle.ltxid_book.specs.Journal.{BlocksStand}
use Rattle.server_model.specs.meaning.Base.{Base, Sequence}

abbrev pub name_of : Sequence → List ℕ
name_of sequence = sequence.name

-- What holds of every base that a store gives: the shape names the sequences, the tables are in
-- order and fit the shape, its incarnation can be spelled in eight bytes, no entry is of a later
-- one, each blocked identifier is its session's next one, and at most all incarnations so far are
-- forgotten.
pub record IsSound (base : Base) : Type 0 where
  pub names : base.shape.sequences ≡ map name_of base.sequences
  pub fitting : IsBase base.shape base.tables
  pub spelled : base.incarnation < 2 ^ 64
  pub earlier : All (λ entry. entry.ltxid.incarnation ≤ base.incarnation) base.entries
  pub standing : BlocksStand (map committed_of base.entries) base.blocked
  pub forgotten : base.horizon ≤ base.incarnation + 1
