-- What a pair keeps to, whatever came before.
use Rattle.std.specs.Prelude.{◌≡◌, true, false, List, ◌∷◌, ◌++◌, ℕ, Option, Some, None, is_some, Ok}
use Rattle.disk_model.specs.Moment.{MayLeave}
use Rattle.disk_model.specs.Disk.{IsSettled}
use Rattle.redo_store.specs.declared.redo.Redo.{Redo}
use Rattle.redo_store.specs.meaning.Records.{records_of}
use Rattle.redo_store.specs.Redo.{CanAppend}
use Rattle.service_core.specs.Sound.{HasFaultRoom, IsSoundWithin}
use Rattle.service_core.specs.Within.{Within}
use Rattle.standby_ship.specs.Twins.{Second, Twin}

-- the image has the first records of the whole one, its base at least
pub record IsFrontOf (image whole : List ℕ) : Type 0 where
  pub base : List ℕ
  pub some : List (List ℕ)
  pub more : List (List ℕ)
  pub image_is : records_of image ≡ Ok (base ∷ some)
  pub whole_is : records_of whole ≡ Ok (base ∷ some ++ more)

-- no record is missing, and nothing is pending
pub record IsEven (primary : Within) (second : Second) : Type 0 where
  pub records : records_of second.disk.now.seen ≡ records_of primary.disk.now.seen
  pub settled : IsSettled second.disk

-- the second store may be added to
pub record MayShip (second : Second) : Type 0 where
  pub store : Redo
  pub is : second.store ≡ Some store
  pub ready : CanAppend store second.disk

-- Beside the first store.
pub record IsBeside (pair : Twin) (second : Second) : Type 0 where
  -- whatever a crash leaves of both, the second has the first records of the first one
  pub fronts : (image whole : List ℕ) → MayLeave second.disk.now image
      → MayLeave pair.primary.disk.now whole → IsFrontOf image whole
  pub reads_now : MayLeave second.disk.now second.disk.now.seen
  pub faults : HasFaultRoom second.disk.faults pair.primary.notes
  -- nothing is pending on it where nothing is on the first one
  pub settled : pair.primary.notes.is_settled ≡ true → IsSettled second.disk
  -- None is missing where it was opened and nothing is pending: no reply is out that the second
  -- store has not.
  pub even : pair.is_opened ≡ true → pair.primary.notes.is_settled ≡ true
      → IsEven pair.primary second
  pub ready : is_some pair.primary.core ≡ true → MayShip second
  -- no disk was lost yet
  pub none_lost : pair.lost ≡ None

abbrev pub IsBesideSome : Twin → Option Second → Type 0
IsBesideSome pair None = Unit {0}
IsBesideSome pair (Some second) = IsBeside pair second

pub record IsSoundPair (pair : Twin) : Type 0 where
  pub primary : IsSoundWithin pair.primary
  pub live : pair.primary.notes.is_spent ≡ false
  -- while it serves it was opened
  pub opened : is_some pair.primary.core ≡ true → pair.is_opened ≡ true
  pub second : IsBesideSome pair pair.second

-- so it is, unless a call found no memory
abbrev pub IsKept : Twin → Type 0
IsKept pair = pair.is_spent ≡ false → IsSoundPair pair
