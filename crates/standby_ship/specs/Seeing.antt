-- What is seen of a pair.
--
-- Its history is one of the plain server as far as the first store has come, and, where a failover
-- may come, as far as the second has. While it serves, and where nothing is pending, both have come
-- equally far. Behind a stop no answer is out: every frame of the stopped call is one without an
-- answer, and each store has come as far in it as it may.
use Rattle.std.specs.Prelude.{◌≡◌, ◌⊎◌, ℕ, true, false, List, Option, Some, None}
use Rattle.disk_model.specs.Moment.{MayLeave}
use Rattle.server_model.specs.meaning.Base.{Base}
use Rattle.server_model.specs.Runs.{Happened}
use Rattle.server_model.specs.Seen.{Store, Seen}
use Rattle.service_core.specs.Seeing.{Came, Leaves, LeavesIn, StandsDown, StandsIn, bytes_in as bytes_of_one}
use Rattle.standby_ship.specs.Twins.{Second, Twin, state_in}
use Rattle.standby_ship.specs.Sound.{IsSoundPair}

-- wherever a failover may leave the second store, a run of the plain server has come to it
abbrev pub SecondStands : Twin → Option Second → Base → List Happened → Type 0
SecondStands pair None start history = Unit {0}
SecondStands pair (Some second) start history =
    pair.is_opened ≡ true → pair.primary.notes.is_settled ≡ false → (image : List ℕ)
    → MayLeave second.disk.now image
    → Came start history (StandsDown pair.primary.grants false image)

pub record SeesPair (pair : Twin) (seen : Seen) : Type 0 where
  pub live : pair.is_spent ≡ false
  pub sound : IsSoundPair pair
  pub state_is : seen.state ≡ state_in pair
  pub stands : StandsIn pair.primary seen.start seen.history
  pub second : SecondStands pair pair.second seen.start seen.history

-- what a failover may leave
abbrev pub SecondLeaves : Twin → Option Second → Store → Type 0
SecondLeaves pair None store = ⊥
SecondLeaves pair (Some second) store = (pair.is_opened ≡ true) × Leaves second.disk store

-- What a crash that may come now may leave. One that takes the first store away comes only where it
-- was opened since the last crash: behind an opening that was stopped the second store may lack
-- what was answered, and no crash may take the first away.
abbrev pub LeavesPair : Twin → Store → Type 0
LeavesPair pair store = LeavesIn pair.primary store ⊎ SecondLeaves pair pair.second store

-- the bytes are those of the first store, or of the only one
abbrev pub bytes_in : Twin → List ℕ
bytes_in pair = bytes_of_one pair.primary
