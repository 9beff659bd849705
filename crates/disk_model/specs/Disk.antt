-- What the contracts of a disk say.
use Rattle.std.specs.Prelude.{◌≡◌, ℕ, ◌+◌, ◌-◌, ◌^◌, ◌<◌, ◌≤◌, Bool, true, IsTrue, List, [], ◌∷◌, ◌++◌, length, drop, min, Option, Some, None, Result, Ok, Err}
use Rattle.disk_model.specs.Moment.{DiskMoment, MayLeave, AnyMayLeave}

-- All that is said of a disk.
pub record DiskState : Type 0 where
  -- each moment before this one, the first of them first
  pub past : List DiskMoment
  -- the moment now
  pub now : DiskMoment
  -- how often the disk has failed
  pub faults : ℕ
  -- how many more writes and syncs a stop lets pass, where one is set
  pub stop : Option ℕ
  -- nothing but a stop makes it fail
  pub quiet : Bool
  -- the pick of its last crash
  pub pick : Option ℕ

-- a disk that was just made with these bytes: all of them durable, with no fault, no stop and no
-- crash
abbrev pub new_disk : List ℕ → DiskState
new_disk bytes = record {
  past = [];
  now = record { seen = bytes; synced = bytes; written = [] };
  faults = 0;
  stop = None;
  quiet = true;
  pick = None;
}

-- every moment up to now
abbrev pub history : DiskState → List DiskMoment
history s = s.past ++ s.now ∷ []

-- the number of the moment now, which no call lowers but a crash
abbrev pub moment : DiskState → ℕ
moment s = length s.past

-- a crash at moment t or at some later moment may have left the image
abbrev pub LeftSince : DiskState → ℕ → List ℕ → Type 0
LeftSince s t image = AnyMayLeave (drop t (history s)) image

-- From old to new, time has only gone on: each moment of old is a moment of new. What a crash at a
-- moment after old may leave, up to new, has the property P.
pub record Meanwhile (old new : DiskState) (P : List ℕ → Type 0) : Type 0 where
  pub added : List DiskMoment
  pub grows : history new ≡ history old ++ added
  pub each : (image : List ℕ) → AnyMayLeave added image → P image

-- nothing is pending: a crash now leaves what a read gives
abbrev pub IsSettled : DiskState → Type 0
IsSettled s = (image : List ℕ) → MayLeave s.now image → image ≡ s.now.seen

-- the bytes, and what a crash may leave or may have left, are the same
pub record SameBytes (old new : DiskState) : Type 0 where
  pub past : new.past ≡ old.past
  pub now : new.now ≡ old.now

-- no stop is set, or it lets n writes and syncs pass
abbrev pub Allows : ℕ → Option ℕ → Type 0
Allows n None = Unit {0}
Allows n (Some left) = n ≤ left

-- no stop was set and none is, or it lets n fewer writes and syncs pass
abbrev pub Lowered : ℕ → Option ℕ → Option ℕ → Type 0
Lowered n None None = Unit {0}
Lowered n (Some before) (Some after) = before ≡ after + n
Lowered n None (Some after) = ⊥
Lowered n (Some before) None = ⊥

-- no stop was set and none is, or it lets fewer writes and syncs pass or as many, but not n fewer
abbrev pub LoweredByLess : ℕ → Option ℕ → Option ℕ → Type 0
LoweredByLess n None None = Unit {0}
LoweredByLess n (Some before) (Some after) = (after ≤ before) × (before < after + n)
LoweredByLess n None (Some after) = ⊥
LoweredByLess n (Some before) None = ⊥

-- what a call of n writes and syncs says of the stop: where it succeeds it lowers it by n, and else
-- by less
abbrev pub Lowers : {T E : Type 0} → ℕ → Result T E → Option ℕ → Option ℕ → Type 0
Lowers n (Ok value) before after = Lowered n before after
Lowers n (Err error) before after = LoweredByLess n before after

-- a count of faults after one more: it is kept in 64 bits, and stays where these end
abbrev pub with_fault : ℕ → ℕ
with_fault faults = min (faults + 1) (2 ^ 64 - 1)

-- What a call says of the faults of its disk, `fault` being that it answers one.
pub record Caused (fault : Type 0) (old new : DiskState) : Type 0 where
  -- the fault that it answers is the only one, since the call ends at it
  pub counted : fault → new.faults ≡ with_fault old.faults
  -- with any other answer there was none
  pub uncounted : (fault → ⊥) → new.faults ≡ old.faults
  -- a quiet disk has one only where a stop was reached
  pub at_stop : IsTrue old.quiet → fault → new.stop ≡ Some 0
  pub still_quiet : new.quiet ≡ old.quiet
  pub same_pick : new.pick ≡ old.pick

-- what a call says that only reads, `fault` being that it answers a fault of the disk
pub record OnlyReads (fault : Type 0) (old new : DiskState) : Type 0 where
  pub same : SameBytes old new
  pub stop : new.stop ≡ old.stop
  pub cause : Caused fault old new
