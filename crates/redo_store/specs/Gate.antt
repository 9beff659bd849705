-- What stands at a place of a store.
use Rattle.std.specs.Prelude.{◌≡◌, ◌≢◌, ℕ, ◌^◌, ◌<◌, List, ◌∷◌, ◌++◌, length, drop}
use Rattle.redo_store.specs.Records.{length_bytes}

-- an open record with this payload stands at the place, and more bytes behind it
pub record HasRecord (place : ℕ) (payload image : List ℕ) : Type 0 where
  pub rest : List ℕ
  pub bytes : drop place image ≡ 1 ∷ length_bytes (length payload) ++ payload ++ rest
  pub more : 0 < length rest
  pub short : length payload < 2 ^ 64

-- a closed gate stands at the place
pub record HasClosedGate (place : ℕ) (image : List ℕ) : Type 0 where
  pub gate : ℕ
  pub rest : List ℕ
  pub bytes : drop place image ≡ gate ∷ rest
  pub closed : gate ≢ 1
