-- What stands in the bytes of a store, and what a crash leaves of it.
use Rattle.std.specs.Prelude.{◌≡◌, ◌≢◌, ◌⊎◌, ℕ, ◌+◌, ◌^◌, ◌<◌, List, ◌∷◌, ◌++◌, length, All}
use Rattle.redo_store.specs.meaning.Records.{magic, records_of}
use Rattle.redo_store.specs.Records.{spelling_of, with_last}

-- the image is a store, the records of which end at the closed gate at the tail
pub record IsStore (tail : ℕ) (image : List ℕ) : Type 0 where
  pub records : List (List ℕ)
  pub gate : ℕ
  pub rest : List ℕ
  pub bytes : image ≡ magic ++ spelling_of records ++ gate ∷ rest
  pub closed : gate ≢ 1
  pub at_tail : tail ≡ 8 + length (spelling_of records)
  pub lengths : All (λ payload. length payload < 2 ^ 64) records

-- the image has the records of the old one, or these with the payload last
abbrev pub IsOldOrNew : List ℕ → List ℕ → List ℕ → Type 0
IsOldOrNew old payload image = (records_of image ≡ records_of old) ⊎
    (records_of image ≡ with_last payload (records_of old))
