-- How far a walk over the records of a store has come.
use Rattle.std.specs.Prelude.{◌≡◌, ℕ, ◌+◌, ◌^◌, ◌<◌, ◌≤◌, List, ◌++◌, length, drop, Result, Ok, Err, All}
use Rattle.redo_store.specs.declared.walk.Walk.{Walk}
use Rattle.redo_store.specs.meaning.Records.{magic, records_from, records_of, whole_from, whole_records}
use Rattle.redo_store.specs.Records.{spelling_of}

-- the place of the gate that it stands at
abbrev pub place_of : Walk → ℕ
place_of walk = walk.place

-- records in front of others that are read
abbrev pub with_firsts : List (List ℕ) → Result (List (List ℕ)) ℕ → Result (List (List ℕ)) ℕ
with_firsts records (Ok more) = Ok (records ++ more)
with_firsts records (Err place) = Err place

-- At the place stands the gate behind these records of the image, each of them open and whole; or
-- no byte does.
pub record StandsBehind (place : ℕ) (done : List (List ℕ)) (image : List ℕ) : Type 0 where
  pub within : place ≤ length image
  pub bytes : image ≡ magic ++ spelling_of done ++ drop place image
  pub at_place : place ≡ 8 + length (spelling_of done)
  pub lengths : All (λ payload. length payload < 2 ^ 64) done
  -- the records of the image are these, and then those from the place on
  pub records : records_of image ≡ with_firsts done (records_from place 0 (drop place image))
  pub whole : whole_records image ≡ done ++ whole_from 0 (drop place image)

-- in the image the records of the old one stand first, and end at the place where they did
abbrev pub KeepsFront : (place : ℕ) → (old image : List ℕ) → Type 0
KeepsFront place old image = (done : List (List ℕ)) → records_of old ≡ Ok done
    → StandsBehind place done image

-- the walk stands at the gate behind these records of the image, which it has gone over and counted
pub record HasRead (walk : Walk) (done : List (List ℕ)) (image : List ℕ) : Type 0 where
  pub stands : StandsBehind walk.place done image
  pub counted : walk.count ≡ length done
