-- A walk beside the code's, and a step of both.
use Rattle.std.specs.Prelude.{◌≡◌, Bool, IsTrue}
use Rattle.server_model.specs.meaning.Base.{Base}
use Rattle.server_model.specs.meaning.Walk.{Walk}
use Rattle.legal_walk.specs.declared.walker.Walker.{Walker}
use Rattle.legal_walk.specs.Beside.{Beside}
use Rattle.legal_walk.specs.Going.{AllGo}

-- what all sessions share stands beside the walk, and each session's transaction
pub record Walks (base : Base) (walk : Walk) (walker : Walker) : Type 0 where
  pub beside : Beside base walk walker.service
  pub sessions : AllGo walker.service walk.sessions walker.sessions

-- some walk is beside it
abbrev pub IsWalked : Walker → Type 0
IsWalked walker = (base : Base) × ((walk : Walk) × Walks base walk walker)

-- whether a test of the walk holds, and where it does the code goes on as the walk
abbrev pub Steps : Walker → (Base → Walk → Bool) → (Base → Walk → Walk) → Bool → Walker → Type 0
Steps old holds after told new = (base : Base) (walk : Walk) → Walks base walk old
    → (told ≡ holds base walk) × (IsTrue told → Walks base (after base walk) new)
