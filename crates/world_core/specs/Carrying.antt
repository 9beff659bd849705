-- The frames that a feed holds.
use Rattle.std.specs.Prelude.{◌≡◌, ℕ, Bool, true, false, List, [], ◌++◌, None}
use Rattle.frame_wire.specs.Stream.{Pending, first_payload}
use Rattle.frame_wire.specs.Steps.{stream, AreFrames}

module _ {F : Type 0} (spell : F → List ℕ) (fits : F → Type 0) where
  -- The frames stand there one after the other, and behind them a part of one that is no whole
  -- frame. Of a connection that is open no frame is there in part.
  pub record Carries (is_open : Bool) (frames : List F) (held : Pending) : Type 0 where
    pub good : held.bad ≡ false
    pub are : AreFrames spell fits frames
    pub part : List ℕ
    pub bytes : held.bytes ≡ stream spell fits frames ++ part
    pub rest : first_payload part ≡ None
    pub whole : is_open ≡ true → part ≡ []
