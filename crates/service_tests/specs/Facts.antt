-- What is known of a service by what its calls have answered, and what each call makes of it.
use Rattle.std.specs.Prelude.{◌≡◌, ◌⊎◌, ◌+◌, ◌==◌, ◌&&◌, ℕ, Bool, true, false, if◌then◌else◌}

pub record Facts : Type 0 where
  -- the calls that were made
  pub calls : ℕ
  -- nothing is pending on its disk
  pub is_settled : Bool
  -- it was opened, and has not crashed since
  pub is_opened : Bool
  -- the store's incarnation, or one before it
  pub incarnation : ℕ
  -- whether the connections 1 and 2 live
  pub first : Bool
  pub second : Bool

-- a service on which no call was made
abbrev pub none_called : Facts
none_called = record {
  calls = 0;
  is_settled = true;
  is_opened = false;
  incarnation = 0;
  first = false;
  second = false;
}

-- no connection but 1 and 2 is made
abbrev pub lives_at : Facts → ℕ → Bool
lives_at facts connection = if connection == 1 then facts.first else
    ((connection == 2) && facts.second)

abbrev pub HasPlace : ℕ → Type 0
HasPlace connection = (connection ≡ 1) ⊎ (connection ≡ 2)

abbrev pub with_living : ℕ → Bool → Facts → Facts
with_living connection lives facts = record facts {
  first =
      if connection == 1 then lives else facts.first;
  second =
      if connection == 2 then lives else facts.second;
}

-- a call was made that stores nothing
abbrev pub called : Facts → Facts
called facts = record facts { calls = facts.calls + 1 }

-- a call was made that may have stored something
abbrev pub worked : Facts → Facts
worked facts = record facts { calls = facts.calls + 1; is_settled = false }

-- one that was stopped
abbrev pub stopped : Facts → Facts
stopped facts = record facts {
  calls = facts.calls + 1;
  is_settled = false;
  first = false;
  second =
      false;
}

-- a crash, which may have changed the store or not
abbrev pub crashed : Bool → Facts → Facts
crashed may_change facts = record {
  calls = facts.calls + 1;
  is_settled = true;
  is_opened = false;
  incarnation = if may_change then 0 else facts.incarnation;
  first = false;
  second = false;
}

-- an opening of this incarnation
abbrev pub opened : ℕ → Facts → Facts
opened incarnation facts = record facts {
  calls = facts.calls + 1;
  is_settled = false;
  is_opened =
      true;
  incarnation = incarnation;
}
