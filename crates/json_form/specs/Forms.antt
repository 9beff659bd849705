-- JSON values that a text of numbers of 64 bits names whole.
use Rattle.std.specs.Prelude.{◌≡◌, ℕ, zero, suc, pos, negsuc}
use Rattle.serde_json.specs.Data.{Num, unsigned, negative, float, Data, null, boolean, number, string, array, object, Items, no_items, item, Members, no_members, member, put}

-- a whole number, with a sign only below zero
abbrev pub IsWhole : Num → Type 0
IsWhole (unsigned n) = Unit {0}
IsWhole (negative (pos n)) = ⊥
IsWhole (negative (negsuc n)) = Unit {0}
IsWhole (float x) = ⊥

-- the members that were found, and each of the others put at its place among them
abbrev pub put_each : Members → Members → Members
put_each found no_members = found
put_each found (member k d ms) = put_each (put k d found) ms

-- its numbers are whole, the members of its objects are each once and in order, and it nests at
-- most so deep
abbrev mutual
  pub IsForm : ℕ → Data → Type 0
  IsForm deep null = Unit {0}
  IsForm deep (boolean b) = Unit {0}
  IsForm deep (number n) = IsWhole n
  IsForm deep (string s) = Unit {0}
  IsForm zero (array ds) = ⊥
  IsForm (suc deep) (array ds) = AreItems deep ds
  IsForm zero (object ms) = ⊥
  IsForm (suc deep) (object ms) = (put_each no_members ms ≡ ms) × AreMembers deep ms

  pub AreItems : ℕ → Items → Type 0
  AreItems deep no_items = Unit {0}
  AreItems deep (item d ds) = IsForm deep d × AreItems deep ds

  pub AreMembers : ℕ → Members → Type 0
  AreMembers deep no_members = Unit {0}
  AreMembers deep (member k d ms) = IsForm deep d × AreMembers deep ms
