-- JSON values whose numbers are whole and of 64 bits, as each number of a report is.
use Rattle.serde_json.specs.Data.{Data, null, boolean, number, string, array, object, Items, no_items, item, Members, no_members, member}
use Rattle.json_form.specs.Numbers.{IsOf64Bits}

abbrev mutual
  pub HasShortNumbers : Data → Type 0
  HasShortNumbers null = Unit {0}
  HasShortNumbers (boolean b) = Unit {0}
  HasShortNumbers (number n) = IsOf64Bits n
  HasShortNumbers (string s) = Unit {0}
  HasShortNumbers (array ds) = ItemsHaveShortNumbers ds
  HasShortNumbers (object ms) = MembersHaveShortNumbers ms

  pub ItemsHaveShortNumbers : Items → Type 0
  ItemsHaveShortNumbers no_items = Unit {0}
  ItemsHaveShortNumbers (item d ds) = HasShortNumbers d × ItemsHaveShortNumbers ds

  pub MembersHaveShortNumbers : Members → Type 0
  MembersHaveShortNumbers no_members = Unit {0}
  MembersHaveShortNumbers (member k d ms) = HasShortNumbers d × MembersHaveShortNumbers ms
