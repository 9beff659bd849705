-- The parts of a JSON value that a reader asks for.
use Rattle.std.specs.Prelude.{ℕ, ◌^◌, ◌&&◌, ℤ, pos, negsuc, List, Bool, nat_lt, nat_le, if◌then◌else◌, Option, Some, None, option_and_then, Result, Ok, Err}
use Rattle.serde_json.specs.Data.{Data, Items, Members}
use Rattle.serde_json.specs.Find.{as_object, as_array, as_str, as_bool, as_number, as_integer}
use Rattle.json_form.specs.declared.fault.DocCode.TheVariants.{WrongKind, Limit}
use Rattle.json_form.specs.meaning.Faults.{Fault, ◌>>=◌, here}

-- what is asked for, or a value of another kind
abbrev pub expected : {A : Type 0} → Option A → Result A Fault
expected None = Err (here WrongKind)
expected (Some x) = Ok x

-- the members of an object
abbrev pub members_of : Data → Result Members Fault
members_of d = expected (as_object d)

-- the items of an array
abbrev pub items_of : Data → Result Items Fault
items_of d = expected (as_array d)

-- the bytes of a text
abbrev pub text_of : Data → Result (List ℕ) Fault
text_of d = expected (as_str d)

-- a bool
abbrev pub bool_of : Data → Result Bool Fault
bool_of d = expected (as_bool d)

-- a number without a fraction, an exponent or a minus before zero, from -2^63 to 2^64 - 1
abbrev pub number_of : Data → Result ℤ Fault
number_of d = expected (option_and_then as_integer (as_number d))

-- the whole number, if it is from low to high
abbrev pub in_limits : ℕ → ℕ → ℤ → Result ℕ Fault
in_limits low high (pos n) = if nat_le low n && nat_le n high then Ok n else Err (here Limit)
in_limits low high (negsuc n) = Err (here Limit)

-- a whole number from low to high
unfoldable pub whole_of : ℕ → ℕ → Data → Result ℕ Fault
whole_of low high d = number_of d >>= in_limits low high

-- from -2^63 to 2^63 - 1
abbrev pub fits_i64 : ℤ → Bool
fits_i64 (pos n) = nat_lt n (2 ^ 63)
fits_i64 (negsuc n) = nat_lt n (2 ^ 63)

-- a whole number of 64 bits with a sign
unfoldable pub integer_of : Data → Result ℤ Fault
integer_of d = number_of d >>= λ z. if fits_i64 z then Ok z else Err (here Limit)
