-- What numbers that were read keep to.
use Rattle.std.proofs.Common.{◌≡◌, ℕ, ℤ, pos, negsuc, ◌&&◌, nat_le, List, true, Ok, ap, sym, ◌∙◌}
use Rattle.serde_json.specs.Data.{Data}
use Rattle.json_form.specs.declared.fault.DocCode.TheVariants.{Limit}
use Rattle.json_form.specs.meaning.Faults.{here}
use Rattle.json_form.specs.meaning.Values.{number_of, in_limits, whole_of}
use Rattle.json_form.specs.meaning.Arrays.{Placed, part}
use Rattle.json_form.specs.meaning.Objects.{Named, optional}
use Rattle.document_forms.specs.Numbers.{is_between}
use Rattle.json_form.proofs.Offered.{after, ok_is, passed, part_read, optional_keeps}

limits_read : (low high : ℕ) (z : ℤ) (n : ℕ) → in_limits low high z ≡ Ok n → is_between low high n ≡ true
limits_read low high (pos m) n h =
    let a = passed (nat_le low m && nat_le m high) (Ok m) (here Limit) n h in ap (is_between low high) (sym (ok_is m n a.1)) ∙ a.0
limits_read low high (negsuc m) n h = absurd (cc)

-- a whole number lies within its limits
pub whole_read : (low high : ℕ) (d : Data) (n : ℕ) → whole_of low high d ≡ Ok n → is_between low high n ≡ true
unfolding whole_of
whole_read low high d n h =
    let a = after (number_of d) (in_limits low high) n h in limits_read low high a.0 n a.2

-- so does that of a member which may be missing, where the usual one does
pub member_whole : (name : List ℕ) (low high usual : ℕ) (ms : Named) (n : ℕ) → is_between low high usual ≡ true → optional name usual (whole_of low high) ms ≡ Ok n → is_between low high n ≡ true
member_whole name low high usual ms n is h = optional_keeps (λ m. is_between low high m ≡ true) name usual (whole_of low high) ms n is (whole_read low high) h

-- and that of an item
pub part_whole : (i low high : ℕ) (ds : Placed) (n : ℕ) → part i (whole_of low high) ds ≡ Ok n → is_between low high n ≡ true
part_whole i low high ds n h =
    let a = part_read i (whole_of low high) ds n h in whole_read low high a.0 n a.1
