-- Names, texts and octets: the number of bytes, and the bytes.
-- Here is what contracts and proofs say of it besides.
use Rattle.std.specs.Prelude.{ℕ, ◌≤◌, List, length, IsTrue, IsUtf8}
use Rattle.svc_values.specs.meaning.Texts.{is_name}

abbrev pub FitsName : List ℕ → Type 0
FitsName name = IsTrue (is_name name)

abbrev pub FitsText : List ℕ → Type 0
FitsText text = (length text ≤ 64) × IsUtf8 text

abbrev pub FitsOctets : List ℕ → Type 0
FitsOctets bytes = length bytes ≤ 64
