-- The test for UTF-8, and what bytes spell.
use Rattle.std.proofs.Common.{◌≡◌, ℕ, List, Bool, true, false, Ok, Err, refl}
use Rattle.std.specs.Prelude.{Some, None}
use Rattle.std.specs.Str.{IsUtf8, is_utf8}
use Rattle.std.proofs.lemmas.Str.{IsUtf8-from_is_utf8, is_utf8-from_IsUtf8}
use Rattle.serde_json.specs.Data.{Data}
use Rattle.serde_json.specs.Read.{read}
use Rattle.json_form.specs.declared.fault.DocCode.TheVariants.{NotJson}
use Rattle.json_form.specs.meaning.Faults.{here}
use Rattle.json_form.specs.meaning.Texts.{json_of}

pub is_json : (bytes : List ℕ) (d : Data) → IsUtf8 bytes → read bytes ≡ Some d → json_of bytes ≡ Ok d
is_json bytes d utf8 e = rw (is_utf8-from_IsUtf8 bytes utf8, e) refl

none_by : (bytes : List ℕ) (b : Bool) → is_utf8 bytes ≡ b → (IsUtf8 bytes → read bytes ≡ None) → json_of bytes ≡ Err (here NotJson)
none_by bytes true is none = rw (is, none (IsUtf8-from_is_utf8 bytes is)) refl
none_by bytes false is none = rw is refl

pub is_no_json : (bytes : List ℕ) → (IsUtf8 bytes → read bytes ≡ None) → json_of bytes ≡ Err (here NotJson)
is_no_json bytes none = none_by bytes (is_utf8 bytes) refl none
