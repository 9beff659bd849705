-- Which work calls there are, and what is a commit.
-- Here is what contracts and proofs say of it besides.
use Rattle.std.specs.Prelude.{IsTrue}
use Rattle.svc_values.specs.declared.call.Call.{Call}
use Rattle.svc_values.specs.declared.call.Call.TheVariants as call
use Rattle.svc_values.specs.meaning.Calls.{is_made}

abbrev pub IsMade : Call → Type 0
IsMade call = IsTrue (is_made call)
