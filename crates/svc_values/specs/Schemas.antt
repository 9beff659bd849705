-- Tables as they may be declared.
-- Here is what contracts and proofs say of it besides.
use Rattle.std.specs.Prelude.{IsTrue}
use Rattle.svc_values.specs.declared.schema.Schema.{Schema}
use Rattle.svc_values.specs.meaning.Schemas.{is_declared}

abbrev pub IsDeclared : Schema → Type 0
IsDeclared schema = IsTrue (is_declared schema)
