-- What is drawn, and what is asked for.
-- Here is what contracts and proofs say of it besides.
use Rattle.std.specs.Prelude.{ℕ, Bool, true, List}
use Rattle.svc_values.specs.declared.draw.DrawKind.{DrawKind}
use Rattle.svc_values.specs.declared.draw.DrawKind.TheVariants as kind
use Rattle.svc_values.specs.meaning.Names.{is_name_of}

-- the clock and identifiers are always there, and a sequence where its name is one of these
abbrev pub is_there : List (List ℕ) → DrawKind → Bool
is_there names (kind.Seq name) = is_name_of names name
is_there names kind.Clock = true
is_there names kind.Id = true
