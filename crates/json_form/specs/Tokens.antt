-- The tokens of a JSON value, as they are written one after the other.
use Rattle.std.specs.Prelude.{List}
use Rattle.json.specs.Token.{Token}
use Rattle.json.specs.Tree.{json_tokens}
use Rattle.serde_json.specs.Data.{Data}
use Rattle.serde_json.specs.Written.{outline}

-- the members of an object in the order of their names' bytes, and no float
abbrev pub tokens_of : Data → List Token
tokens_of d = json_tokens (outline d)
