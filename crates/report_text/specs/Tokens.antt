-- The tokens of what ends an array, and of an object's members.
use Rattle.std.specs.Prelude.{ℕ, List, ◌∷◌}
use Rattle.std.specs.List.{flat_map}
use Rattle.json.specs.Token.{Token, key}
use Rattle.json.specs.Tree.{items_tokens}
use Rattle.serde_json.specs.Data.{Data}
use Rattle.serde_json.specs.View.{items_of}
use Rattle.serde_json.specs.Written.{items_outline}
use Rattle.json_form.specs.Tokens.{tokens_of}

-- these items and the bracket behind them
abbrev pub ending : List Data → List Token
ending ds = items_tokens (items_outline (items_of ds))

-- these members, each behind its name
abbrev pub named : List (List ℕ × Data) → List Token
named pairs = flat_map (λ pair. key pair.0 ∷ tokens_of pair.1) pairs
