-- Objects with one member, and arrays that begin with a word.
use Rattle.std.specs.Prelude.{ℕ, List, [], ◌∷◌}
use Rattle.serde_json.specs.Data.{Data}
use Rattle.json_form.specs.meaning.Writing.{text, list, members}

-- {name:value}
abbrev pub one : List ℕ → Data → Data
one name d = members ((name, d) ∷ [])

-- [word,part,...]
abbrev pub headed : List ℕ → List Data → Data
headed word parts = list (text word ∷ parts)

-- [word]
abbrev pub lone : List ℕ → Data
lone word = headed word []
