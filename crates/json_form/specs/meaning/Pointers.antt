-- JSON Pointers (RFC 6901).
use Rattle.std.specs.Prelude.{ℕ, ◌==◌, List, [], ◌∷◌, if◌then◌else◌}
use Rattle.std.specs.List.{flat_map}
use Rattle.std.specs.Str.{chars}
use Rattle.std.specs.Char.{encode_utf8}

-- a character of a name: `~` is written `~0` and `/` is written `~1`
abbrev pub escaped_char : ℕ → List ℕ
escaped_char c = if c == 126 then 126 ∷ 48
    ∷ [] else (if c == 47 then 126 ∷ 49 ∷ [] else encode_utf8 c)

-- a member's name as a step of a pointer
abbrev pub escaped : List ℕ → List ℕ
escaped name = flat_map escaped_char (chars name)
