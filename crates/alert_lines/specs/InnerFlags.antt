-- Which fronts of the alerts the lines make, as code goes on line by line.
use Rattle.std.specs.Prelude.{ℕ, ◌&&◌, ◌||◌, Bool, false, not, List, [], ◌∷◌, drop}
use Rattle.std.specs.Str.{bytes_eq}
use Rattle.server_model.specs.meaning.Legal.{Line}

-- the text is the first of these alerts
abbrev pub is_first : List ℕ → List (List ℕ) → Bool
is_first text [] = false
is_first text (alert ∷ alerts) = bytes_eq text alert

-- The flags after one line more, told whether the first one is reached by this line from the one
-- before it. A flag stays where the line need not stand.
abbrev pub flags_after : Line → Bool → List Bool → List (List ℕ) → List Bool
flags_after line came [] alerts = []
flags_after line came (flag ∷ flags) alerts =
    (came || (flag && not line.is_answered))
    ∷ flags_after line (flag && is_first line.text alerts) flags (drop 1 alerts)

-- the last flag, and false where there is none
abbrev pub last_flag : List Bool → Bool
last_flag [] = false
last_flag (flag ∷ []) = flag
last_flag (flag ∷ next ∷ flags) = last_flag (next ∷ flags)
