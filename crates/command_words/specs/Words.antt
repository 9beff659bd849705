-- The words of each command.
use Rattle.std.specs.Prelude.{ℕ, Bool, true, false, List, [], ◌∷◌, Option, Some, None, if◌then◌else◌, String, codes, string_bytes}
use Rattle.std.specs.declared.alloc.Global.{Global}
use Rattle.std.specs.Str.{bytes_eq}
use Rattle.command_words.specs.declared.command.Command.{Command}
use Rattle.command_words.specs.declared.command.Command.TheVariants as command
use Rattle.command_words.specs.LoadWords.{load_in}

abbrev pub command_named : List ℕ → Option Command
command_named name =
    if bytes_eq name (codes "run") then Some command.Run
    else (if bytes_eq name (codes "cover") then Some command.Cover
    else (if bytes_eq name (codes "check") then Some command.Check else None))

-- one word, the name of the command; or `load` and its three numbers
abbrev pub command_of : List (String Global) → Option Command
command_of (word ∷ []) = command_named (string_bytes word)
command_of (word ∷ seed ∷ clients ∷ requests ∷ []) =
    load_in (string_bytes word) (string_bytes seed) (string_bytes clients) (string_bytes requests)
command_of _ = None

-- The command reads the source: `load` makes its own document.
abbrev pub reads_source : Option Command → Bool
reads_source None = false
reads_source (Some (command.Load seed clients requests)) = false
reads_source (Some command.Run) = true
reads_source (Some command.Cover) = true
reads_source (Some command.Check) = true
