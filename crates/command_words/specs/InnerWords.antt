-- What `clap` is told of the program's words.
use Rattle.std.specs.Prelude.{◌==◌, Bool, List, [], ◌∷◌, Option, None, String, codes, slice_index, string_bytes, true}
use Rattle.std.specs.declared.alloc.Global.{Global}
use Rattle.command_words.specs.declared.command.Command.{Command}
use Rattle.command_words.specs.Words.{command_named}
use Rattle.clap.specs.Simple.{App, new_app, new_shape, on_top, with_subcommand}

-- its first byte is `-`
abbrev pub begins_with_hyphen : String Global → Bool
begins_with_hyphen word = slice_index (string_bytes word) 0 == 45

-- one of the commands has to be there, with no help and no version of clap's own
abbrev pub bare_program : App
bare_program = on_top (λ s. record s {
  no_binary_name = true;
  disable_help_flag = true;
  disable_help_subcommand = true;
  disable_version_flag = true;
  subcommand_required = true;
}) (new_app (codes "continuity"))

-- the commands are `run`, `cover` and `check`
abbrev pub program : App
program = with_subcommand (with_subcommand (with_subcommand bare_program (new_shape (codes "run")))
    (new_shape (codes "cover"))) (new_shape (codes "check"))

-- one word, the name of a command
abbrev pub named_in : List (String Global) → Option Command
named_in (word ∷ []) = command_named (string_bytes word)
named_in _ = None
