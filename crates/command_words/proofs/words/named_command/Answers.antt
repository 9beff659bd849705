use Rattle.std.proofs.Common.{◌≡◌, ◌∙◌, [], map, string_bytes, ap, subst, sym, rules}
use Rattle.std.specs.Prelude.{option_and_then, option_map}
use Rattle.clap.specs.Words.{HasKind, app_of, fault_of, is_simple, is_simple_and_free, subcommand_of}
use Rattle.command_words.specs.Words.{command_named}
use Rattle.command_words.specs.InnerWords.{program}
use Rattle.command_words.proofs.WordFaults.{name_entered, passed, refused}
use Rattle.command_words.proofs.words.named_command.Goals as goal

pub returns-in-Ok-clause-commands : goal.returns-in-Ok-clause-commands
returns-in-Ok-clause-commands c =
    let words = c.args.words.now in
    let program_is : app_of c.in_ok-command_line.field-0 ≡ program = search rules in
    let none = c.in-Ok.ensures.kinds (ap is_simple_and_free program_is) in
    let entered = (c.in-Ok.ensures.matches (ap is_simple program_is)).1 ∙ ap (λ a. subcommand_of a (map string_bytes words)) program_is in
    c.command_named.ensures.named
    ∙ (ap (option_and_then command_named) (c.subcommand_name.ensures ∙ (name_entered c.in-Ok.matches ∙ ap (option_map (λ met. met.0)) entered))
    ∙ passed words (search rules) (subst (λ a. fault_of a (map string_bytes words) ≡ []) program_is none))

pub returns-clause-commands : goal.returns-clause-commands
returns-clause-commands c =
    let program_is : app_of c.in_ok-command_line.field-0 ≡ program = search rules in
    let kind = c.in-Err.ensures.kinds (ap is_simple_and_free program_is) in
    sym (refused c.args.words.now c.in-Err.error (λ memory. c.in_default.not-OutOfMemory (c.kind.ensures ∙ memory))
    (subst (λ a. HasKind (fault_of a (map string_bytes c.args.words.now)) c.in-Err.error) program_is kind))
