use Rattle.std.proofs.Common.{rules}
use Rattle.command_words.proofs.arguments.behind_name.Goals as goal

pub loop-word-init : goal.loop-word-init
loop-word-init c = search rules
