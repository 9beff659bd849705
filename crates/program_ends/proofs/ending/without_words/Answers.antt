use Rattle.std.proofs.Common.{rules}
use Rattle.program_ends.proofs.ending.without_words.Goals as goal

pub returns-in-InvalidData-clause-words : goal.returns-in-InvalidData-clause-words
returns-in-InvalidData-clause-words c = search rules
