-- The words for clauses.
use Rattle.std.specs.Prelude.{ℕ, List, codes}
use Rattle.program_ends.specs.declared.clause.Clause.{Clause}
use Rattle.program_ends.specs.declared.clause.Clause.TheVariants as clause

abbrev pub word_of : Clause → List ℕ
word_of clause.Serial = codes "serial"
word_of clause.Fresh = codes "fresh"
word_of clause.Legal = codes "legal"
word_of clause.Once = codes "once"
word_of clause.Same = codes "same"
word_of clause.Stored = codes "stored"
word_of clause.Whole = codes "whole"
