-- The line that is told on standard error of each end of a run.
use Rattle.std.specs.Prelude.{ℕ, List, [], ◌∷◌, ◌++◌, codes}
use Rattle.std.specs.Fmt.{decimal}
use Rattle.json_form.specs.Codes.{number_of}
use Rattle.program_ends.specs.Words.{word_of}
use Rattle.program_ends.specs.declared.status.Status.{Status}
use Rattle.program_ends.specs.declared.status.Status.TheVariants as status

-- these bytes, and a line end
abbrev pub ended : List ℕ → List ℕ
ended line = line ++ 10 ∷ []

-- Of an answer nothing is told; of what is no document the code's number and the path to the value
-- at fault; of a report the first clause that is false, and the path to its place.
abbrev pub line_of : Status → List ℕ
line_of status.Done = []
line_of status.NoMemory = ended (codes "continuity: no memory")
line_of status.Words = ended (codes "continuity: words")
line_of status.Read = ended (codes "continuity: read")
line_of status.Write = ended (codes "continuity: write")
line_of (status.Document code path) = ended (codes "continuity: document: "
    ++ decimal (number_of code) ++ codes " at " ++ path)
line_of (status.No one path) = ended (codes "continuity: check: " ++ word_of one ++ codes " at "
    ++ path)
