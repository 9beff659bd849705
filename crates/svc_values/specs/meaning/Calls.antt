-- Which work calls there are, and what is a commit.
use Rattle.std.specs.Prelude.{ℕ, ◌+◌, Bool, true, false, ◌&&◌, nat_le, cond, List, [], ◌∷◌, length, sum_by}
use Rattle.svc_values.specs.declared.call.Call.{Call}
use Rattle.svc_values.specs.declared.call.Call.TheVariants as call
use Rattle.svc_values.specs.declared.draw.DrawKind.TheVariants as kind
use Rattle.svc_values.specs.declared.frame.Up.{Up}
use Rattle.svc_values.specs.declared.frame.Up.TheVariants as up
use Rattle.svc_values.specs.declared.statement.Change.{Change}
use Rattle.svc_values.specs.declared.statement.Change.TheVariants as change
use Rattle.svc_values.specs.declared.statement.Operand.{Operand}
use Rattle.svc_values.specs.declared.statement.Operand.TheVariants as operand
use Rattle.svc_values.specs.declared.statement.Statement.{Statement}
use Rattle.svc_values.specs.declared.statement.Statement.TheVariants as statement

-- it ends with a commit
abbrev pub has_commit : Call → Bool
has_commit (call.Work statements commit) = commit
has_commit _ = false

-- it is a commit with no statement before it
abbrev pub is_lone_commit : Call → Bool
is_lone_commit (call.Work [] commit) = commit
is_lone_commit _ = false

-- how many statements, the commit counted
abbrev pub work_length : List Statement → Bool → ℕ
work_length statements commit = length statements + cond commit 1 0

-- one to eight statements, the commit counted; each other call is one as it stands
abbrev pub is_made : Call → Bool
is_made (call.Work statements commit) = nat_le 1 (work_length statements commit)
    && nat_le (work_length statements commit) 8
is_made _ = true

-- the operands in the order in which they are read
abbrev pub operand_of : Change → Operand
operand_of (change.To operand) = operand
operand_of (change.Plus operand) = operand

abbrev pub operands_of : Statement → List Operand
operands_of (statement.Insert table operands) = operands
operands_of (statement.Update table key column by) = key ∷ operand_of by ∷ []
operands_of (statement.Delete table key) = key ∷ []
operands_of (statement.Get table key) = key ∷ []
operands_of (statement.Select table column test operand) = operand ∷ []
operands_of (statement.Count table) = []
operands_of (statement.Sum table column) = []
operands_of (statement.Show operand) = operand ∷ []

-- it is the next value of a sequence
abbrev pub from_sequence : Operand → ℕ
from_sequence (operand.Draw (kind.Seq name)) = 1
from_sequence _ = 0

abbrev pub from_sequences : List Operand → ℕ
from_sequences operands = sum_by from_sequence operands

-- how many operands of a frame's call are the next value of a sequence: none where the frame has no
-- call
abbrev pub sequences_in : Up → ℕ
sequences_in (up.Call replay kept (call.Work statements commit)) =
    sum_by (λ one. from_sequences (operands_of one)) statements
sequences_in _ = 0
