-- What values that are asked for do to the sequences.
use Rattle.std.specs.Prelude.{ℕ, ◌+◌, List, [], ◌∷◌, filter, length, nat_lt, if◌then◌else◌}
use Rattle.svc_values.specs.declared.call.Call.{Call}
use Rattle.svc_values.specs.declared.call.Call.TheVariants as call
use Rattle.svc_values.specs.declared.draw.DrawKind.{DrawKind}
use Rattle.svc_values.specs.declared.statement.Statement.{Statement}
use Rattle.stmt_meaning.specs.meaning.Asked.{asked_by_statement}
use Rattle.server_model.specs.meaning.NewValues.{Count, blocks_for, gave_often, is_of_sequence}

-- how often a value of the sequence is among what is asked for
abbrev pub asks_in : List DrawKind → List ℕ → ℕ
asks_in asked name = length (filter (is_of_sequence name) asked)

-- a sequence of which a stop may have left the blocks that these need
abbrev pub stopped_by : List DrawKind → Count → Count
stopped_by asked count = record count {
  maybe =
      count.maybe + blocks_for (asks_in asked count.name) count.next count.upto;
}

-- a sequence that gave all of these
abbrev pub unseen_by : List DrawKind → Count → Count
unseen_by asked count = gave_often (asks_in asked count.name) count

-- Of the first draws of statements, so many of which are there behind the first few: how many
-- belong to statements whose draws are all there.
abbrev pub whole_from : ℕ → List Statement → ℕ → ℕ
whole_from before [] drawn = before
whole_from before (first ∷ more) drawn = let through =
    before + length (asked_by_statement first) in if nat_lt drawn through then before else
    whole_from through more drawn

abbrev pub whole_in : Call → ℕ → ℕ
whole_in (call.Work statements commit) drawn = whole_from 0 statements drawn
whole_in _ drawn = 0
