-- How the answers of a call end.
use Rattle.std.specs.Prelude.{Bool, true, false, ◌||◌, List, Option, None}
use Rattle.std.specs.List.{last_or}
use Rattle.std.specs.Option.{option_map_or}
use Rattle.svc_values.specs.declared.answer.Answer.{Answer}
use Rattle.svc_values.specs.declared.answer.Answer.TheVariants as answer

abbrev pub is_committed : Answer → Bool
is_committed answer.Committed = true
is_committed _ = false

abbrev pub is_conflict : Answer → Bool
is_conflict answer.Conflict = true
is_conflict _ = false

abbrev pub is_rolled_back : Answer → Bool
is_rolled_back answer.RolledBack = true
is_rolled_back _ = false

-- the last answer, if there is one
abbrev pub last_answer : List Answer → Option Answer
last_answer answers = last_or None answers

-- the last answer is there, and meets the test
abbrev pub ends_with : (Answer → Bool) → List Answer → Bool
ends_with test answers = option_map_or test (last_answer answers) false

abbrev pub ends_committed : List Answer → Bool
ends_committed answers = ends_with is_committed answers

abbrev pub ends_conflict : List Answer → Bool
ends_conflict answers = ends_with is_conflict answers

-- the transaction is over: committed, in conflict or rolled back
abbrev pub ends_transaction : List Answer → Bool
ends_transaction answers = ends_with (λ a. is_committed a || (is_conflict a || is_rolled_back a))
    answers
