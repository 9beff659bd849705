-- Replies that end a transaction by its commit.
use Rattle.std.specs.Prelude.{◌||◌, Bool, List}
use Rattle.svc_values.specs.declared.answer.Answer.{Answer}
use Rattle.svc_values.specs.meaning.Endings.{ends_committed, ends_conflict}

-- a commit was reached and decided: the last answer is Committed or Conflict
abbrev pub ends_decided : List Answer → Bool
ends_decided answers = ends_committed answers || ends_conflict answers
