-- Where the last answer of a call refuses it.
use Rattle.std.specs.Prelude.{Bool, List}
use Rattle.svc_values.specs.declared.answer.Answer.{Answer}
use Rattle.svc_values.specs.meaning.Endings.{ends_with}
use Rattle.stmt_meaning.specs.meaning.Meaning.{is_refusal}

-- the last answer refuses its statement
abbrev pub ends_refused : List Answer → Bool
ends_refused answers = ends_with is_refusal answers
