-- The last answer.
use Rattle.std.proofs.Common.{◌≡◌, suc, ◌-◌, List, [], ◌∷◌, ◌++◌, length, ap, refl, ◌∙◌, arith}
use Rattle.std.specs.Prelude.{Option, Some, None, slice_get}
use Rattle.std.specs.List.{last_or}
use Rattle.svc_values.specs.declared.answer.Answer.{Answer}
use Rattle.svc_values.specs.meaning.Endings.{last_answer}

last_or-next : (answers : List Answer) (before : Option Answer) (a : Answer) → last_or before (answers ++ a ∷ []) ≡ Some a
last_or-next [] before a = refl
last_or-next (x ∷ xs) before a = last_or-next xs (Some x) a

-- the answer that was put last is the last one
pub last_answer-last : (answers : List Answer) (a : Answer) → last_answer (answers ++ a ∷ []) ≡ Some a
last_answer-last answers a = last_or-next answers None a

get_at_end : (a : Answer) (answers : List Answer) (before : Option Answer) → slice_get (a ∷ answers) (length answers) ≡ last_or before (a ∷ answers)
get_at_end a [] before = refl
get_at_end a (x ∷ xs) before = get_at_end x xs (Some a)

-- it stands at the last place
pub last_answer_at : (answers : List Answer) → slice_get answers (length answers - 1) ≡ last_answer answers
last_answer_at [] = refl
last_answer_at (a ∷ answers) = let here : suc (length answers) - 1 ≡ length answers = omega arith in ap (λ i. slice_get (a ∷ answers) i) here ∙ get_at_end a answers None
