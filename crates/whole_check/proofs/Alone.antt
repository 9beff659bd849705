-- A lone answer that is Committed.
use Rattle.std.proofs.Common.{◌≡◌, refl, List, [], ◌∷◌, length, arith}
use Rattle.svc_values.specs.declared.answer.Answer.{Answer}
use Rattle.svc_values.specs.declared.answer.Answer.TheVariants as answer
use Rattle.svc_values.specs.meaning.Endings.{is_committed, ends_committed}
use Rattle.svc_values.specs.meaning.Same.{same_answer, same_answers}
use Rattle.std.specs.Prelude.{◌&&◌, true}

one_is : (a : Answer) → is_committed a ≡ (same_answer a answer.Committed && true)
one_is answer.Committed = refl
one_is (answer.Done n) = refl
one_is (answer.Rows rows) = refl
one_is (answer.Number n) = refl
one_is answer.Conflict = refl
one_is answer.RolledBack = refl
one_is answer.CommitInReplay = refl
one_is (answer.Refused why) = refl

pub alone_is : (answers : List Answer) → length answers ≡ 1 → ends_committed answers ≡ same_answers answers (answer.Committed ∷ [])
alone_is [] long = absurd (omega (arith, long))
alone_is (a ∷ []) long = one_is a
alone_is (a ∷ b ∷ answers) long = absurd (omega (arith, long))
