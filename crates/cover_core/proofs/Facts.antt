-- The reason that stands after more facts of a request.
use Rattle.std.proofs.Common.{◌≡◌, ℕ, ◌||◌, List, [], ◌∷◌, ◌++◌, Option, Some, None, refl, ap, ◌∙◌}
use Rattle.std.specs.Prelude.{is_some}
use Rattle.std.specs.Option.{option_or}
use Rattle.svc_values.specs.declared.answer.Answer.{Answer}
use Rattle.svc_values.specs.declared.call.Call.{Call}
use Rattle.outage_schedule.specs.declared.document.ServiceOf.{ServiceOf}
use Rattle.shown_clauses.specs.meaning.Facts.{Fact, Submitted, Showed}
use Rattle.shown_clauses.specs.meaning.Reasons.{submission_reason, showing_reason, since_now, reason_from}

or_none : {T : Type 0} (a : Option T) → option_or a None ≡ a
or_none None = refl
or_none (Some x) = refl

or_assoc : {T : Type 0} (a b c : Option T)
    → option_or a (option_or b c) ≡ option_or (option_or a b) c
or_assoc None b c = refl
or_assoc (Some x) b c = refl

pub some_or : {T : Type 0} (a b : Option T) → is_some (option_or a b) ≡ (is_some a || is_some b)
some_or None b = refl
some_or (Some x) b = refl

-- how many calls these facts show since the last one that was decided
abbrev pub since_of : ℕ → List Fact → ℕ
since_of since [] = since
since_of since (Submitted call index tick ∷ facts) = since_of since facts
since_of since (Showed call answers ∷ facts) = since_of (since_now since answers) facts

pub since_submitted : (since : ℕ) (facts : List Fact) (call : Call) (index tick : ℕ)
    → since_of since (facts ++ Submitted call index tick ∷ []) ≡ since_of since facts
since_submitted since [] call index tick = refl
since_submitted since (Submitted a i t ∷ facts) call index tick = since_submitted since facts call index tick
since_submitted since (Showed a answers ∷ facts) call index tick = since_submitted (since_now since answers) facts call index tick

pub since_showed : (since : ℕ) (facts : List Fact) (call : Call) (answers : List Answer)
    → since_of since (facts ++ Showed call answers ∷ []) ≡ since_now (since_of since facts) answers
since_showed since [] call answers = refl
since_showed since (Submitted a i t ∷ facts) call answers = since_showed since facts call answers
since_showed since (Showed a more ∷ facts) call answers = since_showed (since_now since more) facts call answers

module _ (service : ServiceOf) where
  pub reason_submitted : (since : ℕ) (facts : List Fact) (call : Call) (index tick : ℕ)
      → reason_from service since (facts ++ Submitted call index tick ∷ []) ≡ option_or (reason_from service since facts) (submission_reason service call index)
  reason_submitted since [] call index tick = or_none (submission_reason service call index)
  reason_submitted since (Submitted a i t ∷ facts) call index tick =
      ap (option_or (submission_reason service a i)) (reason_submitted since facts call index tick)
      ∙ or_assoc (submission_reason service a i) (reason_from service since facts) (submission_reason service call index)
  reason_submitted since (Showed a more ∷ facts) call index tick =
      ap (option_or (showing_reason service since more)) (reason_submitted (since_now since more) facts call index tick)
      ∙ or_assoc (showing_reason service since more) (reason_from service (since_now since more) facts) (submission_reason service call index)

  pub reason_showed : (since : ℕ) (facts : List Fact) (call : Call) (answers : List Answer)
      → reason_from service since (facts ++ Showed call answers ∷ []) ≡ option_or (reason_from service since facts) (showing_reason service (since_of since facts) answers)
  reason_showed since [] call answers = or_none (showing_reason service since answers)
  reason_showed since (Submitted a i t ∷ facts) call answers =
      ap (option_or (submission_reason service a i)) (reason_showed since facts call answers)
      ∙ or_assoc (submission_reason service a i) (reason_from service since facts) (showing_reason service (since_of since facts) answers)
  reason_showed since (Showed a more ∷ facts) call answers =
      ap (option_or (showing_reason service since more)) (reason_showed (since_now since more) facts call answers)
      ∙ or_assoc (showing_reason service since more) (reason_from service (since_now since more) facts) (showing_reason service (since_of (since_now since more) facts) answers)
