-- The derived equality of pieces is their test.
use Rattle.std.proofs.Common.{◌≡◌, Bool, true, false, ◌&&◌, List, refl, ap, ◌∙◌}
use Rattle.std.proofs.Math.Path.{fun_ext}
use Rattle.std.specs.Cmp.Lexicographic.{pointwise}
use Rattle.svc_values.specs.declared.answer.Answer.{Answer}
use Rattle.svc_values.specs.declared.call.Call.{Call}
use Rattle.svc_values.specs.declared.draw.Draw.{Draw}
use Rattle.svc_values.specs.declared.entry.Piece.{Piece}
use Rattle.svc_values.specs.contracts.answer.AnswerPartialEq.TheImpl.{eq-value as eq-answer}
use Rattle.svc_values.specs.contracts.call.CallPartialEq.TheImpl.{eq-value as eq-call}
use Rattle.svc_values.specs.contracts.draw.DrawPartialEq.TheImpl.{eq-value as eq-draw}
use Rattle.svc_values.specs.contracts.entry.PiecePartialEq.TheImpl.{eq-value as eq-piece}
use Rattle.svc_values.specs.meaning.Same.{same_answer, same_call, same_draw, same_piece}

and_left : (a b c : Bool) → (a && (b && c)) ≡ ((a && b) && c)
and_left true b c = refl
and_left false b c = refl

module _ (calls : eq-call.it ≡ same_call) (answers : eq-answer.it ≡ same_answer) (draws : eq-draw.it ≡ same_draw) where
  piece_here : (a b : Piece) → eq-piece.it a b ≡ same_piece a b
  piece_here a b =
      ap (λ (same : Call → Call → Bool). same a.call b.call && (pointwise eq-answer.it a.answers b.answers && pointwise eq-draw.it a.draws b.draws)) calls
      ∙ ap (λ (same : Answer → Answer → Bool). same_call a.call b.call && (pointwise same a.answers b.answers && pointwise eq-draw.it a.draws b.draws)) answers
      ∙ ap (λ (same : Draw → Draw → Bool). same_call a.call b.call && (pointwise same_answer a.answers b.answers && pointwise same a.draws b.draws)) draws
      ∙ and_left (same_call a.call b.call) (pointwise same_answer a.answers b.answers) (pointwise same_draw a.draws b.draws)

  pub pieces_eq : (a b : List Piece) → pointwise eq-piece.it a b ≡ pointwise same_piece a b
  pieces_eq a b = ap (λ (same : Piece → Piece → Bool). pointwise same a b) (fun_ext (λ x. fun_ext (piece_here x)))
