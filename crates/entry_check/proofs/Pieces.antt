-- The pieces of an entry, one after the other.
use Rattle.std.proofs.Common.{◌≡◌, ℕ, ◌+◌, ◌<◌, List, ◌∷◌, length, drop, get_or, map, ◌&&◌, sym, ap, ◌∙◌}
use Rattle.std.proofs.lemmas.List.{drop_more}
use Rattle.svc_values.specs.declared.call.Call.{Call}
use Rattle.svc_values.specs.declared.entry.Piece.{Piece}
use Rattle.svc_values.specs.meaning.Same.{same_call, same_calls}

abbrev pub calls_of : List Piece → List Call
calls_of pieces = map (λ piece. piece.call) pieces

-- one piece and one call
pub calls_on : (pieces : List Piece) (calls : List Call) (i : ℕ) (piece : Piece) (call : Call) → i < length pieces → piece ≡ get_or pieces i piece → i < length calls → call ≡ get_or calls i call
    → same_calls (calls_of (drop i pieces)) (drop i calls) ≡ (same_call piece.call call && same_calls (calls_of (drop (i + 1) pieces)) (drop (i + 1) calls))
calls_on pieces calls i piece call within is within_too is_too =
    ap (λ (left : List Piece). same_calls (calls_of left) (drop i calls)) (drop_more pieces i piece within ∙ ap (λ (one : Piece). one ∷ drop (i + 1) pieces) (sym is))
    ∙ ap (λ (left : List Call). same_calls (calls_of (piece ∷ drop (i + 1) pieces)) left) (drop_more calls i call within_too ∙ ap (λ (one : Call). one ∷ drop (i + 1) calls) (sym is_too))
