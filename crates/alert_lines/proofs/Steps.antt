-- One flag more.
use Rattle.std.proofs.Common.{◌≡◌, ℕ, ◌+◌, ◌<◌, List, [], ◌∷◌, ◌++◌, Bool, false, not, ◌&&◌, ◌||◌, length, get_or, take, drop, slice_set, refl, ap, ◌∙◌, sym, arith, append_assoc}
use Rattle.std.proofs.lemmas.List.{drop-drop}
use Rattle.std.proofs.lemmas.Grind.{common_steps, take-set_at}
use Rattle.server_model.specs.meaning.Legal.{Line}
use Rattle.alert_lines.specs.InnerFlags.{is_first, flags_after}

left_is : (flags : List Bool) (i : ℕ) → i < length flags → drop i flags ≡ get_or flags i false ∷ drop (i + 1) flags
left_is flags i within = grind (arith, common_steps)

left_after : (flags : List Bool) (i : ℕ) (flag : Bool) → i < length flags → drop (i + 1) (slice_set flags i flag) ≡ drop (i + 1) flags
left_after flags i flag within = grind (arith, common_steps)

next_left : (alerts : List (List ℕ)) (i : ℕ) → drop 1 (drop i alerts) ≡ drop (i + 1) alerts
next_left alerts i = drop-drop 1 i alerts

pub on : (line : Line) (came : Bool) (flags : List Bool) (alerts : List (List ℕ)) (i : ℕ) → i < length flags
    → take (i + 1) (slice_set flags i (came || (get_or flags i false && not line.is_answered)))
    ++ flags_after line (get_or flags i false && is_first line.text (drop i alerts)) (drop (i + 1) (slice_set flags i (came || (get_or flags i false && not line.is_answered)))) (drop (i + 1) alerts)
    ≡ take i flags ++ flags_after line came (drop i flags) (drop i alerts)
on line came flags alerts i within =
    let might = get_or flags i false in
    let flag = came || (might && not line.is_answered) in
    let next = might && is_first line.text (drop i alerts) in
    ap (λ (front : List Bool). front ++ flags_after line next (drop (i + 1) (slice_set flags i flag)) (drop (i + 1) alerts)) (take-set_at flags i (i + 1) flag refl within)
    ∙ ap (λ (rest : List Bool). (take i flags ++ flag ∷ []) ++ flags_after line next rest (drop (i + 1) alerts)) (left_after flags i flag within)
    ∙ append_assoc (take i flags) (flag ∷ []) (flags_after line next (drop (i + 1) flags) (drop (i + 1) alerts))
    ∙ ap (λ (rest : List (List ℕ)). take i flags ++ flag ∷ flags_after line next (drop (i + 1) flags) rest) (sym (next_left alerts i))
    ∙ ap (λ (rest : List Bool). take i flags ++ flags_after line came rest (drop i alerts)) (sym (left_is flags i within))
