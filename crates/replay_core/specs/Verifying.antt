-- A replay is ready only where each recorded call was answered as before, in order.
use Rattle.std.specs.Prelude.{ℕ, ◌≡◌, ◌==◌, Bool, true, List, [], ◌∷◌, map, length, Option, Some, None, Result, Ok, Err, if◌then◌else◌}
use Rattle.std.specs.Str.{bytes_eq}
use Rattle.call_recorder.specs.declared.recorded.Recorded.{Recorded}
use Rattle.client_model.specs.meaning.States.{Living, Asking, Repeating, next_of}
use Rattle.client_model.specs.meaning.Told.{repeated}
use Rattle.client_model.specs.meaning.Verifying.{submitted, verified_more}

-- all recorded calls were verified
abbrev pub is_done : Repeating → Bool
is_done state = state.verified == length state.track.recorder.calls

-- a replay that is done is ready, another one is handed back
abbrev pub ready_of : Repeating → Result Living Repeating
ready_of state = if is_done state then Ok (submitted state) else Err state

-- a replay in which the calls were answered with these digests, one after the other
abbrev pub verify_next : Option Recorded → Repeating → List ℕ → Option Repeating
verify_next None state now = None
verify_next (Some one) state now = if bytes_eq one.seen.digest now then
    Some (verified_more state) else None

abbrev pub verify_if : Option Repeating → List (List ℕ) → Option Repeating
verify_if so_far [] = so_far
verify_if None (now ∷ digests) = None
verify_if (Some state) (now ∷ digests) = verify_if (verify_next (next_of state) state now) digests

-- A replay that is done repeated every recorded call, and each had the digest that was recorded.
abbrev pub VerifiesAll : Type 0
VerifiesAll =
    (asked : Asking) (digests : List (List ℕ)) (last : Repeating)
    → verify_if (Some (repeated asked)) digests ≡ Some last → is_done last ≡ true
    → digests ≡ map (λ one. one.seen.digest) asked.track.recorder.calls
