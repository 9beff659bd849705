-- A recorder holds what was noted since the last purge.
use Rattle.std.proofs.Common.{◌≡◌, Bool, true, false, List, [], ◌∷◌, ◌++◌, if◌then◌else◌, refl, sym, ap, ◌∙◌, append_assoc, append-nil}
use Rattle.std.specs.Prelude.{fold}
use Rattle.std.specs.List.{list_any}
use Rattle.call_recorder.specs.declared.recorded.Recorded.{Recorded}
use Rattle.call_recorder.specs.meaning.Recording.{Recording}
use Rattle.call_recorder.specs.History.{Did, Noted, Purged, after_one, is_purge, noted_since_purge, HoldsNotedCalls}

-- what is left of the calls that stood there before
abbrev left_of : List Recorded → List Did → List Recorded
left_of calls history = if list_any is_purge history then noted_since_purge history else calls ++ noted_since_purge history

left_of-noted : (calls : List Recorded) (call : Recorded) (later : List Did) → left_of (calls ++ call ∷ []) later ≡ left_of calls (Noted call ∷ later)
left_of-noted calls call later = by (list_any is_purge later)
  where
    by : (purged : Bool)
        → (if purged then noted_since_purge later else (calls ++ call ∷ []) ++ noted_since_purge later)
        ≡ (if purged then (if purged then noted_since_purge later else call ∷ noted_since_purge later) else calls ++ (if purged then noted_since_purge later else call ∷ noted_since_purge later))
    by true = refl
    by false = append_assoc calls (call ∷ []) (noted_since_purge later)

left_of-purged : (calls : List Recorded) (later : List Did) → left_of [] later ≡ left_of calls (Purged ∷ later)
left_of-purged calls later = by (list_any is_purge later)
  where
    by : (purged : Bool) → (if purged then noted_since_purge later else noted_since_purge later) ≡ noted_since_purge later
    by true = refl
    by false = refl

fold-after_one : (recording : Recording) (history : List Did) → fold after_one recording history ≡ record recording { calls = left_of recording.calls history }
fold-after_one recording [] = ap (λ (calls : List Recorded). let r : Recording = record recording { calls = calls } in r) (sym (append-nil recording.calls))
fold-after_one recording (Noted call ∷ later) =
    fold-after_one (record recording { calls = recording.calls ++ call ∷ [] }) later
    ∙ ap (λ (calls : List Recorded). let r : Recording = record recording { calls = calls } in r) (left_of-noted recording.calls call later)
fold-after_one recording (Purged ∷ later) =
    fold-after_one (record recording { calls = [] }) later
    ∙ ap (λ (calls : List Recorded). let r : Recording = record recording { calls = calls } in r) (left_of-purged recording.calls later)

left_of-nothing : (history : List Did) → left_of [] history ≡ noted_since_purge history
left_of-nothing history = by (list_any is_purge history)
  where
    by : (purged : Bool) → (if purged then noted_since_purge history else noted_since_purge history) ≡ noted_since_purge history
    by true = refl
    by false = refl

pub holds_noted_calls : HoldsNotedCalls
holds_noted_calls limit history =
    fold-after_one (record { limit = limit; calls = [] }) history
    ∙ ap (λ (calls : List Recorded). let r : Recording = record { limit = limit; calls = calls } in r) (left_of-nothing history)
